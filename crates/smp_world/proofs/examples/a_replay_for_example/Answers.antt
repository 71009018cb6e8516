use Rattle.std.proofs.Common.{[], ◌∷◌, None, refl}
use Rattle.std.specs.Prelude.{codes}
use Rattle.std.specs.Fmt.{digits}
use Rattle.std.specs.Str.{is_utf8, chars}
use Rattle.hex.specs.Hex.{decode_pairs, encode_with}
use Rattle.smp_cbor.specs.Heads.{head_at, argument_at}
use Rattle.smp_cbor.specs.Shortest.{shortest, short_head}
use Rattle.smp_cbor.specs.Skipping.{text_at, octets_at, skip_at}
use Rattle.smp_cbor.specs.Values.{map_of, distinct_pairs, key_at, pairs_from, value_at}
use Rattle.smp_flash.specs.declared.arm.ArmKind.TheVariants as kinds
use Rattle.smp_flash.specs.declared.arm.Left.TheVariants as lefts
use Rattle.smp_flash.specs.declared.region.Region.TheVariants as regions
use Rattle.smp_jobs.specs.Jobs.{sets}
use Rattle.smp_schedule.specs.declared.event.Event.TheVariants as said
use Rattle.smp_schedule.specs.declared.event.Which.TheVariants as which
use Rattle.smp_schedule.specs.declared.job.JobWords.TheVariants as words
use Rattle.smp_world.specs.Runs.{begins, up, down, quiet, arms, boot, new}
use Rattle.smp_world.specs.Schedules.{default_flash}
use Rattle.smp_world.proofs.StruckExamples.{struck_run}
use Rattle.smp_world.proofs.examples.a_replay_for_example.Goals as goal

pub returns : goal.returns
unfolding decode_pairs encode_with digits shortest short_head map_of head_at argument_at distinct_pairs key_at text_at octets_at is_utf8 chars skip_at pairs_from value_at lib.Utf8.encode
returns c = record {
  schedule = record {
    flash = None;
    events = said.Client 1 (words.Set (record { name = codes "a"; val = 1 ∷ [] } ∷ [])) ∷ said.Up which.New
        ∷ said.Armed (record { kind = kinds.Cut; region = regions.SettingsGate; after = 1; left = lefts.Nothing }) ∷ said.Down which.New ∷ said.Up which.New ∷ said.Boot
        ∷ said.Quiet 1 ∷ said.Up which.New ∷ said.Down which.New ∷ [];
  };
  spelled = refl;
  replay = record {
    flash = default_flash;
    formatted = refl;
    jobs = sets (record { name = codes "a"; val = 1 ∷ [] } ∷ []) ∷ [];
    are_jobs = (refl, tt);
    events = begins (sets (record { name = codes "a"; val = 1 ∷ [] } ∷ [])) ∷ up new
        ∷ arms (record { kind = kinds.Cut; region = regions.SettingsGate; after = 1; left = lefts.Nothing }) ∷ down new ∷ up new ∷ boot ∷ quiet 1 ∷ up new ∷ down new ∷ [];
    are_events = (refl, (refl, (refl, (refl, (refl, (refl, (refl, (refl, (refl, tt)))))))));
    is_transcript = struck_run (record { images = c.steps_need_the_flash.ensures.images; saved = c.steps_need_the_flash.ensures.saved }) _ _ _ _ _ refl;
  };
}
