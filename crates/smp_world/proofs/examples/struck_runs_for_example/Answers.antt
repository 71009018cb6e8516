use Rattle.std.proofs.Common.{refl}
use Rattle.std.specs.Fmt.{digits}
use Rattle.std.specs.Str.{is_utf8, chars}
use Rattle.hex.specs.Hex.{decode_pairs, encode_with}
use Rattle.smp_cbor.specs.Heads.{head_at, argument_at}
use Rattle.smp_cbor.specs.Shortest.{shortest, short_head}
use Rattle.smp_cbor.specs.Skipping.{text_at, octets_at, skip_at}
use Rattle.smp_cbor.specs.Values.{map_of, distinct_pairs, key_at, pairs_from, value_at}
use Rattle.smp_world.proofs.StruckExamples.{struck_run}
use Rattle.smp_world.proofs.examples.struck_runs_for_example.Goals as goal

pub returns-clause-cut : goal.returns-clause-cut
unfolding decode_pairs encode_with digits shortest short_head map_of head_at argument_at distinct_pairs key_at text_at octets_at is_utf8 chars skip_at pairs_from value_at lib.Utf8.encode
returns-clause-cut c = struck_run (record { images = c.steps_need_the_flash.ensures.images; saved = c.steps_need_the_flash.ensures.saved }) _ _ _ _ _ refl

pub returns-clause-failed : goal.returns-clause-failed
unfolding decode_pairs encode_with digits shortest short_head map_of head_at argument_at distinct_pairs key_at text_at octets_at is_utf8 chars skip_at pairs_from value_at lib.Utf8.encode
returns-clause-failed c = struck_run (record { images = c.steps_need_the_flash.ensures.images; saved = c.steps_need_the_flash.ensures.saved }) _ _ _ _ _ refl

pub returns-clause-boot_fault : goal.returns-clause-boot_fault
unfolding decode_pairs encode_with digits shortest short_head map_of head_at argument_at distinct_pairs key_at text_at octets_at is_utf8 chars skip_at pairs_from value_at lib.Utf8.encode
returns-clause-boot_fault c = struck_run (record { images = c.steps_need_the_flash.ensures.images; saved = c.steps_need_the_flash.ensures.saved }) _ _ _ _ _ refl
