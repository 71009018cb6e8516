-- The schedule that is generated of a seed: an upload, and events by draws. Draws are those of a linear congruential generator.
use Rattle.std.specs.Prelude.{ℕ, zero, suc, ◌+◌, ◌*◌, ◌/◌, ◌%◌, ◌^◌, ◌==◌, if◌then◌else◌, Bool, false, not, List, [], ◌∷◌, codes, None}
use Rattle.smp_flash.specs.declared.arm.Arm.{Arm}
use Rattle.smp_flash.specs.declared.arm.ArmKind.TheVariants as kinds
use Rattle.smp_flash.specs.declared.arm.Left.TheVariants as lefts
use Rattle.smp_flash.specs.declared.region.Region.TheVariants as regions
use Rattle.smp_model.specs.declared.upload.Ending.TheVariants as endings
use Rattle.smp_schedule.specs.declared.event.Which.TheVariants as which
use Rattle.smp_schedule.specs.declared.event.Event.{Event}
use Rattle.smp_schedule.specs.declared.event.Event.TheVariants as events
use Rattle.smp_schedule.specs.declared.job.JobWords.TheVariants as jobs
use Rattle.smp_schedule.specs.Schedules.{Schedule}

-- the number behind a number, and the draw that it gives: its upper 16 bits
abbrev pub next_number : ℕ → ℕ
next_number x = (x * 1664525 + 1013904223) % 2 ^ 32

abbrev pub drawn : ℕ → ℕ
drawn x = x / 65536

-- so many draws modulo 256, from a number on
unfoldable pub draws : ℕ → ℕ → List ℕ
draws zero x = []
draws (suc n) x = drawn (next_number x) % 256 ∷ draws n (next_number x)

-- the number after so many draws
unfoldable pub number_after : ℕ → ℕ → ℕ
number_after zero x = x
number_after (suc n) x = number_after n (next_number x)

-- the payload of the image that is uploaded
abbrev pub generated_payload : ℕ → List ℕ
generated_payload seed = draws 4000 seed

-- where the generator stands: its number, and whether a reply is due, since packets and replies go by turns
pub record Generator : Type 0 where
  pub number : ℕ
  pub replies : Bool

abbrev pub generator : ℕ → Bool → Generator
generator number replies = record { number = number; replies = replies }

abbrev pub small_draw : ℕ → ℕ → ℕ
small_draw most x = 1 + drawn x % most

abbrev pub generated_arm : ℕ → ℕ → Arm
generated_arm after left = record { kind = kinds.Cut; region = regions.Any; after = after; left = lefts.Seed left }

-- the event of a draw, where the generator stands behind it
abbrev pub event_of : ℕ → Generator → Event
event_of r g =
    if r == 0 then events.Quiet 1
    else if r == 1 then events.Up (which.Number (small_draw 64 (next_number g.number)))
    else if r == 2 then events.Down (which.Number (small_draw 64 (next_number g.number)))
    else if r == 3 then events.Armed (generated_arm (small_draw 8 (next_number g.number)) (drawn (next_number (next_number g.number))))
    else if r == 4 then events.Boot
    else if g.replies then events.Down which.New
    else events.Up which.New

-- and the generator behind that event
abbrev pub after_event : ℕ → Generator → Generator
after_event r g =
    if r == 0 then g
    else if r == 1 then generator (next_number g.number) g.replies
    else if r == 2 then generator (next_number g.number) g.replies
    else if r == 3 then generator (next_number (next_number g.number)) g.replies
    else if r == 4 then g
    else generator g.number (not g.replies)

abbrev pub stepped : Generator → Generator
stepped g = generator (next_number g.number) g.replies

abbrev pub kind_of : Generator → ℕ
kind_of g = drawn (next_number g.number) % 16

abbrev pub generated_event : Generator → Event
generated_event g = event_of (kind_of g) (stepped g)

abbrev pub generated_after : Generator → Generator
generated_after g = after_event (kind_of g) (stepped g)

unfoldable pub generated_from : ℕ → Generator → List Event
generated_from zero g = []
generated_from (suc n) g = generated_event g ∷ generated_from n (generated_after g)

-- the first event: a client uploads the image
abbrev pub generated_client : Event
generated_client = events.Client 1 (jobs.Upload 0 (codes "sample.img") 240 endings.Test)

-- the schedule of a seed, with so many events behind its client's line
abbrev pub generated : ℕ → ℕ → Schedule
generated seed count = record {
  flash = None;
  events = generated_client ∷ generated_from count (generator (number_after 4000 seed) false);
}
