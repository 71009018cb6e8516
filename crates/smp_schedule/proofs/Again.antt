-- A lawful schedule is read again from its text.
use Rattle.std.proofs.Common.{◌≡◌, ℕ, zero, suc, ◌+◌, ◌<◌, ◌≤◌, true, false, List, [], ◌∷◌, ◌++◌, length, Option, Some, None, Ok, refl, sym, ap, ◌∙◌, subst, arith}
use Rattle.std.specs.Prelude.{◌&&◌, nat_lt}
use Rattle.std.specs.Option.{ForSome, option_to_list}
use Rattle.std.specs.Fmt.{decimal}
use Rattle.std.proofs.lemmas.Bool.Decides.{nat_tests}
use Rattle.smp_flash.specs.Geometry.{is_page, is_unit, are_slot_pages, are_images, is_lawful}
use Rattle.smp_flash.specs.declared.geometry.Geometry.{Geometry}
use Rattle.smp_flash.specs.declared.arm.Arm.{Arm}
use Rattle.smp_flash.specs.declared.arm.ArmKind.{ArmKind}
use Rattle.smp_flash.specs.declared.arm.ArmKind.TheVariants as kinds
use Rattle.smp_flash.specs.declared.arm.Left.{Left}
use Rattle.smp_flash.specs.declared.arm.Left.TheVariants as lefts
use Rattle.smp_model.specs.declared.setting.Setting.{Setting}
use Rattle.smp_schedule.specs.declared.event.Event.{Event}
use Rattle.smp_schedule.specs.declared.event.Event.TheVariants as events
use Rattle.smp_schedule.specs.declared.flash_line.FlashLine.{FlashLine}
use Rattle.smp_schedule.specs.declared.job.JobWords.{JobWords}
use Rattle.smp_schedule.specs.declared.job.JobWords.TheVariants as jobs
use Rattle.smp_schedule.specs.Fields.{lines_of, is_skipped}
use Rattle.smp_schedule.specs.Jobs.{pairs_in, set_with, image_in, job_in}
use Rattle.smp_schedule.specs.Events.{event_in, client_of, arm_of, left_of, geometry, flash_with, flash_in}
use Rattle.smp_schedule.specs.Schedules.{Schedule, schedule, schedule_from, begun, under, events_from, onto_events, event_at, clients_with, clients_after}
use Rattle.smp_schedule.specs.Lawful.{IsBetween, IsField, ArePairs, IsJob, IsLeft, IsArm, IsEvent, AreEvents, IsSecond, IsFlash, IsLawful}
use Rattle.smp_schedule.specs.Written.{line_of, left_words, arm_words, image_words, pair_words, job_words, event_words, flash_words, event_lines, flash_text, schedule_text}
use Rattle.smp_schedule.proofs.Splitting.{AreClear, joined, line_again, fields_again, left_true, right_true}
use Rattle.smp_schedule.proofs.Spelling.{at_most, number_again, decimal_clear, which_again, which_clear, hex_again, hex_clear, value_again, value_clear, word_again, name_again, field_clear, region_again, region_clear, kind_again, kind_clear, ending_again, ending_clear, left_again, left_clear}

below : (a b : ℕ) → a < b → nat_lt a b ≡ true
below a b h = grind (arith, nat_tests)

-- Jobs.

pairs_again : (pairs : List Setting) → ArePairs pairs → pairs_in (pair_words pairs) ≡ Some pairs
pairs_again [] are = refl
pairs_again (pair ∷ pairs) are = rw (name_again 32 pair.name are.0.0, value_again pair.val are.0.1, pairs_again pairs are.1) refl

pairs_clear : (pairs : List Setting) → ArePairs pairs → AreClear (pair_words pairs)
pairs_clear [] are = tt
pairs_clear (pair ∷ pairs) are = (field_clear pair.name are.0.0.0, (value_clear pair.val are.0.1.0, pairs_clear pairs are.1))

set_again : (pairs : List Setting) → IsBetween 1 254 (length pairs) → set_with pairs ≡ Some (jobs.Set pairs)
set_again [] is = absurd (omega (arith, is.0))
set_again (pair ∷ pairs) is = rw (at_most (length pairs) 253 (omega (arith, is.1))) refl

image_again : (image : ℕ) → image ≤ 1 → image_in (image_words image) ≡ Some image
image_again zero h = refl
image_again (suc zero) h = number_again 1 1 1 (omega arith) (omega arith, omega arith)
image_again (suc (suc n)) h = absurd (omega arith)

image_clear : (image : ℕ) → image ≤ 1 → AreClear (image_words image)
image_clear zero h = tt
image_clear (suc zero) h = (decimal_clear 1 (omega arith), tt)
image_clear (suc (suc n)) h = absurd (omega arith)

job_again : (job : JobWords) → IsJob job → job_in (job_words job) ≡ Some job
job_again (jobs.Upload image file chunk ending) is =
    rw (image_again image is.0, word_again file is.1, number_again 32 1900 chunk (omega arith) is.2, ending_again ending) refl
job_again jobs.List is = refl
job_again (jobs.Set pairs) is = rw (pairs_again pairs is.1) (set_again pairs is.0)
job_again (jobs.Put file name) is = rw (word_again file is.0, name_again 64 name is.1) refl
job_again (jobs.Get name) is = rw (name_again 64 name is) refl
job_again (jobs.Echo text) is = rw (name_again 1024 text is) refl

job_clear : (job : JobWords) → IsJob job → AreClear (job_words job)
job_clear (jobs.Upload image file chunk ending) is =
    (refl, (field_clear file is.1, (decimal_clear chunk (omega (arith, is.2.1)), (ending_clear ending, image_clear image is.0))))
job_clear jobs.List is = (refl, tt)
job_clear (jobs.Set pairs) is = (refl, pairs_clear pairs is.1)
job_clear (jobs.Put file name) is = (refl, (field_clear file is.0, (field_clear name is.1.0, tt)))
job_clear (jobs.Get name) is = (refl, (field_clear name is.0, tt))
job_clear (jobs.Echo text) is = (refl, (field_clear text is.0, tt))

-- Events.

left_fields : (kind : ArmKind) (left : Left) → IsLeft kind left → left_of kind (left_words kind left) ≡ Some left
left_fields kinds.Read left is = ap Some (sym is)
left_fields kinds.Cut (lefts.Seed n) is = left_again (lefts.Seed n) is
left_fields kinds.Cut lefts.Nothing is = refl
left_fields kinds.Cut lefts.Whole is = refl
left_fields kinds.Fail (lefts.Seed n) is = left_again (lefts.Seed n) is
left_fields kinds.Fail lefts.Nothing is = refl
left_fields kinds.Fail lefts.Whole is = refl

left_fields_clear : (kind : ArmKind) (left : Left) → IsLeft kind left → AreClear (left_words kind left)
left_fields_clear kinds.Read left is = tt
left_fields_clear kinds.Cut (lefts.Seed n) is = (left_clear (lefts.Seed n) is, tt)
left_fields_clear kinds.Cut lefts.Nothing is = (refl, tt)
left_fields_clear kinds.Cut lefts.Whole is = (refl, tt)
left_fields_clear kinds.Fail (lefts.Seed n) is = (left_clear (lefts.Seed n) is, tt)
left_fields_clear kinds.Fail lefts.Nothing is = (refl, tt)
left_fields_clear kinds.Fail lefts.Whole is = (refl, tt)

arm_again : (arm : Arm) → IsArm arm → arm_of (arm_words arm) ≡ Some arm
arm_again arm is =
    rw (kind_again arm.kind, region_again arm.region, number_again 1 1000000 arm.after (omega arith) is.0, left_fields arm.kind arm.left is.1) refl

client_again : (clients number : ℕ) (job : JobWords) → (number ≡ clients + 1) × (number ≤ 8) × IsJob job
    → client_of clients (decimal number ∷ job_words job) ≡ Some (events.Client number job)
client_again clients number job is =
    rw (
      below clients 8 (omega (arith, is.0, is.1)),
      number_again (clients + 1) (clients + 1) number (omega (arith, is.0, is.1)) (omega (arith, is.0), omega (arith, is.0)),
      job_again job is.2,
    ) refl

event_again : (clients : ℕ) (event : Event) → clients ≤ 8 → IsEvent clients event → event_in clients (event_words event) ≡ Some event
event_again clients (events.Client number job) few is = client_again clients number job is
event_again clients (events.Raw bytes) few is = rw (hex_again 1 4096 bytes is) refl
event_again clients (events.Up packet) few is = rw (which_again packet is) refl
event_again clients (events.Down reply) few is = rw (which_again reply is) refl
event_again clients (events.Quiet number) few is = rw (number_again 1 clients number (omega (arith, few)) is) refl
event_again clients (events.Armed arm) few is = rw (arm_again arm is) refl
event_again clients events.Boot few is = refl

event_clear : (clients : ℕ) (event : Event) → clients ≤ 8 → IsEvent clients event → AreClear (event_words event)
event_clear clients (events.Client number job) few is = (refl, (decimal_clear number (omega (arith, is.1)), job_clear job is.2))
event_clear clients (events.Raw bytes) few is = (refl, (hex_clear bytes is.0, tt))
event_clear clients (events.Up packet) few is = (refl, (which_clear packet is, tt))
event_clear clients (events.Down reply) few is = (refl, (which_clear reply is, tt))
event_clear clients (events.Quiet number) few is = (refl, (decimal_clear number (omega (arith, is.1, few)), tt))
event_clear clients (events.Armed arm) few is =
    (refl, (kind_clear arm.kind, (region_clear arm.region, (decimal_clear arm.after (omega (arith, is.0.1)), left_fields_clear arm.kind arm.left is.1))))
event_clear clients events.Boot few is = (refl, tt)

-- Lines.

has_words : (event : Event) → 0 < length (event_words event)
has_words (events.Client number job) = omega arith
has_words (events.Raw bytes) = omega arith
has_words (events.Up packet) = omega arith
has_words (events.Down reply) = omega arith
has_words (events.Quiet number) = omega arith
has_words (events.Armed arm) = omega arith
has_words events.Boot = omega arith

stands : (event : Event) → is_skipped (joined (event_words event)) ≡ false
stands (events.Client number job) = refl
stands (events.Raw bytes) = refl
stands (events.Up packet) = refl
stands (events.Down reply) = refl
stands (events.Quiet number) = refl
stands (events.Armed arm) = refl
stands events.Boot = refl

no_flash : (event : Event) → flash_in (event_words event) ≡ None
no_flash (events.Client number job) = refl
no_flash (events.Raw bytes) = refl
no_flash (events.Up packet) = refl
no_flash (events.Down reply) = refl
no_flash (events.Quiet number) = refl
no_flash (events.Armed arm) = refl
no_flash events.Boot = refl

still_few : (clients : ℕ) (event : Event) → clients ≤ 8 → IsEvent clients event → clients_after event clients ≤ 8
still_few clients (events.Client number job) few is = is.1
still_few clients (events.Raw bytes) few is = few
still_few clients (events.Up packet) few is = few
still_few clients (events.Down reply) few is = few
still_few clients (events.Quiet number) few is = few
still_few clients (events.Armed arm) few is = few
still_few clients events.Boot few is = few

-- the event of the line that it is written as
line_is_event : (clients count : ℕ) (event : Event) → clients ≤ 8 → count < 100000 → IsEvent clients event
    → event_at clients count (joined (event_words event)) ≡ Some event
line_is_event clients count event few room is =
    rw (below count 100000 room, fields_again (event_words event) (has_words event) (event_clear clients event few is)) (event_again clients event few is)

one_event : (number clients count : ℕ) (event : Event) (line : List ℕ) (lines : List (List ℕ)) (others : List Event) → is_skipped line ≡ false
    → event_at clients count line ≡ Some event → events_from (suc number) (clients_after event clients) (suc count) lines ≡ Ok others
    → events_from number clients count (line ∷ lines) ≡ Ok (event ∷ others)
one_event number clients count event line lines others isnt is later =
    rw isnt (ap (λ (o : Option Event). onto_events number o (events_from (suc number) (clients_with o clients) (suc count) lines)) is
    ∙ ap (onto_events number (Some event)) later)

events_again : (number clients count : ℕ) (es : List Event) → clients ≤ 8 → AreEvents clients es → count + length es ≤ 100000
    → events_from number clients count (lines_of (event_lines es)) ≡ Ok es
events_again number clients count [] few are room = refl
events_again number clients count (event ∷ es) few are room =
    ap (events_from number clients count) (line_again (event_words event) (event_lines es) (event_clear clients event few are.0))
    ∙ one_event number clients count event (joined (event_words event)) (lines_of (event_lines es)) es (stands event)
    (line_is_event clients count event few (omega (arith, room)) are.0)
    (events_again (suc number) (clients_after event clients) (suc count) es (still_few clients event few are.0) are.1 (omega (arith, room)))

-- The flash line.

record Sizes (g : Geometry) : Type 0 where
  pub page : IsBetween 1 4096 g.page
  pub unit : IsBetween 1 8 g.unit
  pub pages : IsBetween 1 1024 g.slot_pages

page_size : (page : ℕ) → is_page page ≡ true → IsBetween 1 4096 page
page_size page h = (grind (arith, nat_tests, h), grind (arith, nat_tests, h))

unit_size : (unit : ℕ) → is_unit unit ≡ true → IsBetween 1 8 unit
unit_size unit h = (grind (arith, nat_tests, h), grind (arith, nat_tests, h))

pages_size : (pages : ℕ) → are_slot_pages pages ≡ true → IsBetween 1 1024 pages
pages_size pages h = (grind (arith, nat_tests, h), grind (arith, nat_tests, h))

sizes : (g : Geometry) → is_lawful g ≡ true → Sizes g
sizes g h =
    let more = right_true (is_page g.page) (is_unit g.unit && (are_slot_pages g.slot_pages && are_images g.images)) h in
    let most = right_true (is_unit g.unit) (are_slot_pages g.slot_pages && are_images g.images) more in
    record {
      page = page_size g.page (left_true (is_page g.page) (is_unit g.unit && (are_slot_pages g.slot_pages && are_images g.images)) h);
      unit = unit_size g.unit (left_true (is_unit g.unit) (are_slot_pages g.slot_pages && are_images g.images) more);
      pages = pages_size g.slot_pages (left_true (are_slot_pages g.slot_pages) (are_images g.images) most);
    }

images_again : (page unit pages images : ℕ) (image : List ℕ) (second : Option (List ℕ)) → is_lawful (geometry page unit pages images) ≡ true → IsField image
    → IsSecond images second → flash_with (Some page) (Some unit) (Some pages) (image ∷ option_to_list second)
    ≡ Some record { geometry = geometry page unit pages images; image = image; second = second }
images_again page unit pages images image None lawful is one =
    let fits : is_lawful (geometry page unit pages 1) ≡ true = subst (λ (n : ℕ). is_lawful (geometry page unit pages n) ≡ true) one lawful in
    rw (word_again image is, fits, one) refl
images_again page unit pages images image (Some second) lawful is two =
    let fits : is_lawful (geometry page unit pages 2) ≡ true = subst (λ (n : ℕ). is_lawful (geometry page unit pages n) ≡ true) two.0 lawful in
    rw (word_again image is, word_again second two.1, fits, two.0) refl

flash_again : (flash : FlashLine) → IsFlash flash → flash_in (flash_words flash) ≡ Some flash
flash_again flash is =
    let g = flash.geometry in
    let most = sizes g is.0 in
    rw (number_again 1 4096 g.page (omega arith) most.page, number_again 1 8 g.unit (omega arith) most.unit, number_again 1 1024 g.slot_pages (omega arith) most.pages)
    (images_again g.page g.unit g.slot_pages g.images flash.image flash.second is.0 is.1 is.2)

second_clear : (images : ℕ) (second : Option (List ℕ)) → IsSecond images second → AreClear (option_to_list second)
second_clear images None is = tt
second_clear images (Some second) is = (field_clear second is.1, tt)

flash_clear : (flash : FlashLine) → IsFlash flash → AreClear (flash_words flash)
flash_clear flash is =
    let g = flash.geometry in
    let most = sizes g is.0 in (
      refl,
      (
        decimal_clear g.page (omega (arith, most.page.1)),
        (
          decimal_clear g.unit (omega (arith, most.unit.1)),
          (decimal_clear g.slot_pages (omega (arith, most.pages.1)), (field_clear flash.image is.1, second_clear g.images flash.second is.2)),
        ),
      ),
    )

with_flash : (flash : FlashLine) (es : List Event) → IsFlash flash → AreEvents 0 es → length es ≤ 100000
    → schedule (line_of (flash_words flash) ++ event_lines es) ≡ Ok record { flash = Some flash; events = es }
with_flash flash es is are room =
    ap (schedule_from 1) (line_again (flash_words flash) (event_lines es) (flash_clear flash is))
    ∙ ap (λ (o : Option FlashLine). begun 1 o (joined (flash_words flash)) (lines_of (event_lines es)))
    (ap flash_in (fields_again (flash_words flash) (omega arith) (flash_clear flash is)) ∙ flash_again flash is)
    ∙ ap (under (Some flash)) (events_again 2 0 0 es (omega arith) are (omega (arith, room)))

without_flash : (es : List Event) → AreEvents 0 es → length es ≤ 100000 → schedule (event_lines es) ≡ Ok record { flash = None; events = es }
without_flash [] are room = refl
without_flash (event ∷ es) are room =
    let line = joined (event_words event) in
    let split = line_again (event_words event) (event_lines es) (event_clear 0 event (omega arith) are.0) in
    ap (schedule_from 1) split
    ∙ rw (stands event)
    (ap (λ (o : Option FlashLine). begun 1 o line (lines_of (event_lines es)))
    (ap flash_in (fields_again (event_words event) (has_words event) (event_clear 0 event (omega arith) are.0)) ∙ no_flash event)
    ∙ ap (under None) (sym (ap (events_from 1 0 0) split) ∙ events_again 1 0 0 (event ∷ es) (omega arith) are (omega (arith, room))))

again : (flash : Option FlashLine) (es : List Event) → ForSome flash IsFlash → AreEvents 0 es → length es ≤ 100000
    → schedule (flash_text flash ++ event_lines es) ≡ Ok record { flash = flash; events = es }
again None es is are room = without_flash es are room
again (Some flash) es is are room = with_flash flash es (is flash refl) are room

pub written_is_read : (s : Schedule) → IsLawful s → schedule (schedule_text s) ≡ Ok s
written_is_read s is = again s.flash s.events is.flash is.events is.count
