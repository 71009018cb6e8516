-- A generated schedule is lawful.
use Rattle.std.proofs.Common.{◌≡◌, ℕ, zero, suc, ◌%◌, ◌<◌, ◌≤◌, Bool, true, false, List, [], ◌∷◌, length, codes, refl, sym, ap, subst, arith}
use Rattle.std.specs.Prelude.{if◌then◌else◌, ◌==◌, nat_lt, slice_index}
use Rattle.std.specs.Str.{is_utf8}
use Rattle.std.proofs.lemmas.Str.{IsUtf8-from_ascii}
use Rattle.std.specs.List.{list_all}
use Rattle.std.proofs.lemmas.Bool.Decides.{nat_tests}
use Rattle.smp_schedule.specs.declared.event.Which.TheVariants as which
use Rattle.smp_schedule.specs.declared.event.Event.{Event}
use Rattle.smp_schedule.specs.declared.event.Event.TheVariants as events
use Rattle.smp_schedule.specs.Schedules.{clients_after}
use Rattle.smp_schedule.specs.Lawful.{IsBetween, IsEvent, AreEvents, IsLawful}
use Rattle.smp_schedule.specs.Generated.{next_number, drawn, number_after, Generator, generator, small_draw, generated_arm, event_of, kind_of, stepped, generated_after, generated_from, generated}
use Rattle.smp_schedule.proofs.Splitting.{left_true, right_true}
use Rattle.smp_schedule.proofs.Texts.{is_text}
use Rattle.smp_schedule.proofs.ReadLines.{no_line}
use Rattle.smp_schedule.proofs.Drawing.{events_none, events_more}

abbrev is_low : ℕ → Bool
is_low b = nat_lt b 128

-- an event of the one client, which begins no other
record IsOwn (event : Event) : Type 0 where
  pub is : IsEvent 1 event
  pub same : clients_after event 1 ≡ 1

either : (b : Bool) (one other : Event) → IsOwn one → IsOwn other → IsOwn (if b then one else other)
either true one other first second = first
either false one other first second = second

small : (most x : ℕ) → 0 < most → IsBetween 1 most (small_draw most x)
small most x h = let r : drawn x % most < most = omega arith in (omega arith, omega (arith, r))

drawn_small : (x : ℕ) → drawn (next_number x) ≤ 4294967295
drawn_small x = omega arith

number_own : (x : ℕ) → IsBetween 1 4294967295 (small_draw 64 x)
number_own x = let s = small 64 x (omega arith) in (s.0, omega (arith, s.1))

event_own : (r : ℕ) (g : Generator) → IsOwn (event_of r g)
event_own r g =
    either (r == 0) (events.Quiet 1) _ (record { is = (omega arith, omega arith); same = refl })
    (either (r == 1) (events.Up (which.Number (small_draw 64 (next_number g.number)))) _ (record { is = number_own (next_number g.number); same = refl })
    (either (r == 2) (events.Down (which.Number (small_draw 64 (next_number g.number)))) _ (record { is = number_own (next_number g.number); same = refl })
    (either (r == 3) (events.Armed (generated_arm (small_draw 8 (next_number g.number)) (drawn (next_number (next_number g.number))))) _
    (record { is = (let s = small 8 (next_number g.number) (omega arith) in (s.0, omega (arith, s.1)), drawn_small (next_number g.number)); same = refl })
    (either (r == 4) events.Boot _ (record { is = tt; same = refl })
    (either g.replies (events.Down which.New) (events.Up which.New) (record { is = tt; same = refl }) (record { is = tt; same = refl }))))))

events_own : (n : ℕ) (g : Generator) → AreEvents 1 (generated_from n g)
events_own zero g = rw (events_none g) tt
events_own (suc n) g =
    let own = event_own (kind_of g) (stepped g) in
    rw (events_more n g) (own.is, subst (λ (k : ℕ). AreEvents k (generated_from n (generated_after g))) (sym own.same) (events_own n (generated_after g)))

events_count : (n : ℕ) (g : Generator) → length (generated_from n g) ≡ n
events_count zero g = rw (events_none g) refl
events_count (suc n) g = rw (events_more n g) (ap suc (events_count n (generated_after g)))

ascii_bytes : (xs : List ℕ) → list_all is_low xs ≡ true → (i : ℕ) → slice_index xs i < 128
ascii_bytes [] h i = omega arith
ascii_bytes (x ∷ xs) h zero = let low = left_true (is_low x) (list_all is_low xs) h in grind (arith, nat_tests, low)
ascii_bytes (x ∷ xs) h (suc i) = ascii_bytes xs (right_true (is_low x) (list_all is_low xs) h) i

file_is_text : is_utf8 (codes "sample.img") ≡ true
file_is_text = is_text (codes "sample.img") (IsUtf8-from_ascii (codes "sample.img") (ascii_bytes (codes "sample.img") refl))

pub generated_is_lawful : (seed count : ℕ) → count < 100000 → IsLawful (generated seed count)
generated_is_lawful seed count few =
    let g = generator (number_after 4000 seed) false in
    let size = events_count count g in
    record {
      flash = no_line;
      events = ((refl, omega arith, (omega arith, (rw file_is_text refl, refl), (omega arith, omega arith))), events_own count g);
      count = omega (arith, size, few);
    }
