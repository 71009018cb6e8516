-- What is drawn one after another.
use Rattle.std.proofs.Common.{◌≡◌, ◌+◌, ◌-◌, ◌<◌, ◌%◌, ℕ, suc, List, [], ◌∷◌, ◌++◌, refl, sym, ap, ◌∙◌, append_assoc, append-nil, arith}
use Rattle.smp_schedule.specs.declared.event.Event.{Event}
use Rattle.smp_schedule.specs.Generated.{next_number, drawn, draws, number_after, Generator, generated_event, generated_after, generated_from}

pub draws_none : (x : ℕ) → draws 0 x ≡ []
unfolding draws
draws_none x = refl

pub draws_more : (n x : ℕ) → draws (suc n) x ≡ drawn (next_number x) % 256 ∷ draws n (next_number x)
unfolding draws
draws_more n x = refl

pub after_none : (x : ℕ) → number_after 0 x ≡ x
unfolding number_after
after_none x = refl

pub after_more : (n x : ℕ) → number_after (suc n) x ≡ number_after n (next_number x)
unfolding number_after
after_more n x = refl

pub events_none : (g : Generator) → generated_from 0 g ≡ []
unfolding generated_from
events_none g = refl

pub events_more : (n : ℕ) (g : Generator) → generated_from (suc n) g ≡ generated_event g ∷ generated_from n (generated_after g)
unfolding generated_from
events_more n g = refl

-- one less to come
left : (i count : ℕ) → i < count → count - i ≡ suc (count - (i + 1))
left i count h = omega arith

pub one_byte : (bytes all : List ℕ) (count i x : ℕ) → i < count → bytes ++ draws (count - i) x ≡ all
    → (bytes ++ drawn (next_number x) % 256 ∷ []) ++ draws (count - (i + 1)) (next_number x) ≡ all
one_byte bytes all count i x h e =
    append_assoc bytes (drawn (next_number x) % 256 ∷ []) (draws (count - (i + 1)) (next_number x))
    ∙ ap (λ (xs : List ℕ). bytes ++ xs) (sym (draws_more (count - (i + 1)) x) ∙ ap (λ (n : ℕ). draws n x) (sym (left i count h))) ∙ e

pub one_number : (all count i x : ℕ) → i < count → number_after (count - i) x ≡ all → number_after (count - (i + 1)) (next_number x) ≡ all
one_number all count i x h e = sym (after_more (count - (i + 1)) x) ∙ ap (λ (n : ℕ). number_after n x) (sym (left i count h)) ∙ e

pub no_bytes : (bytes all : List ℕ) (count i x : ℕ) → count - i ≡ 0 → bytes ++ draws (count - i) x ≡ all → bytes ≡ all
no_bytes bytes all count i x h e = sym (append-nil bytes) ∙ ap (λ (xs : List ℕ). bytes ++ xs) (sym (draws_none x) ∙ ap (λ (n : ℕ). draws n x) (sym h)) ∙ e

pub no_number : (all count i x : ℕ) → count - i ≡ 0 → number_after (count - i) x ≡ all → x ≡ all
no_number all count i x h e = sym (after_none x) ∙ ap (λ (n : ℕ). number_after n x) (sym h) ∙ e

pub one_event : (events all : List Event) (count i : ℕ) (g : Generator) → i < count → events ++ generated_from (count - i) g ≡ all
    → (events ++ generated_event g ∷ []) ++ generated_from (count - (i + 1)) (generated_after g) ≡ all
one_event events all count i g h e =
    append_assoc events (generated_event g ∷ []) (generated_from (count - (i + 1)) (generated_after g))
    ∙ ap (λ (xs : List Event). events ++ xs) (sym (events_more (count - (i + 1)) g) ∙ ap (λ (n : ℕ). generated_from n g) (sym (left i count h))) ∙ e

pub no_events : (events all : List Event) (count i : ℕ) (g : Generator) → count - i ≡ 0 → events ++ generated_from (count - i) g ≡ all → events ≡ all
no_events events all count i g h e =
    sym (append-nil events) ∙ ap (λ (xs : List Event). events ++ xs) (sym (events_none g) ∙ ap (λ (n : ℕ). generated_from n g) (sym h)) ∙ e
