-- A job has at most 509 words.
use Rattle.std.proofs.Common.{◌≡◌, ◌≤◌, ◌<◌, ◌+◌, ℕ, suc, List, [], ◌∷◌, length, Bool, true, false, Option, Some, None, refl, sym, ap, ◌∙◌, arith}
use Rattle.std.specs.Prelude.{if◌then◌else◌, nat_le, nat_lt}
use Rattle.std.specs.Option.{option_and_then}
use Rattle.std.proofs.lemmas.Bool.Decides.{nat_tests}
use Rattle.smp_model.specs.declared.setting.Setting.{Setting}
use Rattle.smp_schedule.specs.declared.event.Event.{Event}
use Rattle.smp_schedule.specs.declared.job.JobWords.{JobWords}
use Rattle.smp_schedule.specs.Fields.{only}
use Rattle.smp_schedule.specs.Words.{name_in, number_in}
use Rattle.smp_schedule.specs.Jobs.{upload_in, list_in, value_in, pair_in, pairs_in, with_pair, set_with, set_in, put_in, get_in, echo_in, job_in}
use Rattle.smp_schedule.specs.Events.{client_with, client_of}

-- a pair in front of others
one_more : (p : Option Setting) (o : Option (List Setting)) (pairs : List Setting) → with_pair p o ≡ Some pairs
    → (others : List Setting) × (o ≡ Some others) × (length pairs ≡ suc (length others))
one_more None None pairs h = absurd cc
one_more None (Some others) pairs h = absurd cc
one_more (Some p) None pairs h = absurd cc
one_more (Some p) (Some others) pairs h = let is : (p ∷ others) ≡ pairs = cc in (others, refl, ap length (sym is))

-- two words for each setting
two_each : (words : List (List ℕ)) (pairs : List Setting) → pairs_in words ≡ Some pairs → length words ≡ length pairs + length pairs
two_each [] pairs h = let is : [] ≡ pairs = cc in ap (λ (ps : List Setting). length ps + length ps) is
two_each (name ∷ []) pairs h = absurd cc
two_each (name ∷ val ∷ words) pairs h =
    let more = one_more (pair_in (name_in 32 name) (value_in val)) (pairs_in words) pairs h in
    let rest : length words ≡ length more.0 + length more.0 = two_each words more.0 more.1 in
    let one : length pairs ≡ suc (length more.0) = more.2 in
    omega arith

too_many : (pairs : List Setting) → 509 ≤ length pairs + length pairs → set_with pairs ≡ None
too_many [] h = refl
too_many (pair ∷ pairs) h = let no : nat_le (length pairs) 253 ≡ false = grind (arith, nat_tests) in rw no refl

long_pairs : (words : List (List ℕ)) (o : Option (List Setting)) → pairs_in words ≡ o → 509 ≤ length words → option_and_then set_with o ≡ None
long_pairs words None e h = refl
long_pairs words (Some pairs) e h = let two : length words ≡ length pairs + length pairs = two_each words pairs e in too_many pairs (omega arith)

long_set : (words : List (List ℕ)) → 509 ≤ length words → set_in words ≡ None
long_set words h = long_pairs words (pairs_in words) refl h

long_upload : (words : List (List ℕ)) → 509 ≤ length words → upload_in words ≡ None
long_upload [] h = refl
long_upload (a ∷ []) h = refl
long_upload (a ∷ b ∷ []) h = refl
long_upload (a ∷ b ∷ c ∷ []) h = absurd (omega arith)
long_upload (a ∷ b ∷ c ∷ d ∷ []) h = absurd (omega arith)
long_upload (a ∷ b ∷ c ∷ d ∷ e ∷ words) h = refl

long_list : (words : List (List ℕ)) → 509 ≤ length words → list_in words ≡ None
long_list [] h = absurd (omega arith)
long_list (a ∷ words) h = refl

long_put : (words : List (List ℕ)) → 509 ≤ length words → put_in words ≡ None
long_put [] h = refl
long_put (a ∷ []) h = refl
long_put (a ∷ b ∷ []) h = absurd (omega arith)
long_put (a ∷ b ∷ c ∷ words) h = refl

long_only : (words : List (List ℕ)) → 509 ≤ length words → only words ≡ None
long_only [] h = refl
long_only (a ∷ []) h = absurd (omega arith)
long_only (a ∷ b ∷ words) h = refl

long_get : (words : List (List ℕ)) → 509 ≤ length words → get_in words ≡ None
long_get words h = rw (long_only words h) refl

long_echo : (words : List (List ℕ)) → 509 ≤ length words → echo_in words ≡ None
long_echo words h = rw (long_only words h) refl

either : (b : Bool) (one other : Option JobWords) → one ≡ None → other ≡ None → (if b then one else other) ≡ None
either true one other h k = h
either false one other h k = k

pub no_job : (words : List (List ℕ)) → 509 < length words → job_in words ≡ None
no_job [] h = refl
no_job (word ∷ words) h =
    let many : 509 ≤ length words = omega arith in
    either _ _ _ (long_upload words many)
    (either _ _ _ (long_list words many)
    (either _ _ _ (long_set words many)
    (either _ _ _ (long_put words many)
    (either _ _ _ (long_get words many)
    (either _ _ _ (long_echo words many) refl)))))

-- so a line with more is no event
pub no_client : (number : Option ℕ) (words : List (List ℕ)) → 509 < length words → client_with number (job_in words) ≡ None
no_client None words h = refl
no_client (Some n) words h = ap (client_with (Some n)) (no_job words h)

unless : (b : Bool) (event : Option Event) → event ≡ None → (if b then event else None) ≡ None
unless true event h = h
unless false event h = refl

pub refused_client : (clients : ℕ) (fields words : List (List ℕ)) (number : List ℕ) → fields ≡ number ∷ words → 509 < length words → None ≡ client_of clients fields
refused_client clients fields words number e h =
    sym (ap (client_of clients) e ∙ unless (nat_lt clients 8) _ (no_client (number_in (clients + 1) (clients + 1) number) words h))
