-- The length of the stored form of settings, as a sum over them.
use Rattle.std.proofs.Common.{◌≡◌, ℕ, ◌+◌, List, [], ◌∷◌, Bool, true, false, length, refl, sym, ap, ◌∙◌, zero-add, arith, length-append, if◌then◌else◌}
use Rattle.std.specs.List.{filter, sum_by, flat_map}
use Rattle.std.proofs.lemmas.List.Sums.{sum_by-cons}
use Rattle.std.proofs.lemmas.List.Concat.{length-flat_map}
use Rattle.std.proofs.lemmas.Grind.{flat_map-append}
use Rattle.std.proofs.lemmas.List.Concat.{flat_map-cons}
use Rattle.smp_model.specs.declared.setting.Setting.{Setting}
use Rattle.smp_model.specs.Named.{comes_before}
use Rattle.smp_model.specs.Settings.{stored_form, stored_setting, written_setting, setting}
use Rattle.smp_plain.specs.Plain.{size_beside}

-- a sum over what passes a test
pub sum_by-filter : {X : Type 0} (f : X → ℕ) (p : X → Bool) (xs : List X) → sum_by f (filter p xs) ≡ sum_by (λ x. if p x then f x else 0) xs
sum_by-filter f p [] = refl
sum_by-filter f p (x ∷ xs) =
    elim (p x) as (λ b. sum_by f (if b then x ∷ filter p xs else filter p xs) ≡ (if b then f x else 0) + sum_by (λ y. if p y then f y else 0) xs) [
      | true ↦ rw (sum_by-cons f x (filter p xs), sum_by-filter f p xs)
      | false ↦ rw (sum_by-filter f p xs) (sym (zero-add _))
    ]
    ∙ sym (sum_by-cons (λ y. if p y then f y else 0) x xs)

-- two sums over the same list
pub sum_by-both : {X : Type 0} (f g : X → ℕ) (xs : List X) → sum_by f xs + sum_by g xs ≡ sum_by (λ x. f x + g x) xs
sum_by-both f g [] = refl
sum_by-both f g (x ∷ xs) =
    rw (sum_by-cons f x xs, sum_by-cons g x xs, sum_by-cons (λ y. f y + g y) x xs, ← (sum_by-both f g xs)) (omega arith)

-- what is stored of the settings that pass a test
length-stored_where : (p : Setting → Bool) (xs : List Setting) → length (flat_map stored_setting (filter p xs)) ≡ sum_by (λ s. if p s then length (stored_setting s) else 0) xs
length-stored_where p xs =
    length-flat_map stored_setting (filter p xs) ∙ sum_by-filter (λ s. length (stored_setting s)) p xs

pub length-stored_form : (name val : List ℕ) (settings : List Setting) → length (stored_form (written_setting name val settings)) ≡ (4 + length name + length val) + sum_by (size_beside name) settings
length-stored_form name val settings =
    let before : List Setting = filter (λ s. comes_before s.name name) settings in
    let behind : List Setting = filter (λ s. comes_before name s.name) settings in
    let own = ap length (flat_map-cons stored_setting (setting name val) behind) in
    let parts = length-append (stored_setting (setting name val)) (flat_map stored_setting behind) in
    let size = length-append (length name ∷ name) (length val ∷ val) in
    let all = ap length (flat_map-append stored_setting before (setting name val ∷ behind)) in
    let two = length-append (flat_map stored_setting before) (flat_map stored_setting (setting name val ∷ behind)) in
    let a = length-stored_where (λ s. comes_before s.name name) settings in
    let b = length-stored_where (λ s. comes_before name s.name) settings in
    let both = sum_by-both (λ s. if comes_before s.name name then length (stored_setting s) else 0) (λ s. if comes_before name s.name then length (stored_setting s) else 0) settings in
    omega (arith, own, parts, size, all, two, a, b, both)
