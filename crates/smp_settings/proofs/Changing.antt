-- What a change makes of settings within the limits, and what a cell says of it.
use Rattle.std.proofs.Common.{◌≡◌, ◌≤◌, ◌-◌, ℕ, zero, suc, List, ◌∷◌, ◌++◌, length, take, drop, Bool, true, false, Option, Some, None, refl, sym, ap, ◌∙◌, arith, length-append, append_assoc, if◌then◌else◌}
use Rattle.std.specs.Prelude.{nat_le, replicate}
use Rattle.std.proofs.lemmas.Bool.Decides.{nat_tests}
use Rattle.std.proofs.Math.Seq.{take-append_seam, drop-append_seam}
use Rattle.smp_model.specs.declared.setting.Setting.{Setting}
use Rattle.smp_model.specs.Settings.{setting, stored_setting, written_setting, deleted_setting, is_setting, is_within_limits, is_full, counted_in, next_value, next_name, next_setting}
use Rattle.smp_settings.specs.Cells.{CellChange, Gives, Removes, change_bytes, cell_of, cell_length, is_change, are_zeros, gives_by, removes_by, lawful_only, change_in, changed_by}
use Rattle.smp_settings.proofs.Limits.{limits_of, written_within, written_past, deleted_within}

pub given_full : (name val : List ℕ) (settings : List Setting) → is_within_limits settings ≡ true → is_full name val settings ≡ true
    → changed_by settings (Some (Gives name val)) ≡ None
given_full name val settings h full = ap (λ b. if b then Some (written_setting name val settings) else None) (written_past name val settings h full)

pub given_room : (name val : List ℕ) (settings : List Setting) → is_within_limits settings ≡ true → is_setting (setting name val) ≡ true → is_full name val settings ≡ false
    → length (written_setting name val settings) ≤ 32
given_room name val settings h lawful full = (limits_of (written_setting name val settings) (written_within name val settings h lawful full)).count

pub given_made : (name val : List ℕ) (settings new : List Setting) → is_within_limits settings ≡ true → is_setting (setting name val) ≡ true → is_full name val settings ≡ false
    → new ≡ written_setting name val settings → (changed_by settings (Some (Gives name val)) ≡ Some new) × (is_within_limits new ≡ true)
given_made name val settings new h lawful full e =
    let w = written_within name val settings h lawful full in
    (ap (λ b. if b then Some (written_setting name val settings) else None) w ∙ ap Some (sym e), ap is_within_limits e ∙ w)

pub removed_made : (name : List ℕ) (settings new : List Setting) → is_within_limits settings ≡ true
    → new ≡ deleted_setting name settings → (changed_by settings (Some (Removes name)) ≡ Some new) × (is_within_limits new ≡ true)
removed_made name settings new h e =
    let w = deleted_within name settings h in
    (ap (λ b. if b then Some (deleted_setting name settings) else None) w ∙ ap Some (sym e), ap is_within_limits e ∙ w)

-- a cell is read as what was written
le_more : (xs ys : List ℕ) → nat_le (length xs) (length (xs ++ ys)) ≡ true
le_more xs ys = grind (arith, nat_tests, length-append xs ys)

abbrev parts : List ℕ → List ℕ → Option (List ℕ × List ℕ)
parts xs ys = Some (xs, ys)

same_parts : (a b c d : List ℕ) → a ≡ c → b ≡ d → parts a b ≡ parts c d
same_parts a b c d e f = cc

counted_back : (xs ys : List ℕ) → counted_in (length xs ∷ xs ++ ys) ≡ Some (xs, ys)
counted_back xs ys =
    ap (λ (b : Bool). if b then parts (take (length xs) (xs ++ ys)) (drop (length xs) (xs ++ ys)) else None) (le_more xs ys)
    ∙ same_parts _ _ xs ys (take-append_seam xs ys) (drop-append_seam xs ys)

next_back : (s : Setting) (rest : List ℕ) → next_setting (stored_setting s ++ rest) ≡ Some (s, rest)
next_back s rest =
    ap (λ b. next_name (counted_in (length s.name ∷ b))) (append_assoc s.name (length s.val ∷ s.val) rest)
    ∙ (ap next_name (counted_back s.name (length s.val ∷ s.val ++ rest)) ∙ ap (next_value s.name) (counted_back s.val rest))

zeros : (n : ℕ) → are_zeros (replicate n 0) ≡ true
zeros zero = refl
zeros (suc n) = zeros n

pub read_back : (change : CellChange) → is_change change ≡ true → change_in (cell_of change) ≡ Some change
read_back (Gives name val) h =
    let s = setting name val in
    let n = cell_length - length (change_bytes (Gives name val)) in
    ap (λ o. lawful_only (gives_by o)) (next_back s (replicate n 0))
    ∙ (ap (λ b. lawful_only (if b then Some (Gives name val) else None)) (zeros n) ∙ ap (λ b. if b then Some (Gives name val) else None) h)
read_back (Removes name) h =
    let n = cell_length - length (change_bytes (Removes name)) in
    ap (λ o. lawful_only (removes_by o)) (counted_back name (replicate n 0))
    ∙ (ap (λ b. lawful_only (if b then Some (Removes name) else None)) (zeros n) ∙ ap (λ b. if b then Some (Removes name) else None) h)
