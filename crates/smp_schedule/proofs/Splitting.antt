-- Lines and fields that were joined are found again where no byte of a field is a space or below.
use Rattle.std.proofs.Common.{◌≡◌, ℕ, ◌<◌, ◌≤◌, Bool, true, false, List, [], ◌∷◌, ◌++◌, length, refl, ap, ◌∙◌, arith, append_assoc, append-nil}
use Rattle.std.specs.Prelude.{nat_le, ◌&&◌}
use Rattle.std.specs.List.{list_all}
use Rattle.std.proofs.lemmas.Bool.Decides.{nat_tests}
use Rattle.smp_schedule.specs.Fields.{lines_of, fields_of, onto_first}
use Rattle.smp_schedule.specs.Written.{ended, line_of}
use Rattle.smp_schedule.proofs.Cuts.{other_byte, other_field}

-- a byte above the space
abbrev pub is_clear : ℕ → Bool
is_clear b = nat_le 33 b

abbrev pub IsClear : List ℕ → Type 0
IsClear bytes = list_all is_clear bytes ≡ true

abbrev pub AreClear : List (List ℕ) → Type 0
AreClear [] = Unit {0}
AreClear (field ∷ fields) = IsClear field × AreClear fields

pub left_true : (a b : Bool) → (a && b) ≡ true → a ≡ true
left_true true b h = refl
left_true false b h = absurd cc

pub right_true : (a b : Bool) → (a && b) ≡ true → b ≡ true
right_true true b h = h
right_true false b h = absurd cc

pub both_true : (a b : Bool) → a ≡ true → b ≡ true → (a && b) ≡ true
both_true true b h k = k
both_true false b h k = absurd cc

above : (b : ℕ) → is_clear b ≡ true → 33 ≤ b
above b h = grind (arith, nat_tests, h)

-- fields with a space in front of each
abbrev pub spaced : List (List ℕ) → List ℕ
spaced [] = []
spaced (field ∷ fields) = 32 ∷ field ++ spaced fields

line_front : (x text line : List ℕ) (lines : List (List ℕ)) → IsClear x → lines_of text ≡ line ∷ lines → lines_of (x ++ text) ≡ (x ++ line) ∷ lines
line_front [] text line lines clear is = is
line_front (b ∷ x) text line lines clear is =
    let big = above b (left_true (is_clear b) (list_all is_clear x) clear) in
    other_byte b (x ++ text) (λ e. omega (arith, big, e))
    ∙ ap (onto_first b) (line_front x text line lines (right_true (is_clear b) (list_all is_clear x) clear) is)

ended_line : (fields : List (List ℕ)) (rest : List ℕ) → AreClear fields → lines_of (ended fields ++ rest) ≡ spaced fields ∷ lines_of rest
ended_line [] rest clear = refl
ended_line (field ∷ fields) rest clear =
    ap (λ (text : List ℕ). onto_first 32 (lines_of text)) (append_assoc field (ended fields) rest)
    ∙ ap (onto_first 32) (line_front field (ended fields ++ rest) (spaced fields) (lines_of rest) clear.0 (ended_line fields rest clear.1))

-- a line without its end
abbrev pub joined : List (List ℕ) → List ℕ
joined [] = []
joined (field ∷ fields) = field ++ spaced fields

-- the first line of a text
pub line_again : (fields : List (List ℕ)) (rest : List ℕ) → AreClear fields → lines_of (line_of fields ++ rest) ≡ joined fields ∷ lines_of rest
line_again [] rest clear = refl
line_again (field ∷ fields) rest clear =
    ap lines_of (append_assoc field (ended fields) rest)
    ∙ line_front field (ended fields ++ rest) (spaced fields) (lines_of rest) clear.0 (ended_line fields rest clear.1)

field_front : (x text field : List ℕ) (fields : List (List ℕ)) → IsClear x → fields_of text ≡ field ∷ fields → fields_of (x ++ text) ≡ (x ++ field) ∷ fields
field_front [] text field fields clear is = is
field_front (b ∷ x) text field fields clear is =
    let big = above b (left_true (is_clear b) (list_all is_clear x) clear) in
    other_field b (x ++ text) (λ e. omega (arith, big, e))
    ∙ ap (onto_first b) (field_front x text field fields (right_true (is_clear b) (list_all is_clear x) clear) is)

-- the fields of a line
pub fields_again : (fields : List (List ℕ)) → 0 < length fields → AreClear fields → fields_of (joined fields) ≡ fields
fields_again [] some clear = absurd (omega (arith, some))
fields_again (field ∷ []) some clear = field_front field [] [] [] clear.0 refl ∙ ap (λ (f : List ℕ). f ∷ []) (append-nil field)
fields_again (field ∷ next ∷ fields) some clear =
    field_front field (spaced (next ∷ fields)) [] (next ∷ fields) clear.0
    (ap (λ (fs : List (List ℕ)). [] ∷ fs) (fields_again (next ∷ fields) (omega arith) clear.1))
    ∙ ap (λ (f : List ℕ). f ∷ next ∷ fields) (append-nil field)
