-- Spelling (RFC 8949, sections 2 and 3): which bytes spell which value, as the least relation with a case for each kind
-- of head. A spelling stands at a level from 1 on: the outer map at 1, what a list, map or tag holds one deeper.
use Rattle.std.specs.Prelude.{◌≡◌, ◌≢◌, ℕ, suc, ◌+◌, ◌*◌, ◌<◌, ◌≤◌, List, [], ◌∷◌, ◌++◌, length, Bool, true, false, Option, Some, None, option_map, if◌then◌else◌}
use Rattle.std.specs.Int.{w16, w32, w64, from_be_bytes}
use Rattle.std.specs.Str.{IsUtf8}
use Rattle.smp_cbor.specs.declared.heads.Head.{Head}
use Rattle.smp_cbor.specs.declared.heads.Head.TheVariants as heads
use Rattle.smp_cbor.specs.Values.{Value, unsigned, negative, octets, text, list, map, boolean, null, other, Values, no_values, value, Pairs, no_pairs, pair, is_among}
use Rattle.smp_cbor.specs.Shortest.{values_count}

-- The low five bits of a first byte, with the bytes after it, give a number, in any width.
pub data Numbers : ℕ → List ℕ → ℕ → Type 0 where
  small : {low : ℕ} → low < 24 → Numbers low [] low
  in_1 : {n : ℕ} → Numbers 24 (n ∷ []) n
  in_2 : {bs : List ℕ} → length bs ≡ 2 → Numbers 25 bs (from_be_bytes w16 bs)
  in_4 : {bs : List ℕ} → length bs ≡ 4 → Numbers 26 bs (from_be_bytes w32 bs)
  in_8 : {bs : List ℕ} → length bs ≡ 8 → Numbers 27 bs (from_be_bytes w64 bs)

-- h is a head of this major type and this number
pub record Numbered (major n : ℕ) (h : List ℕ) : Type 0 where
  pub low : ℕ
  pub bytes : List ℕ
  pub number : Numbers low bytes n
  pub is : h ≡ (32 * major + low) ∷ bytes

-- a simple value other than the truth values and null, or a float
pub record IsSimple (h : List ℕ) : Type 0 where
  pub low : ℕ
  pub bytes : List ℕ
  pub n : ℕ
  pub number : Numbers low bytes n
  pub not_false : low ≢ 20
  pub not_true : low ≢ 21
  pub not_null : low ≢ 22
  pub wide : low ≡ 24 → 32 ≤ n
  pub is : h ≡ (32 * 7 + low) ∷ bytes

-- h is this head, in any width; a list or map without a count goes on to a break
abbrev pub IsHead : List ℕ → Head → Type 0
IsHead h (heads.Unsigned n) = Numbered 0 n h
IsHead h (heads.Negative n) = Numbered 1 n h
IsHead h (heads.Octets n) = Numbered 2 n h
IsHead h (heads.Text n) = Numbered 3 n h
IsHead h (heads.List (Some n)) = Numbered 4 n h
IsHead h (heads.List None) = h ≡ 159 ∷ []
IsHead h (heads.Map (Some n)) = Numbered 5 n h
IsHead h (heads.Map None) = h ≡ 191 ∷ []
IsHead h heads.Tag = (n : ℕ) × Numbered 6 n h
IsHead h (heads.Bool true) = h ≡ 245 ∷ []
IsHead h (heads.Bool false) = h ≡ 244 ∷ []
IsHead h heads.Null = h ≡ 246 ∷ []
IsHead h heads.Other = IsSimple h

-- keys and values by turns, as pairs, where each key is a text that did not come before
abbrev pub as_pairs : List (List ℕ) → Values → Option Pairs
as_pairs seen no_values = Some no_pairs
as_pairs seen (value (text t) (value v vs)) = if is_among t seen then None else option_map (pair t v) (as_pairs (seen ++ t ∷ []) vs)
as_pairs seen (value k vs) = None

-- a map, or other where keys are no texts or not all different
abbrev pub map_or_other : Option Pairs → Value
map_or_other (Some ps) = map ps
map_or_other None = other

-- b spells v where it stands at a level, and c spells the items vs one after another
mutual
  pub data Spells : ℕ → List ℕ → Value → Type 0 where
    unsigned_of : {l n : ℕ} {b : List ℕ} → IsHead b (heads.Unsigned n) → Spells l b (unsigned n)
    negative_of : {l n : ℕ} {b : List ℕ} → IsHead b (heads.Negative n) → Spells l b (negative n)
    octets_of : {l : ℕ} {b t : List ℕ} (h : List ℕ) → IsHead h (heads.Octets (length t)) → b ≡ h ++ t → Spells l b (octets t)
    text_of : {l : ℕ} {b t : List ℕ} (h : List ℕ) → IsHead h (heads.Text (length t)) → IsUtf8 t → b ≡ h ++ t → Spells l b (text t)
    list_of : {l : ℕ} {b : List ℕ} {vs : Values} (h c : List ℕ) → l ≤ 8 → IsHead h (heads.List (Some (values_count vs))) → SpellsEach (suc l) c vs → b ≡ h ++ c → Spells l b (list vs)
    list_to_break : {l : ℕ} {b : List ℕ} {vs : Values} (h c : List ℕ) → l ≤ 8 → IsHead h (heads.List None) → SpellsEach (suc l) c vs → b ≡ h ++ (c ++ 255 ∷ []) → Spells l b (list vs)
    map_of : {l : ℕ} {b : List ℕ} {v : Value} (h c : List ℕ) (n : ℕ) (vs : Values) → l ≤ 8 → IsHead h (heads.Map (Some n)) → SpellsEach (suc l) c vs → values_count vs ≡ n + n → v ≡ map_or_other (as_pairs [] vs) → b ≡ h ++ c → Spells l b v
    map_to_break : {l : ℕ} {b : List ℕ} {v : Value} (h c : List ℕ) (n : ℕ) (vs : Values) → l ≤ 8 → IsHead h (heads.Map None) → SpellsEach (suc l) c vs → values_count vs ≡ n + n → v ≡ map_or_other (as_pairs [] vs) → b ≡ h ++ (c ++ 255 ∷ []) → Spells l b v
    tag_of : {l : ℕ} {b : List ℕ} (h c : List ℕ) (v : Value) → l ≤ 8 → IsHead h heads.Tag → Spells (suc l) c v → b ≡ h ++ c → Spells l b other
    boolean_of : {l : ℕ} {b : List ℕ} {v : Bool} → IsHead b (heads.Bool v) → Spells l b (boolean v)
    null_of : {l : ℕ} {b : List ℕ} → IsHead b heads.Null → Spells l b null
    other_of : {l : ℕ} {b : List ℕ} → IsHead b heads.Other → Spells l b other

  pub data SpellsEach : ℕ → List ℕ → Values → Type 0 where
    nothing : {l : ℕ} → SpellsEach l [] no_values
    one_more : {l : ℕ} {b : List ℕ} {v : Value} {vs : Values} (h c : List ℕ) → Spells l h v → SpellsEach l c vs → b ≡ h ++ c → SpellsEach l b (value v vs)

-- the map that bytes spell: nothing is the empty map, all else one map at level 1
abbrev pub SpellsMap : List ℕ → Pairs → Type 0
SpellsMap [] ps = ps ≡ no_pairs
SpellsMap (x ∷ b) ps = Spells 1 (x ∷ b) (map ps)
