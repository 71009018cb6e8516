-- Keys that are short ASCII texts, and maps with such keys, all different: those of requests and replies.
use Rattle.std.specs.Prelude.{◌≡◌, ℕ, suc, ◌≤◌, List, [], ◌∷◌, ◌++◌, Bool, true, ◌&&◌, not, nat_lt, nat_le, length}
use Rattle.smp_cbor.specs.Values.{Value, map, pairs, is_among}
use Rattle.smp_cbor.specs.Shortest.{IsText, HasShortest}

abbrev pub all_ascii : List ℕ → Bool
all_ascii [] = true
all_ascii (x ∷ xs) = nat_lt x 128 && all_ascii xs

-- a text of the kind that keys are
abbrev pub is_key : List ℕ → Bool
is_key k = all_ascii k && nat_lt (length k) 24

-- the keys of these pairs are such texts, all different
abbrev pub fresh_keys : (seen : List (List ℕ)) → List (List ℕ × Value) → Bool
fresh_keys seen [] = true
fresh_keys seen (p ∷ ps) = (is_key p.0 && not (is_among p.0 seen)) && fresh_keys (seen ++ p.0 ∷ []) ps

-- the values have a shortest form at a level
abbrev pub EachHas : (level : ℕ) → List (List ℕ × Value) → Type 0
EachHas level [] = Unit {0}
EachHas level (p ∷ ps) = HasShortest level p.1 × EachHas level ps

-- at most nine pairs, with such keys
abbrev pub is_plain : List (List ℕ × Value) → Bool
is_plain ps = nat_le (length ps) 9 && fresh_keys [] ps

-- such a key is a text that can be written
abbrev pub KeysAreTexts : Type 0
KeysAreTexts = (k : List ℕ) → is_key k ≡ true → IsText k

-- a map of such pairs can be written, where its values can
abbrev pub PlainMapsAreWritten : Type 0
PlainMapsAreWritten = (level : ℕ) (ps : List (List ℕ × Value)) → level ≤ 8 → is_plain ps ≡ true → EachHas (suc level) ps → HasShortest level (map (pairs ps))
