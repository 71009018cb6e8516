-- The shortest form (RFC 8949, section 4.1): the one spelling of a value with definite heads of least width.
use Rattle.std.specs.Prelude.{◌≡◌, ℕ, suc, ◌+◌, ◌*◌, ◌^◌, ◌<◌, ◌≤◌, List, [], ◌∷◌, ◌++◌, length, Bool, true, false, nat_lt, if◌then◌else◌}
use Rattle.std.specs.Int.{w16, w32, w64, to_be_bytes}
use Rattle.std.specs.Str.{IsUtf8}
use Rattle.smp_cbor.specs.Values.{Value, unsigned, negative, octets, text, list, map, boolean, null, other, Values, no_values, value, Pairs, no_pairs, pair, is_among}

-- a number in the least width, behind the top three bits of its first byte
abbrev pub number_bytes : ℕ → ℕ → List ℕ
number_bytes top n = if nat_lt n 24 then (top + n) ∷ []
    else if nat_lt n 256 then (top + 24) ∷ n ∷ []
    else if nat_lt n 65536 then (top + 25) ∷ to_be_bytes w16 n
    else if nat_lt n 4294967296 then (top + 26) ∷ to_be_bytes w32 n
    else (top + 27) ∷ to_be_bytes w64 n

-- the head of least width of a major type, with its argument
unfoldable pub short_head : ℕ → ℕ → List ℕ
short_head major n = number_bytes (32 * major) n

-- a text, and a string of bytes, with its head
abbrev pub short_text : List ℕ → List ℕ
short_text t = short_head 3 (length t) ++ t

abbrev pub short_octets : List ℕ → List ℕ
short_octets b = short_head 2 (length b) ++ b

-- a truth value
abbrev pub short_bool : Bool → List ℕ
short_bool true = 245 ∷ []
short_bool false = 244 ∷ []

-- how many items a list has, and how many pairs a map
abbrev pub values_count : Values → ℕ
values_count no_values = 0
values_count (value v vs) = suc (values_count vs)

abbrev pub pairs_count : Pairs → ℕ
pairs_count no_pairs = 0
pairs_count (pair k v ps) = suc (pairs_count ps)

-- The spelling of a value, and of the entries of lists and maps. What is read as `other` has none.
unfoldable mutual
  pub shortest : Value → List ℕ
  shortest (unsigned n) = short_head 0 n
  shortest (negative n) = short_head 1 n
  shortest (octets b) = short_octets b
  shortest (text t) = short_text t
  shortest (list vs) = short_head 4 (values_count vs) ++ shortest_values vs
  shortest (map ps) = short_head 5 (pairs_count ps) ++ shortest_pairs ps
  shortest (boolean b) = short_bool b
  shortest null = 246 ∷ []
  shortest other = []

  pub shortest_values : Values → List ℕ
  shortest_values no_values = []
  shortest_values (value v vs) = shortest v ++ shortest_values vs

  pub shortest_pairs : Pairs → List ℕ
  shortest_pairs no_pairs = []
  shortest_pairs (pair k v ps) = short_text k ++ shortest v ++ shortest_pairs ps

-- a text that a head can announce
abbrev pub IsText : List ℕ → Type 0
IsText t = (length t < 2 ^ 64) × IsUtf8 t

-- A value that has a shortest form at a level: each argument is below 2 ^ 64, each text is UTF-8, no key of a map comes
-- twice, no list or map stands below the eighth level, and nothing is `other`.
unfoldable mutual
  pub HasShortest : ℕ → Value → Type 0
  HasShortest l (unsigned n) = n < 2 ^ 64
  HasShortest l (negative n) = n < 2 ^ 64
  HasShortest l (octets b) = length b < 2 ^ 64
  HasShortest l (text t) = IsText t
  HasShortest l (list vs) = (l ≤ 8) × (values_count vs < 2 ^ 64) × HaveShortest (suc l) vs
  HasShortest l (map ps) = (l ≤ 8) × (pairs_count ps < 2 ^ 64) × PairsHaveShortest (suc l) [] ps
  HasShortest l (boolean b) = Unit {0}
  HasShortest l null = Unit {0}
  HasShortest l other = ⊥

  pub HaveShortest : ℕ → Values → Type 0
  HaveShortest l no_values = Unit {0}
  HaveShortest l (value v vs) = HasShortest l v × HaveShortest l vs

  pub PairsHaveShortest : ℕ → List (List ℕ) → Pairs → Type 0
  PairsHaveShortest l seen no_pairs = Unit {0}
  PairsHaveShortest l seen (pair k v ps) = IsText k × (is_among k seen ≡ false) × HasShortest l v × PairsHaveShortest l (seen ++ k ∷ []) ps
