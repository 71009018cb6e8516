-- Values (RFC 8949, section 2): the tree of values that bytes stand for, and reading it as a function on lists.
use Rattle.std.specs.Prelude.{◌/◌, ℕ, zero, suc, List, [], ◌∷◌, ◌++◌, length, drop, Bool, true, false, ◌&&◌, ◌||◌, Option, is_none, is_ok, Result, Ok, Err, ◌==◌, if◌then◌else◌}
use Rattle.std.specs.Str.{bytes_eq}
use Rattle.smp_cbor.specs.declared.fault.CborKind.TheVariants as kinds
use Rattle.smp_cbor.specs.declared.fault.Stop.{Stop}
use Rattle.smp_cbor.specs.declared.heads.Head.{Head}
use Rattle.smp_cbor.specs.declared.heads.Head.TheVariants as heads
use Rattle.smp_cbor.specs.Heads.{◌>>=◌, head_at}
use Rattle.smp_cbor.specs.Skipping.{stop_at, placed, octets_at, text_at, begins_break, turns, Skip, skip_at}

-- A value. An unsigned n is n, a negative n is -1 - n; texts and keys are their bytes. `other` is a tag, a float, a simple
-- value that has no case here, or a map whose keys are no texts or not all different.
mutual
  pub data Value : Type 0 where
    unsigned : ℕ → Value
    negative : ℕ → Value
    octets : List ℕ → Value
    text : List ℕ → Value
    list : Values → Value
    map : Pairs → Value
    boolean : Bool → Value
    null : Value
    other : Value

  pub data Values : Type 0 where
    no_values : Values
    value : Value → Values → Values

  pub data Pairs : Type 0 where
    no_pairs : Pairs
    pair : List ℕ → Value → Pairs → Pairs

-- the entries of a list or a map, from a list of them
abbrev pub values : List Value → Values
values [] = no_values
values (v ∷ vs) = value v (values vs)

abbrev pub pairs : List (List ℕ × Value) → Pairs
pairs [] = no_pairs
pairs (p ∷ ps) = pair p.0 p.1 (pairs ps)

-- what follows the head of a key: a text, or the fault that the head is
abbrev pub key_body : List ℕ → Head → List ℕ → Result (List ℕ × List ℕ) Stop
key_body b (heads.Text n) r = text_at b n r
key_body b (heads.Unsigned n) r = Err (stop_at b kinds.Key)
key_body b (heads.Negative n) r = Err (stop_at b kinds.Key)
key_body b (heads.Octets n) r = Err (stop_at b kinds.Key)
key_body b (heads.List count) r = Err (stop_at b kinds.Key)
key_body b (heads.Map count) r = Err (stop_at b kinds.Key)
key_body b heads.Tag r = Err (stop_at b kinds.Key)
key_body b (heads.Bool v) r = Err (stop_at b kinds.Key)
key_body b heads.Null r = Err (stop_at b kinds.Key)
key_body b heads.Other r = Err (stop_at b kinds.Key)

-- a key of a map, and the bytes after it
unfoldable pub key_at : List ℕ → Result (List ℕ × List ℕ) Stop
key_at b = placed b (head_at b) >>= λ h. key_body b h.0 h.1

-- whether a key came before
abbrev pub is_among : List ℕ → List (List ℕ) → Bool
is_among key [] = false
is_among key (k ∷ ks) = bytes_eq k key || is_among key ks

-- the bytes after so many pairs, or pairs up to a break, whose keys are texts, none of them seen before
unfoldable pub distinct_pairs : Bool → Skip → List (List ℕ) → ℕ → Skip
distinct_pairs ends skip seen zero b = if ends then Err (stop_at b kinds.Short) else Ok b
distinct_pairs ends skip seen (suc k) b = if ends && begins_break b then Ok (drop 1 b) else
    (key_at b >>= λ x. if is_among x.0 seen then Err (stop_at b kinds.Repeated) else (skip x.1 >>= distinct_pairs ends skip (seen ++ x.0 ∷ []) k))

-- the bytes after the pairs of one map
abbrev pub map_pairs : ℕ → Option ℕ → Skip
map_pairs d count b = distinct_pairs (is_none count) (skip_at d) [] (turns count b) b

-- none, where reading is refused
abbrev pub or_nil : {A B : Type 0} → Result A Stop → (A → List B) → List B
or_nil (Ok x) f = f x
or_nil (Err e) f = []

-- the keys of so many pairs
unfoldable pub first_keys : Skip → ℕ → List ℕ → List (List ℕ)
first_keys skip zero b = []
first_keys skip (suc k) b = or_nil (key_at b) (λ x. x.0 ∷ or_nil (skip x.1) (first_keys skip k))

-- the values of so many entries, or of entries up to a break, as far as they can be read
unfoldable pub values_from : Bool → Skip → (List ℕ → Value) → ℕ → List ℕ → List Value
values_from ends skip one zero b = []
values_from ends skip one (suc k) b = if ends && begins_break b then [] else
    or_nil (skip b) (λ r. one b ∷ values_from ends skip one k r)

unfoldable pub pairs_from : Bool → Skip → (List ℕ → Value) → ℕ → List ℕ → List (List ℕ × Value)
pairs_from ends skip one zero b = []
pairs_from ends skip one (suc k) b = if ends && begins_break b then [] else
    or_nil (key_at b) (λ x. (x.0, one x.1) ∷ or_nil (skip x.1) (pairs_from ends skip one k))

-- a map whose keys are texts that differ, or a map that is other
abbrev pub map_value : Bool → List (List ℕ × Value) → Value
map_value true ps = map (pairs ps)
map_value false ps = other

-- other, where reading is refused: no caller sees such a value of bytes that were tested
abbrev pub or_other : {A : Type 0} → Result A Stop → (A → Value) → Value
or_other (Ok x) f = f x
or_other (Err e) f = other

-- the value of a head with what follows it; no list or map where no level may open
abbrev pub leaf_value : List ℕ → Head → List ℕ → Value
leaf_value b (heads.Unsigned n) r = unsigned n
leaf_value b (heads.Negative n) r = negative n
leaf_value b (heads.Octets n) r = or_other (octets_at b n r) (λ x. octets x.0)
leaf_value b (heads.Text n) r = or_other (text_at b n r) (λ x. text x.0)
leaf_value b (heads.List count) r = other
leaf_value b (heads.Map count) r = other
leaf_value b heads.Tag r = other
leaf_value b (heads.Bool v) r = boolean v
leaf_value b heads.Null r = null
leaf_value b heads.Other r = other

-- the values of a list and the pairs of a map, behind its head
abbrev pub list_values : ℕ → (List ℕ → Value) → Option ℕ → List ℕ → List Value
list_values d one count r = values_from (is_none count) (skip_at d) one (turns count r) r

abbrev pub map_entries : ℕ → (List ℕ → Value) → Option ℕ → List ℕ → List (List ℕ × Value)
map_entries d one count r = pairs_from (is_none count) (skip_at d) one (turns count r) r

-- the value of a head with what follows it, where levels may open: one gives the value of an item inside
abbrev pub inner_value : ℕ → (List ℕ → Value) → List ℕ → Head → List ℕ → Value
inner_value d one b (heads.List count) r = list (values (list_values d one count r))
inner_value d one b (heads.Map count) r = map_value (is_ok (map_pairs d count r)) (map_entries d one count r)
inner_value d one b (heads.Unsigned n) r = unsigned n
inner_value d one b (heads.Negative n) r = negative n
inner_value d one b (heads.Octets n) r = or_other (octets_at b n r) (λ x. octets x.0)
inner_value d one b (heads.Text n) r = or_other (text_at b n r) (λ x. text x.0)
inner_value d one b heads.Tag r = other
inner_value d one b (heads.Bool v) r = boolean v
inner_value d one b heads.Null r = null
inner_value d one b heads.Other r = other

-- the value of the item at the front
unfoldable pub value_at : ℕ → List ℕ → Value
value_at zero b = or_other (placed b (head_at b)) (λ h. leaf_value b h.0 h.1)
value_at (suc d) b = or_other (placed b (head_at b)) (λ h. inner_value d (value_at d) b h.0 h.1)

-- what skip leaves must be nothing
abbrev pub whole : List ℕ → Skip → List ℕ → Result (List ℕ) Stop
whole b skip r = skip r >>= λ rest. if length rest == 0 then Ok r else Err (stop_at rest kinds.Trailing)

abbrev pub map_body : List ℕ → Head → List ℕ → Result (List (List ℕ × Value)) Stop
map_body b (heads.Map count) r = whole b (map_pairs 7 count) r >>= λ r. Ok (map_entries 7 (value_at 7) count r)
map_body b (heads.Unsigned n) r = Err (stop_at b kinds.NotAMap)
map_body b (heads.Negative n) r = Err (stop_at b kinds.NotAMap)
map_body b (heads.Octets n) r = Err (stop_at b kinds.NotAMap)
map_body b (heads.Text n) r = Err (stop_at b kinds.NotAMap)
map_body b (heads.List count) r = Err (stop_at b kinds.NotAMap)
map_body b heads.Tag r = Err (stop_at b kinds.NotAMap)
map_body b (heads.Bool v) r = Err (stop_at b kinds.NotAMap)
map_body b heads.Null r = Err (stop_at b kinds.NotAMap)
map_body b heads.Other r = Err (stop_at b kinds.NotAMap)

-- the map that the bytes spell, or the first fault
unfoldable pub map_of : List ℕ → Result (List (List ℕ × Value)) Stop
map_of [] = Ok []
map_of (x ∷ xs) = if (x / 32) == 5 then (placed (x ∷ xs) (head_at (x ∷ xs)) >>= λ h. map_body (x ∷ xs) h.0 h.1) else Err (stop_at (x ∷ xs) kinds.NotAMap)
