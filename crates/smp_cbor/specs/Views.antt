-- Lent views of values (RFC 8949, section 2): what a map, a list or an item that lends the bytes shows of them.
use Rattle.std.specs.Prelude.{◌≡◌, ℕ, List, [], ◌∷◌, ◌++◌, map as each_of, option_map, Option, Some, None, Result, if◌then◌else◌}
use Rattle.std.specs.Str.{bytes_eq}
use Rattle.smp_cbor.specs.declared.fault.Stop.{Stop}
use Rattle.smp_cbor.specs.declared.views.Item.{Item}
use Rattle.smp_cbor.specs.declared.views.Item.TheVariants as items
use Rattle.smp_cbor.specs.declared.views.MapView.{MapView}
use Rattle.smp_cbor.specs.declared.views.ListView.{ListView}
use Rattle.smp_cbor.specs.Skipping.{skip_at}
use Rattle.smp_cbor.specs.Values.{Value, unsigned, negative, octets, text, list, map, boolean, null, other, values, pairs, values_from, pairs_from, value_at}

-- the pairs of a map
abbrev pub entries : MapView → List (List ℕ × Value)
entries m = pairs_from m.until_break (skip_at m.depth) (value_at m.depth) m.turns m.bytes.now

-- the values that are left
abbrev pub rest_of : ListView → List Value
rest_of l = values_from l.until_break (skip_at l.depth) (value_at l.depth) l.turns l.bytes.now

abbrev pub value_of : Item → Value
value_of (items.Unsigned n) = unsigned n
value_of (items.Negative n) = negative n
value_of (items.Octets b) = octets b.now
value_of (items.Text t) = text t.now
value_of (items.List l) = list (values (rest_of l))
value_of (items.Map m) = map (pairs (entries m))
value_of (items.Bool b) = boolean b
value_of items.Null = null
value_of items.Other = other

-- the values of items that may be missing
abbrev pub values_of : List (Option Item) → List (Option Value)
values_of items = each_of (option_map value_of) items

-- the value of the first pair that has the key
abbrev pub look_up : List ℕ → List (List ℕ × Value) → Option Value
look_up key [] = None
look_up key (p ∷ ps) = if bytes_eq p.0 key then Some p.1 else look_up key ps

-- the same for each of several keys
abbrev pub look_up_each : List (List ℕ) → List (List ℕ × Value) → List (Option Value)
look_up_each keys ps = each_of (λ key. look_up key ps) keys

-- the first value, or else the second
abbrev pub or_else : Option Value → Option Value → Option Value
or_else (Some v) o = Some v
or_else None o = o

abbrev pub or_else_each : List (Option Value) → List (Option Value) → List (Option Value)
or_else_each (f ∷ fs) (o ∷ os) = or_else f o ∷ or_else_each fs os
or_else_each fs os = []

-- what was found of several keys, after one more pair
abbrev pub noted : List ℕ → Value → List (List ℕ) → List (Option Value) → List (Option Value)
noted key v (k ∷ keys) (f ∷ found) = or_else f (if bytes_eq key k then Some v else None) ∷ noted key v keys found
noted key v keys found = []

-- a part of some bytes, where they lie
abbrev pub IsPart : List ℕ → List ℕ → Type 0
IsPart part whole = (front : List ℕ) × (rest : List ℕ) × (whole ≡ front ++ (part ++ rest))

-- The bytes that are lent, from the first that is read to the end of the data; of a string, its own bytes.
abbrev pub map_bytes : MapView → List ℕ
map_bytes m = m.bytes.now

abbrev pub list_bytes : ListView → List ℕ
list_bytes l = l.bytes.now

-- the bytes behind the first item of a list
abbrev pub after_first : ListView → Result (List ℕ) Stop
after_first l = skip_at l.depth l.bytes.now

abbrev pub item_bytes : Item → List ℕ
item_bytes (items.Octets b) = b.now
item_bytes (items.Text t) = t.now
item_bytes (items.List l) = list_bytes l
item_bytes (items.Map m) = map_bytes m
item_bytes (items.Unsigned n) = []
item_bytes (items.Negative n) = []
item_bytes (items.Bool b) = []
item_bytes items.Null = []
item_bytes items.Other = []
