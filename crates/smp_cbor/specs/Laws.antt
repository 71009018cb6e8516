-- Laws of spellings, of their faults and of the shortest form (RFC 8949, sections 3, 4.1 and 5.3), each the clause of a function in src/laws.rt.
use Rattle.std.specs.Prelude.{◌≡◌, ◌≢◌, ◌⊎◌, ℕ, ◌+◌, ◌<◌, ◌≤◌, List, [], ◌++◌, length, take, Some, Ok}
use Rattle.smp_cbor.specs.declared.fault.CborKind.{CborKind}
use Rattle.smp_cbor.specs.declared.fault.CborKind.TheVariants as kinds
use Rattle.smp_cbor.specs.Values.{Value, text, map, Pairs, pairs, map_of}
use Rattle.smp_cbor.specs.Shortest.{short_head, short_text, shortest, HasShortest}
use Rattle.smp_cbor.specs.Spelling.{Numbered, Spells, SpellsMap}
use Rattle.smp_cbor.specs.Views.{look_up}
use Rattle.smp_cbor.specs.Faults.{IsFirstFault}

-- No spelling is a proper front of another, whatever their levels, and bytes spell one value at most.
abbrev pub SpellingsEnd : Type 0
SpellingsEnd = (l m : ℕ) (front rest : List ℕ) (v w : Value) → Spells l front v → Spells m (front ++ rest) w → (rest ≡ []) × (v ≡ w)

-- bytes have one first fault at most
abbrev pub HasOneFault : List ℕ → Type 0
HasOneFault b = (at at' : ℕ) (kind kind' : CborKind) → IsFirstFault b at kind → IsFirstFault b at' kind' → (at ≡ at') × (kind ≡ kind')

-- bytes that spell a map have no fault
abbrev pub HasNoFaultWhereMap : List ℕ → Type 0
HasNoFaultWhereMap b = (ps : Pairs) (at : ℕ) (kind : CborKind) → SpellsMap b ps → IsFirstFault b at kind → ⊥

-- Before the first fault nothing is wrong: the data up to there is a map, or lacks only what is due at its end.
abbrev pub HasSoundFront : List ℕ → Type 0
HasSoundFront b = (at : ℕ) (kind : CborKind) → IsFirstFault b at kind → 0 < at → ((ps : Pairs) × SpellsMap (take at b) ps) ⊎ IsFirstFault (take at b) at kinds.Short

-- A fault that is no want of bytes stays, whatever follows: no spelling can go on there.
abbrev pub HasLastingFault : List ℕ → List ℕ → Type 0
HasLastingFault b rest = (at : ℕ) (kind : CborKind) → kind ≢ kinds.Short → IsFirstFault b at kind → IsFirstFault (b ++ rest) at kind

-- the shortest form of a whole tree spells it
abbrev pub ShortestSpells : Type 0
ShortestSpells = (l : ℕ) (v : Value) → HasShortest l v → Spells l (shortest v) v

-- no head of a major type and an argument is shorter than the one of least width, and no other head is as short
abbrev pub IsLeastHead : List ℕ → Type 0
IsLeastHead h = (major n : ℕ) → Numbered major n h → (length (short_head major n) ≤ length h) × (length h ≡ length (short_head major n) → h ≡ short_head major n)

-- reading the shortest form of a map gives its pairs
abbrev pub ShortestIsRead : Type 0
ShortestIsRead = (ps : List (List ℕ × Value)) → HasShortest 1 (map (pairs ps)) → map_of (shortest (map (pairs ps))) ≡ Ok ps

-- a head that the writer puts has at most nine bytes
abbrev pub HeadsAreShort : Type 0
HeadsAreShort = (major n : ℕ) → length (short_head major n) ≤ 9

-- A map in which a key has a text spends a byte on its head, and as many on the key and the text as their shortest forms.
abbrev pub TextsTakeTheirBytes : List ℕ → Type 0
TextsTakeTheirBytes b = (ps : List (List ℕ × Value)) (key t : List ℕ) → SpellsMap b (pairs ps) → look_up key ps ≡ Some (text t) → 1 + (length (short_text key) + length (short_text t)) ≤ length b
