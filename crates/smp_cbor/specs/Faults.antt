-- The first fault (RFC 8949, section 5.3.1 and appendix F): the first head, from the left, at which bytes cannot go on to spell a map, and why.
use Rattle.std.specs.Prelude.{◌≡◌, ◌≢◌, ℕ, suc, ◌+◌, ◌-◌, ◌/◌, ◌%◌, ◌<◌, ◌≤◌, List, [], ◌∷◌, ◌++◌, length, true, false, Option, Some, None, ◌==◌, if◌then◌else◌}
use Rattle.std.specs.Str.{IsUtf8}
use Rattle.smp_cbor.specs.declared.fault.CborKind.{CborKind}
use Rattle.smp_cbor.specs.declared.fault.CborKind.TheVariants as kinds
use Rattle.smp_cbor.specs.declared.fault.Stop.{Stop}
use Rattle.smp_cbor.specs.declared.heads.Head.{Head}
use Rattle.smp_cbor.specs.declared.heads.Head.TheVariants as heads
use Rattle.smp_cbor.specs.Skipping.{stop_at, begins_break}
use Rattle.smp_cbor.specs.Values.{Value, Values, Pairs, text, map, is_among}
use Rattle.smp_cbor.specs.Shortest.{values_count}
use Rattle.smp_cbor.specs.Spelling.{IsHead, Spells, SpellsEach}

-- how many bytes follow the first byte of a head
abbrev pub width : ℕ → ℕ
width low = if low == 24 then 1 else if low == 25 then 2 else if low == 26 then 4 else if low == 27 then 8 else 0

-- b begins with no head, for this reason
pub data NoHead : List ℕ → CborKind → Type 0 where
  at_end : NoHead [] kinds.Short
  cut : {x : ℕ} {t : List ℕ} → length t < width (x % 32) → NoHead (x ∷ t) kinds.Short
  reserved : {x : ℕ} {t : List ℕ} → 28 ≤ x % 32 → x % 32 < 31 → NoHead (x ∷ t) kinds.Head
  no_length : {x : ℕ} {t : List ℕ} → x % 32 ≡ 31 → x / 32 ≢ 4 → x / 32 ≢ 5 → NoHead (x ∷ t) kinds.Head
  low_simple : {n : ℕ} {t : List ℕ} → n < 32 → NoHead (248 ∷ n ∷ t) kinds.Head

-- a list, a map or a tag
abbrev pub IsOpening : Head → Type 0
IsOpening (heads.List count) = Unit {0}
IsOpening (heads.Map count) = Unit {0}
IsOpening heads.Tag = Unit {0}
IsOpening hd = ⊥

-- the length that a string's head states
abbrev pub StatesLength : Head → ℕ → Type 0
StatesLength (heads.Octets n) k = k ≡ n
StatesLength (heads.Text n) k = k ≡ n
StatesLength hd k = ⊥

-- After so many items that were read, another is due at t: the count is not reached, or no break stands here in the place
-- of an entry. Each entry has one item in a list and two in a map.
abbrev pub GoesOn : Option ℕ → ℕ → ℕ → List ℕ → Type 0
GoesOn (Some n) each read t = read < n + (if each == 2 then n else 0)
GoesOn None each read t = (n : ℕ) → read ≡ (if each == 2 then n + n else n) → begins_break t ≡ false

-- b stands at a level and spells no item: where its first refused head is, and why. At one head the head itself is tested
-- first, then its level, the length of its string, and the string's UTF-8.
pub data Stops : ℕ → List ℕ → Stop → Type 0 where
  no_head : {l : ℕ} {b : List ℕ} {s : Stop} (k : CborKind) → NoHead b k → s ≡ stop_at b k → Stops l b s
  too_short : {l : ℕ} {b : List ℕ} {s : Stop} (h t : List ℕ) (hd : Head) (n : ℕ) → IsHead h hd → StatesLength hd n → length t < n → b ≡ h ++ t → s ≡ stop_at b kinds.Short → Stops l b s
  no_text : {l : ℕ} {b : List ℕ} {s : Stop} (h t u : List ℕ) → IsHead h (heads.Text (length t)) → (IsUtf8 t → ⊥) → b ≡ h ++ (t ++ u) → s ≡ stop_at b kinds.NotUtf8 → Stops l b s
  too_deep : {l : ℕ} {b : List ℕ} {s : Stop} (h t : List ℕ) (hd : Head) → 8 < l → IsHead h hd → IsOpening hd → b ≡ h ++ t → s ≡ stop_at b kinds.Deep → Stops l b s
  in_list : {l : ℕ} {b : List ℕ} {s : Stop} (h c t : List ℕ) (count : Option ℕ) (vs : Values) → l ≤ 8 → IsHead h (heads.List count) → SpellsEach (suc l) c vs → GoesOn count 1 (values_count vs) t → Stops (suc l) t s → b ≡ h ++ (c ++ t) → Stops l b s
  in_map : {l : ℕ} {b : List ℕ} {s : Stop} (h c t : List ℕ) (count : Option ℕ) (vs : Values) → l ≤ 8 → IsHead h (heads.Map count) → SpellsEach (suc l) c vs → GoesOn count 2 (values_count vs) t → Stops (suc l) t s → b ≡ h ++ (c ++ t) → Stops l b s
  in_tag : {l : ℕ} {b : List ℕ} {s : Stop} (h t : List ℕ) → l ≤ 8 → IsHead h heads.Tag → Stops (suc l) t s → b ≡ h ++ t → Stops l b s

-- the head of a text
abbrev pub IsTextHead : Head → Type 0
IsTextHead (heads.Text n) = Unit {0}
IsTextHead hd = ⊥

-- A pair of the outer map stops, after pairs with these keys. At one key the head itself is tested first, then that it is
-- a text, its length, its UTF-8, and that it did not come before.
pub data StopsPair : List (List ℕ) → List ℕ → Stop → Type 0 where
  in_key : {seen : List (List ℕ)} {b : List ℕ} {s : Stop} → ((h u : List ℕ) (hd : Head) → IsHead h hd → b ≡ h ++ u → IsTextHead hd) → Stops 2 b s → StopsPair seen b s
  no_key : {seen : List (List ℕ)} {b : List ℕ} {s : Stop} (h u : List ℕ) (hd : Head) → IsHead h hd → (IsTextHead hd → ⊥) → b ≡ h ++ u → s ≡ stop_at b kinds.Key → StopsPair seen b s
  repeated : {seen : List (List ℕ)} {b : List ℕ} {s : Stop} (h u key : List ℕ) → Spells 2 h (text key) → is_among key seen ≡ true → b ≡ h ++ u → s ≡ stop_at b kinds.Repeated → StopsPair seen b s
  in_value : {seen : List (List ℕ)} {b : List ℕ} {s : Stop} (h u key : List ℕ) → Spells 2 h (text key) → is_among key seen ≡ false → Stops 2 u s → b ≡ h ++ u → StopsPair seen b s

-- pairs of the outer map, from left to right: those read so far have these keys
pub data StopsPairs : Option ℕ → List (List ℕ) → List ℕ → Stop → Type 0 where
  here : {count : Option ℕ} {seen : List (List ℕ)} {b : List ℕ} {s : Stop} → count ≢ Some 0 → (count ≡ None → begins_break b ≡ false) → StopsPair seen b s → StopsPairs count seen b s
  later : {n : ℕ} {seen : List (List ℕ)} {b : List ℕ} {s : Stop} (h g u key : List ℕ) (v : Value) → Spells 2 h (text key) → is_among key seen ≡ false → Spells 2 g v → b ≡ h ++ (g ++ u) → StopsPairs (Some n) (seen ++ key ∷ []) u s → StopsPairs (Some (suc n)) seen b s
  later_to_break : {seen : List (List ℕ)} {b : List ℕ} {s : Stop} (h g u key : List ℕ) (v : Value) → Spells 2 h (text key) → is_among key seen ≡ false → Spells 2 g v → b ≡ h ++ (g ++ u) → StopsPairs None (seen ++ key ∷ []) u s → StopsPairs None seen b s

-- the first fault of bytes that spell no map
pub data StopsMap : List ℕ → Stop → Type 0 where
  no_map : {x : ℕ} {t : List ℕ} {s : Stop} → x / 32 ≢ 5 → s ≡ stop_at (x ∷ t) kinds.NotAMap → StopsMap (x ∷ t) s
  no_map_head : {x : ℕ} {t : List ℕ} {s : Stop} (k : CborKind) → x / 32 ≡ 5 → NoHead (x ∷ t) k → s ≡ stop_at (x ∷ t) k → StopsMap (x ∷ t) s
  in_pairs : {b : List ℕ} {s : Stop} (h c : List ℕ) (count : Option ℕ) → IsHead h (heads.Map count) → StopsPairs count [] c s → b ≡ h ++ c → StopsMap b s
  trailing : {b : List ℕ} {s : Stop} (h t : List ℕ) (ps : Pairs) → Spells 1 h (map ps) → t ≢ [] → b ≡ h ++ t → s ≡ stop_at t kinds.Trailing → StopsMap b s

-- the first fault, by the place of its head
abbrev pub IsFirstFault : List ℕ → ℕ → CborKind → Type 0
IsFirstFault b at kind = (at ≤ length b) × StopsMap b (record { left = length b - at; kind = kind })
