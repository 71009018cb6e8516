-- One line of the console transport ("SMP transport specification", console), without its newline: a marker, and bytes
-- in base64 (RFC 4648, section 4).
use Rattle.std.specs.Prelude.{◌≡◌, ◌≢◌, ℕ, ◌<◌, ◌≤◌, slice_index, nat_eq, nat_le, Bool, if◌then◌else◌, List, [], ◌∷◌, ◌++◌, length, take, drop, ◌⊎◌, Option, Some, None}
use Rattle.std.specs.List.{starts_with}
use Rattle.std.specs.Result.{result_ok}
use Rattle.std.specs.Io.BufRead.{strip_last}
use Rattle.base64.specs.Engines.{standard}
use Rattle.base64.specs.GeneralPurpose.{encode_of, decode_of}
use Rattle.smp_line.specs.declared.reading.Line.{Line}
use Rattle.smp_line.specs.declared.reading.Line.TheVariants.{First, Next, Bad, Foreign}

-- The marker of the first line of a packet, and of the lines that continue it.
abbrev pub first_marker : List ℕ
first_marker = 6 ∷ 9 ∷ []

abbrev pub next_marker : List ℕ
next_marker = 4 ∷ 20 ∷ []

abbrev pub marker : Bool → List ℕ
marker is_first = if is_first then first_marker else next_marker

-- The line that is written for some bytes, and the same with its newline.
abbrev pub line_of : Bool → List ℕ → List ℕ
line_of is_first bytes = marker is_first ++ encode_of standard bytes

abbrev pub text_line : Bool → List ℕ → List ℕ
text_line is_first bytes = line_of is_first bytes ++ 10 ∷ []

-- What a line holds.
pub data Content : Type 0 where
  first : List ℕ → Content
  next : List ℕ → Content
  bad : Content
  foreign : Content

-- What the line that is written for some bytes holds.
abbrev pub content_of : Bool → List ℕ → Content
content_of is_first bytes = if is_first then first bytes else next bytes

-- The bytes that the text after a marker spells, where it has at most 512 characters of base64. One carriage return at
-- its end is no part of it.
abbrev pub spelled : List ℕ → Option (List ℕ)
spelled text =
    let symbols = strip_last 13 text in
    if nat_le (length symbols) 512 then result_ok (decode_of standard symbols) else None

-- A line with a marker and text that spells no bytes is bad.
abbrev pub with_bytes : (List ℕ → Content) → Option (List ℕ) → Content
with_bytes kind (Some bytes) = kind bytes
with_bytes kind None = bad

-- What a line holds. A line without a marker is foreign.
abbrev pub content : List ℕ → Content
content line =
    if starts_with nat_eq line first_marker then with_bytes first (spelled (drop 2 line))
    else if starts_with nat_eq line next_marker then with_bytes next (spelled (drop 2 line))
    else foreign

-- The line is this marker and the base64 text of these bytes, at most 512 characters, and maybe a carriage return.
pub record Spells (mark line bytes : List ℕ) : Type 0 where
  pub ending : List ℕ
  pub return : (ending ≡ []) ⊎ (ending ≡ 13 ∷ [])
  pub text : line ≡ mark ++ encode_of standard bytes ++ ending
  pub fits : length (encode_of standard bytes) ≤ 512

-- What reading a line answers, with the bytes of the line at the front of `into`.
abbrev pub Reads : Line → List ℕ → Content → Type 0
Reads (First n) into held = (held ≡ first (take n into)) × (n ≤ 384)
Reads (Next n) into held = (held ≡ next (take n into)) × (n ≤ 384)
Reads Bad into held = held ≡ bad
Reads Foreign into held = held ≡ foreign

-- Each is a byte.
abbrev pub AreBytes : List ℕ → Type 0
AreBytes xs = (i : ℕ) → slice_index xs i < 256

-- None is a newline.
abbrev pub HasNoNewline : List ℕ → Type 0
HasNoNewline xs = (i : ℕ) → slice_index xs i ≢ 10
