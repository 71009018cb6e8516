-- What a receiver holds, and how it agrees with the text that it has read.
use Rattle.std.specs.Prelude.{◌≡◌, ℕ, ◌<◌, ◌≤◌, Bool, true, if◌then◌else◌, IsTrue, IsFalse, List, [], ◌∷◌, ◌++◌, length, take, Option, Some, None}
use Rattle.smp_console.specs.declared.receiving.Fed.{Fed}
use Rattle.smp_console.specs.Lines.{unended}
use Rattle.smp_console.specs.declared.gathering.Collected.{Collected}
use Rattle.smp_console.specs.declared.gathering.Collected.TheVariants.{More, Lost, Whole}
use Rattle.smp_console.specs.Frames.{Collection, more, lost, whole, collection, Outcome, outcome, progress, frames}

-- The bytes are this collection.
abbrev pub Sees : Collected → Collection → Type 0
Sees More seen = seen ≡ more
Sees Lost seen = seen ≡ lost
Sees (Whole packet) seen = (seen ≡ whole packet.now) × (length packet.now ≤ 2048)

-- What was collected, and the last packet that was found.
pub record Gathered : Type 0 where
  pub collected : Option (List ℕ)
  pub packet : List ℕ

-- The front of the line that has not ended yet, what was collected, and the last packet that was found.
pub record Received : Type 0 where
  pub line : List ℕ
  pub collected : Option (List ℕ)
  pub packet : List ℕ

-- The packet, where one was found.
abbrev pub some_if : Bool → List ℕ → Option (List ℕ)
some_if is_found packet = if is_found then Some packet else None

-- Bytes that were begun are some of those of a packet, which lacks more.
abbrev pub Waits : Bool → List ℕ → Type 0
Waits is_begun collected = is_begun ≡ true → (2 ≤ length collected) × (collection collected ≡ more)

-- What is left of a packet that is collected, and of the last one that was found, where this is the outcome.
pub record Leaves (by : Outcome) (is_begun : Bool) (collected before packet : List ℕ) (is_found : Bool) : Type 0 where
  pub outcome : by ≡ record { collected = some_if is_begun collected; packet = some_if is_found packet }
  pub waits : Waits is_begun collected
  pub kept : IsFalse is_found → packet ≡ before
  pub fits : length before ≤ 2048 → length packet ≤ 2048

-- What reading a line does.
pub record TakesLine (old now : Gathered) (line : List ℕ) (is_found : Bool) : Type 0 where
  pub given : outcome old.collected line ≡ record { collected = now.collected; packet = some_if is_found now.packet }
  pub kept : IsFalse is_found → now.packet ≡ old.packet

-- A receiver that has read this text. Of a line that has not ended 516 bytes tell all.
pub record HasText (r : Received) (text : List ℕ) : Type 0 where
  pub line : r.line ≡ take 516 (unended text)
  pub collected : r.collected ≡ (progress text).collected

-- The list of the packet, where one was found.
abbrev pub list_if : Bool → List ℕ → List (List ℕ)
list_if is_found packet = if is_found then packet ∷ [] else []

-- What reading a piece does, after any text: it ends at the piece's end or behind the first packet.
pub record Feeds (old now : Received) (piece : List ℕ) (fed : Fed) : Type 0 where
  pub used : fed.used ≤ length piece
  pub all : IsFalse fed.packet → fed.used ≡ length piece
  pub some : IsTrue fed.packet → 0 < fed.used
  pub holds : (text : List ℕ) → HasText old text → HasText now (text ++ take fed.used piece)
  pub found : (text : List ℕ) → HasText old text → frames (text ++ take fed.used piece) ≡ frames text ++ list_if fed.packet now.packet
  pub first : (text : List ℕ) (n : ℕ) → HasText old text → n < fed.used → frames (text ++ take n piece) ≡ frames text
  pub kept : IsFalse fed.packet → now.packet ≡ old.packet

-- What the end of a line does: the text goes to the line that had not ended.
pub record EndsLine (old now : Received) (text : List ℕ) (is_found : Bool) : Type 0 where
  pub line : now.line ≡ []
  pub given : outcome old.collected (old.line ++ text) ≡ record { collected = now.collected; packet = some_if is_found now.packet }
  pub kept : IsFalse is_found → now.packet ≡ old.packet

-- A receiver that began with nothing and was fed pieces in turn: the text that it read of them, and the packets that it
-- found.
pub data HasRead : List ℕ → List (List ℕ) → Received → Type 0 where
  nothing_yet : (text : List ℕ) (packets : List (List ℕ)) (r : Received) → text ≡ [] → packets ≡ []
      → r ≡ record { line = []; collected = None; packet = [] } → HasRead text packets r
  one_more : (before text : List ℕ) (earlier packets : List (List ℕ)) (old now : Received) (piece : List ℕ) (fed : Fed)
      → HasRead before earlier old → Feeds old now piece fed → text ≡ before ++ take fed.used piece
      → packets ≡ earlier ++ list_if fed.packet now.packet → HasRead text packets now
