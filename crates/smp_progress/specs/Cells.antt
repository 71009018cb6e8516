-- The cells behind a record: what each says, and the record that a bank's content gives.
use Rattle.std.specs.Prelude.{◌≡◌, ◌⊎◌, ℕ, Bool, true, false, ◌&&◌, ◌==◌, List, [], ◌∷◌, ◌++◌, Option, Some, None}
use Rattle.std.specs.Int.{w32, to_be_bytes}
use Rattle.std.specs.Str.{bytes_eq}
use Rattle.smp_flash.specs.Layout.{geometry_of, image_of, progress_of}
use Rattle.smp_flash.specs.declared.geometry.Geometry.{Geometry}
use Rattle.smp_flash.specs.declared.layout.Layout.{Layout}
use Rattle.smp_gate.specs.Cells.{cell_of}
use Rattle.smp_gate.specs.Newest.{Content, content_of}
use Rattle.smp_model.specs.declared.upload.Announcement.{Announcement}
use Rattle.smp_progress.specs.Record.{kind_of, IsUpload, IsRecord, IsBody}
use Rattle.smp_progress.specs.declared.record.Record.{Record}
use Rattle.smp_progress.specs.declared.record.Record.TheVariants as records

-- the length of the bank's cells
abbrev pub cell_length : ℕ
cell_length = 8

-- the bytes of a cell: the kind, three 00, and the offset
abbrev pub cell_bytes : Bool → ℕ → List ℕ
cell_bytes rescue offset = kind_of rescue ∷ 0 ∷ 0 ∷ 0 ∷ to_be_bytes w32 offset

-- the cell that gives a record's offset and kind; there is none without an upload
abbrev pub entry_cell : Record → List ℕ
entry_cell records.None = []
entry_cell (records.Upload a offset rescue) = cell_bytes rescue offset

-- The cell may stand behind a record of this announcement, and says this of it.
pub record IsCell (g : Geometry) (a : Announcement) (cell : List ℕ) : Type 0 where
  pub offset : ℕ
  pub rescue : Bool
  pub bytes : cell ≡ cell_bytes rescue offset
  pub lawful : IsUpload g a offset rescue

-- The cell makes this record of an upload with this announcement.
abbrev pub CellMakes : Geometry → Announcement → List ℕ → Record → Type 0
CellMakes g a cell next = (c : IsCell g a cell) × (next ≡ records.Upload a c.offset c.rescue)

-- What the cells make of a record: the last one gives kind and offset, each may stand there, and none does behind `None`.
abbrev pub After : Geometry → Record → List (List ℕ) → Record → Type 0
After g first [] last = last ≡ first
After g records.None (cell ∷ cells) last = ⊥
After g (records.Upload a offset rescue) (cell ∷ cells) last = (c : IsCell g a cell) × After g (records.Upload a c.offset c.rescue) cells last

-- The content of the progress bank of an image gives this record.
pub record GivesRecord (g : Geometry) (image : ℕ) (content : Content) (entry : Record) : Type 0 where
  pub first : Record
  pub body : IsBody image first content.body
  pub lawful : IsRecord g first
  pub cells : After g first content.cells entry

-- The progress bank holds this record.
pub record HasRecord (layout : Layout) (entry : Record) (bytes : List ℕ) : Type 0 where
  pub content : Content
  pub held : content_of (progress_of layout) cell_length bytes ≡ Some content
  pub gives : GivesRecord (geometry_of layout) (image_of layout) content entry

-- the progress bank holds what it held, or this record
abbrev pub OldOrThis : Layout → Record → List ℕ → List ℕ → Type 0
OldOrThis layout entry old new = (content_of (progress_of layout) cell_length new ≡ content_of (progress_of layout) cell_length old) ⊎ HasRecord layout entry new

-- The cell of number n makes this record of the one before it.
pub record CellGives (g : Geometry) (last : Record) (n : ℕ) (cells : List (List ℕ)) (next : Record) : Type 0 where
  pub cell : List ℕ
  pub there : cell_of n cells ≡ Some cell
  pub gives : After g last (cell ∷ []) next

-- the same, of the bank's content
abbrev pub CellHeld : Layout → Record → ℕ → Record → List ℕ → Type 0
CellHeld layout last n next bytes = (c : Content) → content_of (progress_of layout) cell_length bytes ≡ Some c → CellGives (geometry_of layout) last n c.cells next

abbrev pub NoCellHeld : Layout → Record → ℕ → List ℕ → Type 0
NoCellHeld layout last n bytes = (c : Content) → content_of (progress_of layout) cell_length bytes ≡ Some c → (next : Record) → CellGives (geometry_of layout) last n c.cells next → ⊥

-- the bank's cells make this record of the first one, or none
abbrev pub CellsGive : Layout → Record → Record → List ℕ → Type 0
CellsGive layout first last bytes = (c : Content) → content_of (progress_of layout) cell_length bytes ≡ Some c → After (geometry_of layout) first c.cells last

abbrev pub NoCellsGive : Layout → Record → List ℕ → Type 0
NoCellsGive layout first bytes = (c : Content) → content_of (progress_of layout) cell_length bytes ≡ Some c → (last : Record) → After (geometry_of layout) first c.cells last → ⊥

abbrev pub equal_digests : Option (List ℕ) → Option (List ℕ) → Bool
equal_digests None None = true
equal_digests None (Some e) = false
equal_digests (Some d) None = false
equal_digests (Some d) (Some e) = bytes_eq d e

-- the two announce the same, or both are uploads that do
abbrev pub same_announcement : Announcement → Announcement → Bool
same_announcement a b = (a.length == b.length) && equal_digests a.digest b.digest

abbrev pub continues : Record → Record → Bool
continues records.None new = false
continues (records.Upload a offset rescue) records.None = false
continues (records.Upload a offset rescue) (records.Upload b next moved) = same_announcement a b
