-- What cells make of a record: one thing at most, and cell by cell.
use Rattle.std.proofs.Common.{◌≡◌, ℕ, zero, suc, ◌+◌, ◌≤◌, ◌^◌, Bool, Option, Some, None, List, [], ◌∷◌, ◌++◌, length, take, drop, refl, sym, ◌∙◌, ap, subst, arith}
use Rattle.std.specs.Prelude.{IfSome}
use Rattle.smp_flash.specs.Geometry.{slot_size, Regular}
use Rattle.smp_flash.specs.Layout.{geometry_of, image_of, progress_of}
use Rattle.smp_flash.specs.declared.geometry.Geometry.{Geometry}
use Rattle.smp_flash.specs.declared.layout.Layout.{Layout}
use Rattle.smp_flash.proofs.Sizes.{regular}
use Rattle.smp_gate.specs.Cells.{cell_of}
use Rattle.smp_gate.specs.Newest.{Content, content_of}
use Rattle.smp_model.specs.declared.upload.Announcement.{Announcement}
use Rattle.smp_progress.specs.Cells.{cell_length, IsCell, After, GivesRecord, HasRecord, CellGives, CellHeld, NoCellHeld, CellsGive, NoCellsGive}
use Rattle.smp_progress.specs.Record.{IsUpload, IsRecord}
use Rattle.smp_progress.specs.declared.record.Record.{Record}
use Rattle.smp_progress.specs.declared.record.Record.TheVariants as records
use Rattle.smp_progress.proofs.Lists.{take_cell, split_cell}
use Rattle.smp_progress.proofs.Records.{one_body, cell_offset, cell_rescue}

-- a cell says one offset and one kind
same_offset : (g : Geometry) (a : Announcement) (cell : List ℕ) → slot_size g ≤ 2 ^ 22 → (c d : IsCell g a cell) → c.offset ≡ d.offset
same_offset g a cell le c d = sym (cell_offset g a cell le c) ∙ cell_offset g a cell le d

same_rescue : (g : Geometry) (a : Announcement) (cell : List ℕ) → (c d : IsCell g a cell) → c.rescue ≡ d.rescue
same_rescue g a cell c d = sym (cell_rescue g a cell c) ∙ cell_rescue g a cell d

-- so what follows one reading of a cell follows each
along : (g : Geometry) (a : Announcement) (cell : List ℕ) (cells : List (List ℕ)) (last : Record) → slot_size g ≤ 2 ^ 22 → (c d : IsCell g a cell)
    → After g (records.Upload a c.offset c.rescue) cells last → After g (records.Upload a d.offset d.rescue) cells last
along g a cell cells last le c d after =
    subst (λ (r : Bool). After g (records.Upload a d.offset r) cells last) (same_rescue g a cell c d)
    (subst (λ (n : ℕ). After g (records.Upload a n c.rescue) cells last) (same_offset g a cell le c d) after)

pub one_after : (g : Geometry) (first : Record) (cells : List (List ℕ)) (x y : Record) → slot_size g ≤ 2 ^ 22 → After g first cells x → After g first cells y → x ≡ y
one_after g first [] x y le a b = a ∙ sym b
one_after g records.None (cell ∷ cells) x y le a b = absurd a
one_after g (records.Upload u offset rescue) (cell ∷ cells) x y le a b =
    one_after g (records.Upload u b.0.offset b.0.rescue) cells x y le (along g u cell cells x le a.0 b.0 a.1) b.1

pub after_lawful : (g : Geometry) (first : Record) (cells : List (List ℕ)) (last : Record) → IsRecord g first → After g first cells last → IsRecord g last
after_lawful g first [] last l a = subst (IsRecord g) (sym a) l
after_lawful g records.None (cell ∷ cells) last l a = absurd a
after_lawful g (records.Upload u offset rescue) (cell ∷ cells) last l a = after_lawful g (records.Upload u a.0.offset a.0.rescue) cells last a.0.lawful a.1

-- cells, and then more of them
pub after_more : (g : Geometry) (first middle : Record) (cells more : List (List ℕ)) (last : Record) → After g first cells middle → After g middle more last → After g first (cells ++ more) last
after_more g first middle [] more last a b = subst (λ (r : Record). After g r more last) a b
after_more g records.None middle (cell ∷ cells) more last a b = absurd a
after_more g (records.Upload u offset rescue) middle (cell ∷ cells) more last a b = (a.0, after_more g (records.Upload u a.0.offset a.0.rescue) middle cells more last a.1 b)

pub after_rest : (g : Geometry) (first middle : Record) (cells more : List (List ℕ)) (last : Record) → slot_size g ≤ 2 ^ 22 → After g first cells middle → After g first (cells ++ more) last → After g middle more last
after_rest g first middle [] more last le a b = subst (λ (r : Record). After g r more last) (sym a) b
after_rest g records.None middle (cell ∷ cells) more last le a b = absurd a
after_rest g (records.Upload u offset rescue) middle (cell ∷ cells) more last le a b =
    after_rest g (records.Upload u a.0.offset a.0.rescue) middle cells more last le a.1 (along g u cell (cells ++ more) last le b.0 a.0 b.1)

-- the first of some cells
after_first : (g : Geometry) (first : Record) (cell : List ℕ) (cells : List (List ℕ)) (last : Record) → After g first (cell ∷ cells) last → (next : Record) × After g first (cell ∷ []) next
after_first g records.None cell cells last a = absurd a
after_first g (records.Upload u offset rescue) cell cells last a = (records.Upload u a.0.offset a.0.rescue, (a.0, refl))

-- a further cell
pub after_cell : (g : Geometry) (first last next : Record) (n : ℕ) (cells : List (List ℕ)) → After g first (take n cells) last → CellGives g last n cells next → After g first (take (suc n) cells) next
after_cell g first last next n cells a c =
    subst (λ (xs : List (List ℕ)). After g first xs next) (sym (take_cell n cells c.cell c.there)) (after_more g first last (take n cells) (c.cell ∷ []) next a c.gives)

-- a cell that may not stand there
pub after_none : (g : Geometry) (first last end : Record) (n : ℕ) (cells : List (List ℕ)) (x : List ℕ) → slot_size g ≤ 2 ^ 22 → ((next : Record) → CellGives g last n cells next → ⊥)
    → cell_of n cells ≡ Some x → After g first (take n cells) last → After g first cells end → ⊥
after_none g first last end n cells x le no_next there a whole =
    let rest : After g last (x ∷ drop (suc n) cells) end =
    after_rest g first last (take n cells) (x ∷ drop (suc n) cells) end le a (subst (λ (xs : List (List ℕ)). After g first xs end) (split_cell n cells x there) whole) in
    let one = after_first g last x (drop (suc n) cells) end rest in
    no_next one.0 (record { cell = x; there = there; gives = one.1 })

some_same : (x y : Content) → Some x ≡ Some y → x ≡ y
some_same x y e = cc e

pub one_record : (layout : Layout) (x y : Record) (bytes : List ℕ) → HasRecord layout x bytes → HasRecord layout y bytes → x ≡ y
one_record layout x y bytes a b =
    let g = geometry_of layout in
    let r : Regular g = regular g layout.lawful in
    let same : b.content ≡ a.content = some_same b.content a.content (sym b.held ∙ a.held) in
    let other : GivesRecord g (image_of layout) a.content y = subst (λ (c : Content). GivesRecord g (image_of layout) c y) same b.gives in
    let first : other.first ≡ a.gives.first = one_body g (image_of layout) other.first a.gives.first a.content.body r.slot_most other.lawful a.gives.lawful other.body a.gives.body in
    one_after g a.gives.first a.content.cells x y r.slot_most a.gives.cells (subst (λ (f : Record). After g f a.content.cells y) first other.cells)

pub lawful_record : (layout : Layout) (entry : Record) (bytes : List ℕ) → HasRecord layout entry bytes → IsRecord (geometry_of layout) entry
lawful_record layout entry bytes a = after_lawful (geometry_of layout) a.gives.first a.content.cells entry a.gives.lawful a.gives.cells
