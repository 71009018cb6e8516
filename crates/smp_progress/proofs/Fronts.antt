-- What the first cells make of a record, as the loop over them goes on.
use Rattle.std.proofs.Common.{◌≡◌, ℕ, suc, ◌+◌, ◌<◌, ◌≤◌, ◌^◌, Option, Some, None, List, [], ◌∷◌, length, take, refl, sym, ◌∙◌, ap, subst, arith}
use Rattle.std.specs.Prelude.{IfSome}
use Rattle.std.proofs.lemmas.List.{take_all}
use Rattle.smp_flash.specs.Geometry.{slot_size}
use Rattle.smp_flash.specs.Layout.{geometry_of, progress_of}
use Rattle.smp_flash.specs.declared.layout.Layout.{Layout}
use Rattle.smp_gate.specs.Bank.{BankState, BankSays, current}
use Rattle.smp_gate.specs.Cells.{standing, cells_in}
use Rattle.smp_gate.specs.Newest.{Content, content_of, HasCell}
use Rattle.smp_flash.specs.declared.layout.BankPlace.{BankPlace}
use Rattle.smp_flash.specs.Area.{area}
use Rattle.smp_progress.specs.Cells.{cell_length, After, CellHeld, NoCellHeld, CellsGive, NoCellsGive}
use Rattle.smp_progress.specs.declared.record.Record.{Record}
use Rattle.smp_progress.proofs.Lists.{some_cell}
use Rattle.smp_progress.proofs.Reading.{after_cell, after_none}

-- the first n cells make this record of the first one
abbrev pub FrontGives : Layout → Record → ℕ → Record → List ℕ → Type 0
FrontGives layout first n last bytes = (c : Content) → content_of (progress_of layout) cell_length bytes ≡ Some c → After (geometry_of layout) first (take n c.cells) last

-- the bank has as many cells as gates stand
abbrev pub Counted : Layout → ℕ → List ℕ → Type 0
Counted layout n bytes = (c : Content) → content_of (progress_of layout) cell_length bytes ≡ Some c → length c.cells ≡ n

-- the two facts of a bank's value that the law gives
abbrev ContentSaid : Type 0
ContentSaid = (bank : BankState) (bytes : List ℕ) (says : BankSays bank bytes)
    → content_of bank.place bank.cell bytes ≡ Some (record { body = says.body; cells = cells_in bank.cell bank.size (area (current bank.place bank.second) 4096 bytes) })

abbrev CellsSaid : Type 0
CellsSaid = (bank : BankState) (bytes : List ℕ) → BankSays bank bytes → length (cells_in bank.cell bank.size (area (current bank.place bank.second) 4096 bytes)) ≡ standing bank.gates

some_same : (x y : Content) → Some x ≡ Some y → x ≡ y
some_same x y e = cc e

counted : (layout : Layout) (bank : BankState) (bytes : List ℕ) → ContentSaid → CellsSaid → bank.place ≡ progress_of layout → bank.cell ≡ 8 → BankSays bank bytes → Counted layout (standing bank.gates) bytes
counted layout bank bytes content cells at long says = λ c is.
    let here : content_of (progress_of layout) cell_length bytes ≡ Some (record { body = says.body; cells = cells_in bank.cell bank.size (area (current bank.place bank.second) 4096 bytes) }) =
    (λ i. content_of (sym at i) (sym long i) bytes) ∙ content bank bytes says in
    let same : c ≡ record { body = says.body; cells = cells_in bank.cell bank.size (area (current bank.place bank.second) 4096 bytes) } = some_same c _ (sym is ∙ here) in
    ap (λ (x : Content). length x.cells) same ∙ cells bank bytes says

pub front_none : (layout : Layout) (first : Record) (x : Option (List ℕ)) → IfSome x (FrontGives layout first 0 first)
front_none layout first None = tt
front_none layout first (Some x) = λ c is. refl

pub front_more : (layout : Layout) (first last next : Record) (n : ℕ) (x : Option (List ℕ)) → IfSome x (FrontGives layout first n last) → IfSome x (CellHeld layout last n next)
    → IfSome x (FrontGives layout first (n + 1) next)
front_more layout first last next n None f h = tt
front_more layout first last next n (Some x) f h = λ c is.
    let e : suc n ≡ n + 1 = omega arith in
    subst (λ (k : ℕ). After (geometry_of layout) first (take k c.cells) next) e (after_cell (geometry_of layout) first last next n c.cells (f c is) (h c is))

pub front_all : (layout : Layout) (bank : BankState) (first last : Record) (n : ℕ) (x : Option (List ℕ)) → ContentSaid → CellsSaid → bank.place ≡ progress_of layout → bank.cell ≡ 8 → n ≡ standing bank.gates
    → IfSome x (BankSays bank) → IfSome x (FrontGives layout first n last) → IfSome x (CellsGive layout first last)
front_all layout bank first last n None content cells at long is says f = tt
front_all layout bank first last n (Some x) content cells at long is says f = λ c held.
    let all : length c.cells ≡ n = counted layout bank x content cells at long says c held ∙ sym is in
    subst (λ xs. After (geometry_of layout) first xs last) (take_all n c.cells (omega (arith, all))) (f c held)

pub front_stops : (layout : Layout) (bank : BankState) (first last : Record) (n : ℕ) (x : Option (List ℕ)) → slot_size (geometry_of layout) ≤ 2 ^ 22 → ContentSaid → CellsSaid → bank.place ≡ progress_of layout → bank.cell ≡ 8
    → n < standing bank.gates → IfSome x (BankSays bank) → IfSome x (FrontGives layout first n last) → IfSome x (NoCellHeld layout last n) → IfSome x (NoCellsGive layout first)
front_stops layout bank first last n None le content cells at long low says f stop = tt
front_stops layout bank first last n (Some x) le content cells at long low says f stop = λ c held end whole.
    let all : length c.cells ≡ standing bank.gates = counted layout bank x content cells at long says c held in
    let there = some_cell n c.cells (omega (arith, all, low)) in
    after_none (geometry_of layout) first last end n c.cells there.0 le (stop c held) there.1 (f c held) whole

-- a cell that was read
pub cell_held : (layout : Layout) (last next : Record) (n : ℕ) (place : BankPlace) (size : ℕ) (cell : List ℕ) (x y : Option (List ℕ)) → place ≡ progress_of layout → size ≡ 8 → y ≡ x
    → IfSome y (HasCell place size n cell) → After (geometry_of layout) last (cell ∷ []) next → IfSome x (CellHeld layout last n next)
cell_held layout last next n place size cell x y at long same there after = go x (subst (λ (o : Option (List ℕ)). IfSome o (HasCell place size n cell)) same there)
  where
    go : (o : Option (List ℕ)) → IfSome o (HasCell place size n cell) → IfSome o (CellHeld layout last n next)
    go None h = tt
    go (Some bytes) h = λ c held. record { cell = cell; there = h c ((λ i. content_of (at i) (long i) bytes) ∙ held); gives = after }
