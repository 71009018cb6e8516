-- The spots of the calls about the slots of one image, and the age of its record.
use Rattle.std.proofs.Common.{◌≡◌, ℕ, Some, None, List, [], ◌∷◌, sym, ◌∙◌, ap}
use Rattle.smp_flash.specs.Calls.{Calls}
use Rattle.smp_flash.specs.Layout.{area_spot, progress_of, slot_of, upload_spots}
use Rattle.smp_flash.specs.Region.{Spares}
use Rattle.smp_flash.specs.State.{FlashState, End}
use Rattle.smp_flash.specs.declared.layout.BankPlace.{BankPlace}
use Rattle.smp_flash.specs.declared.layout.Layout.{Layout}
use Rattle.smp_flash.proofs.Passing.{Covers, Calls-wider}
use Rattle.smp_gate.specs.Bank.{BankState, BankSays}
use Rattle.smp_gate.specs.Newest.{newest_generation}
use Rattle.smp_progress.specs.State.{ProgressState, ProgressSays}
use Rattle.smp_upload.specs.Moves.{mount_spots}

-- the first of some spots
pub first_covers : (spot : ℕ × ℕ) (spots : List (ℕ × ℕ)) → Covers (spot ∷ spots) (spot ∷ [])
first_covers spot spots = record {
  clear = λ p m c. (c.0, tt);
  spares = λ g aim. elim aim as (λ o. Spares g o (spot ∷ spots) → Spares g o (spot ∷ [])) [
    | None ↦ λ s. tt
    | Some region ↦ λ s. (s.0, tt)
  ];
}

-- all behind it
rest_covers : (spot : ℕ × ℕ) (spots : List (ℕ × ℕ)) → Covers (spot ∷ spots) spots
rest_covers spot spots = record {
  clear = λ p m c. c.1;
  spares = λ g aim. elim aim as (λ o. Spares g o (spot ∷ spots) → Spares g o spots) [
    | None ↦ λ s. none g spots
    | Some region ↦ λ s. s.1
  ];
}
  where
    none : (g : _) (spots : List (ℕ × ℕ)) → Spares g None spots
    none g [] = tt
    none g (x ∷ xs) = tt

pub upload_covers : (layout : Layout) → Covers (mount_spots layout) (upload_spots layout)
upload_covers layout = rest_covers (area_spot (slot_of layout 0)) (upload_spots layout)

pub primary_covers : (layout : Layout) → Covers (mount_spots layout) (area_spot (slot_of layout 0) ∷ [])
primary_covers layout = first_covers (area_spot (slot_of layout 0)) (upload_spots layout)

pub primary_Calls : (layout : Layout) (end : End) (a b : FlashState) → Calls (area_spot (slot_of layout 0) ∷ []) end a b → Calls (mount_spots layout) end a b
primary_Calls layout end a b calls = Calls-wider (mount_spots layout) (area_spot (slot_of layout 0) ∷ []) end a b (primary_covers layout) calls

-- what the crate below promises of a bank's value
abbrev pub SaysGeneration : Type 0
SaysGeneration = (bank : BankState) (bytes : List ℕ) → BankSays bank bytes → newest_generation bank.place bytes ≡ bank.generation

pub generation_is : SaysGeneration → (layout : Layout) (p : ProgressState) (bytes : List ℕ) → p.layout ≡ layout → ProgressSays p bytes → newest_generation (progress_of layout) bytes ≡ p.bank.generation
generation_is law layout p bytes is says = ap (λ (q : BankPlace). newest_generation q bytes) (sym (says.place ∙ ap progress_of is)) ∙ law p.bank bytes says.bank
