-- What a value of the record says: made of its parts, where bytes may not be told.
use Rattle.std.proofs.Common.{◌≡◌, ℕ, Option, Some, None, List}
use Rattle.std.specs.Prelude.{IfSome}
use Rattle.smp_flash.specs.Layout.{progress_of}
use Rattle.smp_gate.specs.Bank.{BankSays}
use Rattle.smp_progress.specs.Cells.{HasRecord}
use Rattle.smp_progress.specs.State.{ProgressState, ProgressSays}

pub says_all : (p : ProgressState) (x : Option (List ℕ)) → p.bank.place ≡ progress_of p.layout → IfSome x (BankSays p.bank) → IfSome x (HasRecord p.layout p.entry) → IfSome x (ProgressSays p)
says_all p None at bank holds = tt
says_all p (Some x) at bank holds = record { place = at; bank = bank; holds = holds }
