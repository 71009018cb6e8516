-- How much is read where the bank of the settings is opened.
use Rattle.std.proofs.Common.{◌≡◌, ◌≤◌, ◌+◌, ◌-◌, ◌*◌, ℕ, Bool, true, false, List, [], ◌∷◌, length, Option, Some, None, subst, arith}
use Rattle.std.specs.Prelude.{IfSome}
use Rattle.std.proofs.Math.Nat.{div-mul-le_self}
use Rattle.smp_flash.specs.Calls.{ReadsAtMost}
use Rattle.smp_flash.proofs.Passing.{reads_add, reads_more}
use Rattle.smp_gate.specs.Bank.{BankState, BankSays}
use Rattle.smp_gate.specs.Cells.{cells_at, places, standing}
use Rattle.smp_settings.specs.Cells.{cell_length}

few_standing : (gates : List Bool) → standing gates ≤ length gates
few_standing [] = omega arith
few_standing (true ∷ gates) = let few = few_standing gates in omega (arith, few)
few_standing (false ∷ gates) = let few = few_standing gates in omega (arith, few)

-- the cells lie within a side
cells_fit : (bank : BankState) (u : List ℕ) → bank.cell ≡ cell_length → BankSays bank u → cell_length * standing bank.gates ≤ 4096
cells_fit bank u long says =
    let few : standing bank.gates ≤ length bank.gates = few_standing bank.gates in
    let most : length bank.gates ≤ places cell_length bank.size = subst (λ (n : ℕ). length bank.gates ≤ places n bank.size) long says.used.most in
    let whole : places cell_length bank.size * 176 ≤ 4096 - cells_at bank.size = div-mul-le_self (4096 - cells_at bank.size) 176 in
    omega (arith, few, most, whole)

-- an opening and its cells
pub opening_most : (bank : BankState) (a b c : Option ℕ) (x z : Option (List ℕ)) → z ≡ x → bank.cell ≡ cell_length → IfSome z (BankSays bank) → ReadsAtMost 4112 a b
    → ReadsAtMost (cell_length * standing bank.gates) b c → IfSome x (λ held. ReadsAtMost 8208 a c)
opening_most bank a b c None z e long says f g = tt
opening_most bank a b c (Some u) z e long says f g =
    let fit : cell_length * standing bank.gates ≤ 4096 = cells_fit bank u long (subst (λ (o : Option (List ℕ)). IfSome o (BankSays bank)) e says) in
    reads_more (4112 + cell_length * standing bank.gates) 8208 a c (omega (arith, fit)) (reads_add 4112 (cell_length * standing bank.gates) a b c f g)

pub fewer_read : (m n : ℕ) (a b : Option ℕ) (x : Option (List ℕ)) → m ≤ n → ReadsAtMost m a b → IfSome x (λ held. ReadsAtMost n a b)
fewer_read m n a b None less f = tt
fewer_read m n a b (Some u) less f = reads_more m n a b less f

pub then_read : (m n : ℕ) (a b c : Option ℕ) (x : Option (List ℕ)) → IfSome x (λ held. ReadsAtMost m a b) → ReadsAtMost n b c → IfSome x (λ held. ReadsAtMost (m + n) a c)
then_read m n a b c None f g = tt
then_read m n a b c (Some u) f g = reads_add m n a b c f g
