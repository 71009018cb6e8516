-- How many bytes are read to find a record: each byte of the side once, but for the last cell, whose bytes are read twice.
use Rattle.std.proofs.Common.{◌≡◌, ℕ, zero, suc, ◌+◌, ◌-◌, ◌*◌, ◌/◌, ◌≤◌, Bool, true, false, Option, Some, None, List, [], ◌∷◌, length, sym, subst, arith}
use Rattle.std.specs.Prelude.{IfSome}
use Rattle.smp_flash.specs.Calls.{ReadsAtMost}
use Rattle.smp_flash.proofs.Passing.{reads_add, reads_more}
use Rattle.smp_gate.specs.Bank.{BankState, BankSays}
use Rattle.smp_gate.specs.Cells.{places, standing, gate_reads}

standing_most : (gates : List Bool) → standing gates ≤ length gates
standing_most [] = omega arith
standing_most (true ∷ gates) = omega (arith, standing_most gates)
standing_most (false ∷ gates) = omega (arith, standing_most gates)

-- the gates and the cells, where so many places are used
cells_most : (places used standing : ℕ) → used ≤ places → standing ≤ used → gate_reads 8 places used + 8 * standing ≤ places * 16 + 8
cells_most places zero standing le few = omega (arith, few)
cells_most places (suc n) standing le few = omega (arith, le, few)

places_most : (size : ℕ) → size ≤ 4080 → size + places 8 size * 16 ≤ 4080
places_most size fits = omega (arith, fits)

side_most : (size : ℕ) (gates : List Bool) → size ≤ 4080 → length gates ≤ places 8 size → 32 + size + gate_reads 8 (places 8 size) (length gates) + 8 * standing gates ≤ 4120
side_most size gates fits le = omega (arith, cells_most (places 8 size) (length gates) (standing gates) le (standing_most gates), places_most size fits)

pub opening_reads : (bank : BankState) (size : ℕ) (x : Option (List ℕ)) (p q r : Option ℕ) → bank.cell ≡ 8 → bank.size ≡ size → size ≤ 4080 → IfSome x (BankSays bank)
    → ReadsAtMost (32 + size + gate_reads 8 (places 8 size) (length bank.gates)) p q → ReadsAtMost (8 * standing bank.gates) q r → IfSome x (λ held. ReadsAtMost 4120 p r)
opening_reads bank size None p q r cell same fits says f g = tt
opening_reads bank size (Some held) p q r cell same fits says f g =
    let le : length bank.gates ≤ places 8 size =
    subst (λ (n : ℕ). length bank.gates ≤ places 8 n) same (subst (λ (c : ℕ). length bank.gates ≤ places c bank.size) cell says.used.most) in
    reads_more (32 + size + gate_reads 8 (places 8 size) (length bank.gates) + 8 * standing bank.gates) 4120 p r (side_most size bank.gates fits le)
    (reads_add (32 + size + gate_reads 8 (places 8 size) (length bank.gates)) (8 * standing bank.gates) p q r f g)

pub few_reads : (n : ℕ) (x : Option (List ℕ)) (p q : Option ℕ) → n ≤ 4120 → ReadsAtMost n p q → IfSome x (λ held. ReadsAtMost 4120 p q)
few_reads n None p q le f = tt
few_reads n (Some held) p q le f = reads_more n 4120 p q le f
