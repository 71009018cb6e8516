-- What a change elsewhere keeps of a bank, and how its generation moves over two changes.
use Rattle.std.proofs.Common.{◌≡◌, ℕ, ◌+◌, Bool, true, false, Some, List, take, sym, ◌∙◌, ap, subst, arith}
use Rattle.smp_flash.specs.Area.{area, Clear, Keeps}
use Rattle.smp_flash.specs.State.{FlashState, End}
use Rattle.smp_flash.specs.State.End.{Went, WentOff, Failed}
use Rattle.smp_flash.specs.Calls.{Calls}
use Rattle.smp_flash.specs.declared.layout.BankPlace.{BankPlace}
use Rattle.smp_gate.specs.Side.{valid_side, length_in, AtMost}
use Rattle.smp_gate.specs.Cells.{Used}
use Rattle.smp_gate.specs.Newest.{Fits, newest, newest_side, newest_generation, generation_by, newer, content_of, content_in, AgesAtMost}
use Rattle.smp_gate.specs.Bank.{BankState, BankSays, bar, current, other}
use Rattle.smp_gate.proofs.Sides.{newest-Stands}

current_kept : (place : BankPlace) (second : Bool) (spots : List (ℕ × ℕ)) (old new : List ℕ) → Clear spots place.first.at 4096 → Clear spots place.second.at 4096 → Keeps spots old new
    → area (current place second) 4096 new ≡ area (current place second) 4096 old
current_kept place true spots old new a b keeps = keeps.apart place.second.at 4096 b
current_kept place false spots old new a b keeps = keeps.apart place.first.at 4096 a

other_kept : (place : BankPlace) (second : Bool) (spots : List (ℕ × ℕ)) (old new : List ℕ) → Clear spots place.first.at 4096 → Clear spots place.second.at 4096 → Keeps spots old new
    → area (other place second) 4096 new ≡ area (other place second) 4096 old
other_kept place true spots old new a b keeps = keeps.apart place.first.at 4096 a
other_kept place false spots old new a b keeps = keeps.apart place.second.at 4096 b

pub says_kept : (bank : BankState) (spots : List (ℕ × ℕ)) (old new : List ℕ) → Clear spots bank.place.first.at 4096 → Clear spots bank.place.second.at 4096
    → Keeps spots old new → BankSays bank old → BankSays bank new
says_kept bank spots old new a b keeps says = record {
  body = says.body;
  stands = record {
    found = ap valid_side (current_kept bank.place bank.second spots old new a b keeps) ∙ says.stands.found;
    behind = subst (AtMost (bar bank.second bank.generation)) (sym (ap valid_side (other_kept bank.place bank.second spots old new a b keeps))) says.stands.behind;
    positive = says.stands.positive;
  };
  size = ap (λ (side : List ℕ). length_in (take 16 side)) (current_kept bank.place bank.second spots old new a b keeps) ∙ says.size;
  used = subst (λ (side : List ℕ). Used bank.cell bank.size bank.gates side) (sym (current_kept bank.place bank.second spots old new a b keeps)) says.used;
}

pub newest_kept : (place : BankPlace) (spots : List (ℕ × ℕ)) (old new : List ℕ) → Clear spots place.first.at 4096 → Clear spots place.second.at 4096
    → Keeps spots old new → newest_side place new ≡ newest_side place old
newest_kept place spots old new a b keeps =
    (λ i. newest (valid_side (keeps.apart place.first.at 4096 a i)) (valid_side (keeps.apart place.second.at 4096 b i)))

pub says_generation : (bank : BankState) (bytes : List ℕ) → BankSays bank bytes → newest_generation bank.place bytes ≡ bank.generation
says_generation bank bytes says = ap generation_by (newest-Stands bank.place bank.second bank.generation says.body bytes says.stands)

-- the whole content stays
pub content_kept : (place : BankPlace) (cell : ℕ) (spots : List (ℕ × ℕ)) (old new : List ℕ) → Clear spots place.first.at 4096 → Clear spots place.second.at 4096
    → Keeps spots old new → content_of place cell new ≡ content_of place cell old
content_kept place cell spots old new a b keeps =
    let x = keeps.apart place.first.at 4096 a in
    let y = keeps.apart place.second.at 4096 b in
    (λ i. content_in cell (newer (valid_side (x i)) (valid_side (y i)) (x i) (y i)))

pub ages_sum : (m n : ℕ) (place : BankPlace) (old middle new : List ℕ) → AgesAtMost m place old middle → AgesAtMost n place middle new → AgesAtMost (m + n) place old new
ages_sum m n place old middle new f g = record { kept = omega (arith, f.kept, g.kept); most = omega (arith, f.most, g.most) }

-- a call keeps the sizes of the flash, and so the place of a bank
calls_sizes : (spots : List (ℕ × ℕ)) (end : End) (a b : FlashState) → Calls spots end a b → b.geometry ≡ a.geometry
calls_sizes spots Went a b f = f.passes.geometry
calls_sizes spots WentOff a b f = f.passes.geometry
calls_sizes spots (Failed operation) a b f = f.passes.geometry

pub fits_kept : (place : BankPlace) (spots : List (ℕ × ℕ)) (end : End) (a b : FlashState) → Calls spots end a b → Fits place a.geometry → Fits place b.geometry
fits_kept place spots end a b f fits = subst (Fits place) (sym (calls_sizes spots end a b f)) fits
