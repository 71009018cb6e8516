-- What an operation that is not struck leaves armed.
use Rattle.std.proofs.Common.{◌≡◌, ◌⊎◌, inl, inr, ℕ, ◌-◌, ◌≤◌, Bool, true, false, Option, Some, None, refl, sym, ◌∙◌, ap, subst, arith, eqb, ◌≢◌}
use Rattle.std.specs.Prelude.{if◌then◌else◌, ◌==◌}
use Rattle.std.specs.Option.{ForSome}
use Rattle.std.proofs.lemmas.Bool.{cases_eq}
use Rattle.std.proofs.lemmas.Bool.Decides.{nat_tests}
use Rattle.smp_flash.specs.Arm.{troubles_of, aim_of, patience_of, struck_by, rest_of}
use Rattle.smp_flash.specs.State.{FlashState}
use Rattle.smp_flash.specs.State.End.{Went}
use Rattle.smp_flash.specs.Calls.{Smaller, NoGreater, ReadsAtMost, ChangesAtMost, writes_of, erases_of, Spends, Acts}
use Rattle.smp_flash.specs.declared.flash.Operation.{Operation}
use Rattle.smp_flash.specs.declared.region.Region.{Region}
use Rattle.smp_flash.specs.declared.region.Region.TheVariants.{Any}
use Rattle.smp_flash.specs.declared.arm.Arm.{Arm}
use Rattle.smp_flash.specs.declared.arm.ArmKind.{ArmKind}
use Rattle.smp_flash.specs.declared.arm.ArmKind.TheVariants.{Cut, Fail, Read}
use Rattle.smp_flash.specs.declared.arm.Left.{Left}

-- the same is told, but for the patience
pub record Unstruck (costs : Bool) (arm rest : Option Arm) : Type 0 where
  pub troubles : troubles_of rest ≡ troubles_of arm
  pub aim : aim_of rest ≡ aim_of arm
  pub spends : Spends costs (patience_of arm) (patience_of rest)

-- an arm of a change that is due and does not strike
unstruck_due : (kind : ArmKind) (region : Region) (after : ℕ) (left : Left) (costs : Bool)
    → let arm : Arm = record { kind = kind; region = region; after = after; left = left } in
    let rest : Arm = record { kind = kind; region = region; after = after - 1; left = left } in
    (after ≢ 1 → Unstruck costs (Some arm) (Some rest))
    → (if after == 1 then Some arm else None) ≡ None → Unstruck costs (Some arm) (if after == 1 then None else Some rest)
unstruck_due kind region after left costs told none = elim (cases_eq after 1) [
  | inl is ↦ let t : eqb after 1 ≡ true = grind (arith, nat_tests) in absurd (cc (rw t at none))
  | inr not ↦ let t : eqb after 1 ≡ false = grind (arith, nat_tests) in rw t (told not)
]

unstruck_change : (counted : Bool) (kind : ArmKind) (region : Region) (after : ℕ) (left : Left)
    → let arm : Arm = record { kind = kind; region = region; after = after; left = left } in
    1 ≤ after → struck_by counted false (Some arm) ≡ None → Unstruck counted (Some arm) (rest_of counted false (Some arm))
unstruck_change false Cut region after left le none = record { troubles = refl; aim = refl; spends = refl }
unstruck_change false Fail region after left le none = record { troubles = refl; aim = refl; spends = refl }
unstruck_change false Read region after left le none = record { troubles = refl; aim = refl; spends = tt }
unstruck_change true Read region after left le none = record { troubles = refl; aim = refl; spends = tt }
unstruck_change true Cut region after left le none =
    unstruck_due Cut region after left true (λ not. record { troubles = refl; aim = refl; spends = omega arith }) none
unstruck_change true Fail region after left le none =
    unstruck_due Fail region after left true (λ not. record { troubles = refl; aim = refl; spends = omega arith }) none

-- a write or an erase that goes through
pub change_unstruck : (counted : Bool) (armed : Option Arm) → ForSome armed (λ arm. 1 ≤ arm.after) → struck_by counted false armed ≡ None
    → Unstruck counted armed (rest_of counted false armed)
change_unstruck counted None le none = record { troubles = refl; aim = refl; spends = tt }
change_unstruck counted (Some arm) le none = unstruck_change counted arm.kind arm.region arm.after arm.left (le arm refl) none

unstruck_read : (counted : Bool) (kind : ArmKind) (region : Region) (after : ℕ) (left : Left)
    → let arm : Arm = record { kind = kind; region = region; after = after; left = left } in
    struck_by counted true (Some arm) ≡ None → Unstruck false (Some arm) (rest_of counted true (Some arm))
unstruck_read false Cut region after left none = record { troubles = refl; aim = refl; spends = refl }
unstruck_read false Fail region after left none = record { troubles = refl; aim = refl; spends = refl }
unstruck_read false Read region after left none = record { troubles = refl; aim = refl; spends = tt }
unstruck_read true Cut region after left none = record { troubles = refl; aim = refl; spends = refl }
unstruck_read true Fail region after left none = record { troubles = refl; aim = refl; spends = refl }
unstruck_read true Read region after left none = unstruck_due Read region after left false (λ not. record { troubles = refl; aim = refl; spends = tt }) none

-- a read that goes through
pub read_unstruck : (counted : Bool) (armed : Option Arm) → struck_by counted true armed ≡ None → Unstruck false armed (rest_of counted true armed)
read_unstruck counted None none = record { troubles = refl; aim = refl; spends = tt }
read_unstruck counted (Some arm) none = unstruck_read counted arm.kind arm.region arm.after arm.left none

Smaller-spent : (p q : Option ℕ) → Spends true p q → Smaller p q
Smaller-spent None None s = tt
Smaller-spent None (Some q) s = absurd s
Smaller-spent (Some p) None s = absurd s
Smaller-spent (Some p) (Some q) s = omega arith

NoGreater-spent : (counted : Bool) (p q : Option ℕ) → Spends counted p q → NoGreater p q
NoGreater-spent counted None None s = tt
NoGreater-spent true None (Some q) s = absurd s
NoGreater-spent false None (Some q) s = absurd s
NoGreater-spent true (Some p) None s = absurd s
NoGreater-spent false (Some p) None s = absurd s
NoGreater-spent true (Some p) (Some q) s = omega arith
NoGreater-spent false (Some p) (Some q) s = omega arith

Same-spent : (p q : Option ℕ) → Spends false p q → q ≡ p
Same-spent None None s = refl
Same-spent None (Some q) s = absurd s
Same-spent (Some p) None s = absurd s
Same-spent (Some p) (Some q) s = ap Some s

-- an operation that goes through
pub Acts-went : (counted costs : Bool) (reads : ℕ) (operation : Operation) (a b : FlashState) → b.geometry ≡ a.geometry → b.faults ≡ a.faults → b.on ≡ a.on → a.on ≡ true
    → b.troubles ≡ a.troubles → b.aim ≡ a.aim → Spends costs a.patience b.patience
    → (counted ≡ false → costs ≡ false) → (a.aim ≡ Some Any → (b.bytes ≡ a.bytes) ⊎ (costs ≡ true))
    → ReadsAtMost reads a.bytes_read b.bytes_read → ChangesAtMost (writes_of operation) (erases_of operation) a.changes b.changes
    → Acts counted costs reads operation Went a b
Acts-went counted costs reads operation a b geometry faults on was_on troubles aim spends only any read changes = record {
  passes = record {
    idle = λ off. absurd (cc (was_on, off));
    geometry = geometry;
    faults = faults;
    on = on;
    troubles = troubles;
    aim = aim;
    patience = NoGreater-spent costs a.patience b.patience spends;
    costs = λ is. elim (any is) [
      | inl same ↦ inl same
      | inr all ↦ inr (let P : Bool → Type 0 = λ c. Spends c a.patience b.patience in Smaller-spent a.patience b.patience (subst P all spends))
    ];
  };
  awake = λ off. absurd (cc (was_on, off));
  spends = λ e. spends;
  spared = λ none. record { troubles = troubles; aim = aim; patience = (let P : Bool → Type 0 = λ c. Spends c a.patience b.patience in Same-spent a.patience b.patience (subst P (only none) spends)) };
  reads = read;
  changes = changes;
}

-- as the code finds it
pub change_told : (counted real : Bool) (armed rest struck : Option Arm) → ForSome armed (λ arm. 1 ≤ arm.after) → counted ≡ real
    → struck ≡ struck_by counted false armed → struck ≡ None → rest ≡ rest_of counted false armed → Unstruck real armed rest
change_told counted real armed rest struck le is by none left =
    let P : Bool → Option Arm → Type 0 = λ c r. Unstruck c armed r in
    subst (λ (c : Bool). P c rest) is (subst (P counted) (sym left) (change_unstruck counted armed le (sym by ∙ none)))

pub read_told : (counted : Bool) (armed rest struck : Option Arm) → struck ≡ struck_by counted true armed → struck ≡ None
    → rest ≡ rest_of counted true armed → Unstruck false armed rest
read_told counted armed rest struck by none left =
    let P : Option Arm → Type 0 = λ r. Unstruck false armed r in
    subst P (sym left) (read_unstruck counted armed (sym by ∙ none))
