-- What becomes of what is armed, by how a call on the flash ended.
use Rattle.std.proofs.Common.{◌≡◌, ℕ, ◌<◌, ◌≤◌, Option, Some, None, List, refl, sym, ◌∙◌, ap, subst, arith}
use Rattle.smp_flash.specs.Arm.{aim_of, patience_of, troubles_of}
use Rattle.smp_flash.specs.Calls.{Goes, Lowers, NoGreater, Smaller, Undisturbed}
use Rattle.smp_flash.specs.Region.{Spares}
use Rattle.smp_flash.specs.State.{FlashState, Troubles, End}
use Rattle.smp_flash.specs.State.End.{WentOff, Failed}
use Rattle.smp_flash.specs.declared.arm.Arm.{Arm}
use Rattle.smp_flash.specs.declared.arm.ArmKind.{ArmKind}
use Rattle.smp_flash.specs.declared.arm.ArmKind.TheVariants as arms
use Rattle.smp_flash.specs.declared.arm.Left.{Left}
use Rattle.smp_flash.specs.declared.flash.Operation.TheVariants.{Read, Write, Erase}
use Rattle.smp_flash.specs.declared.region.Region.{Region}
use Rattle.std.specs.Prelude.{option_map}
use Rattle.smp_model.specs.declared.device.AbstractDevice.{AbstractDevice}
use Rattle.smp_model.specs.Steps.{Step}
use Rattle.smp_device.specs.Arming.{IsPatience, IsTelling, TellsArmed, armed_in, armed_told, no_troubles, one_trouble}
use Rattle.smp_device.specs.Goings.{Armed, BringNearer, IfOfChanges, StaysArmed, armed_by}

-- What is told is what is armed.

told_kind : (kind : ArmKind) (region : Region) (passes : ℕ) (patience : Option ℕ) → IsPatience kind passes patience
    → armed_told (Some (one_trouble kind)) (Some region) patience ≡ Some (record { kind = kind; region = region; passes = passes })
told_kind arms.Cut region passes patience is = ap (λ (p : Option ℕ). armed_told (Some (one_trouble arms.Cut)) (Some region) p) is
told_kind arms.Fail region passes patience is = ap (λ (p : Option ℕ). armed_told (Some (one_trouble arms.Fail)) (Some region) p) is
told_kind arms.Read region passes patience is =
    ap (λ (p : Option ℕ). armed_told (Some (one_trouble arms.Read)) (Some region) p) is.0
    ∙ ap (λ (n : ℕ). Some (record { kind = arms.Read; region = region; passes = n })) (sym is.1)

pub is_told : (armed : Option Armed) (a : FlashState) → TellsArmed armed a → armed_in a ≡ armed
is_told None a t = ap (λ (x : Option Troubles). armed_told x a.aim a.patience) t
is_told (Some arm) a t =
    (λ i. armed_told (t.0 i) (t.1 i) a.patience) ∙ told_kind arm.kind arm.region arm.passes a.patience t.2

pub is_telling : (armed : Option Armed) (a : FlashState) → TellsArmed armed a → IsTelling a
is_telling armed a t = subst (λ (o : Option Armed). TellsArmed o a) (sym (is_told armed a t)) t

-- A flash in memory tells it.

memory_kind : (a : FlashState) (kind : ArmKind) (region : Region) (after : ℕ) (left : Left)
    → a.troubles ≡ Some (troubles_of (Some (record { kind = kind; region = region; after = after; left = left }))) → a.aim ≡ Some region
    → a.patience ≡ patience_of (Some (record { kind = kind; region = region; after = after; left = left }))
    → TellsArmed (Some (armed_by (record { kind = kind; region = region; after = after; left = left }))) a
memory_kind a arms.Cut region after left t m p = (t, m, p)
memory_kind a arms.Fail region after left t m p = (t, m, p)
memory_kind a arms.Read region after left t m p = (t, m, (p, refl))

pub memory_told : (arm : Option Arm) (a : FlashState) → a.troubles ≡ Some (troubles_of arm) → a.aim ≡ aim_of arm → a.patience ≡ patience_of arm → TellsArmed (option_map armed_by arm) a
memory_told None a t m p = t
memory_told (Some arm) a t m p = memory_kind a arm.kind arm.region arm.after arm.left t m p

-- After a call that went through it stays.

-- with its patience after the call
pub record Patience (kind : ArmKind) (n : ℕ) (p q : Option ℕ) : Type 0 where
  pub passes : ℕ
  pub most : passes ≤ n
  pub is : IsPatience kind passes q
  pub less : IfOfChanges kind (Smaller p q → passes < n)

none_greater : (n : ℕ) (p : Option ℕ) → p ≡ Some n → NoGreater p None → ⊥
none_greater n p e f = subst (λ (x : Option ℕ). NoGreater x None) e f

no_greater : (n k : ℕ) (p : Option ℕ) → p ≡ Some n → NoGreater p (Some k) → k ≤ n
no_greater n k p e f = subst (λ (x : Option ℕ). NoGreater x (Some k)) e f

smaller : (n k : ℕ) (p : Option ℕ) → p ≡ Some n → Smaller p (Some k) → k < n
smaller n k p e f = subst (λ (x : Option ℕ). Smaller x (Some k)) e f

still_none : (p q : Option ℕ) → p ≡ None → NoGreater p q → q ≡ None
still_none p None e f = refl
still_none p (Some k) e f = absurd (subst (λ (x : Option ℕ). NoGreater x (Some k)) e f)

patience_after : (kind : ArmKind) (n : ℕ) (p q : Option ℕ) → IsPatience kind n p → NoGreater p q → Patience kind n p q
patience_after arms.Cut n p None is le = absurd (none_greater n p is le)
patience_after arms.Cut n p (Some k) is le = record { passes = k; most = no_greater n k p is le; is = refl; less = λ f. smaller n k p is f }
patience_after arms.Fail n p None is le = absurd (none_greater n p is le)
patience_after arms.Fail n p (Some k) is le = record { passes = k; most = no_greater n k p is le; is = refl; less = λ f. smaller n k p is f }
patience_after arms.Read n p q is le = record { passes = 0; most = omega arith; is = (still_none p q is.0 le, refl); less = tt }

if_changes : (kind : ArmKind) (P Q : Type 0) → (P → Q) → IfOfChanges kind P → IfOfChanges kind Q
if_changes arms.Cut P Q f p = f p
if_changes arms.Fail P Q f p = f p
if_changes arms.Read P Q f p = tt

-- what is armed then
pub record Stays (armed : Option Armed) (d : AbstractDevice) (steps : List Step) (b : FlashState) : Type 0 where
  pub after : Option Armed
  pub stays : StaysArmed d steps armed after
  pub told : TellsArmed after b

pub stays_armed : (armed : Option Armed) (d : AbstractDevice) (steps : List Step) (a b : FlashState) → Goes a b → TellsArmed armed a
    → ((region : Region) → a.aim ≡ Some region → BringNearer region d steps → Smaller a.patience b.patience) → Stays armed d steps b
stays_armed None d steps a b goes told pays = record { after = None; stays = tt; told = goes.troubles ∙ told }
stays_armed (Some arm) d steps a b goes told pays =
    let p = patience_after arm.kind arm.passes a.patience b.patience told.2 goes.patience in
    record {
      after = Some (record { kind = arm.kind; region = arm.region; passes = p.passes });
      stays = record {
        kind = refl;
        region = refl;
        passes = p.most;
        fewer = if_changes arm.kind (Smaller a.patience b.patience → p.passes < arm.passes) (BringNearer arm.region d steps → p.passes < arm.passes) (λ less nearer. less (pays arm.region told.1 nearer)) p.less;
      };
      told = (goes.troubles ∙ told.0, goes.aim ∙ told.1, p.is);
    }

-- Else it struck, and is gone.

numbers : (t : Troubles) → t.cuts ≤ 0 → t.changes ≤ 0 → t.reads ≤ 0 → t ≡ no_troubles
numbers t a b c =
    let x : t.cuts ≡ 0 = omega arith in
    let y : t.changes ≡ 0 = omega arith in
    let z : t.reads ≡ 0 = omega arith in λ i. record { cuts = x i; changes = y i; reads = z i }

none_left : (t : Troubles) → t.cuts ≤ 0 → t.changes ≤ 0 → t.reads ≤ 0 → Some t ≡ Some no_troubles
none_left t a b c = ap (λ (x : Troubles). Some x) (numbers t a b c)

-- the kind that ends a call so
abbrev pub IsStruck : End → ArmKind → Type 0
IsStruck WentOff arms.Cut = Unit {0}
IsStruck (Failed Read) arms.Read = Unit {0}
IsStruck (Failed Write) arms.Fail = Unit {0}
IsStruck (Failed Erase) arms.Fail = Unit {0}
IsStruck end kind = ⊥

-- a call that ended by a trouble
abbrev pub IsBroken : End → Type 0
IsBroken WentOff = Unit {0}
IsBroken (Failed operation) = Unit {0}
IsBroken end = ⊥

fell : (end : End) (kind : ArmKind) (t : Option Troubles) → IsBroken end → Lowers end (Some (one_trouble kind)) t → IsStruck end kind × (t ≡ Some no_troubles)
fell end kind None is f = absurd f
fell WentOff arms.Cut (Some t) is f = (tt, none_left t (let h = f.0 in omega arith) (let h = f.1 in omega arith) (let h = f.2 in omega arith))
fell WentOff arms.Fail (Some t) is f = absurd (let h = f.0 in omega arith)
fell WentOff arms.Read (Some t) is f = absurd (let h = f.0 in omega arith)
fell (Failed Read) arms.Read (Some t) is f = (tt, none_left t (let h = f.0 in omega arith) (let h = f.1 in omega arith) (let h = f.2 in omega arith))
fell (Failed Read) arms.Cut (Some t) is f = absurd (let h = f.2 in omega arith)
fell (Failed Read) arms.Fail (Some t) is f = absurd (let h = f.2 in omega arith)
fell (Failed Write) arms.Fail (Some t) is f = (tt, none_left t (let h = f.0 in omega arith) (let h = f.1 in omega arith) (let h = f.2 in omega arith))
fell (Failed Write) arms.Cut (Some t) is f = absurd (let h = f.1 in omega arith)
fell (Failed Write) arms.Read (Some t) is f = absurd (let h = f.1 in omega arith)
fell (Failed Erase) arms.Fail (Some t) is f = (tt, none_left t (let h = f.0 in omega arith) (let h = f.1 in omega arith) (let h = f.2 in omega arith))
fell (Failed Erase) arms.Cut (Some t) is f = absurd (let h = f.1 in omega arith)
fell (Failed Erase) arms.Read (Some t) is f = absurd (let h = f.1 in omega arith)
fell end kind (Some t) is f = absurd is

none_falls : (end : End) (t : Option Troubles) → IsBroken end → Lowers end (Some no_troubles) t → ⊥
none_falls end None is f = f
none_falls WentOff (Some t) is f = let h = f.0 in omega arith
none_falls (Failed Read) (Some t) is f = let h = f.2 in omega arith
none_falls (Failed Write) (Some t) is f = let h = f.1 in omega arith
none_falls (Failed Erase) (Some t) is f = let h = f.1 in omega arith
none_falls end (Some t) is f = is

-- what is armed is some trouble
some_trouble : (kind : ArmKind) → no_troubles ≡ one_trouble kind → ⊥
some_trouble arms.Cut e = let h : 0 ≡ 1 = ap (λ (t : Troubles). t.cuts) e in omega (arith, h)
some_trouble arms.Fail e = let h : 0 ≡ 1 = ap (λ (t : Troubles). t.changes) e in omega (arith, h)
some_trouble arms.Read e = let h : 0 ≡ 1 = ap (λ (t : Troubles). t.reads) e in omega (arith, h)

some_same : (x y : Troubles) → Some x ≡ Some y → x ≡ y
some_same x y e = cc e

-- what was armed, of the kind that ended the call so, at a region that its operations come to; nothing is armed then
pub record Struck (armed : Option Armed) (end : End) (spots : List (ℕ × ℕ)) (a b : FlashState) : Type 0 where
  pub arm : Armed
  pub was : armed ≡ Some arm
  pub kind : IsStruck end arm.kind
  pub comes : Spares a.geometry (Some arm.region) spots → ⊥
  pub gone : TellsArmed None b

pub strikes : (armed : Option Armed) (end : End) (spots : List (ℕ × ℕ)) (a b : FlashState) → IsBroken end → Lowers end a.troubles b.troubles → (Spares a.geometry a.aim spots → Undisturbed a b) → TellsArmed armed a
    → Struck armed end spots a b
strikes None end spots a b is lowers spared told = absurd (none_falls end b.troubles is (subst (λ (t : Option Troubles). Lowers end t b.troubles) told lowers))
strikes (Some arm) end spots a b is lowers spared told =
    let f = fell end arm.kind b.troubles is (subst (λ (t : Option Troubles). Lowers end t b.troubles) told.0 lowers) in
    record {
      arm = arm;
      was = refl;
      kind = f.0;
      comes = λ spares.
          let same : Undisturbed a b = spared (subst (λ (o : Option Region). Spares a.geometry o spots) (sym told.1) spares) in
          some_trouble arm.kind (some_same no_troubles (one_trouble arm.kind) (sym f.1 ∙ same.troubles ∙ told.0));
      gone = f.1;
    }
