-- What is durable of a device moves by the steps that were taken, whatever event they were taken in.
use Rattle.std.proofs.Common.{◌≡◌, inl, inr, ℕ, zero, suc, List, [], ◌∷◌, ◌++◌, Option, Some, None, Result, Ok, Err, refl, sym, ap, subst, ◌∙◌, append-nil}
use Rattle.smp_flash.specs.declared.arm.ArmKind.{ArmKind}
use Rattle.smp_flash.specs.declared.arm.ArmKind.TheVariants as arms
use Rattle.smp_model.specs.declared.device.AbstractDevice.{AbstractDevice}
use Rattle.smp_model.specs.declared.device.Counters.{Counters}
use Rattle.smp_model.specs.declared.device.Side.{Side}
use Rattle.smp_model.specs.Sides.{side_apply}
use Rattle.smp_model.specs.declared.device.Sizes.{Sizes}
use Rattle.smp_model.specs.Does.{does}
use Rattle.smp_model.specs.Meant.{Meant, reset}
use Rattle.smp_model.specs.Said.{Said}
use Rattle.smp_model.specs.Steps.{Change, write_setting, delete_setting, load_settings, begin_file, append_file, aim_at, Step, OnSide, Save, Run, side_at, with_side, apply, applied, changed, start, counted}
use Rattle.smp_device.specs.Goings.{Armed, Durable, durable, Went, Goes, after_going, counted_if, Booted, Boots, BootEnd, ended_by, after_boot, booted_by}
use Rattle.smp_world.specs.Comings.{Came, Comes, after_coming, booted_if, steps_of_boot, BootsAfter}
use Rattle.smp_model.specs.Handled.{is_reset}

abbrev pub with_counters : Counters → AbstractDevice → AbstractDevice
with_counters x d = record d { counters = x }

change_apart : (c : Change) (x : Counters) (d : AbstractDevice) → changed c (with_counters x d) ≡ with_counters x (changed c d)
change_apart (write_setting name val) x d = refl
change_apart (delete_setting name) x d = refl
change_apart load_settings x d = refl
change_apart (begin_file name announced part) x d = refl
change_apart (append_file name part) x d = refl
change_apart (aim_at image) x d = refl

side_apart : (i : ℕ) (f : Side → Side) (x : Counters) (d : AbstractDevice) → with_side i f (with_counters x d) ≡ with_counters x (with_side i f d)
side_apart zero f x d = refl
side_apart (suc zero) f x d = refl
side_apart (suc (suc n)) f x d = refl

pub step_apart : (s : Step) (x : Counters) (d : AbstractDevice) → apply s (with_counters x d) ≡ with_counters x (apply s d)
step_apart (OnSide i t) x d = side_apart i (side_apply t) x d
step_apart Save x d = refl
step_apart (Run change) x d = change_apart change x d

-- steps do not read the counters
pub steps_apart : (steps : List Step) (x : Counters) (d : AbstractDevice) → applied steps (with_counters x d) ≡ with_counters x (applied steps d)
steps_apart [] x d = refl
steps_apart (s ∷ steps) x d = ap (applied steps) (step_apart s x d) ∙ steps_apart steps x (apply s d)

pub durable_counted : (r : Option Said) (steps : List Step) (d : AbstractDevice) → durable (applied steps (counted_if r d)) ≡ durable (applied steps d)
durable_counted None steps d = refl
durable_counted (Some r) steps d = ap durable (steps_apart steps (counted r d).counters d)

pub applied_more : (one two : List Step) (d : AbstractDevice) → applied (one ++ two) d ≡ applied two (applied one d)
applied_more [] two d = refl
applied_more (s ∷ one) two d = applied_more one two (apply s d)

pub ended_cut_or_fault : (k : ArmKind) (taken : List Step) (d : AbstractDevice) → durable (booted_by (ended_by k) taken d) ≡ durable (applied taken d)
ended_cut_or_fault arms.Cut taken d = refl
ended_cut_or_fault arms.Fail taken d = refl
ended_cut_or_fault arms.Read taken d = refl

pub boot_durable : (h : Option Armed) (d : AbstractDevice) (b : Booted) → Boots h d b → durable (after_boot b d) ≡ durable (applied b.taken d)
boot_durable h d b (inl p) =
    subst (λ (e : BootEnd). durable (booted_by e b.taken d) ≡ durable (applied b.taken d)) (sym p.ended)
    (subst (λ (t : List Step). durable (start d) ≡ durable (applied t d)) (sym p.taken) refl)
boot_durable h d b (inr p) =
    subst (λ (e : BootEnd). durable (booted_by e b.taken d) ≡ durable (applied b.taken d)) (sym p.ended) (ended_cut_or_fault p.arm.kind b.taken d)

abbrev pub means : Meant → Result Meant ℕ
means m = Ok m

abbrev pub fails : ℕ → Result Meant ℕ
fails number = Err number

-- what a reset does before its boot
pub reset_steps : (sizes : Sizes) (h : Option Armed) (d : AbstractDevice) (w : Went) → Goes sizes h d (Ok reset) w → w.taken ≡ []
reset_steps sizes h d w (inl p) = p.taken
reset_steps sizes h d w (inr p) = front_of_none w.taken p.rest (subst (λ (m : Meant). (does sizes d m).steps ≡ w.taken ++ p.rest) (same p.request p.means) p.split)
  where
    same : (m : Meant) → means reset ≡ means m → m ≡ reset
    same m e = cc

    front_of_none : (front rest : List Step) → [] ≡ front ++ rest → front ≡ []
    front_of_none [] rest e = refl
    front_of_none (x ∷ front) rest e = cc

-- a boot follows a reset alone
pub boot_after_reset : (mm : Result Meant ℕ) (h : Option Armed) (d : AbstractDevice) (b : Booted) → BootsAfter (is_reset mm) h d (Some b) → (mm ≡ Ok reset) × Boots h d b
boot_after_reset (Ok reset) h d b k = (refl, k)
boot_after_reset mm h d b k = absurd k

pub going_durable : (w : Went) (d : AbstractDevice) → durable (after_going w d) ≡ durable (applied w.taken d)
going_durable w d = durable_counted w.reply [] (applied w.taken d)

pub came_durable : (sizes : Sizes) (h : Option Armed) (d : AbstractDevice) (mm : Result Meant ℕ) (c : Came) → Comes sizes h d mm c
    → durable (after_coming c d) ≡ durable (applied (c.went.taken ++ steps_of_boot c.boot) d)
came_durable sizes h d mm c k = by_boot c.boot k.boots
  where
    by_boot : (b : Option Booted) → BootsAfter (is_reset mm) c.went.armed (after_going c.went d) b
        → durable (booted_if b (after_going c.went d)) ≡ durable (applied (c.went.taken ++ steps_of_boot b) d)
    by_boot None e = going_durable c.went d ∙ ap (λ (t : List Step). durable (applied t d)) (sym (append-nil c.went.taken))
    by_boot (Some b) e =
        boot_durable c.went.armed (after_going c.went d) b (boot_after_reset mm c.went.armed (after_going c.went d) b e).1
        ∙ durable_counted c.went.reply b.taken (applied c.went.taken d)
        ∙ ap durable (sym (applied_more c.went.taken b.taken d))

-- devices alike in what is durable have the same sides
pub side_alike : (i : ℕ) (d e : AbstractDevice) → durable e ≡ durable d → side_at i e ≡ side_at i d
side_alike zero d e h = ap (λ (x : Durable). some x.first) h
  where
    some : Side → Option Side
    some s = Some s
side_alike (suc zero) d e h = ap (λ (x : Durable). x.second) h
side_alike (suc (suc n)) d e h = refl
