-- A request that a trouble in a region cannot strike brings no trouble there nearer.
use Rattle.std.proofs.Common.{◌≡◌, ◌∷◌, ◌∙◌, ◌||◌, List, [], Bool, true, false, refl, sym, subst}
use Rattle.smp_flash.specs.declared.region.Region.{Region}
use Rattle.smp_flash.specs.declared.region.Region.TheVariants as regions
use Rattle.smp_model.specs.declared.device.AbstractDevice.{AbstractDevice}
use Rattle.smp_model.specs.declared.device.Sizes.{Sizes}
use Rattle.smp_model.specs.Does.{does}
use Rattle.smp_model.specs.FlashUse.{uses_images, uses_saved}
use Rattle.smp_model.specs.Laws.{EachStep, IsOffSides, IsNoSave}
use Rattle.smp_model.specs.Meant.{Meant}
use Rattle.smp_model.specs.Steps.{Change, write_setting, delete_setting, load_settings, begin_file, append_file, aim_at, Step, OnSide, Save, Run, apply, applied, changed}
use Rattle.smp_device.specs.Goings.{durable, reaches, IsCounted, AreCounted, BringNearer}
use Rattle.smp_world.specs.Below.{StepsNeedFlash}
use Rattle.smp_world.proofs.Counting.{CountsSaves, CountsSides, Counting, counts_all, counts_saves, counts_sides, counting, none_counted}

-- a step of neither leaves what is durable
change_durable : (c : Change) (d : AbstractDevice) → durable (changed c d) ≡ durable d
change_durable (write_setting name val) d = refl
change_durable (delete_setting name) d = refl
change_durable load_settings d = refl
change_durable (begin_file name announced part) d = refl
change_durable (append_file name part) d = refl
change_durable (aim_at image) d = refl

volatile_durable : (steps : List Step) (d : AbstractDevice) → EachStep IsOffSides steps → EachStep IsNoSave steps → durable (applied steps d) ≡ durable d
volatile_durable [] d off kept = refl
volatile_durable (Run c ∷ steps) d off kept = volatile_durable steps (apply (Run c) d) off.1 kept.1 ∙ change_durable c d
volatile_durable (OnSide i t ∷ steps) d off kept = absurd off.0
volatile_durable (Save ∷ steps) d off kept = absurd kept.0

-- steps off the sides, and steps that save nothing
sides_uncounted : (g : Region) → CountsSides g → (steps : List Step) (d : AbstractDevice) → EachStep IsOffSides steps → AreCounted g d steps → ⊥
sides_uncounted g k = none_counted IsOffSides g by_step
  where
    by_step : (d : AbstractDevice) (t : Step) → IsOffSides t → IsCounted g d t → ⊥
    by_step d (OnSide i t) off h = off
    by_step d Save off h = k.no_save d h
    by_step d (Run c) off h = k.steps.no_change d c h

saves_uncounted : (g : Region) → CountsSaves g → (steps : List Step) (d : AbstractDevice) → EachStep IsNoSave steps → AreCounted g d steps → ⊥
saves_uncounted g k = none_counted IsNoSave g by_step
  where
    by_step : (d : AbstractDevice) (t : Step) → IsNoSave t → IsCounted g d t → ⊥
    by_step d (OnSide i t) kept h = k.no_side d i t h
    by_step d Save kept h = kept
    by_step d (Run c) kept h = k.steps.no_change d c h

neither : (a b : Bool) → (a || b) ≡ false → (a ≡ false) × (b ≡ false)
neither false false e = (refl, refl)
neither false true e = cc
neither true b e = cc

unreached_anywhere : StepsNeedFlash → (sizes : Sizes) (d : AbstractDevice) (m : Meant) → reaches sizes d regions.Any m ≡ false → BringNearer regions.Any d (does sizes d m).steps → ⊥
unreached_anywhere law sizes d m r h =
    let tests = neither (uses_saved m) (uses_images sizes d m) r in
    h (volatile_durable (does sizes d m).steps d (law.images sizes d m tests.1) (law.saved sizes d m tests.0))

pub unreached : StepsNeedFlash → (sizes : Sizes) (g : Region) (d : AbstractDevice) (m : Meant) → reaches sizes d g m ≡ false → BringNearer g d (does sizes d m).steps → ⊥
unreached law sizes g d m r h = by_counting (counting g)
  where
    by_counting : Counting g → ⊥
    by_counting (counts_all is) =
        unreached_anywhere law sizes d m (subst (λ (x : Region). reaches sizes d x m ≡ false) is r) (subst (λ (x : Region). BringNearer x d (does sizes d m).steps) is h)
    by_counting (counts_saves k) =
        saves_uncounted g k (does sizes d m).steps d (law.saved sizes d m (sym (k.reached sizes d m) ∙ r)) (k.steps.of_steps d (does sizes d m).steps h)
    by_counting (counts_sides k) =
        sides_uncounted g k (does sizes d m).steps d (law.images sizes d m (sym (k.reached sizes d m) ∙ r)) (k.steps.of_steps d (does sizes d m).steps h)
