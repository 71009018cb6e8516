-- Regions by what they count: whatever changes what is durable, saves, or steps on the sides.
use Rattle.std.proofs.Common.{◌≡◌, ◌∷◌, inl, inr, List, [], ℕ, refl}
use Rattle.smp_flash.specs.declared.region.Region.{Region}
use Rattle.smp_flash.specs.declared.region.Region.TheVariants as regions
use Rattle.smp_model.specs.declared.device.AbstractDevice.{AbstractDevice}
use Rattle.smp_model.specs.declared.device.Sizes.{Sizes}
use Rattle.smp_model.specs.FlashUse.{uses_images, uses_saved}
use Rattle.smp_model.specs.Laws.{EachStep}
use Rattle.smp_model.specs.Meant.{Meant}
use Rattle.smp_model.specs.Sides.{SideStep}
use Rattle.smp_model.specs.Steps.{Change, Step, OnSide, Save, Run, apply}
use Rattle.smp_device.specs.Goings.{reaches, IsCounted, AreCounted, BringNearer}
use Rattle.smp_world.specs.Laws.{Counts}
use Rattle.smp_world.specs.Runs.{Moment}

-- a region that counts steps, one by one
pub record CountsSteps (g : Region) : Type 0 where
  pub of_steps : (d : AbstractDevice) (steps : List Step) → BringNearer g d steps → AreCounted g d steps
  pub by_steps : (d : AbstractDevice) (steps : List Step) → AreCounted g d steps → BringNearer g d steps
  pub of_moments : (d : AbstractDevice) (m : Moment) → Counts g d m → AreCounted g d m.taken
  pub no_change : (d : AbstractDevice) (c : Change) → IsCounted g d (Run c) → ⊥

pub record CountsSaves (g : Region) : Type 0 where
  pub steps : CountsSteps g
  pub reached : (sizes : Sizes) (d : AbstractDevice) (m : Meant) → reaches sizes d g m ≡ uses_saved m
  pub no_side : (d : AbstractDevice) (i : ℕ) (t : SideStep) → IsCounted g d (OnSide i t) → ⊥

pub record CountsSides (g : Region) : Type 0 where
  pub steps : CountsSteps g
  pub reached : (sizes : Sizes) (d : AbstractDevice) (m : Meant) → reaches sizes d g m ≡ uses_images sizes d m
  pub no_save : (d : AbstractDevice) → IsCounted g d Save → ⊥

pub data Counting (g : Region) : Type 0 where
  counts_all : g ≡ regions.Any → Counting g
  counts_saves : CountsSaves g → Counting g
  counts_sides : CountsSides g → Counting g

pub counting : (g : Region) → Counting g
counting regions.Any = counts_all refl
counting regions.Settings = counts_saves (record { steps = record { of_steps = λ d t h. h; by_steps = λ d t h. h; of_moments = λ d m h. h; no_change = λ d c h. h }; reached = λ z d m. refl; no_side = λ d i t h. h })
counting regions.SettingsGate = counts_saves (record { steps = record { of_steps = λ d t h. h; by_steps = λ d t h. h; of_moments = λ d m h. h; no_change = λ d c h. h }; reached = λ z d m. refl; no_side = λ d i t h. h })
counting regions.Slot0 = counts_sides (record { steps = record { of_steps = λ d t h. h; by_steps = λ d t h. h; of_moments = λ d m h. h; no_change = λ d c h. h }; reached = λ z d m. refl; no_save = λ d h. h })
counting regions.Slot1 = counts_sides (record { steps = record { of_steps = λ d t h. h; by_steps = λ d t h. h; of_moments = λ d m h. h; no_change = λ d c h. h }; reached = λ z d m. refl; no_save = λ d h. h })
counting regions.Progress = counts_sides (record { steps = record { of_steps = λ d t h. h; by_steps = λ d t h. h; of_moments = λ d m h. h; no_change = λ d c h. h }; reached = λ z d m. refl; no_save = λ d h. h })
counting regions.ProgressGate = counts_sides (record { steps = record { of_steps = λ d t h. h; by_steps = λ d t h. h; of_moments = λ d m h. h; no_change = λ d c h. h }; reached = λ z d m. refl; no_save = λ d h. h })
counting regions.Scratch = counts_sides (record { steps = record { of_steps = λ d t h. h; by_steps = λ d t h. h; of_moments = λ d m h. h; no_change = λ d c h. h }; reached = λ z d m. refl; no_save = λ d h. h })
counting regions.Slot2 = counts_sides (record { steps = record { of_steps = λ d t h. h; by_steps = λ d t h. h; of_moments = λ d m h. h; no_change = λ d c h. h }; reached = λ z d m. refl; no_save = λ d h. h })
counting regions.Slot3 = counts_sides (record { steps = record { of_steps = λ d t h. h; by_steps = λ d t h. h; of_moments = λ d m h. h; no_change = λ d c h. h }; reached = λ z d m. refl; no_save = λ d h. h })
counting regions.Progress2 = counts_sides (record { steps = record { of_steps = λ d t h. h; by_steps = λ d t h. h; of_moments = λ d m h. h; no_change = λ d c h. h }; reached = λ z d m. refl; no_save = λ d h. h })
counting regions.Progress2Gate = counts_sides (record { steps = record { of_steps = λ d t h. h; by_steps = λ d t h. h; of_moments = λ d m h. h; no_change = λ d c h. h }; reached = λ z d m. refl; no_save = λ d h. h })
counting regions.Scratch2 = counts_sides (record { steps = record { of_steps = λ d t h. h; by_steps = λ d t h. h; of_moments = λ d m h. h; no_change = λ d c h. h }; reached = λ z d m. refl; no_save = λ d h. h })

-- what no step does, no steps bring
pub none_counted : (P : Step → Type 0) (g : Region) → ((d : AbstractDevice) (t : Step) → P t → IsCounted g d t → ⊥) → (steps : List Step) (d : AbstractDevice) → EachStep P steps → AreCounted g d steps → ⊥
none_counted P g f [] d all h = h
none_counted P g f (t ∷ steps) d all (inl h) = f d t all.0 h
none_counted P g f (t ∷ steps) d all (inr h) = none_counted P g f steps (apply t d) all.1 h
