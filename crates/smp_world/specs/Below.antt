-- What the laws of the crates below say, as the proofs of this one take it.
use Rattle.std.specs.Prelude.{◌≡◌, ◌↔◌, ◌⊎◌, ◌∷◌, ◌++◌, ℕ, List, Option, Result, IsSome, false, option_map}
use Rattle.smp_flash.specs.Memory.{Memory, told_by}
use Rattle.smp_flash.specs.State.{FlashState}
use Rattle.smp_header.specs.Message.{packet}
use Rattle.smp_upload.specs.declared.states.UploadFault.{UploadFault}
use Rattle.smp_device.specs.Arming.{BootComes, IsReady, IsTelling, PacketComes, TellsArmed, armed_in}
use Rattle.smp_device.specs.Goings.{Armed, armed_by}
use Rattle.smp_device.specs.Handling.{DeviceState, Handles}
use Rattle.smp_device.specs.Starting.{Restarts}
use Rattle.smp_device.specs.declared.answering.Down.{Down}
use Rattle.smp_device.specs.declared.answering.Handled.{Handled}
use Rattle.smp_model.specs.declared.device.AbstractDevice.{AbstractDevice}
use Rattle.smp_model.specs.declared.device.Sizes.{Sizes}
use Rattle.smp_model.specs.declared.device.Upload.{Upload}
use Rattle.smp_model.specs.Does.{does}
use Rattle.smp_model.specs.Due.{IsStepDue}
use Rattle.smp_model.specs.FlashUse.{uses_images, uses_saved}
use Rattle.smp_model.specs.Laws.{EachStep, GoodUpload, IsAboutImages, IsOffSides, IsNoSave, SameImages}
use Rattle.smp_model.specs.Meant.{Meant, save}
use Rattle.smp_model.specs.Steps.{Step, Part, applied}
use Rattle.smp_model.specs.Uploads.{uploaded_image}
use Rattle.smp_reply.specs.Laws.{RepliesAreTold}
use Rattle.smp_request.specs.Laws.{RequestsAreMeant}

-- each step of a request is due
abbrev pub StepsAreDue : Type 0
StepsAreDue = (sizes : Sizes) (d : AbstractDevice) (m : Meant) (front : List Step) (step : Step) (rest : List Step)
    → (does sizes d m).steps ≡ front ++ step ∷ rest → IsStepDue sizes d.target m (applied front d) step

-- only a save saves
abbrev pub OnlySaves : Type 0
OnlySaves = (sizes : Sizes) (d e : AbstractDevice) (m : Meant) → Part d (does sizes d m).steps e → (e.saved ≡ d.saved) ⊎ ((m ≡ save) × (e.saved ≡ d.running))

-- a request that does not come to the flash has no step on a side, or none that saves
pub record StepsNeedFlash : Type 0 where
  pub images : (sizes : Sizes) (d : AbstractDevice) (m : Meant) → uses_images sizes d m ≡ false → EachStep IsOffSides (does sizes d m).steps
  pub saved : (sizes : Sizes) (d : AbstractDevice) (m : Meant) → uses_saved m ≡ false → EachStep IsNoSave (does sizes d m).steps

-- the laws on requests, on replies and on what the device does
pub record LawsBelow : Type 0 where
  pub requests : RequestsAreMeant
  pub replies : RepliesAreTold
  pub due : StepsAreDue
  -- an upload with an image is good
  pub good : (u : Option Upload) → GoodUpload u ↔ IsSome (uploaded_image u)
  -- a request that is not about images leaves the sides
  pub images : (sizes : Sizes) (d e : AbstractDevice) (m : Meant) → (IsAboutImages m → ⊥) → Part d (does sizes d m).steps e → SameImages d e

-- what the device says of packets and boots, by what is armed
pub record DeviceGoes : Type 0 where
  pub packets : (bytes : List ℕ) (old new : DeviceState) (d : AbstractDevice) (held out : List ℕ) (result : Result Handled Down) (a b : FlashState)
      → IsReady old d held a → new.places ≡ old.places → Handles bytes old new out result a b
      → PacketComes (packet bytes) d held old new out result a b
  pub boots : (old new : DeviceState) (result : Result (Unit {0}) UploadFault) (d : AbstractDevice) (held : List ℕ) (a b : FlashState)
      → IsReady old d held a → new.places ≡ old.places → Restarts result old.places new a b
      → BootComes d held new result a b
  pub told : (armed : Option Armed) (a : FlashState) → TellsArmed armed a → armed_in a ≡ armed
  pub telling : (armed : Option Armed) (a : FlashState) → TellsArmed armed a → IsTelling a
  pub memory : (m : Memory) → TellsArmed (option_map armed_by m.arm) (told_by m)
