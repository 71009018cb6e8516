-- What came of a request about images.
use Rattle.std.specs.Prelude.{◌≡◌, ℕ, List, Option, Some, None, Result, Ok, Err, OnOk, IfErr, IfOk, IfSome, IsSomeAnd}
use Rattle.smp_flash.specs.Area.{Told}
use Rattle.smp_flash.specs.Calls.{Calls, Smaller}
use Rattle.smp_flash.specs.Layout.{progress_of}
use Rattle.smp_flash.specs.State.{FlashState}
use Rattle.smp_flash.specs.declared.layout.Layout.{Layout}
use Rattle.smp_flash.specs.declared.region.Region.{Region}
use Rattle.smp_gate.specs.Newest.{AgesAtMost, newest_generation}
use Rattle.smp_model.specs.declared.device.AbstractDevice.{AbstractDevice}
use Rattle.smp_model.specs.declared.reply.Reply.{Reply}
use Rattle.smp_model.specs.Response.{Response}
use Rattle.smp_model.specs.Said as said
use Rattle.smp_model.specs.Said.{Said, said_of}
use Rattle.smp_model.specs.Steps.{Step, applied, Part}
use Rattle.smp_progress.specs.State.{CanTake}
use Rattle.smp_upload.specs.Moves.{KeepsPending}
use Rattle.smp_upload.specs.declared.states.UploadFault.{UploadFault}
use Rattle.smp_upload.specs.declared.states.UploadFault.TheVariants as faults
use Rattle.smp_side.specs.Held.{IsAnswer, result_end}
use Rattle.smp_device.specs.Goings.{AreCounted}
use Rattle.smp_device.specs.Mounts.{FellIn, IsUnmountedAt}
use Rattle.smp_device.specs.Places.{Places, place_at, spots_of, ImagesStand, AtEach, places_of, ImagesSay}
use Rattle.smp_device.specs.declared.images.Images.{Images}

-- The bytes stand for the device after some first ones of the steps.
pub record ImagesReached (p : Places) (target : ℕ) (d : AbstractDevice) (steps : List Step) (bytes : List ℕ) : Type 0 where
  pub reached : AbstractDevice
  pub part : Part d steps reached
  pub stands : ImagesStand p target reached bytes

-- whatever device the bytes stood for
abbrev pub ImagesMove : Places → (before after : ℕ) → (AbstractDevice → Response) → List ℕ → List ℕ → Type 0
ImagesMove p before after respond old new = (d : AbstractDevice) → ImagesStand p before d old → ImagesReached p after d (respond d).steps new

-- they stand for it after all of them
abbrev pub ImagesDo : Places → (before after : ℕ) → (AbstractDevice → Response) → List ℕ → List ℕ → Type 0
ImagesDo p before after respond old new = (d : AbstractDevice) → ImagesStand p before d old → ImagesStand p after (applied (respond d).steps d) new

-- the reply is that of whatever device the bytes stand for
abbrev pub ImagesTell : Places → (before : ℕ) → (AbstractDevice → Response) → Option (List ℕ) → Reply → Type 0
ImagesTell p before respond x reply = IfSome x (λ held. (d : AbstractDevice) → ImagesStand p before d held → said_of reply ≡ (respond d).reply)

-- the record of some image can't take n more
pub record WornSomewhere (p : Places) (n : ℕ) (x : Option (List ℕ)) : Type 0 where
  pub image : ℕ
  pub layout : Layout
  pub place : place_at image p ≡ Some layout
  pub worn : IfSome x (λ held. CanTake (newest_generation (progress_of layout) held) n → ⊥)

-- why it was broken off
abbrev pub ImagesCaused : Places → ℕ → UploadFault → Option (List ℕ) → Type 0
ImagesCaused p n faults.Unformatted x = x ≡ None
ImagesCaused p n faults.Worn x = WornSomewhere p n x
ImagesCaused p n (faults.Fault operation) x = Unit {0}
ImagesCaused p n faults.Off x = Unit {0}

abbrev pub ResultCausedIn : Places → ℕ → Result Reply UploadFault → Option (List ℕ) → Type 0
ResultCausedIn p n (Ok reply) x = Unit {0}
ResultCausedIn p n (Err fault) x = ImagesCaused p n fault x

-- Where what is armed lies in a region that counts one of the steps of the device that the bytes stand for, patience was taken of it.
-- Of `Any` nothing is said here: it counts each change of a byte.
abbrev pub StepsPay : Places → (before : ℕ) → (AbstractDevice → List Step) → FlashState → FlashState → Type 0
StepsPay p before steps a b = (region : Region) (d : AbstractDevice) → a.aim ≡ Some region → IsSomeAnd a.bytes (ImagesStand p before d) → AreCounted region d (steps d) → Smaller a.patience b.patience

abbrev pub ImagesPay : Places → (before : ℕ) → (AbstractDevice → Response) → FlashState → FlashState → Type 0
ImagesPay p before respond a b = StepsPay p before (λ d. (respond d).steps) a b

-- one image is not mounted, in whose regions the fault fell
pub record LostOne (p : Places) (n : ℕ) (images : Images) (fault : UploadFault) (a b : FlashState) : Type 0 where
  pub image : ℕ
  pub unmounted : IsUnmountedAt image images
  pub fell : FellIn p n image fault a b

-- A request about images was answered by this response, or was broken off: whatever device the bytes stood for, they stand for it
-- after all its steps, or after some first ones.
pub record ImagesAnswer (p : Places) (n before : ℕ) (respond : AbstractDevice → Response) (images : Images) (result : Result Reply UploadFault) (a b : FlashState) : Type 0 where
  pub calls : Calls (spots_of p) (result_end result) a b
  pub moves : Told (ImagesMove p before images.target respond) a.bytes b.bytes
  pub done : OnOk result (Told (ImagesDo p before images.target respond) a.bytes b.bytes)
  pub said : IfOk result (ImagesTell p before respond a.bytes)
  pub says : IfSome b.bytes (ImagesSay images)
  pub places_kept : places_of images ≡ p
  pub ages : AtEach (λ l. Told (AgesAtMost n (progress_of l)) a.bytes b.bytes) p
  pub pending : AtEach (λ l. Told (KeepsPending l) a.bytes b.bytes) p
  pub caused : ResultCausedIn p n result a.bytes
  pub pays : OnOk result (ImagesPay p before respond a b)
  pub lost : IfErr result (λ fault. LostOne p n images fault a b)

-- what may be answered about images: the list, an offset, nothing to say, an error of the protocol, or one that is in the table of
-- group errors
abbrev pub IsImageReply : Said → Type 0
IsImageReply (said.images pair other) = Unit {0}
IsImageReply (said.smp_error number) = Unit {0}
IsImageReply s = IsAnswer s
