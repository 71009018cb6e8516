-- What a mount finds, and what it makes of the flash.
use Rattle.std.specs.Prelude.{◌≡◌, ◌<◌, ℕ, List, length, Option, Some, None, Result, IsSome, OnOk, IfOk, IfErr, IfSome}
use Rattle.smp_flash.specs.Area.{Told}
use Rattle.smp_flash.specs.Calls.{Smaller}
use Rattle.smp_flash.specs.Geometry.{size_of}
use Rattle.smp_flash.specs.Layout.{geometry_of, progress_of}
use Rattle.smp_flash.specs.State.{FlashState}
use Rattle.smp_flash.specs.declared.layout.Layout.{Layout}
use Rattle.smp_flash.specs.declared.flash.Operation.TheVariants.{Read}
use Rattle.smp_gate.specs.Newest.{newest_generation, AgesAtMost}
use Rattle.smp_model.specs.declared.upload.Mark.{Mark}
use Rattle.smp_model.specs.declared.image.ImageFault.{ImageFault}
use Rattle.smp_model.specs.declared.image.ImageFault.TheVariants as images
use Rattle.smp_model.specs.Image.{good_image}
use Rattle.smp_model.specs.Sides.{side_settle_steps}
use Rattle.smp_progress.specs.State.{ProgressState, ProgressSays, CanTake, AimsAtRecord}
use Rattle.smp_upload.specs.Bytes.{SideReadable, active_in, pending_in}
use Rattle.smp_upload.specs.Faults.{IsIdle, upload_end}
use Rattle.smp_upload.specs.Moves.{Moved, Done, mount_spots}
use Rattle.smp_upload.specs.Needs.{MountNeeds}
use Rattle.smp_upload.specs.States.{Says, known_mounted}
use Rattle.smp_upload.specs.declared.states.Mounted.{Mounted}
use Rattle.smp_upload.specs.declared.states.Lost.{Lost}
use Rattle.smp_upload.specs.declared.states.UploadFault.{UploadFault}
use Rattle.smp_upload.specs.declared.states.UploadFault.TheVariants as faults

-- the fault of reading an image that the flash has to answer for; all others are the bytes'
abbrev pub of_image : ImageFault → Option UploadFault
of_image images.Fault = Some (faults.Fault Read)
of_image images.Off = Some faults.Off
of_image _ = None

-- What a look at a flash finds: a primary slot that begins with a good image, the record that stands, and the mark of the
-- secondary slot.
pub record Looked (layout : Layout) (p : ProgressState) (mark : Option Mark) (bytes : List ℕ) : Type 0 where
  pub sized : length bytes ≡ size_of (geometry_of layout)
  pub runs : IsSome (good_image (active_in layout bytes))
  pub record_says : ProgressSays p bytes
  pub place : p.layout ≡ layout
  pub pending : mark ≡ pending_in layout bytes

-- the bytes stand for a side, and the records that a mount of them needs can't be put
abbrev pub IsWorn : Layout → List ℕ → Type 0
IsWorn layout bytes = SideReadable layout bytes × ((n : ℕ) → MountNeeds layout n bytes → CanTake (newest_generation (progress_of layout) bytes) n → ⊥)

-- What a mount does: it settles the side, and shows it.
pub record Mounts (layout : Layout) (result : Result Mounted Lost) (a b : FlashState) : Type 0 where
  pub moved : Moved layout (mount_spots layout) 2 side_settle_steps (upload_end result) a b
  pub done : OnOk result (Done layout (mount_spots layout) 2 side_settle_steps a b)
  pub says : IfOk result (λ mounted. IfSome b.bytes (Says (known_mounted mounted)))
  pub layout_is : IfOk result (λ mounted. (known_mounted mounted).layout ≡ layout)
  pub lost_is : IfErr result (λ lost. lost.state.layout ≡ layout)
  pub idle : IfErr result (λ lost. IsIdle lost.fault → b.bytes ≡ a.bytes)
  -- exactly where the bytes stand for no side
  pub unformatted : IfErr result (λ lost. lost.fault ≡ faults.Unformatted → IfSome a.bytes (λ held. SideReadable layout held → ⊥))
  pub readable : OnOk result (IfSome a.bytes (SideReadable layout))
  -- it ages the bank by the records that it needs at most, is worn exactly where they can't be put, and takes patience where it
  -- needs one
  pub ages : Told (λ old new. (n : ℕ) → MountNeeds layout n old → AgesAtMost n (progress_of layout) old new) a.bytes b.bytes
  pub worn : IfErr result (λ lost. lost.fault ≡ faults.Worn → IfSome a.bytes (IsWorn layout))
  pub fresh : OnOk result (IfSome a.bytes (λ held. (n : ℕ) → MountNeeds layout n held → CanTake (newest_generation (progress_of layout) held) n))
  pub spends : OnOk result (IfSome a.bytes (λ held. (n : ℕ) → MountNeeds layout n held → 0 < n → AimsAtRecord layout a.aim → Smaller a.patience b.patience))
