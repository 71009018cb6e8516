-- Marks and confirmations by the hash of an image.
use Rattle.std.specs.Prelude.{◌≡◌, ℕ, Bool, true, false, List, Option, Some, None, Result, Ok, Err, IsSome}
use Rattle.smp_model.specs.declared.device.AbstractDevice.{AbstractDevice}
use Rattle.smp_model.specs.declared.device.Side.{Side}
use Rattle.smp_model.specs.declared.reply.Reply.{Reply}
use Rattle.smp_model.specs.declared.error.TheConstants.{HASH_NOT_FOUND}
use Rattle.smp_model.specs.ImageGroup.{confirms, lists_with, marks, refuses_image, runs}
use Rattle.smp_model.specs.Response.{Response}
use Rattle.smp_model.specs.Said.{Said, said_of}
use Rattle.smp_model.specs.Said as said
use Rattle.smp_model.specs.Sides.{SideStep}
use Rattle.smp_model.specs.Steps.{side_at}
use Rattle.smp_upload.specs.States.{known_mounted}
use Rattle.smp_upload.specs.declared.states.Mounted.{Mounted}
use Rattle.smp_upload.specs.declared.states.UploadFault.{UploadFault}
use Rattle.smp_flash.specs.declared.layout.Layout.{Layout}
use Rattle.smp_upload.specs.Bytes.{SideStands}
use Rattle.smp_device.specs.declared.sets.Act.{Act}
use Rattle.smp_device.specs.declared.sets.Act.TheVariants as acts

-- the steps of an act on a side, or why it may not be
abbrev pub act_steps : Act → Side → Result (List SideStep) ℕ
act_steps (acts.Confirm asked) side = confirms asked side.confirmed
act_steps (acts.Mark mark) side = marks mark side.pending

-- a mark needs an image
abbrev pub CanAct : Act → Mounted → Type 0
CanAct (acts.Confirm asked) m = Unit {0}
CanAct (acts.Mark mark) m = IsSome (known_mounted m).image

-- the list after the act on the side of an image, or the error
abbrev pub acts_of : Act → (image : ℕ) → Option Side → AbstractDevice → Response
acts_of act image None d = refuses_image HASH_NOT_FOUND
acts_of act image (Some s) d = lists_with image (act_steps act s) d

abbrev pub acts_on : Act → (image : ℕ) → AbstractDevice → Response
acts_on act image d = acts_of act image (side_at image d) d

-- whether the image that runs has this hash, of whatever side the bytes stand for; and whether the one that was uploaded has
abbrev pub RunsIs : Layout → (hash : List ℕ) → Bool → List ℕ → Type 0
RunsIs layout hash b bytes = (side : Side) → SideStands layout side bytes → runs hash (Some side) ≡ b

abbrev pub is_empty : Said → Bool
is_empty said.empty = true
is_empty other = false

-- the act is done, and the list is due
abbrev pub is_done : Result Reply UploadFault → Bool
is_done (Ok reply) = is_empty (said_of reply)
is_done (Err fault) = false
