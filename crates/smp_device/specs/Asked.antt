-- What a request about one image came to, by the place of that image.
use Rattle.std.specs.Prelude.{◌≡◌, ℕ, Some, Result, OnOk, IfErr, IfOk, IfSome}
use Rattle.smp_flash.specs.Area.{Told, Keeps}
use Rattle.smp_flash.specs.Calls.{Calls}
use Rattle.smp_flash.specs.Layout.{progress_of}
use Rattle.smp_flash.specs.State.{FlashState}
use Rattle.smp_flash.specs.declared.layout.Layout.{Layout}
use Rattle.smp_gate.specs.Newest.{AgesAtMost}
use Rattle.smp_model.specs.declared.device.AbstractDevice.{AbstractDevice}
use Rattle.smp_model.specs.declared.reply.Reply.{Reply}
use Rattle.smp_model.specs.Response.{Response}
use Rattle.smp_upload.specs.Moves.{KeepsPending, mount_spots}
use Rattle.smp_upload.specs.declared.states.UploadFault.{UploadFault}
use Rattle.smp_side.specs.Held.{HeldSays, held_layout, is_mounted, is_ok, result_end}
use Rattle.smp_device.specs.Answers.{ImagesDo, ImagesMove, ImagesPay, ImagesTell, ResultCausedIn}
use Rattle.smp_device.specs.Mounts.{FellIn}
use Rattle.smp_device.specs.Places.{Places, ArePlaces, AtEach, place_at, spots_of}
use Rattle.smp_device.specs.Requests.{Erases, responds_on}
use Rattle.smp_device.specs.declared.images.Asked.{Asked}
use Rattle.smp_device.specs.declared.images.SideRequest.{SideRequest}

-- It was answered by this response of the device that has images at these places, or was broken off in this image's regions.
pub record OneAnswer (p : Places) (n image before target : ℕ) (respond : AbstractDevice → Response) (result : Result Reply UploadFault) (a b : FlashState) : Type 0 where
  pub calls : Calls (spots_of p) (result_end result) a b
  pub moves : Told (ImagesMove p before target respond) a.bytes b.bytes
  pub done : OnOk result (Told (ImagesDo p before target respond) a.bytes b.bytes)
  pub said : IfOk result (ImagesTell p before respond a.bytes)
  pub ages : AtEach (λ l. Told (AgesAtMost n (progress_of l)) a.bytes b.bytes) p
  pub pending : AtEach (λ l. Told (KeepsPending l) a.bytes b.bytes) p
  pub caused : ResultCausedIn p n result a.bytes
  pub pays : OnOk result (ImagesPay p before respond a b)
  pub fell : IfErr result (λ fault. FellIn p n image fault a b)

-- The image that lies here was asked: so it is for whatever places have it there. It is mounted afterwards exactly where the request
-- was answered.
pub record AskedAt (layout : Layout) (image target : ℕ) (request : SideRequest) (asked : Asked) (a b : FlashState) : Type 0 where
  pub answers : (p : Places) → ArePlaces a.geometry p → place_at image p ≡ Some layout
      → OneAnswer p 5 image target asked.target (responds_on a.geometry.unit request image) asked.result a b
  pub keeps : Told (Keeps (mount_spots layout)) a.bytes b.bytes
  pub says : IfSome b.bytes (HeldSays asked.held)
  pub layout_kept : held_layout asked.held ≡ layout
  pub mounted : is_mounted asked.held ≡ is_ok asked.result
  pub erased : Erases layout request asked.result b.bytes
