-- The sizes of a flash stay when a device handles a packet.
use Rattle.std.proofs.Common.{◌≡◌, List, ℕ, Bool, true, false, Option, Some, None, Result, Ok, Err, ap}
use Rattle.smp_flash.specs.Layout.{geometry_of}
use Rattle.smp_flash.specs.Calls.{Passes}
use Rattle.smp_flash.specs.State.{End, FlashState}
use Rattle.smp_flash.specs.State.End.{Went, WentOff, Failed}
use Rattle.smp_flash.specs.declared.geometry.Geometry.{Geometry}
use Rattle.smp_header.specs.Message.{Message, packet}
use Rattle.smp_model.specs.Handled.{is_request}
use Rattle.smp_model.specs.Meaning.{meaning}
use Rattle.smp_model.specs.Meant.{Meant}
use Rattle.smp_device.specs.Handling.{AnswersMeaning, DeviceState, Handles, HandlesBy, HandlesPacket, HandlesUp}
use Rattle.smp_device.specs.Up.{Up, up_of}
use Rattle.smp_device.specs.declared.answering.Down.{Down}
use Rattle.smp_device.specs.declared.answering.Handled.{Handled}
use Rattle.smp_device.specs.declared.images.Images.{Images}

passed : (end : End) (a b : FlashState) → Passes end a b → b.geometry ≡ a.geometry
passed Went a b p = p.geometry
passed WentOff a b p = p.geometry
passed (Failed operation) a b p = p.geometry

answered : (g : Geometry) (to : Message) (m : Result Meant ℕ) (before : Up) (new : DeviceState) (out : List ℕ) (result : Result Handled Down) (a b : FlashState)
    → AnswersMeaning g to m before new.settings new.files new.counters out new.up result a b → b.geometry ≡ a.geometry
answered g to (Ok m) before new out result a b answers = passed _ a b answers.serves.calls.passes
answered g to (Err number) before new out result a b answers = ap (λ s. s.geometry) answers.flash

by : (request : Bool) (m : Message) (images : Images) (old new : DeviceState) (out : List ℕ) (result : Result Handled Down) (a b : FlashState)
    → HandlesBy request m images old new out result a b → b.geometry ≡ a.geometry
by true m images old new out result a b handles = answered (geometry_of old.places.first) m (meaning m) (up_of images old.settings old.files old.counters) new out result a b handles
by false m images old new out result a b handles = ap (λ s. s.geometry) handles.flash

packets : (p : Option Message) (images : Images) (old new : DeviceState) (out : List ℕ) (result : Result Handled Down) (a b : FlashState)
    → HandlesPacket p images old new out result a b → b.geometry ≡ a.geometry
packets None images old new out result a b handles = ap (λ s. s.geometry) handles.flash
packets (Some m) images old new out result a b handles = by (is_request m) m images old new out result a b handles

up : (held : Option Images) (bytes : List ℕ) (old new : DeviceState) (out : List ℕ) (result : Result Handled Down) (a b : FlashState)
    → HandlesUp held bytes old new out result a b → b.geometry ≡ a.geometry
up None bytes old new out result a b handles = elim handles [ ]
up (Some images) bytes old new out result a b handles = packets (packet bytes) images old new out result a b handles

pub sizes_stay : (bytes : List ℕ) (old new : DeviceState) (out : List ℕ) (result : Result Handled Down) (a b : FlashState)
    → Handles bytes old new out result a b → b.geometry ≡ a.geometry
sizes_stay bytes old new out result a b handles = up old.up bytes old new out result a b handles
