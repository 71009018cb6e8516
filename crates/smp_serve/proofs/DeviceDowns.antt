-- What a device is where the flash went off in a request.
use Rattle.std.proofs.Common.{◌≡◌, ◌++◌, ℕ, Bool, true, false, List, Option, Some, None, Result, Ok, Err, refl, sym, ◌∙◌, ap, subst}
use Rattle.smp_flash.specs.Layout.{geometry_of}
use Rattle.smp_flash.specs.State.{FlashState}
use Rattle.smp_flash.specs.declared.geometry.Geometry.{Geometry}
use Rattle.smp_header.specs.Message.{Message, packet}
use Rattle.smp_model.specs.declared.device.AbstractDevice.{AbstractDevice}
use Rattle.smp_model.specs.declared.device.Counters.{Counters}
use Rattle.smp_model.specs.declared.reply.Reply.{Reply}
use Rattle.smp_model.specs.Does.{does}
use Rattle.smp_model.specs.Handled.{is_request, response_to}
use Rattle.smp_model.specs.Meaning.{meaning}
use Rattle.smp_model.specs.Meant.{Meant}
use Rattle.smp_model.specs.Steps.{Step, applied}
use Rattle.smp_upload.specs.declared.states.UploadFault.{UploadFault}
use Rattle.smp_upload.specs.declared.states.UploadFault.TheVariants as faults
use Rattle.smp_device.specs.Arming.{DeviceStands}
use Rattle.smp_device.specs.Handling.{AnswersMeaning, DeviceState, Fell, Finishes, Handles, HandlesBy, HandlesPacket, HandlesUp}
use Rattle.smp_device.specs.Places.{Places, places_of}
use Rattle.smp_device.specs.Serving.{ReachedFrom, Serves}
use Rattle.smp_device.specs.Up.{IsWhole, Stands, Up, up_of}
use Rattle.smp_device.specs.Uploads.{sizes_of}
use Rattle.smp_device.specs.declared.answering.Down.{Down}
use Rattle.smp_device.specs.declared.answering.Down.TheVariants as downs
use Rattle.smp_device.specs.declared.answering.Handled.{Handled}
use Rattle.smp_device.specs.declared.images.Images.{Images}
use Rattle.smp_serve.proofs.DevicePackets.{Before, before_of, stands_own, told_at}

pub record FellSo (g : Geometry) (to : Option Message) (p : Places) (left : Option Images) (d : AbstractDevice) (down : Down) (b : FlashState) : Type 0 where
  pub off : down ≡ downs.Off
  pub message : Message
  pub is : to ≡ Some message
  pub taken : List Step
  pub rest : List Step
  pub split : (response_to (sizes_of g) d (meaning message)).steps ≡ taken ++ rest
  pub held : List ℕ
  pub bytes : b.bytes ≡ Some held
  pub stands : Stands p (applied taken d).target (applied taken d) held
  pub left_is : left ≡ None

off_is : (down : Down) (r : Result Handled Down) → r ≡ Err downs.Off → r ≡ Err down → down ≡ downs.Off
off_is down r e f = cc

cut_fell : (g : Geometry) (to : Message) (m : Meant) (up after : Up) (counters : Counters) (down : Down) (d : AbstractDevice) (u out : List ℕ) (left : Option Images)
    (result : Result Handled Down) (a b : FlashState) → meaning to ≡ Ok m → result ≡ Err down → Before up d u a → Serves g (Ok m) up after (Err faults.Off) a b
    → Fell downs.Off up.counters counters out left result → FellSo g (Some to) (places_of up.images) left d down b
cut_fell g to m up after counters down d u out left result a b means is before serves f =
    let p = places_of up.images in
    let at = told_at (ReachedFrom p (λ e. does (sizes_of g) e m) up after (Err faults.Off)) a.bytes b.bytes u before.bytes serves.reached in
    let r = at.2 d before.stands before.carries in
    record {
      off = off_is down result f.answer is;
      message = to;
      is = refl;
      taken = r.taken;
      rest = r.went.0;
      split = ap (λ (x : Result Meant ℕ). (response_to (sizes_of g) d x).steps) means ∙ r.went.1;
      held = at.0;
      bytes = at.1;
      stands = stands_own p after.images.target (applied r.taken d) at.0 r.stands;
      left_is = f.left_is;
    }

request_fell : (g : Geometry) (to : Message) (m : Meant) (up after : Up) (counters : Counters) (images : Images) (fate : Result Reply UploadFault) (down : Down) (d : AbstractDevice) (u out : List ℕ) (left : Option Images)
    (result : Result Handled Down) (a b : FlashState) → meaning to ≡ Ok m → result ≡ Err down → Before up d u a → Serves g (Ok m) up after fate a b
    → Finishes to m up.counters counters images fate out left result → FellSo g (Some to) (places_of up.images) left d down b
request_fell g to m up after counters images (Ok reply) down d u out left result a b means is before serves f = absurd (cc (sym f.answer ∙ is))
request_fell g to m up after counters images (Err (faults.Fault operation)) down d u out left result a b means is before serves f = absurd (cc (sym f.answer ∙ is))
request_fell g to m up after counters images (Err faults.Worn) down d u out left result a b means is before serves f = absurd (cc (sym f.answer ∙ is))
request_fell g to m up after counters images (Err faults.Unformatted) down d u out left result a b means is before serves f = absurd (cc (sym before.bytes ∙ serves.caused))
request_fell g to m up after counters images (Err faults.Off) down d u out left result a b means is before serves f = cut_fell g to m up after counters down d u out left result a b means is before serves f

meaning_fell : (g : Geometry) (to : Message) (mm : Result Meant ℕ) (up : Up) (new : DeviceState) (down : Down) (d : AbstractDevice) (u out : List ℕ) (result : Result Handled Down) (a b : FlashState)
    → meaning to ≡ mm → result ≡ Err down → Before up d u a → AnswersMeaning g to mm up new.settings new.files new.counters out new.up result a b → FellSo g (Some to) (places_of up.images) new.up d down b
meaning_fell g to (Ok m) up new down d u out result a b means is before answers =
    request_fell g to m up (up_of answers.images new.settings new.files up.counters) new.counters answers.images answers.fate down d u out new.up result a b means is before answers.serves answers.finishes
meaning_fell g to (Err number) up new down d u out result a b means is before answers = absurd (cc (sym answers.sent.answer ∙ is))

by_fell : (asks : Bool) (m : Message) (images : Images) (old new : DeviceState) (down : Down) (d : AbstractDevice) (u out : List ℕ) (result : Result Handled Down) (a b : FlashState)
    → result ≡ Err down → Before (up_of images old.settings old.files old.counters) d u a → HandlesBy asks m images old new out result a b
    → FellSo (geometry_of old.places.first) (Some m) (places_of images) new.up d down b
by_fell true m images old new down d u out result a b is before handles =
    meaning_fell (geometry_of old.places.first) m (meaning m) (up_of images old.settings old.files old.counters) new down d u out result a b refl is before handles
by_fell false m images old new down d u out result a b is before handles = absurd (cc (sym handles.answer ∙ is))

packet_fell : (p : Option Message) (images : Images) (old new : DeviceState) (down : Down) (d : AbstractDevice) (u out : List ℕ) (result : Result Handled Down) (a b : FlashState)
    → result ≡ Err down → Before (up_of images old.settings old.files old.counters) d u a → HandlesPacket p images old new out result a b
    → FellSo (geometry_of old.places.first) p (places_of images) new.up d down b
packet_fell None images old new down d u out result a b is before handles = absurd (cc (sym handles.answer ∙ is))
packet_fell (Some m) images old new down d u out result a b is before handles = by_fell (is_request m) m images old new down d u out result a b is before handles

up_fell : (packet_bytes : List ℕ) (held : Option Images) (old new : DeviceState) (down : Down) (d : AbstractDevice) (u out : List ℕ) (result : Result Handled Down) (a b : FlashState)
    → old.up ≡ held → IsWhole old.places old.up old.settings → result ≡ Err down → a.bytes ≡ Some u → DeviceStands old d u → HandlesUp held packet_bytes old new out result a b
    → FellSo (geometry_of old.places.first) (packet packet_bytes) old.places new.up d down b
up_fell packet_bytes None old new down d u out result a b was whole is bytes s handles = absurd handles
up_fell packet_bytes (Some images) old new down d u out result a b was whole is bytes s handles =
    let k = before_of images old d u a was whole bytes s in
    subst (λ (p : Places). FellSo (geometry_of old.places.first) (packet packet_bytes) p new.up d down b) k.0
    (packet_fell (packet packet_bytes) images old new down d u out result a b is k.1 handles)

pub packet_falls : (packet_bytes : List ℕ) (old new : DeviceState) (down : Down) (d : AbstractDevice) (u out : List ℕ) (a b : FlashState)
    → IsWhole old.places old.up old.settings → a.bytes ≡ Some u → DeviceStands old d u → Handles packet_bytes old new out (Err down) a b
    → FellSo (geometry_of old.places.first) (packet packet_bytes) old.places new.up d down b
packet_falls packet_bytes old new down d u out a b whole bytes s handles = up_fell packet_bytes old.up old new down d u out (Err down) a b refl whole refl bytes s handles
