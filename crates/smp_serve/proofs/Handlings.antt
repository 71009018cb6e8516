-- What a packet and a start leave of a device: whether it is up, and the sizes of its flash.
use Rattle.std.proofs.Common.{◌≡◌, List, ℕ, Bool, true, false, Option, Some, None, Result, Ok, Err, refl, ap, sym, ◌∙◌, subst, ◌≤◌, arith}
use Rattle.std.specs.Prelude.{IsSome, is_some}
use Rattle.smp_flash.specs.Layout.{geometry_of}
use Rattle.smp_flash.specs.Calls.{Passes, Rises}
use Rattle.smp_flash.specs.State.{End, Faults, FlashState}
use Rattle.smp_flash.specs.State.End.{Went, WentOff, Failed}
use Rattle.smp_flash.specs.declared.flash.Operation.{Operation}
use Rattle.smp_flash.specs.declared.flash.Operation.TheVariants.{Read, Write, Erase}
use Rattle.smp_flash.specs.declared.geometry.Geometry.{Geometry}
use Rattle.smp_header.specs.Message.{Message, packet}
use Rattle.smp_model.specs.declared.device.Counters.{Counters}
use Rattle.smp_model.specs.declared.reply.Reply.{Reply}
use Rattle.smp_model.specs.Handled.{is_request}
use Rattle.smp_model.specs.Meaning.{meaning}
use Rattle.smp_model.specs.Meant.{Meant}
use Rattle.smp_model.specs.Said.{Said}
use Rattle.smp_upload.specs.Faults.{upload_fault_end}
use Rattle.smp_side.specs.Held.{result_end}
use Rattle.smp_upload.specs.declared.states.UploadFault.{UploadFault}
use Rattle.smp_upload.specs.declared.states.UploadFault.TheVariants as faults
use Rattle.smp_device.specs.Handling.{AnswersMeaning, DeviceState, Drops, Fell, Finishes, Handles, HandlesBy, HandlesPacket, HandlesUp, Sent, handled_by, left_by}
use Rattle.smp_device.specs.Starting.{Restarts}
use Rattle.smp_device.specs.Up.{Up, up_of}
use Rattle.smp_device.specs.declared.answering.Down.{Down}
use Rattle.smp_device.specs.declared.answering.Down.TheVariants as downs
use Rattle.smp_device.specs.declared.answering.Handled.{Handled}
use Rattle.smp_device.specs.declared.answering.Handled.TheVariants as handleds
use Rattle.smp_device.specs.declared.images.Images.{Images}
use Rattle.smp_serve.specs.Sessions.{NoFewer}

-- the device is up after a reply and after a drop, unless the reply is a reset's
abbrev pub UpBy : Result Handled Down → Option Images → Type 0
UpBy (Ok handleds.Reply) up = IsSome up
UpBy (Ok handleds.Dropped) up = IsSome up
UpBy (Ok handleds.ReplyThenReset) up = up ≡ None
UpBy (Err down) up = up ≡ None

-- where it went down since the flash is off, the flash is off
abbrev pub DownBy : Result Handled Down → FlashState → Type 0
DownBy (Ok h) b = Unit {0}
DownBy (Err downs.Off) b = b.on ≡ false
DownBy (Err downs.Unformatted) b = Unit {0}

pub record After (result : Result Handled Down) (up : Option Images) (a b : FlashState) : Type 0 where
  pub up_is : UpBy result up
  pub sizes : b.geometry ≡ a.geometry
  pub faults : NoFewer a.faults b.faults
  pub down : DownBy result b

passed : (end : End) (a b : FlashState) → Passes end a b → b.geometry ≡ a.geometry
passed Went a b p = p.geometry
passed WentOff a b p = p.geometry
passed (Failed operation) a b p = p.geometry

pub same_faults : (a b : Faults) → b ≡ a → NoFewer a b
same_faults a b e = subst (λ (f : Faults). NoFewer a f) (sym e) record { reads = omega arith; writes = omega arith; erases = omega arith }

eq_leq : {x y : ℕ} → y ≡ x → x ≤ y
eq_leq e = omega arith

rose_faults : (operation : Operation) (a b : Faults) → Rises operation a b → NoFewer a b
rose_faults Read a b r = let k = r.0.kept in record { reads = k; writes = eq_leq r.1; erases = eq_leq r.2 }
rose_faults Write a b r = record { reads = eq_leq r.0; writes = r.1.kept; erases = eq_leq r.2 }
rose_faults Erase a b r = record { reads = eq_leq r.0; writes = eq_leq r.1; erases = r.2.kept }

pub passed_faults : (end : End) (a b : FlashState) → Passes end a b → NoFewer a.faults b.faults
passed_faults Went a b p = same_faults a.faults b.faults p.faults
passed_faults WentOff a b p = same_faults a.faults b.faults p.faults
passed_faults (Failed operation) a b p = rose_faults operation a.faults b.faults p.rises

up_by : (resets : Bool) (images : Images) → UpBy (Ok (handled_by resets)) (left_by resets images)
up_by true images = refl
up_by false images = refl

sent_up : (to : Message) (reply : Said) (resets : Bool) (before after : Counters) (images : Images) (out : List ℕ) (left : Option Images) (result : Result Handled Down)
    → Sent to reply resets before after images out left result → UpBy result left
sent_up to reply resets before after images out left result s =
    subst (λ (r : Result Handled Down). UpBy r left) (sym s.answer) (subst (λ (l : Option Images). UpBy (Ok (handled_by resets)) l) (sym s.left_is) (up_by resets images))

fell_down : (down : Down) (before after : Counters) (out : List ℕ) (left : Option Images) (result : Result Handled Down) → Fell down before after out left result → UpBy result left
fell_down down before after out left result f = subst (λ (r : Result Handled Down). UpBy r left) (sym f.answer) f.left_is

finished : (to : Message) (m : Meant) (before after : Counters) (images : Images) (fate : Result Reply UploadFault) (out : List ℕ) (left : Option Images) (result : Result Handled Down)
    → Finishes to m before after images fate out left result → UpBy result left
finished to m before after images (Ok reply) out left result f = sent_up to _ _ before after images out left result f
finished to m before after images (Err (faults.Fault operation)) out left result f = sent_up to _ _ before after images out left result f
finished to m before after images (Err faults.Worn) out left result f = sent_up to _ _ before after images out left result f
finished to m before after images (Err faults.Off) out left result f = fell_down _ before after out left result f
finished to m before after images (Err faults.Unformatted) out left result f = fell_down _ before after out left result f

sent_down : (to : Message) (reply : Said) (resets : Bool) (before after : Counters) (images : Images) (out : List ℕ) (left : Option Images) (result : Result Handled Down) (b : FlashState)
    → Sent to reply resets before after images out left result → DownBy result b
sent_down to reply resets before after images out left result b s = subst (λ (r : Result Handled Down). DownBy r b) (sym s.answer) tt

finished_down : (to : Message) (m : Meant) (before after : Counters) (images : Images) (fate : Result Reply UploadFault) (out : List ℕ) (left : Option Images) (result : Result Handled Down) (a b : FlashState)
    → Passes (result_end fate) a b → Finishes to m before after images fate out left result → DownBy result b
finished_down to m before after images (Ok reply) out left result a b p f = sent_down to _ _ before after images out left result b f
finished_down to m before after images (Err (faults.Fault operation)) out left result a b p f = sent_down to _ _ before after images out left result b f
finished_down to m before after images (Err faults.Worn) out left result a b p f = sent_down to _ _ before after images out left result b f
finished_down to m before after images (Err faults.Off) out left result a b p f = subst (λ (r : Result Handled Down). DownBy r b) (sym f.answer) p.off
finished_down to m before after images (Err faults.Unformatted) out left result a b p f = subst (λ (r : Result Handled Down). DownBy r b) (sym f.answer) tt

answered : (g : Geometry) (to : Message) (m : Result Meant ℕ) (before : Up) (new : DeviceState) (out : List ℕ) (result : Result Handled Down) (a b : FlashState)
    → AnswersMeaning g to m before new.settings new.files new.counters out new.up result a b → After result new.up a b
answered g to (Ok m) before new out result a b answers = record {
  up_is = finished to m before.counters new.counters answers.images answers.fate out new.up result answers.finishes;
  sizes = passed _ a b answers.serves.calls.passes;
  faults = passed_faults _ a b answers.serves.calls.passes;
  down = finished_down to m before.counters new.counters answers.images answers.fate out new.up result a b answers.serves.calls.passes answers.finishes;
}
answered g to (Err number) before new out result a b answers = record {
  up_is = sent_up to _ false before.counters new.counters before.images out new.up result answers.sent;
  sizes = ap (λ (s : FlashState). s.geometry) answers.flash;
  faults = same_faults a.faults b.faults (ap (λ (s : FlashState). s.faults) answers.flash);
  down = sent_down to _ false before.counters new.counters before.images out new.up result b answers.sent;
}

dropped : (images : Images) (old new : DeviceState) (out : List ℕ) (result : Result Handled Down) (a b : FlashState) → old.up ≡ Some images
    → Drops old new out result a b → After result new.up a b
dropped images old new out result a b was d =
    let up : new.up ≡ Some images = ap (λ (s : DeviceState). s.up) d.device ∙ was in
    record {
      up_is = subst (λ (r : Result Handled Down). UpBy r new.up) (sym d.answer) (ap is_some up);
      sizes = ap (λ (s : FlashState). s.geometry) d.flash;
      faults = same_faults a.faults b.faults (ap (λ (s : FlashState). s.faults) d.flash);
      down = subst (λ (r : Result Handled Down). DownBy r b) (sym d.answer) tt;
    }

by : (request : Bool) (m : Message) (images : Images) (old new : DeviceState) (out : List ℕ) (result : Result Handled Down) (a b : FlashState) → old.up ≡ Some images
    → HandlesBy request m images old new out result a b → After result new.up a b
by true m images old new out result a b was handles = answered (geometry_of old.places.first) m (meaning m) (up_of images old.settings old.files old.counters) new out result a b handles
by false m images old new out result a b was handles = dropped images old new out result a b was handles

packets : (p : Option Message) (images : Images) (old new : DeviceState) (out : List ℕ) (result : Result Handled Down) (a b : FlashState) → old.up ≡ Some images
    → HandlesPacket p images old new out result a b → After result new.up a b
packets None images old new out result a b was handles = dropped images old new out result a b was handles
packets (Some m) images old new out result a b was handles = by (is_request m) m images old new out result a b was handles

ups : (held : Option Images) (bytes : List ℕ) (old new : DeviceState) (out : List ℕ) (result : Result Handled Down) (a b : FlashState) → old.up ≡ held
    → HandlesUp held bytes old new out result a b → After result new.up a b
ups None bytes old new out result a b was handles = elim handles [ ]
ups (Some images) bytes old new out result a b was handles = packets (packet bytes) images old new out result a b was handles

pub after_handling : (bytes : List ℕ) (old new : DeviceState) (out : List ℕ) (result : Result Handled Down) (a b : FlashState)
    → Handles bytes old new out result a b → After result new.up a b
after_handling bytes old new out result a b handles = ups old.up bytes old new out result a b refl handles

alike : (held : Option Images) (bytes others : List ℕ) (old new : DeviceState) (out : List ℕ) (result : Result Handled Down) (a b : FlashState) → packet others ≡ packet bytes
    → HandlesUp held bytes old new out result a b → HandlesUp held others old new out result a b
alike None bytes others old new out result a b same handles = handles
alike (Some images) bytes others old new out result a b same handles =
    subst (λ (p : Option Message). HandlesPacket p images old new out result a b) (sym same) handles

-- Bytes that are the same packet, or none both, are handled alike.
pub handled_alike : (bytes others : List ℕ) (old new : DeviceState) (out : List ℕ) (result : Result Handled Down) (a b : FlashState) → packet others ≡ packet bytes
    → Handles bytes old new out result a b → Handles others old new out result a b
handled_alike bytes others old new out result a b same handles = alike old.up bytes others old new out result a b same handles

-- A start.
pub starts_up : (old new : DeviceState) (a b : FlashState) → Restarts (Ok tt) old.places new a b → IsSome new.up
starts_up old new a b r = ap is_some r.up

pub start_sizes : (result : Result (Unit {0}) UploadFault) (old new : DeviceState) (a b : FlashState) → Restarts result old.places new a b → b.geometry ≡ a.geometry
start_sizes (Ok x) old new a b r = passed Went a b r.starts.calls.passes
start_sizes (Err fault) old new a b r = passed (upload_fault_end fault) a b r.starts.calls.passes

pub is_up_by : (r : Result Handled Down) (x h : Handled) (up : Option Images) → r ≡ Ok x → x ≡ h → UpBy r up → UpBy (Ok h) up
is_up_by r x h up is named u = subst (λ (y : Handled). UpBy (Ok y) up) named (subst (λ (y : Result Handled Down). UpBy y up) is u)

pub start_faults : (result : Result (Unit {0}) UploadFault) (old new : DeviceState) (a b : FlashState) → Restarts result old.places new a b → NoFewer a.faults b.faults
start_faults (Ok x) old new a b r = passed_faults Went a b r.starts.calls.passes
start_faults (Err fault) old new a b r = passed_faults (upload_fault_end fault) a b r.starts.calls.passes
