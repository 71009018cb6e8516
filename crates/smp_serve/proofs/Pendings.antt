-- What is pending stays through a session.
use Rattle.std.proofs.Common.{◌≡◌, ℕ, Bool, true, false, inl, inr, List, Option, Some, None, Result, Ok, Err, refl, sym, ◌∙◌, subst}
use Rattle.std.specs.Prelude.{IfSome}
use Rattle.smp_flash.specs.Area.{Told}
use Rattle.smp_flash.specs.Layout.{geometry_of}
use Rattle.smp_flash.specs.State.{FlashState}
use Rattle.smp_flash.specs.declared.geometry.Geometry.{Geometry}
use Rattle.smp_flash.specs.declared.layout.Layout.{Layout}
use Rattle.smp_flash.proofs.Telling.{Told-trans}
use Rattle.smp_header.specs.Message.{Message, packet}
use Rattle.smp_model.specs.Handled.{is_request}
use Rattle.smp_model.specs.Meaning.{meaning}
use Rattle.smp_model.specs.Meant.{Meant}
use Rattle.smp_upload.specs.Moves.{KeepsPending}
use Rattle.smp_upload.specs.declared.states.UploadFault.{UploadFault}
use Rattle.smp_upload.proofs.Composing.{keeps_trans}
use Rattle.smp_device.specs.Handling.{AnswersMeaning, DeviceState, HandlesBy, HandlesPacket, HandlesUp}
use Rattle.smp_device.specs.Places.{AtEach, Places, places_of}
use Rattle.smp_device.specs.Starting.{Restarts}
use Rattle.smp_device.specs.Up.{IsWhole, Up, up_of}
use Rattle.smp_device.specs.declared.answering.Down.{Down}
use Rattle.smp_device.specs.declared.answering.Handled.{Handled}
use Rattle.smp_device.specs.declared.answering.Handled.TheVariants as handleds
use Rattle.smp_device.specs.declared.images.Images.{Images}
use Rattle.smp_serve.specs.Consoles.{ConsoleEnds, ConsoleStops}
use Rattle.smp_serve.specs.Hearing.{LinkState}
use Rattle.smp_serve.specs.Links.{LinkEnds}
use Rattle.smp_serve.specs.Sessions.{Exchange, HandlesAt, PendingStays, Point, Serves, StartsAfter, StartsAt, Stop, Stops, fell, no_packet, one_packet, unsent, unstarted}
use Rattle.smp_serve.specs.declared.fault.ServeFault.{ServeFault}
use Rattle.smp_serve.specs.declared.fault.ServeFault.TheVariants as faults
use Rattle.smp_serve.specs.declared.link_serving.Served.{Served}

abbrev Stays : Places → Option (List ℕ) → Option (List ℕ) → Type 0
Stays p x y = AtEach (λ l. Told (KeepsPending l) x y) p

told_same : (l : Layout) (x : Option (List ℕ)) → Told (KeepsPending l) x x
told_same l None = tt
told_same l (Some u) = record { kept = λ _. refl; still = λ _. refl }

stays_same : (p : Places) (a b : FlashState) → b ≡ a → Stays p a.bytes b.bytes
stays_same p a b e = subst (λ (s : FlashState). Stays p a.bytes s.bytes) (sym e) (λ i l at. told_same l a.bytes)

stays_on : (p : Places) (x y z : Option (List ℕ)) → Stays p x y → Stays p y z → Stays p x z
stays_on p x y z h k = λ i l at. Told-trans (KeepsPending l) (KeepsPending l) (KeepsPending l) x y z (keeps_trans l) (h i l at) (k i l at)

-- A packet.

answered : (g : Geometry) (to : Message) (m : Result Meant ℕ) (before : Up) (new : DeviceState) (out : List ℕ) (result : Result Handled Down) (a b : FlashState)
    → AnswersMeaning g to m before new.settings new.files new.counters out new.up result a b → Stays (places_of before.images) a.bytes b.bytes
answered g to (Ok m) before new out result a b answers = answers.serves.pending
answered g to (Err number) before new out result a b answers = stays_same (places_of before.images) a b answers.flash

by : (request : Bool) (m : Message) (images : Images) (old new : DeviceState) (out : List ℕ) (result : Result Handled Down) (a b : FlashState)
    → HandlesBy request m images old new out result a b → Stays (places_of images) a.bytes b.bytes
by true m images old new out result a b handles = answered (geometry_of old.places.first) m (meaning m) (up_of images old.settings old.files old.counters) new out result a b handles
by false m images old new out result a b handles = stays_same (places_of images) a b handles.flash

packets : (p : Option Message) (images : Images) (old new : DeviceState) (out : List ℕ) (result : Result Handled Down) (a b : FlashState)
    → HandlesPacket p images old new out result a b → Stays (places_of images) a.bytes b.bytes
packets None images old new out result a b handles = stays_same (places_of images) a b handles.flash
packets (Some m) images old new out result a b handles = by (is_request m) m images old new out result a b handles

ups : (held : Option Images) (bytes : List ℕ) (old new : DeviceState) (out : List ℕ) (result : Result Handled Down) (a b : FlashState) → old.up ≡ held → IsWhole old.places old.up old.settings
    → HandlesUp held bytes old new out result a b → Stays old.places a.bytes b.bytes
ups None bytes old new out result a b was whole handles = elim handles [ ]
ups (Some images) bytes old new out result a b was whole handles =
    let places : places_of images ≡ old.places = subst (λ (o : Option Images). IfSome o (λ i. places_of i ≡ old.places)) was whole.images in
    subst (λ (p : Places). Stays p a.bytes b.bytes) places (packets (packet bytes) images old new out result a b handles)

handled_stays : (bytes out : List ℕ) (r : Result Handled Down) (a b : Point) → HandlesAt bytes out r a b → IsWhole a.device.places a.device.up a.device.settings → Stays a.device.places a.flash.bytes b.flash.bytes
handled_stays bytes out r a b h whole = ups a.device.up bytes a.device b.device out r a.flash b.flash refl whole h.handles

-- A start.

restarted : (r : Result (Unit {0}) UploadFault) (old new : DeviceState) (a b : FlashState) → new.places ≡ old.places → Restarts r old.places new a b → Stays old.places a.bytes b.bytes
restarted (Ok x) old new a b places r = subst (λ (p : Places). Stays p a.bytes b.bytes) places r.starts.pending
restarted (Err fault) old new a b places r = r.starts.pending

started_stays : (r : Result (Unit {0}) UploadFault) (a b : Point) → StartsAt r a b → Stays a.device.places a.flash.bytes b.flash.bytes
started_stays r a b s = restarted r a.device b.device a.flash b.flash s.places s.restarts

-- what a packet that passed leaves
record On (a b : Point) : Type 0 where
  stays : Stays a.device.places a.flash.bytes b.flash.bytes
  places : b.device.places ≡ a.device.places
  whole : IsWhole b.device.places b.device.up b.device.settings

then_on : (a m b : Point) → On a m → Stays m.device.places m.flash.bytes b.flash.bytes → Stays a.device.places a.flash.bytes b.flash.bytes
then_on a m b h k = stays_on a.device.places a.flash.bytes m.flash.bytes b.flash.bytes h.stays (subst (λ (p : Places). Stays p m.flash.bytes b.flash.bytes) h.places k)

handled_on : (bytes out : List ℕ) (r : Result Handled Down) (a b : Point) → HandlesAt bytes out r a b → IsWhole a.device.places a.device.up a.device.settings → On a b
handled_on bytes out r a b h whole = record { stays = handled_stays bytes out r a b h whole; places = h.places; whole = h.whole }

passed_on : (h : Handled) (a m b : Point) → On a m → StartsAfter h m b → On a b
passed_on handleds.ReplyThenReset a m b o s = record { stays = then_on a m b o (started_stays (Ok tt) m b s); places = s.places ∙ o.places; whole = s.whole }
passed_on handleds.Reply a m b o same = subst (λ (p : Point). On a p) (sym same) o
passed_on handleds.Dropped a m b o same = subst (λ (p : Point). On a p) (sym same) o

served_on : (a b : Point) (xs : List Exchange) → IsWhole a.device.places a.device.up a.device.settings → Serves a xs b → On a b
served_on a b xs whole (no_packet a' b' xs' none same) =
    subst (λ (p : Point). On a' p) (sym same) record { stays = stays_same a'.device.places a'.flash a'.flash refl; places = refl; whole = whole }
served_on a b xs whole (one_packet a' m b' earlier xs' x before passes is) =
    let o = served_on a' m earlier whole before in
    let n = passed_on passes.handled m passes.middle b' (handled_on x.packet passes.out (Ok passes.handled) m passes.middle passes.handles o.whole) passes.starts in
    record { stays = then_on a' m b' o n.stays; places = n.places ∙ o.places; whole = n.whole }

stopped_on : (stop : Stop) (a m b : Point) → On a m → Stops stop m b → Stays a.device.places a.flash.bytes b.flash.bytes
stopped_on (unsent bytes reply) a m b o s = then_on a m b o (handled_stays bytes s.out (Ok s.handled) m b s.handles o.whole)
stopped_on (fell bytes down) a m b o s = then_on a m b o (handled_stays bytes s.out (Err down) m b s.handles o.whole)
stopped_on (unstarted bytes reply fault) a m b o s =
    let h = handled_on bytes reply (Ok handleds.ReplyThenReset) m s.middle s.handles o.whole in
    let n : On a s.middle = record { stays = then_on a m s.middle o h.stays; places = h.places ∙ o.places; whole = h.whole } in
    then_on a s.middle b n (started_stays (Err fault) s.middle b s.starts)

-- Sessions.

pub link_stays : (turns : ℕ) (result : Result Served ServeFault) (a b : Point) (x y : LinkState) → LinkEnds turns result a b x y → PendingStays a b
link_stays turns (Ok served) a b x y s = λ whole. (served_on a b _ whole s.session.serves).stays
link_stays turns (Err fault) a b x y (inl u) = λ whole. (served_on a b _ whole u.1.session.serves).stays
link_stays turns (Err fault) a b x y (inr s) = λ whole. stopped_on s.stop a s.stops.before b (served_on a s.stops.before _ whole s.stops.session.serves) s.stops.stops

stops_stay : (fault : ServeFault) (a b : Point) (left rest old new : Option (List ℕ)) → ConsoleStops fault a b left rest old new → PendingStays a b
stops_stay fault a b left rest old new s = λ whole. stopped_on s.stop a s.stops.before b (served_on a s.stops.before s.stops.exchanges whole s.stops.serves) s.stops.stops

pub console_stays : (result : Result (Unit {0}) ServeFault) (a b : Point) (left rest old new : Option (List ℕ)) → ConsoleEnds result a b left rest old new → PendingStays a b
console_stays (Ok x) a b left rest old new s = λ whole. (served_on a b s.served.exchanges whole s.served.session.serves).stays
console_stays (Err faults.Read) a b left rest old new s = λ whole. (served_on a b s.served.exchanges whole s.served.session.serves).stays
console_stays (Err faults.Spent) a b left rest old new s = λ whole. (served_on a b s.served.exchanges whole s.served.session.serves).stays
console_stays (Err faults.Link) a b left rest old new s = absurd s
console_stays (Err faults.Write) a b left rest old new s = stops_stay faults.Write a b left rest old new s
console_stays (Err faults.FlashFault) a b left rest old new s = stops_stay faults.FlashFault a b left rest old new s
console_stays (Err faults.FlashOff) a b left rest old new s = stops_stay faults.FlashOff a b left rest old new s
console_stays (Err faults.Unformatted) a b left rest old new s = stops_stay faults.Unformatted a b left rest old new s
console_stays (Err faults.Worn) a b left rest old new s = stops_stay faults.Worn a b left rest old new s
