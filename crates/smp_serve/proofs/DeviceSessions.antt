-- Sessions, and the device that the flash and the value stand for.
use Rattle.std.proofs.Common.{◌≡◌, ◌++◌, ℕ, Bool, true, false, List, [], ◌∷◌, Option, Some, None, Ok, Err, refl, sym, ◌∙◌, ap, subst, arith, ◌+◌}
use Rattle.std.specs.Prelude.{IfSome}
use Rattle.smp_flash.specs.Layout.{geometry_of}
use Rattle.smp_flash.specs.State.{Faults, FlashState}
use Rattle.smp_flash.specs.declared.flash.Operation.{Operation}
use Rattle.smp_flash.specs.declared.flash.Operation.TheVariants.{Read, Write, Erase}
use Rattle.smp_flash.specs.declared.layout.Layout.{Layout}
use Rattle.smp_header.specs.Message.{packet}
use Rattle.smp_model.specs.declared.device.AbstractDevice.{AbstractDevice}
use Rattle.smp_model.specs.declared.device.Side.{Side}
use Rattle.smp_model.specs.declared.device.Sizes.{Sizes}
use Rattle.smp_model.specs.Steps.{applied, side_at, start}
use Rattle.smp_upload.specs.declared.states.UploadFault.{UploadFault}
use Rattle.smp_device.specs.Arming.{DeviceStands}
use Rattle.smp_device.specs.Handling.{DeviceState}
use Rattle.smp_device.specs.Places.{Places, StandsAt, place_at}
use Rattle.smp_device.specs.Starting.{Restarts, StartCaused, StartsOn, begun_of}
use Rattle.smp_device.specs.Up.{Carries, IsWhole, Shows, ShowsAt, Stands, up_of}
use Rattle.smp_device.specs.Uploads.{sizes_of}
use Rattle.smp_device.specs.declared.answering.Down.{Down}
use Rattle.smp_device.specs.declared.answering.Down.TheVariants as downs
use Rattle.smp_device.specs.declared.answering.Handled.{Handled}
use Rattle.smp_device.specs.declared.answering.Handled.TheVariants as handleds
use Rattle.smp_device.specs.declared.images.Images.{Images}
use Rattle.smp_serve.specs.Devices.{Came, Comes, FallenDevice, IsServed, IsStopped, Outcome, ServesDevice, StopsDevice, UnsentDevice, UnstartedDevice, given_none, given_one, resets, sizes_at, started_if, Raised, RoseBy, count_of, failures}
use Rattle.smp_serve.specs.Sessions.{Exchange, HandlesAt, Passes, Point, Serves, StartsAfter, Stop, Stops, StopsFallen, StopsUnsent, StopsUnstarted, fell, no_packet, one_packet, reply_of, unsent, unstarted}
use Rattle.smp_serve.proofs.DeviceDowns.{packet_falls}
use Rattle.smp_serve.proofs.DevicePackets.{CameSo, packet_comes, stands_own, told_at, RaisedOnce}

-- A start.

shows_at : (l : Option Layout) (s : Option Side) (bytes : List ℕ) → ShowsAt l s bytes → StandsAt l s bytes
shows_at None None bytes h = tt
shows_at None (Some s) bytes h = h
shows_at (Some l) None bytes h = h
shows_at (Some l) (Some s) bytes h = record { rescue = false; stands = h.stands }

shows_stands : (p : Places) (t : ℕ) (d : AbstractDevice) (bytes : List ℕ) → Shows p t d bytes → Stands p t d bytes
shows_stands p t d bytes s = record {
  images = record { sides = λ i. shows_at (place_at i p) (side_at i d) bytes (s.sides i); target_is = s.target_is };
  saved = s.saved;
}

-- the bytes and the value stand for a device
record StandsThen (new : DeviceState) (d : AbstractDevice) (b : FlashState) : Type 0 where
  held : List ℕ
  bytes : b.bytes ≡ Some held
  stands : DeviceStands new d held

start_comes : (old new : DeviceState) (d : AbstractDevice) (u : List ℕ) (a b : FlashState) → new.places ≡ old.places → a.bytes ≡ Some u → Stands old.places d.target d u
    → Restarts (Ok tt) old.places new a b → StandsThen new (start d) b
start_comes old new d u a b places bytes s r =
    let at = told_at (StartsOn new.places (Ok (begun_of r.images new))) a.bytes b.bytes u bytes r.starts.started in
    let e = at.2 d (subst (λ (p : Places). Stands p d.target d u) (sym places) s) in
    let carries : Carries (up_of r.images new.settings new.files new.counters) (start d) = record { running = sym e.running; files = sym r.files; counters = sym r.counters } in
    record {
      held = at.0;
      bytes = at.1;
      stands = record {
        stands = stands_own new.places r.images.target (start d) at.0 (shows_stands new.places r.images.target (start d) at.0 e.shows);
        up = subst (λ (o : Option Images). IfSome o (λ images. ((start d).target ≡ images.target) × Carries (up_of images new.settings new.files new.counters) (start d))) (sym r.up) (e.shows.target_is, carries);
      };
    }

-- A packet.

at_comes : (bytes out : List ℕ) (h : Handled) (a b : Point) (d : AbstractDevice) (u : List ℕ) → IsWhole a.device.places a.device.up a.device.settings → a.flash.bytes ≡ Some u → DeviceStands a.device d u
    → HandlesAt bytes out (Ok h) a b → CameSo (geometry_of a.device.places.first) (packet bytes) a.device.places b.device.settings b.device.files b.device.counters b.device.up d h out a.flash b.flash
at_comes bytes out h a b d u whole told s at = packet_comes bytes a.device b.device d u out h a.flash b.flash whole told s at.handles

came_stands : (bytes out : List ℕ) (h : Handled) (a b : Point) (d : AbstractDevice) → b.device.places ≡ a.device.places
    → (c : CameSo (geometry_of a.device.places.first) (packet bytes) a.device.places b.device.settings b.device.files b.device.counters b.device.up d h out a.flash b.flash)
    → DeviceStands b.device c.came.device c.held
came_stands bytes out h a b d places c = record {
  stands = subst (λ (p : Places). Stands p c.came.device.target c.came.device c.held) (sym places) c.stands;
  up = c.holds;
}

-- what a packet that passed leaves
record PassesDevice (x : Exchange) (a b : Point) (d : AbstractDevice) : Type 0 where
  outcome : Outcome
  came : Came
  comes : Comes (sizes_at a) d (packet x.packet) outcome came
  reply : x.reply ≡ came.reply
  last : AbstractDevice
  last_is : last ≡ started_if (resets (packet x.packet)) came.device
  then : StandsThen b.device last b.flash
  raised : RaisedOnce outcome a.flash.faults b.flash.faults
  whole : IsWhole b.device.places b.device.up b.device.settings
  sizes : sizes_at b ≡ sizes_at a

sizes_kept : (a b : Point) → b.device.places ≡ a.device.places → sizes_at b ≡ sizes_at a
sizes_kept a b places = ap (λ (p : Places). sizes_of (geometry_of p.first)) places

stays_so : (calm : Bool) (d : AbstractDevice) → calm ≡ false → d ≡ started_if calm d
stays_so true d e = cc
stays_so false d e = refl

starts_so : (calm : Bool) (d : AbstractDevice) → calm ≡ true → start d ≡ started_if calm d
starts_so true d e = refl
starts_so false d e = cc

passes_on : (x : Exchange) (handled : Handled) (out : List ℕ) (a m b : Point) (d : AbstractDevice) (u : List ℕ) → IsWhole a.device.places a.device.up a.device.settings → a.flash.bytes ≡ Some u → DeviceStands a.device d u
    → HandlesAt x.packet out (Ok handled) a m → x.reply ≡ reply_of handled out → StartsAfter handled m b → PassesDevice x a b d
passes_on x handleds.ReplyThenReset out a m b d u whole told s at reply starts =
    let c = at_comes x.packet out handleds.ReplyThenReset a m d u whole told s at in
    let st = came_stands x.packet out handleds.ReplyThenReset a m d at.places c in
    record {
      outcome = c.outcome;
      came = c.came;
      comes = c.comes;
      reply = reply ∙ c.reply;
      last = start c.came.device;
      last_is = starts_so (resets (packet x.packet)) c.came.device c.resets_so;
      then = start_comes m.device b.device c.came.device c.held m.flash b.flash starts.places c.bytes st.stands starts.restarts;
      raised = subst (λ (f : Faults). RaisedOnce c.outcome a.flash.faults f) (sym starts.restarts.starts.calls.passes.faults) c.raised;
      whole = starts.whole;
      sizes = sizes_kept m b starts.places ∙ sizes_kept a m at.places;
    }
passes_on x handleds.Reply out a m b d u whole told s at reply same =
    let c = at_comes x.packet out handleds.Reply a m d u whole told s at in
    let st = came_stands x.packet out handleds.Reply a m d at.places c in
    subst (λ (p : Point). PassesDevice x a p d) (sym same) record {
      outcome = c.outcome;
      came = c.came;
      comes = c.comes;
      reply = reply ∙ c.reply;
      last = c.came.device;
      last_is = stays_so (resets (packet x.packet)) c.came.device c.resets_so;
      then = record { held = c.held; bytes = c.bytes; stands = st };
      raised = c.raised;
      whole = at.whole;
      sizes = sizes_kept a m at.places;
    }
passes_on x handleds.Dropped out a m b d u whole told s at reply same =
    let c = at_comes x.packet out handleds.Dropped a m d u whole told s at in
    let st = came_stands x.packet out handleds.Dropped a m d at.places c in
    subst (λ (p : Point). PassesDevice x a p d) (sym same) record {
      outcome = c.outcome;
      came = c.came;
      comes = c.comes;
      reply = reply ∙ c.reply;
      last = c.came.device;
      last_is = stays_so (resets (packet x.packet)) c.came.device c.resets_so;
      then = record { held = c.held; bytes = c.bytes; stands = st };
      raised = c.raised;
      whole = at.whole;
      sizes = sizes_kept a m at.places;
    }

-- Packets in a row.

failures_more : (operation : Operation) (outcomes : List Outcome) (outcome : Outcome) → failures operation (outcomes ++ outcome ∷ []) ≡ failures operation outcomes + count_of operation outcome
failures_more operation [] outcome = omega arith
failures_more operation (o ∷ os) outcome = let more = failures_more operation os outcome in omega arith

rose_more : (n m k x y z : ℕ) → k ≡ n + m → RoseBy n x y → RoseBy m y z → RoseBy k x z
rose_more n m k x y z sum one two =
    let a = one.kept in let b = one.most in let c = two.kept in let d = two.most in
    record { kept = omega arith; most = omega arith; none = λ e. two.none (omega arith) ∙ one.none (omega arith) }

raised_more : (outcomes : List Outcome) (outcome : Outcome) (a b c : Faults) → Raised outcomes a b → RaisedOnce outcome b c → Raised (outcomes ++ outcome ∷ []) a c
raised_more outcomes outcome a b c h k = record {
  reads = rose_more (failures Read outcomes) (count_of Read outcome) _ a.reads b.reads c.reads (failures_more Read outcomes outcome) h.reads k.reads;
  writes = rose_more (failures Write outcomes) (count_of Write outcome) _ a.writes b.writes c.writes (failures_more Write outcomes outcome) h.writes k.writes;
  erases = rose_more (failures Erase outcomes) (count_of Erase outcome) _ a.erases b.erases c.erases (failures_more Erase outcomes outcome) h.erases k.erases;
}

none_raised : (a : Faults) → Raised [] a a
none_raised a = record {
  reads = record { kept = omega arith; most = omega arith; none = λ _. refl };
  writes = record { kept = omega arith; most = omega arith; none = λ _. refl };
  erases = record { kept = omega arith; most = omega arith; none = λ _. refl };
}

record ServesSo (a b : Point) (xs : List Exchange) (d : AbstractDevice) : Type 0 where
  serves : ServesDevice a b xs d
  whole : IsWhole b.device.places b.device.up b.device.settings
  sizes : sizes_at b ≡ sizes_at a

one_more : (a b c : Point) (earlier xs : List Exchange) (x : Exchange) (d : AbstractDevice) → ServesSo a b earlier d → Passes x b c → xs ≡ earlier ++ x ∷ [] → ServesSo a c xs d
one_more a b c earlier xs x d s p is =
    let n = passes_on x p.handled p.out b p.middle c s.serves.last s.serves.held s.whole s.serves.bytes s.serves.stands p.handles p.reply p.starts in
    record {
      serves = record {
        outcomes = s.serves.outcomes ++ n.outcome ∷ [];
        last = n.last;
        serves = given_one (sizes_at a) d s.serves.last n.last earlier xs s.serves.outcomes _ x n.outcome n.came s.serves.serves
            (subst (λ (z : Sizes). Comes z s.serves.last (packet x.packet) n.outcome n.came) s.sizes n.comes) n.reply n.last_is is refl;
        raised = raised_more s.serves.outcomes n.outcome a.flash.faults b.flash.faults c.flash.faults s.serves.raised n.raised;
        held = n.then.held;
        bytes = n.then.bytes;
        stands = n.then.stands;
      };
      whole = n.whole;
      sizes = n.sizes ∙ s.sizes;
    }

serves_so : (a b : Point) (xs : List Exchange) (d : AbstractDevice) (u : List ℕ) → Serves a xs b → IsWhole a.device.places a.device.up a.device.settings → a.flash.bytes ≡ Some u → DeviceStands a.device d u → ServesSo a b xs d
serves_so a b xs d u (no_packet a' b' xs' none same) whole told s =
    subst (λ (p : Point). ServesSo a' p xs' d) (sym same) record {
      serves = record { outcomes = []; last = d; serves = given_none (sizes_at a') d d xs' [] none refl refl; raised = none_raised a'.flash.faults; held = u; bytes = told; stands = s };
      whole = whole;
      sizes = refl;
    }
serves_so a b xs d u (one_packet a' m b' earlier xs' x before passes is) whole told s = one_more a' m b' earlier xs' x d (serves_so a' m earlier d u before whole told s) passes is

pub is_served : (a b : Point) (xs : List Exchange) → Serves a xs b → IsServed a b xs
is_served a b xs serves = record { device = λ d s. (serves_so a b xs d s.held serves s.whole s.bytes s.stands).serves }

-- Where a session stops.

unsent_device : (bytes reply : List ℕ) (a b : Point) (d : AbstractDevice) (u : List ℕ) → StopsUnsent bytes reply a b → IsWhole a.device.places a.device.up a.device.settings → a.flash.bytes ≡ Some u → DeviceStands a.device d u
    → UnsentDevice bytes reply a b d
unsent_device bytes reply a b d u stops whole told s =
    let c = at_comes bytes stops.out stops.handled a b d u whole told s stops.handles in
    record { outcome = c.outcome; came = c.came; comes = c.comes; reply_is = sym c.reply ∙ sym stops.reply_is; held = c.held; bytes = c.bytes; stands = came_stands bytes stops.out stops.handled a b d stops.handles.places c }

fallen_device : (bytes : List ℕ) (down : Down) (a b : Point) (d : AbstractDevice) (u : List ℕ) → StopsFallen bytes down a b → IsWhole a.device.places a.device.up a.device.settings → a.flash.bytes ≡ Some u → DeviceStands a.device d u
    → (down ≡ downs.Off) × FallenDevice bytes a b d
fallen_device bytes down a b d u stops whole told s =
    let f = packet_falls bytes a.device b.device down d u stops.out a.flash b.flash whole told s stops.handles.handles in (
      f.off,
      record {
        message = f.message;
        is = f.is;
        taken = f.taken;
        rest = f.rest;
        split = f.split;
        held = f.held;
        bytes = f.bytes;
        stands = record {
          stands = subst (λ (p : Places). Stands p (applied f.taken d).target (applied f.taken d) f.held) (sym stops.handles.places) f.stands;
          up = subst (λ (o : Option Images). IfSome o (λ images. ((applied f.taken d).target ≡ images.target) × Carries (up_of images b.device.settings b.device.files b.device.counters) (applied f.taken d))) (sym f.left_is) tt;
        };
      },
    )

unstarted_device : (bytes reply : List ℕ) (fault : UploadFault) (a b : Point) (d : AbstractDevice) (u : List ℕ) → StopsUnstarted bytes reply fault a b → IsWhole a.device.places a.device.up a.device.settings → a.flash.bytes ≡ Some u
    → DeviceStands a.device d u → UnstartedDevice bytes reply fault a b d
unstarted_device bytes reply fault a b d u stops whole told s =
    let m = stops.middle in
    let c = at_comes bytes reply handleds.ReplyThenReset a m d u whole told s stops.handles in
    let st = came_stands bytes reply handleds.ReplyThenReset a m d stops.handles.places c in
    let r = stops.starts.restarts in
    let at = told_at (StartsOn m.device.places (Err fault)) m.flash.bytes b.flash.bytes c.held c.bytes r.starts.started in
    let e = at.2 c.came.device st.stands in
    let f = applied e.taken c.came.device in
    record {
      outcome = c.outcome;
      came = c.came;
      comes = c.comes;
      reply_is = sym c.reply;
      is_reset = c.resets_so;
      before = c.held;
      caused = subst (λ (p : Places). StartCaused p (Err fault) (Some c.held)) (sym stops.starts.places)
          (subst (λ (o : Option (List ℕ)). StartCaused m.device.places (Err fault) o) c.bytes r.starts.caused);
      taken = e.taken;
      rest = e.rest;
      split = e.split;
      held = at.0;
      bytes = at.1;
      stands = record {
        stands = subst (λ (p : Places). Stands p f.target f at.0) (sym stops.starts.places) (stands_own m.device.places c.came.device.target f at.0 e.stands);
        up = subst (λ (o : Option Images). IfSome o (λ images. (f.target ≡ images.target) × Carries (up_of images b.device.settings b.device.files b.device.counters) f)) (sym r.down) tt;
      };
    }

stops_the_device : (stop : Stop) (a b : Point) (d : AbstractDevice) (u : List ℕ) → Stops stop a b → IsWhole a.device.places a.device.up a.device.settings → a.flash.bytes ≡ Some u → DeviceStands a.device d u
    → StopsDevice stop a b d
stops_the_device (unsent bytes reply) a b d u stops whole told s = unsent_device bytes reply a b d u stops whole told s
stops_the_device (fell bytes downs.Off) a b d u stops whole told s = (fallen_device bytes downs.Off a b d u stops whole told s).1
stops_the_device (fell bytes downs.Unformatted) a b d u stops whole told s = absurd (cc (fallen_device bytes downs.Unformatted a b d u stops whole told s).0)
stops_the_device (unstarted bytes reply fault) a b d u stops whole told s = unstarted_device bytes reply fault a b d u stops whole told s

pub is_stopped : (stop : Stop) (a m b : Point) (xs : List Exchange) → Serves a xs m → Stops stop m b → IsStopped stop a m b xs
is_stopped stop a m b xs serves stops = record {
  device = λ d s.
      let so = serves_so a m xs d s.held serves s.whole s.bytes s.stands in
      record { served = so.serves; stopped = stops_the_device stop m b so.serves.last so.serves.held stops so.whole so.serves.bytes so.serves.stands };
}
