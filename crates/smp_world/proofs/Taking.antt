-- What a machine does with a packet and at a boot, of the device that it stands for.
use Rattle.std.proofs.Common.{◌≡◌, ◌+◌, ◌≤◌, ◌<◌, ◌^◌, ℕ, List, Option, Some, None, Bool, true, false, not, ◌&&◌, Result, Ok, Err, refl, sym, ◌∙◌, ap, subst, inl, inr, arith, IsTrue}
use Rattle.std.specs.Prelude.{is_some}
use Rattle.smp_flash.specs.Memory.{Memory, told_by}
use Rattle.smp_flash.specs.declared.region.Region.{Region}
use Rattle.smp_flash.specs.declared.region.Region.TheVariants as regions
use Rattle.smp_header.specs.Message.{Message, packet}
use Rattle.smp_model.specs.declared.device.AbstractDevice.{AbstractDevice}
use Rattle.smp_model.specs.declared.device.Sizes.{Sizes}
use Rattle.smp_model.specs.Counters.{after_drop}
use Rattle.smp_model.specs.Handled.{is_request, is_reset}
use Rattle.smp_model.specs.Meaning.{meaning}
use Rattle.smp_model.specs.Meant.{Meant, reset}
use Rattle.smp_model.specs.Said.{Said}
use Rattle.smp_model.specs.Steps.{Step, start}
use Rattle.smp_upload.specs.declared.states.UploadFault.{UploadFault}
use Rattle.smp_upload.specs.declared.states.UploadFault.TheVariants as faults
use Rattle.smp_device.specs.Arming.{Left, BootComes, DropComes, IsEnd, MessageComes, PacketComes, RequestComes, answered_by, armed_in, is_powered_by, is_up_by}
use Rattle.smp_device.specs.Goings as goings
use Rattle.smp_device.specs.Goings.{Armed, Booted, Boots, Goes, Went, after_boot, after_going, armed_by, reaches}
use Rattle.smp_device.specs.Handling.{DeviceState}
use Rattle.smp_device.specs.Places.{Places}
use Rattle.smp_device.specs.Showing.{shown_of}
use Rattle.smp_device.specs.Starting.{IsUp, Restarts}
use Rattle.smp_device.specs.Up.{IsWhole, Stands}
use Rattle.smp_device.specs.declared.answering.Down.{Down}
use Rattle.smp_device.specs.declared.answering.Handled.{Handled}
use Rattle.smp_device.specs.declared.images.Images.{Images}
use Rattle.smp_world.specs.Below.{DeviceGoes}
use Rattle.smp_world.specs.Comings.{BootsAfter, is_up}
use Rattle.smp_world.specs.Machines.{MachineState, MachineStands, BootTakes, BootsIf, BootsMachine, Delivers, DeliversBy, DropTakes, IsShown, MessageTakes, PacketTakes, RequestTakes, ShowsIf, StartsAgain, TakesBy, TakesBytes, boot_end, end_by, fate_by, fate_of, powered, sizes_in}
use Rattle.smp_world.specs.declared.machine.BootEnd.{BootEnd}
use Rattle.smp_world.specs.declared.machine.Fate.{Fate}
use Rattle.smp_world.specs.declared.machine.Fate.TheVariants as fates
use Rattle.smp_world.proofs.Standing.{ages_more, armed_is_told, is_ready, left_stands}

-- Boots.

end_told : (result : Result (Unit {0}) UploadFault) (e : goings.BootEnd) → IsEnd result e → boot_end result ≡ end_by e
end_told (Ok x) goings.up h = refl
end_told (Ok x) goings.cut h = absurd h
end_told (Ok x) goings.fault h = absurd h
end_told (Err faults.Off) goings.cut h = refl
end_told (Err faults.Off) goings.up h = absurd h
end_told (Err faults.Off) goings.fault h = absurd h
end_told (Err (faults.Fault operation)) goings.fault h = refl
end_told (Err (faults.Fault operation)) goings.up h = absurd h
end_told (Err (faults.Fault operation)) goings.cut h = absurd h
end_told (Err faults.Worn) goings.up h = absurd h
end_told (Err faults.Worn) goings.cut h = absurd h
end_told (Err faults.Worn) goings.fault h = absurd h
end_told (Err faults.Unformatted) goings.up h = absurd h
end_told (Err faults.Unformatted) goings.cut h = absurd h
end_told (Err faults.Unformatted) goings.fault h = absurd h

up_told : (e : goings.BootEnd) → is_up_by e ≡ is_up e
up_told goings.up = refl
up_told goings.cut = refl
up_told goings.fault = refl

powered_up : (e : goings.BootEnd) → is_up_by e ≡ true → is_powered_by e ≡ true
powered_up goings.up h = refl
powered_up goings.cut h = cc h
powered_up goings.fault h = refl

stands_powered : (age : ℕ) (s : DeviceState) (m : Memory) (reply : List ℕ) (d : AbstractDevice) → MachineStands age (record { device = s; flash = m; reply = reply }) d → MachineStands age (record { device = s; flash = powered m; reply = reply }) d
stands_powered age s m reply d h = record { whole = h.whole; sizes = h.sizes; stands = h.stands; aged = h.aged; on = λ up. refl }

pub no_end : (fault : UploadFault) → IsEnd (Err fault) goings.up → ⊥
no_end faults.Off h = h
no_end (faults.Fault operation) h = h
no_end faults.Worn h = h
no_end faults.Unformatted h = h

-- what a device shows that started
started_shows : (s : DeviceState) (before after : Memory) (reply : List ℕ) (d : AbstractDevice) → Stands s.places d.target d before.bytes → IsUp s (told_by before) (told_by after) → IsShown (record { device = s; flash = after; reply = reply }) (start d)
started_shows s before after reply d stands f =
    let begun = f.starts.started d stands in
    record {
      sides = λ image. ap (λ (o : Option Images). shown_of image o s.confirmed) f.up ∙ begun.shown image;
      saved = begun.form;
    }

shows_by : (result : Result (Unit {0}) UploadFault) (e : goings.BootEnd) (taken : List Step) (places : Places) (s : DeviceState) (before after : Memory) (reply : List ℕ) (d : AbstractDevice) → IsEnd result e → Stands s.places d.target d before.bytes
    → Restarts result places s (told_by before) (told_by after) → ShowsIf e (record { device = s; flash = after; reply = reply }) (goings.booted_by e taken d)
shows_by (Ok x) goings.up taken places s before after reply d end stands f = started_shows s before after reply d stands f
shows_by (Err fault) goings.up taken places s before after reply d end stands f = absurd (no_end fault end)
shows_by result goings.cut taken places s before after reply d end stands f = tt
shows_by result goings.fault taken places s before after reply d end stands f = tt

pub stands_later : (age more : ℕ) (m : MachineState) (d : AbstractDevice) → age ≤ more → MachineStands age m d → MachineStands more m d
stands_later age more m d below h = record { whole = h.whole; sizes = h.sizes; stands = h.stands; aged = ages_more age more m.device.places m.flash.bytes below h.aged; on = h.on }

boot_takes : DeviceGoes → (age : ℕ) (d : AbstractDevice) (ended : BootEnd) (old new : MachineState) (f : StartsAgain ended old new) → MachineStands age old d → age + 5 < 2 ^ 32
    → BootComes d old.flash.bytes new.device f.result (told_by (powered old.flash)) (told_by new.flash) → BootTakes (age + 2) d ended old new
boot_takes laws age d ended old new f stands room c = record {
  booted = c.booted;
  boots = subst (λ (armed : Option Armed). Boots armed d c.booted) (armed_is_told laws (powered old.flash)) c.boots;
  ended_so = f.told ∙ end_told f.result c.booted.ended c.answer;
  up = c.is_up ∙ up_told c.booted.ended;
  armed = sym (armed_is_told laws new.flash) ∙ c.left.armed_is;
  stands = left_stands laws age 2 2 0 old.device new.device (powered old.flash) new.flash c.booted.armed (is_powered_by c.booted.ended) old.reply d (after_boot c.booted d)
      (stands_powered age old.device old.flash old.reply d stands) f.whole f.places (λ up. powered_up c.booted.ended (sym c.is_up ∙ up)) (omega arith) (omega arith)
      (subst (λ (p : Places). Left p 2 0 old.flash.bytes c.booted.armed (is_powered_by c.booted.ended) new.device (after_boot c.booted d) (told_by (powered old.flash)) (told_by new.flash)) f.places c.left) new.reply;
  places = f.places;
  shows = shows_by f.result c.booted.ended c.booted.taken old.device.places new.device (powered old.flash) new.flash new.reply d c.answer
      (subst (λ (p : Places). Stands p d.target d old.flash.bytes) (sym f.places) stands.stands.stands) f.restarts;
}

pub boots_machine : DeviceGoes → (ended : BootEnd) (old new : MachineState) → StartsAgain ended old new → BootsMachine ended old new
boots_machine laws ended old new f age d stands room =
    boot_takes laws age d ended old new f stands room
    (laws.boots old.device new.device f.result d old.flash.bytes (told_by (powered old.flash)) (told_by new.flash)
    (is_ready laws age old.device (powered old.flash) old.reply d refl (stands_powered age old.device old.flash old.reply d stands) room) f.places f.restarts)

-- Packets.

fate_told : (o : Option Said) (r : Bool) → fate_of (answered_by o r) ≡ fate_by o r
fate_told None r = refl
fate_told (Some reply) true = refl
fate_told (Some reply) false = refl

and_not : (o : Option Said) (r : Bool) → r ≡ false → (is_some o && not r) ≡ is_some o
and_not None r e = refl
and_not (Some reply) true e = cc e
and_not (Some reply) false e = refl

both_up : (o : Option Said) (r : Bool) → (is_some o && not r) ≡ true → is_some o ≡ true
both_up None r e = e
both_up (Some reply) r e = refl

-- nothing that is armed reaches a reset
unreached : (sizes : Sizes) (d : AbstractDevice) (region : Region) → reaches sizes d region reset ≡ false
unreached sizes d regions.Any = refl
unreached sizes d regions.Slot0 = refl
unreached sizes d regions.Slot1 = refl
unreached sizes d regions.Progress = refl
unreached sizes d regions.Scratch = refl
unreached sizes d regions.Settings = refl
unreached sizes d regions.ProgressGate = refl
unreached sizes d regions.SettingsGate = refl
unreached sizes d regions.Slot2 = refl
unreached sizes d regions.Slot3 = refl
unreached sizes d regions.Progress2 = refl
unreached sizes d regions.Progress2Gate = refl
unreached sizes d regions.Scratch2 = refl

not_true : (b : Bool) → b ≡ false → IsTrue b → ⊥
not_true true e h = cc e
not_true false e h = cc h

is_the_reset : (m : Meant) → is_reset (Ok m) ≡ true → m ≡ reset
is_the_reset reset e = refl
is_the_reset m e = cc e

not_reached : (sizes : Sizes) (d : AbstractDevice) (region : Region) (m : Meant) → IsTrue (reaches sizes d region m) → is_reset (Ok m) ≡ true → ⊥
not_reached sizes d region m h e =
    not_true (reaches sizes d region reset) (unreached sizes d region) (subst (λ (x : Meant). IsTrue (reaches sizes d region x)) (is_the_reset m e) h)

no_cut : (sizes : Sizes) (armed : Option Armed) (d : AbstractDevice) (m : Result Meant ℕ) (w : Went) → Goes sizes armed d m w → is_reset m ≡ true → is_some w.reply ≡ true
no_cut sizes armed d m w (inl plain) e = ap (λ (o : Option Said). is_some o) plain.reply
no_cut sizes armed d m w (inr struck) e = absurd (not_reached sizes d struck.arm.region struck.request struck.reached (subst (λ (x : Result Meant ℕ). is_reset x ≡ true) struck.means e))

-- what a machine is after it handled a request
handled_stands : DeviceGoes → (age : ℕ) (to : Message) (d : AbstractDevice) (old mid : MachineState) (result : Result Handled Down) → MachineStands age old d → IsWhole mid.device.places mid.device.up mid.device.settings → mid.device.places ≡ old.device.places
    → (c : RequestComes to d old.flash.bytes old.device mid.device mid.reply result (told_by old.flash) (told_by mid.flash)) → MachineStands (age + 5) mid (after_going c.went d)
handled_stands laws age to d old mid result stands whole same c =
    left_stands laws age 5 5 1 old.device mid.device old.flash mid.flash c.went.armed (is_some c.went.reply) old.reply d (after_going c.went d)
    stands whole same (λ up. both_up c.went.reply (is_reset (meaning to)) (sym c.is_up ∙ up)) (omega arith) (omega arith) c.left mid.reply

-- a request that is no reset
stays_takes : DeviceGoes → (age : ℕ) (to : Message) (d : AbstractDevice) (fate : Fate) (old mid : MachineState) (result : Result Handled Down) → MachineStands age old d → IsWhole mid.device.places mid.device.up mid.device.settings → mid.device.places ≡ old.device.places
    → fate ≡ fate_of result → is_reset (meaning to) ≡ false
    → RequestComes to d old.flash.bytes old.device mid.device mid.reply result (told_by old.flash) (told_by mid.flash) → RequestTakes (age + 7) to d fate None old mid
stays_takes laws age to d fate old mid result stands whole same told none c = record {
  came = record { went = c.went; boot = None };
  comes = record {
    goes = subst (λ (armed : Option Armed). Goes (sizes_in old) armed d (meaning to) c.went) (armed_is_told laws old.flash) c.goes;
    boots = subst (λ (r : Bool). BootsAfter r c.went.armed (after_going c.went d) None) (sym none) tt;
  };
  reply = c.sent;
  fate_is = told ∙ ap fate_of c.answer ∙ fate_told c.went.reply (is_reset (meaning to));
  boot_is = refl;
  up = c.is_up ∙ and_not c.went.reply (is_reset (meaning to)) none;
  armed = sym (armed_is_told laws mid.flash) ∙ c.left.armed_is;
  stands = stands_later (age + 5) (age + 7) mid (after_going c.went d) (omega arith) (handled_stands laws age to d old mid result stands whole same c);
  places = same;
  shows = tt;
}

-- a reset, with its boot
resets_takes : DeviceGoes → (age : ℕ) (to : Message) (d : AbstractDevice) (fate : Fate) (end : BootEnd) (old mid new : MachineState) (result : Result Handled Down) → MachineStands age old d → age + 10 < 2 ^ 32 → IsWhole mid.device.places mid.device.up mid.device.settings
    → mid.device.places ≡ old.device.places → fate ≡ fate_of result → is_reset (meaning to) ≡ true
    → RequestComes to d old.flash.bytes old.device mid.device mid.reply result (told_by old.flash) (told_by mid.flash) → StartsAgain end mid new → RequestTakes (age + 7) to d fate (Some end) old new
resets_takes laws age to d fate end old mid new result stands room whole same told is c f =
    let goes = subst (λ (armed : Option Armed). Goes (sizes_in old) armed d (meaning to) c.went) (armed_is_told laws old.flash) c.goes in
    let b = boots_machine laws end mid new f (age + 5) (after_going c.went d) (handled_stands laws age to d old mid result stands whole same c) (omega (arith, room)) in
    let armed = sym (armed_is_told laws mid.flash) ∙ c.left.armed_is in
    record {
      came = record { went = c.went; boot = Some b.booted };
      comes = record {
        goes = goes;
        boots = subst (λ (r : Bool). BootsAfter r c.went.armed (after_going c.went d) (Some b.booted)) (sym is) (subst (λ (x : Option Armed). Boots x (after_going c.went d) b.booted) armed b.boots);
      };
      reply = f.reply ∙ c.sent;
      fate_is = told ∙ ap fate_of c.answer ∙ fate_told c.went.reply (is_reset (meaning to));
      boot_is = ap (λ (x : BootEnd). Some x) b.ended_so;
      up = b.up;
      armed = b.armed;
      stands = stands_later (age + 5 + 2) (age + 7) new (after_boot b.booted (after_going c.went d)) (omega arith) b.stands;
      places = b.places ∙ same;
      shows = b.shows;
    }

fate_is_reset : (o : Option Said) → is_some o ≡ true → fate_by o true ≡ fates.Reset
fate_is_reset None e = cc e
fate_is_reset (Some reply) e = refl

-- no boot follows it
no_boot : (fate : Fate) (boot : Option BootEnd) (mid new : MachineState) → BootsIf fate boot mid new → (fate ≡ fates.Reset → ⊥) → (boot ≡ None) × (new ≡ mid)
no_boot fates.Replied boot mid new h n = h
no_boot fates.Dropped boot mid new h n = h
no_boot fates.Down boot mid new h n = h
no_boot fates.Cut boot mid new h n = h
no_boot fates.Reset boot mid new h n = absurd (n refl)

no_reset : (o : Option Said) → fate_by o false ≡ fates.Reset → ⊥
no_reset None e = cc e
no_reset (Some reply) e = cc e

request_takes : DeviceGoes → (age : ℕ) (to : Message) (d : AbstractDevice) (fate : Fate) (boot : Option BootEnd) (old mid new : MachineState) (result : Result Handled Down) → MachineStands age old d → age + 10 < 2 ^ 32 → IsWhole mid.device.places mid.device.up mid.device.settings
    → mid.device.places ≡ old.device.places → fate ≡ fate_of result → (r : Bool) → is_reset (meaning to) ≡ r
    → RequestComes to d old.flash.bytes old.device mid.device mid.reply result (told_by old.flash) (told_by mid.flash) → BootsIf fate boot mid new → RequestTakes (age + 7) to d fate boot old new
request_takes laws age to d fate boot old mid new result stands room whole same told false e c f =
    let is : fate ≡ fate_by c.went.reply false = told ∙ ap fate_of c.answer ∙ fate_told c.went.reply (is_reset (meaning to)) ∙ ap (fate_by c.went.reply) e in
    let none = no_boot fate boot mid new f (λ h. no_reset c.went.reply (sym is ∙ h)) in
    subst (λ (m : MachineState). RequestTakes (age + 7) to d fate boot old m) (sym none.1)
    (subst (λ (b : Option BootEnd). RequestTakes (age + 7) to d fate b old mid) (sym none.0)
    (stays_takes laws age to d fate old mid result stands whole same told e c))
request_takes laws age to d fate boot old mid new result stands room whole same told true e c f =
    let sent = no_cut (sizes_in old) (armed_in (told_by old.flash)) d (meaning to) c.went c.goes e in
    let is : fate ≡ fates.Reset = told ∙ ap fate_of c.answer ∙ fate_told c.went.reply (is_reset (meaning to)) ∙ ap (fate_by c.went.reply) e ∙ fate_is_reset c.went.reply sent in
    let b : BootsIf fates.Reset boot mid new = subst (λ (x : Fate). BootsIf x boot mid new) is f in
    subst (λ (x : Option BootEnd). RequestTakes (age + 7) to d fate x old new) (sym b.1.0)
    (resets_takes laws age to d fate b.0 old mid new result stands room whole same told e c b.1.1)

drop_takes : DeviceGoes → (age : ℕ) (d : AbstractDevice) (fate : Fate) (boot : Option BootEnd) (old mid new : MachineState) (result : Result Handled Down) → MachineStands age old d → IsWhole mid.device.places mid.device.up mid.device.settings
    → mid.device.places ≡ old.device.places → fate ≡ fate_of result → DropComes d old.flash.bytes old.device mid.device mid.reply result (told_by old.flash) (told_by mid.flash) → BootsIf fate boot mid new → DropTakes (age + 7) d fate boot old new
drop_takes laws age d fate boot old mid new result stands whole same told c f =
    let is : fate ≡ fates.Dropped = told ∙ ap fate_of c.answer in
    let none : BootsIf fates.Dropped boot mid new = subst (λ (x : Fate). BootsIf x boot mid new) is f in
    let e : AbstractDevice = record d { counters = after_drop d.counters } in
    subst (λ (m : MachineState). DropTakes (age + 7) d fate boot old m) (sym none.1) (record {
      fate_is = is;
      boot_is = none.0;
      up = ap (λ (o : Option Images). is_some o) c.is_up;
      armed = sym (armed_is_told laws mid.flash) ∙ c.left.armed_is ∙ armed_is_told laws old.flash;
      stands = left_stands laws age 7 0 0 old.device mid.device old.flash mid.flash (armed_in (told_by old.flash)) true old.reply d e stands whole same (λ up. refl) (omega arith) (omega arith) c.left mid.reply;
      places = same;
    })

message_takes : DeviceGoes → (request : Bool) (age : ℕ) (to : Message) (d : AbstractDevice) (fate : Fate) (boot : Option BootEnd) (old mid new : MachineState) (result : Result Handled Down) → MachineStands age old d → age + 10 < 2 ^ 32
    → IsWhole mid.device.places mid.device.up mid.device.settings → mid.device.places ≡ old.device.places → fate ≡ fate_of result
    → MessageComes request to d old.flash.bytes old.device mid.device mid.reply result (told_by old.flash) (told_by mid.flash) → BootsIf fate boot mid new → MessageTakes request (age + 7) to d fate boot old new
message_takes laws true age to d fate boot old mid new result stands room whole same told c f = request_takes laws age to d fate boot old mid new result stands room whole same told (is_reset (meaning to)) refl c f
message_takes laws false age to d fate boot old mid new result stands room whole same told c f = drop_takes laws age d fate boot old mid new result stands whole same told c f

packet_takes : DeviceGoes → (p : Option Message) (age : ℕ) (d : AbstractDevice) (fate : Fate) (boot : Option BootEnd) (old mid new : MachineState) (result : Result Handled Down) → MachineStands age old d → age + 10 < 2 ^ 32
    → IsWhole mid.device.places mid.device.up mid.device.settings → mid.device.places ≡ old.device.places → fate ≡ fate_of result
    → PacketComes p d old.flash.bytes old.device mid.device mid.reply result (told_by old.flash) (told_by mid.flash) → BootsIf fate boot mid new → PacketTakes p (age + 7) d fate boot old new
packet_takes laws None age d fate boot old mid new result stands room whole same told c f = drop_takes laws age d fate boot old mid new result stands whole same told c f
packet_takes laws (Some to) age d fate boot old mid new result stands room whole same told c f = message_takes laws (is_request to) age to d fate boot old mid new result stands room whole same told c f

takes_by : DeviceGoes → (o : Option Images) (bytes : List ℕ) (fate : Fate) (boot : Option BootEnd) (old mid new : MachineState) → old.device.up ≡ o → DeliversBy o bytes fate old mid → BootsIf fate boot mid new
    → (age : ℕ) (d : AbstractDevice) → MachineStands age old d → age + 10 < 2 ^ 32 → TakesBy (is_some o) (age + 7) bytes d fate boot old new
takes_by laws None bytes fate boot old mid new e h f age d stands room =
    let none : BootsIf fates.Down boot mid new = subst (λ (x : Fate). BootsIf x boot mid new) h.0 f in
    (h.0, none.0, none.1 ∙ h.1)
takes_by laws (Some images) bytes fate boot old mid new e h f age d stands room =
    packet_takes laws (packet bytes) age d fate boot old mid new h.result stands room h.whole h.places h.told
    (laws.packets bytes old.device mid.device d old.flash.bytes mid.reply h.result (told_by old.flash) (told_by mid.flash)
    (is_ready laws age old.device old.flash old.reply d (stands.on (ap (λ (x : Option Images). is_some x) e)) stands (omega (arith, room))) h.places h.handles)
    f

pub takes_bytes : DeviceGoes → (bytes : List ℕ) (fate : Fate) (boot : Option BootEnd) (old mid new : MachineState) → Delivers bytes fate old mid → BootsIf fate boot mid new → TakesBytes bytes fate boot old new
takes_bytes laws bytes fate boot old mid new h f age d stands room = takes_by laws old.device.up bytes fate boot old mid new refl h f age d stands room
