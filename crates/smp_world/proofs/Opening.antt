-- A machine that is opened on a flash that was formatted.
use Rattle.std.proofs.Common.{◌≡◌, ◌≤◌, ℕ, List, [], Option, Some, None, false, Result, Ok, Err, refl, sym, ◌∙◌, ap, subst, inl, inr, arith}
use Rattle.std.specs.Prelude.{IfSome, option_map}
use Rattle.smp_flash.specs.Layout.{geometry_of, progress_of, settings_of}
use Rattle.smp_flash.specs.Memory.{Memory, told_by}
use Rattle.smp_flash.specs.State.{FlashState}
use Rattle.smp_flash.specs.declared.geometry.Geometry.{Geometry}
use Rattle.smp_gate.specs.Newest.{newest_generation}
use Rattle.smp_model.specs.declared.device.AbstractDevice.{AbstractDevice}
use Rattle.smp_model.specs.Counters.{no_counters}
use Rattle.smp_model.specs.Steps.{Step}
use Rattle.smp_upload.specs.declared.states.UploadFault.{UploadFault}
use Rattle.smp_upload.specs.declared.states.UploadFault.TheVariants as faults
use Rattle.smp_device.specs.Arming.{IsEnd, armed_in}
use Rattle.smp_device.specs.Formatting.{AreOfFirstGeneration, formatted}
use Rattle.smp_device.specs.Goings as goings
use Rattle.smp_device.specs.Goings.{Armed, Booted, Boots, StaysArmed, armed_by}
use Rattle.smp_device.specs.Handling.{DeviceState}
use Rattle.smp_device.specs.Places.{Places}
use Rattle.smp_device.specs.Starting.{IsUp, OpenFails, start_fault}
use Rattle.smp_device.specs.Up.{AllPlaces, Carries, IsWhole, up_of}
use Rattle.smp_device.specs.Uploads.{sizes_of}
use Rattle.smp_device.specs.declared.images.Images.{Images}
use Rattle.smp_device.specs.declared.device.OpenFault.{OpenFault}
use Rattle.smp_device.specs.declared.device.OpenFault.TheVariants as opens
use Rattle.smp_world.specs.Below.{DeviceGoes}
use Rattle.smp_world.specs.Comings.{is_up}
use Rattle.smp_world.specs.Machines.{AgedAtMost, IsFormatted, MachineStands, MachineState, OpensFormatted, OpensMachine, OpensUp, StartsAgain, armed_of, end_by}
use Rattle.smp_world.specs.declared.machine.BootEnd.TheVariants as ends
use Rattle.smp_world.proofs.FirstStates.{has_started}
use Rattle.smp_world.proofs.Standing.{armed_is_told, is_ready}
use Rattle.smp_world.proofs.Taking.{boots_machine, no_end}

first_age : (p : Places) (bytes : List ℕ) → AreOfFirstGeneration p bytes → AgedAtMost 1 p bytes
first_age p bytes h = record {
  progress = λ image layout at. one (newest_generation (progress_of layout) bytes) (h.progress image layout at);
  settings = one (newest_generation (settings_of p.first) bytes) h.settings;
} where
  one : (n : ℕ) → n ≡ 1 → n ≤ 1
  one n e = omega (arith, e)

-- a device that is down stands for it
down_stands : (g : Geometry) (image : List ℕ) (second : Option (List ℕ)) (s : DeviceState) (m : Memory) → IsFormatted g image second m → s.up ≡ None → AllPlaces g s.places → IsWhole s.places s.up s.settings → geometry_of s.places.first ≡ m.geometry
    → MachineStands 1 (record { device = s; flash = m; reply = [] }) (formatted (sizes_of g) image second)
down_stands g image second s m f down all whole sizes = record {
  whole = whole;
  sizes = sizes;
  stands = record {
    stands = f.stands s.places all;
    up = subst (λ (o : Option Images). IfSome o (λ images. (0 ≡ images.target) × Carries (up_of images s.settings s.files s.counters) (formatted (sizes_of g) image second))) (sym down) tt;
  };
  aged = first_age s.places m.bytes (f.banks s.places all);
  on = λ up. f.on;
}

ended_up : (e : goings.BootEnd) → ends.Up ≡ end_by e → e ≡ goings.up
ended_up goings.up h = refl
ended_up goings.cut h = cc h
ended_up goings.fault h = cc h

stays_none : (d : AbstractDevice) (steps : List Step) (o : Option Armed) → StaysArmed d steps None o → o ≡ None
stays_none d steps None h = refl
stays_none d steps (Some armed) h = absurd h

-- nothing is armed, so nothing strikes a boot
unarmed : (d : AbstractDevice) (armed : Option Armed) (b : Booted) → armed ≡ None → Boots armed d b → (b.ended ≡ goings.up) × (b.armed ≡ None)
unarmed d armed b none (inl plain) = (plain.ended, stays_none d b.taken b.armed (subst (λ (o : Option Armed). StaysArmed d b.taken o b.armed) none plain.stays))
unarmed d armed b none (inr struck) = impossible struck.arm (sym none ∙ struck.was) where
  impossible : (arm : Armed) → None ≡ Some arm → (b.ended ≡ goings.up) × (b.armed ≡ None)
  impossible arm e = cc e

opens_up : DeviceGoes → (g : Geometry) (image : List ℕ) (second : Option (List ℕ)) (m : MachineState) (before : Memory) → IsFormatted g image second before → geometry_of m.device.places.first ≡ before.geometry
    → IsUp m.device (told_by before) (told_by m.flash) → IsWhole m.device.places m.device.up m.device.settings → m.reply ≡ [] → OpensUp (sizes_of g) (formatted (sizes_of g) image second) m
opens_up laws g image second m before f sizes up whole reply =
    let d : AbstractDevice = formatted (sizes_of g) image second in
    let s : DeviceState = record m.device { up = None } in
    let old : MachineState = record { device = s; flash = before; reply = [] } in
    let geometry : geometry_of m.device.places.first ≡ g = sizes ∙ f.geometry in
    let down : MachineStands 1 old d = down_stands g image second s before f refl (subst (λ (x : Geometry). AllPlaces x m.device.places) geometry whole.all) (record { all = whole.all; images = tt; layout = whole.layout }) sizes in
    let again : StartsAgain ends.Up old m = record {
      result = Ok tt;
      restarts = subst (λ (x : Memory). IsUp m.device (told_by x) (told_by m.flash)) (λ i. record before { on = f.on i }) up;
      told = refl;
      places = refl;
      whole = whole;
      reply = reply;
    } in
    let b = boots_machine laws ends.Up old m again 1 d down (omega arith) in
    let none : armed_of old ≡ None = ap (option_map armed_by) f.unarmed in
    let plain = unarmed d (armed_of old) b.booted none b.boots in
    record {
      stands = subst (λ (x : AbstractDevice). MachineStands 3 m x) (ap (λ (e : goings.BootEnd). goings.booted_by e b.booted.taken d) plain.0 ∙ has_started (sizes_of g) image second) b.stands;
      up = b.up ∙ ap is_up plain.0;
      armed = b.armed ∙ plain.1;
      sizes_are = ap sizes_of geometry;
    }

-- a flash that was formatted is never refused
never : DeviceGoes → (g : Geometry) (image : List ℕ) (second : Option (List ℕ)) (fault : UploadFault) (before : Memory) (b : FlashState) → IsFormatted g image second before → OpenFails (Some fault) (told_by before) b → ⊥
never laws g image second fault before b f (p, (all, starts)) =
    let d : AbstractDevice = formatted (sizes_of g) image second in
    let s : DeviceState = record {
      places = p;
      up = None;
      settings = record { layout = p.first; bank = record { place = settings_of p.first; cell = 0; second = false; generation = 0; size = 0; gates = []; sure = false }; saved = []; running = []; form = [] };
      files = [];
      counters = no_counters;
      confirmed = record { zero = false; one = false };
    } in
    let own : geometry_of p.first ≡ before.geometry = all.are.first.0 in
    let whole : IsWhole p None s.settings = record { all = subst (λ (x : Geometry). AllPlaces x p) (sym own) all; images = tt; layout = refl } in
    let down = down_stands g image second s before f refl (subst (λ (x : Geometry). AllPlaces x p) f.geometry all) whole own in
    let c = laws.boots s s (Err fault) d before.bytes (told_by before) b (is_ready laws 1 s before [] d f.on down (omega arith)) refl (record { down = refl; starts = starts }) in
    let none : armed_in (told_by before) ≡ None = armed_is_told laws before ∙ ap (option_map armed_by) f.unarmed in
    no_end fault (subst (λ (e : goings.BootEnd). IsEnd (Err fault) e) (unarmed d (armed_in (told_by before)) c.booted none c.boots).0 c.answer)

fails : DeviceGoes → (g : Geometry) (image : List ℕ) (second : Option (List ℕ)) (fault : OpenFault) (before : Memory) (b : FlashState) → IsFormatted g image second before → OpenFails (start_fault fault) (told_by before) b → fault ≡ opens.OutOfMemory
fails laws g image second opens.OutOfMemory before b f h = refl
fails laws g image second opens.Unformatted before b f h = absurd (never laws g image second faults.Unformatted before b f h)
fails laws g image second (opens.Fault operation) before b f h = absurd (never laws g image second (faults.Fault operation) before b f h)
fails laws g image second opens.Off before b f h = absurd (never laws g image second faults.Off before b f h)
fails laws g image second opens.Worn before b f h = absurd (never laws g image second faults.Worn before b f h)

pub opens_formatted : DeviceGoes → (result : Result MachineState OpenFault) (before : Memory) → OpensMachine result before → OpensFormatted result before
opens_formatted laws (Ok m) before h g image second f = opens_up laws g image second m before f h.0.0 h.0.1 h.1 h.2
opens_formatted laws (Err fault) before h g image second f = fails laws g image second fault before (told_by h.0) f h.1
