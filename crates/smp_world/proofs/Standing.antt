-- A machine that stands for a device is ready, as the laws on packets and boots want it.
use Rattle.std.proofs.Common.{◌≡◌, ◌+◌, ◌≤◌, ◌<◌, ◌^◌, ℕ, List, Option, Some, Bool, true, refl, sym, ◌∙◌, ap, subst, arith}
use Rattle.std.specs.Prelude.{option_map, is_some}
use Rattle.smp_flash.specs.Layout.{geometry_of, progress_of, settings_of}
use Rattle.smp_flash.specs.Memory.{Memory, told_by}
use Rattle.smp_flash.specs.declared.geometry.Geometry.{Geometry}
use Rattle.smp_gate.specs.Newest.{newest_generation}
use Rattle.smp_model.specs.declared.device.AbstractDevice.{AbstractDevice}
use Rattle.smp_progress.specs.State.{CanTake}
use Rattle.smp_device.specs.Arming.{Aged, DeviceStands, IsFresh, IsReady, Left, armed_in}
use Rattle.smp_device.specs.Goings.{Armed, armed_by}
use Rattle.smp_device.specs.Handling.{DeviceState}
use Rattle.smp_device.specs.Places.{Places}
use Rattle.smp_device.specs.Up.{AllPlaces, IsWhole}
use Rattle.smp_world.specs.Below.{DeviceGoes}
use Rattle.smp_world.specs.Machines.{MachineStands, AgedAtMost, powered}

-- Ages.

can_take : (g age n : ℕ) → n ≤ 5 → g ≤ age → age + 5 < 2 ^ 32 → CanTake g n
can_take g age n few old room = omega (arith, few, old, room)

is_fresh : (age : ℕ) (p : Places) (bytes : List ℕ) → AgedAtMost age p bytes → age + 5 < 2 ^ 32 → IsFresh p bytes
is_fresh age p bytes aged room = record {
  progress = λ image layout at. can_take (newest_generation (progress_of layout) bytes) age 5 (omega arith) (aged.progress image layout at) room;
  settings = can_take (newest_generation (settings_of p.first) bytes) age 1 (omega arith) aged.settings room;
}

later : (g h age n more : ℕ) → g ≤ age → h ≤ g + n → n ≤ more → h ≤ age + more
later g h age n more old grown few = omega (arith, old, grown, few)

pub ages_on : (age n k more : ℕ) (p : Places) (before after : List ℕ) → AgedAtMost age p before → Aged p n k before after → n ≤ more → k ≤ more → AgedAtMost (age + more) p after
ages_on age n k more p before after old grown few fewer = record {
  progress = λ image layout at. later (newest_generation (progress_of layout) before) (newest_generation (progress_of layout) after) age n more (old.progress image layout at) (grown.progress image layout at).most few;
  settings = later (newest_generation (settings_of p.first) before) (newest_generation (settings_of p.first) after) age k more old.settings grown.settings.most fewer;
}

up_to : (g age more : ℕ) → g ≤ age → age ≤ more → g ≤ more
up_to g age more a b = omega (arith, a, b)

pub ages_more : (age more : ℕ) (p : Places) (bytes : List ℕ) → age ≤ more → AgedAtMost age p bytes → AgedAtMost more p bytes
ages_more age more p bytes below old = record {
  progress = λ image layout at. up_to (newest_generation (progress_of layout) bytes) age more (old.progress image layout at) below;
  settings = up_to (newest_generation (settings_of p.first) bytes) age more old.settings below;
}

-- What is armed.

pub armed_is_told : DeviceGoes → (m : Memory) → armed_in (told_by m) ≡ option_map armed_by m.arm
armed_is_told laws m = laws.told (option_map armed_by m.arm) (told_by m) (laws.memory m)

-- It is ready where its flash is on.
pub is_ready : DeviceGoes → (age : ℕ) (s : DeviceState) (m : Memory) (reply : List ℕ) (d : AbstractDevice) → m.on ≡ true → MachineStands age (record { device = s; flash = m; reply = reply }) d → age + 5 < 2 ^ 32
    → IsReady s d m.bytes (told_by m)
is_ready laws age s m reply d on stands room = record {
  whole = stands.whole;
  told = record {
    sizes = subst (λ (g : Geometry). AllPlaces g s.places) stands.sizes stands.whole.all;
    on = on;
    bytes_are = refl;
    telling = laws.telling (option_map armed_by m.arm) (told_by m) (laws.memory m);
    fresh = is_fresh age s.places m.bytes stands.aged room;
  };
  stands = stands.stands;
}

is_held : (x y : List ℕ) → Some y ≡ Some x → x ≡ y
is_held x y e = cc e

-- What is left of a call stands for the device after it.
pub left_stands : DeviceGoes → (age more n k : ℕ) (old new : DeviceState) (before after : Memory) (armed : Option Armed) (powered : Bool) (reply : List ℕ) (d e : AbstractDevice)
    → MachineStands age (record { device = old; flash = before; reply = reply }) d → IsWhole new.places new.up new.settings → new.places ≡ old.places
    → (is_some new.up ≡ true → powered ≡ true) → n ≤ more → k ≤ more
    → Left old.places n k before.bytes armed powered new e (told_by before) (told_by after)
    → (out : List ℕ) → MachineStands (age + more) (record { device = new; flash = after; reply = out }) e
left_stands laws age more n k old new before after armed powered reply d e stands whole same on few fewer left out = record {
  whole = whole;
  sizes = ap (λ (p : Places). geometry_of p.first) same ∙ stands.sizes ∙ sym left.sizes;
  stands = subst (λ (held : List ℕ). DeviceStands new e held) (is_held left.held after.bytes left.bytes) left.stands;
  aged = subst (λ (p : Places). AgedAtMost (age + more) p after.bytes) (sym same)
      (ages_on age n k more old.places before.bytes after.bytes stands.aged (subst (λ (held : List ℕ). Aged old.places n k before.bytes held) (is_held left.held after.bytes left.bytes) left.aged) few fewer);
  on = λ up. left.on ∙ on up;
}
