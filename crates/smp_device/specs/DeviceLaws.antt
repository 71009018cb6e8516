-- The laws of the crates below by which a call on some of the device's parts leaves the others.
use Rattle.std.specs.Prelude.{◌≡◌, ℕ, List, false}
use Rattle.smp_flash.specs.Area.{Clear, Keeps}
use Rattle.smp_flash.specs.Layout.{settings_of}
use Rattle.smp_flash.specs.declared.layout.BankPlace.{BankPlace}
use Rattle.smp_flash.specs.declared.layout.Layout.{Layout}
use Rattle.smp_gate.specs.Newest.{newest_side}
use Rattle.smp_model.specs.declared.device.AbstractDevice.{AbstractDevice}
use Rattle.smp_model.specs.declared.device.Side.{Side}
use Rattle.smp_model.specs.declared.device.Sizes.{Sizes}
use Rattle.smp_model.specs.declared.setting.Setting.{Setting}
use Rattle.smp_model.specs.Does.{does}
use Rattle.smp_model.specs.FlashUse.{uses_images, uses_saved}
use Rattle.smp_model.specs.Laws.{EachStep, IsAboutImages, IsNoSave, IsOffSides, SameBesideImages}
use Rattle.smp_model.specs.Meant.{Meant}
use Rattle.smp_model.specs.Steps.{Step, Part}
use Rattle.smp_settings.specs.Saved.{SavedStand, SettingsSay, SettingsState, saved_in}
use Rattle.smp_upload.specs.Bytes.{Apart, SideStands}
use Rattle.smp_upload.specs.States.{Known, Says}

pub record DeviceLaws : Type 0 where
  -- what a request is about
  pub images : (sizes : Sizes) (d e : AbstractDevice) (m : Meant) → IsAboutImages m → Part d (does sizes d m).steps e → SameBesideImages d e
  pub counters : (d e : AbstractDevice) (steps : List Step) → Part d steps e → e.counters ≡ d.counters
  -- a request that does not come to the flash has no step there
  pub off_sides : (sizes : Sizes) (d : AbstractDevice) (m : Meant) → uses_images sizes d m ≡ false → EachStep IsOffSides (does sizes d m).steps
  pub no_save : (sizes : Sizes) (d : AbstractDevice) (m : Meant) → uses_saved m ≡ false → EachStep IsNoSave (does sizes d m).steps
  -- changes outside an image's regions
  pub stand : (layout : Layout) (side : Side) (spots : List (ℕ × ℕ)) (old new : List ℕ) → Apart layout spots → Keeps spots old new → SideStands layout side old → SideStands layout side new
  pub say : (known : Known) (spots : List (ℕ × ℕ)) (old new : List ℕ) → Apart known.layout spots → Keeps spots old new → Says known old → Says known new
  -- changes outside the settings bank
  pub saved : (layout : Layout) (spots : List (ℕ × ℕ)) (old new : List ℕ) → Clear spots (settings_of layout).first.at 4096 → Clear spots (settings_of layout).second.at 4096 → Keeps spots old new
      → saved_in layout new ≡ saved_in layout old
  pub settings : (s : SettingsState) (spots : List (ℕ × ℕ)) (old new : List ℕ) → Clear spots (settings_of s.layout).first.at 4096 → Clear spots (settings_of s.layout).second.at 4096 → Keeps spots old new
      → SettingsSay s old → SettingsSay s new
  -- changes outside a bank
  pub newest : (place : BankPlace) (spots : List (ℕ × ℕ)) (old new : List ℕ) → Clear spots place.first.at 4096 → Clear spots place.second.at 4096 → Keeps spots old new
      → newest_side place new ≡ newest_side place old
  -- bytes stand for one map of saved settings, and for one side, at most
  pub one_saved : (layout : Layout) (x y : List Setting) (bytes : List ℕ) → SavedStand layout x bytes → SavedStand layout y bytes → x ≡ y
  pub one_side : (layout : Layout) (x y : Side) (bytes : List ℕ) → SideStands layout x bytes → SideStands layout y bytes → x ≡ y
