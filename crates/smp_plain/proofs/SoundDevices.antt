-- A consistent device is sound.
use Rattle.std.proofs.Common.{◌≡◌, ◌≤◌, ◌<◌, ◌+◌, ◌*◌, ◌^◌, ◌&&◌, ℕ, List, [], ◌∷◌, length, Bool, true, false, Option, Some, None, refl, arith}
use Rattle.std.specs.Prelude.{IfSome, nat_le}
use Rattle.std.specs.List.{All, list_all}
use Rattle.std.specs.Str.{is_utf8}
use Rattle.std.proofs.lemmas.Bool.Decides.{nat_tests}
use Rattle.std.proofs.lemmas.List.Elements.{All-nil, All-cons}
use Rattle.smp_model.specs.declared.device.AbstractDevice.{AbstractDevice}
use Rattle.smp_model.specs.declared.device.Side.{Side}
use Rattle.smp_model.specs.declared.device.Sizes.{Sizes}
use Rattle.smp_model.specs.declared.device.StoredFile.{StoredFile}
use Rattle.smp_model.specs.declared.device.Upload.{Upload}
use Rattle.smp_model.specs.declared.setting.Setting.{Setting}
use Rattle.smp_model.specs.Consistent.{is_file, are_files, UploadFits, IsConsistentSide, IsConsistent}
use Rattle.smp_model.specs.Files.{is_file_name, most_files, longest_file}
use Rattle.smp_model.specs.Named.{is_ascending}
use Rattle.smp_model.specs.Settings.{is_setting, is_setting_name, is_setting_value, is_within_limits}
use Rattle.smp_plain.specs.Plain.{IsSoundSide, IsSound}

first_of : (a b : Bool) → (a && b) ≡ true → a ≡ true
first_of true b e = refl
first_of false b e = cc

second_of : (a b : Bool) → (a && b) ≡ true → b ≡ true
second_of true b e = e
second_of false b e = cc

upload_fits : (sizes : Sizes) (o : Option Upload) → UploadFits sizes o → IfSome o (λ u. length u.accepted ≤ u.announcement.length)
upload_fits sizes None h = tt
upload_fits sizes (Some u) h = h.within

side_sound : (sizes : Sizes) (s : Side) → sizes.slot < 2 ^ 32 → IsConsistentSide sizes s → IsSoundSide s
side_sound sizes s fits c = record { active = let whole = c.active in omega (arith, whole, fits); upload = upload_fits sizes s.upload c.upload }

file_fits : (f : StoredFile) → is_file f ≡ true → length f.held ≤ f.announced
file_fits f h =
    let sizes = second_of (is_file_name f.name) _ h in
    let short = first_of (nat_le (length f.held) f.announced) _ sizes in
    grind (arith, nat_tests, short)

files_fit : (files : List StoredFile) → list_all is_file files ≡ true → All (λ f. length f.held ≤ f.announced) files
files_fit [] h = All-nil (λ f. length f.held ≤ f.announced)
files_fit (f ∷ files) h =
    All-cons (λ f. length f.held ≤ f.announced) f files (file_fits f (first_of (is_file f) (list_all is_file files) h)) (files_fit files (second_of (is_file f) (list_all is_file files) h))

value_fits : (s : Setting) → is_setting s ≡ true → length s.val ≤ 128
value_fits s h =
    let short = second_of (is_setting_name s.name && is_utf8 s.name) (is_setting_value s.val) h in
    grind (arith, nat_tests, short)

values_fit : (settings : List Setting) → list_all is_setting settings ≡ true → All (λ s. length s.val ≤ 128) settings
values_fit [] h = All-nil (λ s. length s.val ≤ 128)
values_fit (s ∷ settings) h =
    All-cons (λ s. length s.val ≤ 128) s settings (value_fits s (first_of (is_setting s) (list_all is_setting settings) h)) (values_fit settings (second_of (is_setting s) (list_all is_setting settings) h))

pub consistent_sound : (sizes : Sizes) (d : AbstractDevice) → sizes.slot < 2 ^ 32 → IsConsistent sizes d → IsSound d
consistent_sound sizes d fits c = record {
  first = side_sound sizes d.first fits c.sides.first;
  second = second d.second c.sides.second;
  files = files_fit d.files (first_of (list_all is_file d.files) _ (first_of (list_all is_file d.files && is_ascending (λ f. f.name) d.files) _ c.files));
  running = values_fit d.running (first_of (list_all is_setting d.running) _ (first_of (list_all is_setting d.running && is_ascending (λ s. s.name) d.running) _ c.running));
}
  where
    second : (o : Option Side) → IfSome o (IsConsistentSide sizes) → IfSome o IsSoundSide
    second None h = tt
    second (Some s) h = side_sound sizes s fits h
