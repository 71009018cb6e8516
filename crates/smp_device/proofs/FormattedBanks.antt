-- The banks of a flash that is formatted are of generation 1.
use Rattle.std.proofs.Common.{◌≡◌, ℕ, zero, suc, ◌<◌, true, Option, Some, List, sym, ◌∙◌, ap, subst, arith}
use Rattle.std.specs.Prelude.{IfSome}
use Rattle.smp_flash.specs.Area.{Keeps, Told}
use Rattle.smp_flash.specs.Layout.{geometry_of, image_of, progress_of, settings_of, bank_spots, bank_at}
use Rattle.smp_flash.specs.Region.{progress_at, settings_at}
use Rattle.smp_flash.specs.declared.geometry.Geometry.{Geometry}
use Rattle.smp_flash.specs.declared.layout.BankPlace.{BankPlace}
use Rattle.smp_flash.specs.declared.layout.Layout.{Layout}
use Rattle.smp_flash.proofs.Telling.{Told-after, IfSome-map}
use Rattle.smp_gate.specs.Bank.{BankSays, BankState}
use Rattle.smp_gate.specs.Newest.{generation_by, newest_generation}
use Rattle.smp_progress.specs.State.{ProgressState, ProgressSays, first_bank}
use Rattle.smp_progress.specs.declared.record.Record.TheVariants as records
use Rattle.smp_settings.specs.Saved.{SettingsSay, SettingsState}
use Rattle.smp_upload.specs.Bytes.{Apart}
use Rattle.smp_upload.specs.Moves.{mount_spots}
use Rattle.smp_device.specs.DeviceLaws.{DeviceLaws}
use Rattle.smp_device.specs.Formatting.{BanksFormatted, IsOfFirstGeneration, primary_spots}
use Rattle.smp_device.specs.Places.{Places, place_at}
use Rattle.smp_device.specs.Up.{AllPlaces}
use Rattle.smp_device.proofs.FormattedDevice.{both_told, keeps_mount}
use Rattle.smp_device.proofs.Frames.{apart_one, apart_zero}
use Rattle.smp_device.proofs.Parting.{apart_first, is_second, some_is}

-- what a bank's value says of its generation
abbrev pub SaysGeneration : Type 0
SaysGeneration = (bank : BankState) (bytes : List ℕ) → BankSays bank bytes → newest_generation bank.place bytes ≡ bank.generation

-- As they are made.

pub record_first : SaysGeneration → (layout : Layout) (p : ProgressState) (x : Option (List ℕ)) → p ≡ record { layout = layout; bank = first_bank layout; entry = records.None } → IfSome x (ProgressSays p)
    → IfSome x (IsOfFirstGeneration (progress_of layout))
record_first law layout p x e says =
    IfSome-map (ProgressSays p) (IsOfFirstGeneration (progress_of layout)) x
    (λ w s. subst (λ (b : BankState). newest_generation b.place w ≡ b.generation) (ap (λ (q : ProgressState). q.bank) e) (law p.bank w s.bank)) says

pub settings_first : SaysGeneration → (layout : Layout) (s : SettingsState) (x : Option (List ℕ)) → s.layout ≡ layout → s.bank.sure ≡ true → s.bank.generation ≡ 1 → IfSome x (SettingsSay s) → IfSome x (IsOfFirstGeneration (settings_of layout))
settings_first law layout s x l sure one says =
    IfSome-map (SettingsSay s) (IsOfFirstGeneration (settings_of layout)) x
    (λ w h. sym (ap (λ (b : BankPlace). newest_generation b w) (h.place ∙ ap settings_of l)) ∙ law s.bank w (h.bank sure) ∙ one) says

-- Behind other calls.

first_kept : DeviceLaws → (layout : Layout) (spots : List (ℕ × ℕ)) (x y : Option (List ℕ)) → Apart layout spots → Told (Keeps spots) x y → IfSome x (IsOfFirstGeneration (progress_of layout)) → IfSome y (IsOfFirstGeneration (progress_of layout))
first_kept laws layout spots x y apart k f =
    Told-after (IsOfFirstGeneration (progress_of layout)) (Keeps spots) (IsOfFirstGeneration (progress_of layout)) x y
    (λ u v g h. ap generation_by (laws.newest (progress_of layout) spots u v apart.first apart.second h) ∙ g) f k

-- By the same regions.

moved_first : (l m : Layout) (w : List ℕ) → geometry_of l ≡ geometry_of m → image_of l ≡ image_of m → IsOfFirstGeneration (progress_of l) w → IsOfFirstGeneration (progress_of m) w
moved_first l m w e f s = sym (λ k. newest_generation (bank_at (progress_at (e k) (f k))) w) ∙ s

moved_settings : (l m : Layout) (w : List ℕ) → geometry_of l ≡ geometry_of m → IsOfFirstGeneration (settings_of l) w → IsOfFirstGeneration (settings_of m) w
moved_settings l m w e s = sym (λ k. newest_generation (bank_at (settings_at (e k))) w) ∙ s

-- Of one image.
pub one_first : DeviceLaws → (layout : Layout) → image_of layout ≡ 0 → (geometry_of layout).images ≡ 1 → (x y : Option (List ℕ)) → IfSome x (IsOfFirstGeneration (progress_of layout)) → Told (Keeps (bank_spots (settings_of layout))) x y
    → IfSome y (IsOfFirstGeneration (settings_of layout)) → IfSome y (BanksFormatted (geometry_of layout))
one_first laws layout z one x y f k s =
    both_told (IsOfFirstGeneration (progress_of layout)) (IsOfFirstGeneration (settings_of layout)) (BanksFormatted (geometry_of layout)) y
    (λ w g h. λ p all. record { progress = each w p all g; settings = moved_settings layout p.first w (sym all.are.first.0) h })
    (first_kept laws layout (bank_spots (settings_of layout)) x y (apart_zero layout z) k f) s
  where
    each : (w : List ℕ) (p : Places) (all : AllPlaces (geometry_of layout) p) → IsOfFirstGeneration (progress_of layout) w → (i : ℕ) (l : Layout) → place_at i p ≡ Some l → IsOfFirstGeneration (progress_of l) w
    each w p all g zero l at =
        subst (λ (m : Layout). IsOfFirstGeneration (progress_of m) w) (some_is p.first l at) (moved_first layout p.first w (sym all.are.first.0) (z ∙ sym all.are.first.1) g)
    each w p all g (suc zero) l at =
        let h = is_second (geometry_of layout) p.second l all.are.second at in
        let there : image_of l < (geometry_of l).images = l.there in
        let images : (geometry_of l).images ≡ 1 = ap (λ (k : Geometry). k.images) h.0 ∙ one in
        let image = h.1 in
        absurd (omega (arith, there, images, image))
    each w p all g (suc (suc i)) l at = absurd (cc at)

-- Of two.
pub two_first : DeviceLaws → (first second : Layout) → geometry_of second ≡ geometry_of first → image_of first ≡ 0 → image_of second ≡ 1 → (x y z : Option (List ℕ)) → IfSome x (IsOfFirstGeneration (progress_of first))
    → Told (Keeps (primary_spots (geometry_of second) (image_of second))) x y → IfSome y (IsOfFirstGeneration (progress_of second)) → Told (Keeps (bank_spots (settings_of first))) y z → IfSome z (IsOfFirstGeneration (settings_of first))
    → IfSome z (BanksFormatted (geometry_of first))
two_first laws first second g a b x y z f k s m t =
    let spots = bank_spots (settings_of first) in
    let middle : IfSome y (IsOfFirstGeneration (progress_of first)) = Told-after (IsOfFirstGeneration (progress_of first)) (Keeps (primary_spots (geometry_of second) (image_of second))) (IsOfFirstGeneration (progress_of first)) x y
    (λ u v e h. ap generation_by (laws.newest (progress_of first) (mount_spots second) u v (apart_first first second g a b).first (apart_first first second g a b).second (keeps_mount second u v h)) ∙ e) f k in
    both_told (λ w. IsOfFirstGeneration (progress_of first) w × IsOfFirstGeneration (progress_of second) w) (IsOfFirstGeneration (settings_of first)) (BanksFormatted (geometry_of first)) z
    (λ w e h. λ p all. record { progress = each w p all e.0 e.1; settings = moved_settings first p.first w (sym all.are.first.0) h })
    (both_told (IsOfFirstGeneration (progress_of first)) (IsOfFirstGeneration (progress_of second)) (λ w. IsOfFirstGeneration (progress_of first) w × IsOfFirstGeneration (progress_of second) w) z (λ w e h. (e, h))
    (first_kept laws first spots y z (apart_zero first a) m middle) (first_kept laws second spots y z (apart_one first second g b) m s)) t
  where
    each : (w : List ℕ) (p : Places) (all : AllPlaces (geometry_of first) p) → IsOfFirstGeneration (progress_of first) w → IsOfFirstGeneration (progress_of second) w → (i : ℕ) (l : Layout) → place_at i p ≡ Some l → IsOfFirstGeneration (progress_of l) w
    each w p all e h zero l at =
        subst (λ (m : Layout). IsOfFirstGeneration (progress_of m) w) (some_is p.first l at) (moved_first first p.first w (sym all.are.first.0) (a ∙ sym all.are.first.1) e)
    each w p all e h (suc zero) l at =
        let i = is_second (geometry_of first) p.second l all.are.second at in
        moved_first second l w (g ∙ sym i.0) (b ∙ sym i.1) h
    each w p all e h (suc (suc i)) l at = absurd (cc at)
