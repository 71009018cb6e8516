-- What the calls about images and those about settings leave of each other's regions.
use Rattle.std.proofs.Common.{◌≡◌, inl, inr, ℕ, zero, suc, Option, Some, None, List, [], ◌∷◌, ◌++◌, sym, ◌∙◌, ap, subst, arith}
use Rattle.std.specs.Prelude.{IfSome}
use Rattle.smp_flash.specs.Area.{Told, Keeps, Clear}
use Rattle.smp_flash.specs.Geometry.{first_size}
use Rattle.smp_flash.specs.Layout.{geometry_of, image_of, slot_of, progress_of, settings_of, bank_spots}
use Rattle.smp_flash.specs.declared.geometry.Geometry.{Geometry}
use Rattle.smp_flash.specs.declared.layout.Layout.{Layout}
use Rattle.smp_flash.proofs.Telling.{Told-map}
use Rattle.smp_gate.specs.Newest.{AgesAtMost, newest_generation, generation_by}
use Rattle.smp_upload.specs.Bytes.{Apart}
use Rattle.smp_upload.specs.Moves.{KeepsPending, mount_spots}
use Rattle.smp_upload.proofs.Apartness.{ages_clear, pending_by}
use Rattle.smp_device.specs.DeviceLaws.{DeviceLaws}
use Rattle.smp_device.specs.Places.{Places, ArePlaces, AtEach, place_at, spots_of, second_spots}
use Rattle.smp_device.proofs.Parting.{first_start, second_start, is_second, some_is}

-- The settings bank lies clear of the regions of each image.

pub clear_of_first : (l : Layout) → image_of l ≡ 0 → Clear (mount_spots l) (settings_of l).first.at 4096 × Clear (mount_spots l) (settings_of l).second.at 4096
clear_of_first l e =
    let s = first_start l e in
    ((inr (omega (arith, s)), (inr (omega (arith, s)), tt)), (inr (omega (arith, s)), (inr (omega (arith, s)), tt)))

pub clear_of_second : (first l : Layout) → geometry_of l ≡ geometry_of first → image_of l ≡ 1
    → Clear (mount_spots l) (settings_of first).first.at 4096 × Clear (mount_spots l) (settings_of first).second.at 4096
clear_of_second first l g e =
    let s = second_start l e in
    let f : first_size (geometry_of l) ≡ first_size (geometry_of first) = ap first_size g in
    ((inl (omega (arith, s, f)), (inl (omega (arith, s, f)), tt)), (inl (omega (arith, s, f)), (inl (omega (arith, s, f)), tt)))

clear_both : (xs ys : List (ℕ × ℕ)) (p n : ℕ) → Clear xs p n → Clear ys p n → Clear (xs ++ ys) p n
clear_both [] ys p n c d = d
clear_both (x ∷ xs) ys p n c d = (c.0, clear_both xs ys p n c.1 d)

clear_second : (first : Layout) (second : Option Layout) → IfSome second (λ l. (geometry_of l ≡ geometry_of first) × (image_of l ≡ 1))
    → Clear (second_spots second) (settings_of first).first.at 4096 × Clear (second_spots second) (settings_of first).second.at 4096
clear_second first None f = (tt, tt)
clear_second first (Some l) f = clear_of_second first l f.0 f.1

of_first : (g : Geometry) (first : Layout) (second : Option Layout) → geometry_of first ≡ g → IfSome second (λ l. (geometry_of l ≡ g) × (image_of l ≡ 1)) → IfSome second (λ l. (geometry_of l ≡ geometry_of first) × (image_of l ≡ 1))
of_first g first None e f = tt
of_first g first (Some l) e f = (f.0 ∙ sym e, f.1)

pub settings_clear : (g : Geometry) (p : Places) → ArePlaces g p → Clear (spots_of p) (settings_of p.first).first.at 4096 × Clear (spots_of p) (settings_of p.first).second.at 4096
settings_clear g p are =
    let a = clear_of_first p.first are.first.1 in
    let b = clear_second p.first p.second (of_first g p.first p.second are.first.0 are.second) in (
      clear_both (mount_spots p.first) (second_spots p.second) (settings_of p.first).first.at 4096 a.0 b.0,
      clear_both (mount_spots p.first) (second_spots p.second) (settings_of p.first).second.at 4096 a.1 b.1,
    )

-- And the regions of each image clear of the settings bank.

pub apart_zero : (l : Layout) → image_of l ≡ 0 → Apart l (bank_spots (settings_of l))
apart_zero l e =
    let s = first_start l e in
    record {
      slot_0 = (inl (omega (arith, s)), (inl (omega (arith, s)), tt));
      slot_1 = (inl (omega (arith, s)), (inl (omega (arith, s)), tt));
      first = (inl (omega (arith, s)), (inl (omega (arith, s)), tt));
      second = (inl (omega (arith, s)), (inl (omega (arith, s)), tt));
      scratch = (inl (omega (arith, s)), (inl (omega (arith, s)), tt));
    }

pub apart_one : (first l : Layout) → geometry_of l ≡ geometry_of first → image_of l ≡ 1 → Apart l (bank_spots (settings_of first))
apart_one first l g e =
    let s = second_start l e in
    let f : first_size (geometry_of l) ≡ first_size (geometry_of first) = ap first_size g in
    record {
      slot_0 = (inr (omega (arith, s, f)), (inr (omega (arith, s, f)), tt));
      slot_1 = (inr (omega (arith, s, f)), (inr (omega (arith, s, f)), tt));
      first = (inr (omega (arith, s, f)), (inr (omega (arith, s, f)), tt));
      second = (inr (omega (arith, s, f)), (inr (omega (arith, s, f)), tt));
      scratch = (inr (omega (arith, s, f)), (inr (omega (arith, s, f)), tt));
    }

pub side_apart : (g : Geometry) (p : Places) → ArePlaces g p → (i : ℕ) (l : Layout) → place_at i p ≡ Some l → Apart l (bank_spots (settings_of p.first))
side_apart g p are zero l at = subst (λ (x : Layout). Apart x (bank_spots (settings_of p.first))) (some_is p.first l at) (apart_zero p.first are.first.1)
side_apart g p are (suc zero) l at =
    let h = is_second g p.second l are.second at in
    apart_one p.first l (h.0 ∙ sym are.first.0) h.1
side_apart g p are (suc (suc i)) l at = absurd (cc at)

-- So each bank keeps its age in the other's calls, and what is pending stays.

pub settings_age : DeviceLaws → (g : Geometry) (p : Places) → ArePlaces g p → (n : ℕ) (old new : List ℕ) → Keeps (spots_of p) old new → AgesAtMost n (settings_of p.first) old new
settings_age laws g p are n old new k =
    let c = settings_clear g p are in
    let e : newest_generation (settings_of p.first) new ≡ newest_generation (settings_of p.first) old = ap generation_by (laws.newest (settings_of p.first) (spots_of p) old new c.0 c.1 k) in
    record { kept = omega arith; most = omega arith }

pub progress_age : (g : Geometry) (p : Places) → ArePlaces g p → (n : ℕ) (x y : Option (List ℕ)) → Told (Keeps (bank_spots (settings_of p.first))) x y → AtEach (λ l. Told (AgesAtMost n (progress_of l)) x y) p
progress_age g p are n x y k = λ i l at.
    let a = side_apart g p are i l at in
    Told-map (Keeps (bank_spots (settings_of p.first))) (AgesAtMost n (progress_of l)) x y (λ u v. ages_clear l n (bank_spots (settings_of p.first)) u v a.first a.second) k

pending_clear : (l : Layout) (spots : List (ℕ × ℕ)) (u v : List ℕ) → Apart l spots → Keeps spots u v → KeepsPending l u v
pending_clear l spots u v apart k = record {
  kept = λ is. k.apart (slot_of l 1).at (slot_of l 1).length apart.slot_1;
  still = λ is. pending_by l spots u v apart.slot_1 k;
}

pub pending_kept : (g : Geometry) (p : Places) → ArePlaces g p → (x y : Option (List ℕ)) → Told (Keeps (bank_spots (settings_of p.first))) x y → AtEach (λ l. Told (KeepsPending l) x y) p
pending_kept g p are x y k = λ i l at.
    Told-map (Keeps (bank_spots (settings_of p.first))) (KeepsPending l) x y (λ u v. pending_clear l (bank_spots (settings_of p.first)) u v (side_apart g p are i l at)) k
