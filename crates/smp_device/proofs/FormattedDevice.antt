-- A flash of FF is formatted: each image stands in its places, and the settings bank holds none.
use Rattle.std.proofs.Common.{◌≡◌, inl, inr, ℕ, zero, suc, ◌+◌, ◌-◌, ◌<◌, ◌≤◌, Option, Some, None, List, [], ◌∷◌, ◌++◌, refl, sym, ◌∙◌, ap, subst, arith}
use Rattle.std.specs.Prelude.{IfSome}
use Rattle.std.specs.Str.{bytes_eq}
use Rattle.smp_flash.specs.Area.{area, blank, Clear, Keeps, Told}
use Rattle.smp_flash.specs.Calls.{Calls}
use Rattle.smp_flash.specs.Geometry.{slot_size, size_of, Regular}
use Rattle.smp_flash.specs.Layout.{geometry_of, image_of, slot_of, progress_of, settings_of, bank_spots, bank_at}
use Rattle.smp_flash.specs.Region.{slot_at, progress_at, settings_at}
use Rattle.smp_flash.specs.State.{FlashState, End}
use Rattle.smp_flash.specs.State.End.{Went}
use Rattle.smp_flash.specs.declared.geometry.Geometry.{Geometry}
use Rattle.smp_flash.specs.declared.layout.Layout.{Layout}
use Rattle.smp_flash.proofs.Areas.{area-blank, Keeps-wider}
use Rattle.smp_flash.proofs.Passing.{Covers-trans, Calls-after, Calls-wider}
use Rattle.smp_flash.proofs.Sizes.{regular}
use Rattle.smp_flash.proofs.Telling.{Told-after, IfSome-map}
use Rattle.smp_gate.specs.Newest.{Fresh, content_of}
use Rattle.smp_model.specs.Steps.{side_at}
use Rattle.smp_progress.specs.Cells as cells
use Rattle.smp_progress.specs.Cells.{HasRecord, GivesRecord}
use Rattle.smp_progress.specs.declared.record.Record.TheVariants as records
use Rattle.smp_settings.specs.Cells.{cell_length, settings_given}
use Rattle.smp_settings.specs.Saved.{SavedStand}
use Rattle.smp_slot.specs.Marks.{mark_in}
use Rattle.smp_upload.specs.Bytes.{Apart, SideStands}
use Rattle.smp_upload.specs.Moves.{mount_spots}
use Rattle.smp_device.specs.DeviceLaws.{DeviceLaws}
use Rattle.smp_device.specs.Formatting.{IsErased, StandsFormatted, format_spots, formatted, formatted_side, primary_spots}
use Rattle.smp_device.specs.Places.{Places, StandsAt, place_at}
use Rattle.smp_device.specs.Up.{AllPlaces}
use Rattle.smp_device.specs.Uploads.{sizes_of}
use Rattle.smp_device.proofs.Frames.{apart_one, apart_zero, clear_of_first, clear_of_second}
use Rattle.smp_device.proofs.Parting.{Covers-left, Covers-right, apart_first, apart_second, first_start, second_start}

-- All is FF.

blank_in : (layout : Layout) (at n : ℕ) (held : List ℕ) → held ≡ blank (size_of (geometry_of layout)) → at + n ≤ size_of (geometry_of layout) → area at n held ≡ blank n
blank_in layout at n held e le = ap (area at n) e ∙ area-blank at n (size_of (geometry_of layout)) le

erased_first : (layout : Layout) → image_of layout ≡ 0 → (held : List ℕ) → held ≡ blank (size_of (geometry_of layout)) → IsErased layout held
erased_first layout z held e =
    let r : Regular (geometry_of layout) = regular (geometry_of layout) layout.lawful in
    let least = r.size_least in
    let s = first_start layout z in
    record {
      slot_0 = blank_in layout (slot_of layout 0).at (slot_of layout 0).length held e (omega (arith, s, least));
      slot_1 = blank_in layout (slot_of layout 1).at (slot_of layout 1).length held e (omega (arith, s, least));
      progress = record {
        first = blank_in layout (progress_of layout).first.at 4096 held e (omega (arith, s, least));
        second = blank_in layout (progress_of layout).second.at 4096 held e (omega (arith, s, least));
      };
    }

erased_second : (layout : Layout) → image_of layout ≡ 1 → (held : List ℕ) → held ≡ blank (size_of (geometry_of layout)) → IsErased layout held
erased_second layout z held e =
    let r : Regular (geometry_of layout) = regular (geometry_of layout) layout.lawful in
    let there : image_of layout < (geometry_of layout).images = layout.there in
    let two : (geometry_of layout).images ≡ 2 = elim r.images_some [ inl one ↦ absurd (omega (arith, one, there, z)) | inr it ↦ it ] in
    let whole = r.size_two two in
    let s = second_start layout z in
    record {
      slot_0 = blank_in layout (slot_of layout 0).at (slot_of layout 0).length held e (omega (arith, s, whole));
      slot_1 = blank_in layout (slot_of layout 1).at (slot_of layout 1).length held e (omega (arith, s, whole));
      progress = record {
        first = blank_in layout (progress_of layout).first.at 4096 held e (omega (arith, s, whole));
        second = blank_in layout (progress_of layout).second.at 4096 held e (omega (arith, s, whole));
      };
    }

fresh_settings : (layout : Layout) (held : List ℕ) → held ≡ blank (size_of (geometry_of layout)) → Fresh (settings_of layout) held
fresh_settings layout held e =
    let r : Regular (geometry_of layout) = regular (geometry_of layout) layout.lawful in
    let least = r.size_least in
    record {
      first = blank_in layout (settings_of layout).first.at 4096 held e (omega (arith, least));
      second = blank_in layout (settings_of layout).second.at 4096 held e (omega (arith, least));
    }

pub all_erased : (layout : Layout) → image_of layout ≡ 0 → (x : Option (List ℕ)) → IfSome x (λ held. held ≡ blank (size_of (geometry_of layout))) → IfSome x (IsErased layout)
all_erased layout z x e = IfSome-map (λ held. held ≡ blank (size_of (geometry_of layout))) (IsErased layout) x (erased_first layout z) e

-- What an image's calls leave of it.

pub keeps_mount : (layout : Layout) (u v : List ℕ) → Keeps (primary_spots (geometry_of layout) (image_of layout)) u v → Keeps (mount_spots layout) u v
keeps_mount layout u v k = Keeps-wider (primary_spots (geometry_of layout) (image_of layout)) (mount_spots layout) u v narrow k
  where
    narrow : (p n : ℕ) → Clear (mount_spots layout) p n → Clear (primary_spots (geometry_of layout) (image_of layout)) p n
    narrow p n c = (
      c.0,
      (
        (elim c.1.0 [ inl before ↦ inl (omega arith) | inr after ↦ inr (omega arith) ]),
        ((elim c.1.0 [ inl before ↦ inl (omega arith) | inr after ↦ inr (omega arith) ]), tt),
      ),
    )

erased_kept : (layout : Layout) (spots : List (ℕ × ℕ)) (u v : List ℕ) → Apart layout spots → Keeps spots u v → IsErased layout u → IsErased layout v
erased_kept layout spots u v apart k e = record {
  slot_0 = k.apart (slot_of layout 0).at (slot_of layout 0).length apart.slot_0 ∙ e.slot_0;
  slot_1 = k.apart (slot_of layout 1).at (slot_of layout 1).length apart.slot_1 ∙ e.slot_1;
  progress = record {
    first = k.apart (progress_of layout).first.at 4096 apart.first ∙ e.progress.first;
    second = k.apart (progress_of layout).second.at 4096 apart.second ∙ e.progress.second;
  };
}

fresh_kept : (layout : Layout) (spots : List (ℕ × ℕ)) (u v : List ℕ) → Clear spots (settings_of layout).first.at 4096 × Clear spots (settings_of layout).second.at 4096 → Keeps spots u v → Fresh (settings_of layout) u → Fresh (settings_of layout) v
fresh_kept layout spots u v c k e = record {
  first = k.apart (settings_of layout).first.at 4096 c.0 ∙ e.first;
  second = k.apart (settings_of layout).second.at 4096 c.1 ∙ e.second;
}

-- image 1's regions and the settings bank behind image 0's calls
pub second_erased : (first second : Layout) → geometry_of second ≡ geometry_of first → image_of first ≡ 0 → image_of second ≡ 1 → (x y : Option (List ℕ)) → IfSome x (λ held. held ≡ blank (size_of (geometry_of first)))
    → Told (Keeps (primary_spots (geometry_of first) (image_of first))) x y → IfSome y (IsErased second)
second_erased first second g a b x y e k =
    Told-after (λ held. held ≡ blank (size_of (geometry_of first))) (Keeps (primary_spots (geometry_of first) (image_of first))) (IsErased second) x y
    (λ u v f h. erased_kept second (mount_spots first) u v (apart_second first second g a b) (keeps_mount first u v h) (erased_second second b u (f ∙ ap (λ (k : Geometry). blank (size_of k)) (sym g)))) e k

pub first_fresh : (layout : Layout) → image_of layout ≡ 0 → (x y : Option (List ℕ)) → IfSome x (λ held. held ≡ blank (size_of (geometry_of layout))) → Told (Keeps (primary_spots (geometry_of layout) (image_of layout))) x y
    → IfSome y (Fresh (settings_of layout))
first_fresh layout z x y e k =
    Told-after (λ held. held ≡ blank (size_of (geometry_of layout))) (Keeps (primary_spots (geometry_of layout) (image_of layout))) (Fresh (settings_of layout)) x y
    (λ u v f h. fresh_kept layout (mount_spots layout) u v (clear_of_first layout z) (keeps_mount layout u v h) (fresh_settings layout u f)) e k

pub both_fresh : (first second : Layout) → geometry_of second ≡ geometry_of first → image_of second ≡ 1 → (x y : Option (List ℕ)) → IfSome x (Fresh (settings_of first)) → Told (Keeps (primary_spots (geometry_of second) (image_of second))) x y
    → IfSome y (Fresh (settings_of first))
both_fresh first second g b x y e k =
    Told-after (Fresh (settings_of first)) (Keeps (primary_spots (geometry_of second) (image_of second))) (Fresh (settings_of first)) x y
    (λ u v f h. fresh_kept first (mount_spots second) u v (clear_of_second first second g b) (keeps_mount second u v h) f) e k

-- The calls together.

pub one_calls : (layout : Layout) → image_of layout ≡ 0 → (end : End) (a b c : FlashState) → Calls (primary_spots (geometry_of layout) (image_of layout)) Went a b → Calls (bank_spots (settings_of layout)) end b c
    → Calls (format_spots (geometry_of layout) None) end a c
one_calls layout z end a b c f h =
    let g = geometry_of layout in
    let wide = format_spots g None in
    let front : Calls (primary_spots g 0) Went a b = subst (λ (i : ℕ). Calls (primary_spots g i) Went a b) z f in
    Calls-after wide end a b c (Calls-wider wide (primary_spots g 0) Went a b (Covers-left (primary_spots g 0) (bank_spots (bank_at (settings_at g)))) front)
    (Calls-wider wide (bank_spots (bank_at (settings_at g))) end b c (Covers-right (primary_spots g 0) (bank_spots (bank_at (settings_at g)))) h)

first_wide : (g : Geometry) (one : List ℕ) (end : End) (a b : FlashState) → Calls (primary_spots g 0) end a b → Calls (format_spots g (Some one)) end a b
first_wide g one end a b f = Calls-wider (format_spots g (Some one)) (primary_spots g 0) end a b (Covers-left (primary_spots g 0) (primary_spots g 1 ++ bank_spots (bank_at (settings_at g)))) f

second_wide : (g : Geometry) (one : List ℕ) (end : End) (a b : FlashState) → Calls (primary_spots g 1) end a b → Calls (format_spots g (Some one)) end a b
second_wide g one end a b f =
    let rest = primary_spots g 1 ++ bank_spots (bank_at (settings_at g)) in
    Calls-wider (format_spots g (Some one)) (primary_spots g 1) end a b
    (Covers-trans (format_spots g (Some one)) rest (primary_spots g 1) (Covers-right (primary_spots g 0) rest) (Covers-left (primary_spots g 1) (bank_spots (bank_at (settings_at g))))) f

last_wide : (g : Geometry) (one : List ℕ) (end : End) (a b : FlashState) → Calls (bank_spots (bank_at (settings_at g))) end a b → Calls (format_spots g (Some one)) end a b
last_wide g one end a b f =
    let bank = bank_spots (bank_at (settings_at g)) in
    let rest = primary_spots g 1 ++ bank in
    Calls-wider (format_spots g (Some one)) bank end a b (Covers-trans (format_spots g (Some one)) rest bank (Covers-right (primary_spots g 0) rest) (Covers-right (primary_spots g 1) bank)) f

pub lost_calls : (first : Layout) → image_of first ≡ 0 → (one : List ℕ) (end : End) (a b : FlashState) → Calls (primary_spots (geometry_of first) (image_of first)) end a b → Calls (format_spots (geometry_of first) (Some one)) end a b
lost_calls first z one end a b f = first_wide (geometry_of first) one end a b (subst (λ (i : ℕ). Calls (primary_spots (geometry_of first) i) end a b) z f)

pub two_calls : (first second : Layout) → geometry_of second ≡ geometry_of first → image_of first ≡ 0 → image_of second ≡ 1 → (one : List ℕ) (end : End) (a b c : FlashState)
    → Calls (primary_spots (geometry_of first) (image_of first)) Went a b → Calls (primary_spots (geometry_of second) (image_of second)) end b c → Calls (format_spots (geometry_of first) (Some one)) end a c
two_calls first second g z o one end a b c f h =
    let k = geometry_of first in
    let second_is : Calls (primary_spots k 1) end b c = subst (λ (i : ℕ). Calls (primary_spots k i) end b c) o (subst (λ (m : Geometry). Calls (primary_spots m (image_of second)) end b c) g h) in
    Calls-after (format_spots k (Some one)) end a b c (lost_calls first z one Went a b f) (second_wide k one end b c second_is)

pub all_calls : (first second : Layout) → geometry_of second ≡ geometry_of first → image_of first ≡ 0 → image_of second ≡ 1 → (one : List ℕ) (end : End) (a b c d : FlashState)
    → Calls (primary_spots (geometry_of first) (image_of first)) Went a b → Calls (primary_spots (geometry_of second) (image_of second)) Went b c → Calls (bank_spots (settings_of first)) end c d
    → Calls (format_spots (geometry_of first) (Some one)) end a d
all_calls first second g z o one end a b c d f h m =
    let k = geometry_of first in
    Calls-after (format_spots k (Some one)) end a c d (two_calls first second g z o one Went a b c f h) (last_wide k one end c d m)

-- What the bytes stand for.

-- by the same regions
moved_side : (l m : Layout) (image w : List ℕ) → geometry_of l ≡ geometry_of m → image_of l ≡ image_of m → SideStands l (formatted_side (sizes_of (geometry_of l)) image) w → SideStands m (formatted_side (sizes_of (geometry_of l)) image) w
moved_side l m image w e f s =
    let t = s.stands in
    record {
      rescue = s.rescue;
      stands = record {
        active = t.active ∙ (λ k. area (slot_at (e k) (f k) 0) (slot_size (e k) - (e k).page) w);
        runs = t.runs;
        confirmed = t.confirmed ∙ (λ k. bytes_eq (area (slot_at (e k) (f k) 0 + slot_size (e k) - 24) 1 w) (1 ∷ []));
        entry = record {
          content = t.entry.content;
          held = sym (λ k. content_of (bank_at (progress_at (e k) (f k))) cells.cell_length w) ∙ t.entry.held;
          gives = subst (λ (g : Geometry). GivesRecord g (image_of m) t.entry.content records.None) e (subst (λ (i : ℕ). GivesRecord (geometry_of l) i t.entry.content records.None) f t.entry.gives);
        };
        accepts = tt;
        pending = t.pending ∙ (λ k. mark_in (record { at = slot_at (e k) (f k) 1; length = slot_size (e k) }) w);
        good = tt;
      };
    }

moved_saved : (l m : Layout) (w : List ℕ) → geometry_of l ≡ geometry_of m → SavedStand l [] w → SavedStand m [] w
moved_saved l m w e s = sym (λ k. settings_given (content_of (bank_at (settings_at (e k))) cell_length w)) ∙ s

no_second : (g : Geometry) (x : Option Layout) (w : List ℕ) → g.images ≡ 1 → IfSome x (λ l. (geometry_of l ≡ g) × (image_of l ≡ 1)) → StandsAt x None w
no_second g None w one are = tt
no_second g (Some l) w one are =
    let there : image_of l < (geometry_of l).images = l.there in
    let images : (geometry_of l).images ≡ 1 = ap (λ (k : Geometry). k.images) are.0 ∙ one in
    let image = are.1 in
    absurd (omega (arith, there, images, image))

pub both_told : (P Q R : List ℕ → Type 0) (y : Option (List ℕ)) → ((w : List ℕ) → P w → Q w → R w) → IfSome y P → IfSome y Q → IfSome y R
both_told P Q R None f p q = tt
both_told P Q R (Some w) f p q = f w p q

pub one_stands : DeviceLaws → (layout : Layout) → image_of layout ≡ 0 → (geometry_of layout).images ≡ 1 → (image : List ℕ) (x y : Option (List ℕ)) → IfSome x (SideStands layout (formatted_side (sizes_of (geometry_of layout)) image))
    → Told (Keeps (bank_spots (settings_of layout))) x y → IfSome y (SavedStand layout []) → IfSome y (StandsFormatted (geometry_of layout) image None)
one_stands laws layout z one image x y s k saved =
    let g = geometry_of layout in
    let side = formatted_side (sizes_of g) image in
    both_told (SideStands layout side) (SavedStand layout []) (StandsFormatted g image None) y
    (λ w f h. λ p all. record {
      images = record { sides = sides w p all f; target_is = refl };
      saved = moved_saved layout p.first w (sym all.are.first.0) h;
    })
    (Told-after (SideStands layout side) (Keeps (bank_spots (settings_of layout))) (SideStands layout side) x y
    (λ u v f h. laws.stand layout side (bank_spots (settings_of layout)) u v (apart_zero layout z) h f) s k) saved
  where
    sides : (w : List ℕ) (p : Places) (all : AllPlaces (geometry_of layout) p) → SideStands layout (formatted_side (sizes_of (geometry_of layout)) image) w → (i : ℕ)
        → StandsAt (place_at i p) (side_at i (formatted (sizes_of (geometry_of layout)) image None)) w
    sides w p all s zero = moved_side layout p.first image w (sym all.are.first.0) (z ∙ sym all.are.first.1) s
    sides w p all s (suc zero) = no_second (geometry_of layout) p.second w one all.are.second
    sides w p all s (suc (suc n)) = tt

-- two images
its_second : (first second : Layout) → geometry_of second ≡ geometry_of first → image_of second ≡ 1 → (one : List ℕ) (x : Option Layout) (w : List ℕ) → (x ≡ None → (geometry_of first).images ≡ 1)
    → IfSome x (λ l. (geometry_of l ≡ geometry_of first) × (image_of l ≡ 1)) → SideStands second (formatted_side (sizes_of (geometry_of second)) one) w → StandsAt x (Some (formatted_side (sizes_of (geometry_of first)) one)) w
its_second first second g o one None w alone are s =
    let there : image_of second < (geometry_of second).images = second.there in
    let images : (geometry_of second).images ≡ 1 = ap (λ (k : Geometry). k.images) g ∙ alone refl in
    absurd (omega (arith, there, images, o))
its_second first second g o one (Some l) w alone are s =
    subst (λ (k : Geometry). SideStands l (formatted_side (sizes_of k) one) w) g (moved_side second l one w (g ∙ sym are.0) (o ∙ sym are.1) s)

stand_together : (first second : Layout) → geometry_of second ≡ geometry_of first → image_of first ≡ 0 → image_of second ≡ 1 → (zero one : List ℕ) (w : List ℕ) → SideStands first (formatted_side (sizes_of (geometry_of first)) zero) w
    → SideStands second (formatted_side (sizes_of (geometry_of second)) one) w → SavedStand first [] w → StandsFormatted (geometry_of first) zero (Some one) w
stand_together first second g z o image one w s t saved = λ p all. record {
  images = record { sides = sides p all; target_is = refl };
  saved = moved_saved first p.first w (sym all.are.first.0) saved;
}
  where
    sides : (p : Places) (all : AllPlaces (geometry_of first) p) (i : ℕ) → StandsAt (place_at i p) (side_at i (formatted (sizes_of (geometry_of first)) image (Some one))) w
    sides p all zero = moved_side first p.first image w (sym all.are.first.0) (z ∙ sym all.are.first.1) s
    sides p all (suc zero) = its_second first second g o one p.second w all.alone all.are.second t
    sides p all (suc (suc n)) = tt

pub two_stand : DeviceLaws → (first second : Layout) → geometry_of second ≡ geometry_of first → image_of first ≡ 0 → image_of second ≡ 1 → (zero one : List ℕ) (x y z : Option (List ℕ))
    → IfSome x (SideStands first (formatted_side (sizes_of (geometry_of first)) zero)) → Told (Keeps (primary_spots (geometry_of second) (image_of second))) x y
    → IfSome y (SideStands second (formatted_side (sizes_of (geometry_of second)) one)) → Told (Keeps (bank_spots (settings_of first))) y z → IfSome z (SavedStand first [])
    → IfSome z (StandsFormatted (geometry_of first) zero (Some one))
two_stand laws first second g a b image one x y z s k t m saved =
    let here = formatted_side (sizes_of (geometry_of first)) image in
    let there = formatted_side (sizes_of (geometry_of second)) one in
    let spots = bank_spots (settings_of first) in
    let middle : IfSome y (SideStands first here) = Told-after (SideStands first here) (Keeps (primary_spots (geometry_of second) (image_of second))) (SideStands first here) x y
    (λ u v f h. laws.stand first here (mount_spots second) u v (apart_first first second g a b) (keeps_mount second u v h) f) s k in
    let zero_last : IfSome z (SideStands first here) = Told-after (SideStands first here) (Keeps spots) (SideStands first here) y z (λ u v f h. laws.stand first here spots u v (apart_zero first a) h f) middle m in
    let one_last : IfSome z (SideStands second there) = Told-after (SideStands second there) (Keeps spots) (SideStands second there) y z (λ u v f h. laws.stand second there spots u v (apart_one first second g b) h f) t m in
    both_told (λ w. SideStands first here w × SideStands second there w) (SavedStand first []) (StandsFormatted (geometry_of first) image (Some one)) z
    (λ w f h. stand_together first second g a b image one w f.0 f.1 h)
    (both_told (SideStands first here) (SideStands second there) (λ w. SideStands first here w × SideStands second there w) z (λ w f h. (f, h)) zero_last one_last) saved
