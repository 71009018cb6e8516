-- Which requests a trouble in a region can strike.
use Rattle.std.proofs.Common.{◌≡◌, ℕ, ◌++◌, ◌||◌, Bool, true, false, Option, Some, None, List, [], ◌∷◌, Ok, refl, sym, subst}
use Rattle.std.specs.Prelude.{IfSome, IsTrue, is_some}
use Rattle.smp_flash.specs.Layout.{geometry_of, image_of, settings_of, bank_spots, in_settings, in_upload, in_primary}
use Rattle.smp_flash.specs.Region.{Spares}
use Rattle.smp_flash.specs.declared.geometry.Geometry.{Geometry}
use Rattle.smp_flash.specs.declared.layout.Layout.{Layout}
use Rattle.smp_flash.specs.declared.region.Region.{Region}
use Rattle.smp_flash.specs.declared.region.Region.TheVariants as regions
use Rattle.smp_flash.proofs.Layouts.{spares_others}
use Rattle.smp_model.specs.declared.device.AbstractDevice.{AbstractDevice}
use Rattle.smp_model.specs.declared.device.Side.{Side}
use Rattle.smp_model.specs.declared.device.Sizes.{Sizes}
use Rattle.smp_model.specs.FlashUse.{uses_images, uses_saved}
use Rattle.smp_model.specs.Handled.{is_reset}
use Rattle.smp_model.specs.Laws.{IsAboutImages}
use Rattle.smp_model.specs.Meant as meant
use Rattle.smp_model.specs.Meant.{Meant}
use Rattle.smp_model.specs.Steps.{side_at}
use Rattle.smp_upload.specs.Moves.{mount_spots}
use Rattle.smp_device.specs.Goings.{group_of, reaches}
use Rattle.smp_device.specs.Handling.{flash_group}
use Rattle.smp_device.specs.Mounts.{HasImages}
use Rattle.smp_device.specs.Places.{Places, ArePlaces, ImagesStand, StandsAt, place_at, second_spots, spots_of}
use Rattle.smp_device.specs.Serving.{spots_by}

-- A trouble in the settings bank spares what is done about images.

abbrev is_settings : Region → Bool
is_settings regions.Settings = true
is_settings regions.SettingsGate = true
is_settings region = false

of_image_0 : (i : ℕ) (region : Region) → is_settings region ≡ true → (in_upload i region ≡ false) × (in_primary i region ≡ false)
of_image_0 i regions.Settings is = (refl, refl)
of_image_0 i regions.SettingsGate is = (refl, refl)
of_image_0 i region is = absurd (cc is)

spares_mount : (l : Layout) (region : Region) → is_settings region ≡ true → Spares (geometry_of l) (Some region) (mount_spots l)
spares_mount l region is =
    let o = of_image_0 (image_of l) region is in
    let f = spares_others l in
    ((f.by_primary region o.1).0, f.by_upload region o.0)

spares_all : (g : Geometry) (region : Region) (xs ys : List (ℕ × ℕ)) → Spares g (Some region) xs → Spares g (Some region) ys → Spares g (Some region) (xs ++ ys)
spares_all g region [] ys s t = t
spares_all g region (x ∷ xs) ys s t = (s.0, spares_all g region xs ys s.1 t)

spares_second : (g : Geometry) (o : Option Layout) (region : Region) → IfSome o (λ l. (geometry_of l ≡ g) × (image_of l ≡ 1)) → is_settings region ≡ true → Spares g (Some region) (second_spots o)
spares_second g None region f is = tt
spares_second g (Some l) region f is = subst (λ (h : Geometry). Spares h (Some region) (mount_spots l)) f.0 (spares_mount l region is)

spares_images : (g : Geometry) (p : Places) (region : Region) → ArePlaces g p → is_settings region ≡ true → Spares g (Some region) (spots_of p)
spares_images g p region are is =
    spares_all g region (mount_spots p.first) (second_spots p.second) (subst (λ (h : Geometry). Spares h (Some region) (mount_spots p.first)) are.first.0 (spares_mount p.first region is)) (spares_second g p.second region are.second is)

-- one elsewhere spares what is done to the settings bank
spares_settings : (g : Geometry) (p : Places) (region : Region) → ArePlaces g p → in_settings region ≡ false → Spares g (Some region) (bank_spots (settings_of p.first))
spares_settings g p region are out = subst (λ (h : Geometry). Spares h (Some region) (bank_spots (settings_of p.first))) are.first.0 ((spares_others p.first).by_settings region out)

-- So a trouble that is not spared reaches the request.

or_left : (x y : Bool) → x ≡ true → (x || y) ≡ true
or_left true y e = refl
or_left false y e = absurd (cc e)

or_right : (x y : Bool) → y ≡ true → (x || y) ≡ true
or_right true y e = refl
or_right false y e = e

saved_reached : (sizes : Sizes) (d : AbstractDevice) (region : Region) (m : Meant) → uses_saved m ≡ true → in_settings region ≡ true → IsTrue (reaches sizes d region m)
saved_reached sizes d regions.Any m saved is = or_left (uses_saved m) (uses_images sizes d m) saved
saved_reached sizes d regions.Settings m saved is = saved
saved_reached sizes d regions.SettingsGate m saved is = saved
saved_reached sizes d region m saved is = absurd (cc is)

image_reached : (sizes : Sizes) (d : AbstractDevice) (region : Region) (m : Meant) → uses_images sizes d m ≡ true → is_settings region ≡ false → IsTrue (reaches sizes d region m)
image_reached sizes d regions.Any m uses is = or_right (uses_saved m) (uses_images sizes d m) uses
image_reached sizes d regions.Settings m uses is = absurd (cc is)
image_reached sizes d regions.SettingsGate m uses is = absurd (cc is)
image_reached sizes d region m uses is = uses

saved_spots : (p : Places) (m : Meant) → uses_saved m ≡ true → spots_by p m ≡ bank_spots (settings_of p.first)
saved_spots p meant.load saved = refl
saved_spots p meant.save saved = refl
saved_spots p m saved = absurd (cc saved)

pub about_images : (sizes : Sizes) (d : AbstractDevice) (m : Meant) → uses_images sizes d m ≡ true → IsAboutImages m
about_images sizes d meant.image_list uses = tt
about_images sizes d (meant.image_set hash confirm) uses = tt
about_images sizes d (meant.upload image len off sha part) uses = tt
about_images sizes d (meant.erase slot) uses = tt
about_images sizes d m uses = absurd (cc uses)

image_spots : (p : Places) (m : Meant) → IsAboutImages m → spots_by p m ≡ spots_of p
image_spots p meant.image_list is = refl
image_spots p (meant.image_set hash confirm) is = refl
image_spots p (meant.upload image len off sha part) is = refl
image_spots p (meant.erase slot) is = refl
image_spots p m is = absurd is

saved_comes : (g : Geometry) (p : Places) (sizes : Sizes) (d : AbstractDevice) (region : Region) (m : Meant) → ArePlaces g p → uses_saved m ≡ true → (Spares g (Some region) (spots_by p m) → ⊥) → (b : Bool) → in_settings region ≡ b → IsTrue (reaches sizes d region m)
saved_comes g p sizes d region m are saved comes true e = saved_reached sizes d region m saved e
saved_comes g p sizes d region m are saved comes false e =
    absurd (comes (subst (λ (s : List (ℕ × ℕ)). Spares g (Some region) s) (sym (saved_spots p m saved)) (spares_settings g p region are e)))

image_comes : (g : Geometry) (p : Places) (sizes : Sizes) (d : AbstractDevice) (region : Region) (m : Meant) → ArePlaces g p → uses_images sizes d m ≡ true → (Spares g (Some region) (spots_by p m) → ⊥) → (b : Bool) → is_settings region ≡ b
    → IsTrue (reaches sizes d region m)
image_comes g p sizes d region m are uses comes false e = image_reached sizes d region m uses e
image_comes g p sizes d region m are uses comes true e =
    absurd (comes (subst (λ (s : List (ℕ × ℕ)). Spares g (Some region) s) (sym (image_spots p m (about_images sizes d m uses))) (spares_images g p region are e)))

-- the request comes to images, or to what is saved
pub data Use (sizes : Sizes) (d : AbstractDevice) (m : Meant) : Type 0 where
  on_images : uses_images sizes d m ≡ true → Use sizes d m
  on_saved : uses_saved m ≡ true → Use sizes d m
  on_none : uses_images sizes d m ≡ false → uses_saved m ≡ false → Use sizes d m

pub use_of : (sizes : Sizes) (d : AbstractDevice) (m : Meant) → Use sizes d m
use_of sizes d m = by (uses_images sizes d m) (uses_saved m) refl refl
  where
    by : (x y : Bool) → uses_images sizes d m ≡ x → uses_saved m ≡ y → Use sizes d m
    by true y e f = on_images e
    by false true e f = on_saved f
    by false false e f = on_none e f

pub is_reached : (g : Geometry) (p : Places) (sizes : Sizes) (d : AbstractDevice) (region : Region) (m : Meant) → ArePlaces g p → (Spares g (Some region) (spots_by p m) → ⊥) → (uses_images sizes d m ≡ false → uses_saved m ≡ false → ⊥)
    → IsTrue (reaches sizes d region m)
is_reached g p sizes d region m are comes other = by (use_of sizes d m)
  where
    by : Use sizes d m → IsTrue (reaches sizes d region m)
    by (on_images e) = image_comes g p sizes d region m are e comes (is_settings region) refl
    by (on_saved e) = saved_comes g p sizes d region m are e comes (in_settings region) refl
    by (on_none e f) = absurd (other e f)

-- The errors of the flash are in the group of such a request, which is no reset.

pub group_same : (sizes : Sizes) (d : AbstractDevice) (m : Meant) → (uses_images sizes d m ≡ false → uses_saved m ≡ false → ⊥) → flash_group m ≡ group_of m
group_same sizes d meant.image_list f = refl
group_same sizes d (meant.image_set hash confirm) f = refl
group_same sizes d (meant.upload image len off sha part) f = refl
group_same sizes d (meant.erase slot) f = refl
group_same sizes d meant.load f = refl
group_same sizes d meant.save f = refl
group_same sizes d m f = absurd (f refl refl)

pub no_reset : (sizes : Sizes) (d : AbstractDevice) (m : Meant) → (uses_images sizes d m ≡ false → uses_saved m ≡ false → ⊥) → is_reset (Ok m) ≡ false
no_reset sizes d meant.reset f = absurd (f refl refl)
no_reset sizes d m f = refl

-- A device that the bytes stand for has the images that are held.

stands_there : (l : Option Layout) (s : Option Side) (bytes : List ℕ) → StandsAt l s bytes → is_some s ≡ is_some l
stands_there None None bytes f = refl
stands_there None (Some s) bytes f = absurd f
stands_there (Some l) None bytes f = absurd f
stands_there (Some l) (Some s) bytes f = refl

pub has_images : (p : Places) (t : ℕ) (d : AbstractDevice) (bytes : List ℕ) → ImagesStand p t d bytes → HasImages p t d
has_images p t d bytes s = record { target_is = s.target_is; images = λ i. stands_there (place_at i p) (side_at i d) bytes (s.sides i) }
