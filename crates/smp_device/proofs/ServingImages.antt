-- A request about images, served.
use Rattle.std.proofs.Common.{◌≡◌, ℕ, ◌+◌, ◌≤◌, arith, ◌++◌, Option, Some, None, List, [], ◌∷◌, Result, Ok, Err, refl, sym, ◌∙◌, ap, subst}
use Rattle.std.specs.Prelude.{IfSome, OnOk, IfOk, length}
use Rattle.smp_flash.specs.Area.{Told, Keeps, Clear}
use Rattle.smp_flash.specs.Calls.{Calls}
use Rattle.smp_flash.specs.Layout.{settings_of}
use Rattle.smp_flash.specs.State.{FlashState}
use Rattle.smp_flash.specs.declared.geometry.Geometry.{Geometry}
use Rattle.smp_flash.specs.declared.layout.Layout.{Layout}
use Rattle.smp_flash.proofs.Telling.{Told-map, Told-after}
use Rattle.smp_gate.specs.Newest.{AgesAtMost}
use Rattle.smp_model.specs.declared.device.AbstractDevice.{AbstractDevice}
use Rattle.smp_model.specs.declared.reply.Reply.{Reply}
use Rattle.smp_model.specs.Does.{does}
use Rattle.smp_model.specs.Laws.{IsAboutImages, SameBesideImages}
use Rattle.smp_model.specs.Meant as meant
use Rattle.smp_model.specs.Meant.{Meant}
use Rattle.smp_model.specs.declared.reply.SidePair.{SidePair}
use Rattle.smp_model.specs.declared.reply.SlotEntry.{SlotEntry}
use Rattle.smp_model.specs.Said as said
use Rattle.smp_model.specs.Said.{Said, said_of, listed, slots_of, if_some}
use Rattle.smp_model.specs.Steps.{Step, applied, Part}
use Rattle.smp_settings.specs.Saved.{SettingsSay, SettingsState, saved_in}
use Rattle.smp_upload.specs.declared.states.UploadFault.{UploadFault}
use Rattle.smp_upload.specs.declared.states.UploadFault.TheVariants as faults
use Rattle.smp_side.specs.Held.{result_end}
use Rattle.smp_device.specs.Answers.{ImagesAnswer, IsImageReply, ImagesMove, ImagesDo, ImagesTell, ImagesCaused, ResultCausedIn}
use Rattle.smp_device.specs.DeviceLaws.{DeviceLaws}
use Rattle.smp_device.specs.Places.{Places, ArePlaces, ImagesSay, ImagesStand, places_of, spots_of}
use Rattle.smp_device.specs.Serving.{CausedBy, ErasesBy, Idles, MountsBy, ReachedFrom, ResultCausedBy, SavesUnworn, Serves, spots_by}
use Rattle.smp_device.specs.Telling.{Fitting}
use Rattle.smp_device.specs.Up.{Up, Stands, UpSays, IsFor, Carries}
use Rattle.smp_device.specs.Uploads.{sizes_of}
use Rattle.smp_device.specs.declared.images.Images.{Images}
use Rattle.smp_device.proofs.Frames.{settings_clear, settings_age}
use Rattle.smp_device.proofs.Nearer.{images_pay}

-- what is held after a request about images
abbrev pub with_images : Up → Images → Up
with_images up images = record { images = images; settings = up.settings; files = up.files; counters = up.counters }

spots_are : (p : Places) (m : Meant) → IsAboutImages m → spots_by p m ≡ spots_of p
spots_are p meant.image_list is = refl
spots_are p (meant.image_set hash confirm) is = refl
spots_are p (meant.upload image len off sha part) is = refl
spots_are p (meant.erase slot) is = refl
spots_are p m is = absurd is

carries_on : (up : Up) (images : Images) (d e : AbstractDevice) → SameBesideImages d e → Carries up d → Carries (with_images up images) e
carries_on up images d e same c = record { running = same.running ∙ c.running; files = same.files ∙ c.files; counters = same.counters ∙ c.counters }

-- what is saved is as it was
saved_on : DeviceLaws → (g : Geometry) (p : Places) → ArePlaces g p → (d e : AbstractDevice) (old new : List ℕ) → SameBesideImages d e → Keeps (spots_of p) old new → saved_in p.first old ≡ Some d.saved → saved_in p.first new ≡ Some e.saved
saved_on laws g p are d e old new same k stands =
    let c = settings_clear g p are in
    laws.saved p.first (spots_of p) old new c.0 c.1 k ∙ stands ∙ sym (ap (λ x. Some x) same.saved)

whole : (d : AbstractDevice) (steps : List Step) → Part d steps (applied steps d)
whole d steps = record { front = steps; rest = []; split = sym (append_none steps); reached = refl }
  where
    append_none : (xs : List Step) → xs ++ [] ≡ xs
    append_none [] = refl
    append_none (x ∷ xs) = ap (λ ys. x ∷ ys) (append_none xs)

-- answered
done_told : DeviceLaws → (g : Geometry) (m : Meant) → IsAboutImages m → (up : Up) (images : Images) (reply : Reply) → ArePlaces g (places_of up.images) → (u v : List ℕ)
    → ImagesDo (places_of up.images) up.images.target images.target (λ d. does (sizes_of g) d m) u v → ((d : AbstractDevice) → Stands (places_of up.images) up.images.target d u → said_of reply ≡ (does (sizes_of g) d m).reply)
    → Keeps (spots_of (places_of up.images)) u v → ReachedFrom (places_of up.images) (λ d. does (sizes_of g) d m) up (with_images up images) (Ok reply) u v
done_told laws g m is up images reply are u v done told k = λ d stands carries.
    let p = places_of up.images in
    let steps = (does (sizes_of g) d m).steps in
    let e = applied steps d in
    let same : SameBesideImages d e = laws.images (sizes_of g) d e m is (whole d steps) in
    record {
      taken = steps;
      went = (refl, told d stands);
      stands = record { images = done d stands.images; saved = saved_on laws g p are d e u v same k stands.saved };
      carries = carries_on up images d e same carries;
    }

-- broken off
moved_told : DeviceLaws → (g : Geometry) (m : Meant) → IsAboutImages m → (up : Up) (images : Images) (fault : UploadFault) → ArePlaces g (places_of up.images) → (u v : List ℕ)
    → ImagesMove (places_of up.images) up.images.target images.target (λ d. does (sizes_of g) d m) u v
    → Keeps (spots_of (places_of up.images)) u v → ReachedFrom (places_of up.images) (λ d. does (sizes_of g) d m) up (with_images up images) (Err fault) u v
moved_told laws g m is up images fault are u v moves k = λ d stands carries.
    let p = places_of up.images in
    let r = moves d stands.images in
    let steps = (does (sizes_of g) d m).steps in
    let e = applied r.part.front d in
    let here : r.reached ≡ e = r.part.reached in
    let part : Part d steps e = record { front = r.part.front; rest = r.part.rest; split = r.part.split; reached = refl } in
    let same : SameBesideImages d e = laws.images (sizes_of g) d e m is part in
    record {
      taken = r.part.front;
      went = (r.part.rest, r.part.split);
      stands = record { images = subst (λ (x : AbstractDevice). ImagesStand p images.target x v) here r.stands; saved = saved_on laws g p are d e u v same k stands.saved };
      carries = carries_on up images d e same carries;
    }

-- both, as far as the bytes are told

ok_told : DeviceLaws → (g : Geometry) (m : Meant) → IsAboutImages m → (up : Up) (images : Images) (reply : Reply) → ArePlaces g (places_of up.images) → (x y : Option (List ℕ))
    → Told (ImagesDo (places_of up.images) up.images.target images.target (λ d. does (sizes_of g) d m)) x y → ImagesTell (places_of up.images) up.images.target (λ d. does (sizes_of g) d m) x reply
    → Told (Keeps (spots_of (places_of up.images))) x y → Told (ReachedFrom (places_of up.images) (λ d. does (sizes_of g) d m) up (with_images up images) (Ok reply)) x y
ok_told laws g m is up images reply are None None f t k = tt
ok_told laws g m is up images reply are None (Some v) f t k = absurd f
ok_told laws g m is up images reply are (Some u) None f t k = absurd f
ok_told laws g m is up images reply are (Some u) (Some v) f t k = done_told laws g m is up images reply are u v f (λ d stands. t d stands.images) k

err_told : DeviceLaws → (g : Geometry) (m : Meant) → IsAboutImages m → (up : Up) (images : Images) (fault : UploadFault) → ArePlaces g (places_of up.images) → (x y : Option (List ℕ))
    → Told (ImagesMove (places_of up.images) up.images.target images.target (λ d. does (sizes_of g) d m)) x y
    → Told (Keeps (spots_of (places_of up.images))) x y → Told (ReachedFrom (places_of up.images) (λ d. does (sizes_of g) d m) up (with_images up images) (Err fault)) x y
err_told laws g m is up images fault are None None f k = tt
err_told laws g m is up images fault are None (Some v) f k = absurd f
err_told laws g m is up images fault are (Some u) None f k = absurd f
err_told laws g m is up images fault are (Some u) (Some v) f k = moved_told laws g m is up images fault are u v f k

either_told : DeviceLaws → (g : Geometry) (m : Meant) → IsAboutImages m → (up : Up) (images : Images) (r : Result Reply UploadFault) → ArePlaces g (places_of up.images) → (x y : Option (List ℕ))
    → Told (ImagesMove (places_of up.images) up.images.target images.target (λ d. does (sizes_of g) d m)) x y
    → OnOk r (Told (ImagesDo (places_of up.images) up.images.target images.target (λ d. does (sizes_of g) d m)) x y) → IfOk r (ImagesTell (places_of up.images) up.images.target (λ d. does (sizes_of g) d m) x)
    → Told (Keeps (spots_of (places_of up.images))) x y → Told (ReachedFrom (places_of up.images) (λ d. does (sizes_of g) d m) up (with_images up images) r) x y
either_told laws g m is up images (Ok reply) are x y moves done told k = ok_told laws g m is up images reply are x y done told k
either_told laws g m is up images (Err fault) are x y moves done told k = err_told laws g m is up images fault are x y moves k

-- why it was broken off
image_caused : (p : Places) (m : Meant) → IsAboutImages m → (fault : UploadFault) (x : Option (List ℕ)) → ImagesCaused p 5 fault x → CausedBy p (Ok m) fault x
image_caused p meant.image_list is faults.Worn x c = c
image_caused p (meant.image_set hash confirm) is faults.Worn x c = c
image_caused p (meant.upload image len off sha part) is faults.Worn x c = c
image_caused p (meant.erase slot) is faults.Worn x c = c
image_caused p m is faults.Worn x c = absurd is
image_caused p m is faults.Unformatted x c = c
image_caused p m is (faults.Fault operation) x c = tt
image_caused p m is faults.Off x c = tt

result_caused : (p : Places) (m : Meant) → IsAboutImages m → (r : Result Reply UploadFault) (x : Option (List ℕ)) → ResultCausedIn p 5 r x → ResultCausedBy p (Ok m) r x
result_caused p m is (Ok reply) x c = tt
result_caused p m is (Err fault) x c = image_caused p m is fault x c

-- the settings' value speaks of the new bytes too
settings_say : DeviceLaws → (g : Geometry) (up : Up) → IsFor g up.images up.settings → (x y : Option (List ℕ)) → IfSome x (UpSays up.images up.settings) → Told (Keeps (spots_of (places_of up.images))) x y → IfSome y (SettingsSay up.settings)
settings_say laws g up for x y says k =
    let p = places_of up.images in
    let c = settings_clear g p for.places in
    Told-after (UpSays up.images up.settings) (Keeps (spots_of p)) (SettingsSay up.settings) x y
    (λ u v s kept. laws.settings up.settings (spots_of p) u v (subst (λ (l : Layout). Clear (spots_of p) (settings_of l).first.at 4096) (sym for.layout) c.0) (subst (λ (l : Layout). Clear (spots_of p) (settings_of l).second.at 4096) (sym for.layout) c.1) kept s.settings_say) says k

pub both_say : (images : Images) (settings : SettingsState) (x : Option (List ℕ)) → IfSome x (ImagesSay images) → IfSome x (SettingsSay settings) → IfSome x (UpSays images settings)
both_say images settings None i s = tt
both_say images settings (Some u) i s = record { images_say = i; settings_say = s }

images_unworn : (p : Places) (m : Meant) → IsAboutImages m → (r : Result Reply UploadFault) (x : Option (List ℕ)) → OnOk r (SavesUnworn p (Ok m) x)
images_unworn p m is (Err fault) x = tt
images_unworn p meant.image_list is (Ok reply) x = tt
images_unworn p (meant.image_set hash confirm) is (Ok reply) x = tt
images_unworn p (meant.upload image len off sha part) is (Ok reply) x = tt
images_unworn p (meant.erase slot) is (Ok reply) x = tt
images_unworn p m is (Ok reply) x = absurd is

pub images_served : DeviceLaws → (g : Geometry) (m : Meant) → IsAboutImages m → (up : Up) (images : Images) (r : Result Reply UploadFault) (a b : FlashState) → IsFor g up.images up.settings → IfSome a.bytes (UpSays up.images up.settings)
    → ImagesAnswer (places_of up.images) 5 up.images.target (λ d. does (sizes_of g) d m) images r a b
    → Idles (sizes_of g) (Ok m) up (with_images up images) r a b → MountsBy (sizes_of g) (Ok m) up.images (record { images = images; result = r }) a b → ErasesBy (Ok m) up.images r b.bytes
    → Serves g (Ok m) up (with_images up images) r a b
images_served laws g m is up images r a b for says f idle mounts erased =
    let p = places_of up.images in
    let reached = either_told laws g m is up images r for.places a.bytes b.bytes f.moves f.done f.said f.calls.keeps in
    record {
      calls = subst (λ (s : List (ℕ × ℕ)). Calls s (result_end r) a b) (sym (spots_are p m is)) f.calls;
      reached = reached;
      says = both_say images up.settings b.bytes f.says (settings_say laws g up for a.bytes b.bytes says f.calls.keeps);
      places_kept = f.places_kept;
      settings_kept = refl;
      counters_kept = refl;
      caused = result_caused p m is r a.bytes f.caused;
      unworn = images_unworn p m is r a.bytes;
      progress_ages = f.ages;
      settings_ages = Told-map (Keeps (spots_of p)) (AgesAtMost 1 (settings_of p.first)) a.bytes b.bytes (λ u v. settings_age laws g p for.places 1 u v) f.calls.keeps;
      pending = f.pending;
      untouched = idle;
      mounts = mounts;
      erased = erased;
      pays = images_pay laws (Ok m) up (with_images up images) (λ d. does (sizes_of g) d m) r (spots_of p) a b f.calls reached f.pays;
    }

-- What is answered about images can be sent.

slots_few : (image : Option ℕ) (pair : SidePair) → length (slots_of image pair) ≤ 2
slots_few image pair = few pair.second
  where
    few : (o : Option SlotEntry) → length {A = Option ℕ × SlotEntry} ((image, pair.first) ∷ if_some o (λ e. (image, e) ∷ [])) ≤ 2
    few None = omega arith
    few (Some e) = omega arith

length_append : {A : Type 0} (xs ys : List A) → length (xs ++ ys) ≡ length xs + length ys
length_append [] ys = omega arith
length_append (x ∷ xs) ys = let h = length_append xs ys in omega (arith, h)

listed_few : (pair : SidePair) (other : Option SidePair) → length (listed pair other) ≤ 4
listed_few pair None = let a = slots_few None pair in omega (arith, a)
listed_few pair (Some other) =
    let a = slots_few (Some 0) pair in
    let b = slots_few (Some 1) other in
    let c = length_append (slots_of (Some 0) pair) (slots_of (Some 1) other) in
    omega (arith, a, b, c)

image_fits : (s : Said) → IsImageReply s → Fitting s
image_fits (said.images pair other) is = let few = listed_few pair other in record { room = omega (arith, few); sendable = tt }
image_fits (said.smp_error number) is = record { room = omega arith; sendable = tt }
image_fits (said.offset off matched) is = record { room = omega arith; sendable = tt }
image_fits said.empty is = record { room = omega arith; sendable = tt }
image_fits (said.group_error group number) is = record { room = omega arith; sendable = is }
image_fits s is = absurd is

pub images_fit : (r : Result Reply UploadFault) → IfOk r (λ reply. IsImageReply (said_of reply)) → IfOk r (λ reply. Fitting (said_of reply))
images_fit (Ok reply) is = image_fits (said_of reply) is
images_fit (Err fault) is = tt
