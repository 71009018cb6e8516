-- A request that makes no operation on the flash, served.
use Rattle.std.proofs.Common.{◌≡◌, ℕ, zero, suc, Option, Some, None, List, [], Result, Ok, Err, refl, sym, ◌∙◌, ap, subst, arith}
use Rattle.std.specs.Prelude.{IfSome}
use Rattle.smp_flash.specs.Area.{Told}
use Rattle.smp_flash.specs.Layout.{progress_of, settings_of}
use Rattle.smp_flash.specs.State.{FlashState}
use Rattle.smp_flash.specs.declared.geometry.Geometry.{Geometry}
use Rattle.smp_flash.specs.declared.layout.Layout.{Layout}
use Rattle.smp_flash.proofs.Passing.{Calls-refl}
use Rattle.smp_flash.proofs.Telling.{Told-same}
use Rattle.smp_gate.specs.Newest.{AgesAtMost}
use Rattle.smp_model.specs.declared.device.AbstractDevice.{AbstractDevice}
use Rattle.smp_model.specs.declared.device.Side.{Side}
use Rattle.smp_model.specs.declared.device.Sizes.{Sizes}
use Rattle.smp_model.specs.declared.reply.Reply.{Reply}
use Rattle.smp_model.specs.declared.setting.Setting.{Setting}
use Rattle.smp_model.specs.Handled.{response_to}
use Rattle.smp_model.specs.Meant as meant
use Rattle.smp_model.specs.Meant.{Meant}
use Rattle.smp_model.specs.Response.{Response}
use Rattle.smp_model.specs.Said.{said_of}
use Rattle.smp_model.specs.Steps.{applied, side_at}
use Rattle.smp_settings.specs.Saved.{SavedStand}
use Rattle.smp_upload.specs.Moves.{KeepsPending}
use Rattle.smp_upload.specs.declared.states.UploadFault.{UploadFault}
use Rattle.smp_device.specs.Places.{Places, StandsAt, places_of, place_at}
use Rattle.smp_device.specs.Serving.{ErasesBy, Idles, IfOfFlash, MountsBy, ReachedFrom, SavesUnworn, Serves, ServicePays, spots_for}
use Rattle.smp_device.specs.Up.{Up, Stands, UpSays, Carries}
use Rattle.smp_device.specs.Uploads.{sizes_of}
use Rattle.smp_device.specs.declared.images.Images.{Images}
use Rattle.smp_device.specs.declared.images.Replied.{Replied}

-- what is durable, and the target, are as before
pub record SameStanding (d e : AbstractDevice) : Type 0 where
  pub first : e.first ≡ d.first
  pub second : e.second ≡ d.second
  pub saved : e.saved ≡ d.saved
  pub target : e.target ≡ d.target

pub same_standing : (d : AbstractDevice) → SameStanding d d
same_standing d = record { first = refl; second = refl; saved = refl; target = refl }

-- The reply is the device's, its steps change nothing durable, and memory holds it then.
pub record Quietly (r : Response) (d : AbstractDevice) (after : Up) (answer : Reply) : Type 0 where
  pub reply : said_of answer ≡ r.reply
  pub standing : SameStanding d (applied r.steps d)
  pub carries : Carries after (applied r.steps d)

side_same : (i : ℕ) (d e : AbstractDevice) → SameStanding d e → side_at i e ≡ side_at i d
side_same zero d e s = ap (λ (x : Side). Some x) s.first
side_same (suc zero) d e s = s.second
side_same (suc (suc i)) d e s = refl

pub stands_same : (p : Places) (t : ℕ) (d e : AbstractDevice) (bytes : List ℕ) → SameStanding d e → Stands p t d bytes → Stands p t e bytes
stands_same p t d e bytes s stands = record {
  images = record {
    sides = λ i. subst (λ (x : Option Side). StandsAt (place_at i p) x bytes) (sym (side_same i d e s)) (stands.images.sides i);
    target_is = s.target ∙ stands.images.target_is;
  };
  saved = subst (λ (x : List Setting). SavedStand p.first x bytes) (sym s.saved) stands.saved;
}

quiet_told : (g : Geometry) (m : Result Meant ℕ) (up after : Up) (reply : Reply) (x : Option (List ℕ)) → after.images ≡ up.images
    → ((d : AbstractDevice) → Carries up d → Quietly (response_to (sizes_of g) d m) d after reply)
    → Told (ReachedFrom (places_of up.images) (λ d. response_to (sizes_of g) d m) up after (Ok reply)) x x
quiet_told g m up after reply None e f = tt
quiet_told g m up after reply (Some u) e f = λ d stands carries.
    let q = f d carries in
    let r = response_to (sizes_of g) d m in
    record {
      taken = r.steps;
      went = (refl, q.reply);
      stands = subst (λ (i : Images). Stands (places_of up.images) i.target (applied r.steps d) u) (sym e) (stands_same (places_of up.images) up.images.target d (applied r.steps d) u q.standing stands);
      carries = q.carries;
    }

no_age : (layout : Layout) (n : ℕ) (u : List ℕ) → AgesAtMost n (settings_of layout) u u
no_age layout n u = record { kept = omega arith; most = omega arith }

no_age_of : (layout : Layout) (n : ℕ) (u : List ℕ) → AgesAtMost n (progress_of layout) u u
no_age_of layout n u = record { kept = omega arith; most = omega arith }

-- It is none of those about images or about what is saved.

quiet_idle : (sizes : Sizes) (m : Result Meant ℕ) (up after : Up) (reply : Reply) (a : FlashState) → after.images ≡ up.images → Idles sizes m up after (Ok reply) a a
quiet_idle sizes (Ok m) up after reply a e = λ d has images saved. record { answered = refl; images_same = e; flash_same = refl }
quiet_idle sizes (Err number) up after reply a e = record { answered = refl; images_same = e; flash_same = refl }

quiet_mounts : (sizes : Sizes) (p : Places) (m : Result Meant ℕ) (before : Images) (r : Replied) (a : FlashState) → spots_for p m ≡ [] → r.images ≡ before → MountsBy sizes m before r a a
quiet_mounts sizes p (Ok meant.image_list) before r a none e = absurd (cc none)
quiet_mounts sizes p (Ok (meant.image_set hash confirm)) before r a none e = absurd (cc none)
quiet_mounts sizes p (Ok (meant.upload image len off sha part)) before r a none e = absurd (cc none)
quiet_mounts sizes p (Ok (meant.erase slot)) before r a none e = absurd (cc none)
quiet_mounts sizes p m before r a none e = e

quiet_erases : (p : Places) (m : Result Meant ℕ) (before : Images) (r : Result Reply UploadFault) (x : Option (List ℕ)) → spots_for p m ≡ [] → ErasesBy m before r x
quiet_erases p (Ok (meant.erase slot)) before r x none = absurd (cc none)
quiet_erases p m before r x none = tt

quiet_unworn : (p : Places) (m : Result Meant ℕ) (x : Option (List ℕ)) → spots_for p m ≡ [] → SavesUnworn p m x
quiet_unworn p (Ok meant.save) x none = absurd (cc none)
quiet_unworn p m x none = tt

quiet_pays : (p : Places) (m : Result Meant ℕ) (P : Type 0) → spots_for p m ≡ [] → IfOfFlash m P
quiet_pays p (Ok meant.image_list) P none = absurd (cc none)
quiet_pays p (Ok (meant.image_set hash confirm)) P none = absurd (cc none)
quiet_pays p (Ok (meant.upload image len off sha part)) P none = absurd (cc none)
quiet_pays p (Ok (meant.erase slot)) P none = absurd (cc none)
quiet_pays p (Ok meant.load) P none = absurd (cc none)
quiet_pays p (Ok meant.save) P none = absurd (cc none)
quiet_pays p m P none = tt

pub quiet : (g : Geometry) (m : Result Meant ℕ) (up after : Up) (reply : Reply) (a : FlashState) → spots_for (places_of up.images) m ≡ [] → after.images ≡ up.images
    → after.settings.layout ≡ up.settings.layout → after.counters ≡ up.counters → IfSome a.bytes (UpSays after.images after.settings)
    → ((d : AbstractDevice) → Carries up d → Quietly (response_to (sizes_of g) d m) d after reply) → Serves g m up after (Ok reply) a a
quiet g m up after reply a spots images layout counters says f =
    let p = places_of up.images in
    record {
      calls = Calls-refl (spots_for p m) a;
      reached = quiet_told g m up after reply a.bytes images f;
      says = says;
      places_kept = ap places_of images;
      settings_kept = layout;
      counters_kept = counters;
      caused = tt;
      unworn = quiet_unworn p m a.bytes spots;
      progress_ages = λ i l at. Told-same (AgesAtMost 5 (progress_of l)) a.bytes a.bytes (no_age_of l 5) refl;
      settings_ages = Told-same (AgesAtMost 1 (settings_of p.first)) a.bytes a.bytes (no_age p.first 1) refl;
      pending = λ i l at. Told-same (KeepsPending l) a.bytes a.bytes (λ u. record { kept = λ is. refl; still = λ is. refl }) refl;
      untouched = quiet_idle (sizes_of g) m up after reply a images;
      mounts = quiet_mounts (sizes_of g) p m up.images (record { images = after.images; result = Ok reply }) a spots images;
      erased = quiet_erases p m up.images (Ok reply) a.bytes spots;
      pays = quiet_pays p m (ServicePays up (λ d. response_to (sizes_of g) d m) a a) spots;
    }

pub served_as : (g : Geometry) (m : Result Meant ℕ) (up after : Up) (r s : Result Reply UploadFault) (a b : FlashState) → s ≡ r → Serves g m up after r a b → Serves g m up after s a b
served_as g m up after r s a b e f = subst (λ (x : Result Reply UploadFault). Serves g m up after x a b) (sym e) f

-- of a request by another name
pub meant_as : (g : Geometry) (m n : Meant) (up after : Up) (r : Result Reply UploadFault) (a b : FlashState) → n ≡ m → Serves g (Ok m) up after r a b → Serves g (Ok n) up after r a b
meant_as g m n up after r a b e f = subst (λ (x : Meant). Serves g (Ok x) up after r a b) (sym e) f
