-- What brings an armed trouble nearer takes patience of it.
use Rattle.std.proofs.Common.{◌≡◌, inl, inr, ℕ, Option, Some, None, List, Result, Ok, Err, refl, sym, ◌∙◌, ap, subst}
use Rattle.std.specs.Prelude.{IsSomeAnd, OnOk}
use Rattle.smp_flash.specs.Area.{Told}
use Rattle.smp_flash.specs.Calls.{Calls, Goes, Smaller}
use Rattle.smp_flash.specs.State.{FlashState}
use Rattle.smp_flash.specs.declared.layout.Layout.{Layout}
use Rattle.smp_flash.specs.declared.region.Region.{Region}
use Rattle.smp_flash.specs.declared.region.Region.TheVariants as regions
use Rattle.smp_flash.proofs.Passing.{Smaller-then, then_Smaller}
use Rattle.smp_model.specs.declared.device.AbstractDevice.{AbstractDevice}
use Rattle.smp_model.specs.declared.device.Side.{Side}
use Rattle.smp_model.specs.declared.device.Sizes.{Sizes}
use Rattle.smp_model.specs.declared.reply.Reply.{Reply}
use Rattle.smp_model.specs.Meant as meant
use Rattle.smp_model.specs.Meant.{Meant}
use Rattle.smp_model.specs.Response.{Response}
use Rattle.smp_model.specs.Steps.{Step, applied, settle, settle_steps, side_at, start}
use Rattle.smp_settings.specs.Saved.{SavedStand}
use Rattle.smp_upload.specs.declared.states.UploadFault.{UploadFault}
use Rattle.smp_upload.proofs.Composing.{shows_stands}
use Rattle.smp_side.specs.Held.{result_end}
use Rattle.smp_device.specs.Answers.{ImagesPay, StepsPay}
use Rattle.smp_device.specs.DeviceLaws.{DeviceLaws}
use Rattle.smp_device.specs.Goings.{AreCounted, durable}
use Rattle.smp_device.specs.Mounts.{Untouches}
use Rattle.smp_device.specs.Places.{Places, ImagesStand, StandsAt, place_at, places_of}
use Rattle.smp_device.specs.Serving.{Idles, IfOfFlash, ReachedFrom, ServicePays}
use Rattle.smp_device.specs.Starting.{StartPays, StartsOn}
use Rattle.smp_device.specs.Up.{Up, ShowsAt, Stands, Carries}
use Rattle.smp_device.specs.declared.images.Replied.{Replied}
use Rattle.smp_device.specs.declared.starting.Begun.{Begun}

-- Bytes that are the same stand for the same durable part.

stood_one : DeviceLaws → (l : Option Layout) (x y : Option Side) (bytes : List ℕ) → StandsAt l x bytes → StandsAt l y bytes → x ≡ y
stood_one laws None None None bytes s t = refl
stood_one laws None None (Some y) bytes s t = absurd t
stood_one laws None (Some x) y bytes s t = absurd s
stood_one laws (Some l) None y bytes s t = absurd s
stood_one laws (Some l) (Some x) None bytes s t = absurd t
stood_one laws (Some l) (Some x) (Some y) bytes s t = ap (λ (z : Side). Some z) (laws.one_side l x y bytes s t)

some_side : (x y : Side) → Some x ≡ Some y → x ≡ y
some_side x y e = cc e

-- the bytes stand for each side, and for what is saved
abbrev pub SidesStand : Places → AbstractDevice → List ℕ → Type 0
SidesStand p d bytes = (i : ℕ) → StandsAt (place_at i p) (side_at i d) bytes

pub durable_same : DeviceLaws → (p : Places) (d e : AbstractDevice) (u : List ℕ) → SidesStand p d u → SavedStand p.first d.saved u → SidesStand p e u → SavedStand p.first e.saved u → durable e ≡ durable d
durable_same laws p d e u f s g t =
    let first : e.first ≡ d.first = some_side e.first d.first (stood_one laws (Some p.first) (Some e.first) (Some d.first) u (g 0) (f 0)) in
    let second : e.second ≡ d.second = stood_one laws p.second e.second d.second u (g 1) (f 1) in
    let saved = laws.one_saved p.first e.saved d.saved u t s in
    λ i. record { first = first i; second = second i; saved = saved i }

some_bytes : (x y : List ℕ) → Some y ≡ Some x → y ≡ x
some_bytes x y e = cc e

-- so a request that changed what is durable changed a byte
any_pays : DeviceLaws → (up after : Up) (respond : AbstractDevice → Response) (reply : Reply) (a b : FlashState) (x y : Option (List ℕ)) → x ≡ a.bytes → y ≡ b.bytes → Goes a b
    → Told (ReachedFrom (places_of up.images) respond up after (Ok reply)) x y
    → (d : AbstractDevice) → a.aim ≡ Some regions.Any → IsSomeAnd x (Stands (places_of up.images) up.images.target d) → Carries up d → (durable (applied (respond d).steps d) ≡ durable d → ⊥) → Smaller a.patience b.patience
any_pays laws up after respond reply a b None y i j goes reached d aim stands carries moved = absurd stands
any_pays laws up after respond reply a b (Some u) None i j goes reached d aim stands carries moved = absurd reached
any_pays laws up after respond reply a b (Some u) (Some v) i j goes reached d aim stands carries moved =
    let p = places_of up.images in
    let r = reached d stands carries in
    let e = applied (respond d).steps d in
    let here : Stands p after.images.target e v = subst (λ (steps : List Step). Stands p after.images.target (applied steps d) v) r.went.0 r.stands in
    elim (goes.costs aim) [
      | inl same ↦
          let there : Stands p after.images.target e u = subst (λ (w : List ℕ). Stands p after.images.target e w) (some_bytes u v (j ∙ same ∙ sym i)) here in
          absurd (moved (durable_same laws p d e u stands.images.sides stands.saved there.images.sides there.saved))
      | inr less ↦ less
    ]

-- patience is taken in each region that counts the steps
abbrev pub CountedPay : Up → (AbstractDevice → Response) → FlashState → FlashState → Type 0
CountedPay up respond a b =
    (region : Region) (d : AbstractDevice) → a.aim ≡ Some region → IsSomeAnd a.bytes (Stands (places_of up.images) up.images.target d) → Carries up d
    → AreCounted region d (respond d).steps → Smaller a.patience b.patience

pub nearer_pays : DeviceLaws → (up after : Up) (respond : AbstractDevice → Response) (reply : Reply) (a b : FlashState) → Goes a b → Told (ReachedFrom (places_of up.images) respond up after (Ok reply)) a.bytes b.bytes
    → CountedPay up respond a b → ServicePays up respond a b
nearer_pays laws up after respond reply a b goes reached f regions.Any d aim stands carries moved = any_pays laws up after respond reply a b a.bytes b.bytes refl refl goes reached d aim stands carries moved
nearer_pays laws up after respond reply a b goes reached f region d aim stands carries c = f region d aim stands carries c

pub if_of_flash : (m : Result Meant ℕ) (P : Type 0) → P → IfOfFlash m P
if_of_flash (Ok meant.image_list) P p = p
if_of_flash (Ok (meant.image_set hash confirm)) P p = p
if_of_flash (Ok (meant.upload image len off sha part)) P p = p
if_of_flash (Ok (meant.erase slot)) P p = p
if_of_flash (Ok meant.load) P p = p
if_of_flash (Ok meant.save) P p = p
if_of_flash m P p = tt

-- Requests about images.

images_stood : (up : Up) (d : AbstractDevice) (x : Option (List ℕ)) → IsSomeAnd x (Stands (places_of up.images) up.images.target d) → IsSomeAnd x (ImagesStand (places_of up.images) up.images.target d)
images_stood up d None s = absurd s
images_stood up d (Some u) s = s.images

pub images_pay : DeviceLaws → (m : Result Meant ℕ) (up after : Up) (respond : AbstractDevice → Response) (r : Result Reply UploadFault) (spots : List (ℕ × ℕ)) (a b : FlashState) → Calls spots (result_end r) a b
    → Told (ReachedFrom (places_of up.images) respond up after r) a.bytes b.bytes → OnOk r (ImagesPay (places_of up.images) up.images.target respond a b) → OnOk r (IfOfFlash m (ServicePays up respond a b))
images_pay laws m up after respond (Ok reply) spots a b calls reached pays =
    if_of_flash m (ServicePays up respond a b) (nearer_pays laws up after respond reply a b calls.passes reached (λ region d aim stands carries c. pays region d aim (images_stood up d a.bytes stands) c))
images_pay laws m up after respond (Err fault) spots a b calls reached pays = tt

pub images_idle : (sizes : Sizes) (m : Meant) (up after : Up) (r : Replied) (a b : FlashState) → after.images ≡ r.images → Untouches sizes m up.images r a b → Idles sizes (Ok m) up after r.result a b
images_idle sizes m up after r a b e f = λ d has images saved.
    let u = f d has images in
    record { answered = u.answered; images_same = e ∙ u.images_same; flash_same = u.flash_same }

-- Starts.

-- patience is taken in each region that counts the steps of settling
abbrev pub SettlingPays : Places → FlashState → FlashState → Option (List ℕ) → Type 0
SettlingPays p a b x = (region : Region) (d : AbstractDevice) → a.aim ≡ Some region → IsSomeAnd x (Stands p d.target d) → AreCounted region d (settle_steps d) → Smaller a.patience b.patience

pub shows_stand : (l : Option Layout) (s : Option Side) (bytes : List ℕ) → ShowsAt l s bytes → StandsAt l s bytes
shows_stand None None bytes f = tt
shows_stand None (Some s) bytes f = absurd f
shows_stand (Some l) None bytes f = absurd f
shows_stand (Some l) (Some s) bytes f = shows_stands l s bytes f

any_start : DeviceLaws → (p : Places) (begun : Begun) (a b : FlashState) (x y : Option (List ℕ)) → x ≡ a.bytes → y ≡ b.bytes → Goes a b → Told (StartsOn p (Ok begun)) x y
    → (d : AbstractDevice) → a.aim ≡ Some regions.Any → IsSomeAnd x (Stands p d.target d) → (durable (settle d) ≡ durable d → ⊥) → Smaller a.patience b.patience
any_start laws p begun a b None y i j goes f d aim stands moved = absurd stands
any_start laws p begun a b (Some u) None i j goes f d aim stands moved = absurd f
any_start laws p begun a b (Some u) (Some v) i j goes f d aim stands moved =
    let shows = (f d stands).shows in
    let here : SidesStand p (start d) v = λ n. shows_stand (place_at n p) (side_at n (start d)) v (shows.sides n) in
    elim (goes.costs aim) [
      | inl same ↦
          let e : v ≡ u = some_bytes u v (j ∙ same ∙ sym i) in
          absurd (moved (durable_same laws p d (start d) u stands.images.sides stands.saved (subst (λ (w : List ℕ). SidesStand p (start d) w) e here) (subst (λ (w : List ℕ). SavedStand p.first (start d).saved w) e shows.saved)))
      | inr less ↦ less
    ]

pub start_pays : DeviceLaws → (p : Places) (begun : Begun) (a b : FlashState) → Goes a b → Told (StartsOn p (Ok begun)) a.bytes b.bytes → SettlingPays p a b a.bytes → StartPays p a b
start_pays laws p begun a b goes f counted regions.Any d aim stands moved = any_start laws p begun a b a.bytes b.bytes refl refl goes f d aim stands moved
start_pays laws p begun a b goes f counted region d aim stands c = counted region d aim stands c

-- by the settling between two calls that change no byte
settled_stood : (p : Places) (d : AbstractDevice) (x : Option (List ℕ)) → IsSomeAnd x (Stands p d.target d) → IsSomeAnd x (ImagesStand p d.target d)
settled_stood p d None s = absurd s
settled_stood p d (Some u) s = s.images

pub settling_pays : (p : Places) (a b c d : FlashState) → Goes a b → b.bytes ≡ a.bytes → ((t : ℕ) → StepsPay p t settle_steps b c) → Goes c d → SettlingPays p a d a.bytes
settling_pays p a b c d first kept pays last = λ region e aim stands counted.
    let there : IsSomeAnd b.bytes (ImagesStand p e.target e) = subst (λ (x : Option (List ℕ)). IsSomeAnd x (ImagesStand p e.target e)) (sym kept) (settled_stood p e a.bytes stands) in
    let less : Smaller b.patience c.patience = pays e.target region e (first.aim ∙ aim) there counted in
    Smaller-then a.patience c.patience d.patience (then_Smaller a.patience b.patience c.patience first.patience less) last.patience
