-- A start: the settings are read, and then each image is mounted.
use Rattle.std.proofs.Common.{◌≡◌, ◌⊎◌, inl, inr, ℕ, zero, suc, ◌++◌, Option, Some, None, List, [], ◌∷◌, Result, Ok, Err, refl, sym, ◌∙◌, ap, subst}
use Rattle.std.specs.Prelude.{IfSome, IfOk, IsSomeAnd}
use Rattle.smp_flash.specs.Area.{Told, Keeps}
use Rattle.smp_flash.specs.State.{FlashState}
use Rattle.smp_flash.specs.State.End.{Went}
use Rattle.smp_flash.specs.declared.geometry.Geometry.{Geometry}
use Rattle.smp_flash.specs.declared.layout.Layout.{Layout}
use Rattle.smp_flash.proofs.Passing.{Calls-after, Calls-wider}
use Rattle.smp_flash.proofs.Telling.{Told-trans}
use Rattle.smp_model.specs.declared.device.AbstractDevice.{AbstractDevice}
use Rattle.smp_model.specs.Sides.{side_settle_steps}
use Rattle.smp_model.specs.Steps.{Step, applied, settle, settle_steps, settle_steps_of}
use Rattle.smp_upload.specs.Bytes.{SideReadable, Apart}
use Rattle.smp_upload.specs.Faults.{upload_fault_end}
use Rattle.smp_upload.specs.Mounting.{IsWorn, Mounts}
use Rattle.smp_upload.specs.Moves.{Moves, Does, mount_spots}
use Rattle.smp_upload.specs.States.{Says, known_mounted}
use Rattle.smp_upload.specs.declared.states.Lost.{Lost}
use Rattle.smp_upload.specs.declared.states.Mounted.{Mounted}
use Rattle.smp_upload.specs.declared.states.UploadFault.{UploadFault}
use Rattle.smp_device.specs.Answers.{ImagesReached}
use Rattle.smp_device.specs.Laws.{Laws}
use Rattle.smp_device.specs.Places.{Places, ArePlaces, AtEach, ImagesSay, ImagesStand, place_at, places_of, spots_of}
use Rattle.smp_device.specs.Settling.{Settle, Settles}
use Rattle.smp_device.specs.Starting.{StartsImages, MountsBehind, SettleTo, WornAt, alone_images, both_images}
use Rattle.smp_device.specs.declared.images.Images.{Images}
use Rattle.smp_device.proofs.Parting.{apart_of, covers_at, ages_each, pending_each}
use Rattle.smp_device.proofs.Lifting.{told_two}
use Rattle.smp_device.proofs.Asking.{zero_one, one_zero}
use Rattle.smp_device.proofs.Settlements.{settles_alone, settles_both, moves_at, does_at, reached_more, reached_behind, pending_both, ages_apart, second_steps}

-- The images are mounted: image 0.

-- what is mounted first moves the device by some first steps of settling
first_reached : Laws → (g : Geometry) (p : Places) → ArePlaces g p → (old new : List ℕ) → Moves p.first side_settle_steps old new → Keeps (mount_spots p.first) old new → SettleTo p old new
first_reached laws g p are old new moves keeps = λ d stands.
    reached_more laws p d.target d (settle_steps_of 0 d) (settle_steps_of 1 d) new (moves_at laws g p are 0 p.first refl d.target old new moves keeps d stands)

pub first_lost : Laws → (g : Geometry) (p : Places) → ArePlaces g p → (lost : Lost) (a b : FlashState) → Mounts p.first (Err lost) a b → StartsImages p (Err lost.fault) a b
first_lost laws g p are lost a b m =
    let k = m.moved.calls.keeps in
    record {
      calls = Calls-wider (spots_of p) (mount_spots p.first) (upload_fault_end lost.fault) a b (covers_at p 0 p.first refl) m.moved.calls;
      reaches = told_two (Moves p.first side_settle_steps) (Keeps (mount_spots p.first)) (SettleTo p) a.bytes b.bytes (first_reached laws g p are) m.moved.moves k;
      settles = tt;
      says = tt;
      mounted = tt;
      readable = tt;
      unformatted = λ e. first_unreadable p a.bytes (m.unformatted e);
      worn = λ e. first_worn p a.bytes (m.worn e);
      ages = ages_each g p 0 p.first 2 a.bytes b.bytes are refl m.moved.ages k;
      pending = pending_each g p 0 p.first a.bytes b.bytes are refl m.moved.pending k;
    }
  where
    first_unreadable : (p : Places) (x : Option (List ℕ)) → IfSome x (λ held. SideReadable p.first held → ⊥) → IfSome x (λ held. AtEach (λ l. SideReadable l held) p → ⊥)
    first_unreadable p None f = tt
    first_unreadable p (Some u) f = λ each. f (each 0 p.first refl)

    first_worn : (p : Places) (x : Option (List ℕ)) → IfSome x (IsWorn p.first) → IfSome x (λ held. WornAt p 0 held ⊎ WornAt p 1 held)
    first_worn p None w = tt
    first_worn p (Some u) w = inl w

-- One image, and it is mounted.

alone_say : (it : Mounted) (x : Option (List ℕ)) → IfSome x (Says (known_mounted it)) → IfSome x (ImagesSay (alone_images it))
alone_say it None s = tt
alone_say it (Some u) s = record { first = s; second = tt }

alone_readable : (p : Places) → p.second ≡ None → (x : Option (List ℕ)) → IfSome x (SideReadable p.first) → IfSome x (λ held. AtEach (λ l. SideReadable l held) p)
alone_readable p none None r = tt
alone_readable p none (Some u) r = go
  where
    go : (i : ℕ) (l : Layout) → place_at i p ≡ Some l → SideReadable l u
    go zero l at = let same : p.first ≡ l = cc at in subst (λ (k : Layout). SideReadable k u) same r
    go (suc zero) l at = absurd (cc (sym none ∙ at))
    go (suc (suc i)) l at = absurd (cc at)

settle_reaches : (p : Places) (t : ℕ) (old new : List ℕ) → Settle p t old new → (d : AbstractDevice) → ImagesStand p t d old → ImagesReached p t d (settle_steps d) new
settle_reaches p t old new settle d stands = record {
  reached = applied (settle_steps d) d;
  part = record { front = settle_steps d; rest = []; split = sym (append_none (settle_steps d)); reached = refl };
  stands = settle d stands;
}
  where
    append_none : (xs : List Step) → xs ++ [] ≡ xs
    append_none [] = refl
    append_none (x ∷ xs) = ap (λ ys. x ∷ ys) (append_none xs)

settles_reach : (p : Places) (a b : FlashState) → ((t : ℕ) → Settles p t a b) → (x y : Option (List ℕ)) → a.bytes ≡ x → b.bytes ≡ y → Told (Settle p 0) x y → Told (SettleTo p) x y
settles_reach p a b f None None i j s = tt
settles_reach p a b f None (Some v) i j s = absurd s
settles_reach p a b f (Some u) None i j s = absurd s
settles_reach p a b f (Some u) (Some v) i j s = λ d stands. settle_reaches p d.target u v (told_at d.target) d stands
  where
    told_at : (t : ℕ) → Settle p t u v
    told_at t = subst (λ (z : Option (List ℕ)). Told (Settle p t) z (Some v)) i (subst (λ (z : Option (List ℕ)). Told (Settle p t) a.bytes z) j (f t).does)

pub alone_mounted : Laws → (g : Geometry) (p : Places) → ArePlaces g p → p.second ≡ None → (it : Mounted) (a b : FlashState) → Mounts p.first (Ok it) a b → StartsImages p (Ok (alone_images it)) a b
alone_mounted laws g p are none it a b m =
    let f : (t : ℕ) → Settles p t a b = λ t. settles_alone laws g p are t a b none m.done in
    record {
      calls = (f 0).calls;
      reaches = settles_reach p a b f a.bytes b.bytes refl refl (f 0).does;
      settles = f;
      says = alone_say it b.bytes m.says;
      mounted = (tt, tt);
      readable = alone_readable p none a.bytes m.readable;
      unformatted = tt;
      worn = tt;
      ages = (f 0).ages;
      pending = (f 0).pending;
    }

-- Two images: image 1 behind image 0.

Keeps-sym : (spots : List (ℕ × ℕ)) (xs ys : List ℕ) → Keeps spots xs ys → Keeps spots ys xs
Keeps-sym spots xs ys k = record { length_same = sym k.length_same; apart = λ p n c. sym (k.apart p n c) }

readable_on : Laws → (l : Layout) (spots : List (ℕ × ℕ)) (u v : List ℕ) → Apart l spots → Keeps spots u v → SideReadable l u → SideReadable l v
readable_on laws l spots u v apart k r = record { side = r.side; stands = laws.stand l r.side spots u v apart k r.stands }

-- what is said of image 0 stays said in the mount of image 1
says_on : Laws → (it : Mounted) (first : Layout) (spots : List (ℕ × ℕ)) (u v : List ℕ) → (known_mounted it).layout ≡ first → Apart first spots → Keeps spots u v → Says (known_mounted it) u → Says (known_mounted it) v
says_on laws it first spots u v e apart k s = laws.say (known_mounted it) spots u v (subst (λ (l : Layout). Apart l spots) (sym e) apart) k s

both_say_told : Laws → (it one : Mounted) (first l : Layout) → (known_mounted it).layout ≡ first → Apart first (mount_spots l) → (x y : Option (List ℕ)) → IfSome x (Says (known_mounted it)) → Told (Keeps (mount_spots l)) x y
    → IfSome y (Says (known_mounted one)) → IfSome y (ImagesSay (both_images it one))
both_say_told laws it one first l e apart None None s k t = tt
both_say_told laws it one first l e apart None (Some v) s k t = absurd k
both_say_told laws it one first l e apart (Some u) None s k t = absurd k
both_say_told laws it one first l e apart (Some u) (Some v) s k t = record { first = says_on laws it first (mount_spots l) u v e apart k s; second = t }

each_readable : (p : Places) (l : Layout) (u : List ℕ) → p.second ≡ Some l → SideReadable p.first u → SideReadable l u → AtEach (λ m. SideReadable m u) p
each_readable p l u at first second = go
  where
    go : (i : ℕ) (m : Layout) → place_at i p ≡ Some m → SideReadable m u
    go zero m there = let same : p.first ≡ m = cc there in subst (λ (k : Layout). SideReadable k u) same first
    go (suc zero) m there = let same : l ≡ m = cc (sym at ∙ there) in subst (λ (k : Layout). SideReadable k u) same second
    go (suc (suc i)) m there = absurd (cc there)

both_readable : Laws → (p : Places) (l : Layout) → p.second ≡ Some l → Apart l (mount_spots p.first) → (x y : Option (List ℕ)) → IfSome x (SideReadable p.first) → Told (Keeps (mount_spots p.first)) x y → IfSome y (SideReadable l)
    → IfSome x (λ held. AtEach (λ m. SideReadable m held) p)
both_readable laws p l at apart None None f k s = tt
both_readable laws p l at apart None (Some v) f k s = absurd k
both_readable laws p l at apart (Some u) None f k s = absurd k
both_readable laws p l at apart (Some u) (Some v) f k s = each_readable p l u at f (readable_on laws l (mount_spots p.first) v u apart (Keeps-sym (mount_spots p.first) u v k) s)

unreadable_second : Laws → (p : Places) (l : Layout) → p.second ≡ Some l → Apart l (mount_spots p.first) → (x y : Option (List ℕ)) → Told (Keeps (mount_spots p.first)) x y → IfSome y (λ held. SideReadable l held → ⊥)
    → IfSome x (λ held. AtEach (λ m. SideReadable m held) p → ⊥)
unreadable_second laws p l at apart None y k f = tt
unreadable_second laws p l at apart (Some u) None k f = absurd k
unreadable_second laws p l at apart (Some u) (Some v) k f = λ each. f (readable_on laws l (mount_spots p.first) u v apart k (each 1 l at))

worn_second : (p : Places) (l : Layout) → p.second ≡ Some l → (x y : Option (List ℕ)) → Told (Keeps (mount_spots p.first)) x y → IfSome y (IsWorn l) → IfSome x (λ held. WornAt p 0 held ⊎ WornAt p 1 held)
worn_second p l at None y k w = tt
worn_second p l at (Some u) None k w = absurd k
worn_second p l at (Some u) (Some v) k w = inr (subst (λ (o : Option Layout). IsSomeAnd o (λ m. (middle : List ℕ) × (Keeps (mount_spots p.first) u middle × IsWorn m middle))) (sym at) (v, (k, w)))

-- a mount of image 0 that went through, and then some first steps of image 1's
abbrev SecondTo : Places → List ℕ → List ℕ → Type 0
SecondTo p old new = (t : ℕ) (d : AbstractDevice) → ImagesStand p t d old → ImagesReached p t d (settle_steps_of 1 d) new

abbrev FirstTo : Places → List ℕ → List ℕ → Type 0
FirstTo p old new = (t : ℕ) (d : AbstractDevice) → ImagesStand p t d old → ImagesStand p t (applied (settle_steps_of 0 d) d) new

second_reached : Laws → (p : Places) (old middle new : List ℕ) → FirstTo p old middle → SecondTo p middle new → SettleTo p old new
second_reached laws p old middle new f h = λ d stands.
    let e = applied (settle_steps_of 0 d) d in
    let r = h d.target e (f d.target d stands) in
    reached_behind laws p d.target d (settle_steps_of 0 d) (settle_steps_of 1 d) new (subst (λ (s : List Step). ImagesReached p d.target e s new) (second_steps laws d) r)

pub second_lost : Laws → (g : Geometry) (p : Places) → ArePlaces g p → (l : Layout) → p.second ≡ Some l → (it : Mounted) (lost : Lost) (a b c : FlashState) → Mounts p.first (Ok it) a b → Mounts l (Err lost) b c → StartsImages p (Err lost.fault) a c
second_lost laws g p are l at it lost a b c m n =
    let done = m.done in
    let k = done.calls.keeps in
    let j = n.moved.calls.keeps in
    let apart = apart_of g p are 0 1 p.first l refl at zero_one in
    record {
      calls = Calls-after (spots_of p) (upload_fault_end lost.fault) a b c (Calls-wider (spots_of p) (mount_spots p.first) Went a b (covers_at p 0 p.first refl) done.calls)
          (Calls-wider (spots_of p) (mount_spots l) (upload_fault_end lost.fault) b c (covers_at p 1 l at) n.moved.calls);
      reaches = Told-trans (FirstTo p) (SecondTo p) (SettleTo p) a.bytes b.bytes c.bytes (second_reached laws p)
          (told_two (Does p.first side_settle_steps) (Keeps (mount_spots p.first)) (FirstTo p) a.bytes b.bytes (λ u v f kept t. does_at laws g p are 0 p.first refl t u v f kept) done.does k)
          (told_two (Moves l side_settle_steps) (Keeps (mount_spots l)) (SecondTo p) b.bytes c.bytes (λ u v f kept t. moves_at laws g p are 1 l at t u v f kept) n.moved.moves j);
      settles = tt;
      says = tt;
      mounted = tt;
      readable = tt;
      unformatted = λ e. unreadable_second laws p l at apart a.bytes b.bytes k (n.unformatted e);
      worn = λ e. worn_second p l at a.bytes b.bytes k (n.worn e);
      ages = ages_apart g p are l at a.bytes b.bytes c.bytes done.ages k n.moved.ages j;
      pending = pending_both p a.bytes b.bytes c.bytes (pending_each g p 0 p.first a.bytes b.bytes are refl done.pending k) (pending_each g p 1 l b.bytes c.bytes are at n.moved.pending j);
    }

pub both_mounted : Laws → (g : Geometry) (p : Places) → ArePlaces g p → (l : Layout) → p.second ≡ Some l → (it one : Mounted) (a b c : FlashState) → Mounts p.first (Ok it) a b → Mounts l (Ok one) b c
    → StartsImages p (Ok (both_images it one)) a c
both_mounted laws g p are l at it one a b c m n =
    let f : (t : ℕ) → Settles p t a c = λ t. settles_both laws g p are l at t a b c m.done n.done in
    record {
      calls = (f 0).calls;
      reaches = settles_reach p a c f a.bytes c.bytes refl refl (f 0).does;
      settles = f;
      says = both_say_told laws it one p.first l m.layout_is (apart_of g p are 1 0 l p.first at refl one_zero) b.bytes c.bytes m.says n.done.calls.keeps n.says;
      mounted = (tt, tt);
      readable = both_readable laws p l at (apart_of g p are 0 1 p.first l refl at zero_one) a.bytes b.bytes m.readable m.done.calls.keeps n.readable;
      unformatted = tt;
      worn = tt;
      ages = (f 0).ages;
      pending = (f 0).pending;
    }

-- Both ways.

behind : Laws → (g : Geometry) (p : Places) → ArePlaces g p → (o : Option Layout) → p.second ≡ o → (it : Mounted) (r : Result Images UploadFault) (a b c : FlashState) → Mounts p.first (Ok it) a b → MountsBehind o it r b c → StartsImages p r a c
behind laws g p are None at it r a b c m f = subst (λ (q : Result Images UploadFault). StartsImages p q a c) (sym f.0) (subst (λ (x : FlashState). StartsImages p (Ok (alone_images it)) a x) (sym f.1) (alone_mounted laws g p are at it a b m))
behind laws g p are (Some l) at it (Ok images) a b c m f = subst (λ (x : Images). StartsImages p (Ok x) a c) (sym f.1.0) (both_mounted laws g p are l at it f.0 a b c m f.1.1)
behind laws g p are (Some l) at it (Err fault) a b c m f = subst (λ (x : UploadFault). StartsImages p (Err x) a c) (sym f.1.0) (second_lost laws g p are l at it f.0 a b c m f.1.1)

pub mounted_behind : Laws → (g : Geometry) (p : Places) → ArePlaces g p → (it : Mounted) (r : Result Images UploadFault) (a b c : FlashState) → Mounts p.first (Ok it) a b → MountsBehind p.second it r b c → StartsImages p r a c
mounted_behind laws g p are it r a b c m f = behind laws g p are p.second refl it r a b c m f

pub places_behind : (first : Layout) (o : Option Layout) (it : Mounted) (r : Result Images UploadFault) (b c : FlashState) → (known_mounted it).layout ≡ first → MountsBehind o it r b c → IfOk r (λ images. places_of images ≡ record { first = first; second = o })
places_behind first None it (Ok images) b c e f =
    let same : images ≡ alone_images it = cc f.0 in
    ap places_of same ∙ (λ i. record { first = e i; second = None })
places_behind first None it (Err fault) b c e f = tt
places_behind first (Some l) it (Ok images) b c e f = ap places_of f.1.0 ∙ (λ i. record { first = e i; second = Some (f.1.1.layout_is i) })
places_behind first (Some l) it (Err fault) b c e f = tt

pub target_behind : (o : Option Layout) (it : Mounted) (r : Result Images UploadFault) (b c : FlashState) → MountsBehind o it r b c → IfOk r (λ images. images.target ≡ 0)
target_behind None it (Ok images) b c f = let same : images ≡ alone_images it = cc f.0 in ap (λ (x : Images). x.target) same
target_behind None it (Err fault) b c f = tt
target_behind (Some l) it (Ok images) b c f = ap (λ (x : Images). x.target) f.1.0
target_behind (Some l) it (Err fault) b c f = tt
