-- The mounting of all images, and what comes after it.
use Rattle.std.proofs.Common.{◌≡◌, ℕ, zero, suc, ◌+◌, ◌≤◌, Option, Some, None, List, [], ◌∷◌, ◌++◌, Result, Ok, Err, refl, sym, ◌∙◌, ap, subst, arith}
use Rattle.std.specs.Prelude.{IfSome, OnOk, IfOk}
use Rattle.smp_flash.specs.Area.{Told, Keeps}
use Rattle.smp_flash.specs.Calls.{Calls}
use Rattle.smp_flash.specs.Layout.{progress_of}
use Rattle.smp_flash.specs.State.{FlashState}
use Rattle.smp_flash.specs.State.End.{Went}
use Rattle.smp_flash.specs.declared.geometry.Geometry.{Geometry}
use Rattle.smp_flash.specs.declared.layout.Layout.{Layout}
use Rattle.smp_flash.proofs.Passing.{Calls-after, Calls-wider}
use Rattle.smp_flash.proofs.Telling.{Told-map, Told-trans}
use Rattle.smp_gate.specs.Newest.{AgesAtMost}
use Rattle.smp_model.specs.declared.device.AbstractDevice.{AbstractDevice}
use Rattle.smp_model.specs.declared.device.Side.{Side}
use Rattle.smp_model.specs.declared.reply.Reply.{Reply}
use Rattle.smp_model.specs.Response.{Response, settling}
use Rattle.smp_model.specs.Said.{if_some}
use Rattle.smp_model.specs.Sides.{side_applied, side_settle_steps}
use Rattle.smp_model.specs.Steps.{Step, applied, on_side, side_at, with_side, settle, settle_of, settle_steps, settle_steps_of, Part}
use Rattle.smp_upload.specs.Faults.{upload_fault_end}
use Rattle.smp_upload.specs.Moves.{Moves, Does, Moved, Done, KeepsPending, mount_spots}
use Rattle.smp_upload.specs.declared.states.UploadFault.{UploadFault}
use Rattle.smp_upload.specs.declared.states.UploadFault.TheVariants as faults
use Rattle.smp_upload.proofs.Apartness.{ages_clear}
use Rattle.smp_upload.proofs.Composing.{shows_stands, ages_sum, ages_more, keeps_trans}
use Rattle.smp_side.specs.Held.{Caused, result_end}
use Rattle.smp_device.specs.Answers.{ImagesAnswer, ImagesReached, ImagesMove, ImagesDo, ImagesPay, ImagesTell, ImagesCaused, ResultCausedIn}
use Rattle.smp_device.specs.Laws.{Laws}
use Rattle.smp_device.specs.Mounts.{IsUnmountedAt}
use Rattle.smp_device.specs.Places.{Places, ArePlaces, place_at, spots_of, ImagesStand, AtEach, places_of, ImagesSay}
use Rattle.smp_device.specs.Settling.{Settle, Settles}
use Rattle.smp_device.specs.declared.images.Images.{Images}
use Rattle.smp_device.proofs.Asking.{no_side, told_alone, zero_one, one_zero}
use Rattle.smp_device.proofs.Falling.{fell_by, lost_behind, told_none, worn_before}
use Rattle.smp_device.proofs.Paying.{pays_both, pays_mount, pays_same}
use Rattle.smp_device.proofs.Lifting.{worn_more, caused_more, side_here, stands_with, steps_target, with_found, with_other, with_target, applied_append, told_two, caused_one}
use Rattle.smp_device.proofs.Parting.{apart_of, covers_at, ages_each, pending_each, some_is}

-- One image's mount.

abbrev steps_at : ℕ → Option Side → List Step
steps_at i o = if_some o (λ s. on_side i (side_settle_steps s))

pub does_at : Laws → (g : Geometry) (p : Places) → ArePlaces g p → (i : ℕ) (l : Layout) → place_at i p ≡ Some l → (t : ℕ) (old new : List ℕ) → Does l side_settle_steps old new → Keeps (mount_spots l) old new
    → (d : AbstractDevice) → ImagesStand p t d old → ImagesStand p t (settle_of i d) new
does_at laws g p are i l at t old new does keeps d stands =
    let h = side_here p t i l d old at stands in
    let x = side_settle_steps h.side in
    let e = applied (on_side i x) d in
    let here : ImagesStand p t e new = stands_with laws g p are i l at t t d e (side_applied x h.side) old new keeps stands (laws.found i x d h.side h.found) (λ j other. laws.others i j x d other)
    (steps_target laws i x d h.side h.found ∙ stands.target_is) (shows_stands l (side_applied x h.side) new (does.does h.side h.stands)) in
    subst (λ (o : Option Side). ImagesStand p t (applied (steps_at i o) d) new) (sym h.found) here

pub moves_at : Laws → (g : Geometry) (p : Places) → ArePlaces g p → (i : ℕ) (l : Layout) → place_at i p ≡ Some l → (t : ℕ) (old new : List ℕ) → Moves l side_settle_steps old new → Keeps (mount_spots l) old new
    → (d : AbstractDevice) → ImagesStand p t d old → ImagesReached p t d (settle_steps_of i d) new
moves_at laws g p are i l at t old new moves keeps d stands =
    let h = side_here p t i l d old at stands in
    let x = side_settle_steps h.side in
    let m = moves.moves h.side h.stands in
    let e = with_side i (λ _. m.reached) d in
    record {
      reached = e;
      part = subst (λ (o : Option Side). Part d (steps_at i o) e) (sym h.found) (laws.part i x d h.side m.reached h.found m.part);
      stands = stands_with laws g p are i l at t t d e m.reached old new keeps stands (with_found i (λ _. m.reached) d h.side h.found)
          (λ j other. with_other i j (λ _. m.reached) d other) (with_target i (λ _. m.reached) d ∙ stands.target_is) m.stands;
    }

-- Both.

pub second_steps : Laws → (d : AbstractDevice) → settle_steps_of 1 (settle_of 0 d) ≡ settle_steps_of 1 d
second_steps laws d = ap (steps_at 1) (laws.others 0 1 (side_settle_steps d.first) d zero_one)

settle_two : Laws → (d : AbstractDevice) → settle_of 1 (settle_of 0 d) ≡ settle d
settle_two laws d = ap (λ (s : List Step). applied s (settle_of 0 d)) (second_steps laws d) ∙ sym (applied_append (settle_steps_of 0 d) (settle_steps_of 1 d) d)

settle_alone : (d : AbstractDevice) → side_at 1 d ≡ None → settle_of 0 d ≡ settle d
settle_alone d none =
    ap (λ (o : Option Side). applied (steps_at 1 o) (settle_of 0 d)) (sym none) ∙ sym (applied_append (settle_steps_of 0 d) (settle_steps_of 1 d) d)

pub reached_more : Laws → (p : Places) (t : ℕ) (d : AbstractDevice) (s r : List Step) (bytes : List ℕ) → ImagesReached p t d s bytes → ImagesReached p t d (s ++ r) bytes
reached_more laws p t d s r bytes f = record { reached = f.reached; part = laws.front s r d f.reached f.part; stands = f.stands }

pub reached_behind : Laws → (p : Places) (t : ℕ) (d : AbstractDevice) (s r : List Step) (bytes : List ℕ) → ImagesReached p t (applied s d) r bytes → ImagesReached p t d (s ++ r) bytes
reached_behind laws p t d s r bytes f = record { reached = f.reached; part = laws.behind s r d f.reached f.part; stands = f.stands }

-- Ages, marks and causes of one call and then another.

pub ages_both : (m n : ℕ) (p : Places) (x y z : Option (List ℕ)) → AtEach (λ l. Told (AgesAtMost m (progress_of l)) x y) p → AtEach (λ l. Told (AgesAtMost n (progress_of l)) y z) p → AtEach (λ l. Told (AgesAtMost (m + n) (progress_of l)) x z) p
ages_both m n p x y z f h = λ i l at. Told-trans (AgesAtMost m (progress_of l)) (AgesAtMost n (progress_of l)) (AgesAtMost (m + n) (progress_of l)) x y z (ages_sum l m n) (f i l at) (h i l at)

pub ages_wider : (m n : ℕ) (p : Places) (x y : Option (List ℕ)) → m ≤ n → AtEach (λ l. Told (AgesAtMost m (progress_of l)) x y) p → AtEach (λ l. Told (AgesAtMost n (progress_of l)) x y) p
ages_wider m n p x y le f = λ i l at. Told-map (AgesAtMost m (progress_of l)) (AgesAtMost n (progress_of l)) x y (λ u v. ages_more l m n u v le) (f i l at)

pub pending_both : (p : Places) (x y z : Option (List ℕ)) → AtEach (λ l. Told (KeepsPending l) x y) p → AtEach (λ l. Told (KeepsPending l) y z) p → AtEach (λ l. Told (KeepsPending l) x z) p
pending_both p x y z f h = λ i l at. Told-trans (KeepsPending l) (KeepsPending l) (KeepsPending l) x y z (keeps_trans l) (f i l at) (h i l at)

caused_before : (p : Places) (m n : ℕ) (fault : UploadFault) (x y : Option (List ℕ)) → AtEach (λ l. Told (AgesAtMost m (progress_of l)) x y) p → ImagesCaused p n fault y → ImagesCaused p (m + n) fault x
caused_before p m n faults.Unformatted x y f c = told_none (AgesAtMost m (progress_of p.first)) x y (f 0 p.first refl) c
caused_before p m n faults.Worn x y f c = record { image = c.image; layout = c.layout; place = c.place; worn = worn_before c.layout m n x y (f c.image c.layout c.place) c.worn }
caused_before p m n (faults.Fault operation) x y f c = tt
caused_before p m n faults.Off x y f c = tt

pub result_before : (p : Places) (m n : ℕ) (r : Result Reply UploadFault) (x y : Option (List ℕ)) → AtEach (λ l. Told (AgesAtMost m (progress_of l)) x y) p → ResultCausedIn p n r y → ResultCausedIn p (m + n) r x
result_before p m n (Ok reply) x y f c = tt
result_before p m n (Err fault) x y f c = caused_before p m n fault x y f c

pub caused_wider : (p : Places) (m n : ℕ) (fault : UploadFault) (x : Option (List ℕ)) → m ≤ n → ImagesCaused p m fault x → ImagesCaused p n fault x
caused_wider p m n faults.Unformatted x le c = c
caused_wider p m n faults.Worn x le c = record { image = c.image; layout = c.layout; place = c.place; worn = worn_more c.layout m n x le c.worn }
caused_wider p m n (faults.Fault operation) x le c = tt
caused_wider p m n faults.Off x le c = tt

-- What comes after the mounting of all.

settled_moves : Laws → (p : Places) (t u : ℕ) (respond : AbstractDevice → Response) (old middle new : List ℕ) → Settle p t old middle → ImagesMove p t u respond middle new → ImagesMove p t u (λ d. settling d respond) old new
settled_moves laws p t u respond old middle new f h = λ d stands. reached_behind laws p u d (settle_steps d) (respond (settle d)).steps new (h (settle d) (f d stands))

settled_does : (p : Places) (t u : ℕ) (respond : AbstractDevice → Response) (old middle new : List ℕ) → Settle p t old middle → ImagesDo p t u respond middle new → ImagesDo p t u (λ d. settling d respond) old new
settled_does p t u respond old middle new f h = λ d stands.
    subst (λ (e : AbstractDevice). ImagesStand p u e new) (sym (applied_append (settle_steps d) (respond (settle d)).steps d)) (h (settle d) (f d stands))

settled_done : (p : Places) (t u : ℕ) (respond : AbstractDevice → Response) (r : Result Reply UploadFault) (x y z : Option (List ℕ)) → Told (Settle p t) x y → OnOk r (Told (ImagesDo p t u respond) y z) → OnOk r (Told (ImagesDo p t u (λ d. settling d respond)) x z)
settled_done p t u respond (Ok reply) x y z f h = Told-trans (Settle p t) (ImagesDo p t u respond) (ImagesDo p t u (λ d. settling d respond)) x y z (settled_does p t u respond) f h
settled_done p t u respond (Err fault) x y z f h = tt

settled_tells : (p : Places) (t : ℕ) (respond : AbstractDevice → Response) (reply : Reply) (x y : Option (List ℕ)) → Told (Settle p t) x y → ImagesTell p t respond y reply → ImagesTell p t (λ d. settling d respond) x reply
settled_tells p t respond reply None y f h = tt
settled_tells p t respond reply (Some u) None f h = absurd f
settled_tells p t respond reply (Some u) (Some v) f h = λ d stands. h (settle d) (f d stands)

settled_said : (p : Places) (t : ℕ) (respond : AbstractDevice → Response) (r : Result Reply UploadFault) (x y : Option (List ℕ)) → Told (Settle p t) x y → IfOk r (ImagesTell p t respond y) → IfOk r (ImagesTell p t (λ d. settling d respond) x)
settled_said p t respond (Ok reply) x y f h = settled_tells p t respond reply x y f h
settled_said p t respond (Err fault) x y f h = tt

settled_pays : (p : Places) (t : ℕ) (respond : AbstractDevice → Response) (r : Result Reply UploadFault) (a b c : FlashState) → Settles p t a b → Calls (spots_of p) (result_end r) b c
    → OnOk r (ImagesPay p t respond b c) → OnOk r (ImagesPay p t (λ d. settling d respond) a c)
settled_pays p t respond (Ok reply) a b c f calls h = pays_both p t settle_steps (λ d. (respond d).steps) a b c f.calls.passes calls.passes f.pays f.does h
settled_pays p t respond (Err fault) a b c f calls h = tt

pub after_settling : Laws → (p : Places) (n t : ℕ) (respond : AbstractDevice → Response) (images : Images) (r : Result Reply UploadFault) (a b c : FlashState) → n ≤ 3
    → Settles p t a b → ImagesAnswer p n t respond images r b c → ImagesAnswer p 5 t (λ d. settling d respond) images r a c
after_settling laws p n t respond images r a b c le f h = record {
  calls = Calls-after (spots_of p) (result_end r) a b c f.calls h.calls;
  moves = Told-trans (Settle p t) (ImagesMove p t images.target respond) (ImagesMove p t images.target (λ d. settling d respond)) a.bytes b.bytes c.bytes (settled_moves laws p t images.target respond) f.does h.moves;
  done = settled_done p t images.target respond r a.bytes b.bytes c.bytes f.does h.done;
  said = settled_said p t respond r a.bytes b.bytes f.does h.said;
  says = h.says;
  places_kept = h.places_kept;
  ages = ages_wider (2 + n) 5 p a.bytes c.bytes (omega arith) (ages_both 2 n p a.bytes b.bytes c.bytes f.ages h.ages);
  pending = pending_both p a.bytes b.bytes c.bytes f.pending h.pending;
  caused = widest r (result_before p 2 n r a.bytes b.bytes f.ages h.caused);
  pays = settled_pays p t respond r a b c f h.calls h.pays;
  lost = lost_behind p 2 n 5 images r a b c (omega arith) f.calls.passes f.ages h.lost;
}
  where
    widest : (q : Result Reply UploadFault) → ResultCausedIn p (2 + n) q a.bytes → ResultCausedIn p 5 q a.bytes
    widest (Ok reply) k = tt
    widest (Err fault) k = caused_wider p (2 + n) 5 fault a.bytes (omega arith) k

-- Image 0 alone, and both.

pub append_none : (s : List Step) → s ++ [] ≡ s
append_none [] = refl
append_none (x ∷ s) = ap (λ (r : List Step). x ∷ r) (append_none s)

-- a device of one image settles it alone
alone_steps : (d : AbstractDevice) → side_at 1 d ≡ None → settle_steps_of 0 d ≡ settle_steps d
alone_steps d none = sym (ap (λ (o : Option Side). settle_steps_of 0 d ++ steps_at 1 o) none ∙ append_none (settle_steps_of 0 d))

some_alone : (p : Places) (t : ℕ) → p.second ≡ None → (x : Option (List ℕ)) → IfSome x (λ u. (d : AbstractDevice) → ImagesStand p t d u → settle_steps_of 0 d ≡ settle_steps d)
some_alone p t none None = tt
some_alone p t none (Some u) = λ d stands. alone_steps d (no_side 1 p d u p.second (side_at 1 d) none (stands.sides 1))

pub settles_alone : Laws → (g : Geometry) (p : Places) → ArePlaces g p → (t : ℕ) (a b : FlashState) → p.second ≡ None → Done p.first (mount_spots p.first) 2 side_settle_steps a b → Settles p t a b
settles_alone laws g p are t a b none done = record {
  calls = Calls-wider (spots_of p) (mount_spots p.first) Went a b (covers_at p 0 p.first refl) done.calls;
  does = told_two (Does p.first side_settle_steps) (Keeps (mount_spots p.first)) (Settle p t) a.bytes b.bytes
      (λ u v f k d stands. subst (λ (e : AbstractDevice). ImagesStand p t e v) (settle_alone d (no_side 1 p d u p.second (side_at 1 d) none (stands.sides 1))) (does_at laws g p are 0 p.first refl t u v f k d stands)) done.does done.calls.keeps;
  ages = ages_each g p 0 p.first 2 a.bytes b.bytes are refl done.ages done.calls.keeps;
  pending = pending_each g p 0 p.first a.bytes b.bytes are refl done.pending done.calls.keeps;
  pays = pays_same p t (settle_steps_of 0) settle_steps a b (some_alone p t none a.bytes) (pays_mount g p are 0 p.first refl t a b done);
}

-- an image that a mount keeps clear of does not age
ages_still : (g : Geometry) (p : Places) → ArePlaces g p → (i j : ℕ) (l m : Layout) → place_at i p ≡ Some l → place_at j p ≡ Some m → (i ≡ j → ⊥) → (x y : Option (List ℕ)) → Told (Keeps (mount_spots l)) x y → Told (AgesAtMost 0 (progress_of m)) x y
ages_still g p are i j l m a b ne x y k =
    let apart = apart_of g p are i j l m a b ne in
    Told-map (Keeps (mount_spots l)) (AgesAtMost 0 (progress_of m)) x y (λ u v kept. ages_clear m 0 (mount_spots l) u v apart.first apart.second kept) k

-- so that each image ages by its own mount alone
pub ages_apart : (g : Geometry) (p : Places) → ArePlaces g p → (l : Layout) → p.second ≡ Some l → (x y z : Option (List ℕ)) → Told (AgesAtMost 2 (progress_of p.first)) x y → Told (Keeps (mount_spots p.first)) x y
    → Told (AgesAtMost 2 (progress_of l)) y z → Told (Keeps (mount_spots l)) y z → AtEach (λ m. Told (AgesAtMost 2 (progress_of m)) x z) p
ages_apart g p are l at x y z f fk h hk = go
  where
    go : (i : ℕ) (m : Layout) → place_at i p ≡ Some m → Told (AgesAtMost 2 (progress_of m)) x z
    go zero m there = subst (λ (k : Layout). Told (AgesAtMost 2 (progress_of k)) x z) (some_is p.first m there)
        (Told-trans (AgesAtMost 2 (progress_of p.first)) (AgesAtMost 0 (progress_of p.first)) (AgesAtMost 2 (progress_of p.first)) x y z (ages_sum p.first 2 0) f
        (ages_still g p are 1 0 l p.first at refl one_zero y z hk))
    go (suc zero) m there = subst (λ (k : Layout). Told (AgesAtMost 2 (progress_of k)) x z) (some_is l m (sym at ∙ there))
        (Told-trans (AgesAtMost 0 (progress_of l)) (AgesAtMost 2 (progress_of l)) (AgesAtMost 2 (progress_of l)) x y z (ages_sum l 0 2)
        (ages_still g p are 0 1 p.first l refl at zero_one x y fk) h)
    go (suc (suc i)) m there = absurd (cc there)

abbrev OneDoes : Places → (t i : ℕ) → List ℕ → List ℕ → Type 0
OneDoes p t i old new = (d : AbstractDevice) → ImagesStand p t d old → ImagesStand p t (settle_of i d) new

abbrev OneMoves : Places → (t i : ℕ) → List ℕ → List ℕ → Type 0
OneMoves p t i old new = (d : AbstractDevice) → ImagesStand p t d old → ImagesReached p t d (settle_steps_of i d) new

pub settles_both : Laws → (g : Geometry) (p : Places) → ArePlaces g p → (l : Layout) → p.second ≡ Some l → (t : ℕ) (a b c : FlashState)
    → Done p.first (mount_spots p.first) 2 side_settle_steps a b → Done l (mount_spots l) 2 side_settle_steps b c → Settles p t a c
settles_both laws g p are l at t a b c first second = record {
  calls = Calls-after (spots_of p) Went a b c (Calls-wider (spots_of p) (mount_spots p.first) Went a b (covers_at p 0 p.first refl) first.calls) (Calls-wider (spots_of p) (mount_spots l) Went b c (covers_at p 1 l at) second.calls);
  does = Told-trans (OneDoes p t 0) (OneDoes p t 1) (Settle p t) a.bytes b.bytes c.bytes
      (λ u v w f h d stands. subst (λ (e : AbstractDevice). ImagesStand p t e w) (settle_two laws d) (h (settle_of 0 d) (f d stands)))
      (told_two (Does p.first side_settle_steps) (Keeps (mount_spots p.first)) (OneDoes p t 0) a.bytes b.bytes (λ u v. does_at laws g p are 0 p.first refl t u v) first.does first.calls.keeps)
      (told_two (Does l side_settle_steps) (Keeps (mount_spots l)) (OneDoes p t 1) b.bytes c.bytes (λ u v. does_at laws g p are 1 l at t u v) second.does second.calls.keeps);
  ages = ages_apart g p are l at a.bytes b.bytes c.bytes first.ages first.calls.keeps second.ages second.calls.keeps;
  pending = pending_both p a.bytes b.bytes c.bytes (pending_each g p 0 p.first a.bytes b.bytes are refl first.pending first.calls.keeps) (pending_each g p 1 l b.bytes c.bytes are at second.pending second.calls.keeps);
  pays = pays_same p t (λ d. settle_steps_of 0 d ++ settle_steps_of 1 (settle_of 0 d)) settle_steps a c (told_alone (λ u. (d : AbstractDevice) → ImagesStand p t d u → settle_steps_of 0 d ++ settle_steps_of 1 (settle_of 0 d) ≡ settle_steps d) a.bytes
      (λ u d stands. ap (λ (s : List Step). settle_steps_of 0 d ++ s) (second_steps laws d)))
      (pays_both p t (settle_steps_of 0) (settle_steps_of 1) a b c first.calls.passes second.calls.passes (pays_mount g p are 0 p.first refl t a b first)
      (told_two (Does p.first side_settle_steps) (Keeps (mount_spots p.first)) (OneDoes p t 0) a.bytes b.bytes (λ u v. does_at laws g p are 0 p.first refl t u v) first.does first.calls.keeps)
      (pays_mount g p are 1 l at t b c second));
}

-- A mount that was lost: of image 0, and of image 1 behind it.

first_moves : Laws → (p : Places) (t : ℕ) (respond : AbstractDevice → Response) (old new : List ℕ) → OneMoves p t 0 old new → ImagesMove p t t (λ d. settling d respond) old new
first_moves laws p t respond old new f = λ d stands.
    reached_more laws p t d (settle_steps d) (respond (settle d)).steps new (reached_more laws p t d (settle_steps_of 0 d) (settle_steps_of 1 d) new (f d stands))

second_moves : Laws → (p : Places) (t : ℕ) (respond : AbstractDevice → Response) (old middle new : List ℕ) → OneDoes p t 0 old middle → OneMoves p t 1 middle new → ImagesMove p t t (λ d. settling d respond) old new
second_moves laws p t respond old middle new f h = λ d stands.
    let r = h (settle_of 0 d) (f d stands) in
    let here : ImagesReached p t (settle_of 0 d) (settle_steps_of 1 d) new = subst (λ (s : List Step). ImagesReached p t (settle_of 0 d) s new) (second_steps laws d) r in
    reached_more laws p t d (settle_steps d) (respond (settle d)).steps new (reached_behind laws p t d (settle_steps_of 0 d) (settle_steps_of 1 d) new here)

pub lost_first : Laws → (g : Geometry) (images : Images) (p : Places) → ArePlaces g p → (respond : AbstractDevice → Response) (fault : UploadFault) (r : Result Reply UploadFault) (t : ℕ) (a b : FlashState) → images.target ≡ t → r ≡ Err fault → places_of images ≡ p → IsUnmountedAt 0 images
    → Moved p.first (mount_spots p.first) 2 side_settle_steps (upload_fault_end fault) a b → Caused p.first 2 fault a.bytes → IfSome b.bytes (ImagesSay images) → ImagesAnswer p 5 t (λ d. settling d respond) images r a b
lost_first laws g images p are respond fault r t a b target is places un m c says =
    let u = images.target in
    let k = m.calls.keeps in
    let moved : Told (ImagesMove p t t (λ d. settling d respond)) a.bytes b.bytes =
    told_two (Moves p.first side_settle_steps) (Keeps (mount_spots p.first)) (ImagesMove p t t (λ d. settling d respond)) a.bytes b.bytes
    (λ u v f kept. first_moves laws p t respond u v (moves_at laws g p are 0 p.first refl t u v f kept)) m.moves k in
    let here : ImagesAnswer p 5 t (λ d. settling d respond) images (Err fault) a b = record {
      calls = Calls-wider (spots_of p) (mount_spots p.first) (upload_fault_end fault) a b (covers_at p 0 p.first refl) m.calls;
      moves = subst (λ (n : ℕ). Told (ImagesMove p t n (λ d. settling d respond)) a.bytes b.bytes) (sym target) moved;
      done = tt;
      said = tt;
      says = says;
      places_kept = places;
      ages = ages_wider 2 5 p a.bytes b.bytes (omega arith) (ages_each g p 0 p.first 2 a.bytes b.bytes are refl m.ages k);
      pending = pending_each g p 0 p.first a.bytes b.bytes are refl m.pending k;
      caused = caused_wider p 2 5 fault a.bytes (omega arith) (caused_one p 0 p.first 2 fault a.bytes refl c);
      pays = tt;
      lost = record { image = 0; unmounted = un; fell = fell_by p 5 0 p.first (Err fault) a b refl m.calls (caused_more p.first 2 5 fault a.bytes (omega arith) c) };
    } in
    subst (λ (q : Result Reply UploadFault). ImagesAnswer p 5 t (λ d. settling d respond) images q a b) (sym is) here

pub lost_second : Laws → (g : Geometry) (images : Images) (p : Places) → ArePlaces g p → (l : Layout) → p.second ≡ Some l → (respond : AbstractDevice → Response) (fault : UploadFault) (r : Result Reply UploadFault) (t : ℕ) (a b c : FlashState)
    → images.target ≡ t → r ≡ Err fault → places_of images ≡ p → IsUnmountedAt 1 images → Done p.first (mount_spots p.first) 2 side_settle_steps a b
    → Moved l (mount_spots l) 2 side_settle_steps (upload_fault_end fault) b c → Caused l 2 fault b.bytes → IfSome c.bytes (ImagesSay images) → ImagesAnswer p 5 t (λ d. settling d respond) images r a c
lost_second laws g images p are l at respond fault r t a b c target is places un first m cause says =
    let k = m.calls.keeps in
    let ages_b = ages_each g p 0 p.first 2 a.bytes b.bytes are refl first.ages first.calls.keeps in
    let moved : Told (ImagesMove p t t (λ d. settling d respond)) a.bytes c.bytes =
    Told-trans (OneDoes p t 0) (OneMoves p t 1) (ImagesMove p t t (λ d. settling d respond)) a.bytes b.bytes c.bytes (second_moves laws p t respond)
    (told_two (Does p.first side_settle_steps) (Keeps (mount_spots p.first)) (OneDoes p t 0) a.bytes b.bytes (λ u v. does_at laws g p are 0 p.first refl t u v) first.does first.calls.keeps)
    (told_two (Moves l side_settle_steps) (Keeps (mount_spots l)) (OneMoves p t 1) b.bytes c.bytes (λ u v. moves_at laws g p are 1 l at t u v) m.moves k) in
    let here : ImagesAnswer p 5 t (λ d. settling d respond) images (Err fault) a c = record {
      calls = Calls-after (spots_of p) (upload_fault_end fault) a b c (Calls-wider (spots_of p) (mount_spots p.first) Went a b (covers_at p 0 p.first refl) first.calls) (Calls-wider (spots_of p) (mount_spots l) (upload_fault_end fault) b c (covers_at p 1 l at) m.calls);
      moves = subst (λ (n : ℕ). Told (ImagesMove p t n (λ d. settling d respond)) a.bytes c.bytes) (sym target) moved;
      done = tt;
      said = tt;
      says = says;
      places_kept = places;
      ages = ages_wider 2 5 p a.bytes c.bytes (omega arith) (ages_apart g p are l at a.bytes b.bytes c.bytes first.ages first.calls.keeps m.ages k);
      pending = pending_both p a.bytes b.bytes c.bytes (pending_each g p 0 p.first a.bytes b.bytes are refl first.pending first.calls.keeps) (pending_each g p 1 l b.bytes c.bytes are at m.pending k);
      caused = caused_wider p 4 5 fault a.bytes (omega arith) (caused_before p 2 2 fault a.bytes b.bytes ages_b (caused_one p 1 l 2 fault b.bytes at cause));
      pays = tt;
      lost = lost_behind p 2 2 5 images (Err fault) a b c (omega arith) first.calls.passes ages_b (record { image = 1; unmounted = un; fell = fell_by p 2 1 l (Err fault) b c at m.calls cause });
    } in
    subst (λ (q : Result Reply UploadFault). ImagesAnswer p 5 t (λ d. settling d respond) images q a c) (sym is) here
