-- An act on the side of an image, and the list after it.
use Rattle.std.proofs.Common.{◌≡◌, ℕ, true, false, Option, Some, None, List, [], Result, Ok, Err, refl, sym, ◌∙◌, ap, subst, arith, Bool, not}
use Rattle.std.specs.Prelude.{IfSome, OnOk, IfOk, option_map}
use Rattle.smp_flash.specs.Area.{Told, Keeps}
use Rattle.smp_flash.specs.Calls.{Calls}
use Rattle.smp_flash.specs.Layout.{image_of}
use Rattle.smp_flash.specs.State.{FlashState}
use Rattle.smp_flash.specs.State.End.{Went}
use Rattle.smp_flash.specs.declared.geometry.Geometry.{Geometry}
use Rattle.smp_flash.specs.declared.layout.Layout.{Layout}
use Rattle.smp_flash.specs.declared.region.Region.{Region}
use Rattle.smp_flash.proofs.Passing.{Calls-after, Calls-wider}
use Rattle.smp_model.specs.declared.device.AbstractDevice.{AbstractDevice}
use Rattle.smp_model.specs.declared.device.Side.{Side}
use Rattle.smp_model.specs.declared.reply.Reply.{Reply}
use Rattle.smp_model.specs.ImageGroup.{images_of, lists_after, lists_with}
use Rattle.smp_model.specs.Response.{Response, SideResponse, responds}
use Rattle.smp_model.specs.Said.{Said, said_of, if_some}
use Rattle.smp_model.specs.Sides.{SideStep, side_applied}
use Rattle.smp_model.specs.Steps.{Step, applied, on_side, side_at, with_side, Part}
use Rattle.smp_upload.specs.Counting.{CountsSteps}
use Rattle.smp_upload.specs.Moves.{Moves, Does, Done, mount_spots}
use Rattle.smp_upload.specs.Bytes.{Apart, SideStands}
use Rattle.smp_upload.specs.declared.states.UploadFault.{UploadFault}
use Rattle.smp_upload.proofs.Composing.{shows_stands}
use Rattle.smp_side.specs.Held.{Answers, held_layout, HeldSays, ResultCaused, Tells, response_of, result_end, steps_by, is_mounted, is_ok}
use Rattle.smp_side.specs.declared.held.Handed.{Handed}
use Rattle.smp_device.specs.Answers.{ImagesAnswer, ImagesReached, ImagesMove, ImagesDo, ImagesPay, ImagesTell, ResultCausedIn}
use Rattle.smp_device.specs.Goings.{AreCounted}
use Rattle.smp_device.specs.Laws.{Laws}
use Rattle.smp_device.specs.Mounts.{MountsSettled, held_at}
use Rattle.smp_device.specs.Places.{Places, ArePlaces, place_at, spots_of, ImagesStand, places_of, ImagesSay}
use Rattle.smp_device.specs.Setting.{act_steps, acts_of, acts_on, is_done, is_empty}
use Rattle.smp_device.specs.declared.images.Images.{Images}
use Rattle.smp_device.specs.declared.images.Replied.{Replied}
use Rattle.smp_device.specs.Settling.{SettledSay, both_places, both_settled, settled_places}
use Rattle.smp_device.specs.declared.settled.Settled.{Settled}
use Rattle.smp_device.specs.declared.sets.Act.{Act}
use Rattle.smp_upload.specs.States.{known_mounted, Says}
use Rattle.smp_upload.specs.declared.states.Mounted.{Mounted}
use Rattle.smp_side.specs.declared.held.Held.{Held}
use Rattle.smp_side.specs.declared.held.Held.TheVariants as helds
use Rattle.smp_device.proofs.Lifting.{side_here, stands_with, steps_target, with_found, with_other, with_target, told_two, caused_one}
use Rattle.smp_device.proofs.Asking.{one_zero, zero_one}
use Rattle.smp_device.proofs.Falling.{fell_by, lost_at, lost_behind}
use Rattle.smp_device.proofs.Paying.{counts_side, image_is, pays_before, pays_side, ok_map}
use Rattle.smp_device.proofs.Parting.{apart_of, covers_at, ages_each, pending_each}
use Rattle.smp_device.proofs.Settlements.{ages_both, append_none, pending_both, result_before, reached_behind}
use Rattle.smp_device.proofs.Listings.{both_some}

-- The response to an act, of a side and of the device.

abbrev pub acting : Act → Side → SideResponse
acting act side = response_of (act_steps act side)

abbrev steps_here : Act → (i : ℕ) → Option Side → List Step
steps_here act i o = if_some o (λ s. on_side i (acting act s).steps)

-- its steps are those of the side
steps_are : (i : ℕ) (r : Result (List SideStep) ℕ) (d : AbstractDevice) → (lists_with i r d).steps ≡ on_side i (response_of r).steps
steps_are i (Ok steps) d = refl
steps_are i (Err number) d = refl

act_moves : Laws → (g : Geometry) (p : Places) → ArePlaces g p → (i : ℕ) (l : Layout) → place_at i p ≡ Some l → (t : ℕ) (act : Act) (old new : List ℕ) → Moves l (steps_by (acting act)) old new → Keeps (mount_spots l) old new
    → ImagesMove p t t (acts_on act i) old new
act_moves laws g p are i l at t act old new moves keeps = λ d stands.
    let h = side_here p t i l d old at stands in
    let m = moves.moves h.side h.stands in
    let x = (acting act h.side).steps in
    let e = with_side i (λ _. m.reached) d in
    let part : Part d (lists_with i (act_steps act h.side) d).steps e = subst (λ (s : List Step). Part d s e) (sym (steps_are i (act_steps act h.side) d)) (laws.part i x d h.side m.reached h.found m.part) in
    record {
      reached = e;
      part = subst (λ (o : Option Side). Part d (acts_of act i o d).steps e) (sym h.found) part;
      stands = stands_with laws g p are i l at t t d e m.reached old new keeps stands (with_found i (λ _. m.reached) d h.side h.found)
          (λ j other. with_other i j (λ _. m.reached) d other) (with_target i (λ _. m.reached) d ∙ stands.target_is) m.stands;
    }

act_does : Laws → (g : Geometry) (p : Places) → ArePlaces g p → (i : ℕ) (l : Layout) → place_at i p ≡ Some l → (t : ℕ) (act : Act) (old new : List ℕ) → Does l (steps_by (acting act)) old new → Keeps (mount_spots l) old new
    → ImagesDo p t t (acts_on act i) old new
act_does laws g p are i l at t act old new does keeps = λ d stands.
    let h = side_here p t i l d old at stands in
    let x = (acting act h.side).steps in
    let e = applied (on_side i x) d in
    let here : ImagesStand p t e new = stands_with laws g p are i l at t t d e (side_applied x h.side) old new keeps stands (laws.found i x d h.side h.found) (λ j other. laws.others i j x d other)
    (steps_target laws i x d h.side h.found ∙ stands.target_is) (shows_stands l (side_applied x h.side) new (does.does h.side h.stands)) in
    let there : ImagesStand p t (applied (lists_with i (act_steps act h.side) d).steps d) new = subst (λ (s : List Step). ImagesStand p t (applied s d) new) (sym (steps_are i (act_steps act h.side) d)) here in
    subst (λ (o : Option Side). ImagesStand p t (applied (acts_of act i o d).steps d) new) (sym h.found) there

-- The reply of the act, and what it says of the response.

refusal_said : (i : ℕ) (r : Result (List SideStep) ℕ) (d : AbstractDevice) (s : Said) → s ≡ (response_of r).reply → is_empty s ≡ false → s ≡ (lists_with i r d).reply
refusal_said i (Ok steps) d s e f = absurd (cc (sym (ap is_empty e) ∙ f))
refusal_said i (Err number) d s e f = e

done_said : (i : ℕ) (r : Result (List SideStep) ℕ) (d : AbstractDevice) (s : Said) → s ≡ (response_of r).reply → is_empty s ≡ true → (lists_with i r d) ≡ lists_after (on_side i (response_of r).steps) d
done_said i (Ok steps) d s e f = refl
done_said i (Err number) d s e f = absurd (cc (sym (ap is_empty e) ∙ f))

refusal_told : (p : Places) (t i : ℕ) (l : Layout) (act : Act) (reply : Reply) (x : Option (List ℕ)) → place_at i p ≡ Some l → is_empty (said_of reply) ≡ false → Tells l (acting act) x reply → ImagesTell p t (acts_on act i) x reply
refusal_told p t i l act reply None at e f = tt
refusal_told p t i l act reply (Some u) at e f = λ d stands.
    let h = side_here p t i l d u at stands in
    refusal_said i (act_steps act h.side) d (said_of reply) (f h.side h.stands) e ∙ ap (λ (o : Option Side). (acts_of act i o d).reply) (sym h.found)

result_caused : (p : Places) (i : ℕ) (l : Layout) (n : ℕ) (r : Result Reply UploadFault) (x : Option (List ℕ)) → place_at i p ≡ Some l → ResultCaused l n r x → ResultCausedIn p n r x
result_caused p i l n (Ok reply) x at c = tt
result_caused p i l n (Err fault) x at c = caused_one p i l n fault x at c

act_counts : (act : Act) (i : ℕ) (l : Layout) → image_of l ≡ i → (r : Region) (d : AbstractDevice) (side : Side) → side_at i d ≡ Some side → AreCounted r d (acts_on act i d).steps → CountsSteps l (Some r) side (steps_by (acting act) side)
act_counts act i l is r d side found c =
    let here : AreCounted r d (lists_with i (act_steps act side) d).steps = subst (λ (o : Option Side). AreCounted r d (acts_of act i o d).steps) found c in
    counts_side l i r (acting act side).steps d side is found (subst (λ (s : List Step). AreCounted r d s) (steps_are i (act_steps act side) d) here)

pays_act : (g : Geometry) (p : Places) → ArePlaces g p → (i : ℕ) (l : Layout) → place_at i p ≡ Some l → (t : ℕ) (act : Act) (a b : FlashState) → Done l (mount_spots l) 0 (steps_by (acting act)) a b → ImagesPay p t (acts_on act i) a b
pays_act g p are i l at t act a b done = pays_side p t i l (λ d. (acts_on act i d).steps) (steps_by (acting act)) a b at (act_counts act i l (image_is g p i l are at)) done.pays

-- The act was refused, or broken off.

stopped_said : (p : Places) (t i : ℕ) (l : Layout) (act : Act) (r : Result Reply UploadFault) (x : Option (List ℕ)) → place_at i p ≡ Some l → is_done r ≡ false → IfOk r (Tells l (acting act) x) → IfOk r (ImagesTell p t (acts_on act i) x)
stopped_said p t i l act (Ok reply) x at e f = refusal_told p t i l act reply x at e f
stopped_said p t i l act (Err fault) x at e f = tt

pub act_stopped : Laws → (g : Geometry) (p : Places) → ArePlaces g p → (i : ℕ) (l : Layout) → place_at i p ≡ Some l → (t : ℕ) (act : Act) (handed : Handed) (a b : FlashState) → is_done handed.result ≡ false → Answers l 0 (acting act) handed a b
    → (images : Images) → held_at i images ≡ Some handed.held → places_of images ≡ p → images.target ≡ t → IfSome b.bytes (ImagesSay images) → ImagesAnswer p 0 t (acts_on act i) images handed.result a b
act_stopped laws g p are i l at t act handed a b stop f images held places target says =
    let keeps = f.moved.calls.keeps in
    let r = handed.result in
    let done = Done l (mount_spots l) 0 (steps_by (acting act)) a b in
    record {
      calls = Calls-wider (spots_of p) (mount_spots l) (result_end r) a b (covers_at p i l at) f.moved.calls;
      moves = subst (λ (u : ℕ). Told (ImagesMove p t u (acts_on act i)) a.bytes b.bytes) (sym target)
          (told_two (Moves l (steps_by (acting act))) (Keeps (mount_spots l)) (ImagesMove p t t (acts_on act i)) a.bytes b.bytes (λ u v. act_moves laws g p are i l at t act u v) f.moved.moves keeps);
      done = subst (λ (u : ℕ). OnOk r (Told (ImagesDo p t u (acts_on act i)) a.bytes b.bytes)) (sym target)
          (ok_map done (Told (ImagesDo p t t (acts_on act i)) a.bytes b.bytes) r
          (λ k. told_two (Does l (steps_by (acting act))) (Keeps (mount_spots l)) (ImagesDo p t t (acts_on act i)) a.bytes b.bytes (λ u v. act_does laws g p are i l at t act u v) k.does keeps) f.done);
      said = stopped_said p t i l act r a.bytes at stop f.said;
      says = says;
      places_kept = places;
      ages = ages_each g p i l 0 a.bytes b.bytes are at f.moved.ages keeps;
      pending = pending_each g p i l a.bytes b.bytes are at f.moved.pending keeps;
      caused = result_caused p i l 0 r a.bytes at f.caused;
      pays = ok_map done (ImagesPay p t (acts_on act i) a b) r (pays_act g p are i l at t act a b) f.done;
      lost = lost_at p 0 i images handed.held r a b held f.mounted (fell_by p 0 i l r a b at f.moved.calls f.caused);
    }

-- It was done, and the list was read.

-- what the list answers behind the steps of the act is what the act answers
listed : (act : Act) (i : ℕ) (d : AbstractDevice) (side : Side) (s : Said) → side_at i d ≡ Some side → s ≡ (acting act side).reply → is_empty s ≡ true
    → acts_on act i d ≡ responds (images_of (applied (on_side i (acting act side).steps) d)) (on_side i (acting act side).steps)
listed act i d side s found e f = ap (λ (o : Option Side). acts_of act i o d) found ∙ done_said i (act_steps act side) d s e f

list_moves : Laws → (g : Geometry) (p : Places) → ArePlaces g p → (i : ℕ) (l : Layout) → place_at i p ≡ Some l → (t u : ℕ) (act : Act) (reply : Reply) (old middle new : List ℕ) → is_empty (said_of reply) ≡ true
    → ((side : Side) → SideStands l side old → said_of reply ≡ (acting act side).reply)
    → Does l (steps_by (acting act)) old middle → Keeps (mount_spots l) old middle → ImagesMove p t u (lists_after []) middle new → ImagesMove p t u (acts_on act i) old new
list_moves laws g p are i l at t u act reply old middle new e told does keeps list = λ d stands.
    let h = side_here p t i l d old at stands in
    let x = on_side i (acting act h.side).steps in
    let is = listed act i d h.side (said_of reply) h.found (told h.side h.stands) e in
    let mid : ImagesStand p t (applied x d) middle = subst (λ (r : Response). ImagesStand p t (applied r.steps d) middle) is (act_does laws g p are i l at t act old middle does keeps d stands) in
    let r = list (applied x d) mid in
    let behind = reached_behind laws p u d x [] new r in
    subst (λ (s : Response). ImagesReached p u d s.steps new) (sym is) (subst (λ (s : List Step). ImagesReached p u d s new) (append_none x) behind)

list_does : Laws → (g : Geometry) (p : Places) → ArePlaces g p → (i : ℕ) (l : Layout) → place_at i p ≡ Some l → (t u : ℕ) (act : Act) (reply : Reply) (old middle new : List ℕ) → is_empty (said_of reply) ≡ true
    → ((side : Side) → SideStands l side old → said_of reply ≡ (acting act side).reply)
    → Does l (steps_by (acting act)) old middle → Keeps (mount_spots l) old middle → ImagesDo p t u (lists_after []) middle new → ImagesDo p t u (acts_on act i) old new
list_does laws g p are i l at t u act reply old middle new e told does keeps list = λ d stands.
    let h = side_here p t i l d old at stands in
    let x = on_side i (acting act h.side).steps in
    let is = listed act i d h.side (said_of reply) h.found (told h.side h.stands) e in
    let mid : ImagesStand p t (applied x d) middle = subst (λ (r : Response). ImagesStand p t (applied r.steps d) middle) is (act_does laws g p are i l at t act old middle does keeps d stands) in
    subst (λ (s : Response). ImagesStand p u (applied s.steps d) new) (sym is) (list (applied x d) mid)

list_tells : Laws → (g : Geometry) (p : Places) → ArePlaces g p → (i : ℕ) (l : Layout) → place_at i p ≡ Some l → (t : ℕ) (act : Act) (reply next : Reply) (x y : Option (List ℕ)) → is_empty (said_of reply) ≡ true
    → Tells l (acting act) x reply → Told (Does l (steps_by (acting act))) x y → Told (Keeps (mount_spots l)) x y → ImagesTell p t (lists_after []) y next → ImagesTell p t (acts_on act i) x next
list_tells laws g p are i l at t act reply next None y e told does keeps list = tt
list_tells laws g p are i l at t act reply next (Some u) None e told does keeps list = absurd does
list_tells laws g p are i l at t act reply next (Some u) (Some v) e told does keeps list = λ d stands.
    let h = side_here p t i l d u at stands in
    let x = on_side i (acting act h.side).steps in
    let is = listed act i d h.side (said_of reply) h.found (told h.side h.stands) e in
    let mid : ImagesStand p t (applied x d) v = subst (λ (r : Response). ImagesStand p t (applied r.steps d) v) is (act_does laws g p are i l at t act u v does keeps d stands) in
    list (applied x d) mid ∙ ap (λ (r : Response). r.reply) (sym is)

list_said : Laws → (g : Geometry) (p : Places) → ArePlaces g p → (i : ℕ) (l : Layout) → place_at i p ≡ Some l → (t : ℕ) (act : Act) (reply : Reply) (r : Result Reply UploadFault) (x y : Option (List ℕ)) → is_empty (said_of reply) ≡ true
    → Tells l (acting act) x reply → Told (Does l (steps_by (acting act))) x y → Told (Keeps (mount_spots l)) x y → IfOk r (ImagesTell p t (lists_after []) y) → IfOk r (ImagesTell p t (acts_on act i) x)
list_said laws g p are i l at t act reply (Ok next) x y e told does keeps list = list_tells laws g p are i l at t act reply next x y e told does keeps list
list_said laws g p are i l at t act reply (Err fault) x y e told does keeps list = tt

-- as far as the bytes are told
told_five : (R K S T : List ℕ → List ℕ → Type 0) (P : List ℕ → Type 0) (x y z : Option (List ℕ)) → ((u v w : List ℕ) → P u → R u v → K u v → S v w → T u w) → IfSome x P → Told R x y → Told K x y → Told S y z → Told T x z
told_five R K S T P None None None f p a b c = tt
told_five R K S T P None None (Some w) f p a b c = absurd c
told_five R K S T P None (Some v) z f p a b c = absurd a
told_five R K S T P (Some u) None z f p a b c = absurd a
told_five R K S T P (Some u) (Some v) None f p a b c = absurd c
told_five R K S T P (Some u) (Some v) (Some w) f p a b c = f u v w p a b c

list_done : Laws → (g : Geometry) (p : Places) → ArePlaces g p → (i : ℕ) (l : Layout) → place_at i p ≡ Some l → (t u : ℕ) (act : Act) (reply : Reply) (r : Result Reply UploadFault) (x y z : Option (List ℕ)) → is_empty (said_of reply) ≡ true
    → Tells l (acting act) x reply → Told (Does l (steps_by (acting act))) x y → Told (Keeps (mount_spots l)) x y → OnOk r (Told (ImagesDo p t u (lists_after [])) y z) → OnOk r (Told (ImagesDo p t u (acts_on act i)) x z)
list_done laws g p are i l at t u act reply (Ok next) x y z e told does keeps list =
    told_five (Does l (steps_by (acting act))) (Keeps (mount_spots l)) (ImagesDo p t u (lists_after [])) (ImagesDo p t u (acts_on act i)) (λ o. (side : Side) → SideStands l side o → said_of reply ≡ (acting act side).reply) x y z
    (λ o m n tells d k list2. list_does laws g p are i l at t u act reply o m n e tells d k list2) told does keeps list
list_done laws g p are i l at t u act reply (Err fault) x y z e told does keeps list = tt

acted_pays : (p : Places) (t : ℕ) (act : Act) (i : ℕ) (r : Result Reply UploadFault) (a b c : FlashState) → ImagesPay p t (acts_on act i) a b → Calls (spots_of p) (result_end r) b c → OnOk r (ImagesPay p t (acts_on act i) a c)
acted_pays p t act i (Ok next) a b c f calls = pays_before p t (λ d. (acts_on act i d).steps) a b c calls.passes f
acted_pays p t act i (Err fault) a b c f calls = tt

pub act_listed : Laws → (g : Geometry) (p : Places) → ArePlaces g p → (i : ℕ) (l : Layout) → place_at i p ≡ Some l → (t : ℕ) (act : Act) (reply : Reply) (handed : Handed) (images : Images) (r : Result Reply UploadFault) (a b c : FlashState)
    → handed.result ≡ Ok reply → is_empty (said_of reply) ≡ true → Answers l 0 (acting act) handed a b → ImagesAnswer p 0 t (lists_after []) images r b c → ImagesAnswer p 0 t (acts_on act i) images r a c
act_listed laws g p are i l at t act reply handed images r a b c is e f list =
    let keeps = f.moved.calls.keeps in
    let done : Done l (mount_spots l) 0 (steps_by (acting act)) a b = subst (λ (q : Result Reply UploadFault). OnOk q (Done l (mount_spots l) 0 (steps_by (acting act)) a b)) is f.done in
    let told : Tells l (acting act) a.bytes reply = subst (λ (q : Result Reply UploadFault). IfOk q (Tells l (acting act) a.bytes)) is f.said in
    let ages = ages_each g p i l 0 a.bytes b.bytes are at f.moved.ages keeps in
    record {
      calls = Calls-after (spots_of p) (result_end r) a b c (Calls-wider (spots_of p) (mount_spots l) Went a b (covers_at p i l at) done.calls) list.calls;
      moves = told_five (Does l (steps_by (acting act))) (Keeps (mount_spots l)) (ImagesMove p t images.target (lists_after [])) (ImagesMove p t images.target (acts_on act i)) (λ o. (side : Side) → SideStands l side o → said_of reply ≡ (acting act side).reply)
          a.bytes b.bytes c.bytes (λ o m n tells d k list2. list_moves laws g p are i l at t images.target act reply o m n e tells d k list2) told done.does keeps list.moves;
      done = list_done laws g p are i l at t images.target act reply r a.bytes b.bytes c.bytes e told done.does keeps list.done;
      said = list_said laws g p are i l at t act reply r a.bytes b.bytes e told done.does keeps list.said;
      says = list.says;
      places_kept = list.places_kept;
      ages = ages_both 0 0 p a.bytes b.bytes c.bytes ages list.ages;
      pending = pending_both p a.bytes b.bytes c.bytes (pending_each g p i l a.bytes b.bytes are at f.moved.pending keeps) list.pending;
      caused = result_before p 0 0 r a.bytes b.bytes ages list.caused;
      pays = acted_pays p t act i r a b c (pays_act g p are i l at t act a b done) list.calls;
      lost = lost_behind p 0 0 0 images r a b c (omega arith) done.calls.passes ages list.lost;
    }

-- the answer to an act, as it is known to be
pub acted_as : (layout : Layout) (act known : Act) (handed : Handed) (a b : FlashState) → act ≡ known → Answers layout 0 (acting known) handed a b → Answers layout 0 (acting act) handed a b
acted_as layout act known handed a b e f = subst (λ (x : Act). Answers layout 0 (acting x) handed a b) (sym e) f

-- The images behind an act.

pub record IsDone (r : Result Reply UploadFault) : Type 0 where
  pub reply : Reply
  pub is : r ≡ Ok reply
  pub empty : is_empty (said_of reply) ≡ true

done_reply : (r : Result Reply UploadFault) → is_done r ≡ true → IsDone r
done_reply (Ok reply) e = record { reply = reply; is = refl; empty = e }
done_reply (Err fault) e = absurd (cc e)

pub done_mounted : (r : Result Reply UploadFault) (b : Bool) → b ≡ is_ok r → is_done r ≡ true → b ≡ true
done_mounted (Ok reply) b e f = e
done_mounted (Err fault) b e f = absurd (cc f)

held_as : (handed : Handed) (k : Mounted) (bytes : List ℕ) → handed.held ≡ helds.Mounted k → HeldSays handed.held bytes → Says (known_mounted k) bytes
held_as handed k bytes e s = subst (λ (h : Held). HeldSays h bytes) e s

-- Of image 0.

held_layouts : (o : Option Mounted) → option_map held_layout (option_map helds.Mounted o) ≡ option_map (λ m. (known_mounted m).layout) o
held_layouts None = refl
held_layouts (Some m) = refl

held_says : (o : Option Mounted) (u : List ℕ) → IfSome o (λ m. Says (known_mounted m) u) → IfSome (option_map helds.Mounted o) (λ h. HeldSays h u)
held_says None u s = tt
held_says (Some m) u s = s

-- the image beside it says what it said
beside_kept : Laws → (o : Option Mounted) (spots : List (ℕ × ℕ)) (u v : List ℕ) → ((l : Layout) → option_map (λ m. (known_mounted m).layout) o ≡ Some l → Apart l spots) → Keeps spots u v → IfSome o (λ m. Says (known_mounted m) u) → IfSome o (λ m. Says (known_mounted m) v)
beside_kept laws None spots u v apart k s = tt
beside_kept laws (Some m) spots u v apart k s = laws.say (known_mounted m) spots u v (apart (known_mounted m).layout refl) k s

told_beside : Laws → (s : Settled) (spots : List (ℕ × ℕ)) (x y : Option (List ℕ)) → ((l : Layout) → (settled_places s).second ≡ Some l → Apart l spots) → IfSome x (SettledSay s) → Told (Keeps spots) x y → IfSome y (λ u. IfSome s.one (λ m. Says (known_mounted m) u))
told_beside laws s spots None None apart says k = tt
told_beside laws s spots None (Some v) apart says k = absurd k
told_beside laws s spots (Some u) None apart says k = tt
told_beside laws s spots (Some u) (Some v) apart says k = beside_kept laws s.one spots u v apart k says.second

second_kept : Laws → (s : Settled) (act : Act) (handed : Handed) (a b : FlashState) → ArePlaces a.geometry (settled_places s) → IfSome a.bytes (SettledSay s) → Answers (known_mounted s.zero).layout 0 (acting act) handed a b
    → IfSome b.bytes (λ u. IfSome s.one (λ m. Says (known_mounted m) u))
second_kept laws s act handed a b are says f =
    told_beside laws s (mount_spots (known_mounted s.zero).layout) a.bytes b.bytes (λ l at. apart_of a.geometry (settled_places s) are 0 1 (known_mounted s.zero).layout l refl at zero_one) says f.moved.calls.keeps

pub first_stopped : Laws → (s : Settled) (act : Act) (handed : Handed) (one : Option Held) (a b : FlashState) → ArePlaces a.geometry (settled_places s) → IfSome a.bytes (SettledSay s) → is_done handed.result ≡ false → one ≡ option_map helds.Mounted s.one
    → Answers (known_mounted s.zero).layout 0 (acting act) handed a b → ImagesAnswer (settled_places s) 0 s.target (acts_on act 0) (record { zero = handed.held; one = one; target = s.target }) handed.result a b
first_stopped laws s act handed one a b are says stop e f =
    let p = settled_places s in
    let known : Images = record { zero = handed.held; one = option_map helds.Mounted s.one; target = s.target } in
    subst (λ (o : Option Held). ImagesAnswer p 0 s.target (acts_on act 0) (record { zero = handed.held; one = o; target = s.target }) handed.result a b) (sym e)
    (act_stopped laws a.geometry p are 0 (known_mounted s.zero).layout refl s.target act handed a b stop f known refl (λ i. record { first = f.layout_kept i; second = held_layouts s.one i }) refl
    (both_some (HeldSays handed.held) (λ u. IfSome s.one (λ m. Says (known_mounted m) u)) (ImagesSay known) b.bytes (λ u q k. record { first = q; second = held_says s.one u k }) f.says (second_kept laws s act handed a b are says f)))

pub first_mounts : (h : Held) (o : Option Mounted) (one : Option Held) (b : Bool) → one ≡ option_map helds.Mounted o → is_mounted h ≡ b → MountsSettled h one b
first_mounts h o one b e m = subst (λ (x : Option Held). MountsSettled h x b) (sym e) (by o b m)
  where
    by : (q : Option Mounted) (c : Bool) → is_mounted h ≡ c → MountsSettled h (option_map helds.Mounted q) c
    by None c k = k
    by (Some n) true k = (k, refl)
    by (Some n) false k = sym (ap not k)

abbrev with_first : Mounted → Settled → Settled
with_first k s = record { zero = k; one = s.one; target = s.target }

-- what the list is read over
pub first_settled : Laws → (s : Settled) (k : Mounted) (act : Act) (handed : Handed) (a b : FlashState) → ArePlaces a.geometry (settled_places s) → IfSome a.bytes (SettledSay s) → handed.held ≡ helds.Mounted k
    → Answers (known_mounted s.zero).layout 0 (acting act) handed a b → IfSome b.bytes (SettledSay (record { zero = k; one = s.one; target = s.target }))
first_settled laws s k act handed a b are says held f =
    both_some (HeldSays handed.held) (λ u. IfSome s.one (λ m. Says (known_mounted m) u)) (SettledSay (with_first k s)) b.bytes (λ u q r. record { first = held_as handed k u held q; second = r }) f.says (second_kept laws s act handed a b are says f)

pub first_listed : Laws → (s : Settled) (k : Mounted) (act : Act) (handed : Handed) (r : Replied) (a b c : FlashState) → ArePlaces a.geometry (settled_places s) → handed.held ≡ helds.Mounted k → is_done handed.result ≡ true
    → Answers (known_mounted s.zero).layout 0 (acting act) handed a b → ImagesAnswer (settled_places (record { zero = k; one = s.one; target = s.target })) 0 s.target (lists_after []) r.images r.result b c
    → ImagesAnswer (settled_places s) 0 s.target (acts_on act 0) r.images r.result a c
first_listed laws s k act handed r a b c are held is f list =
    let d = done_reply handed.result is in
    let same : (known_mounted k).layout ≡ (known_mounted s.zero).layout = ap held_layout (sym held) ∙ f.layout_kept in
    act_listed laws a.geometry (settled_places s) are 0 (known_mounted s.zero).layout refl s.target act d.reply handed r.images r.result a b c d.is d.empty f
    (subst (λ (l : Layout). ImagesAnswer (record { first = l; second = (settled_places s).second }) 0 s.target (lists_after []) r.images r.result b c) same list)

-- Of image 1.

told_other : Laws → (m n : Mounted) (t : ℕ) (spots : List (ℕ × ℕ)) (x y : Option (List ℕ)) → Apart (known_mounted m).layout spots → IfSome x (SettledSay (both_settled m n t)) → Told (Keeps spots) x y → IfSome y (Says (known_mounted m))
told_other laws m n t spots None None apart s k = tt
told_other laws m n t spots None (Some v) apart s k = absurd k
told_other laws m n t spots (Some u) None apart s k = tt
told_other laws m n t spots (Some u) (Some v) apart s k = laws.say (known_mounted m) spots u v apart k s.first

first_kept : Laws → (m n : Mounted) (t : ℕ) (act : Act) (handed : Handed) (a b : FlashState) → ArePlaces a.geometry (both_places m n) → IfSome a.bytes (SettledSay (both_settled m n t)) → Answers (known_mounted n).layout 0 (acting act) handed a b → IfSome b.bytes (Says (known_mounted m))
first_kept laws m n t act handed a b are says f =
    told_other laws m n t (mount_spots (known_mounted n).layout) a.bytes b.bytes (apart_of a.geometry (both_places m n) are 1 0 (known_mounted n).layout (known_mounted m).layout refl refl one_zero) says f.moved.calls.keeps

pub second_stopped : Laws → (m n : Mounted) (t : ℕ) (act : Act) (handed : Handed) (images : Images) (a b : FlashState) → ArePlaces a.geometry (both_places m n) → IfSome a.bytes (SettledSay (both_settled m n t)) → is_done handed.result ≡ false
    → images ≡ record { zero = helds.Mounted m; one = Some handed.held; target = t } → Answers (known_mounted n).layout 0 (acting act) handed a b → ImagesAnswer (both_places m n) 0 t (acts_on act 1) images handed.result a b
second_stopped laws m n t act handed images a b are says stop eq f =
    let known : Images = record { zero = helds.Mounted m; one = Some handed.held; target = t } in
    subst (λ (x : Images). ImagesAnswer (both_places m n) 0 t (acts_on act 1) x handed.result a b) (sym eq)
    (act_stopped laws a.geometry (both_places m n) are 1 (known_mounted n).layout refl t act handed a b stop f known refl (λ i. record { first = (known_mounted m).layout; second = Some (f.layout_kept i) }) refl
    (both_some (HeldSays handed.held) (Says (known_mounted m)) (ImagesSay known) b.bytes (λ u p q. record { first = q; second = p }) f.says (first_kept laws m n t act handed a b are says f)))

pub second_mounts : (m : Mounted) (h : Held) (t : ℕ) (images : Images) (b : Bool) → images ≡ record { zero = helds.Mounted m; one = Some h; target = t } → is_mounted h ≡ b → MountsSettled images.zero images.one b
second_mounts m h t images b e k = subst (λ (x : Images). MountsSettled x.zero x.one b) (sym e) (by b k)
  where
    by : (c : Bool) → is_mounted h ≡ c → MountsSettled (helds.Mounted m) (Some h) c
    by true k = (refl, k)
    by false k = k

pub second_settled : Laws → (m n k : Mounted) (t : ℕ) (act : Act) (handed : Handed) (a b : FlashState) → ArePlaces a.geometry (both_places m n) → IfSome a.bytes (SettledSay (both_settled m n t)) → handed.held ≡ helds.Mounted k
    → Answers (known_mounted n).layout 0 (acting act) handed a b → IfSome b.bytes (SettledSay (both_settled m k t))
second_settled laws m n k t act handed a b are says held f =
    both_some (HeldSays handed.held) (Says (known_mounted m)) (SettledSay (both_settled m k t)) b.bytes (λ u p q. record { first = q; second = held_as handed k u held p }) f.says (first_kept laws m n t act handed a b are says f)

pub second_listed : Laws → (m n k : Mounted) (t : ℕ) (act : Act) (handed : Handed) (r : Replied) (a b c : FlashState) → ArePlaces a.geometry (both_places m n) → handed.held ≡ helds.Mounted k → is_done handed.result ≡ true
    → Answers (known_mounted n).layout 0 (acting act) handed a b → ImagesAnswer (both_places m k) 0 t (lists_after []) r.images r.result b c → ImagesAnswer (both_places m n) 0 t (acts_on act 1) r.images r.result a c
second_listed laws m n k t act handed r a b c are held is f list =
    let d = done_reply handed.result is in
    let same : (known_mounted k).layout ≡ (known_mounted n).layout = ap held_layout (sym held) ∙ f.layout_kept in
    act_listed laws a.geometry (both_places m n) are 1 (known_mounted n).layout refl t act d.reply handed r.images r.result a b c d.is d.empty f
    (subst (λ (l : Layout). ImagesAnswer (record { first = (known_mounted m).layout; second = Some l }) 0 t (lists_after []) r.images r.result b c) same list)
