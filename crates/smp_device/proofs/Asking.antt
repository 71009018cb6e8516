-- The images after a request about one of them.
use Rattle.std.proofs.Common.{◌≡◌, ℕ, zero, suc, ◌≤◌, false, Option, Some, None, List, [], Result, Ok, refl, sym, ◌∙◌, ap, subst, arith, Err}
use Rattle.std.specs.Prelude.{IfSome, option_map}
use Rattle.smp_flash.specs.Area.{Told, Keeps}
use Rattle.smp_flash.specs.Layout.{geometry_of, progress_of}
use Rattle.smp_flash.specs.State.{FlashState}
use Rattle.smp_flash.specs.declared.geometry.Geometry.{Geometry}
use Rattle.smp_flash.specs.declared.layout.Layout.{Layout}
use Rattle.smp_flash.proofs.Passing.{Calls-refl, Calls-wider}
use Rattle.smp_flash.proofs.Telling.{IfSome-map, Told-map}
use Rattle.smp_gate.specs.Newest.{AgesAtMost}
use Rattle.smp_model.specs.declared.device.AbstractDevice.{AbstractDevice}
use Rattle.smp_model.specs.declared.device.Side.{Side}
use Rattle.smp_model.specs.declared.reply.Reply.{Reply}
use Rattle.smp_model.specs.declared.reply.Reply.TheVariants as replied
use Rattle.smp_model.specs.Response.{Response, reply_alone}
use Rattle.smp_model.specs.Said as said
use Rattle.smp_model.specs.Sides.{side_settle_steps}
use Rattle.smp_model.specs.Steps.{side_at, applied, Part}
use Rattle.smp_upload.specs.Bytes.{SideReadable, Apart, SideStands}
use Rattle.smp_upload.specs.Faults.{upload_fault_end}
use Rattle.smp_upload.specs.Moves.{Moved, Done, KeepsPending, mount_spots, Does, Moves}
use Rattle.smp_upload.specs.States.{known_mounted}
use Rattle.smp_upload.specs.declared.states.Lost.{Lost}
use Rattle.smp_upload.specs.declared.states.UploadFault.{UploadFault}
use Rattle.smp_side.specs.Held.{Answers, Broken, Caused, held_layout, HeldSays, is_mounted, is_ok, result_end, steps_by}
use Rattle.smp_side.specs.declared.held.Held.{Held}
use Rattle.smp_side.specs.declared.held.Held.TheVariants as helds
use Rattle.smp_side.specs.declared.held.Handed.{Handed}
use Rattle.smp_side.proofs.Answering.{answers_after, readable_of, readable_after, answers_more}
use Rattle.smp_device.specs.Answers.{ImagesAnswer, ImagesMove, ImagesDo}
use Rattle.smp_device.specs.Laws.{Laws}
use Rattle.smp_device.specs.Places.{Places, ArePlaces, place_at, spots_of, StandsAt, ImagesStand, places_of, ImagesSay}
use Rattle.smp_device.specs.Requests.{side_response, responds_of, responds_on, moved_target, Erases}
use Rattle.smp_device.specs.declared.images.Images.{Images}
use Rattle.smp_device.specs.declared.images.Replied.{Replied}
use Rattle.smp_device.specs.declared.images.SideRequest.{SideRequest}
use Rattle.smp_device.proofs.Erasing.{erases_failed}
use Rattle.smp_device.proofs.Falling.{fell_by, lost_at}
use Rattle.smp_device.proofs.Paying.{pays_asked, pays_none}
use Rattle.smp_device.proofs.Lifting.{Known, caused_more, caused_one, does_ok, known_by, mounts_one, moves_one, result_one, said_one, settled_response, told_moves, told_two}
use Rattle.smp_device.proofs.Parting.{ages_each, apart_of, covers_at, pending_each, is_second}
use Rattle.smp_device.specs.Asked.{AskedAt, OneAnswer}
use Rattle.smp_device.specs.declared.images.Asked.{Asked}
use Rattle.smp_upload.proofs.Composing.{ages_more}

-- What is held of an image says what it said, where changes keep clear of it.

pub held_kept : Laws → (h : Held) (spots : List (ℕ × ℕ)) (u v : List ℕ) → Apart (held_layout h) spots → Keeps spots u v → HeldSays h u → HeldSays h v
held_kept laws (helds.Unmounted n) spots u v apart k s = record { side = s.side; stands = laws.stand n.layout s.side spots u v apart k s.stands }
held_kept laws (helds.Mounted m) spots u v apart k s = laws.say (known_mounted m) spots u v apart k s

pub other_kept : Laws → (o : Option Held) (spots : List (ℕ × ℕ)) (u v : List ℕ) → ((m : Layout) → option_map held_layout o ≡ Some m → Apart m spots) → Keeps spots u v → IfSome o (λ h. HeldSays h u) → IfSome o (λ h. HeldSays h v)
other_kept laws None spots u v apart k s = tt
other_kept laws (Some h) spots u v apart k s = held_kept laws h spots u v (apart (held_layout h) refl) k s

pub zero_one : ◌≡◌ {A = ℕ} 0 1 → ⊥
zero_one e = absurd (cc e)

pub one_zero : ◌≡◌ {A = ℕ} 1 0 → ⊥
one_zero e = absurd (cc e)

pub zero_says : Laws → (g : Geometry) (images : Images) → ArePlaces g (places_of images) → (held : Held) (t : ℕ) (x y : Option (List ℕ)) → IfSome y (HeldSays held) → IfSome x (ImagesSay images)
    → Told (Keeps (mount_spots (held_layout images.zero))) x y → IfSome y (ImagesSay (record { zero = held; one = images.one; target = t }))
zero_says laws g images are held t None None h s k = tt
zero_says laws g images are held t None (Some v) h s k = absurd k
zero_says laws g images are held t (Some u) None h s k = tt
zero_says laws g images are held t (Some u) (Some v) h s k = record {
  first = h;
  second = other_kept laws images.one (mount_spots (held_layout images.zero)) u v (λ m at. apart_of g (places_of images) are 0 1 (held_layout images.zero) m refl at zero_one) k s.second;
}

pub one_says : Laws → (g : Geometry) (images : Images) → ArePlaces g (places_of images) → (old held : Held) → images.one ≡ Some old → (t : ℕ) (x y : Option (List ℕ)) → IfSome y (HeldSays held) → IfSome x (ImagesSay images)
    → Told (Keeps (mount_spots (held_layout old))) x y → IfSome y (ImagesSay (record { zero = images.zero; one = Some held; target = t }))
one_says laws g images are old held e t None None h s k = tt
one_says laws g images are old held e t None (Some v) h s k = absurd k
one_says laws g images are old held e t (Some u) None h s k = tt
one_says laws g images are old held e t (Some u) (Some v) h s k = record {
  first = held_kept laws images.zero (mount_spots (held_layout old)) u v (apart_of g (places_of images) are 1 0 (held_layout old) (held_layout images.zero) (ap (option_map held_layout) e) refl one_zero) k s.first;
  second = h;
}

-- A side that was mounted, and asked.

lifted : Laws → (g : Geometry) (p : Places) → ArePlaces g p → (unit : ℕ) (request : SideRequest) (i : ℕ) (l : Layout) → place_at i p ≡ Some l → (t : ℕ) (handed : Handed) (a b c : FlashState)
    → Done l (mount_spots l) 2 side_settle_steps a b → Answers l 3 (side_response unit request) handed b c
    → OneAnswer p 5 i t (moved_target t i request handed.result) (responds_on unit request i) handed.result a c
lifted laws g p are unit request i l at t handed a b c f h =
    let both = answers_after l 2 3 side_settle_steps (side_response unit request) handed a b c f h in
    let keeps = both.moved.calls.keeps in
    let known = known_by l (side_response unit request) handed.result a.bytes both.said both.tried in
    record {
      calls = Calls-wider (spots_of p) (mount_spots l) (result_end handed.result) a c (covers_at p i l at) both.moved.calls;
      moves = told_moves (Does l side_settle_steps) (Moves l (steps_by (side_response unit request))) (ImagesMove p t (moved_target t i request handed.result) (responds_on unit request i)) (Keeps (mount_spots l))
          (λ u. (side : Side) → SideStands l side u → Known handed.result (settled_response unit request side).reply) a.bytes b.bytes c.bytes
          (λ u v w. moves_one laws g p are unit request i l at t handed.result u v w) f.does h.moved.moves keeps known;
      done = does_ok laws g p are unit request i l at t handed.result a b c f.does h.done keeps known;
      said = said_one p unit request i l t handed.result a.bytes at both.said;
      ages = ages_each g p i l 5 a.bytes c.bytes are at both.moved.ages keeps;
      pending = pending_each g p i l a.bytes c.bytes are at both.moved.pending keeps;
      caused = result_one p i l 5 handed.result a.bytes at both.caused;
      pays = pays_asked laws g p are unit request i l at t handed.result a c both.done;
      fell = fell_by p 5 i l handed.result a c at both.moved.calls both.caused;
    }

-- the answer of a side, at the place and with the unit that the device knows
pub answers_at : (layout l : Layout) (g : Geometry) (request : SideRequest) (handed : Handed) (b c : FlashState) → layout ≡ l → geometry_of l ≡ g
    → Answers layout 3 (side_response (geometry_of layout).unit request) handed b c → Answers l 3 (side_response g.unit request) handed b c
answers_at layout l g request handed b c e f h =
    subst (λ (x : Geometry). Answers l 3 (side_response x.unit request) handed b c) f
    (subst (λ (x : Layout). Answers x 3 (side_response (geometry_of x).unit request) handed b c) e h)

asked_as : Laws → (l : Layout) (i t : ℕ) (request : SideRequest) (handed : Handed) (a b c : FlashState) → Done l (mount_spots l) 2 side_settle_steps a b → Answers l 3 (side_response a.geometry.unit request) handed b c → Erases l request handed.result c.bytes
    → AskedAt l i t request (record { held = handed.held; target = moved_target t i request handed.result; result = handed.result }) a c
asked_as laws l i t request handed a b c done h erased =
    let both = answers_after l 2 3 side_settle_steps (side_response a.geometry.unit request) handed a b c done h in
    record {
      answers = λ p are at. lifted laws a.geometry p are a.geometry.unit request i l at t handed a b c done h;
      keeps = both.moved.calls.keeps;
      says = both.says;
      layout_kept = both.layout_kept;
      mounted = both.mounted;
      erased = erased;
    }

pub asked_done : Laws → (l layout : Layout) (i t u : ℕ) (request : SideRequest) (handed : Handed) (a b c : FlashState) → geometry_of l ≡ a.geometry → layout ≡ l → u ≡ moved_target t i request handed.result
    → Done l (mount_spots l) 2 side_settle_steps a b → Answers layout 3 (side_response (geometry_of layout).unit request) handed b c → Erases layout request handed.result c.bytes
    → AskedAt l i t request (record { held = handed.held; target = u; result = handed.result }) a c
asked_done laws l layout i t u request handed a b c g e target done answers erased =
    subst (λ (k : ℕ). AskedAt l i t request (record { held = handed.held; target = k; result = handed.result }) a c) (sym target)
    (asked_as laws l i t request handed a b c done (answers_at layout l a.geometry request handed b c e g answers) (subst (λ (x : Layout). Erases x request handed.result c.bytes) e erased))

-- A mount that was lost.

lifted_lost_at : Laws → (g : Geometry) (p : Places) → ArePlaces g p → (unit : ℕ) (request : SideRequest) (i : ℕ) (l : Layout) → place_at i p ≡ Some l → (t : ℕ) (fault : UploadFault) (a b : FlashState)
    → Moved l (mount_spots l) 2 side_settle_steps (upload_fault_end fault) a b → Caused l 2 fault a.bytes → OneAnswer p 5 i t t (responds_on unit request i) (Err fault) a b
lifted_lost_at laws g p are unit request i l at t fault a b m c =
    let keeps = m.calls.keeps in
    let more = caused_more l 2 5 fault a.bytes (omega arith) c in
    record {
      calls = Calls-wider (spots_of p) (mount_spots l) (upload_fault_end fault) a b (covers_at p i l at) m.calls;
      moves = told_two (Moves l side_settle_steps) (Keeps (mount_spots l)) (ImagesMove p t t (responds_on unit request i)) a.bytes b.bytes (λ u v. mounts_one laws g p are unit request i l at t u v) m.moves keeps;
      done = tt;
      said = tt;
      ages = ages_each g p i l 5 a.bytes b.bytes are at (Told-map (AgesAtMost 2 (progress_of l)) (AgesAtMost 5 (progress_of l)) a.bytes b.bytes (λ u v. ages_more l 2 5 u v (omega arith)) m.ages) keeps;
      pending = pending_each g p i l a.bytes b.bytes are at m.pending keeps;
      caused = caused_one p i l 5 fault a.bytes at more;
      pays = tt;
      fell = fell_by p 5 i l (Err fault) a b at m.calls more;
    }

lifted_lost : Laws → (g : Geometry) (p : Places) → ArePlaces g p → (unit : ℕ) (request : SideRequest) (i : ℕ) (l : Layout) → place_at i p ≡ Some l → (t : ℕ) (fault : UploadFault) (result : Result Reply UploadFault) (a b : FlashState)
    → result ≡ Err fault → Moved l (mount_spots l) 2 side_settle_steps (upload_fault_end fault) a b → Caused l 2 fault a.bytes → OneAnswer p 5 i t t (responds_on unit request i) result a b
lifted_lost laws g p are unit request i l at t fault result a b e m c =
    subst (λ (r : Result Reply UploadFault). OneAnswer p 5 i t t (responds_on unit request i) r a b) (sym e) (lifted_lost_at laws g p are unit request i l at t fault a b m c)

pub held_readable : (h : Held) (bytes : List ℕ) → HeldSays h bytes → SideReadable (held_layout h) bytes
held_readable (helds.Unmounted u) bytes s = s
held_readable (helds.Mounted m) bytes s = readable_of (known_mounted m) bytes s

unmounted_says : (held : Held) (l : Layout) (bytes : List ℕ) → held_layout held ≡ l → is_mounted held ≡ false → SideReadable l bytes → HeldSays held bytes
unmounted_says (helds.Unmounted u) l bytes e is r = subst (λ (k : Layout). SideReadable k bytes) (sym e) r
unmounted_says (helds.Mounted m) l bytes e is r = absurd (cc is)

pub lost_says : (old held : Held) (fault : UploadFault) (a b : FlashState) → held_layout held ≡ held_layout old → is_mounted held ≡ false
    → Moved (held_layout old) (mount_spots (held_layout old)) 2 side_settle_steps (upload_fault_end fault) a b → IfSome a.bytes (HeldSays old) → IfSome b.bytes (HeldSays held)
lost_says old held fault a b e un m s =
    let l = held_layout old in
    IfSome-map (SideReadable l) (HeldSays held) b.bytes (λ u r. unmounted_says held l u e un r)
    (readable_after l (mount_spots l) 2 side_settle_steps (upload_fault_end fault) a b m (IfSome-map (HeldSays old) (SideReadable l) a.bytes (held_readable old) s))

pub asked_lost : Laws → (old : Held) (i t : ℕ) (request : SideRequest) (lost : Lost) (handed : Handed) (a b : FlashState) → lost.state.layout ≡ held_layout old → IfSome a.bytes (HeldSays old) → Broken lost.state.layout lost.fault handed
    → Moved (held_layout old) (mount_spots (held_layout old)) 2 side_settle_steps (upload_fault_end lost.fault) a b → Caused (held_layout old) 2 lost.fault a.bytes
    → AskedAt (held_layout old) i t request (record { held = handed.held; target = t; result = handed.result }) a b
asked_lost laws old i t request lost handed a b e says broken m c =
    let l = held_layout old in
    let kept : held_layout handed.held ≡ l = broken.layout_kept ∙ e in
    record {
      answers = λ p are at. lifted_lost laws a.geometry p are a.geometry.unit request i l at t lost.fault handed.result a b broken.failed m c;
      keeps = m.calls.keeps;
      says = lost_says old handed.held lost.fault a b kept broken.unmounted m says;
      layout_kept = kept;
      mounted = broken.unmounted ∙ sym (ap is_ok broken.failed);
      erased = erases_failed l request lost.fault handed.result b.bytes broken.failed;
    }

-- Image 0 was asked, or image 1.

pub first_says : (images : Images) (x : Option (List ℕ)) → IfSome x (ImagesSay images) → IfSome x (HeldSays images.zero)
first_says images None s = tt
first_says images (Some u) s = s.first

pub second_says : (images : Images) (old : Held) (x : Option (List ℕ)) → images.one ≡ Some old → IfSome x (ImagesSay images) → IfSome x (HeldSays old)
second_says images old None e s = tt
second_says images old (Some u) e s = subst (λ (o : Option Held). IfSome o (λ h. HeldSays h u)) e s.second

pub second_held : (g : Geometry) (images : Images) (old : Held) → ArePlaces g (places_of images) → images.one ≡ Some old → geometry_of (held_layout old) ≡ g
second_held g images old are o = (is_second g (option_map held_layout images.one) (held_layout old) are.second (ap (option_map held_layout) o)).0

pub answer_zero : Laws → (images : Images) (request : SideRequest) (asked : Asked) (a b : FlashState) → ArePlaces a.geometry (places_of images) → IfSome a.bytes (ImagesSay images) → AskedAt (held_layout images.zero) 0 images.target request asked a b
    → ImagesAnswer (places_of images) 5 images.target (responds_on a.geometry.unit request 0) (record { zero = asked.held; one = images.one; target = asked.target }) asked.result a b
answer_zero laws images request asked a b are says h =
    let f = h.answers (places_of images) are refl in
    let after : Images = record { zero = asked.held; one = images.one; target = asked.target } in
    record {
      calls = f.calls;
      moves = f.moves;
      done = f.done;
      said = f.said;
      says = zero_says laws a.geometry images are asked.held asked.target a.bytes b.bytes h.says says h.keeps;
      places_kept = λ i. record { first = h.layout_kept i; second = option_map held_layout images.one };
      ages = f.ages;
      pending = f.pending;
      caused = f.caused;
      pays = f.pays;
      lost = lost_at (places_of images) 5 0 after asked.held asked.result a b refl h.mounted f.fell;
    }

pub answer_one : Laws → (images : Images) (old : Held) → images.one ≡ Some old → (request : SideRequest) (asked : Asked) (a b : FlashState) → ArePlaces a.geometry (places_of images) → IfSome a.bytes (ImagesSay images) → AskedAt (held_layout old) 1 images.target request asked a b
    → ImagesAnswer (places_of images) 5 images.target (responds_on a.geometry.unit request 1) (record { zero = images.zero; one = Some asked.held; target = asked.target }) asked.result a b
answer_one laws images old o request asked a b are says h =
    let at : place_at 1 (places_of images) ≡ Some (held_layout old) = ap (option_map held_layout) o in
    let f = h.answers (places_of images) are at in
    let after : Images = record { zero = images.zero; one = Some asked.held; target = asked.target } in
    let same : option_map held_layout (Some asked.held) ≡ option_map held_layout images.one = ap Some h.layout_kept ∙ sym at in
    record {
      calls = f.calls;
      moves = f.moves;
      done = f.done;
      said = f.said;
      says = one_says laws a.geometry images are old asked.held o asked.target a.bytes b.bytes h.says says h.keeps;
      places_kept = λ i. record { first = held_layout images.zero; second = same i };
      ages = f.ages;
      pending = f.pending;
      caused = f.caused;
      pays = f.pays;
      lost = lost_at (places_of images) 5 1 after asked.held asked.result a b refl h.mounted f.fell;
    }

-- No such image.

pub no_side : (i : ℕ) (p : Places) (d : AbstractDevice) (bytes : List ℕ) (x : Option Layout) (y : Option Side) → x ≡ None → StandsAt x y bytes → y ≡ None
no_side i p d bytes None None e s = refl
no_side i p d bytes None (Some side) e s = absurd s
no_side i p d bytes (Some l) y e s = absurd (cc e)

-- the response is an error, and no steps
pub none_responds : (unit : ℕ) (request : SideRequest) (i t : ℕ) (p : Places) (d : AbstractDevice) (bytes : List ℕ) → place_at i p ≡ None → ImagesStand p t d bytes → responds_on unit request i d ≡ reply_alone (said.group_error 1 14)
none_responds unit request i t p d bytes e stands = ap (λ (o : Option Side). responds_of unit request i o) (no_side i p d bytes (place_at i p) (side_at i d) e (stands.sides i))

pub told_here : (R : List ℕ → List ℕ → Type 0) (x : Option (List ℕ)) → ((u : List ℕ) → R u u) → Told R x x
told_here R None f = tt
told_here R (Some u) f = f u

pub told_alone : (P : List ℕ → Type 0) (x : Option (List ℕ)) → ((u : List ℕ) → P u) → IfSome x P
told_alone P None f = tt
told_alone P (Some u) f = f u

none_here : (images : Images) (unit : ℕ) (request : SideRequest) (i : ℕ) (a : FlashState) → place_at i (places_of images) ≡ None → IfSome a.bytes (ImagesSay images)
    → ImagesAnswer (places_of images) 5 images.target (responds_on unit request i) images (Ok (replied.GroupError 1 14)) a a
none_here images unit request i a e says =
    let p = places_of images in
    let t = images.target in
    record {
      calls = Calls-refl (spots_of p) a;
      moves = told_here (ImagesMove p t t (responds_on unit request i)) a.bytes (λ u d stands. record {
        reached = d;
        part = subst (λ (r : Response). Part d r.steps d) (sym (none_responds unit request i t p d u e stands)) (record { front = []; rest = []; split = refl; reached = refl });
        stands = stands;
      });
      done = told_here (ImagesDo p t t (responds_on unit request i)) a.bytes (λ u d stands. subst (λ (r : Response). ImagesStand p t (applied r.steps d) u) (sym (none_responds unit request i t p d u e stands)) stands);
      said = told_alone (λ u. (d : AbstractDevice) → ImagesStand p t d u → said.group_error 1 14 ≡ (responds_on unit request i d).reply) a.bytes (λ u d stands. sym (ap (λ (r : Response). r.reply) (none_responds unit request i t p d u e stands)));
      says = says;
      places_kept = refl;
      ages = λ j l at. told_here (AgesAtMost 5 (progress_of l)) a.bytes (λ u. record { kept = omega arith; most = omega arith });
      pending = λ j l at. told_here (KeepsPending l) a.bytes (λ u. record { kept = λ is. refl; still = λ is. refl });
      caused = tt;
      pays = pays_none p t (λ d. (responds_on unit request i d).steps) a a (told_alone (λ u. (d : AbstractDevice) → ImagesStand p t d u → (responds_on unit request i d).steps ≡ []) a.bytes (λ u d stands. ap (λ (r : Response). r.steps) (none_responds unit request i t p d u e stands)));
      lost = tt;
    }

pub no_image_here : (images : Images) (unit : ℕ) (request : SideRequest) (i : ℕ) (replied_with : Replied) (a : FlashState) → place_at i (places_of images) ≡ None → IfSome a.bytes (ImagesSay images)
    → replied_with ≡ record { images = images; result = Ok (replied.GroupError 1 14) }
    → ImagesAnswer (places_of images) 5 images.target (responds_on unit request i) replied_with.images replied_with.result a a
no_image_here images unit request i replied_with a e says is =
    subst (λ (r : Replied). ImagesAnswer (places_of images) 5 images.target (responds_on unit request i) r.images r.result a a) (sym is) (none_here images unit request i a e says)

-- the answer to a request, as it is known to be
pub as_asked : (layout : Layout) (n : ℕ) (request known : SideRequest) (handed : Handed) (a b : FlashState) → request ≡ known → n ≤ 3 → Answers layout n (side_response (geometry_of layout).unit known) handed a b
    → Answers layout 3 (side_response (geometry_of layout).unit request) handed a b
as_asked layout n request known handed a b e le f =
    subst (λ (r : SideRequest). Answers layout 3 (side_response (geometry_of layout).unit r) handed a b) (sym e) (answers_more layout n 3 (side_response (geometry_of layout).unit known) handed a b le f)

-- an image that is neither 0 nor 1 has no place
pub place_above : (p : Places) (i : ℕ) → (i ≡ 0 → ⊥) → (i ≡ 1 → ⊥) → place_at i p ≡ None
place_above p zero a b = absurd (a refl)
place_above p (suc zero) a b = absurd (b refl)
place_above p (suc (suc i)) a b = refl

-- a device of one image has none with the number 1
pub no_image_one : (images : Images) (unit : ℕ) (request : SideRequest) (replied_with : Replied) (a : FlashState) → images.one ≡ None → IfSome a.bytes (ImagesSay images)
    → replied_with ≡ record { images = record { zero = images.zero; one = None; target = images.target }; result = Ok (replied.GroupError 1 14) }
    → ImagesAnswer (places_of images) 5 images.target (responds_on unit request 1) replied_with.images replied_with.result a a
no_image_one images unit request replied_with a e says is =
    let same : record { images = record { zero = images.zero; one = None; target = images.target }; result = Ok (replied.GroupError 1 14) } ≡ record { images = images; result = Ok (replied.GroupError 1 14) } =
    (λ i. record { images = record { zero = images.zero; one = sym e i; target = images.target }; result = Ok (replied.GroupError 1 14) }) in
    no_image_here images unit request 1 replied_with a (ap (option_map held_layout) e) says (is ∙ same)

pub of_image : (images : Images) (image n : ℕ) (request : SideRequest) (r : Replied) (a b : FlashState) → image ≡ n → ImagesAnswer (places_of images) 5 images.target (responds_on a.geometry.unit request n) r.images r.result a b
    → ImagesAnswer (places_of images) 5 images.target (responds_on a.geometry.unit request image) r.images r.result a b
of_image images image n request r a b e f = subst (λ (i : ℕ). ImagesAnswer (places_of images) 5 images.target (responds_on a.geometry.unit request i) r.images r.result a b) (sym e) f
