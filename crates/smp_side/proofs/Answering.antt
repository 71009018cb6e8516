-- How the answers of a side are put together.
use Rattle.std.proofs.Common.{◌≡◌, ℕ, ◌+◌, ◌≤◌, Bool, true, false, Option, Some, None, List, [], ◌∷◌, Result, Ok, Err, refl, sym, ◌∙◌, ap, subst, arith, if◌then◌else◌}
use Rattle.std.proofs.lemmas.Result.{on_ok_weaker}
use Rattle.std.specs.Prelude.{IfSome, IsSomeAnd, OnOk, IfOk, IfErr}
use Rattle.smp_flash.specs.Area.{Told}
use Rattle.smp_flash.specs.Calls.{Calls, Smaller}
use Rattle.smp_flash.specs.Layout.{progress_of}
use Rattle.smp_flash.specs.State.{FlashState, End, fault_end}
use Rattle.smp_flash.specs.State.End.{Went}
use Rattle.smp_flash.specs.declared.flash.CallFault.{CallFault}
use Rattle.smp_flash.specs.declared.flash.CallFault.TheVariants as callfaults
use Rattle.smp_flash.specs.declared.layout.Layout.{Layout}
use Rattle.smp_flash.proofs.Passing.{Calls-refl}
use Rattle.smp_flash.proofs.Telling.{Told-same, Told-map, IfSome-map, Told-with, Told-after}
use Rattle.smp_gate.specs.Newest.{AgesAtMost, newest_generation}
use Rattle.smp_model.specs.declared.device.Side.{Side}
use Rattle.smp_model.specs.declared.device.Upload.{Upload}
use Rattle.smp_model.specs.declared.reply.Reply.{Reply}
use Rattle.smp_model.specs.Response.{SideResponse, side_responds}
use Rattle.smp_model.specs.Said.{Said, said_of, is_error}
use Rattle.smp_model.specs.Sides.{SideStep, Drop, side_applied, side_settle_steps, SidePart}
use Rattle.smp_model.specs.Uploads.{is_spoiled}
use Rattle.smp_progress.specs.State.{CanTake}
use Rattle.smp_upload.specs.Bytes.{SideStands, SideShows, SideReadable}
use Rattle.smp_upload.specs.Counting.{Pays, CountsSteps}
use Rattle.smp_upload.specs.Faults.{of_call, upload_fault_end}
use Rattle.smp_upload.specs.Mounting.{IsWorn}
use Rattle.smp_upload.specs.Moves.{Moves, Does, KeepsPending, Moved, Done, mount_spots}
use Rattle.smp_upload.specs.Needs.{mount_records, is_unclean}
use Rattle.smp_upload.specs.States.{Known, Says, known_mounted}
use Rattle.smp_upload.specs.declared.states.Lost.{Lost}
use Rattle.smp_upload.specs.declared.states.Mounted.{Mounted}
use Rattle.smp_upload.specs.declared.states.Unmounted.{Unmounted}
use Rattle.smp_upload.specs.declared.states.UploadFault.{UploadFault}
use Rattle.smp_upload.specs.declared.states.UploadFault.TheVariants as faults
use Rattle.smp_upload.proofs.Sides.{OneSide, says_shows}
use Rattle.smp_side.proofs.Spots.{SaysGeneration, generation_is}
use Rattle.smp_upload.proofs.Composing.{shows_stands, part_none, Done-Moved, Done-Done, Done-is, ages_more}
use Rattle.smp_side.specs.Held.{held_layout, HeldSays, is_mounted, result_end, steps_by, Tells, Answers, responds_after, Broken, Caused, ResultCaused, Tried}
use Rattle.smp_side.specs.declared.held.Held.{Held}
use Rattle.smp_side.specs.declared.held.Held.TheVariants as helds
use Rattle.smp_side.specs.declared.held.Handed.{Handed}

pub settle_none : (side : Side) → is_spoiled side.upload ≡ false → side_settle_steps side ≡ []
settle_none side e = ap (λ (b : Bool). if b then Drop ∷ [] else []) e

-- Calls that changed no byte.

KeepsPending-same : (layout : Layout) (u : List ℕ) → KeepsPending layout u u
KeepsPending-same layout u = record { kept = λ is. refl; still = λ is. refl }

Ages-same : (n : ℕ) (layout : Layout) (u : List ℕ) → AgesAtMost n (progress_of layout) u u
Ages-same n layout u = record { kept = omega arith; most = omega arith }

Moves-same : (layout : Layout) (s : Side → List SideStep) (u : List ℕ) → Moves layout s u u
Moves-same layout s u = record { moves = λ side stands. record { reached = side; part = part_none side (s side); stands = stands } }

-- no byte changed: any steps were broken off before the first
pub Moved-none : (layout : Layout) (spots : List (ℕ × ℕ)) (n : ℕ) (s : Side → List SideStep) (end : End) (a b : FlashState)
    → Calls spots end a b → b.bytes ≡ a.bytes → Moved layout spots n s end a b
Moved-none layout spots n s end a b calls kept = record {
  calls = calls;
  moves = Told-same (Moves layout s) a.bytes b.bytes (Moves-same layout s) kept;
  ages = Told-same (AgesAtMost n (progress_of layout)) a.bytes b.bytes (Ages-same n layout) kept;
  pending = Told-same (KeepsPending layout) a.bytes b.bytes (KeepsPending-same layout) kept;
}

-- there is nothing to do for the side that the bytes show
pub record Idles (layout : Layout) (s : Side → List SideStep) (bytes : List ℕ) : Type 0 where
  pub idles : (side : Side) → SideStands layout side bytes → (s side ≡ []) × SideShows layout side bytes

Does-none : (layout : Layout) (s : Side → List SideStep) (u : List ℕ) → Idles layout s u → Does layout s u u
Does-none layout s u i = record { does = λ side stands. subst (λ (t : List SideStep). SideShows layout (side_applied t side) u) (sym (i.idles side stands).0) (i.idles side stands).1 }

told_here : (P : List ℕ → Type 0) (R : List ℕ → List ℕ → Type 0) (x y : Option (List ℕ)) → ((u : List ℕ) → P u → R u u) → y ≡ x → IfSome x P → Told R x y
told_here P R None None step e p = tt
told_here P R None (Some v) step e p = absurd (cc e)
told_here P R (Some u) None step e p = absurd (cc e)
told_here P R (Some u) (Some v) step e p = let same : v ≡ u = cc e in subst (R u) (sym same) (step u p)

some_and : (P Q : List ℕ → Type 0) (A : Type 0) (x : Option (List ℕ)) → ((u : List ℕ) → P u → Q u → A) → IfSome x P → IsSomeAnd x Q → A
some_and P Q A None step p q = absurd q
some_and P Q A (Some u) step p q = step u p q

pays_nothing : (layout : Layout) (s : Side → List SideStep) (a b : FlashState) → IfSome a.bytes (Idles layout s) → Pays layout s a b
pays_nothing layout s a b i = record {
  pays = λ side stands is.
      some_and (Idles layout s) (SideStands layout side) (Smaller a.patience b.patience) a.bytes
      (λ u idle st. let none : CountsSteps layout a.aim side [] = subst (λ (t : List SideStep). CountsSteps layout a.aim side t) (idle.idles side st).0 is in absurd none) i stands;
}

pub Done-none : (layout : Layout) (spots : List (ℕ × ℕ)) (n : ℕ) (s : Side → List SideStep) (a b : FlashState)
    → Calls spots Went a b → b.bytes ≡ a.bytes → IfSome a.bytes (Idles layout s) → Done layout spots n s a b
Done-none layout spots n s a b calls kept i = record {
  calls = calls;
  does = told_here (Idles layout s) (Does layout s) a.bytes b.bytes (Does-none layout s) kept i;
  ages = Told-same (AgesAtMost n (progress_of layout)) a.bytes b.bytes (Ages-same n layout) kept;
  pending = Told-same (KeepsPending layout) a.bytes b.bytes (KeepsPending-same layout) kept;
  pays = pays_nothing layout s a b i;
}

pub readable_of : (known : Known) (bytes : List ℕ) → Says known bytes → SideReadable known.layout bytes
readable_of known bytes s = record { side = s.side; stands = shows_stands known.layout s.side bytes s.shows }

pub readable_says : (known : Known) (x : Option (List ℕ)) → IfSome x (Says known) → IfSome x (SideReadable known.layout)
readable_says known x says = IfSome-map (Says known) (SideReadable known.layout) x (readable_of known) says

idles_settled : OneSide → (known : Known) (bytes : List ℕ) → Says known bytes → Idles known.layout side_settle_steps bytes
idles_settled one known bytes s = record { idles = λ side stands. let shows = says_shows one known side bytes s stands in (settle_none side shows.settled, shows) }

-- a side that is mounted is not mounted again
mounted_already : OneSide → (layout : Layout) (known : Known) (n : ℕ) (a : FlashState) → known.layout ≡ layout → IfSome a.bytes (Says known) → Done layout (mount_spots layout) n side_settle_steps a a
mounted_already one layout known n a e says =
    subst (λ (l : Layout). Done l (mount_spots l) n side_settle_steps a a) e
    (Done-none known.layout (mount_spots known.layout) n side_settle_steps a a (Calls-refl (mount_spots known.layout) a) refl
    (IfSome-map (Says known) (Idles known.layout side_settle_steps) a.bytes (idles_settled one known) says))

-- a side that is not mounted
pub mount_done : (held : Held) (u : Unmounted) (n : ℕ) (result : Result Mounted Lost) (a b : FlashState) → held ≡ helds.Unmounted u
    → OnOk result (Done u.layout (mount_spots u.layout) n side_settle_steps a b) → OnOk result (Done (held_layout held) (mount_spots (held_layout held)) n side_settle_steps a b)
mount_done held u n result a b e f =
    subst (λ (h : Held). OnOk result (Done (held_layout h) (mount_spots (held_layout h)) n side_settle_steps a b)) (sym e) f

pub mount_moved : (held : Held) (u : Unmounted) (n : ℕ) (end : End) (a b : FlashState) → held ≡ helds.Unmounted u
    → Moved u.layout (mount_spots u.layout) n side_settle_steps end a b → Moved (held_layout held) (mount_spots (held_layout held)) n side_settle_steps end a b
mount_moved held u n end a b e f =
    subst (λ (h : Held). Moved (held_layout h) (mount_spots (held_layout h)) n side_settle_steps end a b) (sym e) f

-- one that is
pub mount_none : OneSide → (held : Held) (m : Mounted) (n : ℕ) (a : FlashState) → held ≡ helds.Mounted m → IfSome a.bytes (HeldSays held)
    → Done (held_layout held) (mount_spots (held_layout held)) n side_settle_steps a a
mount_none one held m n a e says =
    subst (λ (h : Held). Done (held_layout h) (mount_spots (held_layout h)) n side_settle_steps a a) (sym e)
    (mounted_already one (known_mounted m).layout (known_mounted m) n a refl (subst (λ (h : Held). IfSome a.bytes (HeldSays h)) e says))

-- Broken off.

readable_moved : (layout : Layout) (s : Side → List SideStep) (u v : List ℕ) → SideReadable layout u → Moves layout s u v → SideReadable layout v
readable_moved layout s u v r m = let reached = m.moves r.side r.stands in record { side = reached.reached; stands = reached.stands }

pub readable_after : (layout : Layout) (spots : List (ℕ × ℕ)) (n : ℕ) (s : Side → List SideStep) (end : End) (a b : FlashState)
    → Moved layout spots n s end a b → IfSome a.bytes (SideReadable layout) → IfSome b.bytes (SideReadable layout)
readable_after layout spots n s end a b m r = Told-after (SideReadable layout) (Moves layout s) (SideReadable layout) a.bytes b.bytes (readable_moved layout s) r m.moves

pub held_unmounted : (held : Held) (layout : Layout) (bytes : List ℕ) → held_layout held ≡ layout → is_mounted held ≡ false → SideReadable layout bytes → HeldSays held bytes
held_unmounted (helds.Unmounted u) layout bytes e is r = subst (λ (l : Layout). SideReadable l bytes) (sym e) r
held_unmounted (helds.Mounted m) layout bytes e is r = absurd (cc is)

pub slot_end : (fault : CallFault) → fault_end fault ≡ upload_fault_end (of_call fault)
slot_end (callfaults.Fault operation) = refl
slot_end callfaults.Off = refl

-- How causes go together.

caused_more : (layout : Layout) (m n : ℕ) (fault : UploadFault) (x : Option (List ℕ)) → m ≤ n → Caused layout m fault x → Caused layout n fault x
caused_more layout m n faults.Unformatted x le c = c
caused_more layout m n faults.Worn x le c = IfSome-map (λ held. CanTake (newest_generation (progress_of layout) held) m → ⊥) (λ held. CanTake (newest_generation (progress_of layout) held) n → ⊥) x
    (λ u k take. k (omega arith)) c
caused_more layout m n (faults.Fault operation) x le c = tt
caused_more layout m n faults.Off x le c = tt

told_none : (R : List ℕ → List ℕ → Type 0) (x y : Option (List ℕ)) → Told R x y → y ≡ None → x ≡ None
told_none R None y f e = refl
told_none R (Some u) None f e = absurd f
told_none R (Some u) (Some v) f e = absurd (cc e)

worn_before : (layout : Layout) (m n : ℕ) (x y : Option (List ℕ)) → Told (AgesAtMost m (progress_of layout)) x y → IfSome y (λ held. CanTake (newest_generation (progress_of layout) held) n → ⊥)
    → IfSome x (λ held. CanTake (newest_generation (progress_of layout) held) (m + n) → ⊥)
worn_before layout m n None y f w = tt
worn_before layout m n (Some u) None f w = absurd f
worn_before layout m n (Some u) (Some v) f w = λ take. let most = f.most in w (omega arith)

caused_after : (layout : Layout) (m n : ℕ) (fault : UploadFault) (x y : Option (List ℕ)) → Told (AgesAtMost m (progress_of layout)) x y → Caused layout n fault y → Caused layout (m + n) fault x
caused_after layout m n faults.Unformatted x y f c = told_none (AgesAtMost m (progress_of layout)) x y f c
caused_after layout m n faults.Worn x y f c = worn_before layout m n x y f c
caused_after layout m n (faults.Fault operation) x y f c = tt
caused_after layout m n faults.Off x y f c = tt

result_more : (layout : Layout) (m n : ℕ) (r : Result Reply UploadFault) (x : Option (List ℕ)) → m ≤ n → ResultCaused layout m r x → ResultCaused layout n r x
result_more layout m n (Ok reply) x le c = tt
result_more layout m n (Err fault) x le c = caused_more layout m n fault x le c

result_after : (layout : Layout) (m n : ℕ) (r : Result Reply UploadFault) (x y : Option (List ℕ)) → Told (AgesAtMost m (progress_of layout)) x y → ResultCaused layout n r y → ResultCaused layout (m + n) r x
result_after layout m n (Ok reply) x y f c = tt
result_after layout m n (Err fault) x y f c = caused_after layout m n fault x y f c

-- a call on a slot is never worn
pub slot_caused : (layout : Layout) (n : ℕ) (fault : CallFault) (x : Option (List ℕ)) → Caused layout n (of_call fault) x
slot_caused layout n (callfaults.Fault operation) x = tt
slot_caused layout n callfaults.Off x = tt

-- the cause of a call on a state that needs k records
worn_known : SaysGeneration → (known : Known) (k n : ℕ) (x : Option (List ℕ)) → IfSome x (Says known) → (CanTake known.entry.bank.generation k → ⊥) → k ≤ n → IfSome x (λ held. CanTake (newest_generation (progress_of known.layout) held) n → ⊥)
worn_known law known k n x says w le = IfSome-map (Says known) (λ held. CanTake (newest_generation (progress_of known.layout) held) n → ⊥) x
    (λ u s take. let e : newest_generation (progress_of known.layout) u ≡ known.entry.bank.generation = generation_is law known.layout known.entry u s.place s.record_says in w (omega arith)) says

pub caused_by : SaysGeneration → (known : Known) (k n : ℕ) (fault : UploadFault) (x : Option (List ℕ)) → IfSome x (Says known) → (fault ≡ faults.Unformatted → ⊥) → (fault ≡ faults.Worn → CanTake known.entry.bank.generation k → ⊥) → k ≤ n → Caused known.layout n fault x
caused_by law known k n faults.Unformatted x says f w le = absurd (f refl)
caused_by law known k n faults.Worn x says f w le = worn_known law known k n x says (w refl) le
caused_by law known k n (faults.Fault operation) x says f w le = tt
caused_by law known k n faults.Off x says f w le = tt

-- of whatever side the bytes stand for the response is no error
abbrev pub NoRefusal : Layout → (Side → SideResponse) → Option (List ℕ) → Type 0
NoRefusal layout respond x = IfSome x (λ held. (side : Side) → SideStands layout side held → is_error (respond side).reply ≡ false)

broken_here : (layout : Layout) (n : ℕ) (respond : Side → SideResponse) (held : Held) (fault : UploadFault) (a b : FlashState)
    → held_layout held ≡ layout → is_mounted held ≡ false → Moved layout (mount_spots layout) n (steps_by respond) (upload_fault_end fault) a b → IfSome a.bytes (SideReadable layout) → Caused layout n fault a.bytes → NoRefusal layout respond a.bytes
    → Answers layout n respond (record { held = held; result = Err fault }) a b
broken_here layout n respond held fault a b e un m r c t = record {
  moved = m;
  done = tt;
  said = tt;
  says = IfSome-map (SideReadable layout) (HeldSays held) b.bytes (λ u read. held_unmounted held layout u e un read)
      (readable_after layout (mount_spots layout) n (steps_by respond) (upload_fault_end fault) a b m r);
  layout_kept = e;
  mounted = un;
  caused = c;
  tried = t;
}

pub broken_off : (layout : Layout) (n : ℕ) (respond : Side → SideResponse) (handed : Handed) (fault : UploadFault) (a b : FlashState)
    → Broken layout fault handed → Moved layout (mount_spots layout) n (steps_by respond) (upload_fault_end fault) a b → IfSome a.bytes (SideReadable layout) → Caused layout n fault a.bytes → NoRefusal layout respond a.bytes → Answers layout n respond handed a b
broken_off layout n respond handed fault a b broken m r c t =
    let same : record { held = handed.held; result = Err fault } ≡ handed = (λ i. record { held = handed.held; result = sym broken.failed i }) in
    subst (λ (h : Handed). Answers layout n respond h a b) same (broken_here layout n respond handed.held fault a b broken.layout_kept broken.unmounted m r c t)

-- One call and then another.

told_said : (layout : Layout) (s : Side → List SideStep) (respond : Side → SideResponse) (reply : Reply) (x y : Option (List ℕ))
    → Told (Does layout s) x y → Tells layout respond y reply → Tells layout (responds_after s respond) x reply
told_said layout s respond reply None y f t = tt
told_said layout s respond reply (Some u) None f t = absurd f
told_said layout s respond reply (Some u) (Some v) f t = λ side stands. t (side_applied (s side) side) (shows_stands layout (side_applied (s side) side) v (f.does side stands))

said_after : {E : Type 0} (P Q : Reply → Type 0) (r : Result Reply E) → ((x : Reply) → P x → Q x) → IfOk r P → IfOk r Q
said_after P Q (Ok x) f p = f x p
said_after P Q (Err e) f p = tt

told_tried : (layout : Layout) (s : Side → List SideStep) (respond : Side → SideResponse) (x y : Option (List ℕ))
    → Told (Does layout s) x y → NoRefusal layout respond y → NoRefusal layout (responds_after s respond) x
told_tried layout s respond None y f t = tt
told_tried layout s respond (Some u) None f t = absurd f
told_tried layout s respond (Some u) (Some v) f t = λ side stands. t (side_applied (s side) side) (shows_stands layout (side_applied (s side) side) v (f.does side stands))

tried_after : (layout : Layout) (s : Side → List SideStep) (respond : Side → SideResponse) (r : Result Reply UploadFault) (x y : Option (List ℕ))
    → Told (Does layout s) x y → Tried layout respond r y → Tried layout (responds_after s respond) r x
tried_after layout s respond (Ok reply) x y f t = tt
tried_after layout s respond (Err fault) x y f t = told_tried layout s respond x y f t

pub answers_after : (layout : Layout) (m n : ℕ) (s : Side → List SideStep) (respond : Side → SideResponse) (handed : Handed) (a b c : FlashState)
    → Done layout (mount_spots layout) m s a b → Answers layout n respond handed b c → Answers layout (m + n) (responds_after s respond) handed a c
answers_after layout m n s respond handed a b c f h = record {
  moved = Done-Moved layout (mount_spots layout) m n s (steps_by respond) (result_end handed.result) a b c f h.moved;
  done = on_ok_weaker handed.result (Done-Done layout (mount_spots layout) m n s (steps_by respond) a b c f) h.done;
  said = said_after (Tells layout respond b.bytes) (Tells layout (responds_after s respond) a.bytes) handed.result (λ reply. told_said layout s respond reply a.bytes b.bytes f.does) h.said;
  says = h.says;
  layout_kept = h.layout_kept;
  mounted = h.mounted;
  caused = result_after layout m n handed.result a.bytes b.bytes f.ages h.caused;
  tried = tried_after layout s respond handed.result a.bytes b.bytes f.does h.tried;
}

-- The same response, of the sides that the bytes stand for.
pub record Same (layout : Layout) (one other : Side → SideResponse) (bytes : List ℕ) : Type 0 where
  pub same : (side : Side) → SideStands layout side bytes → one side ≡ other side

Moves-as : (layout : Layout) (one other : Side → SideResponse) (u v : List ℕ) → Same layout one other u → Moves layout (steps_by one) u v → Moves layout (steps_by other) u v
Moves-as layout one other u v same m = record {
  moves = λ side stands. let r = m.moves side stands in record {
    reached = r.reached;
    part = subst (λ (t : SideResponse). SidePart side t.steps r.reached) (same.same side stands) r.part;
    stands = r.stands;
  };
}

Does-as : (layout : Layout) (one other : Side → SideResponse) (u v : List ℕ) → Same layout one other u → Does layout (steps_by one) u v → Does layout (steps_by other) u v
Does-as layout one other u v same m = record { does = λ side stands. subst (λ (t : SideResponse). SideShows layout (side_applied t.steps side) v) (same.same side stands) (m.does side stands) }

Pays-as : (layout : Layout) (one other : Side → SideResponse) (a b : FlashState) → IfSome a.bytes (Same layout one other) → Pays layout (steps_by one) a b → Pays layout (steps_by other) a b
Pays-as layout one other a b same p = record {
  pays = λ side stands is.
      some_and (Same layout one other) (SideStands layout side) (Smaller a.patience b.patience) a.bytes
      (λ u e st. p.pays side stands (subst (λ (t : SideResponse). CountsSteps layout a.aim side t.steps) (sym (e.same side st)) is)) same stands;
}

Done-as : (layout : Layout) (spots : List (ℕ × ℕ)) (n : ℕ) (one other : Side → SideResponse) (a b : FlashState) → IfSome a.bytes (Same layout one other)
    → Done layout spots n (steps_by one) a b → Done layout spots n (steps_by other) a b
Done-as layout spots n one other a b same f = record {
  calls = f.calls;
  does = Told-with (Same layout one other) (Does layout (steps_by one)) (Does layout (steps_by other)) a.bytes b.bytes (Does-as layout one other) same f.does;
  ages = f.ages;
  pending = f.pending;
  pays = Pays-as layout one other a b same f.pays;
}

Moved-as : (layout : Layout) (spots : List (ℕ × ℕ)) (n : ℕ) (one other : Side → SideResponse) (end : End) (a b : FlashState) → IfSome a.bytes (Same layout one other)
    → Moved layout spots n (steps_by one) end a b → Moved layout spots n (steps_by other) end a b
Moved-as layout spots n one other end a b same f = record {
  calls = f.calls;
  moves = Told-with (Same layout one other) (Moves layout (steps_by one)) (Moves layout (steps_by other)) a.bytes b.bytes (Moves-as layout one other) same f.moves;
  ages = f.ages;
  pending = f.pending;
}

tells_as : (layout : Layout) (one other : Side → SideResponse) (reply : Reply) (x : Option (List ℕ)) → IfSome x (Same layout one other) → Tells layout one x reply → Tells layout other x reply
tells_as layout one other reply None same t = tt
tells_as layout one other reply (Some u) same t = λ side stands. t side stands ∙ ap (λ (r : SideResponse). r.reply) (same.same side stands)

pub no_refusal_as : (layout : Layout) (one other : Side → SideResponse) (x : Option (List ℕ)) → IfSome x (Same layout one other) → NoRefusal layout one x → NoRefusal layout other x
no_refusal_as layout one other None same t = tt
no_refusal_as layout one other (Some u) same t = λ side stands. ap (λ (r : SideResponse). is_error r.reply) (sym (same.same side stands)) ∙ t side stands

tried_as : (layout : Layout) (one other : Side → SideResponse) (r : Result Reply UploadFault) (x : Option (List ℕ)) → IfSome x (Same layout one other) → Tried layout one r x → Tried layout other r x
tried_as layout one other (Ok reply) x same t = tt
tried_as layout one other (Err fault) x same t = no_refusal_as layout one other x same t

pub answers_as : (layout : Layout) (n : ℕ) (one other : Side → SideResponse) (handed : Handed) (a b : FlashState) → IfSome a.bytes (Same layout one other)
    → Answers layout n one handed a b → Answers layout n other handed a b
answers_as layout n one other handed a b same f = record {
  moved = Moved-as layout (mount_spots layout) n one other (result_end handed.result) a b same f.moved;
  done = on_ok_weaker handed.result (Done-as layout (mount_spots layout) n one other a b same) f.done;
  said = said_after (Tells layout one a.bytes) (Tells layout other a.bytes) handed.result (λ reply. tells_as layout one other reply a.bytes same) f.said;
  says = f.says;
  layout_kept = f.layout_kept;
  mounted = f.mounted;
  caused = f.caused;
  tried = tried_as layout one other handed.result a.bytes same f.tried;
}

pub Moved-more : (layout : Layout) (spots : List (ℕ × ℕ)) (m n : ℕ) (s : Side → List SideStep) (end : End) (a b : FlashState) → m ≤ n → Moved layout spots m s end a b → Moved layout spots n s end a b
Moved-more layout spots m n s end a b le f = record {
  calls = f.calls;
  moves = f.moves;
  pending = f.pending;
  ages = Told-map (AgesAtMost m (progress_of layout)) (AgesAtMost n (progress_of layout)) a.bytes b.bytes (λ u v. ages_more layout m n u v le) f.ages;
}

pub Done-more : (layout : Layout) (spots : List (ℕ × ℕ)) (m n : ℕ) (s : Side → List SideStep) (a b : FlashState) → m ≤ n → Done layout spots m s a b → Done layout spots n s a b
Done-more layout spots m n s a b le f = record {
  calls = f.calls;
  does = f.does;
  pending = f.pending;
  pays = f.pays;
  ages = Told-map (AgesAtMost m (progress_of layout)) (AgesAtMost n (progress_of layout)) a.bytes b.bytes (λ u v. ages_more layout m n u v le) f.ages;
}

pub answers_more : (layout : Layout) (m n : ℕ) (respond : Side → SideResponse) (handed : Handed) (a b : FlashState) → m ≤ n → Answers layout m respond handed a b → Answers layout n respond handed a b
answers_more layout m n respond handed a b le f = record {
  moved = Moved-more layout (mount_spots layout) m n (steps_by respond) (result_end handed.result) a b le f.moved;
  done = on_ok_weaker handed.result (Done-more layout (mount_spots layout) m n (steps_by respond) a b le) f.done;
  said = f.said;
  says = f.says;
  layout_kept = f.layout_kept;
  mounted = f.mounted;
  caused = result_more layout m n handed.result a.bytes le f.caused;
  tried = f.tried;
}

-- Answered, and nothing changes.
pub record Plain (layout : Layout) (respond : Side → SideResponse) (said : Said) (bytes : List ℕ) : Type 0 where
  pub plain : (side : Side) → SideStands layout side bytes → respond side ≡ side_responds said []

idles_plain : OneSide → (known : Known) (respond : Side → SideResponse) (said : Said) (bytes : List ℕ) → Says known bytes → Plain known.layout respond said bytes → Idles known.layout (steps_by respond) bytes
idles_plain one known respond said bytes s p = record { idles = λ side stands. (ap (λ (r : SideResponse). r.steps) (p.plain side stands), says_shows one known side bytes s stands) }

pub both_some : (P Q R : List ℕ → Type 0) (x : Option (List ℕ)) → ((u : List ℕ) → P u → Q u → R u) → IfSome x P → IfSome x Q → IfSome x R
both_some P Q R None step p q = tt
both_some P Q R (Some u) step p q = step u p q

tells_plain : (layout : Layout) (respond : Side → SideResponse) (reply : Reply) (x : Option (List ℕ)) → IfSome x (Plain layout respond (said_of reply)) → Tells layout respond x reply
tells_plain layout respond reply None p = tt
tells_plain layout respond reply (Some u) p = λ side stands. sym (ap (λ (r : SideResponse). r.reply) (p.plain side stands))

-- after calls that changed no byte
pub answered_then : OneSide → (m : Mounted) (n : ℕ) (respond : Side → SideResponse) (reply : Reply) (handed : Handed) (a b : FlashState) → handed ≡ record { held = helds.Mounted m; result = Ok reply }
    → Calls (mount_spots (known_mounted m).layout) Went a b → b.bytes ≡ a.bytes
    → IfSome a.bytes (Says (known_mounted m)) → IfSome a.bytes (Plain (known_mounted m).layout respond (said_of reply)) → Answers (known_mounted m).layout n respond handed a b
answered_then one m n respond reply handed a b e calls kept says p =
    let known = known_mounted m in
    let l = known.layout in
    let done = Done-none l (mount_spots l) n (steps_by respond) a b calls kept
    (both_some (Says known) (Plain l respond (said_of reply)) (Idles l (steps_by respond)) a.bytes (idles_plain one known respond (said_of reply)) says p) in
    let here : Answers l n respond (record { held = helds.Mounted m; result = Ok reply }) a b = record {
      moved = Done-is l (mount_spots l) n (steps_by respond) a b done;
      done = done;
      said = tells_plain l respond reply a.bytes p;
      says = subst (λ (x : Option (List ℕ)). IfSome x (Says known)) (sym kept) says;
      layout_kept = refl;
      mounted = refl;
      caused = tt;
      tried = tt;
    } in
    subst (λ (h : Handed). Answers l n respond h a b) (sym e) here

-- at once
pub answered : OneSide → (m : Mounted) (n : ℕ) (respond : Side → SideResponse) (reply : Reply) (handed : Handed) (a : FlashState) → handed ≡ record { held = helds.Mounted m; result = Ok reply }
    → IfSome a.bytes (Says (known_mounted m)) → ((bytes : List ℕ) → Says (known_mounted m) bytes → Plain (known_mounted m).layout respond (said_of reply) bytes) → Answers (known_mounted m).layout n respond handed a a
answered one m n respond reply handed a e says plain =
    let known = known_mounted m in
    answered_then one m n respond reply handed a a e (Calls-refl (mount_spots known.layout) a) refl says
    (IfSome-map (Says known) (Plain known.layout respond (said_of reply)) a.bytes plain says)

-- The cause of a mount that is lost.

records_least : (layout : Layout) (rescue : Bool) (up : Option Upload) (bytes : List ℕ) → mount_records layout rescue up bytes ≤ 2
records_least layout rescue None bytes = omega arith
records_least layout true (Some u) bytes = omega arith
records_least layout false (Some u) bytes = by_two (is_spoiled (Some u)) (is_unclean layout u bytes)
  where
    by_two : (b c : Bool) → (if b then 1 else if c then 2 else 0) ≤ 2
    by_two true c = omega arith
    by_two false true = omega arith
    by_two false false = omega arith

mount_worn : (layout : Layout) (u : List ℕ) → IsWorn layout u → CanTake (newest_generation (progress_of layout) u) 2 → ⊥
mount_worn layout u w take =
    let s = w.0.stands in
    let n = mount_records layout s.rescue w.0.side.upload u in
    let le : n ≤ 2 = records_least layout s.rescue w.0.side.upload u in
    w.1 n (record { rescue = s.rescue; side = w.0.side; stands = s.stands; needed = refl }) (omega arith)

told_readable : (layout : Layout) (x : Option (List ℕ)) → IfSome x (SideReadable layout) → IfSome x (λ held. SideReadable layout held → ⊥) → x ≡ None
told_readable layout None r w = refl
told_readable layout (Some u) r w = absurd (w r)

mount_caused : (layout : Layout) (fault : UploadFault) (x : Option (List ℕ)) → IfSome x (SideReadable layout)
    → (fault ≡ faults.Unformatted → IfSome x (λ held. SideReadable layout held → ⊥)) → (fault ≡ faults.Worn → IfSome x (IsWorn layout)) → Caused layout 2 fault x
mount_caused layout faults.Unformatted x r f w = told_readable layout x r (f refl)
mount_caused layout faults.Worn x r f w = IfSome-map (IsWorn layout) (λ held. CanTake (newest_generation (progress_of layout) held) 2 → ⊥) x (mount_worn layout) (w refl)
mount_caused layout (faults.Fault operation) x r f w = tt
mount_caused layout faults.Off x r f w = tt

pub mount_lost : (held : Held) (u : Unmounted) (result : Result Mounted Lost) (x : Option (List ℕ)) → held ≡ helds.Unmounted u → IfSome x (HeldSays held)
    → IfErr result (λ lost. lost.fault ≡ faults.Unformatted → IfSome x (λ bytes. SideReadable u.layout bytes → ⊥))
    → IfErr result (λ lost. lost.fault ≡ faults.Worn → IfSome x (IsWorn u.layout))
    → IfErr result (λ lost. Caused (held_layout held) 2 lost.fault x)
mount_lost held u (Ok m) x e says f w = tt
mount_lost held u (Err lost) x e says f w =
    subst (λ (h : Held). Caused (held_layout h) 2 lost.fault x) (sym e) (mount_caused u.layout lost.fault x (subst (λ (h : Held). IfSome x (HeldSays h)) e says) f w)
