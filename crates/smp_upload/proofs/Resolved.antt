-- A complete upload is settled.
use Rattle.std.proofs.Common.{◌≡◌, inl, inr, ℕ, ◌+◌, Bool, true, false, Option, Some, None, List, [], ◌∷◌, length, refl, sym, ◌∙◌, ap, subst, arith, ◌&&◌, if◌then◌else◌}
use Rattle.std.specs.Prelude.{IfSome, IsSome, IsSomeAnd, option_map, not, ◌==◌}
use Rattle.std.proofs.lemmas.Bool.Decides.{nat_tests}
use Rattle.sha2.specs.Sha256.{sha256}
use Rattle.smp_flash.specs.Area.{area, spot, Keeps, Told}
use Rattle.smp_flash.specs.Calls.{Calls, Smaller}
use Rattle.smp_flash.specs.Geometry.{slot_size}
use Rattle.smp_flash.specs.Layout.{geometry_of, slot_of, progress_of, area_spot, upload_spots}
use Rattle.smp_flash.specs.State.{FlashState, End}
use Rattle.smp_flash.specs.State.End.{Went}
use Rattle.smp_flash.specs.declared.layout.Layout.{Layout}
use Rattle.smp_flash.specs.declared.region.Region.{Region}
use Rattle.smp_flash.proofs.Passing.{Calls-wider, Calls-after, Calls-refl, Covers-within, then_Smaller}
use Rattle.smp_flash.proofs.Telling.{Told-with, Told-both, Told-same, Told-from, IfSome-map}
use Rattle.smp_gate.specs.Newest.{sides, AgesAtMost}
use Rattle.smp_model.specs.declared.device.Side.{Side}
use Rattle.smp_model.specs.declared.device.Upload.{Upload}
use Rattle.smp_model.specs.declared.image.ImageInfo.{ImageInfo}
use Rattle.smp_model.specs.declared.upload.Announcement.{Announcement}
use Rattle.smp_model.specs.Image.{good_image}
use Rattle.smp_model.specs.Said as said
use Rattle.smp_model.specs.Sides.{SideStep, Drop, SidePart, side_applied, side_settle_steps}
use Rattle.smp_model.specs.Uploads.{is_spoiled, is_complete, differs, uploaded_image}
use Rattle.smp_progress.specs.Cells.{HasRecord, OldOrThis}
use Rattle.smp_progress.specs.State.{ProgressState, ProgressSays, AimsAtRecord}
use Rattle.smp_progress.specs.declared.record.Record.TheVariants as records
use Rattle.smp_tlv.specs.Carried.{Carries}
use Rattle.smp_tlv.specs.declared.carried.Carried.{Carried}
use Rattle.smp_upload.specs.Bytes.{SideStandsAs, SideStands, SideShows, Accepts}
use Rattle.smp_upload.specs.Counting.{CountsSteps}
use Rattle.smp_upload.specs.Faults.{upload_fault_end}
use Rattle.smp_upload.specs.declared.states.UploadFault.{UploadFault}
use Rattle.smp_upload.specs.declared.states.UploadFault.TheVariants as faults
use Rattle.smp_upload.specs.Moves.{Moves, Does, KeepsPending, Moved, Done}
use Rattle.smp_upload.specs.Rescuing.{HeldAs}
use Rattle.smp_upload.specs.States.{Known, Says, Sums}
use Rattle.smp_upload.specs.Storing.{StandsClean, Filled, Spoils, Settled, matched_of, settle_records, misses}
use Rattle.smp_upload.proofs.Composing.{part_none, part_whole}
use Rattle.smp_upload.proofs.Putting.{put_reached, as_after, fixed_sides, told_pending_sides, sides_Calls, good_free}
use Rattle.smp_upload.proofs.Sides.{OneSide}
use Rattle.smp_upload.proofs.Stored.{Found, found}
use Rattle.smp_upload.proofs.Tellings.{told_three, new_three, if_both, same_if, some_told}

pub filled_held : (layout : Layout) (p : ProgressState) (a : Announcement) (o : ℕ) (sums : Carried) (bytes : List ℕ) → Filled layout p a o sums bytes → HeldAs layout false p a o bytes
filled_held layout p a o sums bytes f = record { side = f.side; stands = f.stands.stands; upload = f.upload; free = f.free; record_says = f.record_says }

pub told_held : (layout : Layout) (p : ProgressState) (a : Announcement) (o : ℕ) (sums : Carried) (x y : Option (List ℕ)) → y ≡ x → IfSome x (Filled layout p a o sums) → IfSome y (HeldAs layout false p a o)
told_held layout p a o sums x y same f = subst (λ (o1 : Option (List ℕ)). IfSome o1 (HeldAs layout false p a o)) (sym same) (IfSome-map (Filled layout p a o sums) (HeldAs layout false p a o) x (λ u ff. filled_held layout p a o sums u ff) f)

pub told_held_says : (layout : Layout) (rescue : Bool) (p : ProgressState) (a : Announcement) (o : ℕ) (x : Option (List ℕ)) → IfSome x (HeldAs layout rescue p a o) → IfSome x (ProgressSays p)
told_held_says layout rescue p a o x h = IfSome-map (HeldAs layout rescue p a o) (ProgressSays p) x (λ u hh. hh.record_says) h

-- the side that such bytes stand for
pub held_free : OneSide → (layout : Layout) (rescue : Bool) (p : ProgressState) (a : Announcement) (o : ℕ) (side : Side) (bytes : List ℕ) → HeldAs layout rescue p a o bytes → SideStands layout side bytes → side.pending ≡ None
held_free one layout rescue p a o side bytes f st =
    subst (λ (x : Side). x.pending ≡ None) (one layout f.side side bytes (record { rescue = rescue; stands = f.stands }) st) f.free

pub held_upload : OneSide → (layout : Layout) (rescue : Bool) (p : ProgressState) (a : Announcement) (o : ℕ) (side : Side) (bytes : List ℕ) → HeldAs layout rescue p a o bytes → SideStands layout side bytes → Found side.upload (record { announcement = a; offset = o })
held_upload one layout rescue p a o side bytes f st =
    subst (λ (x : Side). Found x.upload (record { announcement = a; offset = o })) (one layout f.side side bytes (record { rescue = rescue; stands = f.stands }) st) (found f.side.upload (record { announcement = a; offset = o }) f.upload)

pub filled_side : OneSide → (layout : Layout) (p : ProgressState) (a : Announcement) (o : ℕ) (sums : Carried) (side : Side) (bytes : List ℕ) → Filled layout p a o sums bytes → SideStands layout side bytes → StandsClean layout side bytes
filled_side one layout p a o sums side bytes f st =
    subst (λ (x : Side). StandsClean layout x bytes) (one layout f.side side bytes (record { rescue = false; stands = f.stands.stands }) st) f.stands

pub filled_upload : OneSide → (layout : Layout) (p : ProgressState) (a : Announcement) (o : ℕ) (sums : Carried) (side : Side) (bytes : List ℕ) → Filled layout p a o sums bytes → SideStands layout side bytes → Found side.upload (record { announcement = a; offset = o })
filled_upload one layout p a o sums side bytes f st = held_upload one layout false p a o side bytes (filled_held layout p a o sums bytes f) st

-- the steps of settling by whether it is due
abbrev pub due : Bool → List SideStep
due spoiled = if spoiled then Drop ∷ [] else []

-- nothing changed
pub whole_shows : OneSide → (layout : Layout) (p : ProgressState) (a : Announcement) (o : ℕ) (sums : Carried) (side : Side) (bytes : List ℕ) → Filled layout p a o sums bytes → Spoils layout false bytes → SideStands layout side bytes → SideShows layout side bytes
whole_shows one layout p a o sums side bytes f right st =
    let c = filled_side one layout p a o sums side bytes f st in
    record { stands = c.stands; settled = right side st; clean = c.clean }

whole_does : OneSide → (layout : Layout) (p : ProgressState) (a : Announcement) (o : ℕ) (sums : Carried) (bytes : List ℕ) → Filled layout p a o sums bytes → Spoils layout false bytes → Does layout side_settle_steps bytes bytes
whole_does one layout p a o sums bytes f right = record {
  does = λ side st.
      subst (λ (b : Bool). SideShows layout (side_applied (due b) side) bytes) (sym (right side st)) (whole_shows one layout p a o sums side bytes f right st);
}

pub same_ages : (layout : Layout) (n : ℕ) (bytes : List ℕ) → AgesAtMost n (progress_of layout) bytes bytes
same_ages layout n bytes = record { kept = omega arith; most = omega arith }

pub same_pending : (layout : Layout) (bytes : List ℕ) → KeepsPending layout bytes bytes
same_pending layout bytes = record { kept = λ is. refl; still = λ is. refl }

pub same_moves : (layout : Layout) (steps : Side → List SideStep) (bytes : List ℕ) → Moves layout steps bytes bytes
same_moves layout steps bytes = record { moves = λ side st. record { reached = side; part = part_none side (steps side); stands = st } }

pub slot_1_Calls : (layout : Layout) (end : End) (p q : FlashState) → Calls (area_spot (slot_of layout 1) ∷ []) end p q → Calls (upload_spots layout) end p q
slot_1_Calls layout end p q calls =
    let s = slot_size (geometry_of layout) in
    let at = (slot_of layout 1).at in
    Calls-wider (upload_spots layout) (spot at s) end p q (Covers-within at s at (s + 8192 + (geometry_of layout).page) (omega arith) (omega arith)) calls

-- a call that read alone
pub read_moved : (layout : Layout) (spots : List (ℕ × ℕ)) (n : ℕ) (steps : Side → List SideStep) (end : End) (p q : FlashState) → Calls spots end p q → q.bytes ≡ p.bytes → Moved layout spots n steps end p q
read_moved layout spots n steps end p q calls same = record {
  calls = calls;
  moves = Told-same (Moves layout steps) p.bytes q.bytes (same_moves layout steps) same;
  ages = Told-same (AgesAtMost n (progress_of layout)) p.bytes q.bytes (same_ages layout n) same;
  pending = Told-same (KeepsPending layout) p.bytes q.bytes (same_pending layout) same;
}

-- a call that was worn before it did anything
pub worn_moved : (layout : Layout) (spots : List (ℕ × ℕ)) (n : ℕ) (steps : Side → List SideStep) (f : UploadFault) (s : FlashState) → f ≡ faults.Worn → Moved layout spots n steps (upload_fault_end f) s s
worn_moved layout spots n steps f s e = subst (λ (end : End). Moved layout spots n steps end s s) (sym (ap upload_fault_end e)) (read_moved layout spots n steps Went s s (Calls-refl spots s) refl)

pub none_due : (layout : Layout) (aim : Option Region) (side : Side) (b : Bool) → b ≡ false → CountsSteps layout aim side (due b) → ⊥
none_due layout aim side true e is = cc e
none_due layout aim side false e is = is

pub whole_done : OneSide → (layout : Layout) (p : ProgressState) (a : Announcement) (o : ℕ) (sums : Carried) (s t : FlashState) → IfSome s.bytes (Filled layout p a o sums) → IfSome s.bytes (Spoils layout false) → Calls (upload_spots layout) Went s t → t.bytes ≡ s.bytes
    → Done layout (upload_spots layout) 1 side_settle_steps s t
whole_done one layout p a o sums s t f right calls same = record {
  calls = calls;
  does = same_if (λ u. Filled layout p a o sums u × Spoils layout false u) (Does layout side_settle_steps) s.bytes t.bytes (λ u both. whole_does one layout p a o sums u both.0 both.1) (if_both (Filled layout p a o sums) (Spoils layout false) s.bytes f right) same;
  ages = Told-same (AgesAtMost 1 (progress_of layout)) s.bytes t.bytes (same_ages layout 1) same;
  pending = Told-same (KeepsPending layout) s.bytes t.bytes (same_pending layout) same;
  pays = record { pays = λ side st is. some_told (Spoils layout false) (SideStands layout side) s.bytes (Smaller s.patience t.patience) right st (λ u r stands. absurd (none_due layout s.aim side (is_spoiled side.upload) (r side stands) is)) };
}

pub same_settled : (layout : Layout) (x y : Option (List ℕ)) → y ≡ x → Told (Settled layout) x y
same_settled layout x y same = Told-same (Settled layout) x y (λ u side st. same_ages layout (settle_records side.upload) u) same

pub complete_by : (u : Upload) (a : Announcement) → u.announcement ≡ a → length u.accepted ≡ a.length → is_complete u ≡ true
complete_by u a e n =
    let same : length u.accepted ≡ u.announcement.length = n ∙ ap (λ (b : Announcement). b.length) (sym e) in
    equal_is (length u.accepted) u.announcement.length same
  where
    equal_is : (m n : ℕ) → m ≡ n → (m == n) ≡ true
    equal_is m n e = grind (arith, nat_tests)

pub image_when : (u : Upload) → is_complete u ≡ true → is_spoiled (Some u) ≡ false → uploaded_image (Some u) ≡ good_image u.accepted
image_when u done right = by_tests (is_complete u) (differs u.announcement.digest u.accepted) (good_image u.accepted) done right
  where
    by_tests : (c d : Bool) (image : Option ImageInfo) → c ≡ true → (c && d) ≡ false → (if c && not d then image else None) ≡ image
    by_tests true true image e f = absurd (cc f)
    by_tests true false image e f = refl
    by_tests false d image e f = absurd (cc e)

accepted_at : (layout : Layout) (u : Upload) (n : ℕ) (bytes : List ℕ) → length u.accepted ≡ n → Accepts layout false (Some u) bytes → u.accepted ≡ area (slot_of layout 1).at n bytes
accepted_at layout u n bytes e h = h ∙ ap (λ (m : ℕ). area (slot_of layout 1).at m bytes) e

-- what is known of an upload that is whole
abbrev pub known_full : Layout → ProgressState → Announcement → Option ImageInfo → Known
known_full layout p a image = record { layout = layout; entry = p; upload = Some (record { announcement = a; offset = a.length }); pending = None; image = image; sums = None }

whole_says : OneSide → (layout : Layout) (p : ProgressState) (a : Announcement) (sums : Carried) (image : Option ImageInfo) (bytes : List ℕ) → p.layout ≡ layout → Filled layout p a a.length sums bytes → Spoils layout false bytes → image ≡ good_image (area (slot_of layout 1).at a.length bytes)
    → Says (known_full layout p a image) bytes
whole_says one layout p a sums image bytes place f right is =
    let st : SideStands layout f.side bytes = record { rescue = false; stands = f.stands.stands } in
    let up = found f.side.upload (record { announcement = a; offset = a.length }) f.upload in
    let spoiled : is_spoiled (Some up.u) ≡ false = subst (λ (x : Option Upload). is_spoiled x ≡ false) up.is (right f.side st) in
    let accepts : Accepts layout false (Some up.u) bytes = subst (λ (x : Option Upload). Accepts layout false x bytes) up.is f.stands.stands.accepts in
    let shown : uploaded_image (Some up.u) ≡ image = image_when up.u (complete_by up.u a up.announcement up.offset) spoiled ∙ ap good_image (accepted_at layout up.u a.length bytes up.offset accepts) ∙ sym is in
    record {
      side = f.side;
      shows = whole_shows one layout p a a.length sums f.side bytes f right st;
      knows = record { upload = f.upload; pending = sym f.free; image = sym (ap uploaded_image up.is ∙ shown); sums = tt };
      record_says = f.record_says;
      place = place;
    }

pub told_whole : OneSide → (layout : Layout) (p : ProgressState) (a : Announcement) (sums : Carried) (image : Option ImageInfo) (x y : Option (List ℕ)) → p.layout ≡ layout → IfSome x (Filled layout p a a.length sums) → IfSome x (Spoils layout false) → IfSome x (λ held. image ≡ good_image (area (slot_of layout 1).at a.length held)) → y ≡ x
    → IfSome y (Says (known_full layout p a image))
told_whole one layout p a sums image x y place f right is same =
    subst (λ (o : Option (List ℕ)). IfSome o (Says (known_full layout p a image))) (sym same)
    (IfSome-map (λ u. Filled layout p a a.length sums u × (Spoils layout false u × (image ≡ good_image (area (slot_of layout 1).at a.length u)))) (Says (known_full layout p a image)) x (λ u q. whole_says one layout p a sums image u place q.0 q.1.0 q.1.1)
    (if_both (Filled layout p a a.length sums) (λ u. Spoils layout false u × (image ≡ good_image (area (slot_of layout 1).at a.length u))) x f (if_both (Spoils layout false) (λ u. image ≡ good_image (area (slot_of layout 1).at a.length u)) x right is)))

matched_when : (u : Upload) (a : Announcement) (b : Bool) → u.announcement ≡ a → is_spoiled (Some u) ≡ b → matched_of (Some u) ≡ option_map (λ digest. not b) a.digest
matched_when u a b e s = λ i. option_map (λ digest. not (s i)) (e i).digest

matched_as : OneSide → (layout : Layout) (p : ProgressState) (a : Announcement) (b : Bool) (matched : Option Bool) (side : Side) (bytes : List ℕ) → HeldAs layout false p a a.length bytes → Spoils layout b bytes → matched ≡ option_map (λ digest. not b) a.digest → SideStands layout side bytes
    → matched ≡ matched_of side.upload
matched_as one layout p a b matched side bytes f spoils is st =
    let up = held_upload one layout false p a a.length side bytes f st in
    is ∙ sym (ap matched_of up.is ∙ matched_when up.u a b up.announcement (subst (λ (x : Option Upload). is_spoiled x ≡ b) up.is (spoils side st)))

pub said_whole : OneSide → (layout : Layout) (p : ProgressState) (a : Announcement) (b : Bool) (matched : Option Bool) (x : Option (List ℕ)) → IfSome x (HeldAs layout false p a a.length) → IfSome x (Spoils layout b) → matched ≡ option_map (λ digest. not b) a.digest
    → IfSome x (λ held. (side : Side) → SideStands layout side held → said.offset a.length matched ≡ said.offset a.length (matched_of side.upload))
said_whole one layout p a b matched x f spoils is =
    IfSome-map (λ u. HeldAs layout false p a a.length u × Spoils layout b u) (λ held. (side : Side) → SideStands layout side held → said.offset a.length matched ≡ said.offset a.length (matched_of side.upload)) x
    (λ u q side st. ap (λ (m : Option Bool). said.offset a.length m) (matched_as one layout p a b matched side u q.0 q.1 is st))
    (if_both (HeldAs layout false p a a.length) (Spoils layout b) x f spoils)

-- the upload is given up
drop_part : (side : Side) (b : Bool) → b ≡ true → SidePart side (due b) (record side { upload = None })
drop_part side true e = part_whole side (Drop ∷ [])
drop_part side false e = absurd (cc e)

drop_moves : OneSide → (layout : Layout) (p : ProgressState) (a : Announcement) (old new : List ℕ) → HeldAs layout false p a a.length old → Spoils layout true old → Keeps (sides (progress_of layout)) old new → OldOrThis layout records.None old new → Moves layout side_settle_steps old new
drop_moves one layout p a old new f wrong k either = record {
  moves = λ side st.
      put_reached layout side (side_settle_steps side) false None old new st k either tt (good_free side.pending None (held_free one layout false p a a.length side old f st)) (drop_part side (is_spoiled side.upload) (wrong side st));
}

pub none_shows : (layout : Layout) (r : Bool) (side : Side) (old new : List ℕ) → side.pending ≡ None → SideStandsAs layout r side old → Keeps (sides (progress_of layout)) old new → HasRecord layout records.None new → SideShows layout (record side { upload = None }) new
none_shows layout r side old new free st k has = record { stands = as_after layout r false side None old new (fixed_sides layout old new k) st has tt (good_free side.pending None free); settled = refl; clean = tt }

drop_does : OneSide → (layout : Layout) (p : ProgressState) (a : Announcement) (old new : List ℕ) → HeldAs layout false p a a.length old → Spoils layout true old → Keeps (sides (progress_of layout)) old new → HasRecord layout records.None new → Does layout side_settle_steps old new
drop_does one layout p a old new f wrong k has = record {
  does = λ side st.
      subst (λ (b : Bool). SideShows layout (side_applied (due b) side) new) (sym (wrong side st)) (none_shows layout st.rescue side old new (held_free one layout false p a a.length side old f st) st.stands k has);
}

-- what is known without an upload
abbrev pub known_none : Layout → ProgressState → Known
known_none layout p = record { layout = layout; entry = p; upload = None; pending = None; image = None; sums = None }

drop_says : (layout : Layout) (p next : ProgressState) (a : Announcement) (old new : List ℕ) → next.layout ≡ layout → HeldAs layout false p a a.length old → Keeps (sides (progress_of layout)) old new → HasRecord layout records.None new → ProgressSays next new → Says (known_none layout next) new
drop_says layout p next a old new place f k has says = record {
  side = record f.side { upload = None };
  shows = none_shows layout false f.side old new f.free f.stands k has;
  knows = record { upload = refl; pending = sym f.free; image = refl; sums = tt };
  record_says = says;
  place = place;
}

pub told_dropped : (layout : Layout) (p next : ProgressState) (a : Announcement) (x y : Option (List ℕ)) → next.layout ≡ layout → IfSome x (HeldAs layout false p a a.length) → Told (Keeps (sides (progress_of layout))) x y → IfSome y (HasRecord layout records.None) → IfSome y (ProgressSays next)
    → IfSome y (Says (known_none layout next))
told_dropped layout p next a x y place f k has says =
    new_three (HeldAs layout false p a a.length) (Keeps (sides (progress_of layout))) (λ u. HasRecord layout records.None u × ProgressSays next u) (Says (known_none layout next)) x y
    (λ u v h kk both. drop_says layout p next a u v place h kk both.0 both.1) f k (if_both (HasRecord layout records.None) (ProgressSays next) y has says)

pub drop_moved : OneSide → (layout : Layout) (p : ProgressState) (a : Announcement) (end : End) (s t : FlashState) → IfSome s.bytes (HeldAs layout false p a a.length) → IfSome s.bytes (Spoils layout true) → Calls (sides (progress_of layout)) end s t → Told (OldOrThis layout records.None) s.bytes t.bytes
    → Told (AgesAtMost 1 (progress_of layout)) s.bytes t.bytes → Moved layout (upload_spots layout) 1 side_settle_steps end s t
drop_moved one layout p a end s t f wrong calls either ages = record {
  calls = sides_Calls layout end s t calls;
  moves = Told-with (λ u. HeldAs layout false p a a.length u × Spoils layout true u) (λ u v. Keeps (sides (progress_of layout)) u v × OldOrThis layout records.None u v) (Moves layout side_settle_steps) s.bytes t.bytes
      (λ u v both k. drop_moves one layout p a u v both.0 both.1 k.0 k.1) (if_both (HeldAs layout false p a a.length) (Spoils layout true) s.bytes f wrong) (Told-both (Keeps (sides (progress_of layout))) (OldOrThis layout records.None) s.bytes t.bytes calls.keeps either);
  ages = ages;
  pending = told_pending_sides layout s.bytes t.bytes calls.keeps;
}

pub counts_due : (layout : Layout) (aim : Option Region) (side : Side) (b : Bool) → CountsSteps layout aim side (due b) → AimsAtRecord layout aim
counts_due layout aim side false is = absurd is
counts_due layout aim side true is = elim is [ inl now ↦ now.1 | inr none ↦ absurd none ]

pub drop_done : OneSide → (layout : Layout) (p : ProgressState) (a : Announcement) (s t : FlashState) → IfSome s.bytes (HeldAs layout false p a a.length) → IfSome s.bytes (Spoils layout true) → Calls (sides (progress_of layout)) Went s t → IfSome t.bytes (HasRecord layout records.None)
    → Told (AgesAtMost 1 (progress_of layout)) s.bytes t.bytes → (AimsAtRecord layout s.aim → Smaller s.patience t.patience) → Done layout (upload_spots layout) 1 side_settle_steps s t
drop_done one layout p a s t f wrong calls has ages pays = record {
  calls = sides_Calls layout Went s t calls;
  does = told_three (λ u. HeldAs layout false p a a.length u × Spoils layout true u) (Keeps (sides (progress_of layout))) (HasRecord layout records.None) (Does layout side_settle_steps) s.bytes t.bytes
      (λ u v both k h. drop_does one layout p a u v both.0 both.1 k h) (if_both (HeldAs layout false p a a.length) (Spoils layout true) s.bytes f wrong) calls.keeps has;
  ages = ages;
  pending = told_pending_sides layout s.bytes t.bytes calls.keeps;
  pays = record { pays = λ side st is. pays (counts_due layout s.aim side (is_spoiled side.upload) is) };
}

settled_one : (layout : Layout) (old new : List ℕ) → Spoils layout true old → AgesAtMost 1 (progress_of layout) old new → Settled layout old new
settled_one layout old new wrong ages side st = subst (λ (b : Bool). AgesAtMost (if b then 1 else 0) (progress_of layout) old new) (sym (wrong side st)) ages

pub told_settled : (layout : Layout) (x y : Option (List ℕ)) → IfSome x (Spoils layout true) → Told (AgesAtMost 1 (progress_of layout)) x y → Told (Settled layout) x y
told_settled layout x y wrong ages = Told-with (Spoils layout true) (AgesAtMost 1 (progress_of layout)) (Settled layout) x y (settled_one layout) wrong ages

-- a read before
pub moved_after : (layout : Layout) (spots : List (ℕ × ℕ)) (n : ℕ) (steps : Side → List SideStep) (end : End) (p q r : FlashState) → Calls spots Went p q → q.bytes ≡ p.bytes → Moved layout spots n steps end q r → Moved layout spots n steps end p r
moved_after layout spots n steps end p q r calls same m = record {
  calls = Calls-after spots end p q r calls m.calls;
  moves = Told-from (Moves layout steps) p.bytes q.bytes r.bytes same m.moves;
  ages = Told-from (AgesAtMost n (progress_of layout)) p.bytes q.bytes r.bytes same m.ages;
  pending = Told-from (KeepsPending layout) p.bytes q.bytes r.bytes same m.pending;
}

pub done_after : (layout : Layout) (spots : List (ℕ × ℕ)) (n : ℕ) (steps : Side → List SideStep) (p q r : FlashState) → Calls spots Went p q → q.bytes ≡ p.bytes → Done layout spots n steps q r → Done layout spots n steps p r
done_after layout spots n steps p q r calls same m = record {
  calls = Calls-after spots Went p q r calls m.calls;
  does = Told-from (Does layout steps) p.bytes q.bytes r.bytes same m.does;
  ages = Told-from (AgesAtMost n (progress_of layout)) p.bytes q.bytes r.bytes same m.ages;
  pending = Told-from (KeepsPending layout) p.bytes q.bytes r.bytes same m.pending;
  pays = record {
    pays = λ side st is. then_Smaller p.patience q.patience r.patience calls.passes.patience
        (m.pays.pays side (subst (λ (o : Option (List ℕ)). IsSomeAnd o (SideStands layout side)) (sym same) st) (subst (λ (aim : Option Region). CountsSteps layout aim side (steps side)) (sym calls.passes.aim) is));
  };
}

-- what the digest tells
pub misses_is : (digest : Option (List ℕ)) (bytes : List ℕ) → differs digest bytes ≡ misses digest (sha256 bytes)
misses_is None bytes = refl
misses_is (Some d) bytes = refl

spoils_by : OneSide → (layout : Layout) (p : ProgressState) (a : Announcement) (hash : List ℕ) (b : Bool) (bytes : List ℕ) → HeldAs layout false p a a.length bytes → hash ≡ sha256 (area (slot_of layout 1).at a.length bytes) → misses a.digest hash ≡ b → Spoils layout b bytes
spoils_by one layout p a hash b bytes f h t side st =
    let up = held_upload one layout false p a a.length side bytes f st in
    let s : SideStandsAs layout false side bytes = subst (λ (x : Side). SideStandsAs layout false x bytes) (one layout f.side side bytes (record { rescue = false; stands = f.stands }) st) f.stands in
    let u = up.u in
    let accepts : Accepts layout false (Some u) bytes = subst (λ (x : Option Upload). Accepts layout false x bytes) up.is s.accepts in
    let sum : sha256 u.accepted ≡ hash = ap sha256 (accepted_at layout u a.length bytes up.offset accepts) ∙ sym h in
    let d : differs u.announcement.digest u.accepted ≡ b = misses_is u.announcement.digest u.accepted ∙ (λ i. misses (up.announcement i).digest (sum i)) ∙ t in
    ap is_spoiled up.is ∙ (λ i. complete_by u a up.announcement up.offset i && d i)

pub told_spoils : OneSide → (layout : Layout) (p : ProgressState) (a : Announcement) (hash : List ℕ) (b : Bool) (x y : Option (List ℕ)) → IfSome x (HeldAs layout false p a a.length) → IfSome x (λ held. hash ≡ sha256 (area (slot_of layout 1).at a.length held)) → misses a.digest hash ≡ b → y ≡ x → IfSome y (Spoils layout b)
told_spoils one layout p a hash b x y f h t same = subst (λ (o : Option (List ℕ)). IfSome o (Spoils layout b)) (sym same)
    (IfSome-map (λ u. HeldAs layout false p a a.length u × (hash ≡ sha256 (area (slot_of layout 1).at a.length u))) (Spoils layout b) x (λ u q. spoils_by one layout p a hash b u q.0 q.1 t) (if_both (HeldAs layout false p a a.length) (λ u. hash ≡ sha256 (area (slot_of layout 1).at a.length u)) x f h))

-- a digest that is missed was announced
pub missed_there : (digest : Option (List ℕ)) (hash : List ℕ) → misses digest hash ≡ true → IsSome digest
missed_there None hash e = absurd (cc e)
missed_there (Some d) hash e = refl

pub digest_there : (digest : Option (List ℕ)) → IsSome digest → Some false ≡ option_map (λ (d : List ℕ). false) digest
digest_there None is = absurd (cc is)
digest_there (Some x) is = refl

-- the sums are of the bytes that stand in the slot
pub told_carries : (layout : Layout) (p : ProgressState) (a : Announcement) (o : ℕ) (sums : Carried) (x : Option (List ℕ)) → IfSome x (Filled layout p a o sums) → IfSome x (λ held. Carries sums (area (slot_of layout 1).at o held))
told_carries layout p a o sums x f = IfSome-map (Filled layout p a o sums) (λ held. Carries sums (area (slot_of layout 1).at o held)) x (λ u ff.
    let up = found ff.side.upload (record { announcement = a; offset = o }) ff.upload in
    let accepts : Accepts layout false (Some up.u) u = subst (λ (v : Option Upload). Accepts layout false v u) up.is ff.stands.stands.accepts in
    let had : Sums sums (Some up.u) = subst (λ (v : Option Upload). Sums sums v) up.is ff.carried in
    subst (Carries sums) (accepted_at layout up.u o u up.offset accepts) had) f
