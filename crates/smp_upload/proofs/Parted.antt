-- A part of an upload: the bytes, their record, and what settling makes of it.
use Rattle.std.proofs.Common.{◌≡◌, ◌⊎◌, inl, inr, ℕ, ◌+◌, ◌<◌, ◌≤◌, Bool, true, false, Option, Some, None, List, [], ◌∷◌, ◌++◌, length, refl, sym, ◌∙◌, ap, subst, arith, ◌&&◌, if◌then◌else◌, length-append}
use Rattle.std.specs.Prelude.{IfSome, IsSome, option_map, not, ◌==◌, nat_lt}
use Rattle.std.proofs.lemmas.Bool.Decides.{nat_tests}
use Rattle.smp_flash.specs.Area.{Told}
use Rattle.smp_flash.specs.Calls.{Calls, Smaller, Goes}
use Rattle.smp_flash.specs.Layout.{geometry_of, progress_of, upload_spots}
use Rattle.smp_flash.specs.State.{FlashState, End}
use Rattle.smp_flash.specs.State.End.{Went}
use Rattle.smp_flash.specs.declared.layout.Layout.{Layout}
use Rattle.smp_flash.specs.declared.region.Region.{Region}
use Rattle.smp_flash.proofs.Passing.{Calls-after, Smaller-then, Calls-refl}
use Rattle.smp_flash.proofs.Telling.{Told-with, Told-map, Told-both, Told-trans, IfSome-map}
use Rattle.smp_gate.specs.Newest.{AgesAtMost}
use Rattle.smp_model.specs.declared.device.Side.{Side}
use Rattle.smp_model.specs.declared.device.Upload.{Upload}
use Rattle.smp_model.specs.declared.upload.Announcement.{Announcement}
use Rattle.smp_model.specs.declared.error.TheConstants.{PAST_UPLOAD_END}
use Rattle.smp_model.specs.Image.{good_image}
use Rattle.smp_model.specs.ImageGroup.{keeps, completes, refuses_part}
use Rattle.smp_model.specs.Response.{SideResponse, side_responds}
use Rattle.smp_model.specs.Said as said
use Rattle.smp_model.specs.Sides.{SideStep, Append, Drop, SidePart, side_applied, side_apply, side_settle_steps}
use Rattle.smp_model.specs.Uploads.{is_spoiled, is_complete, differs, uploaded_image, kept}
use Rattle.smp_progress.specs.State.{ProgressState, AimsAtRecord}
use Rattle.smp_tlv.specs.declared.carried.Carried.{Carried}
use Rattle.smp_upload.specs.Bytes.{SideStands, SideShows}
use Rattle.smp_upload.specs.Counting.{Pays, CountsSteps, AimsAtSlot}
use Rattle.smp_upload.specs.Moves.{Moves, Does, KeepsPending, Moved, Done, one_step}
use Rattle.smp_upload.specs.States.{part_of, part_steps, chunk_said}
use Rattle.smp_upload.specs.declared.states.Chunked.{Chunked}
use Rattle.smp_upload.specs.Storing.{longer, Lays, Filled, Spoils, Settled, SaysMatched, SaysAt, matched_of, matched_at, settle_records}
use Rattle.smp_upload.proofs.Composing.{part_more, part_after, ages_more, ages_sum, shows_stands}
use Rattle.smp_upload.proofs.Resolved.{due, whole_shows, counts_due, complete_by, filled_upload, same_ages, same_pending}
use Rattle.smp_upload.proofs.Stored.{Found, found, Storing, met}
use Rattle.smp_upload.proofs.Sides.{OneSide}
use Rattle.smp_upload.proofs.Tellings.{told_two, old_three, if_both, same_if, some_told, all_told}

-- an upload that is not complete
differs_below : (m n : ℕ) → m < n → (m == n) ≡ false
differs_below m n lt = grind (arith, nat_tests)

pub incomplete_by : (u : Upload) (a : Announcement) (o : ℕ) → u.announcement ≡ a → length u.accepted ≡ o → o < a.length → is_complete u ≡ false
incomplete_by u a o e n lt =
    let m : u.announcement.length ≡ a.length = ap (λ (b : Announcement). b.length) e in
    differs_below (length u.accepted) u.announcement.length (omega arith)

pub partial_spoils : OneSide → (layout : Layout) (p : ProgressState) (a : Announcement) (o : ℕ) (sums : Carried) (bytes : List ℕ) → o < a.length → Filled layout p a o sums bytes → Spoils layout false bytes
partial_spoils one layout p a o sums bytes lt f side st =
    let up = filled_upload one layout p a o sums side bytes f st in
    ap is_spoiled up.is ∙ ap (λ (b : Bool). b && differs up.u.announcement.digest up.u.accepted) (incomplete_by up.u a o up.announcement up.offset lt)

pub told_partial : OneSide → (layout : Layout) (p : ProgressState) (a : Announcement) (o : ℕ) (sums : Carried) (x : Option (List ℕ)) → o < a.length → IfSome x (Filled layout p a o sums) → IfSome x (Spoils layout false)
told_partial one layout p a o sums x lt f = IfSome-map (Filled layout p a o sums) (Spoils layout false) x (λ u ff. partial_spoils one layout p a o sums u lt ff) f

pub partial_says : OneSide → (layout : Layout) (p : ProgressState) (a : Announcement) (o : ℕ) (sums : Carried) (bytes : List ℕ) → p.layout ≡ layout → o < a.length → Filled layout p a o sums bytes → Storing layout p a o sums bytes
partial_says one layout p a o sums bytes place lt f =
    let st : SideStands layout f.side bytes = record { rescue = false; stands = f.stands.stands } in
    let up = found f.side.upload (record { announcement = a; offset = o }) f.upload in
    record {
      side = f.side;
      shows = whole_shows one layout p a o sums f.side bytes f (partial_spoils one layout p a o sums bytes lt f) st;
      knows = record { upload = f.upload; pending = sym f.free; image = sym (ap uploaded_image up.is ∙ ap (λ (b : Bool). if b && not (differs up.u.announcement.digest up.u.accepted) then good_image up.u.accepted else None) (incomplete_by up.u a o up.announcement up.offset lt)); sums = f.carried };
      record_says = f.record_says;
      place = place;
    }

pub told_partial_says : OneSide → (layout : Layout) (p : ProgressState) (a : Announcement) (o : ℕ) (sums : Carried) (x : Option (List ℕ)) → p.layout ≡ layout → o < a.length → IfSome x (Filled layout p a o sums) → IfSome x (Storing layout p a o sums)
told_partial_says one layout p a o sums x place lt f = IfSome-map (Filled layout p a o sums) (Storing layout p a o sums) x (λ u ff. partial_says one layout p a o sums u place lt ff) f

matched_none : (u : Upload) → is_complete u ≡ false → matched_at (Some u) ≡ None
matched_none u e = ap (λ (b : Bool). if b then matched_of (Some u) else None) e

matched_some : (u : Upload) → is_complete u ≡ true → matched_at (Some u) ≡ matched_of (Some u)
matched_some u e = ap (λ (b : Bool). if b then matched_of (Some u) else None) e

pub said_partial : OneSide → (layout : Layout) (p : ProgressState) (a : Announcement) (o : ℕ) (sums : Carried) (x : Option (List ℕ)) → o < a.length → IfSome x (Filled layout p a o sums) → IfSome x (λ held. (side : Side) → SideStands layout side held → said.offset o None ≡ said.offset o (matched_at side.upload))
said_partial one layout p a o sums x lt f = IfSome-map (Filled layout p a o sums) (λ held. (side : Side) → SideStands layout side held → said.offset o None ≡ said.offset o (matched_at side.upload)) x (λ u ff side st.
    let up = filled_upload one layout p a o sums side u ff st in
    sym (ap (λ (m : Option Bool). said.offset o m) (ap matched_at up.is ∙ matched_none up.u (incomplete_by up.u a o up.announcement up.offset lt)))) f

pub said_complete : OneSide → (layout : Layout) (p : ProgressState) (a : Announcement) (o : ℕ) (sums : Carried) (chunked : Chunked) (x : Option (List ℕ)) → o ≡ a.length → IfSome x (Filled layout p a o sums) → IfSome x (SaysMatched layout a.length chunked) → IfSome x (SaysAt layout a.length o chunked)
said_complete one layout p a o sums chunked x e f s = IfSome-map (λ u. Filled layout p a o sums u × SaysMatched layout a.length chunked u) (SaysAt layout a.length o chunked) x (λ u q side st.
    let up = filled_upload one layout p a o sums side u q.0 st in
    let m : matched_of side.upload ≡ matched_at side.upload = ap matched_of up.is ∙ sym (matched_some up.u (complete_by up.u a up.announcement (up.offset ∙ e))) ∙ sym (ap matched_at up.is) in
    q.1 side st ∙ (λ i. said.offset (sym e i) (m i))) (if_both (Filled layout p a o sums) (SaysMatched layout a.length chunked) x f s)

-- the response to the kept bytes of a part
completes_is : (held ks digest : List ℕ) (b : Bool) → (if b then side_responds (said.offset (length held + length ks) (Some false)) (Append ks ∷ Drop ∷ []) else side_responds (said.offset (length held + length ks) (Some true)) (Append ks ∷ []))
    ≡ side_responds (said.offset (length held + length ks) (Some (not b))) (Append ks ∷ due b)
completes_is held ks digest true = refl
completes_is held ks digest false = refl

keeps_by : (held ks : List ℕ) (digest : Option (List ℕ)) (t : Bool) → (if t then completes held ks digest else side_responds (said.offset (length held + length ks) None) (Append ks ∷ []))
    ≡ side_responds (said.offset (length held + length ks) (if t then option_map (λ x. not (t && differs digest (held ++ ks))) digest else None)) (Append ks ∷ due (t && differs digest (held ++ ks)))
keeps_by held ks digest false = refl
keeps_by held ks None true = refl
keeps_by held ks (Some digest) true = completes_is held ks digest (differs (Some digest) (held ++ ks))

keeps_is : (a : Announcement) (held ks : List ℕ) → 0 < length ks → keeps a held ks ≡ side_responds (said.offset (length held + length ks) (matched_at (Some (record { announcement = a; accepted = held ++ ks })))) (Append ks ∷ due (is_spoiled (Some (record { announcement = a; accepted = held ++ ks }))))
keeps_is a held [] some = absurd (omega arith)
keeps_is a held (x ∷ xs) some =
    let ks : List ℕ = x ∷ xs in
    let e : (length held + length ks == a.length) ≡ (length (held ++ ks) == a.length) = ap (λ (n : ℕ). n == a.length) (sym (length-append held ks)) in
    keeps_by held ks a.digest (length held + length ks == a.length)
    ∙ ap (λ (t : Bool). side_responds (said.offset (length held + length ks) (if t then option_map (λ y. not (t && differs a.digest (held ++ ks))) a.digest else None)) (Append ks ∷ due (t && differs a.digest (held ++ ks)))) e

not_past : (n m : ℕ) → m ≤ n → nat_lt n m ≡ false
not_past n m le = grind (arith, nat_tests)

-- the response to a part, by the upload that the bytes stand for
part_is : (unit : ℕ) (bytes ks : List ℕ) (up : Option Upload) (a : Announcement) (o : ℕ) → Found up (record { announcement = a; offset = o }) → o + length bytes ≤ a.length → ks ≡ kept unit a.length o bytes
    → (f : Upload) → up ≡ Some f → part_of unit bytes up ≡ keeps f.announcement f.accepted ks
part_is unit bytes ks up a o g le e f is =
    let same : g.u ≡ f = one g.u f (sym g.is ∙ is) in
    let m : f.announcement ≡ a = ap (λ (u : Upload). u.announcement) (sym same) ∙ g.announcement in
    let n : length f.accepted ≡ o = ap (λ (u : Upload). length u.accepted) (sym same) ∙ g.offset in
    let past : nat_lt f.announcement.length (length f.accepted + length bytes) ≡ false = (λ i. nat_lt (m i).length (n i + length bytes)) ∙ not_past a.length (o + length bytes) le in
    let k : kept unit f.announcement.length (length f.accepted) bytes ≡ ks = (λ i. kept unit (m i).length (n i) bytes) ∙ sym e in
    ap (part_of unit bytes) is
    ∙ ap (λ (t : Bool). if t then refuses_part PAST_UPLOAD_END else keeps f.announcement f.accepted (kept unit f.announcement.length (length f.accepted) bytes)) past
    ∙ ap (λ (zs : List ℕ). keeps f.announcement f.accepted zs) k
  where
    one : (u v : Upload) → Some u ≡ Some v → u ≡ v
    one u v e = cc e

-- with more bytes, or with none
part_longer : (unit : ℕ) (bytes ks : List ℕ) (side : Side) (a : Announcement) (o : ℕ) → Found side.upload (record { announcement = a; offset = o }) → o + length bytes ≤ a.length → ks ≡ kept unit a.length o bytes → 0 < length ks
    → part_of unit bytes side.upload ≡ side_responds (said.offset (o + length ks) (matched_at (longer side ks).upload)) (Append ks ∷ due (is_spoiled (longer side ks).upload))
part_longer unit bytes ks side a o g le e some =
    let u = g.u in
    let longer_is : (longer side ks).upload ≡ Some (record { announcement = u.announcement; accepted = u.accepted ++ ks }) = appended_some side.upload u ks g.is in
    part_is unit bytes ks side.upload a o g le e u g.is ∙ keeps_is u.announcement u.accepted ks some
    ∙ (λ i. side_responds (said.offset (g.offset i + length ks) (matched_at (sym longer_is i))) (Append ks ∷ due (is_spoiled (sym longer_is i))))
  where
    appended_some : (up : Option Upload) (u : Upload) (ks : List ℕ) → up ≡ Some u → (longer (record side { upload = up }) ks).upload ≡ Some (record { announcement = u.announcement; accepted = u.accepted ++ ks })
    appended_some up u ks e = ap (λ (x : Option Upload). (longer (record side { upload = x }) ks).upload) e

part_empty : (unit : ℕ) (bytes ks : List ℕ) (side : Side) (a : Announcement) (o : ℕ) → Found side.upload (record { announcement = a; offset = o }) → o + length bytes ≤ a.length → ks ≡ kept unit a.length o bytes → length ks ≡ 0
    → part_of unit bytes side.upload ≡ side_responds (said.offset o None) []
part_empty unit bytes ks side a o g le e none =
    part_is unit bytes ks side.upload a o g le e g.u g.is ∙ ap (λ (zs : List ℕ). keeps g.u.announcement g.u.accepted zs) (empty ks none) ∙ ap (λ (n : ℕ). side_responds (said.offset n None) []) g.offset
  where
    empty : (xs : List ℕ) → length xs ≡ 0 → xs ≡ []
    empty [] e = refl
    empty (x ∷ xs) e = absurd (omega (arith, e))

-- What the call was given: the state, the data, and what of it is kept.
pub record Given (layout : Layout) (a : Announcement) (o : ℕ) (bytes ks : List ℕ) : Type 0 where
  pub fits : o + length bytes ≤ a.length
  pub kept_is : ks ≡ kept (geometry_of layout).unit a.length o bytes

steps_are : OneSide → (layout : Layout) (p : ProgressState) (a : Announcement) (o : ℕ) (sums : Carried) (bytes ks : List ℕ) (side : Side) (old : List ℕ) → Given layout a o bytes ks → 0 < length ks → Storing layout p a o sums old → SideStands layout side old
    → part_steps (geometry_of layout).unit bytes side ≡ Append ks ∷ due (is_spoiled (longer side ks).upload)
steps_are one layout p a o sums bytes ks side old g some says st =
    ap (λ (r : SideResponse). r.steps) (part_longer (geometry_of layout).unit bytes ks side a o (met one layout p a o sums side old says st).found g.fits g.kept_is some)

moves_first : OneSide → (layout : Layout) (p : ProgressState) (a : Announcement) (o : ℕ) (sums : Carried) (bytes ks old new : List ℕ) → Given layout a o bytes ks → 0 < length ks → Storing layout p a o sums old → Moves layout (one_step (Append ks)) old new → Moves layout (part_steps (geometry_of layout).unit bytes) old new
moves_first one layout p a o sums bytes ks old new g some says m = record {
  moves = λ side st.
      let r = m.moves side st in
      let q : SidePart side (Append ks ∷ due (is_spoiled (longer side ks).upload)) r.reached = part_more side r.reached (Append ks ∷ []) (due (is_spoiled (longer side ks).upload)) r.part in
      record { reached = r.reached; part = subst (λ (xs : List SideStep). SidePart side xs r.reached) (sym (steps_are one layout p a o sums bytes ks side old g some says st)) q; stands = r.stands };
}

part_moves : OneSide → (layout : Layout) (p : ProgressState) (a : Announcement) (o : ℕ) (sums : Carried) (bytes ks old mid new : List ℕ) → Given layout a o bytes ks → 0 < length ks → Storing layout p a o sums old → Lays layout ks old mid → Moves layout side_settle_steps mid new → Moves layout (part_steps (geometry_of layout).unit bytes) old new
part_moves one layout p a o sums bytes ks old mid new g some says l m = record {
  moves = λ side st.
      let r = m.moves (side_apply (Append ks) side) (record { rescue = false; stands = (l.lays side st).stands }) in
      let q : SidePart side (Append ks ∷ due (is_spoiled (longer side ks).upload)) r.reached = part_after side r.reached (Append ks ∷ []) (due (is_spoiled (longer side ks).upload)) r.part in
      record { reached = r.reached; part = subst (λ (xs : List SideStep). SidePart side xs r.reached) (sym (steps_are one layout p a o sums bytes ks side old g some says st)) q; stands = r.stands };
}

part_does : OneSide → (layout : Layout) (p : ProgressState) (a : Announcement) (o : ℕ) (sums : Carried) (bytes ks old mid new : List ℕ) → Given layout a o bytes ks → 0 < length ks → Storing layout p a o sums old → Lays layout ks old mid → Does layout side_settle_steps mid new → Does layout (part_steps (geometry_of layout).unit bytes) old new
part_does one layout p a o sums bytes ks old mid new g some says l m = record {
  does = λ side st.
      let r = m.does (side_apply (Append ks) side) (record { rescue = false; stands = (l.lays side st).stands }) in
      subst (λ (xs : List SideStep). SideShows layout (side_applied xs side) new) (sym (steps_are one layout p a o sums bytes ks side old g some says st)) r;
}

pub first_moved : OneSide → (layout : Layout) (p : ProgressState) (a : Announcement) (o : ℕ) (sums : Carried) (bytes ks : List ℕ) (end : End) (s t : FlashState) → Given layout a o bytes ks → 0 < length ks → IfSome s.bytes (Storing layout p a o sums) → Calls (upload_spots layout) end s t
    → Told (Moves layout (one_step (Append ks))) s.bytes t.bytes → Told (AgesAtMost 1 (progress_of layout)) s.bytes t.bytes → Told (KeepsPending layout) s.bytes t.bytes → Moved layout (upload_spots layout) 2 (part_steps (geometry_of layout).unit bytes) end s t
first_moved one layout p a o sums bytes ks end s t g some says calls moves ages pending = record {
  calls = calls;
  moves = Told-with (Storing layout p a o sums) (Moves layout (one_step (Append ks))) (Moves layout (part_steps (geometry_of layout).unit bytes)) s.bytes t.bytes (λ u v h m. moves_first one layout p a o sums bytes ks u v g some h m) says moves;
  ages = Told-map (AgesAtMost 1 (progress_of layout)) (AgesAtMost 2 (progress_of layout)) s.bytes t.bytes (λ u v. ages_more layout 1 2 u v (omega arith)) ages;
  pending = pending;
}

pub both_moved : OneSide → (layout : Layout) (p : ProgressState) (a : Announcement) (o : ℕ) (sums : Carried) (bytes ks : List ℕ) (end : End) (s t r : FlashState) → Given layout a o bytes ks → 0 < length ks → IfSome s.bytes (Storing layout p a o sums) → Calls (upload_spots layout) Went s t
    → Told (Lays layout ks) s.bytes t.bytes → Told (AgesAtMost 1 (progress_of layout)) s.bytes t.bytes → Moved layout (upload_spots layout) 1 side_settle_steps end t r → Told (KeepsPending layout) s.bytes r.bytes → Moved layout (upload_spots layout) 2 (part_steps (geometry_of layout).unit bytes) end s r
both_moved one layout p a o sums bytes ks end s t r g some says calls lays ages m pend = record {
  calls = Calls-after (upload_spots layout) end s t r calls m.calls;
  moves = told_two (Storing layout p a o sums) (Lays layout ks) (Moves layout side_settle_steps) (Moves layout (part_steps (geometry_of layout).unit bytes)) s.bytes t.bytes r.bytes (λ u v w h l mm. part_moves one layout p a o sums bytes ks u v w g some h l mm) says lays m.moves;
  ages = Told-trans (AgesAtMost 1 (progress_of layout)) (AgesAtMost 1 (progress_of layout)) (AgesAtMost 2 (progress_of layout)) s.bytes t.bytes r.bytes (ages_sum layout 1 1) ages m.ages;
  pending = pend;
}

-- a part and its settling count at the record or at the secondary slot
counts_part : (layout : Layout) (aim : Option Region) (side : Side) (ks : List ℕ) (b : Bool) → CountsSteps layout aim side (Append ks ∷ due b) → AimsAtRecord layout aim ⊎ AimsAtSlot layout 1 aim
counts_part layout aim side ks b is = elim is [
  | inl now ↦ now
  | inr more ↦ inl (counts_due layout aim (side_apply (Append ks) side) b more)
]

part_pays : OneSide → (layout : Layout) (p : ProgressState) (a : Announcement) (o : ℕ) (sums : Carried) (bytes ks : List ℕ) (s t r : FlashState) → Given layout a o bytes ks → 0 < length ks → IfSome s.bytes (Storing layout p a o sums) → Goes t r → (AimsAtRecord layout s.aim → Smaller s.patience t.patience) → (AimsAtSlot layout 1 s.aim → Smaller s.patience t.patience)
    → Pays layout (part_steps (geometry_of layout).unit bytes) s r
part_pays one layout p a o sums bytes ks s t r g some says h records slot = record {
  pays = λ side st is.
      some_told (Storing layout p a o sums) (SideStands layout side) s.bytes (Smaller s.patience r.patience) says st (λ u k stands.
      Smaller-then s.patience t.patience r.patience (elim (counts_part layout s.aim side ks (is_spoiled (longer side ks).upload) (subst (CountsSteps layout s.aim side) (steps_are one layout p a o sums bytes ks side u g some k stands) is)) [
        | inl e ↦ records e
        | inr e ↦ slot e
      ]) h.patience);
}

pub both_done : OneSide → (layout : Layout) (p : ProgressState) (a : Announcement) (o : ℕ) (sums : Carried) (bytes ks : List ℕ) (s t r : FlashState) → Given layout a o bytes ks → 0 < length ks → IfSome s.bytes (Storing layout p a o sums) → Calls (upload_spots layout) Went s t
    → Told (Lays layout ks) s.bytes t.bytes → Told (AgesAtMost 1 (progress_of layout)) s.bytes t.bytes → (AimsAtRecord layout s.aim → Smaller s.patience t.patience) → (AimsAtSlot layout 1 s.aim → Smaller s.patience t.patience) → Told (KeepsPending layout) s.bytes r.bytes → Done layout (upload_spots layout) 1 side_settle_steps t r
    → Done layout (upload_spots layout) 2 (part_steps (geometry_of layout).unit bytes) s r
both_done one layout p a o sums bytes ks s t r g some says calls lays ages records slot pend m = record {
  calls = Calls-after (upload_spots layout) Went s t r calls m.calls;
  does = told_two (Storing layout p a o sums) (Lays layout ks) (Does layout side_settle_steps) (Does layout (part_steps (geometry_of layout).unit bytes)) s.bytes t.bytes r.bytes (λ u v w h l mm. part_does one layout p a o sums bytes ks u v w g some h l mm) says lays m.does;
  ages = Told-trans (AgesAtMost 1 (progress_of layout)) (AgesAtMost 1 (progress_of layout)) (AgesAtMost 2 (progress_of layout)) s.bytes t.bytes r.bytes (ages_sum layout 1 1) ages m.ages;
  pending = pend;
  pays = part_pays one layout p a o sums bytes ks s t r g some says m.calls.passes records slot;
}

-- nothing was pending
pub part_pending : (layout : Layout) (p : ProgressState) (a : Announcement) (o : ℕ) (sums : Carried) (R S : List ℕ → List ℕ → Type 0) (x y z : Option (List ℕ)) → ((u v w : List ℕ) → Storing layout p a o sums u → KeepsPending layout u w) → IfSome x (Storing layout p a o sums) → Told R x y → Told S y z → Told (KeepsPending layout) x z
part_pending layout p a o sums R S x y z f says r s = told_two (Storing layout p a o sums) R S (KeepsPending layout) x y z (λ u v w q rr ss. f u v w q) says r s

-- the records
due_records : OneSide → (layout : Layout) (p : ProgressState) (a : Announcement) (o : ℕ) (sums : Carried) (n : ℕ) (ks : List ℕ) (side : Side) (old : List ℕ) → Storing layout p a o sums old → SideStands layout side old → 1 ≤ n → (o + length ks ≡ a.length → IsSome a.digest → n ≡ 2) → 1 + settle_records (longer side ks).upload ≤ n
due_records one layout p a o sums n ks side old says st low two = go side.upload (met one layout p a o sums side old says st).found
  where
    spoiled_two : (u : Upload) → length u.accepted ≡ o → u.announcement ≡ a → (b : Bool) → (length (u.accepted ++ ks) == u.announcement.length) ≡ b → 1 + (if b && differs u.announcement.digest (u.accepted ++ ks) then 1 else 0) ≤ n
    spoiled_two u e m false t = low
    spoiled_two u e m true t = digest_two u.announcement.digest (u.accepted ++ ks) (λ is. two whole (subst (λ (b : Announcement). IsSome b.digest) m is))
      where
        equal_of : (j k : ℕ) → (j == k) ≡ true → j ≡ k
        equal_of j k e = grind (arith, nat_tests)

        whole : o + length ks ≡ a.length
        whole = ap (λ (j : ℕ). j + length ks) (sym e) ∙ sym (length-append u.accepted ks) ∙ equal_of (length (u.accepted ++ ks)) u.announcement.length t ∙ ap (λ (b : Announcement). b.length) m

        digest_two : (digest : Option (List ℕ)) (held : List ℕ) → (IsSome digest → n ≡ 2) → 1 + (if differs digest held then 1 else 0) ≤ n
        digest_two None held f = low
        digest_two (Some x) held f = at_most (differs (Some x) held) (f refl)
          where
            at_most : (c : Bool) → n ≡ 2 → 1 + (if c then 1 else 0) ≤ n
            at_most true e = omega arith
            at_most false e = omega arith

    go : (up : Option Upload) → Found up (record { announcement = a; offset = o }) → 1 + settle_records (longer (record side { upload = up }) ks).upload ≤ n
    go None f = low
    go (Some u) f =
        let same : f.u ≡ u = some_same f.u u (sym f.is) in
        spoiled_two u (ap (λ (v : Upload). length v.accepted) (sym same) ∙ f.offset) (ap (λ (v : Upload). v.announcement) (sym same) ∙ f.announcement) (length (u.accepted ++ ks) == u.announcement.length) refl
      where
        some_same : (u v : Upload) → Some u ≡ Some v → u ≡ v
        some_same u v e = cc e

part_ages : OneSide → (layout : Layout) (p : ProgressState) (a : Announcement) (o : ℕ) (sums : Carried) (n : ℕ) (ks old mid new : List ℕ) → 1 ≤ n → (o + length ks ≡ a.length → IsSome a.digest → n ≡ 2) → Storing layout p a o sums old → Lays layout ks old mid × AgesAtMost 1 (progress_of layout) old mid → Settled layout mid new → AgesAtMost n (progress_of layout) old new
part_ages one layout p a o sums n ks old mid new low two says both settled =
    let st : SideStands layout says.side old = shows_stands layout says.side old says.shows in
    let next = longer says.side ks in
    let after = settled next (record { rescue = false; stands = (both.0.lays says.side st).stands }) in
    ages_more layout (1 + settle_records next.upload) n old new (due_records one layout p a o sums n ks says.side old says st low two) (ages_sum layout 1 (settle_records next.upload) old mid new both.1 after)

pub told_part_ages : OneSide → (layout : Layout) (p : ProgressState) (a : Announcement) (o : ℕ) (sums : Carried) (n : ℕ) (ks : List ℕ) (x y z : Option (List ℕ)) → 1 ≤ n → (o + length ks ≡ a.length → IsSome a.digest → n ≡ 2) → IfSome x (Storing layout p a o sums) → Told (Lays layout ks) x y → Told (AgesAtMost 1 (progress_of layout)) x y → Told (Settled layout) y z → Told (AgesAtMost n (progress_of layout)) x z
told_part_ages one layout p a o sums n ks x y z low two says lays ages settled = told_two (Storing layout p a o sums) (λ u v. Lays layout ks u v × AgesAtMost 1 (progress_of layout) u v) (Settled layout) (AgesAtMost n (progress_of layout)) x y z
    (λ u v w s b t. part_ages one layout p a o sums n ks u v w low two s b t) says (Told-both (Lays layout ks) (AgesAtMost 1 (progress_of layout)) x y lays ages) settled

-- the reply
pub part_said : OneSide → (layout : Layout) (p : ProgressState) (a : Announcement) (o : ℕ) (sums : Carried) (bytes ks : List ℕ) (chunked : Chunked) (x y : Option (List ℕ)) → Given layout a o bytes ks → 0 < length ks → IfSome x (Storing layout p a o sums) → Told (Lays layout ks) x y → IfSome y (SaysAt layout a.length (o + length ks) chunked)
    → IfSome x (λ held. (side : Side) → SideStands layout side held → chunk_said a.length chunked ≡ (part_of (geometry_of layout).unit bytes side.upload).reply)
part_said one layout p a o sums bytes ks chunked x y g some says lays s = old_three (Storing layout p a o sums) (Lays layout ks) (SaysAt layout a.length (o + length ks) chunked) (λ held. (side : Side) → SideStands layout side held → chunk_said a.length chunked ≡ (part_of (geometry_of layout).unit bytes side.upload).reply) x y
    (λ u v h l q side st. q (longer side ks) (record { rescue = false; stands = (l.lays side st).stands })
    ∙ sym (ap (λ (r : SideResponse). r.reply) (part_longer (geometry_of layout).unit bytes ks side a o (met one layout p a o sums side u h st).found g.fits g.kept_is some))) says lays s

-- nothing is kept
none_steps : OneSide → (layout : Layout) (p : ProgressState) (a : Announcement) (o : ℕ) (sums : Carried) (bytes ks : List ℕ) (side : Side) (old : List ℕ) → Given layout a o bytes ks → length ks ≡ 0 → Storing layout p a o sums old → SideStands layout side old → part_of (geometry_of layout).unit bytes side.upload ≡ side_responds (said.offset o None) []
none_steps one layout p a o sums bytes ks side old g none says st = part_empty (geometry_of layout).unit bytes ks side a o (met one layout p a o sums side old says st).found g.fits g.kept_is none

none_does : OneSide → (layout : Layout) (p : ProgressState) (a : Announcement) (o : ℕ) (sums : Carried) (bytes ks : List ℕ) (old : List ℕ) → Given layout a o bytes ks → length ks ≡ 0 → Storing layout p a o sums old → Does layout (part_steps (geometry_of layout).unit bytes) old old
none_does one layout p a o sums bytes ks old g none says = record {
  does = λ side st.
      subst (λ (r : SideResponse). SideShows layout (side_applied r.steps side) old) (sym (none_steps one layout p a o sums bytes ks side old g none says st)) (met one layout p a o sums side old says st).shows;
}

pub none_done : OneSide → (layout : Layout) (p : ProgressState) (a : Announcement) (o : ℕ) (sums : Carried) (bytes ks : List ℕ) (s : FlashState) → Given layout a o bytes ks → length ks ≡ 0 → IfSome s.bytes (Storing layout p a o sums) → Done layout (upload_spots layout) 2 (part_steps (geometry_of layout).unit bytes) s s
none_done one layout p a o sums bytes ks s g none says = record {
  calls = Calls-refl (upload_spots layout) s;
  does = same_if (Storing layout p a o sums) (Does layout (part_steps (geometry_of layout).unit bytes)) s.bytes s.bytes (λ u h. none_does one layout p a o sums bytes ks u g none h) says refl;
  ages = same_if (λ u. Unit {0}) (AgesAtMost 2 (progress_of layout)) s.bytes s.bytes (λ u t. same_ages layout 2 u) (all_told s.bytes) refl;
  pending = same_if (λ u. Unit {0}) (KeepsPending layout) s.bytes s.bytes (λ u t. same_pending layout u) (all_told s.bytes) refl;
  pays = record {
    pays = λ side st is. some_told (Storing layout p a o sums) (SideStands layout side) s.bytes (Smaller s.patience s.patience) says st (λ u h stands.
        absurd (subst (λ (r : SideResponse). CountsSteps layout s.aim side r.steps) (none_steps one layout p a o sums bytes ks side u g none h stands) is));
  };
}

pub none_said : OneSide → (layout : Layout) (p : ProgressState) (a : Announcement) (o : ℕ) (sums : Carried) (bytes ks : List ℕ) (x : Option (List ℕ)) → Given layout a o bytes ks → length ks ≡ 0 → IfSome x (Storing layout p a o sums) → IfSome x (λ held. (side : Side) → SideStands layout side held → said.offset o None ≡ (part_of (geometry_of layout).unit bytes side.upload).reply)
none_said one layout p a o sums bytes ks x g none says = IfSome-map (Storing layout p a o sums) (λ held. (side : Side) → SideStands layout side held → said.offset o None ≡ (part_of (geometry_of layout).unit bytes side.upload).reply) x
    (λ u s side st. sym (ap (λ (r : SideResponse). r.reply) (none_steps one layout p a o sums bytes ks side u g none s st))) says
