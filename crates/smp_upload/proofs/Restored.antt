-- A rescue as a part of a mount: no step is made, and the next part can be written.
use Rattle.std.proofs.Common.{◌≡◌, ℕ, ◌<◌, ◌≤◌, Bool, true, false, Option, None, List, [], sym, ◌∙◌, ap, subst, ◌&&◌}
use Rattle.std.specs.Prelude.{IfSome, IsSome}
use Rattle.smp_flash.specs.Area.{Told}
use Rattle.smp_flash.specs.Calls.{Calls, Smaller}
use Rattle.smp_flash.specs.Layout.{progress_of, upload_spots}
use Rattle.smp_flash.specs.State.{FlashState, End}
use Rattle.smp_flash.specs.State.End.{Went}
use Rattle.smp_flash.specs.declared.layout.Layout.{Layout}
use Rattle.smp_flash.proofs.Passing.{Calls-after}
use Rattle.smp_flash.proofs.Telling.{Told-with, Told-map, Told-trans, Told-after}
use Rattle.smp_gate.specs.Newest.{AgesAtMost}
use Rattle.smp_model.specs.declared.device.Side.{Side}
use Rattle.smp_model.specs.declared.device.Upload.{Upload}
use Rattle.smp_model.specs.declared.upload.Announcement.{Announcement}
use Rattle.smp_model.specs.Sides.{side_applied, side_settle_steps}
use Rattle.smp_model.specs.Uploads.{is_spoiled, differs}
use Rattle.smp_progress.specs.State.{ProgressState, ProgressSays}
use Rattle.smp_tlv.specs.declared.carried.Carried.{Carried}
use Rattle.smp_upload.specs.Bytes.{SideStands, SideShows, Clean, CleanFrom, pending_in}
use Rattle.smp_upload.specs.Counting.{Pays}
use Rattle.smp_upload.specs.Moves.{Moves, Does, KeepsPending, Moved, Done, no_steps}
use Rattle.smp_upload.specs.Rescuing.{HeldAs, Reflags, SumsHeld}
use Rattle.smp_upload.specs.States.{Sums}
use Rattle.smp_upload.specs.Storing.{Filled, Spoils}
use Rattle.smp_upload.proofs.Composing.{part_more, ages_more, ages_sum}
use Rattle.smp_upload.proofs.Parted.{partial_spoils, incomplete_by}
use Rattle.smp_upload.proofs.Resolved.{due, whole_shows, none_due}
use Rattle.smp_upload.proofs.Sides.{OneSide}
use Rattle.smp_upload.proofs.Stored.{found}
use Rattle.smp_upload.proofs.Tellings.{told_three, new_three, if_both, some_told}

-- an unfinished upload is not spoiled
pub held_spoils : OneSide → (layout : Layout) (flag : Bool) (p : ProgressState) (a : Announcement) (o : ℕ) (bytes : List ℕ) → o < a.length → HeldAs layout flag p a o bytes → Spoils layout false bytes
held_spoils one layout flag p a o bytes lt h side st =
    let same : h.side ≡ side = one layout h.side side bytes (record { rescue = flag; stands = h.stands }) st in
    let up = found h.side.upload (record { announcement = a; offset = o }) h.upload in
    sym (ap (λ (x : Side). is_spoiled x.upload) same) ∙ ap is_spoiled up.is ∙ ap (λ (b : Bool). b && differs up.u.announcement.digest up.u.accepted) (incomplete_by up.u a o up.announcement up.offset lt)

held_pending : (layout : Layout) (flag : Bool) (p : ProgressState) (a : Announcement) (o : ℕ) (old new : List ℕ) → HeldAs layout flag p a o old → KeepsPending layout old new
held_pending layout flag p a o old new h =
    let e : pending_in layout old ≡ None = sym h.stands.pending ∙ h.free in
    record { kept = λ is. absurd (cc (subst IsSome e is)); still = λ is. absurd (cc (subst IsSome e is)) }

pub told_held_pending : (layout : Layout) (flag : Bool) (p : ProgressState) (a : Announcement) (o : ℕ) (R : List ℕ → List ℕ → Type 0) (x y : Option (List ℕ)) → IfSome x (HeldAs layout flag p a o) → Told R x y → Told (KeepsPending layout) x y
told_held_pending layout flag p a o R x y h r = Told-with (HeldAs layout flag p a o) R (KeepsPending layout) x y (λ u v hh rr. held_pending layout flag p a o u v hh) h r

-- the sums of the side that is held, after its record got another flag
sums_reflagged : OneSide → (layout : Layout) (flag to_flag : Bool) (p : ProgressState) (a : Announcement) (o : ℕ) (sums : Carried) (old new : List ℕ) → HeldAs layout flag p a o old → SumsHeld layout sums old → Reflags layout to_flag old new → SumsHeld layout sums new
sums_reflagged one layout flag to_flag p a o sums old new h s r side st =
    let was : SideStands layout h.side old = record { rescue = flag; stands = h.stands } in
    subst (λ (x : Side). Sums sums x.upload) (one layout h.side side new (record { rescue = to_flag; stands = r.same h.side was }) st) (s h.side was)

-- the state after the rescue's last record
back_filled : (layout : Layout) (p next : ProgressState) (a : Announcement) (o : ℕ) (sums : Carried) (old new : List ℕ) → HeldAs layout true p a o old → SumsHeld layout sums old → Reflags layout false old new → CleanFrom layout o a.length new → ProgressSays next new → Filled layout next a o sums new
back_filled layout p next a o sums old new h s r clean says =
    let up = found h.side.upload (record { announcement = a; offset = o }) h.upload in
    let was : SideStands layout h.side old = record { rescue = true; stands = h.stands } in
    let c : Clean layout h.side.upload new = subst (λ (x : Option Upload). Clean layout x new) (sym up.is) (subst (λ (n : ℕ). CleanFrom layout n up.u.announcement.length new) (sym up.offset) (subst (λ (b : Announcement). CleanFrom layout o b.length new) (sym up.announcement) clean)) in
    record { side = h.side; stands = record { stands = r.same h.side was; clean = c }; upload = h.upload; free = h.free; record_says = says; carried = s h.side was }

pub told_back_filled : (layout : Layout) (p next : ProgressState) (a : Announcement) (o : ℕ) (sums : Carried) (x y : Option (List ℕ)) → IfSome x (HeldAs layout true p a o) → IfSome x (SumsHeld layout sums) → Told (Reflags layout false) x y → IfSome y (CleanFrom layout o a.length) → IfSome y (ProgressSays next) → IfSome y (Filled layout next a o sums)
told_back_filled layout p next a o sums x y h s r c b = new_three (λ u. HeldAs layout true p a o u × SumsHeld layout sums u) (Reflags layout false) (λ u. CleanFrom layout o a.length u × ProgressSays next u) (Filled layout next a o sums) x y
    (λ u v hh rr both. back_filled layout p next a o sums u v hh.0 hh.1 rr both.0 both.1) (if_both (HeldAs layout true p a o) (SumsHeld layout sums) x h s) r (if_both (CleanFrom layout o a.length) (ProgressSays next) y c b)

-- and after its first one
out_held : (layout : Layout) (p next : ProgressState) (a : Announcement) (o : ℕ) (old new : List ℕ) → HeldAs layout false p a o old → Reflags layout true old new → ProgressSays next new → HeldAs layout true next a o new
out_held layout p next a o old new h r says = record { side = h.side; stands = r.same h.side (record { rescue = false; stands = h.stands }); upload = h.upload; free = h.free; record_says = says }

pub told_out_held : (layout : Layout) (p next : ProgressState) (a : Announcement) (o : ℕ) (x y : Option (List ℕ)) → IfSome x (HeldAs layout false p a o) → Told (Reflags layout true) x y → IfSome y (ProgressSays next) → IfSome y (HeldAs layout true next a o)
told_out_held layout p next a o x y h r b = new_three (HeldAs layout false p a o) (Reflags layout true) (ProgressSays next) (HeldAs layout true next a o) x y (λ u v hh rr bb. out_held layout p next a o u v hh rr bb) h r b

pub told_out_sums : OneSide → (layout : Layout) (p : ProgressState) (a : Announcement) (o : ℕ) (sums : Carried) (x y : Option (List ℕ)) → IfSome x (HeldAs layout false p a o) → IfSome x (SumsHeld layout sums) → Told (Reflags layout true) x y → IfSome y (SumsHeld layout sums)
told_out_sums one layout p a o sums x y h s r = Told-after (λ u. HeldAs layout false p a o u × SumsHeld layout sums u) (Reflags layout true) (SumsHeld layout sums) x y
    (λ u v both rr. sums_reflagged one layout false true p a o sums u v both.0 both.1 rr) (if_both (HeldAs layout false p a o) (SumsHeld layout sums) x h s) r

still_moves : (layout : Layout) (old new : List ℕ) → Moves layout no_steps old new → Moves layout side_settle_steps old new
still_moves layout old new m = record { moves = λ side st. let r = m.moves side st in record { reached = r.reached; part = part_more side r.reached [] (side_settle_steps side) r.part; stands = r.stands } }

pub still_moved : (layout : Layout) (flag : Bool) (p : ProgressState) (a : Announcement) (o n : ℕ) (end : End) (s t : FlashState) → 1 ≤ n → IfSome s.bytes (HeldAs layout flag p a o) → Calls (upload_spots layout) end s t → Told (Moves layout no_steps) s.bytes t.bytes → Told (AgesAtMost 1 (progress_of layout)) s.bytes t.bytes
    → Moved layout (upload_spots layout) n side_settle_steps end s t
still_moved layout flag p a o n end s t le h calls moves ages = record {
  calls = calls;
  moves = Told-map (Moves layout no_steps) (Moves layout side_settle_steps) s.bytes t.bytes (still_moves layout) moves;
  ages = Told-map (AgesAtMost 1 (progress_of layout)) (AgesAtMost n (progress_of layout)) s.bytes t.bytes (λ u v. ages_more layout 1 n u v le) ages;
  pending = told_held_pending layout flag p a o (Moves layout no_steps) s.bytes t.bytes h moves;
}

back_does : OneSide → (layout : Layout) (p next : ProgressState) (a : Announcement) (o : ℕ) (sums : Carried) (old new : List ℕ) → o < a.length → HeldAs layout true p a o old → Reflags layout false old new → Filled layout next a o sums new → Does layout side_settle_steps old new
back_does one layout p next a o sums old new lt h r f = record {
  does = λ side st.
      subst (λ (b : Bool). SideShows layout (side_applied (due b) side) new) (sym (held_spoils one layout true p a o old lt h side st))
      (whole_shows one layout next a o sums side new f (partial_spoils one layout next a o sums new lt f) (record { rescue = false; stands = r.same side st }));
}

unpaid : OneSide → (layout : Layout) (flag : Bool) (p : ProgressState) (a : Announcement) (o : ℕ) (s t : FlashState) → o < a.length → IfSome s.bytes (HeldAs layout flag p a o) → Pays layout side_settle_steps s t
unpaid one layout flag p a o s t lt h = record {
  pays = λ side st is.
      some_told (HeldAs layout flag p a o) (SideStands layout side) s.bytes (Smaller s.patience t.patience) h st (λ u hh stands. absurd (none_due layout s.aim side (is_spoiled side.upload) (held_spoils one layout flag p a o u lt hh side stands) is));
}

pub back_done : OneSide → (layout : Layout) (p next : ProgressState) (a : Announcement) (o : ℕ) (sums : Carried) (s t : FlashState) → o < a.length → IfSome s.bytes (HeldAs layout true p a o) → Calls (upload_spots layout) Went s t → Told (Reflags layout false) s.bytes t.bytes → IfSome t.bytes (Filled layout next a o sums) → Told (AgesAtMost 1 (progress_of layout)) s.bytes t.bytes
    → Done layout (upload_spots layout) 1 side_settle_steps s t
back_done one layout p next a o sums s t lt h calls r f ages = record {
  calls = calls;
  does = told_three (HeldAs layout true p a o) (Reflags layout false) (Filled layout next a o sums) (Does layout side_settle_steps) s.bytes t.bytes (λ u v hh rr ff. back_does one layout p next a o sums u v lt hh rr ff) h r f;
  ages = ages;
  pending = told_held_pending layout true p a o (Reflags layout false) s.bytes t.bytes h r;
  pays = unpaid one layout true p a o s t lt h;
}

-- a record of the rescue, and then the rest
then_moves : (layout : Layout) (flag : Bool) (old mid new : List ℕ) → Reflags layout flag old mid → Moves layout side_settle_steps mid new → Moves layout side_settle_steps old new
then_moves layout flag old mid new r m = record { moves = λ side st. let x = m.moves side (record { rescue = flag; stands = r.same side st }) in record { reached = x.reached; part = x.part; stands = x.stands } }

then_does : (layout : Layout) (flag : Bool) (old mid new : List ℕ) → Reflags layout flag old mid → Does layout side_settle_steps mid new → Does layout side_settle_steps old new
then_does layout flag old mid new r m = record { does = λ side st. m.does side (record { rescue = flag; stands = r.same side st }) }

two_ages : (layout : Layout) (x y z : Option (List ℕ)) → Told (AgesAtMost 1 (progress_of layout)) x y → Told (AgesAtMost 1 (progress_of layout)) y z → Told (AgesAtMost 2 (progress_of layout)) x z
two_ages layout x y z f h = Told-trans (AgesAtMost 1 (progress_of layout)) (AgesAtMost 1 (progress_of layout)) (AgesAtMost 2 (progress_of layout)) x y z (ages_sum layout 1 1) f h

pub then_moved : (layout : Layout) (p : ProgressState) (a : Announcement) (o : ℕ) (end : End) (s t r : FlashState) → IfSome s.bytes (HeldAs layout false p a o) → Calls (upload_spots layout) Went s t → Told (Reflags layout true) s.bytes t.bytes → Told (AgesAtMost 1 (progress_of layout)) s.bytes t.bytes → Moved layout (upload_spots layout) 1 side_settle_steps end t r
    → Moved layout (upload_spots layout) 2 side_settle_steps end s r
then_moved layout p a o end s t r h calls flags ages m = record {
  calls = Calls-after (upload_spots layout) end s t r calls m.calls;
  moves = Told-trans (Reflags layout true) (Moves layout side_settle_steps) (Moves layout side_settle_steps) s.bytes t.bytes r.bytes (then_moves layout true) flags m.moves;
  ages = two_ages layout s.bytes t.bytes r.bytes ages m.ages;
  pending = told_held_pending layout false p a o (AgesAtMost 2 (progress_of layout)) s.bytes r.bytes h (two_ages layout s.bytes t.bytes r.bytes ages m.ages);
}

pub then_done : OneSide → (layout : Layout) (p : ProgressState) (a : Announcement) (o : ℕ) (s t r : FlashState) → o < a.length → IfSome s.bytes (HeldAs layout false p a o) → Calls (upload_spots layout) Went s t → Told (Reflags layout true) s.bytes t.bytes → Told (AgesAtMost 1 (progress_of layout)) s.bytes t.bytes → Done layout (upload_spots layout) 1 side_settle_steps t r
    → Done layout (upload_spots layout) 2 side_settle_steps s r
then_done one layout p a o s t r lt h calls flags ages m = record {
  calls = Calls-after (upload_spots layout) Went s t r calls m.calls;
  does = Told-trans (Reflags layout true) (Does layout side_settle_steps) (Does layout side_settle_steps) s.bytes t.bytes r.bytes (then_does layout true) flags m.does;
  ages = two_ages layout s.bytes t.bytes r.bytes ages m.ages;
  pending = told_held_pending layout false p a o (AgesAtMost 2 (progress_of layout)) s.bytes r.bytes h (two_ages layout s.bytes t.bytes r.bytes ages m.ages);
  pays = unpaid one layout false p a o s r lt h;
}
