-- An upload is chosen.
use Rattle.std.proofs.Common.{◌≡◌, inl, inr, ℕ, ◌+◌, ◌%◌, ◌≤◌, Bool, false, Option, Some, None, List, [], ◌∷◌, refl, sym, ◌∙◌, ap, subst, arith, ◌&&◌, if◌then◌else◌}
use Rattle.std.specs.Prelude.{IfSome, ◌==◌, not}
use Rattle.smp_flash.specs.Area.{area, blank, Keeps, Told}
use Rattle.smp_flash.specs.Calls.{Calls, Smaller}
use Rattle.smp_flash.specs.Geometry.{tail, Regular}
use Rattle.smp_flash.specs.Layout.{geometry_of, slot_of, progress_of, upload_spots}
use Rattle.smp_flash.specs.State.{FlashState, End}
use Rattle.smp_flash.specs.State.End.{Went}
use Rattle.smp_flash.specs.declared.layout.Layout.{Layout}
use Rattle.smp_flash.proofs.Places.{tail_zero}
use Rattle.smp_flash.proofs.Sizes.{regular, each_page}
use Rattle.smp_flash.proofs.Telling.{Told-with, Told-both, IfSome-map}
use Rattle.smp_gate.specs.Newest.{sides, AgesAtMost}
use Rattle.smp_model.specs.declared.device.Side.{Side}
use Rattle.smp_model.specs.declared.upload.Announcement.{Announcement}
use Rattle.smp_model.specs.Sides.{Choose, chosen}
use Rattle.smp_model.specs.Uploads.{uploaded_image, differs}
use Rattle.smp_model.specs.Image.{good_image}
use Rattle.std.proofs.lemmas.Bool.Decides.{nat_tests}
use Rattle.smp_progress.specs.Cells.{HasRecord, OldOrThis}
use Rattle.smp_progress.specs.State.{ProgressState, ProgressSays, AimsAtRecord}
use Rattle.smp_progress.specs.declared.record.Record.TheVariants as records
use Rattle.smp_tlv.specs.Carried.{Carries}
use Rattle.smp_tlv.specs.declared.carried.Carried.{Carried}
use Rattle.smp_upload.specs.Bytes.{SideStandsAs, SideStands, SideShows, CleanFrom}
use Rattle.smp_upload.specs.Counting.{Pays}
use Rattle.smp_upload.specs.Free.{Free}
use Rattle.smp_upload.specs.Moves.{Moves, Does, Moved, Done, one_step}
use Rattle.smp_upload.specs.States.{Known, Says}
use Rattle.smp_upload.specs.Storing.{known_at}
use Rattle.smp_upload.proofs.Composing.{part_whole}
use Rattle.smp_upload.proofs.Sides.{OneSide, says_knows}
use Rattle.smp_upload.proofs.Putting.{put_reached, as_after, fixed_sides, told_pending_sides, sides_Calls, good_free}
use Rattle.smp_upload.proofs.Tellings.{told_three, new_three, if_both}

-- nothing is pending on a side that such bytes stand for
pub free_pending : OneSide → (layout : Layout) (p : ProgressState) (side : Side) (bytes : List ℕ) → Free layout p bytes → SideStands layout side bytes → side.pending ≡ None
free_pending one layout p side bytes f st =
    let at_known : SideStands f.known.layout side bytes = subst (λ (l : Layout). SideStands l side bytes) (sym f.layout_is) st in
    sym (says_knows one f.known side bytes f.says at_known).pending ∙ f.free

choose_moves : OneSide → (layout : Layout) (p : ProgressState) (a : Announcement) (old new : List ℕ) → Free layout p old → Keeps (sides (progress_of layout)) old new → OldOrThis layout (records.Upload a 0 false) old new
    → Moves layout (one_step (Choose a)) old new
choose_moves one layout p a old new f k either = record {
  moves = λ side st.
      put_reached layout side (Choose a ∷ []) false (Some (chosen a)) old new st k either refl (good_free side.pending (Some (chosen a)) (free_pending one layout p side old f st)) (part_whole side (Choose a ∷ []));
}

differs_zero : (n : ℕ) → 32 ≤ n → (0 == n) ≡ false
differs_zero n le = grind (arith, nat_tests)

incomplete : (n : ℕ) (b : Bool) → 32 ≤ n → ((0 == n) && b) ≡ false
incomplete n b le = ap (λ (t : Bool). t && b) (differs_zero n le)

clean_start : (layout : Layout) (n : ℕ) (new : List ℕ) → CleanFrom layout 0 n new
clean_start layout n new = λ below.
    let page = (geometry_of layout).page in
    let r : Regular (geometry_of layout) = regular (geometry_of layout) layout.lawful in
    let e : tail page 0 ≡ 0 = tail_zero page 0 r.is_page (each_page (λ q. 0 % q ≡ 0) refl refl refl refl page r.is_page) in
    ap (λ (m : ℕ). area ((slot_of layout 1).at + 0) m new) e ∙ sym (ap blank e)

chosen_shows : (layout : Layout) (a : Announcement) (r : Bool) (side : Side) (old new : List ℕ) → 32 ≤ a.length → side.pending ≡ None → SideStandsAs layout r side old → Keeps (sides (progress_of layout)) old new
    → HasRecord layout (records.Upload a 0 false) new → SideShows layout (record side { upload = Some (chosen a) }) new
chosen_shows layout a r side old new le free st k has = record {
  stands = as_after layout r false side (Some (chosen a)) old new (fixed_sides layout old new k) st has refl (good_free side.pending (Some (chosen a)) free);
  settled = incomplete a.length _ le;
  clean = clean_start layout a.length new;
}

choose_does : OneSide → (layout : Layout) (p : ProgressState) (a : Announcement) (old new : List ℕ) → 32 ≤ a.length → Free layout p old → Keeps (sides (progress_of layout)) old new → HasRecord layout (records.Upload a 0 false) new
    → Does layout (one_step (Choose a)) old new
choose_does one layout p a old new le f k has = record { does = λ side st. chosen_shows layout a st.rescue side old new le (free_pending one layout p side old f st) st.stands k has }

no_image : (a : Announcement) → 32 ≤ a.length → None ≡ uploaded_image (Some (chosen a))
no_image a le = sym (ap (λ (b : Bool). if b then good_image [] else None) (incomplete a.length (not (differs a.digest [])) le))

choose_says : (layout : Layout) (p next : ProgressState) (a : Announcement) (sums : Carried) (old new : List ℕ) → 32 ≤ a.length → next.layout ≡ layout → Carries sums [] → Free layout p old → Keeps (sides (progress_of layout)) old new → HasRecord layout (records.Upload a 0 false) new → ProgressSays next new
    → Says (known_at layout next a 0 sums) new
choose_says layout p next a sums old new le place empty f k has says =
    let s = f.says in
    let st : SideStandsAs layout false s.side old = subst (λ (l : Layout). SideStandsAs l false s.side old) f.layout_is s.shows.stands in
    let free : s.side.pending ≡ None = sym s.knows.pending ∙ f.free in
    record {
      side = record s.side { upload = Some (chosen a) };
      shows = chosen_shows layout a false s.side old new le free st k has;
      knows = record { upload = refl; pending = sym free; image = no_image a le; sums = empty };
      record_says = says;
      place = place;
    }

pub choose_moved : OneSide → (layout : Layout) (p : ProgressState) (a : Announcement) (end : End) (s t : FlashState) → IfSome s.bytes (Free layout p) → Calls (sides (progress_of layout)) end s t → Told (OldOrThis layout (records.Upload a 0 false)) s.bytes t.bytes
    → Told (AgesAtMost 1 (progress_of layout)) s.bytes t.bytes → Moved layout (upload_spots layout) 1 (one_step (Choose a)) end s t
choose_moved one layout p a end s t f calls either ages = record {
  calls = sides_Calls layout end s t calls;
  moves = Told-with (Free layout p) (λ u v. Keeps (sides (progress_of layout)) u v × OldOrThis layout (records.Upload a 0 false) u v) (Moves layout (one_step (Choose a))) s.bytes t.bytes
      (λ u v free both. choose_moves one layout p a u v free both.0 both.1) f (Told-both (Keeps (sides (progress_of layout))) (OldOrThis layout (records.Upload a 0 false)) s.bytes t.bytes calls.keeps either);
  ages = ages;
  pending = told_pending_sides layout s.bytes t.bytes calls.keeps;
}

choose_pays : (layout : Layout) (a : Announcement) (s t : FlashState) → (AimsAtRecord layout s.aim → Smaller s.patience t.patience) → Pays layout (one_step (Choose a)) s t
choose_pays layout a s t f = record { pays = λ side st is. elim is [ inl now ↦ f now | inr none ↦ absurd none ] }

pub choose_done : OneSide → (layout : Layout) (p : ProgressState) (a : Announcement) (s t : FlashState) → 32 ≤ a.length → IfSome s.bytes (Free layout p) → Calls (sides (progress_of layout)) Went s t → IfSome t.bytes (HasRecord layout (records.Upload a 0 false))
    → Told (AgesAtMost 1 (progress_of layout)) s.bytes t.bytes → (AimsAtRecord layout s.aim → Smaller s.patience t.patience) → Done layout (upload_spots layout) 1 (one_step (Choose a)) s t
choose_done one layout p a s t le f calls has ages pays = record {
  calls = sides_Calls layout Went s t calls;
  does = told_three (Free layout p) (Keeps (sides (progress_of layout))) (HasRecord layout (records.Upload a 0 false)) (Does layout (one_step (Choose a))) s.bytes t.bytes
      (λ u v free k h. choose_does one layout p a u v le free k h) f calls.keeps has;
  ages = ages;
  pending = told_pending_sides layout s.bytes t.bytes calls.keeps;
  pays = choose_pays layout a s t pays;
}

pub choose_told : (layout : Layout) (p next : ProgressState) (a : Announcement) (sums : Carried) (x y : Option (List ℕ)) → 32 ≤ a.length → next.layout ≡ layout → Carries sums [] → IfSome x (Free layout p) → Told (Keeps (sides (progress_of layout))) x y
    → IfSome y (HasRecord layout (records.Upload a 0 false)) → IfSome y (ProgressSays next) → IfSome y (Says (known_at layout next a 0 sums))
choose_told layout p next a sums x y le place empty f k has says =
    new_three (Free layout p) (Keeps (sides (progress_of layout))) (λ u. HasRecord layout (records.Upload a 0 false) u × ProgressSays next u) (Says (known_at layout next a 0 sums)) x y
    (λ u v free kk both. choose_says layout p next a sums u v le place empty free kk both.0 both.1) f k (if_both (HasRecord layout (records.Upload a 0 false)) (ProgressSays next) y has says)

pub free_of : (known : Known) (x : Option (List ℕ)) → known.pending ≡ None → IfSome x (Says known) → IfSome x (Free known.layout known.entry)
free_of known x e says = IfSome-map (Says known) (Free known.layout known.entry) x (λ u s. record { known = known; says = s; layout_is = refl; entry_is = refl; free = e }) says

pub free_says : (layout : Layout) (p : ProgressState) (x : Option (List ℕ)) → IfSome x (Free layout p) → IfSome x (ProgressSays p)
free_says layout p x f = IfSome-map (Free layout p) (ProgressSays p) x (λ u g. subst (λ (q : ProgressState). ProgressSays q u) g.entry_is g.says.record_says) f
