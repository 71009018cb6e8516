-- An upload is given up, and the secondary slot is erased.
use Rattle.std.proofs.Common.{◌≡◌, ◌⊎◌, inl, inr, ℕ, zero, suc, ◌+◌, ◌*◌, ◌/◌, ◌≤◌, Bool, true, false, Option, Some, None, List, [], ◌∷◌, refl, sym, ◌∙◌, ap, subst, arith}
use Rattle.std.specs.Prelude.{IfSome, IsSome, option_map, is_some}
use Rattle.smp_flash.specs.Area.{dirty, dirty_pages, spot, Clear, Keeps, Fades, Told}
use Rattle.smp_flash.specs.Calls.{Calls, Smaller, ReadsAtMost, ChangesAtMost}
use Rattle.smp_flash.specs.Geometry.{slot_size, Regular, IsPage}
use Rattle.smp_flash.specs.Layout.{geometry_of, slot_of, progress_of, upload_spots}
use Rattle.smp_flash.specs.State.{FlashState, End, Changes}
use Rattle.smp_flash.specs.State.End.{Went}
use Rattle.smp_flash.specs.declared.layout.Layout.{Layout}
use Rattle.smp_flash.proofs.Passing.{Calls-wider, Calls-refl, Covers-within, reads_add, reads_more, changes_add, changes_more}
use Rattle.smp_flash.proofs.Sizes.{regular, each_page}
use Rattle.smp_flash.proofs.Telling.{Told-with, Told-both, Told-map, Told-after, Told-same, IfSome-map}
use Rattle.smp_gate.specs.Newest.{sides, AgesAtMost}
use Rattle.smp_model.specs.declared.device.Side.{Side}
use Rattle.smp_model.specs.declared.device.Upload.{Upload}
use Rattle.smp_model.specs.Sides.{Drop}
use Rattle.smp_progress.specs.Cells.{HasRecord, OldOrThis}
use Rattle.smp_progress.specs.State.{ProgressState, ProgressSays, AimsAtRecord}
use Rattle.smp_progress.specs.declared.record.Record.TheVariants as records
use Rattle.smp_upload.specs.Bytes.{SideStandsAs, SideStands, SideShows, Accepts, Clean, record_of}
use Rattle.smp_upload.specs.Counting.{Pays}
use Rattle.smp_upload.specs.Erasing.{FreeWith, known_gone, records_if, reads_if, writes_if, erases_if}
use Rattle.smp_upload.specs.Moves.{Moves, Does, KeepsPending, Moved, Done, no_steps, one_step}
use Rattle.smp_upload.specs.States.{Known, Says, Announced, announced}
use Rattle.smp_upload.specs.Storing.{known_at}
use Rattle.smp_tlv.specs.declared.carried.Carried.{Carried}
use Rattle.smp_model.specs.declared.image.ImageInfo.{ImageInfo}
use Rattle.smp_model.specs.declared.upload.Announcement.{Announcement}
use Rattle.smp_upload.proofs.Apartness.{active_by, confirmed_by, ages_clear}
use Rattle.smp_upload.proofs.Begun.{free_pending}
use Rattle.smp_upload.proofs.Composing.{Done-Done, Done-Moved, part_none, part_whole}
use Rattle.smp_upload.proofs.Fading.{free_fades}
use Rattle.smp_upload.proofs.Frames.{record_kept, progress_kept, ProgressLasts}
use Rattle.smp_upload.proofs.Putting.{put_reached, told_pending_sides, sides_Calls, sides_clear, good_free}
use Rattle.smp_upload.proofs.Resolved.{known_full, none_shows, same_ages, same_pending}
use Rattle.smp_upload.proofs.Sides.{OneSide, says_shows, says_knows}
use Rattle.smp_upload.proofs.Stored.{told_pending}
use Rattle.smp_upload.proofs.Tellings.{told_three, new_three, if_both, same_if, some_told}

-- the record first
abbrev Freely : Layout → ProgressState → Bool → List ℕ → Type 0
Freely layout p there bytes = FreeWith layout p there bytes

drop_moves : OneSide → (layout : Layout) (p : ProgressState) (there : Bool) (old new : List ℕ) → Freely layout p there old → Keeps (sides (progress_of layout)) old new → OldOrThis layout records.None old new → Moves layout (one_step Drop) old new
drop_moves one layout p there old new f k either = record {
  moves = λ side st.
      put_reached layout side (Drop ∷ []) false None old new st k either tt (good_free side.pending None (free_pending one layout p side old f.free st)) (part_whole side (Drop ∷ []));
}

drop_does : OneSide → (layout : Layout) (p : ProgressState) (there : Bool) (old new : List ℕ) → Freely layout p there old → Keeps (sides (progress_of layout)) old new → HasRecord layout records.None new → Does layout (one_step Drop) old new
drop_does one layout p there old new f k has = record { does = λ side st. none_shows layout st.rescue side old new (free_pending one layout p side old f.free st) st.stands k has }

gone_says : (layout : Layout) (p next : ProgressState) (there : Bool) (old new : List ℕ) → next.layout ≡ layout → Freely layout p there old → Keeps (sides (progress_of layout)) old new → HasRecord layout records.None new → ProgressSays next new → Says (known_gone layout next) new
gone_says layout p next there old new place f k has says =
    let s = f.free.says in
    let st : SideStandsAs layout false s.side old = subst (λ (l : Layout). SideStandsAs l false s.side old) f.free.layout_is s.shows.stands in
    let free : s.side.pending ≡ None = sym s.knows.pending ∙ f.free.free in
    record {
      side = record s.side { upload = None };
      shows = none_shows layout false s.side old new free st k has;
      knows = record { upload = refl; pending = sym free; image = refl; sums = tt };
      record_says = says;
      place = place;
    }

pub drop_moved : OneSide → (layout : Layout) (p : ProgressState) (there : Bool) (end : End) (s t : FlashState) → there ≡ true → IfSome s.bytes (FreeWith layout p there) → Calls (sides (progress_of layout)) end s t → Told (OldOrThis layout records.None) s.bytes t.bytes
    → Told (AgesAtMost 1 (progress_of layout)) s.bytes t.bytes → Moved layout (upload_spots layout) (records_if there) (one_step Drop) end s t
drop_moved one layout p there end s t is f calls either ages = record {
  calls = sides_Calls layout end s t calls;
  moves = Told-with (Freely layout p there) (λ u v. Keeps (sides (progress_of layout)) u v × OldOrThis layout records.None u v) (Moves layout (one_step Drop)) s.bytes t.bytes
      (λ u v free k. drop_moves one layout p there u v free k.0 k.1) f (Told-both (Keeps (sides (progress_of layout))) (OldOrThis layout records.None) s.bytes t.bytes calls.keeps either);
  ages = subst (λ (b : Bool). Told (AgesAtMost (records_if b) (progress_of layout)) s.bytes t.bytes) (sym is) ages;
  pending = told_pending_sides layout s.bytes t.bytes calls.keeps;
}

drop_pays : (layout : Layout) (s t : FlashState) → (AimsAtRecord layout s.aim → Smaller s.patience t.patience) → Pays layout (one_step Drop) s t
drop_pays layout s t f = record { pays = λ side st is. elim is [ inl now ↦ f now.1 | inr none ↦ absurd none ] }

pub drop_done : OneSide → (layout : Layout) (p : ProgressState) (there : Bool) (s t : FlashState) → there ≡ true → IfSome s.bytes (FreeWith layout p there) → Calls (sides (progress_of layout)) Went s t → IfSome t.bytes (HasRecord layout records.None)
    → Told (AgesAtMost 1 (progress_of layout)) s.bytes t.bytes → (AimsAtRecord layout s.aim → Smaller s.patience t.patience) → Done layout (upload_spots layout) (records_if there) (one_step Drop) s t
drop_done one layout p there s t is f calls has ages pays = record {
  calls = sides_Calls layout Went s t calls;
  does = told_three (Freely layout p there) (Keeps (sides (progress_of layout))) (HasRecord layout records.None) (Does layout (one_step Drop)) s.bytes t.bytes (λ u v free k h. drop_does one layout p there u v free k h) f calls.keeps has;
  ages = subst (λ (b : Bool). Told (AgesAtMost (records_if b) (progress_of layout)) s.bytes t.bytes) (sym is) ages;
  pending = told_pending_sides layout s.bytes t.bytes calls.keeps;
  pays = drop_pays layout s t pays;
}

pub drop_told : (layout : Layout) (p next : ProgressState) (there : Bool) (x y : Option (List ℕ)) → next.layout ≡ layout → IfSome x (FreeWith layout p there) → Told (Keeps (sides (progress_of layout))) x y → IfSome y (HasRecord layout records.None) → IfSome y (ProgressSays next)
    → IfSome y (Says (known_gone layout next))
drop_told layout p next there x y place f k has says =
    new_three (Freely layout p there) (Keeps (sides (progress_of layout))) (λ u. HasRecord layout records.None u × ProgressSays next u) (Says (known_gone layout next)) x y
    (λ u v free kk both. gone_says layout p next there u v place free kk both.0 both.1) f k (if_both (HasRecord layout records.None) (ProgressSays next) y has says)

-- where no upload is there, nothing is to be given up
none_known : (x : Option Announced) → is_some x ≡ false → x ≡ None
none_known None e = refl
none_known (Some x) e = absurd (cc e)

none_upload : (up : Option Upload) → None ≡ option_map announced up → up ≡ None
none_upload None e = refl
none_upload (Some u) e = absurd (cc e)

free_upload : OneSide → (layout : Layout) (p : ProgressState) (side : Side) (bytes : List ℕ) → Freely layout p false bytes → SideStands layout side bytes → side.upload ≡ None
free_upload one layout p side bytes f st =
    let known = f.free.known in
    let at_known : SideStands known.layout side bytes = subst (λ (l : Layout). SideStands l side bytes) (sym f.free.layout_is) st in
    none_upload side.upload (sym (none_known known.upload f.there_is) ∙ (says_knows one known side bytes f.free.says at_known).upload)

free_shows : OneSide → (layout : Layout) (p : ProgressState) (side : Side) (bytes : List ℕ) → Freely layout p false bytes → SideStands layout side bytes → SideShows layout side bytes
free_shows one layout p side bytes f st =
    let known = f.free.known in
    let at_known : SideStands known.layout side bytes = subst (λ (l : Layout). SideStands l side bytes) (sym f.free.layout_is) st in
    subst (λ (l : Layout). SideShows l side bytes) f.free.layout_is (says_shows one known side bytes f.free.says at_known)

none_does : OneSide → (layout : Layout) (p : ProgressState) (bytes : List ℕ) → Freely layout p false bytes → Does layout (one_step Drop) bytes bytes
none_does one layout p bytes f = record {
  does = λ side st.
      subst (λ (up : Option Upload). SideShows layout (record side { upload = up }) bytes) (free_upload one layout p side bytes f st) (free_shows one layout p side bytes f st);
}

none_pays : OneSide → (layout : Layout) (p : ProgressState) (s : FlashState) → IfSome s.bytes (Freely layout p false) → Pays layout (one_step Drop) s s
none_pays one layout p s f = record {
  pays = λ side st is. elim is [
    | inl now ↦ some_told (Freely layout p false) (SideStands layout side) s.bytes (Smaller s.patience s.patience) f st (λ u free stands. absurd (let e = free_upload one layout p side u free stands in cc (subst IsSome e now.0)))
    | inr none ↦ absurd none
  ];
}

pub none_done : OneSide → (layout : Layout) (p : ProgressState) (there : Bool) (s : FlashState) → there ≡ false → IfSome s.bytes (FreeWith layout p there) → Done layout (upload_spots layout) (records_if there) (one_step Drop) s s
none_done one layout p true s e f = absurd (cc e)
none_done one layout p false s e f = record {
  calls = Calls-refl (upload_spots layout) s;
  does = same_if (Freely layout p false) (Does layout (one_step Drop)) s.bytes s.bytes (λ u free. none_does one layout p u free) f refl;
  ages = Told-same (AgesAtMost 0 (progress_of layout)) s.bytes s.bytes (same_ages layout 0) refl;
  pending = Told-same (KeepsPending layout) s.bytes s.bytes (same_pending layout) refl;
  pays = none_pays one layout p s f;
}

-- and then the slot
abbrev pub whole_spots : Layout → List (ℕ × ℕ)
whole_spots layout = spot (slot_of layout 1).at (slot_of layout 1).length

whole_clear : (layout : Layout) (p n : ℕ) → (p + n ≤ (slot_of layout 1).at) ⊎ ((slot_of layout 1).at + slot_size (geometry_of layout) ≤ p) → Clear (whole_spots layout) p n
whole_clear layout p n either = (either, tt)

whole_primary : (layout : Layout) → Clear (whole_spots layout) (slot_of layout 0).at (slot_of layout 0).length
whole_primary layout = whole_clear layout (slot_of layout 0).at (slot_size (geometry_of layout)) (inl (omega arith))

whole_first : (layout : Layout) → Clear (whole_spots layout) (progress_of layout).first.at 4096
whole_first layout = whole_clear layout (progress_of layout).first.at 4096 (inr (omega arith))

whole_second : (layout : Layout) → Clear (whole_spots layout) (progress_of layout).second.at 4096
whole_second layout = whole_clear layout (progress_of layout).second.at 4096 (inr (omega arith))

wiped_as : (layout : Layout) (rescue : Bool) (side : Side) (old new : List ℕ) → side.upload ≡ None → side.pending ≡ None → Fades (slot_of layout 1).at (slot_of layout 1).length old new → SideStandsAs layout rescue side old → SideStandsAs layout rescue side new
wiped_as layout rescue side old new none free f h = record {
  active = h.active ∙ sym (active_by layout (whole_spots layout) old new (whole_primary layout) f.keeps);
  runs = h.runs;
  confirmed = h.confirmed ∙ sym (confirmed_by layout (whole_spots layout) old new (whole_primary layout) f.keeps);
  entry = record_kept layout (record_of rescue side.upload) (whole_spots layout) old new (whole_first layout) (whole_second layout) f.keeps h.entry;
  accepts = subst (λ (up : Option Upload). Accepts layout rescue up new) (sym none) tt;
  pending = free ∙ sym (free_fades layout old new f.faded (sym h.pending ∙ free));
  good = h.good;
}

-- What a state without an upload says of the side that the bytes stand for.
record Gone (layout : Layout) (side : Side) (bytes : List ℕ) : Type 0 where
  pub shows : SideShows layout side bytes
  pub none : side.upload ≡ None
  pub free : side.pending ≡ None

gone : OneSide → (layout : Layout) (p : ProgressState) (side : Side) (bytes : List ℕ) → Says (known_gone layout p) bytes → SideStands layout side bytes → Gone layout side bytes
gone one layout p side bytes says st =
    let k = says_knows one (known_gone layout p) side bytes says st in
    record { shows = says_shows one (known_gone layout p) side bytes says st; none = none_upload side.upload k.upload; free = sym k.pending }

wiped_shows : (layout : Layout) (side : Side) (old new : List ℕ) → Gone layout side old → Fades (slot_of layout 1).at (slot_of layout 1).length old new → SideShows layout side new
wiped_shows layout side old new g f = record {
  stands = wiped_as layout false side old new g.none g.free f g.shows.stands;
  settled = g.shows.settled;
  clean = subst (λ (up : Option Upload). Clean layout up new) (sym g.none) tt;
}

wipe_moves : OneSide → (layout : Layout) (p : ProgressState) (old new : List ℕ) → Says (known_gone layout p) old → Fades (slot_of layout 1).at (slot_of layout 1).length old new → Moves layout no_steps old new
wipe_moves one layout p old new says f = record {
  moves = λ side st.
      record { reached = side; part = part_none side []; stands = record { rescue = false; stands = (wiped_shows layout side old new (gone one layout p side old says st) f).stands } };
}

wipe_does : OneSide → (layout : Layout) (p : ProgressState) (old new : List ℕ) → Says (known_gone layout p) old → Fades (slot_of layout 1).at (slot_of layout 1).length old new → Does layout no_steps old new
wipe_does one layout p old new says f = record { does = λ side st. wiped_shows layout side old new (gone one layout p side old says st) f }

wipe_says : OneSide → ProgressLasts → (layout : Layout) (p : ProgressState) (old new : List ℕ) → Says (known_gone layout p) old → Fades (slot_of layout 1).at (slot_of layout 1).length old new → Says (known_gone layout p) new
wipe_says one lasts layout p old new s f = record {
  side = s.side;
  shows = wiped_shows layout s.side old new (gone one layout p s.side old s (record { rescue = false; stands = s.shows.stands })) f;
  knows = s.knows;
  record_says = progress_kept lasts layout p (whole_spots layout) old new s.place (whole_first layout) (whole_second layout) f.keeps s.record_says;
  place = s.place;
}

whole_Calls : (layout : Layout) (end : End) (a b : FlashState) → Calls (whole_spots layout) end a b → Calls (upload_spots layout) end a b
whole_Calls layout end a b calls =
    let s = slot_size (geometry_of layout) in
    let at = (slot_of layout 1).at in
    Calls-wider (upload_spots layout) (whole_spots layout) end a b (Covers-within at s at (s + 8192 + (geometry_of layout).page) (omega arith) (omega arith)) calls

pub wipe_moved : OneSide → (layout : Layout) (p : ProgressState) (end : End) (s t : FlashState) → IfSome s.bytes (Says (known_gone layout p)) → Calls (whole_spots layout) end s t → Told (Fades (slot_of layout 1).at (slot_of layout 1).length) s.bytes t.bytes
    → Moved layout (upload_spots layout) 0 no_steps end s t
wipe_moved one layout p end s t says calls fades = record {
  calls = whole_Calls layout end s t calls;
  moves = Told-with (Says (known_gone layout p)) (Fades (slot_of layout 1).at (slot_of layout 1).length) (Moves layout no_steps) s.bytes t.bytes (λ u v b f. wipe_moves one layout p u v b f) says fades;
  ages = Told-map (Keeps (whole_spots layout)) (AgesAtMost 0 (progress_of layout)) s.bytes t.bytes (λ u v k. ages_clear layout 0 (whole_spots layout) u v (whole_first layout) (whole_second layout) k) calls.keeps;
  pending = told_pending (known_gone layout p) (Keeps (whole_spots layout)) s.bytes t.bytes refl says calls.keeps;
}

pub wipe_done : OneSide → (layout : Layout) (p : ProgressState) (s t : FlashState) → IfSome s.bytes (Says (known_gone layout p)) → Calls (whole_spots layout) Went s t → Told (Fades (slot_of layout 1).at (slot_of layout 1).length) s.bytes t.bytes
    → Done layout (upload_spots layout) 0 no_steps s t
wipe_done one layout p s t says calls fades = record {
  calls = whole_Calls layout Went s t calls;
  does = Told-with (Says (known_gone layout p)) (Fades (slot_of layout 1).at (slot_of layout 1).length) (Does layout no_steps) s.bytes t.bytes (λ u v b f. wipe_does one layout p u v b f) says fades;
  ages = Told-map (Keeps (whole_spots layout)) (AgesAtMost 0 (progress_of layout)) s.bytes t.bytes (λ u v k. ages_clear layout 0 (whole_spots layout) u v (whole_first layout) (whole_second layout) k) calls.keeps;
  pending = told_pending (known_gone layout p) (Keeps (whole_spots layout)) s.bytes t.bytes refl says calls.keeps;
  pays = record { pays = λ side st is. absurd is };
}

pub wipe_told : OneSide → ProgressLasts → (layout : Layout) (p : ProgressState) (x y : Option (List ℕ)) → IfSome x (Says (known_gone layout p)) → Told (Fades (slot_of layout 1).at (slot_of layout 1).length) x y → IfSome y (Says (known_gone layout p))
wipe_told one lasts layout p x y says fades = Told-after (Says (known_gone layout p)) (Fades (slot_of layout 1).at (slot_of layout 1).length) (Says (known_gone layout p)) x y (λ u v b f. wipe_says one lasts layout p u v b f) says fades

-- both
more_none : (n : ℕ) → n + 0 ≡ n
more_none n = omega arith

pub erase_moved : (layout : Layout) (n : ℕ) (end : End) (a b c : FlashState) → Done layout (upload_spots layout) n (one_step Drop) a b → Moved layout (upload_spots layout) 0 no_steps end b c → Moved layout (upload_spots layout) n (one_step Drop) end a c
erase_moved layout n end a b c f h = subst (λ (m : ℕ). Moved layout (upload_spots layout) m (one_step Drop) end a c) (more_none n) (Done-Moved layout (upload_spots layout) n 0 (one_step Drop) no_steps end a b c f h)

pub erase_done : (layout : Layout) (n : ℕ) (a b c : FlashState) → Done layout (upload_spots layout) n (one_step Drop) a b → Done layout (upload_spots layout) 0 no_steps b c → Done layout (upload_spots layout) n (one_step Drop) a c
erase_done layout n a b c f h = subst (λ (m : ℕ). Done layout (upload_spots layout) m (one_step Drop) a c) (more_none n) (Done-Done layout (upload_spots layout) n 0 (one_step Drop) no_steps a b c f h)

pub erase_reads : (there : Bool) (size : ℕ) (p q r : Option ℕ) → ReadsAtMost (reads_if there 0) p q → ReadsAtMost size q r → ReadsAtMost (reads_if there size) p r
erase_reads false size p q r f h = reads_more (0 + size) size p r (omega arith) (reads_add 0 size p q r f h)
erase_reads true size p q r f h = reads_add 4096 size p q r f h

pub erase_changes : (there : Bool) (pages : ℕ) (p q r : Option Changes) → ChangesAtMost (writes_if there) (erases_if there 0) p q → ChangesAtMost 0 pages q r → ChangesAtMost (writes_if there) (erases_if there pages) p r
erase_changes false pages p q r f h = changes_more (0 + 0) 0 (0 + pages) pages p r (omega arith) (omega arith) (changes_add 0 0 0 pages p q r f h)
erase_changes true pages p q r f h = changes_more (2 + 0) 2 (8 + pages) (8 + pages) p r (omega arith) (omega arith) (changes_add 2 0 8 pages p q r f h)

pub first_reads : (there : Bool) (size : ℕ) (p q : Option ℕ) → ReadsAtMost (reads_if there 0) p q → ReadsAtMost (reads_if there size) p q
first_reads false size p q f = reads_more 0 size p q (omega arith) f
first_reads true size p q f = reads_more 4096 (4096 + size) p q (omega arith) f

pub first_changes : (there : Bool) (pages : ℕ) (p q : Option Changes) → ChangesAtMost (writes_if there) (erases_if there 0) p q → ChangesAtMost (writes_if there) (erases_if there pages) p q
first_changes false pages p q f = changes_more 0 0 0 pages p q (omega arith) (omega arith) f
first_changes true pages p q f = changes_more 2 2 8 (8 + pages) p q (omega arith) (omega arith) f

pub first_erases : (there : Bool) (P : List ℕ → ℕ) (x : Option (List ℕ)) (p q : Option Changes) → ChangesAtMost (writes_if there) (erases_if there 0) p q → IfSome x (λ held. ChangesAtMost (writes_if there) (erases_if there (P held)) p q)
first_erases there P None p q f = tt
first_erases there P (Some held) p q f = first_changes there (P held) p q f

-- pages that the record's bank does not touch are as dirty as before
pages_same : (page : ℕ) → ((n : ℕ) → suc n * page ≡ page + n * page) → (spots : List (ℕ × ℕ)) (n at end : ℕ) (old new : List ℕ) → at + n * page ≤ end → ((p m : ℕ) → p + m ≤ end → Clear spots p m) → Keeps spots old new → dirty_pages page at n new ≡ dirty_pages page at n old
pages_same page more spots zero at end old new le clear k = refl
pages_same page more spots (suc n) at end old new le clear k =
    let e : suc n * page ≡ page + n * page = more n in
    let one : at + page ≤ end = omega (arith, e, le) in
    let rest : at + page + n * page ≤ end = omega (arith, e, le) in
    (λ i. dirty page (k.apart at page (clear at page one) i) + pages_same page more spots n (at + page) end old new rest clear k i)

suc_times : (page : ℕ) → IsPage page → (n : ℕ) → suc n * page ≡ page + n * page
suc_times page is = each_page (λ p. (n : ℕ) → suc n * p ≡ p + n * p) (λ n. omega arith) (λ n. omega arith) (λ n. omega arith) (λ n. omega arith) page is

whole_times : (page s : ℕ) → IsPage page → s / page * page ≤ s
whole_times page s is = each_page (λ p. s / p * p ≤ s) (omega arith) (omega arith) (omega arith) (omega arith) page is

-- the pages of the slot to be erased, as many after the record was put as before
abbrev pub slot_dirty : Layout → List ℕ → ℕ
slot_dirty layout held = dirty_pages (geometry_of layout).page (slot_of layout 1).at ((slot_of layout 1).length / (geometry_of layout).page) held

slot_same : (layout : Layout) (old new : List ℕ) → Keeps (sides (progress_of layout)) old new → slot_dirty layout new ≡ slot_dirty layout old
slot_same layout old new k =
    let g = geometry_of layout in
    let s = slot_size g in
    let at = (slot_of layout 1).at in
    let r : Regular g = regular g layout.lawful in
    let le : s / g.page * g.page ≤ s = whole_times g.page s r.is_page in
    pages_same g.page (suc_times g.page r.is_page) (sides (progress_of layout)) (s / g.page) at (at + s) old new (omega (arith, le)) (λ p m below. sides_clear layout p m (inl (omega arith))) k

pub erase_erases : (layout : Layout) (there : Bool) (x y : Option (List ℕ)) (p q r : Option Changes) → Told (Keeps (sides (progress_of layout))) x y → ChangesAtMost (writes_if there) (erases_if there 0) p q
    → IfSome y (λ held. ChangesAtMost 0 (slot_dirty layout held) q r) → IfSome x (λ held. ChangesAtMost (writes_if there) (erases_if there (slot_dirty layout held)) p r)
erase_erases layout there None y p q r k f h = tt
erase_erases layout there (Some u) None p q r k f h = absurd k
erase_erases layout there (Some u) (Some v) p q r k f h = subst (λ (n : ℕ). ChangesAtMost (writes_if there) (erases_if there n) p r) (slot_same layout u v k) (erase_changes there (slot_dirty layout v) p q r f h)

-- a state without an upload, or with one
free_none : (known : Known) (x : Option (List ℕ)) → known.pending ≡ None → known.upload ≡ None → IfSome x (Says known) → IfSome x (FreeWith known.layout known.entry false)
free_none known x e none says = IfSome-map (Says known) (FreeWith known.layout known.entry false) x (λ u s. record { free = record { known = known; says = s; layout_is = refl; entry_is = refl; free = e }; there_is = ap is_some none }) says

free_some : (known : Known) (a : Announced) (x : Option (List ℕ)) → known.pending ≡ None → known.upload ≡ Some a → IfSome x (Says known) → IfSome x (FreeWith known.layout known.entry true)
free_some known a x e some says = IfSome-map (Says known) (FreeWith known.layout known.entry true) x (λ u s. record { free = record { known = known; says = s; layout_is = refl; entry_is = refl; free = e }; there_is = ap is_some some }) says

-- the same by what each state knows
pub gone_free : (layout : Layout) (p : ProgressState) (x : Option (List ℕ)) → IfSome x (Says (known_gone layout p)) → IfSome x (FreeWith layout p false)
gone_free layout p x says = free_none (known_gone layout p) x refl refl says

pub at_free : (layout : Layout) (p : ProgressState) (a : Announcement) (offset : ℕ) (sums : Carried) (x : Option (List ℕ)) → IfSome x (Says (known_at layout p a offset sums)) → IfSome x (FreeWith layout p true)
at_free layout p a offset sums x says = free_some (known_at layout p a offset sums) (record { announcement = a; offset = offset }) x refl refl says

pub full_given : (layout : Layout) (p : ProgressState) (a : Announcement) (image : Option ImageInfo) (x : Option (List ℕ)) → IfSome x (Says (known_full layout p a image)) → IfSome x (FreeWith layout p true)
full_given layout p a image x says = free_some (known_full layout p a image) (record { announcement = a; offset = a.length }) x refl refl says
