-- The secondary slot is marked.
use Rattle.std.proofs.Common.{◌≡◌, ◌⊎◌, inl, inr, ℕ, ◌+◌, ◌-◌, ◌*◌, ◌≤◌, false, Option, Some, None, List, [], ◌∷◌, length, refl, sym, ◌∙◌, ap, subst, arith}
use Rattle.std.specs.Prelude.{◌↔◌, IfSome, IsSome}
use Rattle.smp_flash.specs.Area.{spot, Clear, Keeps, Told}
use Rattle.smp_flash.specs.Calls.{Calls, Smaller}
use Rattle.smp_flash.specs.Geometry.{slot_size, Regular}
use Rattle.smp_flash.specs.Layout.{geometry_of, slot_of, progress_of, upload_spots}
use Rattle.smp_flash.specs.State.{FlashState, End}
use Rattle.smp_flash.specs.State.End.{Went}
use Rattle.smp_flash.specs.declared.layout.Layout.{Layout}
use Rattle.smp_flash.proofs.Passing.{Calls-wider, Covers-within}
use Rattle.smp_flash.proofs.Sizes.{regular}
use Rattle.smp_flash.proofs.Telling.{Told-map, IfSome-map}
use Rattle.smp_gate.specs.Newest.{AgesAtMost}
use Rattle.smp_model.specs.declared.device.Side.{Side}
use Rattle.smp_model.specs.declared.device.Upload.{Upload}
use Rattle.smp_model.specs.declared.image.ImageInfo.{ImageInfo}
use Rattle.smp_model.specs.declared.upload.Announcement.{Announcement}
use Rattle.smp_model.specs.declared.upload.Mark.{Mark}
use Rattle.smp_model.specs.Laws.{GoodUpload, GoodWhere}
use Rattle.smp_model.specs.Sides.{MarkPending}
use Rattle.smp_model.specs.Uploads.{uploaded_image}
use Rattle.smp_progress.specs.State.{ProgressState}
use Rattle.smp_slot.specs.Marks.{MarkOrNone}
use Rattle.smp_slot.specs.Slots.{last_page}
use Rattle.smp_upload.specs.Bytes.{SideStandsAs, SideStands, SideShows, Accepts, Clean, pending_in, record_of}
use Rattle.smp_upload.specs.Counting.{Pays, AimsAtSlot}
use Rattle.smp_upload.specs.Moves.{Moves, Does, Moved, Done, one_step}
use Rattle.smp_upload.specs.States.{Known, Says, Announced}
use Rattle.smp_upload.proofs.Apartness.{active_by, confirmed_by, ages_clear}
use Rattle.smp_upload.proofs.Composing.{part_none, part_whole}
use Rattle.smp_upload.proofs.Frames.{record_kept, progress_kept, ProgressLasts}
use Rattle.smp_upload.proofs.Resolved.{known_full}
use Rattle.smp_upload.proofs.Sides.{OneSide, says_shows, says_knows}
use Rattle.smp_upload.proofs.Stored.{Found, found, told_pending}
use Rattle.smp_upload.proofs.Tellings.{told_three, new_three}

-- what the crate below promises of a good upload
abbrev pub GoodImages : Type 0
GoodImages = (u : Option Upload) → GoodUpload u ↔ IsSome (uploaded_image u)

-- the slot's last page
abbrev pub end_spots : Layout → List (ℕ × ℕ)
end_spots layout = spot (last_page (slot_of layout 1) (geometry_of layout)) (geometry_of layout).page

-- what lies before it or behind the slot
end_clear : (layout : Layout) (p n : ℕ) → (p + n ≤ (slot_of layout 1).at + (slot_size (geometry_of layout) - (geometry_of layout).page)) ⊎ ((slot_of layout 1).at + slot_size (geometry_of layout) ≤ p) → Clear (end_spots layout) p n
end_clear layout p n either =
    let r : Regular (geometry_of layout) = regular (geometry_of layout) layout.lawful in
    let least : 4 * (geometry_of layout).page ≤ slot_size (geometry_of layout) = r.slot_least in
    elim either [
      | inl before ↦ (inl (omega arith), tt)
      | inr behind ↦ (inr (omega arith), tt)
    ]

end_primary : (layout : Layout) → Clear (end_spots layout) (slot_of layout 0).at (slot_of layout 0).length
end_primary layout = end_clear layout (slot_of layout 0).at (slot_size (geometry_of layout)) (inl (omega arith))

end_first : (layout : Layout) → Clear (end_spots layout) (progress_of layout).first.at 4096
end_first layout = end_clear layout (progress_of layout).first.at 4096 (inr (omega arith))

end_second : (layout : Layout) → Clear (end_spots layout) (progress_of layout).second.at 4096
end_second layout = end_clear layout (progress_of layout).second.at 4096 (inr (omega arith))

-- the accepted bytes lie before the last page
end_accepts : (layout : Layout) (up : Option Upload) (x : Announced) (old new : List ℕ) → x.offset + (geometry_of layout).page ≤ slot_size (geometry_of layout) → Found up x → Keeps (end_spots layout) old new
    → Accepts layout false up old → Accepts layout false up new
end_accepts layout None x old new most f k h = tt
end_accepts layout (Some u) x old new most f k h =
    let same : u ≡ f.u = some_upload u f.u f.is in
    let n : length u.accepted ≡ x.offset = ap (λ (v : Upload). length v.accepted) same ∙ f.offset in
    h ∙ sym (k.apart (slot_of layout 1).at (length u.accepted) (end_clear layout (slot_of layout 1).at (length u.accepted) (inl (omega arith))))
  where
    some_upload : (u v : Upload) → Some u ≡ Some v → u ≡ v
    some_upload u v e = cc e

-- the side with what is pending then
as_marked : (layout : Layout) (side : Side) (x : Announced) (m : Option Mark) (old new : List ℕ) → x.offset + (geometry_of layout).page ≤ slot_size (geometry_of layout) → Found side.upload x → Keeps (end_spots layout) old new
    → pending_in layout new ≡ m → GoodWhere m side.upload → SideStandsAs layout false side old → SideStandsAs layout false (record side { pending = m }) new
as_marked layout side x m old new most f k e good h = record {
  active = h.active ∙ sym (active_by layout (end_spots layout) old new (end_primary layout) k);
  runs = h.runs;
  confirmed = h.confirmed ∙ sym (confirmed_by layout (end_spots layout) old new (end_primary layout) k);
  entry = record_kept layout (record_of false side.upload) (end_spots layout) old new (end_first layout) (end_second layout) k h.entry;
  accepts = end_accepts layout side.upload x old new most f k h.accepts;
  pending = sym e;
  good = good;
}

-- What the state of a whole upload says of the side that the bytes stand for.
record Full (layout : Layout) (a : Announcement) (side : Side) (bytes : List ℕ) : Type 0 where
  pub shows : SideShows layout side bytes
  pub found : Found side.upload (record { announcement = a; offset = a.length })
  pub free : side.pending ≡ None
  pub good : GoodUpload side.upload

full : OneSide → GoodImages → (layout : Layout) (p : ProgressState) (a : Announcement) (image : Option ImageInfo) (side : Side) (bytes : List ℕ) → IsSome image → Says (known_full layout p a image) bytes → SideStands layout side bytes → Full layout a side bytes
full one goods layout p a image side bytes some says st =
    let k = says_knows one (known_full layout p a image) side bytes says st in
    record {
      shows = says_shows one (known_full layout p a image) side bytes says st;
      found = found side.upload (record { announcement = a; offset = a.length }) k.upload;
      free = sym k.pending;
      good = (goods side.upload).1 (subst IsSome k.image some);
    }

mark_moves : OneSide → GoodImages → (layout : Layout) (p : ProgressState) (a : Announcement) (image : Option ImageInfo) (mark : Mark) (old new : List ℕ) → a.length + (geometry_of layout).page ≤ slot_size (geometry_of layout) → IsSome image
    → Says (known_full layout p a image) old → Keeps (end_spots layout) old new → MarkOrNone (slot_of layout 1) mark new → Moves layout (one_step (MarkPending mark)) old new
mark_moves one goods layout p a image mark old new most some says k either = record {
  moves = λ side st.
      let f = full one goods layout p a image side old some says st in
      let x : Announced = record { announcement = a; offset = a.length } in
      elim either [
        | inl none ↦ record {
          reached = side;
          part = part_none side (MarkPending mark ∷ []);
          stands = record {
            rescue = false;
            stands = subst (λ (m : Option Mark). SideStandsAs layout false (record side { pending = m }) new) (sym f.free) (as_marked layout side x None old new most f.found k none tt f.shows.stands);
          };
        }
        | inr this ↦ record {
          reached = record side { pending = Some mark };
          part = part_whole side (MarkPending mark ∷ []);
          stands = record { rescue = false; stands = as_marked layout side x (Some mark) old new most f.found k this f.good f.shows.stands };
        }
      ];
}

-- nothing follows the bytes of a complete upload
full_clean : (layout : Layout) (up : Option Upload) (a : Announcement) (bytes : List ℕ) → Found up (record { announcement = a; offset = a.length }) → Clean layout up bytes
full_clean layout None a bytes f = tt
full_clean layout (Some u) a bytes f = λ below.
    let same : u ≡ f.u = some_upload u f.u f.is in
    let n : length u.accepted ≡ a.length = ap (λ (v : Upload). length v.accepted) same ∙ f.offset in
    let m : u.announcement.length ≡ a.length = ap (λ (v : Upload). v.announcement.length) same ∙ ap (λ (b : Announcement). b.length) f.announcement in
    absurd (omega arith)
  where
    some_upload : (u v : Upload) → Some u ≡ Some v → u ≡ v
    some_upload u v e = cc e

marked_shows : (layout : Layout) (a : Announcement) (mark : Mark) (side : Side) (old new : List ℕ) → a.length + (geometry_of layout).page ≤ slot_size (geometry_of layout) → Full layout a side old → Keeps (end_spots layout) old new → pending_in layout new ≡ Some mark
    → SideShows layout (record side { pending = Some mark }) new
marked_shows layout a mark side old new most f k is = record {
  stands = as_marked layout side (record { announcement = a; offset = a.length }) (Some mark) old new most f.found k is f.good f.shows.stands;
  settled = f.shows.settled;
  clean = full_clean layout side.upload a new f.found;
}

mark_does : OneSide → GoodImages → (layout : Layout) (p : ProgressState) (a : Announcement) (image : Option ImageInfo) (mark : Mark) (old new : List ℕ) → a.length + (geometry_of layout).page ≤ slot_size (geometry_of layout) → IsSome image
    → Says (known_full layout p a image) old → Keeps (end_spots layout) old new → pending_in layout new ≡ Some mark → Does layout (one_step (MarkPending mark)) old new
mark_does one goods layout p a image mark old new most some says k is = record { does = λ side st. marked_shows layout a mark side old new most (full one goods layout p a image side old some says st) k is }

-- what is known of an upload that is pending
abbrev pub known_marked : Layout → ProgressState → Announcement → ImageInfo → Mark → Known
known_marked layout p a image mark = record { layout = layout; entry = p; upload = Some (record { announcement = a; offset = a.length }); pending = Some mark; image = Some image; sums = None }

mark_says : OneSide → GoodImages → ProgressLasts → (layout : Layout) (p : ProgressState) (a : Announcement) (image : Option ImageInfo) (info : ImageInfo) (mark : Mark) (old new : List ℕ) → a.length + (geometry_of layout).page ≤ slot_size (geometry_of layout) → image ≡ Some info
    → Says (known_full layout p a image) old → Keeps (end_spots layout) old new → pending_in layout new ≡ Some mark → Says (known_marked layout p a info mark) new
mark_says one goods lasts layout p a image info mark old new most there s k is =
    let f = full one goods layout p a image s.side old (subst IsSome (sym there) refl) s (record { rescue = false; stands = s.shows.stands }) in
    record {
      side = record s.side { pending = Some mark };
      shows = marked_shows layout a mark s.side old new most f k is;
      knows = record { upload = s.knows.upload; pending = refl; image = sym there ∙ s.knows.image; sums = tt };
      record_says = progress_kept lasts layout p (end_spots layout) old new s.place (end_first layout) (end_second layout) k s.record_says;
      place = s.place;
    }

end_Calls : (layout : Layout) (end : End) (a b : FlashState) → Calls (end_spots layout) end a b → Calls (upload_spots layout) end a b
end_Calls layout end a b calls =
    let s = slot_size (geometry_of layout) in
    let at = (slot_of layout 1).at in
    let page = (geometry_of layout).page in
    let r : Regular (geometry_of layout) = regular (geometry_of layout) layout.lawful in
    let least : 4 * page ≤ s = r.slot_least in
    Calls-wider (upload_spots layout) (end_spots layout) end a b (Covers-within (at + s - page) page at (s + 8192 + page) (omega arith) (omega arith)) calls

pub mark_moved : OneSide → GoodImages → (layout : Layout) (p : ProgressState) (a : Announcement) (image : Option ImageInfo) (mark : Mark) (end : End) (s t : FlashState) → a.length + (geometry_of layout).page ≤ slot_size (geometry_of layout) → IsSome image
    → IfSome s.bytes (Says (known_full layout p a image)) → Calls (end_spots layout) end s t → IfSome t.bytes (MarkOrNone (slot_of layout 1) mark) → Moved layout (upload_spots layout) 0 (one_step (MarkPending mark)) end s t
mark_moved one goods layout p a image mark end s t most some says calls either = record {
  calls = end_Calls layout end s t calls;
  moves = told_three (Says (known_full layout p a image)) (Keeps (end_spots layout)) (MarkOrNone (slot_of layout 1) mark) (Moves layout (one_step (MarkPending mark))) s.bytes t.bytes
      (λ u v b k h. mark_moves one goods layout p a image mark u v most some b k h) says calls.keeps either;
  ages = Told-map (Keeps (end_spots layout)) (AgesAtMost 0 (progress_of layout)) s.bytes t.bytes (λ u v k. ages_clear layout 0 (end_spots layout) u v (end_first layout) (end_second layout) k) calls.keeps;
  pending = told_pending (known_full layout p a image) (Keeps (end_spots layout)) s.bytes t.bytes refl says calls.keeps;
}

mark_pays : (layout : Layout) (mark : Mark) (s t : FlashState) → (AimsAtSlot layout 1 s.aim → Smaller s.patience t.patience) → Pays layout (one_step (MarkPending mark)) s t
mark_pays layout mark s t f = record { pays = λ side st is. elim is [ inl now ↦ f now | inr none ↦ absurd none ] }

pub mark_done : OneSide → GoodImages → (layout : Layout) (p : ProgressState) (a : Announcement) (image : Option ImageInfo) (mark : Mark) (s t : FlashState) → a.length + (geometry_of layout).page ≤ slot_size (geometry_of layout) → IsSome image
    → IfSome s.bytes (Says (known_full layout p a image)) → Calls (end_spots layout) Went s t → IfSome t.bytes (λ held. pending_in layout held ≡ Some mark) → (AimsAtSlot layout 1 s.aim → Smaller s.patience t.patience) → Done layout (upload_spots layout) 0 (one_step (MarkPending mark)) s t
mark_done one goods layout p a image mark s t most some says calls is pays = record {
  calls = end_Calls layout Went s t calls;
  does = told_three (Says (known_full layout p a image)) (Keeps (end_spots layout)) (λ held. pending_in layout held ≡ Some mark) (Does layout (one_step (MarkPending mark))) s.bytes t.bytes
      (λ u v b k h. mark_does one goods layout p a image mark u v most some b k h) says calls.keeps is;
  ages = Told-map (Keeps (end_spots layout)) (AgesAtMost 0 (progress_of layout)) s.bytes t.bytes (λ u v k. ages_clear layout 0 (end_spots layout) u v (end_first layout) (end_second layout) k) calls.keeps;
  pending = told_pending (known_full layout p a image) (Keeps (end_spots layout)) s.bytes t.bytes refl says calls.keeps;
  pays = mark_pays layout mark s t pays;
}

pub mark_told : OneSide → GoodImages → ProgressLasts → (layout : Layout) (p : ProgressState) (a : Announcement) (image : Option ImageInfo) (info : ImageInfo) (mark : Mark) (x y : Option (List ℕ)) → a.length + (geometry_of layout).page ≤ slot_size (geometry_of layout) → image ≡ Some info
    → IfSome x (Says (known_full layout p a image)) → Told (Keeps (end_spots layout)) x y → IfSome y (λ held. pending_in layout held ≡ Some mark) → IfSome y (Says (known_marked layout p a info mark))
mark_told one goods lasts layout p a image info mark x y most there says k is =
    new_three (Says (known_full layout p a image)) (Keeps (end_spots layout)) (λ held. pending_in layout held ≡ Some mark) (Says (known_marked layout p a info mark)) x y
    (λ u v b kk h. mark_says one goods lasts layout p a image info mark u v most there b kk h) says k is

-- nothing is pending where the upload is whole
pub full_free : (layout : Layout) (p : ProgressState) (a : Announcement) (image : Option ImageInfo) (x : Option (List ℕ)) → IfSome x (Says (known_full layout p a image)) → IfSome x (λ held. pending_in layout held ≡ None)
full_free layout p a image x says = IfSome-map (Says (known_full layout p a image)) (λ held. pending_in layout held ≡ None) x (λ u s. sym s.shows.stands.pending ∙ sym s.knows.pending) says
