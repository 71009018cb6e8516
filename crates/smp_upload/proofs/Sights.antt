-- What a look found, as a side that the bytes stand for.
use Rattle.std.proofs.Common.{◌≡◌, ℕ, ◌+◌, ◌-◌, ◌%◌, ◌<◌, ◌≤◌, Bool, true, false, Option, Some, None, List, length, refl, sym, ◌∙◌, ap, subst, arith, ◌&&◌, if◌then◌else◌, length-append}
use Rattle.std.specs.Prelude.{IfSome, IsSome, not, nat_lt}
use Rattle.std.specs.Str.{bytes_eq}
use Rattle.std.proofs.lemmas.Slice.Eq.{bytes_eq-Decides}
use Rattle.std.proofs.lemmas.Bool.Decides.{nat_tests}
use Rattle.sha2.specs.Sha256.{sha256}
use Rattle.smp_flash.specs.Area.{area}
use Rattle.smp_flash.specs.Geometry.{slot_size, size_of, Regular}
use Rattle.smp_flash.specs.Layout.{geometry_of, slot_of, scratch_of}
use Rattle.smp_flash.specs.declared.layout.Layout.{Layout}
use Rattle.smp_flash.proofs.Areas.{length-area}
use Rattle.smp_flash.proofs.Layouts.{arranged}
use Rattle.smp_flash.proofs.Places.{page_small}
use Rattle.smp_flash.proofs.Sizes.{regular}
use Rattle.smp_flash.proofs.Telling.{IfSome-map}
use Rattle.smp_model.specs.declared.device.Side.{Side}
use Rattle.smp_model.specs.declared.device.Upload.{Upload}
use Rattle.smp_model.specs.declared.image.ImageInfo.{ImageInfo}
use Rattle.smp_model.specs.declared.upload.Announcement.{Announcement}
use Rattle.smp_model.specs.declared.upload.Mark.{Mark}
use Rattle.smp_model.specs.Image.{good_image}
use Rattle.smp_model.specs.Laws.{GoodWhere}
use Rattle.smp_model.specs.Uploads.{is_spoiled, is_complete, differs, IsGood}
use Rattle.smp_progress.specs.Cells.{HasRecord}
use Rattle.smp_progress.specs.State.{ProgressState}
use Rattle.smp_progress.specs.declared.record.Record.{Record}
use Rattle.smp_progress.specs.declared.record.Record.TheVariants as records
use Rattle.smp_tlv.specs.Carried.{Carries}
use Rattle.smp_tlv.specs.declared.carried.Carried.{Carried}
use Rattle.smp_upload.specs.Bytes.{SideStandsAs, SideStands, SideShows, SideReadable, Accepts, Clean, CleanFrom, accepted_in, active_in, confirmed_in, record_of}
use Rattle.smp_upload.specs.Mounting.{Looked}
use Rattle.smp_upload.specs.Needs.{mount_records, is_unclean}
use Rattle.smp_upload.specs.Rescuing.{HeldAs, NeedsJust, SumsHeld}
use Rattle.smp_upload.specs.States.{Known, Says, Sums, known_mounted}
use Rattle.smp_upload.specs.Storing.{Filled, Spoils, known_at, misses}
use Rattle.smp_upload.specs.declared.states.Mounted.{Mounted}
use Rattle.smp_upload.proofs.Mounts.{Ready, Shown, Unreadable}
use Rattle.smp_upload.proofs.Needed.{needs_once}
use Rattle.smp_upload.proofs.Parted.{partial_says}
use Rattle.smp_upload.proofs.Resolved.{known_none, complete_by, image_when, misses_is}
use Rattle.smp_upload.proofs.Sides.{OneRecord, OneSide, one_side}
use Rattle.smp_upload.proofs.Stored.{found}
use Rattle.smp_upload.proofs.Tellings.{if_both}
use Rattle.smp_upload.proofs.Young.{SaysGeneration, generation_is}

-- The accepted bytes are as many as the record says.
slot_fits : (layout : Layout) → (slot_of layout 1).at + slot_size (geometry_of layout) ≤ size_of (geometry_of layout)
slot_fits layout = (arranged layout).inside.3.2

scratch_fits : (layout : Layout) → (scratch_of layout).at + (geometry_of layout).page ≤ size_of (geometry_of layout)
scratch_fits layout = (arranged layout).inside.3.3.3.3.2

accepted_long : (layout : Layout) (rescue : Bool) (o : ℕ) (bytes : List ℕ) → length bytes ≡ size_of (geometry_of layout) → o ≤ slot_size (geometry_of layout) → length (accepted_in layout rescue o bytes) ≡ o
accepted_long layout false o bytes sized le =
    let fits = slot_fits layout in
    length-area (slot_of layout 1).at o bytes (omega (arith, sized, le, fits))
accepted_long layout true o bytes sized le =
    let fits = slot_fits layout in
    let rest = scratch_fits layout in
    let page = (geometry_of layout).page in
    let r : Regular (geometry_of layout) = regular (geometry_of layout) layout.lawful in
    let small : o % page < page = page_small page o r.is_page in
    let most : o % page ≤ o = omega arith in
    let front : length (area (slot_of layout 1).at (o - o % page) bytes) ≡ o - o % page = length-area (slot_of layout 1).at (o - o % page) bytes (omega (arith, sized, le, fits)) in
    let rear : length (area (scratch_of layout).at (o % page) bytes) ≡ o % page = length-area (scratch_of layout).at (o % page) bytes (omega (arith, sized, small, rest)) in
    length-append (area (slot_of layout 1).at (o - o % page) bytes) (area (scratch_of layout).at (o % page) bytes) ∙ (λ i. front i + rear i) ∙ (let e : (o - o % page) + o % page ≡ o = omega (arith, most) in e)

-- the record that was found
found_record : (layout : Layout) (p : ProgressState) (mark : Option Mark) (entry : Record) (bytes : List ℕ) → p.entry ≡ entry → Looked layout p mark bytes → HasRecord layout entry bytes
found_record layout p mark entry bytes is l = subst (λ (x : Record). HasRecord layout x bytes) is (subst (λ (k : Layout). HasRecord k p.entry bytes) l.place l.record_says.holds)

-- the upload of a record
abbrev pub upload_in : Layout → Bool → Announcement → ℕ → List ℕ → Upload
upload_in layout rescue a o bytes = record { announcement = a; accepted = accepted_in layout rescue o bytes }

abbrev pub side_in : Layout → Option Upload → Option Mark → List ℕ → Side
side_in layout up mark bytes = record { active = active_in layout bytes; confirmed = confirmed_in layout bytes; upload = up; pending = mark }

upload_stands : (layout : Layout) (rescue : Bool) (p : ProgressState) (mark : Option Mark) (a : Announcement) (o : ℕ) (bytes : List ℕ) → p.entry ≡ records.Upload a o rescue → o ≤ slot_size (geometry_of layout) → Looked layout p mark bytes → GoodWhere mark (Some (upload_in layout rescue a o bytes))
    → SideStandsAs layout rescue (side_in layout (Some (upload_in layout rescue a o bytes)) mark bytes) bytes
upload_stands layout rescue p mark a o bytes is le l good =
    let long : length (accepted_in layout rescue o bytes) ≡ o = accepted_long layout rescue o bytes l.sized le in
    record {
      active = refl;
      runs = l.runs;
      confirmed = refl;
      entry = subst (λ (n : ℕ). HasRecord layout (records.Upload a n rescue) bytes) (sym long) (found_record layout p mark (records.Upload a o rescue) bytes is l);
      accepts = ap (λ (n : ℕ). accepted_in layout rescue n bytes) (sym long);
      pending = l.pending;
      good = good;
    }

held_by : (layout : Layout) (rescue : Bool) (p : ProgressState) (a : Announcement) (o : ℕ) (bytes : List ℕ) → p.entry ≡ records.Upload a o rescue → o ≤ slot_size (geometry_of layout) → Looked layout p None bytes → HeldAs layout rescue p a o bytes
held_by layout rescue p a o bytes is le l =
    let long : length (accepted_in layout rescue o bytes) ≡ o = accepted_long layout rescue o bytes l.sized le in
    record {
      side = side_in layout (Some (upload_in layout rescue a o bytes)) None bytes;
      stands = upload_stands layout rescue p None a o bytes is le l tt;
      upload = λ i. Some (record { announcement = a; offset = sym long i });
      free = refl;
      record_says = l.record_says;
    }

pub told_held_by : (layout : Layout) (rescue : Bool) (p : ProgressState) (a : Announcement) (o : ℕ) (x : Option (List ℕ)) → p.entry ≡ records.Upload a o rescue → o ≤ slot_size (geometry_of layout) → IfSome x (Looked layout p None) → IfSome x (HeldAs layout rescue p a o)
told_held_by layout rescue p a o x is le l = IfSome-map (Looked layout p None) (HeldAs layout rescue p a o) x (λ u ll. held_by layout rescue p a o u is le ll) l

-- the sums that were read are those of the side
sums_held : OneSide → (layout : Layout) (rescue : Bool) (p : ProgressState) (a : Announcement) (o : ℕ) (sums : Carried) (bytes : List ℕ) → HeldAs layout rescue p a o bytes → Carries sums (accepted_in layout rescue o bytes) → SumsHeld layout sums bytes
sums_held one layout rescue p a o sums bytes h c side st =
    let up = found h.side.upload (record { announcement = a; offset = o }) h.upload in
    let accepts : Accepts layout rescue (Some up.u) bytes = subst (λ (x : Option Upload). Accepts layout rescue x bytes) up.is h.stands.accepts in
    let same : up.u.accepted ≡ accepted_in layout rescue o bytes = accepts ∙ ap (λ (n : ℕ). accepted_in layout rescue n bytes) up.offset in
    let had : Sums sums h.side.upload = subst (Sums sums) (sym up.is) (subst (Carries sums) (sym same) c) in
    subst (λ (x : Side). Sums sums x.upload) (one layout h.side side bytes (record { rescue = rescue; stands = h.stands }) st) had

pub told_sums : OneSide → (layout : Layout) (rescue : Bool) (p : ProgressState) (a : Announcement) (o : ℕ) (sums : Carried) (x : Option (List ℕ)) → IfSome x (HeldAs layout rescue p a o) → IfSome x (λ held. Carries sums (accepted_in layout rescue o held)) → IfSome x (SumsHeld layout sums)
told_sums one layout rescue p a o sums x h c = IfSome-map (λ u. HeldAs layout rescue p a o u × Carries sums (accepted_in layout rescue o u)) (SumsHeld layout sums) x
    (λ u both. sums_held one layout rescue p a o sums u both.0 both.1) (if_both (HeldAs layout rescue p a o) (λ held. Carries sums (accepted_in layout rescue o held)) x h c)

ready_by : SaysGeneration → (layout : Layout) (rescue : Bool) (p : ProgressState) (a : Announcement) (o n : ℕ) (bytes : List ℕ) → p.layout ≡ layout → HeldAs layout rescue p a o bytes → NeedsJust layout n bytes → Ready layout p n bytes
ready_by law layout rescue p a o n bytes place h needs = record {
  readable = record { side = h.side; stands = record { rescue = rescue; stands = h.stands } };
  needs = needs;
  generation = generation_is law layout p bytes place h.record_says;
}

pub told_ready : SaysGeneration → (layout : Layout) (rescue : Bool) (p : ProgressState) (a : Announcement) (o n : ℕ) (x : Option (List ℕ)) → p.layout ≡ layout → IfSome x (HeldAs layout rescue p a o) → IfSome x (NeedsJust layout n) → IfSome x (Ready layout p n)
told_ready law layout rescue p a o n x place h needs = IfSome-map (λ u. HeldAs layout rescue p a o u × NeedsJust layout n u) (Ready layout p n) x (λ u both. ready_by law layout rescue p a o n u place both.0 both.1) (if_both (HeldAs layout rescue p a o) (NeedsJust layout n) x h needs)

-- No upload.
none_stands : (layout : Layout) (p : ProgressState) (bytes : List ℕ) → p.entry ≡ records.None → Looked layout p None bytes → SideStandsAs layout false (side_in layout None None bytes) bytes
none_stands layout p bytes is l = record { active = refl; runs = l.runs; confirmed = refl; entry = found_record layout p None records.None bytes is l; accepts = tt; pending = l.pending; good = tt }

none_shown : OneRecord → (layout : Layout) (p : ProgressState) (mounted : Mounted) (bytes : List ℕ) → known_mounted mounted ≡ known_none layout p → p.entry ≡ records.None → Looked layout p None bytes → Shown layout p mounted bytes
none_shown one layout p mounted bytes known is l =
    let st = none_stands layout p bytes is l in
    let shows : SideShows layout (side_in layout None None bytes) bytes = record { stands = st; settled = refl; clean = tt } in
    record {
      side = side_in layout None None bytes;
      shows = shows;
      says = subst (λ (k : Known). Says k bytes) (sym known) (record { side = side_in layout None None bytes; shows = shows; knows = record { upload = refl; pending = refl; image = refl; sums = tt }; record_says = l.record_says; place = l.place });
      needs = λ m needs. needs_once one layout m 0 bytes needs (record { rescue = false; side = side_in layout None None bytes; stands = st; needed = refl });
      record_says = l.record_says;
      place = l.place;
    }

pub told_none_shown : OneRecord → (layout : Layout) (p : ProgressState) (mounted : Mounted) (x : Option (List ℕ)) → known_mounted mounted ≡ known_none layout p → p.entry ≡ records.None → IfSome x (Looked layout p None) → IfSome x (Shown layout p mounted)
told_none_shown one layout p mounted x known is l = IfSome-map (Looked layout p None) (Shown layout p mounted) x (λ u ll. none_shown one layout p mounted u known is ll) l

none_upload : (rescue : Bool) (up : Option Upload) → record_of rescue up ≡ records.None → up ≡ None
none_upload rescue None e = refl
none_upload rescue (Some u) e = absurd (cc e)

-- a mark without an upload
none_marked : OneRecord → (layout : Layout) (p : ProgressState) (mark : Mark) (bytes : List ℕ) → p.entry ≡ records.None → Looked layout p (Some mark) bytes → Unreadable layout bytes
none_marked one layout p mark bytes is l r =
    let st = r.stands.stands in
    let up : r.side.upload ≡ None = none_upload r.stands.rescue r.side.upload (one layout (record_of r.stands.rescue r.side.upload) records.None bytes st.entry (found_record layout p (Some mark) records.None bytes is l)) in
    let pending : r.side.pending ≡ Some mark = st.pending ∙ sym l.pending in
    subst (λ (x : Option Upload). GoodWhere (Some mark) x) up (subst (λ (x : Option Mark). GoodWhere x r.side.upload) pending st.good)

pub told_none_marked : OneRecord → (layout : Layout) (p : ProgressState) (mark : Mark) (x : Option (List ℕ)) → p.entry ≡ records.None → IfSome x (Looked layout p (Some mark)) → IfSome x (Unreadable layout)
told_none_marked one layout p mark x is l = IfSome-map (Looked layout p (Some mark)) (Unreadable layout) x (λ u ll. none_marked one layout p mark u is ll) l

-- A mark on an upload: what is there is good, where the bytes stand for a side.
record GoodAt (layout : Layout) (rescue : Bool) (a : Announcement) (o : ℕ) (bytes : List ℕ) : Type 0 where
  whole : o ≡ a.length
  good : IsGood a (accepted_in layout rescue o bytes)

abbrev announcement_in : Announcement → Record → Announcement
announcement_in a records.None = a
announcement_in a (records.Upload b offset rescue) = b

abbrev offset_in : Record → ℕ
offset_in records.None = 0
offset_in (records.Upload b offset rescue) = offset

abbrev rescue_in : Record → Bool
rescue_in records.None = false
rescue_in (records.Upload b offset rescue) = rescue

good_at : (layout : Layout) (r rescue : Bool) (a : Announcement) (o : ℕ) (mark : Mark) (up : Option Upload) (bytes : List ℕ) → record_of r up ≡ records.Upload a o rescue → Accepts layout r up bytes → GoodWhere (Some mark) up → GoodAt layout rescue a o bytes
good_at layout r rescue a o mark None bytes e accepts good = absurd good
good_at layout r rescue a o mark (Some u) bytes e accepts good =
    let m : u.announcement ≡ a = ap (announcement_in a) e in
    let n : length u.accepted ≡ o = ap offset_in e in
    let f : r ≡ rescue = ap rescue_in e in
    let same : u.accepted ≡ accepted_in layout rescue o bytes = accepts ∙ (λ i. accepted_in layout (f i) (n i) bytes) in
    record {
      whole = sym n ∙ good.size ∙ ap (λ (b : Announcement). b.length) m;
      good = subst (IsGood a) same (subst (λ (b : Announcement). IsGood b u.accepted) m good);
    }

marked_good : OneRecord → (layout : Layout) (rescue : Bool) (p : ProgressState) (mark : Mark) (a : Announcement) (o : ℕ) (bytes : List ℕ) → p.entry ≡ records.Upload a o rescue → Looked layout p (Some mark) bytes → SideReadable layout bytes → GoodAt layout rescue a o bytes
marked_good one layout rescue p mark a o bytes is l r =
    let st = r.stands.stands in
    let pending : r.side.pending ≡ Some mark = st.pending ∙ sym l.pending in
    good_at layout r.stands.rescue rescue a o mark r.side.upload bytes
    (one layout (record_of r.stands.rescue r.side.upload) (records.Upload a o rescue) bytes st.entry (found_record layout p (Some mark) (records.Upload a o rescue) bytes is l)) st.accepts
    (subst (λ (x : Option Mark). GoodWhere x r.side.upload) pending st.good)

pub told_unfinished : OneRecord → (layout : Layout) (rescue : Bool) (p : ProgressState) (mark : Mark) (a : Announcement) (o : ℕ) (x : Option (List ℕ)) → p.entry ≡ records.Upload a o rescue → (o ≡ a.length → ⊥) → IfSome x (Looked layout p (Some mark)) → IfSome x (Unreadable layout)
told_unfinished one layout rescue p mark a o x is partly l = IfSome-map (Looked layout p (Some mark)) (Unreadable layout) x (λ u ll r. partly (marked_good one layout rescue p mark a o u is ll r).whole) l

right_by : (digest : Option (List ℕ)) (hash : List ℕ) → IfSome digest (λ d. hash ≡ d) → misses digest hash ≡ false
right_by None hash is = refl
right_by (Some d) hash is = ap not ((bytes_eq-Decides hash d).1 is)

right_is : (digest : Option (List ℕ)) (hash : List ℕ) → misses digest hash ≡ false → IfSome digest (λ d. hash ≡ d)
right_is None hash e = tt
right_is (Some d) hash e = (bytes_eq-Decides hash d).0 (not_not (bytes_eq hash d) e)
  where
    not_not : (b : Bool) → not b ≡ false → b ≡ true
    not_not true e = refl
    not_not false e = absurd (cc e)

-- the front of the secondary slot
abbrev pub front_in : Layout → ℕ → List ℕ → List ℕ
front_in layout o bytes = area (slot_of layout 1).at o bytes

pub told_wrong : OneRecord → (layout : Layout) (p : ProgressState) (mark : Mark) (a : Announcement) (o : ℕ) (hash : List ℕ) (x : Option (List ℕ)) → p.entry ≡ records.Upload a o false → misses a.digest hash ≡ true → IfSome x (λ held. hash ≡ sha256 (front_in layout o held)) → IfSome x (Looked layout p (Some mark)) → IfSome x (Unreadable layout)
told_wrong one layout p mark a o hash x is missed h l = IfSome-map (λ u. Looked layout p (Some mark) u × (hash ≡ sha256 (front_in layout o u))) (Unreadable layout) x
    (λ u both r. let g = marked_good one layout false p mark a o u is both.0 r in absurd (cc (sym missed ∙ ap (misses a.digest) both.1 ∙ right_by a.digest (sha256 (front_in layout o u)) g.good.digest)))
    (if_both (Looked layout p (Some mark)) (λ held. hash ≡ sha256 (front_in layout o held)) x l h)

pub told_no_image : OneRecord → (layout : Layout) (p : ProgressState) (mark : Mark) (a : Announcement) (o : ℕ) (x : Option (List ℕ)) → p.entry ≡ records.Upload a o false → IfSome x (λ held. None ≡ good_image (front_in layout o held)) → IfSome x (Looked layout p (Some mark)) → IfSome x (Unreadable layout)
told_no_image one layout p mark a o x is none l = IfSome-map (λ u. Looked layout p (Some mark) u × (None ≡ good_image (front_in layout o u))) (Unreadable layout) x
    (λ u both r. let g = marked_good one layout false p mark a o u is both.0 r in no_some (good_image (front_in layout o u)) (sym both.1) g.good.image)
    (if_both (Looked layout p (Some mark)) (λ held. None ≡ good_image (front_in layout o held)) x l none)
  where
    no_some : (image : Option ImageInfo) → image ≡ None → IsSome image → ⊥
    no_some None e is = cc is
    no_some (Some i) e is = cc e

-- A complete upload that has what was announced.
abbrev pub known_complete : Layout → ProgressState → Announcement → Option Mark → Option ImageInfo → Known
known_complete layout p a mark image = record { layout = layout; entry = p; upload = Some (record { announcement = a; offset = a.length }); pending = mark; image = image; sums = None }

-- What was found of it.
record Full (layout : Layout) (a : Announcement) (hash : List ℕ) (image : Option ImageInfo) (bytes : List ℕ) : Type 0 where
  digest : hash ≡ sha256 (front_in layout a.length bytes)
  image_is : image ≡ good_image (front_in layout a.length bytes)

good_where : (layout : Layout) (mark : Option Mark) (a : Announcement) (hash : List ℕ) (image : Option ImageInfo) (bytes : List ℕ) → length (front_in layout a.length bytes) ≡ a.length → misses a.digest hash ≡ false → (IsSome mark → IsSome image) → Full layout a hash image bytes → GoodWhere mark (Some (upload_in layout false a a.length bytes))
good_where layout None a hash image bytes long right marked f = tt
good_where layout (Some mark) a hash image bytes long right marked f = record {
  size = long;
  digest = right_is a.digest (sha256 (front_in layout a.length bytes)) (ap (misses a.digest) (sym f.digest) ∙ right);
  image = subst IsSome f.image_is (marked refl);
}

same_below : (n : ℕ) → nat_lt n n ≡ false
same_below n = grind (arith, nat_tests)

full_needs : (layout : Layout) (u : Upload) (bytes : List ℕ) → is_spoiled (Some u) ≡ false → length u.accepted ≡ u.announcement.length → 0 ≡ mount_records layout false (Some u) bytes
full_needs layout u bytes right long =
    sym (ap (λ (b : Bool). if b then 1 else if is_unclean layout u bytes then 2 else 0) right ∙ ap (λ (b : Bool). if b then 2 else 0) unclean)
  where
    by_test : (b c : Bool) → b ≡ false → (b && c) ≡ false
    by_test true c e = absurd (cc e)
    by_test false c e = refl

    unclean : is_unclean layout u bytes ≡ false
    unclean = by_test (nat_lt (length u.accepted) u.announcement.length) _ (ap (λ (n : ℕ). nat_lt n u.announcement.length) long ∙ same_below u.announcement.length)

complete_shown : OneRecord → (layout : Layout) (p : ProgressState) (mark : Option Mark) (a : Announcement) (hash : List ℕ) (image : Option ImageInfo) (mounted : Mounted) (bytes : List ℕ) → known_mounted mounted ≡ known_complete layout p a mark image → p.entry ≡ records.Upload a a.length false → a.length ≤ slot_size (geometry_of layout)
    → misses a.digest hash ≡ false → (IsSome mark → IsSome image) → Looked layout p mark bytes → Full layout a hash image bytes → Shown layout p mounted bytes
complete_shown one layout p mark a hash image mounted bytes known is le right marked l f =
    let u = upload_in layout false a a.length bytes in
    let side = side_in layout (Some u) mark bytes in
    let long : length u.accepted ≡ a.length = accepted_long layout false a.length bytes l.sized le in
    let st : SideStandsAs layout false side bytes = upload_stands layout false p mark a a.length bytes is le l (good_where layout mark a hash image bytes long right marked f) in
    let differ : differs a.digest u.accepted ≡ false = misses_is a.digest u.accepted ∙ ap (misses a.digest) (sym f.digest) ∙ right in
    let whole : is_complete u ≡ true = complete_by u a refl long in
    let settled : is_spoiled (Some u) ≡ false = (λ i. whole i && differ i) in
    let shows : SideShows layout side bytes = record { stands = st; settled = settled; clean = λ below. absurd (omega (arith, below, long)) } in
    record {
      side = side;
      shows = shows;
      says = subst (λ (k : Known). Says k bytes) (sym known) (record {
        side = side;
        shows = shows;
        knows = record { upload = λ i. Some (record { announcement = a; offset = sym long i }); pending = refl; image = f.image_is ∙ sym (image_when u whole settled); sums = tt };
        record_says = l.record_says;
        place = l.place;
      });
      needs = λ m needs. needs_once one layout m 0 bytes needs (record { rescue = false; side = side; stands = st; needed = full_needs layout u bytes settled long });
      record_says = l.record_says;
      place = l.place;
    }

pub told_complete : OneRecord → (layout : Layout) (p : ProgressState) (mark : Option Mark) (a : Announcement) (hash : List ℕ) (image : Option ImageInfo) (mounted : Mounted) (x : Option (List ℕ)) → known_mounted mounted ≡ known_complete layout p a mark image → p.entry ≡ records.Upload a a.length false → a.length ≤ slot_size (geometry_of layout)
    → misses a.digest hash ≡ false → (IsSome mark → IsSome image) → IfSome x (Looked layout p mark) → IfSome x (λ held. hash ≡ sha256 (front_in layout a.length held)) → IfSome x (λ held. image ≡ good_image (front_in layout a.length held)) → IfSome x (Shown layout p mounted)
told_complete one layout p mark a hash image mounted x known is le right marked l h i =
    IfSome-map (λ u. Looked layout p mark u × ((hash ≡ sha256 (front_in layout a.length u)) × (image ≡ good_image (front_in layout a.length u)))) (Shown layout p mounted) x
    (λ u q. complete_shown one layout p mark a hash image mounted u known is le right marked q.0 (record { digest = q.1.0; image_is = q.1.1 }))
    (if_both (Looked layout p mark) (λ u. (hash ≡ sha256 (front_in layout a.length u)) × (image ≡ good_image (front_in layout a.length u))) x l
    (if_both (λ u. hash ≡ sha256 (front_in layout a.length u)) (λ u. image ≡ good_image (front_in layout a.length u)) x h i))

-- An upload that has not what was announced needs one record.
spoiled_needs : OneRecord → (layout : Layout) (p : ProgressState) (a : Announcement) (bytes : List ℕ) → HeldAs layout false p a a.length bytes → Spoils layout true bytes → NeedsJust layout 1 bytes
spoiled_needs one layout p a bytes h wrong m needs =
    let up = found h.side.upload (record { announcement = a; offset = a.length }) h.upload in
    let st : SideStands layout h.side bytes = record { rescue = false; stands = h.stands } in
    let spoiled : is_spoiled (Some up.u) ≡ true = subst (λ (x : Option Upload). is_spoiled x ≡ true) up.is (wrong h.side st) in
    let here : mount_records layout false h.side.upload bytes ≡ 1 = ap (λ (x : Option Upload). mount_records layout false x bytes) up.is ∙ ap (λ (b : Bool). if b then 1 else if is_unclean layout up.u bytes then 2 else 0) spoiled in
    needs_once one layout m 1 bytes needs (record { rescue = false; side = h.side; stands = h.stands; needed = sym here })

pub told_spoiled_needs : OneRecord → (layout : Layout) (p : ProgressState) (a : Announcement) (x : Option (List ℕ)) → IfSome x (HeldAs layout false p a a.length) → IfSome x (Spoils layout true) → IfSome x (NeedsJust layout 1)
told_spoiled_needs one layout p a x h wrong = IfSome-map (λ u. HeldAs layout false p a a.length u × Spoils layout true u) (NeedsJust layout 1) x (λ u both. spoiled_needs one layout p a u both.0 both.1) (if_both (HeldAs layout false p a a.length) (Spoils layout true) x h wrong)

-- An upload whose page is clean.
partial_shown : OneRecord → (layout : Layout) (p : ProgressState) (a : Announcement) (o : ℕ) (sums : Carried) (mounted : Mounted) (bytes : List ℕ) → known_mounted mounted ≡ known_at layout p a o sums → p.layout ≡ layout → o < a.length → HeldAs layout false p a o bytes → CleanFrom layout o a.length bytes → SumsHeld layout sums bytes → NeedsJust layout 0 bytes
    → Shown layout p mounted bytes
partial_shown one layout p a o sums mounted bytes known place lt h clean s needs =
    let up = found h.side.upload (record { announcement = a; offset = o }) h.upload in
    let st : SideStands layout h.side bytes = record { rescue = false; stands = h.stands } in
    let c = subst (λ (x : Option Upload). Clean layout x bytes) (sym up.is) (subst (λ (n : ℕ). CleanFrom layout n up.u.announcement.length bytes) (sym up.offset) (subst (λ (b : Announcement). CleanFrom layout o b.length bytes) (sym up.announcement) clean)) in
    let f : Filled layout p a o sums bytes = record { side = h.side; stands = record { stands = h.stands; clean = c }; upload = h.upload; free = h.free; record_says = h.record_says; carried = s h.side st } in
    let says = partial_says (one_side one) layout p a o sums bytes place lt f in
    record { side = says.side; shows = says.shows; says = subst (λ (k : Known). Says k bytes) (sym known) says; needs = needs; record_says = h.record_says; place = place }

pub told_partial_shown : OneRecord → (layout : Layout) (p : ProgressState) (a : Announcement) (o : ℕ) (sums : Carried) (mounted : Mounted) (x : Option (List ℕ)) → known_mounted mounted ≡ known_at layout p a o sums → p.layout ≡ layout → o < a.length → IfSome x (HeldAs layout false p a o) → IfSome x (CleanFrom layout o a.length) → IfSome x (SumsHeld layout sums) → IfSome x (NeedsJust layout 0)
    → IfSome x (Shown layout p mounted)
told_partial_shown one layout p a o sums mounted x known place lt h c s n =
    IfSome-map (λ u. HeldAs layout false p a o u × (CleanFrom layout o a.length u × (SumsHeld layout sums u × NeedsJust layout 0 u))) (Shown layout p mounted) x
    (λ u q. partial_shown one layout p a o sums mounted u known place lt q.0 q.1.0 q.1.1.0 q.1.1.1)
    (if_both (HeldAs layout false p a o) (λ u. CleanFrom layout o a.length u × (SumsHeld layout sums u × NeedsJust layout 0 u)) x h
    (if_both (CleanFrom layout o a.length) (λ u. SumsHeld layout sums u × NeedsJust layout 0 u) x c (if_both (SumsHeld layout sums) (NeedsJust layout 0) x s n)))
