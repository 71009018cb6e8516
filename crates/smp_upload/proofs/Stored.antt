-- Bytes are put into the secondary slot, and then the record.
use Rattle.std.proofs.Common.{◌≡◌, inl, inr, ℕ, ◌+◌, ◌-◌, ◌*◌, ◌%◌, ◌<◌, ◌≤◌, false, Option, Some, None, List, [], ◌∷◌, ◌++◌, length, refl, sym, ◌∙◌, ap, subst, arith, length-append}
use Rattle.std.specs.Prelude.{IfSome, IsSome, option_map}
use Rattle.smp_flash.specs.Area.{area, blank, spot, Clear, Keeps, Told}
use Rattle.smp_flash.specs.Calls.{Calls, Smaller, Goes}
use Rattle.smp_flash.specs.Geometry.{slot_size, tail, Regular, IsPage}
use Rattle.smp_flash.specs.Layout.{geometry_of, slot_of, progress_of, upload_spots}
use Rattle.smp_flash.specs.State.{FlashState, End}
use Rattle.smp_flash.specs.State.End.{Went}
use Rattle.smp_flash.specs.declared.layout.Layout.{Layout}
use Rattle.smp_flash.proofs.Areas.{area-add}
use Rattle.smp_flash.proofs.Passing.{Calls-wider, Calls-after, Covers-within, then_Smaller}
use Rattle.smp_flash.proofs.Places.{tail_last}
use Rattle.smp_flash.proofs.Sizes.{regular, each_page}
use Rattle.smp_flash.proofs.Telling.{Told-with, Told-map, Told-trans, Told-after, IfSome-map}
use Rattle.smp_gate.specs.Newest.{newest_generation, generation_by, sides, AgesAtMost}
use Rattle.smp_model.specs.declared.device.Side.{Side}
use Rattle.smp_model.specs.declared.device.Upload.{Upload}
use Rattle.smp_model.specs.declared.upload.Announcement.{Announcement}
use Rattle.smp_model.specs.Sides.{SideStep, Append, appended, side_apply}
use Rattle.smp_progress.specs.Cells.{HasRecord, OldOrThis}
use Rattle.smp_progress.specs.State.{ProgressState, ProgressSays, AimsAtRecord}
use Rattle.smp_progress.specs.declared.record.Record.{Record}
use Rattle.smp_progress.specs.declared.record.Record.TheVariants as records
use Rattle.smp_slot.specs.Laid.{Laid}
use Rattle.smp_tlv.specs.Carried.{Carries}
use Rattle.smp_tlv.specs.declared.carried.Carried.{Carried}
use Rattle.smp_upload.specs.Bytes.{SideStandsAs, SideStands, SideShows, Accepts, Clean, CleanFrom, pending_in, record_of}
use Rattle.smp_upload.specs.Moves.{Moves, KeepsPending, one_step}
use Rattle.smp_upload.specs.States.{Known, Says, Announced, announced, Sums}
use Rattle.smp_upload.specs.Storing.{known_at, StandsClean, longer, Lays, Filled}
use Rattle.smp_upload.proofs.Composing.{part_none, part_whole, ages_sum, shows_stands}
use Rattle.smp_upload.proofs.Frames.{Fixed, fixed_by, as_same, newest_kept, record_kept, record_same, progress_kept, lawful, ProgressLasts}
use Rattle.smp_upload.proofs.Putting.{fixed_sides, as_after, accepts_sides, sides_Calls, sides_clear, good_free}
use Rattle.smp_upload.proofs.Sides.{OneSide, says_shows, says_knows}
use Rattle.smp_upload.proofs.Tellings.{told_chain, told_last, new_three}

-- What a state knows of an upload is an upload.
pub record Found (up : Option Upload) (x : Announced) : Type 0 where
  pub u : Upload
  pub is : up ≡ Some u
  pub announcement : u.announcement ≡ x.announcement
  pub offset : length u.accepted ≡ x.offset

some_announced : (x y : Announced) → Some x ≡ Some y → x ≡ y
some_announced x y e = cc e

pub found : (up : Option Upload) (x : Announced) → Some x ≡ option_map announced up → Found up x
found None x e = absurd (cc e)
found (Some u) x e =
    let same : announced u ≡ x = sym (some_announced x (announced u) e) in
    record { u = u; is = refl; announcement = ap (λ (y : Announced). y.announcement) same; offset = ap (λ (y : Announced). y.offset) same }

-- Bytes of the secondary slot from an offset on, before its last page.
pub record InSlot (layout : Layout) (o at size : ℕ) : Type 0 where
  pub place : at ≡ (slot_of layout 1).at + o
  pub bound : o + size + (geometry_of layout).page ≤ slot_size (geometry_of layout)

slot_fixed : (layout : Layout) (o at size : ℕ) (old new : List ℕ) → InSlot layout o at size → Keeps (spot at size) old new → Fixed layout old new
slot_fixed layout o at size old new i k =
    let s = slot_size (geometry_of layout) in
    let place = i.place in
    let bound = i.bound in
    fixed_by layout (spot at size) old new (inl (omega arith), tt) (inr (omega arith), tt) k

-- they are clear of the bank's sides
slot_first : (layout : Layout) (o at size : ℕ) → InSlot layout o at size → Clear (spot at size) (progress_of layout).first.at 4096
slot_first layout o at size i =
    let s = slot_size (geometry_of layout) in
    let place = i.place in
    let bound = i.bound in (inr (omega arith), tt)

slot_second : (layout : Layout) (o at size : ℕ) → InSlot layout o at size → Clear (spot at size) (progress_of layout).second.at 4096
slot_second layout o at size i =
    let s = slot_size (geometry_of layout) in
    let place = i.place in
    let bound = i.bound in (inr (omega arith), tt)

slot_record : (layout : Layout) (x : Record) (o at size : ℕ) (old new : List ℕ) → InSlot layout o at size → Keeps (spot at size) old new → HasRecord layout x old → HasRecord layout x new
slot_record layout x o at size old new i k h = record_kept layout x (spot at size) old new (slot_first layout o at size i) (slot_second layout o at size i) k h

slot_ages : (layout : Layout) (n o at size : ℕ) (old new : List ℕ) → InSlot layout o at size → Keeps (spot at size) old new → AgesAtMost n (progress_of layout) old new
slot_ages layout n o at size old new i k =
    let e : newest_generation (progress_of layout) new ≡ newest_generation (progress_of layout) old = ap generation_by (newest_kept (progress_of layout) (spot at size) old new (slot_first layout o at size i) (slot_second layout o at size i) k) in
    record { kept = omega arith; most = omega arith }

-- the side stands as before, whatever was written behind the accepted bytes
slot_accepts : (layout : Layout) (up : Option Upload) (a : Announcement) (o at size : ℕ) (old new : List ℕ) → InSlot layout o at size → Found up (record { announcement = a; offset = o }) → Keeps (spot at size) old new
    → Accepts layout false up old → Accepts layout false up new
slot_accepts layout None a o at size old new i f k h = tt
slot_accepts layout (Some u) a o at size old new i f k h =
    let same : u ≡ f.u = some_upload u f.u f.is in
    let n : length u.accepted ≡ o = ap (λ (v : Upload). length v.accepted) same ∙ f.offset in
    let place = i.place in
    h ∙ sym (k.apart (slot_of layout 1).at (length u.accepted) (inl (omega arith), tt))
  where
    some_upload : (u v : Upload) → Some u ≡ Some v → u ≡ v
    some_upload u v e = cc e

slot_as : (layout : Layout) (side : Side) (a : Announcement) (o at size : ℕ) (old new : List ℕ) → InSlot layout o at size → Found side.upload (record { announcement = a; offset = o }) → Keeps (spot at size) old new
    → SideStandsAs layout false side old → SideStandsAs layout false side new
slot_as layout side a o at size old new i f k h =
    as_same layout false false side old new (slot_fixed layout o at size old new i k) h (slot_record layout (record_of false side.upload) o at size old new i k h.entry) (slot_accepts layout side.upload a o at size old new i f k h.accepts)

-- What a state says of a side that the bytes stand for.
pub record Met (layout : Layout) (a : Announcement) (o : ℕ) (side : Side) (bytes : List ℕ) : Type 0 where
  pub shows : SideShows layout side bytes
  pub found : Found side.upload (record { announcement = a; offset = o })
  pub free : side.pending ≡ None

abbrev pub Storing : Layout → ProgressState → Announcement → ℕ → Carried → List ℕ → Type 0
Storing layout p a o sums bytes = Says (known_at layout p a o sums) bytes

pub met : OneSide → (layout : Layout) (p : ProgressState) (a : Announcement) (o : ℕ) (sums : Carried) (side : Side) (bytes : List ℕ) → Storing layout p a o sums bytes → SideStands layout side bytes → Met layout a o side bytes
met one layout p a o sums side bytes says st =
    let k = says_knows one (known_at layout p a o sums) side bytes says st in
    record { shows = says_shows one (known_at layout p a o sums) side bytes says st; found = found side.upload (record { announcement = a; offset = o }) k.upload; free = sym k.pending }

appended_is : (up : Option Upload) (u : Upload) (bytes : List ℕ) → up ≡ Some u → appended up bytes ≡ Some (record u { accepted = u.accepted ++ bytes })
appended_is up u bytes e = ap (λ (x : Option Upload). appended x bytes) e

record_longer : (u : Upload) (a : Announcement) (o : ℕ) (bytes : List ℕ) → u.announcement ≡ a → length u.accepted ≡ o → record_of false (Some (record u { accepted = u.accepted ++ bytes })) ≡ records.Upload a (o + length bytes) false
record_longer u a o bytes e f = λ i. records.Upload (e i) ((length-append u.accepted bytes ∙ ap (λ (n : ℕ). n + length bytes) f) i) false

-- what the whole put was: the slot's bytes, and then the record's bank
pub record Both (layout : Layout) (o at : ℕ) (bytes old mid new : List ℕ) : Type 0 where
  pub inside : InSlot layout o at (length bytes + tail (geometry_of layout).page (o + length bytes))
  pub laid : Laid at (tail (geometry_of layout).page (o + length bytes)) bytes old mid
  pub keeps : Keeps (sides (progress_of layout)) mid new

-- the accepted bytes and those that were laid behind them
laid_accepts : (layout : Layout) (u : Upload) (o at : ℕ) (bytes old mid new : List ℕ) → Both layout o at bytes old mid new → length u.accepted ≡ o
    → Accepts layout false (Some u) old → Accepts layout false (Some (record u { accepted = u.accepted ++ bytes })) new
laid_accepts layout u o at bytes old mid new b e h =
    let s = slot_size (geometry_of layout) in
    let from = (slot_of layout 1).at in
    let place = b.inside.place in
    let bound = b.inside.bound in
    let n : length (u.accepted ++ bytes) ≡ o + length bytes = length-append u.accepted bytes ∙ ap (λ (m : ℕ). m + length bytes) e in
    let kept : area from (o + length bytes) new ≡ area from (o + length bytes) mid = b.keeps.apart from (o + length bytes) (sides_clear layout from (o + length bytes) (inl (omega arith))) in
    let front : area from o mid ≡ u.accepted = b.laid.keeps.apart from o (inl (omega arith), tt) ∙ ap (λ (m : ℕ). area from m old) (sym e) ∙ sym h in
    let rear : area (from + o) (length bytes) mid ≡ bytes = ap (λ (p : ℕ). area p (length bytes) mid) (sym place) ∙ b.laid.holds in
    sym (ap (λ (m : ℕ). area from m new) n ∙ kept ∙ area-add from o (length bytes) mid ∙ (λ j. front j ++ rear j))

-- and what follows them is erased
laid_clean : (layout : Layout) (acc : List ℕ) (o at m : ℕ) (bytes old mid new : List ℕ) → Both layout o at bytes old mid new → length acc ≡ o + length bytes → CleanFrom layout (length acc) m new
laid_clean layout acc o at m bytes old mid new b n = λ below.
    let s = slot_size (geometry_of layout) in
    let from = (slot_of layout 1).at in
    let page = (geometry_of layout).page in
    let place = b.inside.place in
    let bound = b.inside.bound in
    let here : from + length acc ≡ at + length bytes = omega arith in
    let t : tail page (length acc) ≡ tail page (o + length bytes) = ap (tail page) n in
    (λ j. area (here j) (t j) new) ∙ b.keeps.apart (at + length bytes) (tail page (o + length bytes)) (sides_clear layout (at + length bytes) (tail page (o + length bytes)) (inl (omega arith))) ∙ b.laid.clean ∙ sym (ap blank t)

longer_as : (layout : Layout) (side : Side) (a : Announcement) (o at : ℕ) (bytes old mid new : List ℕ) → Met layout a o side old → Both layout o at bytes old mid new → HasRecord layout (records.Upload a (o + length bytes) false) new
    → StandsClean layout (longer side bytes) new
longer_as layout side a o at bytes old mid new m b has =
    let f = m.found in
    let u = f.u in
    let size = length bytes + tail (geometry_of layout).page (o + length bytes) in
    let next : Upload = record u { accepted = u.accepted ++ bytes } in
    let e : appended side.upload bytes ≡ Some next = appended_is side.upload u bytes f.is in
    let was : SideStandsAs layout false side mid = slot_as layout side a o at size old mid b.inside f b.laid.keeps m.shows.stands in
    let held : HasRecord layout (record_of false (Some next)) new = subst (λ (x : Record). HasRecord layout x new) (sym (record_longer u a o bytes f.announcement f.offset)) has in
    let old_accepts : Accepts layout false (Some u) old = subst (λ (x : Option Upload). Accepts layout false x old) f.is m.shows.stands.accepts in
    let accepts : Accepts layout false (Some next) new = laid_accepts layout u o at bytes old mid new b f.offset old_accepts in
    let clean : Clean layout (Some next) new = laid_clean layout (u.accepted ++ bytes) o at u.announcement.length bytes old mid new b (length-append u.accepted bytes ∙ ap (λ (z : ℕ). z + length bytes) f.offset) in
    subst (λ (x : Option Upload). StandsClean layout (record side { upload = x }) new) (sym e)
    (record { stands = as_after layout false false side (Some next) mid new (fixed_sides layout mid new b.keeps) was held accepts (good_free side.pending (Some next) m.free); clean = clean })

both_lays : OneSide → (layout : Layout) (p : ProgressState) (a : Announcement) (o : ℕ) (sums : Carried) (at : ℕ) (bytes old mid new : List ℕ) → Storing layout p a o sums old → Both layout o at bytes old mid new → HasRecord layout (records.Upload a (o + length bytes) false) new
    → Lays layout bytes old new
both_lays one layout p a o sums at bytes old mid new says b has = record { lays = λ side st. longer_as layout side a o at bytes old mid new (met one layout p a o sums side old says st) b has }

torn_moves : OneSide → (layout : Layout) (p : ProgressState) (a : Announcement) (o : ℕ) (sums : Carried) (at size : ℕ) (steps : Side → List SideStep) (old new : List ℕ) → InSlot layout o at size → Storing layout p a o sums old → Keeps (spot at size) old new → Moves layout steps old new
torn_moves one layout p a o sums at size steps old new i says k = record {
  moves = λ side st.
      let m = met one layout p a o sums side old says st in
      record { reached = side; part = part_none side (steps side); stands = record { rescue = false; stands = slot_as layout side a o at size old new i m.found k m.shows.stands } };
}

both_moves : OneSide → (layout : Layout) (p : ProgressState) (a : Announcement) (o : ℕ) (sums : Carried) (at : ℕ) (bytes old mid new : List ℕ) → Storing layout p a o sums old → Both layout o at bytes old mid new → OldOrThis layout (records.Upload a (o + length bytes) false) mid new
    → Moves layout (one_step (Append bytes)) old new
both_moves one layout p a o sums at bytes old mid new says b either = record {
  moves = λ side st.
      let m = met one layout p a o sums side old says st in
      let size = length bytes + tail (geometry_of layout).page (o + length bytes) in
      let was : SideStandsAs layout false side mid = slot_as layout side a o at size old mid b.inside m.found b.laid.keeps m.shows.stands in
      elim either [
        | inl same ↦ record {
          reached = side;
          part = part_none side (Append bytes ∷ []);
          stands = record {
            rescue = false;
            stands = as_same layout false false side mid new (fixed_sides layout mid new b.keeps) was (record_same layout (record_of false side.upload) mid new same was.entry)
                (accepts_sides layout false side.upload mid new (lawful layout (record_of false side.upload) mid was.entry) b.keeps was.accepts);
          };
        }
        | inr this ↦ record {
          reached = side_apply (Append bytes) side;
          part = part_whole side (Append bytes ∷ []);
          stands = record { rescue = false; stands = (longer_as layout side a o at bytes old mid new m b this).stands };
        }
      ];
}

-- nothing is pending before, so nothing is to be kept
pub none_pending : (known : Known) (old new : List ℕ) → known.pending ≡ None → Says known old → KeepsPending known.layout old new
none_pending known old new free says =
    let e : pending_in known.layout old ≡ None = sym says.shows.stands.pending ∙ sym says.knows.pending ∙ free in
    record { kept = λ is. absurd (cc (subst IsSome e is)); still = λ is. absurd (cc (subst IsSome e is)) }

-- the places of a put
pub in_slot : (layout : Layout) (o n m : ℕ) → o + n ≤ m → m + (geometry_of layout).page ≤ slot_size (geometry_of layout) → InSlot layout o ((slot_of layout 1).at + o) (n + tail (geometry_of layout).page (o + n))
in_slot layout o n m le most =
    let s = slot_size (geometry_of layout) in
    let page = (geometry_of layout).page in
    let r : Regular (geometry_of layout) = regular (geometry_of layout) layout.lawful in
    let last : (s - page) % page ≡ 0 = before_page page s r.is_page r.slot_whole r.slot_least in
    let end : o + n + tail page (o + n) ≤ s - page = tail_last page (o + n) (s - page) r.is_page last (omega arith) in
    let least : 4 * page ≤ s = r.slot_least in
    record { place = refl; bound = omega arith }
  where
    before_page : (page s : ℕ) → IsPage page → s % page ≡ 0 → 4 * page ≤ s → (s - page) % page ≡ 0
    before_page page s is e le = each_page (λ p. s % p ≡ 0 → 4 * p ≤ s → (s - p) % p ≡ 0) (λ a b. omega arith) (λ a b. omega arith) (λ a b. omega arith) (λ a b. omega arith) page is e le

pub slot_Calls : (layout : Layout) (o at size : ℕ) (end : End) (a b : FlashState) → InSlot layout o at size → Calls (spot at size) end a b → Calls (upload_spots layout) end a b
slot_Calls layout o at size end a b i calls =
    let s = slot_size (geometry_of layout) in
    let place = i.place in
    let bound = i.bound in
    Calls-wider (upload_spots layout) (spot at size) end a b (Covers-within at size (slot_of layout 1).at (s + 8192 + (geometry_of layout).page) (omega arith) (omega arith)) calls

pub chain_Calls : (layout : Layout) (o at size : ℕ) (end : End) (a b c : FlashState) → InSlot layout o at size → Calls (spot at size) Went a b → Calls (sides (progress_of layout)) end b c → Calls (upload_spots layout) end a c
chain_Calls layout o at size end a b c i f g = Calls-after (upload_spots layout) end a b c (slot_Calls layout o at size Went a b i f) (sides_Calls layout end b c g)

pub told_slot_ages : (layout : Layout) (n o at size : ℕ) (x y : Option (List ℕ)) → InSlot layout o at size → Told (Keeps (spot at size)) x y → Told (AgesAtMost n (progress_of layout)) x y
told_slot_ages layout n o at size x y i k = Told-map (Keeps (spot at size)) (AgesAtMost n (progress_of layout)) x y (λ u v. slot_ages layout n o at size u v i) k

pub told_chain_ages : (layout : Layout) (o at size : ℕ) (x y z : Option (List ℕ)) → InSlot layout o at size → Told (Keeps (spot at size)) x y → Told (AgesAtMost 1 (progress_of layout)) y z → Told (AgesAtMost 1 (progress_of layout)) x z
told_chain_ages layout o at size x y z i k ages = Told-trans (AgesAtMost 0 (progress_of layout)) (AgesAtMost 1 (progress_of layout)) (AgesAtMost 1 (progress_of layout)) x y z (ages_sum layout 0 1) (told_slot_ages layout 0 o at size x y i k) ages

pub told_torn : OneSide → (layout : Layout) (p : ProgressState) (a : Announcement) (o : ℕ) (sums : Carried) (at size : ℕ) (steps : Side → List SideStep) (x y : Option (List ℕ)) → InSlot layout o at size → IfSome x (Storing layout p a o sums) → Told (Keeps (spot at size)) x y → Told (Moves layout steps) x y
told_torn one layout p a o sums at size steps x y i says k = Told-with (Storing layout p a o sums) (Keeps (spot at size)) (Moves layout steps) x y (λ u v s kk. torn_moves one layout p a o sums at size steps u v i s kk) says k

pub told_progress : ProgressLasts → (layout : Layout) (p : ProgressState) (a : Announcement) (o : ℕ) (sums : Carried) (at size : ℕ) (x y : Option (List ℕ)) → p.layout ≡ layout → InSlot layout o at size → IfSome x (Storing layout p a o sums) → Told (Keeps (spot at size)) x y → IfSome y (ProgressSays p)
told_progress lasts layout p a o sums at size x y is i says k = Told-after (Storing layout p a o sums) (Keeps (spot at size)) (ProgressSays p) x y
    (λ u v s kk. progress_kept lasts layout p (spot at size) u v is (slot_first layout o at size i) (slot_second layout o at size i) kk s.record_says) says k

pub told_pending : (known : Known) (R : List ℕ → List ℕ → Type 0) (x y : Option (List ℕ)) → known.pending ≡ None → IfSome x (Says known) → Told R x y → Told (KeepsPending known.layout) x y
told_pending known R x y free says r = Told-with (Says known) R (KeepsPending known.layout) x y (λ u v s kk. none_pending known u v free s) says r

pub told_both_moves : OneSide → (layout : Layout) (p : ProgressState) (a : Announcement) (o : ℕ) (sums : Carried) (at : ℕ) (bytes : List ℕ) (x y z : Option (List ℕ)) → InSlot layout o at (length bytes + tail (geometry_of layout).page (o + length bytes))
    → IfSome x (Storing layout p a o sums) → Told (Laid at (tail (geometry_of layout).page (o + length bytes)) bytes) x y → Told (Keeps (sides (progress_of layout))) y z → Told (OldOrThis layout (records.Upload a (o + length bytes) false)) y z → Told (Moves layout (one_step (Append bytes))) x z
told_both_moves one layout p a o sums at bytes x y z i says laid k either =
    told_chain (Storing layout p a o sums) (Laid at (tail (geometry_of layout).page (o + length bytes)) bytes) (Keeps (sides (progress_of layout))) (OldOrThis layout (records.Upload a (o + length bytes) false)) (Moves layout (one_step (Append bytes))) x y z
    (λ u v w s l kk h. both_moves one layout p a o sums at bytes u v w s (record { inside = i; laid = l; keeps = kk }) h) says laid k either

pub told_both_lays : OneSide → (layout : Layout) (p : ProgressState) (a : Announcement) (o : ℕ) (sums : Carried) (at : ℕ) (bytes : List ℕ) (x y z : Option (List ℕ)) → InSlot layout o at (length bytes + tail (geometry_of layout).page (o + length bytes))
    → IfSome x (Storing layout p a o sums) → Told (Laid at (tail (geometry_of layout).page (o + length bytes)) bytes) x y → Told (Keeps (sides (progress_of layout))) y z → IfSome z (HasRecord layout (records.Upload a (o + length bytes) false)) → Told (Lays layout bytes) x z
told_both_lays one layout p a o sums at bytes x y z i says laid k has =
    told_chain (Storing layout p a o sums) (Laid at (tail (geometry_of layout).page (o + length bytes)) bytes) (Keeps (sides (progress_of layout))) (λ v w. HasRecord layout (records.Upload a (o + length bytes) false) w) (Lays layout bytes) x y z
    (λ u v w s l kk h. both_lays one layout p a o sums at bytes u v w s (record { inside = i; laid = l; keeps = kk }) h) says laid k
    (told_last (Keeps (sides (progress_of layout))) (HasRecord layout (records.Upload a (o + length bytes) false)) y z k has)

-- the place behind the accepted bytes is erased
pub told_clean : (layout : Layout) (p : ProgressState) (a : Announcement) (o : ℕ) (sums : Carried) (x : Option (List ℕ)) → o < a.length → IfSome x (Storing layout p a o sums)
    → IfSome x (λ held. area ((slot_of layout 1).at + o) (tail (geometry_of layout).page o) held ≡ blank (tail (geometry_of layout).page o))
told_clean layout p a o sums x below says = IfSome-map (Storing layout p a o sums) (λ held. area ((slot_of layout 1).at + o) (tail (geometry_of layout).page o) held ≡ blank (tail (geometry_of layout).page o)) x (λ u s.
    let page = (geometry_of layout).page in
    let f : Found s.side.upload (record { announcement = a; offset = o }) = found s.side.upload (record { announcement = a; offset = o }) s.knows.upload in
    let c : CleanFrom layout (length f.u.accepted) f.u.announcement.length u = subst (λ (up : Option Upload). Clean layout up u) f.is s.shows.clean in
    let l : f.u.announcement.length ≡ a.length = ap (λ (b : Announcement). b.length) f.announcement in
    let d : CleanFrom layout o f.u.announcement.length u = subst (λ (n : ℕ). CleanFrom layout n f.u.announcement.length u) f.offset c in
    d (omega arith)) says

-- the record's put pays after the slot's
pub put_pays : (layout : Layout) (a b c : FlashState) → Goes a b → (AimsAtRecord layout b.aim → Smaller b.patience c.patience) → AimsAtRecord layout a.aim → Smaller a.patience c.patience
put_pays layout a b c h f aims = then_Smaller a.patience b.patience c.patience h.patience (f (subst (AimsAtRecord layout) (sym h.aim) aims))

-- the upload with these bytes more, for what follows
stored_filled : (layout : Layout) (p next : ProgressState) (a : Announcement) (o : ℕ) (sums all : Carried) (bytes old new : List ℕ) → Storing layout p a o sums old → Lays layout bytes old new → ((added : List ℕ) → Carries sums added → Carries all (added ++ bytes)) → ProgressSays next new
    → Filled layout next a (o + length bytes) all new
stored_filled layout p next a o sums all bytes old new says l add b =
    let st : SideStands layout says.side old = shows_stands layout says.side old says.shows in
    let f = found says.side.upload (record { announcement = a; offset = o }) says.knows.upload in
    let had : Sums sums (Some f.u) = subst (λ (x : Option Upload). Sums sums x) f.is says.knows.sums in
    record {
      side = longer says.side bytes;
      stands = l.lays says.side st;
      upload = sym (ap (λ (x : Option Upload). option_map announced (appended x bytes)) f.is ∙ (λ i. Some (record { announcement = f.announcement i; offset = (length-append f.u.accepted bytes ∙ ap (λ (n : ℕ). n + length bytes) f.offset) i })));
      free = sym says.knows.pending;
      record_says = b;
      carried = subst (λ (x : Option Upload). Sums all (appended x bytes)) (sym f.is) (add f.u.accepted had);
    }

pub told_filled : (layout : Layout) (p next : ProgressState) (a : Announcement) (o : ℕ) (sums all : Carried) (bytes : List ℕ) (x y : Option (List ℕ)) → IfSome x (Storing layout p a o sums) → Told (Lays layout bytes) x y → ((added : List ℕ) → Carries sums added → Carries all (added ++ bytes)) → IfSome y (ProgressSays next)
    → IfSome y (Filled layout next a (o + length bytes) all)
told_filled layout p next a o sums all bytes x y says l add b = new_three (Storing layout p a o sums) (Lays layout bytes) (ProgressSays next) (Filled layout next a (o + length bytes) all) x y (λ u v s ll bb. stored_filled layout p next a o sums all bytes u v s ll add bb) says l b
