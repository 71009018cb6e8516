-- A page's front is moved out and brought back.
use Rattle.std.proofs.Common.{◌≡◌, inl, inr, ℕ, ◌+◌, ◌-◌, ◌*◌, ◌%◌, ◌<◌, ◌≤◌, Bool, true, false, Option, Some, None, List, [], ◌∷◌, ◌++◌, sym, ◌∙◌, ap, subst, arith}
use Rattle.std.specs.Prelude.{IfSome}
use Rattle.smp_flash.specs.Area.{area, blank, spot, Clear, Keeps, Told}
use Rattle.smp_flash.specs.Calls.{Calls}
use Rattle.smp_flash.specs.Geometry.{slot_size, tail, Regular, IsPage}
use Rattle.smp_flash.specs.Layout.{geometry_of, slot_of, progress_of, scratch_of, upload_spots, area_spot}
use Rattle.smp_flash.specs.State.{FlashState, End}
use Rattle.smp_flash.specs.State.End.{Went}
use Rattle.smp_flash.specs.declared.layout.Layout.{Layout}
use Rattle.smp_flash.proofs.Areas.{area-add}
use Rattle.smp_flash.proofs.Passing.{Calls-wider, Calls-after, Covers-two}
use Rattle.smp_flash.proofs.Places.{page_small, tail_part, tail_last}
use Rattle.smp_flash.proofs.Sizes.{regular, each_page}
use Rattle.smp_flash.proofs.Telling.{Told-with, Told-map, Told-trans, Told-after}
use Rattle.smp_gate.specs.Newest.{newest_generation, generation_by, sides, AgesAtMost}
use Rattle.smp_model.specs.declared.device.Side.{Side}
use Rattle.smp_model.specs.declared.device.Upload.{Upload}
use Rattle.smp_model.specs.declared.upload.Announcement.{Announcement}
use Rattle.smp_progress.specs.Cells.{HasRecord, OldOrThis}
use Rattle.smp_progress.specs.State.{ProgressState, ProgressSays}
use Rattle.smp_progress.specs.declared.record.Record.{Record}
use Rattle.smp_progress.specs.declared.record.Record.TheVariants as records
use Rattle.smp_slot.specs.Moved as slots
use Rattle.smp_slot.specs.Slots.{page_begin, moved_spots}
use Rattle.smp_upload.specs.Bytes.{SideStandsAs, SideStands, Accepts, CleanFrom, accepted_in, record_of}
use Rattle.smp_upload.specs.Moves.{Moves, no_steps}
use Rattle.smp_upload.specs.Rescuing.{HeldAs, Reflags}
use Rattle.smp_upload.proofs.Composing.{part_none, ages_sum, ages_more}
use Rattle.smp_upload.proofs.Frames.{fixed_by, as_same, newest_kept, record_kept, record_same, progress_kept, lawful, ProgressLasts}
use Rattle.smp_upload.proofs.Putting.{fixed_sides, accepts_sides, sides_Calls, sides_clear}
use Rattle.smp_upload.proofs.Sides.{OneSide}
use Rattle.smp_upload.proofs.Stored.{Found, found}
use Rattle.smp_upload.proofs.Tellings.{told_chain, told_last}

-- The offset lies inside a page, before the slot's last one.
pub record Inner (layout : Layout) (o : ℕ) : Type 0 where
  pub some : 0 < o % (geometry_of layout).page
  pub inside : o + (geometry_of layout).page ≤ slot_size (geometry_of layout)

-- where that page begins, how many of its bytes lie before the offset, and how many behind it
abbrev pub page_at : Layout → ℕ → ℕ
page_at layout o = page_begin layout (slot_of layout 1) o

abbrev pub count_at : Layout → ℕ → ℕ
count_at layout o = o % (geometry_of layout).page

abbrev pub rest_at : Layout → ℕ → ℕ
rest_at layout o = tail (geometry_of layout).page o

small : (layout : Layout) (o : ℕ) → count_at layout o < (geometry_of layout).page
small layout o = page_small (geometry_of layout).page o (regular (geometry_of layout) layout.lawful).is_page

mod_most : (o page : ℕ) → o % page ≤ o
mod_most o page = omega arith

rest_is : (layout : Layout) (o : ℕ) → Inner layout o → rest_at layout o ≡ (geometry_of layout).page - count_at layout o
rest_is layout o i = tail_part (geometry_of layout).page o (regular (geometry_of layout) layout.lawful).is_page i.some

-- A change in one of the two pages keeps what lies elsewhere.
record Elsewhere (layout : Layout) (at : ℕ) : Type 0 where
  slot_0 : Clear (spot at (geometry_of layout).page) (slot_of layout 0).at (slot_of layout 0).length
  last : Clear (spot at (geometry_of layout).page) ((slot_of layout 1).at + (slot_size (geometry_of layout) - (geometry_of layout).page)) (geometry_of layout).page
  first : Clear (spot at (geometry_of layout).page) (progress_of layout).first.at 4096
  second : Clear (spot at (geometry_of layout).page) (progress_of layout).second.at 4096

scratch_elsewhere : (layout : Layout) → Elsewhere layout (scratch_of layout).at
scratch_elsewhere layout =
    let s = slot_size (geometry_of layout) in
    let r : Regular (geometry_of layout) = regular (geometry_of layout) layout.lawful in
    let least = r.slot_least in
    record { slot_0 = (inl (omega arith), tt); last = (inl (omega arith), tt); first = (inl (omega arith), tt); second = (inl (omega arith), tt) }

-- the page ends before the slot's last one
before_page : (page s : ℕ) → IsPage page → s % page ≡ 0 → 4 * page ≤ s → (s - page) % page ≡ 0
before_page page s is e le = each_page (λ p. s % p ≡ 0 → 4 * p ≤ s → (s - p) % p ≡ 0) (λ a b. omega arith) (λ a b. omega arith) (λ a b. omega arith) (λ a b. omega arith) page is e le

page_ends : (layout : Layout) (o : ℕ) → Inner layout o → o + rest_at layout o ≤ slot_size (geometry_of layout) - (geometry_of layout).page
page_ends layout o i =
    let s = slot_size (geometry_of layout) in
    let page = (geometry_of layout).page in
    let r : Regular (geometry_of layout) = regular (geometry_of layout) layout.lawful in
    let inside = i.inside in
    tail_last page o (s - page) r.is_page (before_page page s r.is_page r.slot_whole r.slot_least) (omega arith)

page_elsewhere : (layout : Layout) (o : ℕ) → Inner layout o → Elsewhere layout (page_at layout o)
page_elsewhere layout o i =
    let s = slot_size (geometry_of layout) in
    let page = (geometry_of layout).page in
    let r : Regular (geometry_of layout) = regular (geometry_of layout) layout.lawful in
    let least = r.slot_least in
    let inside = i.inside in
    let ends = page_ends layout o i in
    let rest = rest_is layout o i in
    let lt = small layout o in
    let le : o % page ≤ o = mod_most o page in
    record { slot_0 = (inl (omega arith), tt); last = (inr (omega arith), tt); first = (inr (omega arith), tt); second = (inr (omega arith), tt) }

page_ages : (layout : Layout) (at : ℕ) (old new : List ℕ) → Elsewhere layout at → Keeps (spot at (geometry_of layout).page) old new → AgesAtMost 0 (progress_of layout) old new
page_ages layout at old new e k =
    let same : newest_generation (progress_of layout) new ≡ newest_generation (progress_of layout) old = ap generation_by (newest_kept (progress_of layout) (spot at (geometry_of layout).page) old new e.first e.second k) in
    record { kept = omega arith; most = omega arith }

page_as : (layout : Layout) (flag : Bool) (side : Side) (at : ℕ) (old new : List ℕ) → Elsewhere layout at → Keeps (spot at (geometry_of layout).page) old new → SideStandsAs layout flag side old → Accepts layout flag side.upload new → SideStandsAs layout flag side new
page_as layout flag side at old new e k h accepts =
    as_same layout flag flag side old new (fixed_by layout (spot at (geometry_of layout).page) old new e.slot_0 e.last k) h
    (record_kept layout (record_of flag side.upload) (spot at (geometry_of layout).page) old new e.first e.second k h.entry) accepts

-- What is held of a side that the bytes stand for.
record Here (layout : Layout) (flag : Bool) (a : Announcement) (o : ℕ) (side : Side) (bytes : List ℕ) : Type 0 where
  stands : SideStandsAs layout flag side bytes
  found_is : Found side.upload (record { announcement = a; offset = o })

here : OneSide → (layout : Layout) (flag : Bool) (p : ProgressState) (a : Announcement) (o : ℕ) (side : Side) (bytes : List ℕ) → HeldAs layout flag p a o bytes → SideStands layout side bytes → Here layout flag a o side bytes
here one layout flag p a o side bytes h st =
    subst (λ (x : Side). Here layout flag a o x bytes) (one layout h.side side bytes (record { rescue = flag; stands = h.stands }) st)
    (record { stands = h.stands; found_is = found h.side.upload (record { announcement = a; offset = o }) h.upload })

-- accepted bytes, by the upload that is found
accepts_found : (layout : Layout) (flag : Bool) (up : Option Upload) (a : Announcement) (o : ℕ) (old new : List ℕ) (g : Bool) → Found up (record { announcement = a; offset = o }) → accepted_in layout g o new ≡ accepted_in layout flag o old → Accepts layout flag up old → Accepts layout g up new
accepts_found layout flag up a o old new g f e h =
    let u = f.u in
    subst (λ (x : Option Upload). Accepts layout g x new) (sym f.is)
    (subst (λ (x : Option Upload). Accepts layout flag x old) f.is h ∙ ap (λ (n : ℕ). accepted_in layout flag n old) f.offset ∙ sym e ∙ ap (λ (n : ℕ). accepted_in layout g n new) (sym f.offset))

record_found : (layout : Layout) (flag : Bool) (up : Option Upload) (a : Announcement) (o : ℕ) (new : List ℕ) → Found up (record { announcement = a; offset = o }) → HasRecord layout (records.Upload a o flag) new → HasRecord layout (record_of flag up) new
record_found layout flag up a o new f h =
    subst (λ (x : Option Upload). HasRecord layout (record_of flag x) new) (sym f.is)
    (subst (λ (x : Record). HasRecord layout x new) (λ i. records.Upload (sym f.announcement i) (sym f.offset i) flag) h)

-- the page's front in its own place, in two parts
front_is : (layout : Layout) (o : ℕ) (bytes : List ℕ) → Inner layout o → accepted_in layout false o bytes ≡ area (slot_of layout 1).at (o - count_at layout o) bytes ++ area (page_at layout o) (count_at layout o) bytes
front_is layout o bytes i =
    let from = (slot_of layout 1).at in
    let page = (geometry_of layout).page in
    let le : o % page ≤ o = mod_most o page in
    let split : o ≡ (o - o % page) + o % page = omega arith in
    let place : from + (o - o % page) ≡ page_at layout o = omega arith in
    ap (λ (n : ℕ). area from n bytes) split ∙ area-add from (o - o % page) (o % page) bytes
    ∙ (λ j. area from (o - o % page) bytes ++ area (place j) (o % page) bytes)

-- Moving out.
out_accepts : (layout : Layout) (o : ℕ) (old mid new : List ℕ) → Inner layout o → Keeps (spot (scratch_of layout).at (geometry_of layout).page) old mid
    → area (scratch_of layout).at (count_at layout o) mid ≡ area (page_at layout o) (count_at layout o) old → Keeps (sides (progress_of layout)) mid new → accepted_in layout true o new ≡ accepted_in layout false o old
out_accepts layout o old mid new i k copied ks =
    let s = slot_size (geometry_of layout) in
    let page = (geometry_of layout).page in
    let from = (slot_of layout 1).at in
    let scratch = (scratch_of layout).at in
    let inside = i.inside in
    let le : o % page ≤ o = mod_most o page in
    let lt : o % page < page = small layout o in
    let n : ℕ = o - o % page in
    let front : area from n new ≡ area from n old = ks.apart from n (sides_clear layout from n (inl (omega arith))) ∙ k.apart from n (inl (omega arith), tt) in
    let rear : area scratch (o % page) new ≡ area (page_at layout o) (o % page) old = ks.apart scratch (o % page) (sides_clear layout scratch (o % page) (inr (omega arith))) ∙ copied in
    (λ j. front j ++ rear j) ∙ sym (front_is layout o old i)

same_accepts : (layout : Layout) (o : ℕ) (old mid : List ℕ) → Inner layout o → Keeps (spot (scratch_of layout).at (geometry_of layout).page) old mid → accepted_in layout false o mid ≡ accepted_in layout false o old
same_accepts layout o old mid i k =
    let s = slot_size (geometry_of layout) in
    let inside = i.inside in
    k.apart (slot_of layout 1).at o (inl (omega arith), tt)

-- Bringing back.
back_accepts : (layout : Layout) (o : ℕ) (old mid : List ℕ) → Inner layout o → Keeps (spot (page_at layout o) (geometry_of layout).page) old mid → accepted_in layout true o mid ≡ accepted_in layout true o old
back_accepts layout o old mid i k =
    let s = slot_size (geometry_of layout) in
    let page = (geometry_of layout).page in
    let from = (slot_of layout 1).at in
    let inside = i.inside in
    let some = i.some in
    let le : o % page ≤ o = mod_most o page in
    let n : ℕ = o - o % page in
    let front : area from n mid ≡ area from n old = k.apart from n (inl (omega arith), tt) in
    let rear : area (scratch_of layout).at (o % page) mid ≡ area (scratch_of layout).at (o % page) old = k.apart (scratch_of layout).at (o % page) (inr (omega arith), tt) in
    (λ j. front j ++ rear j)

back_whole : (layout : Layout) (o : ℕ) (old mid new : List ℕ) → Inner layout o → Keeps (spot (page_at layout o) (geometry_of layout).page) old mid → area (page_at layout o) (count_at layout o) mid ≡ area (scratch_of layout).at (count_at layout o) old → Keeps (sides (progress_of layout)) mid new
    → accepted_in layout false o new ≡ accepted_in layout true o old
back_whole layout o old mid new i k copied ks =
    let s = slot_size (geometry_of layout) in
    let page = (geometry_of layout).page in
    let from = (slot_of layout 1).at in
    let inside = i.inside in
    let le : o % page ≤ o = mod_most o page in
    let lt : o % page < page = small layout o in
    let n : ℕ = o - o % page in
    let front : area from n new ≡ area from n old = ks.apart from n (sides_clear layout from n (inl (omega arith))) ∙ k.apart from n (inl (omega arith), tt) in
    let rear : area (page_at layout o) (o % page) new ≡ area (scratch_of layout).at (o % page) old =
    ks.apart (page_at layout o) (o % page) (sides_clear layout (page_at layout o) (o % page) (inl (omega arith))) ∙ copied in
    front_is layout o new i ∙ (λ j. front j ++ rear j)

back_clean : (layout : Layout) (o m : ℕ) (mid new : List ℕ) → Inner layout o → area (page_at layout o + count_at layout o) (rest_at layout o) mid ≡ blank (rest_at layout o) → Keeps (sides (progress_of layout)) mid new → CleanFrom layout o m new
back_clean layout o m mid new i blanked ks = λ below.
    let s = slot_size (geometry_of layout) in
    let page = (geometry_of layout).page in
    let from = (slot_of layout 1).at in
    let inside = i.inside in
    let le : o % page ≤ o = mod_most o page in
    let lt : o % page < page = small layout o in
    let rest = rest_is layout o i in
    let at : from + o ≡ page_at layout o + count_at layout o = omega arith in
    ap (λ (p : ℕ). area p (rest_at layout o) new) at ∙ ks.apart (page_at layout o + count_at layout o) (rest_at layout o) (sides_clear layout (page_at layout o + count_at layout o) (rest_at layout o) (inl (omega arith))) ∙ blanked

-- What a put of the same upload's record leaves, whatever its flag.
flag_moves : OneSide → (layout : Layout) (flag to_flag : Bool) (p : ProgressState) (a : Announcement) (o : ℕ) (old mid new : List ℕ) → HeldAs layout flag p a o old → ((side : Side) → Here layout flag a o side old → SideStandsAs layout flag side mid)
    → ((side : Side) → Here layout flag a o side old → Accepts layout to_flag side.upload new) → Keeps (sides (progress_of layout)) mid new → OldOrThis layout (records.Upload a o to_flag) mid new → Moves layout no_steps old new
flag_moves one layout flag to_flag p a o old mid new h was accepts ks either = record {
  moves = λ side st.
      let e = here one layout flag p a o side old h st in
      let m = was side e in
      record {
        reached = side;
        part = part_none side [];
        stands = elim either [
          | inl same ↦ record { rescue = flag; stands = as_same layout flag flag side mid new (fixed_sides layout mid new ks) m (record_same layout (record_of flag side.upload) mid new same m.entry) (accepts_sides layout flag side.upload mid new (lawful layout (record_of flag side.upload) mid m.entry) ks m.accepts) }
          | inr this ↦ record { rescue = to_flag; stands = as_same layout flag to_flag side mid new (fixed_sides layout mid new ks) m (record_found layout to_flag side.upload a o new e.found_is this) (accepts side e) }
        ];
      };
}

flag_same : OneSide → (layout : Layout) (flag to_flag : Bool) (p : ProgressState) (a : Announcement) (o : ℕ) (old mid new : List ℕ) → HeldAs layout flag p a o old → ((side : Side) → Here layout flag a o side old → SideStandsAs layout flag side mid)
    → ((side : Side) → Here layout flag a o side old → Accepts layout to_flag side.upload new) → Keeps (sides (progress_of layout)) mid new → HasRecord layout (records.Upload a o to_flag) new → Reflags layout to_flag old new
flag_same one layout flag to_flag p a o old mid new h was accepts ks this = record {
  same = λ side st.
      let e = here one layout flag p a o side old h st in
      as_same layout flag to_flag side mid new (fixed_sides layout mid new ks) (was side e) (record_found layout to_flag side.upload a o new e.found_is this) (accepts side e);
}

-- The two moves.
abbrev pub OutOf : Layout → ℕ → List ℕ → List ℕ → Type 0
OutOf layout o old mid = slots.Moved (page_at layout o) (scratch_of layout).at (count_at layout o) (rest_at layout o) old mid

abbrev pub BackTo : Layout → ℕ → List ℕ → List ℕ → Type 0
BackTo layout o old mid = slots.Moved (scratch_of layout).at (page_at layout o) (count_at layout o) (rest_at layout o) old mid

abbrev pub InScratch : Layout → List ℕ → List ℕ → Type 0
InScratch layout old mid = Keeps (spot (scratch_of layout).at (geometry_of layout).page) old mid

abbrev pub InPage : Layout → ℕ → List ℕ → List ℕ → Type 0
InPage layout o old mid = Keeps (spot (page_at layout o) (geometry_of layout).page) old mid

out_was : (layout : Layout) (a : Announcement) (o : ℕ) (old mid : List ℕ) → Inner layout o → InScratch layout old mid → (side : Side) → Here layout false a o side old → SideStandsAs layout false side mid
out_was layout a o old mid i k side e =
    page_as layout false side (scratch_of layout).at old mid (scratch_elsewhere layout) k e.stands
    (accepts_found layout false side.upload a o old mid false e.found_is (same_accepts layout o old mid i k) e.stands.accepts)

back_was : (layout : Layout) (a : Announcement) (o : ℕ) (old mid : List ℕ) → Inner layout o → InPage layout o old mid → (side : Side) → Here layout true a o side old → SideStandsAs layout true side mid
back_was layout a o old mid i k side e =
    page_as layout true side (page_at layout o) old mid (page_elsewhere layout o i) k e.stands
    (accepts_found layout true side.upload a o old mid true e.found_is (back_accepts layout o old mid i k) e.stands.accepts)

out_torn : OneSide → (layout : Layout) (p : ProgressState) (a : Announcement) (o : ℕ) (old mid : List ℕ) → Inner layout o → HeldAs layout false p a o old → InScratch layout old mid → Moves layout no_steps old mid
out_torn one layout p a o old mid i h k = record { moves = λ side st. record { reached = side; part = part_none side []; stands = record { rescue = false; stands = out_was layout a o old mid i k side (here one layout false p a o side old h st) } } }

back_torn : OneSide → (layout : Layout) (p : ProgressState) (a : Announcement) (o : ℕ) (old mid : List ℕ) → Inner layout o → HeldAs layout true p a o old → InPage layout o old mid → Moves layout no_steps old mid
back_torn one layout p a o old mid i h k = record { moves = λ side st. record { reached = side; part = part_none side []; stands = record { rescue = true; stands = back_was layout a o old mid i k side (here one layout true p a o side old h st) } } }

out_next : (layout : Layout) (a : Announcement) (o : ℕ) (old mid new : List ℕ) → Inner layout o → OutOf layout o old mid → InScratch layout old mid → Keeps (sides (progress_of layout)) mid new → (side : Side) → Here layout false a o side old → Accepts layout true side.upload new
out_next layout a o old mid new i m k ks side e = accepts_found layout false side.upload a o old new true e.found_is (out_accepts layout o old mid new i k m.holds ks) e.stands.accepts

back_next : (layout : Layout) (a : Announcement) (o : ℕ) (old mid new : List ℕ) → Inner layout o → BackTo layout o old mid → InPage layout o old mid → Keeps (sides (progress_of layout)) mid new → (side : Side) → Here layout true a o side old → Accepts layout false side.upload new
back_next layout a o old mid new i m k ks side e = accepts_found layout true side.upload a o old new false e.found_is (back_whole layout o old mid new i k m.holds ks) e.stands.accepts

-- the whole page is what the parts are
out_keeps : (layout : Layout) (o : ℕ) (old mid : List ℕ) → Inner layout o → OutOf layout o old mid → InScratch layout old mid
out_keeps layout o old mid i m =
    let rest = rest_is layout o i in
    let lt = small layout o in
    subst (λ (n : ℕ). Keeps (spot (scratch_of layout).at n) old mid) (let e : count_at layout o + rest_at layout o ≡ (geometry_of layout).page = omega arith in e) m.keeps

back_keeps : (layout : Layout) (o : ℕ) (old mid : List ℕ) → Inner layout o → BackTo layout o old mid → InPage layout o old mid
back_keeps layout o old mid i m =
    let rest = rest_is layout o i in
    let lt = small layout o in
    subst (λ (n : ℕ). Keeps (spot (page_at layout o) n) old mid) (let e : count_at layout o + rest_at layout o ≡ (geometry_of layout).page = omega arith in e) m.keeps

out_moves : OneSide → (layout : Layout) (p : ProgressState) (a : Announcement) (o : ℕ) (old mid new : List ℕ) → Inner layout o → HeldAs layout false p a o old → OutOf layout o old mid → Keeps (sides (progress_of layout)) mid new → OldOrThis layout (records.Upload a o true) mid new → Moves layout no_steps old new
out_moves one layout p a o old mid new i h m ks either =
    let k = out_keeps layout o old mid i m in
    flag_moves one layout false true p a o old mid new h (out_was layout a o old mid i k) (out_next layout a o old mid new i m k ks) ks either

out_flags : OneSide → (layout : Layout) (p : ProgressState) (a : Announcement) (o : ℕ) (old mid new : List ℕ) → Inner layout o → HeldAs layout false p a o old → OutOf layout o old mid → Keeps (sides (progress_of layout)) mid new → HasRecord layout (records.Upload a o true) new → Reflags layout true old new
out_flags one layout p a o old mid new i h m ks this =
    let k = out_keeps layout o old mid i m in
    flag_same one layout false true p a o old mid new h (out_was layout a o old mid i k) (out_next layout a o old mid new i m k ks) ks this

back_moves : OneSide → (layout : Layout) (p : ProgressState) (a : Announcement) (o : ℕ) (old mid new : List ℕ) → Inner layout o → HeldAs layout true p a o old → BackTo layout o old mid → Keeps (sides (progress_of layout)) mid new → OldOrThis layout (records.Upload a o false) mid new → Moves layout no_steps old new
back_moves one layout p a o old mid new i h m ks either =
    let k = back_keeps layout o old mid i m in
    flag_moves one layout true false p a o old mid new h (back_was layout a o old mid i k) (back_next layout a o old mid new i m k ks) ks either

back_flags : OneSide → (layout : Layout) (p : ProgressState) (a : Announcement) (o : ℕ) (old mid new : List ℕ) → Inner layout o → HeldAs layout true p a o old → BackTo layout o old mid → Keeps (sides (progress_of layout)) mid new → HasRecord layout (records.Upload a o false) new → Reflags layout false old new
back_flags one layout p a o old mid new i h m ks this =
    let k = back_keeps layout o old mid i m in
    flag_same one layout true false p a o old mid new h (back_was layout a o old mid i k) (back_next layout a o old mid new i m k ks) ks this

-- where the bytes are told
pub out_Calls : (layout : Layout) (o : ℕ) (end : End) (a b : FlashState) → Inner layout o → Calls (moved_spots layout (slot_of layout 1) o) end a b → Calls (upload_spots layout) end a b
out_Calls layout o end a b i calls =
    let s = slot_size (geometry_of layout) in
    let page = (geometry_of layout).page in
    let inside = i.inside in
    let le : o % page ≤ o = mod_most o page in
    Calls-wider (upload_spots layout) (moved_spots layout (slot_of layout 1) o) end a b
    (Covers-two (page_at layout o) page (scratch_of layout).at page (slot_of layout 1).at (s + 8192 + page) (omega arith) (omega arith) (omega arith) (omega arith)) calls

pub back_Calls : (layout : Layout) (o : ℕ) (end : End) (a b : FlashState) → Inner layout o → Calls (area_spot (scratch_of layout) ∷ (page_at layout o, (geometry_of layout).page) ∷ []) end a b → Calls (upload_spots layout) end a b
back_Calls layout o end a b i calls =
    let s = slot_size (geometry_of layout) in
    let page = (geometry_of layout).page in
    let inside = i.inside in
    let le : o % page ≤ o = mod_most o page in
    Calls-wider (upload_spots layout) (area_spot (scratch_of layout) ∷ (page_at layout o, page) ∷ []) end a b
    (Covers-two (scratch_of layout).at page (page_at layout o) page (slot_of layout 1).at (s + 8192 + page) (omega arith) (omega arith) (omega arith) (omega arith)) calls

pub then_sides : (layout : Layout) (end : End) (a b c : FlashState) → Calls (upload_spots layout) Went a b → Calls (sides (progress_of layout)) end b c → Calls (upload_spots layout) end a c
then_sides layout end a b c f g = Calls-after (upload_spots layout) end a b c f (sides_Calls layout end b c g)

pub told_out_ages : (layout : Layout) (x y : Option (List ℕ)) → Told (InScratch layout) x y → Told (AgesAtMost 0 (progress_of layout)) x y
told_out_ages layout x y k = Told-map (InScratch layout) (AgesAtMost 0 (progress_of layout)) x y (λ u v. page_ages layout (scratch_of layout).at u v (scratch_elsewhere layout)) k

pub told_back_ages : (layout : Layout) (o : ℕ) (x y : Option (List ℕ)) → Inner layout o → Told (InPage layout o) x y → Told (AgesAtMost 0 (progress_of layout)) x y
told_back_ages layout o x y i k = Told-map (InPage layout o) (AgesAtMost 0 (progress_of layout)) x y (λ u v. page_ages layout (page_at layout o) u v (page_elsewhere layout o i)) k

pub then_ages : (layout : Layout) (m n : ℕ) (x y z : Option (List ℕ)) → Told (AgesAtMost m (progress_of layout)) x y → Told (AgesAtMost n (progress_of layout)) y z → Told (AgesAtMost (m + n) (progress_of layout)) x z
then_ages layout m n x y z f h = Told-trans (AgesAtMost m (progress_of layout)) (AgesAtMost n (progress_of layout)) (AgesAtMost (m + n) (progress_of layout)) x y z (ages_sum layout m n) f h

pub more_ages : (layout : Layout) (m n : ℕ) (x y : Option (List ℕ)) → m ≤ n → Told (AgesAtMost m (progress_of layout)) x y → Told (AgesAtMost n (progress_of layout)) x y
more_ages layout m n x y le f = Told-map (AgesAtMost m (progress_of layout)) (AgesAtMost n (progress_of layout)) x y (λ u v. ages_more layout m n u v le) f

pub told_out_says : ProgressLasts → (layout : Layout) (p : ProgressState) (a : Announcement) (o : ℕ) (x y : Option (List ℕ)) → p.layout ≡ layout → IfSome x (HeldAs layout false p a o) → Told (InScratch layout) x y → IfSome y (ProgressSays p)
told_out_says lasts layout p a o x y is h k = Told-after (HeldAs layout false p a o) (InScratch layout) (ProgressSays p) x y
    (λ u v hh kk. let e = scratch_elsewhere layout in progress_kept lasts layout p (spot (scratch_of layout).at (geometry_of layout).page) u v is e.first e.second kk hh.record_says) h k

pub told_back_says : ProgressLasts → (layout : Layout) (p : ProgressState) (a : Announcement) (o : ℕ) (x y : Option (List ℕ)) → p.layout ≡ layout → Inner layout o → IfSome x (HeldAs layout true p a o) → Told (InPage layout o) x y → IfSome y (ProgressSays p)
told_back_says lasts layout p a o x y is i h k = Told-after (HeldAs layout true p a o) (InPage layout o) (ProgressSays p) x y
    (λ u v hh kk. let e = page_elsewhere layout o i in progress_kept lasts layout p (spot (page_at layout o) (geometry_of layout).page) u v is e.first e.second kk hh.record_says) h k

pub told_out_torn : OneSide → (layout : Layout) (p : ProgressState) (a : Announcement) (o : ℕ) (x y : Option (List ℕ)) → Inner layout o → IfSome x (HeldAs layout false p a o) → Told (InScratch layout) x y → Told (Moves layout no_steps) x y
told_out_torn one layout p a o x y i h k = Told-with (HeldAs layout false p a o) (InScratch layout) (Moves layout no_steps) x y (λ u v hh kk. out_torn one layout p a o u v i hh kk) h k

pub told_back_torn : OneSide → (layout : Layout) (p : ProgressState) (a : Announcement) (o : ℕ) (x y : Option (List ℕ)) → Inner layout o → IfSome x (HeldAs layout true p a o) → Told (InPage layout o) x y → Told (Moves layout no_steps) x y
told_back_torn one layout p a o x y i h k = Told-with (HeldAs layout true p a o) (InPage layout o) (Moves layout no_steps) x y (λ u v hh kk. back_torn one layout p a o u v i hh kk) h k

pub told_out_moves : OneSide → (layout : Layout) (p : ProgressState) (a : Announcement) (o : ℕ) (x y z : Option (List ℕ)) → Inner layout o → IfSome x (HeldAs layout false p a o) → Told (OutOf layout o) x y → Told (Keeps (sides (progress_of layout))) y z → Told (OldOrThis layout (records.Upload a o true)) y z → Told (Moves layout no_steps) x z
told_out_moves one layout p a o x y z i h m ks either = told_chain (HeldAs layout false p a o) (OutOf layout o) (Keeps (sides (progress_of layout))) (OldOrThis layout (records.Upload a o true)) (Moves layout no_steps) x y z
    (λ u v w hh mm kk e. out_moves one layout p a o u v w i hh mm kk e) h m ks either

pub told_out_flags : OneSide → (layout : Layout) (p : ProgressState) (a : Announcement) (o : ℕ) (x y z : Option (List ℕ)) → Inner layout o → IfSome x (HeldAs layout false p a o) → Told (OutOf layout o) x y → Told (Keeps (sides (progress_of layout))) y z → IfSome z (HasRecord layout (records.Upload a o true)) → Told (Reflags layout true) x z
told_out_flags one layout p a o x y z i h m ks has = told_chain (HeldAs layout false p a o) (OutOf layout o) (Keeps (sides (progress_of layout))) (λ v w. HasRecord layout (records.Upload a o true) w) (Reflags layout true) x y z
    (λ u v w hh mm kk e. out_flags one layout p a o u v w i hh mm kk e) h m ks (told_last (Keeps (sides (progress_of layout))) (HasRecord layout (records.Upload a o true)) y z ks has)

pub told_back_moves : OneSide → (layout : Layout) (p : ProgressState) (a : Announcement) (o : ℕ) (x y z : Option (List ℕ)) → Inner layout o → IfSome x (HeldAs layout true p a o) → Told (BackTo layout o) x y → Told (Keeps (sides (progress_of layout))) y z → Told (OldOrThis layout (records.Upload a o false)) y z → Told (Moves layout no_steps) x z
told_back_moves one layout p a o x y z i h m ks either = told_chain (HeldAs layout true p a o) (BackTo layout o) (Keeps (sides (progress_of layout))) (OldOrThis layout (records.Upload a o false)) (Moves layout no_steps) x y z
    (λ u v w hh mm kk e. back_moves one layout p a o u v w i hh mm kk e) h m ks either

pub told_back_flags : OneSide → (layout : Layout) (p : ProgressState) (a : Announcement) (o : ℕ) (x y z : Option (List ℕ)) → Inner layout o → IfSome x (HeldAs layout true p a o) → Told (BackTo layout o) x y → Told (Keeps (sides (progress_of layout))) y z → IfSome z (HasRecord layout (records.Upload a o false)) → Told (Reflags layout false) x z
told_back_flags one layout p a o x y z i h m ks has = told_chain (HeldAs layout true p a o) (BackTo layout o) (Keeps (sides (progress_of layout))) (λ v w. HasRecord layout (records.Upload a o false) w) (Reflags layout false) x y z
    (λ u v w hh mm kk e. back_flags one layout p a o u v w i hh mm kk e) h m ks (told_last (Keeps (sides (progress_of layout))) (HasRecord layout (records.Upload a o false)) y z ks has)

pub told_back_clean : (layout : Layout) (o m : ℕ) (x y z : Option (List ℕ)) → Inner layout o → Told (BackTo layout o) x y → Told (Keeps (sides (progress_of layout))) y z → IfSome z (CleanFrom layout o m)
told_back_clean layout o m None None None i mm ks = tt
told_back_clean layout o m None None (Some w) i mm ks = absurd ks
told_back_clean layout o m None (Some v) z i mm ks = absurd mm
told_back_clean layout o m (Some u) None z i mm ks = absurd mm
told_back_clean layout o m (Some u) (Some v) None i mm ks = absurd ks
told_back_clean layout o m (Some u) (Some v) (Some w) i mm ks = back_clean layout o m v w i mm.clean ks
