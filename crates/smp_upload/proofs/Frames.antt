-- Changes that keep clear of a side keep what the bytes stand for.
use Rattle.std.proofs.Common.{◌≡◌, inl, inr, ℕ, ◌+◌, ◌-◌, ◌*◌, ◌%◌, ◌<◌, ◌≤◌, Bool, true, false, Option, Some, None, List, [], ◌∷◌, ◌++◌, length, sym, ◌∙◌, ap, subst, arith}
use Rattle.std.specs.Str.{bytes_eq}
use Rattle.smp_flash.specs.Area.{area, Clear, Keeps}
use Rattle.smp_flash.specs.Geometry.{slot_size, tail, Regular, IsPage}
use Rattle.smp_flash.specs.Layout.{geometry_of, slot_of, progress_of, scratch_of}
use Rattle.smp_flash.specs.declared.layout.BankPlace.{BankPlace}
use Rattle.smp_flash.specs.declared.layout.Layout.{Layout}
use Rattle.smp_flash.proofs.Places.{page_small, tail_last}
use Rattle.smp_flash.proofs.Sizes.{regular, each_page}
use Rattle.smp_gate.specs.Newest.{content_of, content_in, newest_side, newest, newer}
use Rattle.smp_gate.specs.Side.{valid_side}
use Rattle.smp_model.specs.declared.device.Side.{Side}
use Rattle.smp_model.specs.declared.device.Upload.{Upload}
use Rattle.smp_progress.specs.Cells.{HasRecord, After, cell_length}
use Rattle.smp_progress.specs.Record.{IsRecord}
use Rattle.smp_progress.specs.State.{ProgressState, ProgressSays}
use Rattle.smp_progress.specs.declared.record.Record.{Record}
use Rattle.smp_progress.specs.declared.record.Record.TheVariants as records
use Rattle.smp_flash.specs.declared.geometry.Geometry.{Geometry}
use Rattle.smp_slot.specs.Marks.{is_flagged, is_marked, mark_by, trailer_magic}
use Rattle.smp_upload.specs.Bytes.{Apart, SideStandsAs, SideStands, Accepts, Clean, accepted_in, active_in, confirmed_in, pending_in, record_of}
use Rattle.smp_upload.specs.States.{Known, Says}

-- what the crate below promises of a record's value
abbrev pub ProgressLasts : Type 0
ProgressLasts = (p : ProgressState) (spots : List (ℕ × ℕ)) (old new : List ℕ) → Clear spots (progress_of p.layout).first.at 4096
    → Clear spots (progress_of p.layout).second.at 4096 → Keeps spots old new → ProgressSays p old → ProgressSays p new

-- a part of what is clear
pub clear_in : (spots : List (ℕ × ℕ)) (at size p n : ℕ) → at ≤ p → p + n ≤ at + size → Clear spots at size → Clear spots p n
clear_in [] at size p n a b c = tt
clear_in (s ∷ spots) at size p n a b c = ((elim c.0 [ inl before ↦ inl (omega arith) | inr after ↦ inr (omega arith) ]), clear_in spots at size p n a b c.1)

part_kept : (spots : List (ℕ × ℕ)) (at size p n : ℕ) (old new : List ℕ) → at ≤ p → p + n ≤ at + size → Clear spots at size → Keeps spots old new → area p n new ≡ area p n old
part_kept spots at size p n old new a b c k = k.apart p n (clear_in spots at size p n a b c)

pub newest_kept : (place : BankPlace) (spots : List (ℕ × ℕ)) (old new : List ℕ) → Clear spots place.first.at 4096 → Clear spots place.second.at 4096 → Keeps spots old new → newest_side place new ≡ newest_side place old
newest_kept place spots old new a b k =
    let first = k.apart place.first.at 4096 a in
    let second = k.apart place.second.at 4096 b in
    λ i. newest (valid_side (first i)) (valid_side (second i))

pub content_kept : (place : BankPlace) (spots : List (ℕ × ℕ)) (old new : List ℕ) → Clear spots place.first.at 4096 → Clear spots place.second.at 4096 → Keeps spots old new → content_of place cell_length new ≡ content_of place cell_length old
content_kept place spots old new a b k =
    let first = k.apart place.first.at 4096 a in
    let second = k.apart place.second.at 4096 b in
    λ i. content_in cell_length (newer (valid_side (first i)) (valid_side (second i)) (first i) (second i))

pub record_same : (layout : Layout) (x : Record) (old new : List ℕ) → content_of (progress_of layout) cell_length new ≡ content_of (progress_of layout) cell_length old → HasRecord layout x old → HasRecord layout x new
record_same layout x old new e h = record { content = h.content; held = e ∙ h.held; gives = h.gives }

pub record_kept : (layout : Layout) (x : Record) (spots : List (ℕ × ℕ)) (old new : List ℕ) → Clear spots (progress_of layout).first.at 4096 → Clear spots (progress_of layout).second.at 4096 → Keeps spots old new → HasRecord layout x old → HasRecord layout x new
record_kept layout x spots old new a b k h = record_same layout x old new (content_kept (progress_of layout) spots old new a b k) h

-- the record that cells make of a lawful one is lawful
after_lawful : (g : Geometry) (first : Record) (cells : List (List ℕ)) (last : Record) → IsRecord g first → After g first cells last → IsRecord g last
after_lawful g first [] last l h = subst (IsRecord g) (sym h) l
after_lawful g records.None (cell ∷ cells) last l h = absurd h
after_lawful g (records.Upload a offset rescue) (cell ∷ cells) last l h = after_lawful g (records.Upload a h.0.offset h.0.rescue) cells last h.0.lawful h.1

pub lawful : (layout : Layout) (x : Record) (bytes : List ℕ) → HasRecord layout x bytes → IsRecord (geometry_of layout) x
lawful layout x bytes h = after_lawful (geometry_of layout) h.gives.first h.content.cells x h.gives.lawful h.gives.cells

accepted_kept : (layout : Layout) (rescue : Bool) (n : ℕ) (spots : List (ℕ × ℕ)) (old new : List ℕ) → n ≤ slot_size (geometry_of layout) → Clear spots (slot_of layout 1).at (slot_of layout 1).length
    → Clear spots (scratch_of layout).at (scratch_of layout).length → Keeps spots old new → accepted_in layout rescue n new ≡ accepted_in layout rescue n old
accepted_kept layout false n spots old new le a b k =
    let at = (slot_of layout 1).at in
    part_kept spots at (slot_of layout 1).length at n old new (omega arith) (omega arith) a k
accepted_kept layout true n spots old new le a b k =
    let at = (slot_of layout 1).at in
    let page = (geometry_of layout).page in
    let r : Regular (geometry_of layout) = regular (geometry_of layout) layout.lawful in
    let small : n % page < page = page_small page n r.is_page in
    let front = part_kept spots at (slot_of layout 1).length at (n - n % page) old new (omega arith) (omega arith) a k in
    let rest = part_kept spots (scratch_of layout).at page (scratch_of layout).at (n % page) old new (omega arith) (omega arith) b k in
    λ i. front i ++ rest i

pub upload_within : (layout : Layout) (rescue : Bool) (u : Upload) → IsRecord (geometry_of layout) (record_of rescue (Some u)) → length u.accepted ≤ slot_size (geometry_of layout)
upload_within layout rescue u l =
    let most = l.most in
    let within = l.within in omega arith

-- accepted bytes outlast what is clear of the secondary slot and the scratch page
pub accepts_kept : (layout : Layout) (rescue : Bool) (up : Option Upload) (spots : List (ℕ × ℕ)) (old new : List ℕ) → IsRecord (geometry_of layout) (record_of rescue up) → Clear spots (slot_of layout 1).at (slot_of layout 1).length
    → Clear spots (scratch_of layout).at (scratch_of layout).length → Keeps spots old new → Accepts layout rescue up old → Accepts layout rescue up new
accepts_kept layout rescue None spots old new l a b k h = tt
accepts_kept layout rescue (Some u) spots old new l a b k h = h ∙ sym (accepted_kept layout rescue (length u.accepted) spots old new (upload_within layout rescue u l) a b k)

large_by : (page s : ℕ) → IsPage page → 4 * page ≤ s → 24 ≤ s
large_by page s is le = each_page (λ p. 4 * p ≤ s → 24 ≤ s) (λ l. omega arith) (λ l. omega arith) (λ l. omega arith) (λ l. omega arith) page is le

pub slot_large : (layout : Layout) → 24 ≤ slot_size (geometry_of layout)
slot_large layout = let r = regular (geometry_of layout) layout.lawful in large_by (geometry_of layout).page (slot_size (geometry_of layout)) r.is_page r.slot_least

-- All that a side says beside its upload is as before.
pub record Fixed (layout : Layout) (old new : List ℕ) : Type 0 where
  pub active : active_in layout new ≡ active_in layout old
  pub confirmed : confirmed_in layout new ≡ confirmed_in layout old
  pub pending : pending_in layout new ≡ pending_in layout old

-- the spots are clear of the primary slot and of the secondary one's last page
pub fixed_by : (layout : Layout) (spots : List (ℕ × ℕ)) (old new : List ℕ) → Clear spots (slot_of layout 0).at (slot_of layout 0).length
    → Clear spots ((slot_of layout 1).at + (slot_size (geometry_of layout) - (geometry_of layout).page)) (geometry_of layout).page → Keeps spots old new → Fixed layout old new
fixed_by layout spots old new a b k =
    let s = slot_size (geometry_of layout) in
    let first = (slot_of layout 0).at in
    let second = (slot_of layout 1).at in
    let page = (geometry_of layout).page in
    let r : Regular (geometry_of layout) = regular (geometry_of layout) layout.lawful in
    let least : 4 * page ≤ s = r.slot_least in
    let some : 512 ≤ page = each_page (λ p. 512 ≤ p) (omega arith) (omega arith) (omega arith) (omega arith) page r.is_page in
    let active : active_in layout new ≡ active_in layout old = part_kept spots first s first (s - page) old new (omega arith) (omega arith) a k in
    let flag0 : is_flagged (slot_of layout 0) new ≡ is_flagged (slot_of layout 0) old = ap (λ (x : List ℕ). bytes_eq x (1 ∷ [])) (part_kept spots first s (first + s - 24) 1 old new (omega arith) (omega arith) a k) in
    let flag1 : is_flagged (slot_of layout 1) new ≡ is_flagged (slot_of layout 1) old = ap (λ (x : List ℕ). bytes_eq x (1 ∷ [])) (part_kept spots (second + (s - page)) page (second + s - 24) 1 old new (omega arith) (omega arith) b k) in
    let mark : is_marked (slot_of layout 1) new ≡ is_marked (slot_of layout 1) old = ap (λ (x : List ℕ). bytes_eq x trailer_magic) (part_kept spots (second + (s - page)) page (second + s - 16) 16 old new (omega arith) (omega arith) b k) in
    record { active = active; confirmed = flag0; pending = λ i. mark_by (mark i) (flag1 i) }

-- the same upload, by a record with this flag
pub as_same : (layout : Layout) (r s : Bool) (side : Side) (old new : List ℕ) → Fixed layout old new → SideStandsAs layout r side old
    → HasRecord layout (record_of s side.upload) new → Accepts layout s side.upload new → SideStandsAs layout s side new
as_same layout r s side old new f h entry accepts = record {
  active = h.active ∙ sym f.active;
  runs = h.runs;
  confirmed = h.confirmed ∙ sym f.confirmed;
  entry = entry;
  accepts = accepts;
  pending = h.pending ∙ sym f.pending;
  good = h.good;
}

slot_end : (layout : Layout) (spots : List (ℕ × ℕ)) → Clear spots (slot_of layout 1).at (slot_of layout 1).length → Clear spots ((slot_of layout 1).at + (slot_size (geometry_of layout) - (geometry_of layout).page)) (geometry_of layout).page
slot_end layout spots c =
    let s = slot_size (geometry_of layout) in
    let at = (slot_of layout 1).at in
    let r : Regular (geometry_of layout) = regular (geometry_of layout) layout.lawful in
    let least = r.slot_least in
    clear_in spots at s (at + (s - (geometry_of layout).page)) (geometry_of layout).page (omega arith) (omega arith) c

as_kept : (layout : Layout) (rescue : Bool) (side : Side) (spots : List (ℕ × ℕ)) (old new : List ℕ) → Apart layout spots → Keeps spots old new → SideStandsAs layout rescue side old → SideStandsAs layout rescue side new
as_kept layout rescue side spots old new a k h =
    as_same layout rescue rescue side old new (fixed_by layout spots old new a.slot_0 (slot_end layout spots a.slot_1) k) h
    (record_kept layout (record_of rescue side.upload) spots old new a.first a.second k h.entry)
    (accepts_kept layout rescue side.upload spots old new (lawful layout (record_of rescue side.upload) old h.entry) a.slot_1 a.scratch k h.accepts)

pub stand_outlast : (layout : Layout) (side : Side) (spots : List (ℕ × ℕ)) (old new : List ℕ) → Apart layout spots → Keeps spots old new → SideStands layout side old → SideStands layout side new
stand_outlast layout side spots old new a k h = record { rescue = h.rescue; stands = as_kept layout h.rescue side spots old new a k h.stands }

clean_kept : (layout : Layout) (up : Option Upload) (spots : List (ℕ × ℕ)) (old new : List ℕ) → IsRecord (geometry_of layout) (record_of false up) → Apart layout spots → Keeps spots old new → Clean layout up old → Clean layout up new
clean_kept layout None spots old new l a k h = tt
clean_kept layout (Some u) spots old new l a k h = λ below.
    let s = slot_size (geometry_of layout) in
    let at = (slot_of layout 1).at in
    let n = length u.accepted in
    let r : Regular (geometry_of layout) = regular (geometry_of layout) layout.lawful in
    let le : n ≤ s = upload_within layout false u l in
    let fits : n + tail (geometry_of layout).page n ≤ s = tail_last (geometry_of layout).page n s r.is_page r.slot_whole le in
    part_kept spots at s (at + n) (tail (geometry_of layout).page n) old new (omega arith) (omega arith) a.slot_1 k ∙ h below

pub progress_kept : ProgressLasts → (layout : Layout) (p : ProgressState) (spots : List (ℕ × ℕ)) (old new : List ℕ) → p.layout ≡ layout → Clear spots (progress_of layout).first.at 4096 → Clear spots (progress_of layout).second.at 4096 → Keeps spots old new → ProgressSays p old → ProgressSays p new
progress_kept lasts layout p spots old new is a b k says =
    lasts p spots old new (subst (λ (l : Layout). Clear spots (progress_of l).first.at 4096) (sym is) a) (subst (λ (l : Layout). Clear spots (progress_of l).second.at 4096) (sym is) b) k says

pub say_outlast : ProgressLasts → (known : Known) (spots : List (ℕ × ℕ)) (old new : List ℕ) → Apart known.layout spots → Keeps spots old new → Says known old → Says known new
say_outlast lasts known spots old new a k h = record {
  side = h.side;
  shows = record {
    stands = as_kept known.layout false h.side spots old new a k h.shows.stands;
    settled = h.shows.settled;
    clean = clean_kept known.layout h.side.upload spots old new (lawful known.layout (record_of false h.side.upload) old h.shows.stands.entry) a k h.shows.clean;
  };
  knows = h.knows;
  record_says = progress_kept lasts known.layout known.entry spots old new h.place a.first a.second k h.record_says;
  place = h.place;
}
