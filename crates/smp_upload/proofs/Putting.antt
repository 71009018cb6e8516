-- A record is put: what the bytes stand for before and after.
use Rattle.std.proofs.Common.{◌≡◌, ◌⊎◌, inl, inr, ℕ, ◌+◌, ◌-◌, ◌*◌, ◌≤◌, Bool, Option, None, List, sym, ◌∙◌, subst, arith}
use Rattle.std.specs.Prelude.{IfSome}
use Rattle.smp_flash.specs.Area.{Clear, Keeps, Told}
use Rattle.smp_flash.specs.Calls.{Calls}
use Rattle.smp_flash.specs.Geometry.{slot_size, Regular}
use Rattle.smp_flash.specs.Layout.{geometry_of, slot_of, progress_of, scratch_of, upload_spots}
use Rattle.smp_flash.specs.State.{FlashState, End}
use Rattle.smp_flash.specs.declared.layout.Layout.{Layout}
use Rattle.smp_flash.proofs.Passing.{Calls-wider, Covers-two}
use Rattle.smp_flash.proofs.Sizes.{regular}
use Rattle.smp_flash.proofs.Telling.{Told-map}
use Rattle.smp_gate.specs.Newest.{sides}
use Rattle.smp_model.specs.declared.device.Side.{Side}
use Rattle.smp_model.specs.declared.device.Upload.{Upload}
use Rattle.smp_model.specs.declared.upload.Mark.{Mark}
use Rattle.smp_model.specs.Laws.{GoodWhere}
use Rattle.smp_model.specs.Sides.{SideStep, SidePart}
use Rattle.smp_progress.specs.Cells.{HasRecord, OldOrThis}
use Rattle.smp_progress.specs.Record.{IsRecord}
use Rattle.smp_progress.specs.declared.record.Record.{Record}
use Rattle.smp_upload.specs.Bytes.{SideStandsAs, SideStands, Accepts, record_of}
use Rattle.smp_upload.specs.Moves.{Reached, KeepsPending}
use Rattle.smp_upload.proofs.Composing.{part_none}
use Rattle.smp_upload.proofs.Frames.{Fixed, fixed_by, as_same, accepts_kept, record_same, lawful}

pub good_free : (mark : Option Mark) (up : Option Upload) → mark ≡ None → GoodWhere mark up
good_free mark up e = subst (λ (m : Option Mark). GoodWhere m up) (sym e) tt

-- another upload
pub as_after : (layout : Layout) (r s : Bool) (side : Side) (up : Option Upload) (old new : List ℕ) → Fixed layout old new → SideStandsAs layout r side old
    → HasRecord layout (record_of s up) new → Accepts layout s up new → GoodWhere side.pending up → SideStandsAs layout s (record side { upload = up }) new
as_after layout r s side up old new f h entry accepts good = record {
  active = h.active ∙ sym f.active;
  runs = h.runs;
  confirmed = h.confirmed ∙ sym f.confirmed;
  entry = entry;
  accepts = accepts;
  pending = h.pending ∙ sym f.pending;
  good = good;
}

-- the bank's sides are clear of all else
pub sides_clear : (layout : Layout) (p n : ℕ) → (p + n ≤ (progress_of layout).first.at) ⊎ ((progress_of layout).first.at + 8192 ≤ p) → Clear (sides (progress_of layout)) p n
sides_clear layout p n either = elim either [
  | inl before ↦ (inl (omega arith), (inl (omega arith), tt))
  | inr after ↦ (inr (omega arith), (inr (omega arith), tt))
]

pub fixed_sides : (layout : Layout) (old new : List ℕ) → Keeps (sides (progress_of layout)) old new → Fixed layout old new
fixed_sides layout old new k =
    let s = slot_size (geometry_of layout) in
    let page = (geometry_of layout).page in
    let r : Regular (geometry_of layout) = regular (geometry_of layout) layout.lawful in
    let least : 4 * page ≤ s = r.slot_least in
    fixed_by layout (sides (progress_of layout)) old new (sides_clear layout (slot_of layout 0).at s (inl (omega arith))) (sides_clear layout ((slot_of layout 1).at + (s - page)) page (inl (omega arith))) k

pub accepts_sides : (layout : Layout) (rescue : Bool) (up : Option Upload) (old new : List ℕ) → IsRecord (geometry_of layout) (record_of rescue up) → Keeps (sides (progress_of layout)) old new
    → Accepts layout rescue up old → Accepts layout rescue up new
accepts_sides layout rescue up old new l k h =
    let s = slot_size (geometry_of layout) in
    accepts_kept layout rescue up (sides (progress_of layout)) old new l (sides_clear layout (slot_of layout 1).at s (inl (omega arith))) (sides_clear layout (scratch_of layout).at (geometry_of layout).page (inr (omega arith))) k h

pub pending_sides : (layout : Layout) (old new : List ℕ) → Keeps (sides (progress_of layout)) old new → KeepsPending layout old new
pending_sides layout old new k =
    let s = slot_size (geometry_of layout) in
    record { kept = λ is. k.apart (slot_of layout 1).at s (sides_clear layout (slot_of layout 1).at s (inl (omega arith))); still = λ is. (fixed_sides layout old new k).pending }

-- a put, whatever it answered: the side is as before, or has the other upload
pub put_reached : (layout : Layout) (side : Side) (steps : List SideStep) (s : Bool) (up : Option Upload) (old new : List ℕ) → SideStands layout side old → Keeps (sides (progress_of layout)) old new
    → OldOrThis layout (record_of s up) old new → Accepts layout s up new → GoodWhere side.pending up → SidePart side steps (record side { upload = up }) → Reached layout side steps new
put_reached layout side steps s up old new st k either accepts good part = elim either [
  | inl same ↦ record {
    reached = side;
    part = part_none side steps;
    stands = record {
      rescue = st.rescue;
      stands = as_same layout st.rescue st.rescue side old new (fixed_sides layout old new k) st.stands (record_same layout (record_of st.rescue side.upload) old new same st.stands.entry)
          (accepts_sides layout st.rescue side.upload old new (lawful layout (record_of st.rescue side.upload) old st.stands.entry) k st.stands.accepts);
    };
  }
  | inr this ↦ record {
    reached = record side { upload = up };
    part = part;
    stands = record { rescue = s; stands = as_after layout st.rescue s side up old new (fixed_sides layout old new k) st.stands this accepts good };
  }
]

-- its operations begin within the upload's regions
pub sides_Calls : (layout : Layout) (end : End) (a b : FlashState) → Calls (sides (progress_of layout)) end a b → Calls (upload_spots layout) end a b
sides_Calls layout end a b =
    let s = slot_size (geometry_of layout) in
    let at = (progress_of layout).first.at in
    Calls-wider (upload_spots layout) (sides (progress_of layout)) end a b (Covers-two at 4096 (at + 4096) 4096 (slot_of layout 1).at (s + 8192 + (geometry_of layout).page) (omega arith) (omega arith) (omega arith) (omega arith))

pub told_pending_sides : (layout : Layout) (x y : Option (List ℕ)) → Told (Keeps (sides (progress_of layout))) x y → Told (KeepsPending layout) x y
told_pending_sides layout x y k = Told-map (Keeps (sides (progress_of layout))) (KeepsPending layout) x y (pending_sides layout) k

pub either_of : (layout : Layout) (e f : Record) (x y : Option (List ℕ)) → e ≡ f → Told (OldOrThis layout e) x y → Told (OldOrThis layout f) x y
either_of layout e f x y is t = subst (λ (r : Record). Told (OldOrThis layout r) x y) is t

pub holds_of : (layout : Layout) (e f : Record) (y : Option (List ℕ)) → e ≡ f → IfSome y (HasRecord layout e) → IfSome y (HasRecord layout f)
holds_of layout e f y is t = subst (λ (r : Record). IfSome y (HasRecord layout r)) is t
