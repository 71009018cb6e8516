-- What changes keep that are clear of a part of an image's regions.
use Rattle.std.proofs.Common.{◌≡◌, ℕ, ◌+◌, ◌-◌, ◌≤◌, false, Option, Some, None, List, [], ◌∷◌, length, ◌∙◌, ap, arith}
use Rattle.std.specs.Str.{bytes_eq}
use Rattle.smp_flash.specs.Area.{area, Clear, Keeps}
use Rattle.smp_flash.specs.Geometry.{slot_size, tail, Regular}
use Rattle.smp_flash.specs.Layout.{geometry_of, slot_of, progress_of}
use Rattle.smp_flash.specs.declared.layout.Layout.{Layout}
use Rattle.smp_flash.proofs.Places.{tail_last}
use Rattle.smp_flash.proofs.Sizes.{regular}
use Rattle.smp_gate.specs.Newest.{newest_generation, generation_by, AgesAtMost}
use Rattle.smp_model.specs.declared.device.Upload.{Upload}
use Rattle.smp_progress.specs.Record.{IsRecord}
use Rattle.smp_slot.specs.Marks.{is_flagged, is_marked, mark_by, trailer_magic}
use Rattle.smp_upload.specs.Bytes.{Clean, active_in, confirmed_in, pending_in, record_of}
use Rattle.smp_upload.proofs.Frames.{clear_in, newest_kept, slot_large, upload_within}

-- a part of what they are clear of is as before
part_same : (spots : List (ℕ × ℕ)) (at size p n : ℕ) (old new : List ℕ) → at ≤ p → p + n ≤ at + size → Clear spots at size → Keeps spots old new → area p n new ≡ area p n old
part_same spots at size p n old new a b c k = k.apart p n (clear_in spots at size p n a b c)

-- the primary slot
pub active_kept : (layout : Layout) (spots : List (ℕ × ℕ)) (old new : List ℕ) → Clear spots (slot_of layout 0).at (slot_size (geometry_of layout) - (geometry_of layout).page) → Keeps spots old new → active_in layout new ≡ active_in layout old
active_kept layout spots old new c k = k.apart (slot_of layout 0).at (slot_size (geometry_of layout) - (geometry_of layout).page) c

pub active_by : (layout : Layout) (spots : List (ℕ × ℕ)) (old new : List ℕ) → Clear spots (slot_of layout 0).at (slot_of layout 0).length → Keeps spots old new → active_in layout new ≡ active_in layout old
active_by layout spots old new c k =
    let s = slot_size (geometry_of layout) in
    let first = (slot_of layout 0).at in
    part_same spots first s first (s - (geometry_of layout).page) old new (omega arith) (omega arith) c k

pub confirmed_by : (layout : Layout) (spots : List (ℕ × ℕ)) (old new : List ℕ) → Clear spots (slot_of layout 0).at (slot_of layout 0).length → Keeps spots old new → confirmed_in layout new ≡ confirmed_in layout old
confirmed_by layout spots old new c k =
    let s = slot_size (geometry_of layout) in
    let first = (slot_of layout 0).at in
    let large : 24 ≤ s = slot_large layout in
    ap (λ (x : List ℕ). bytes_eq x (1 ∷ [])) (part_same spots first s (first + s - 24) 1 old new (omega arith) (omega arith) c k)

-- what is pending in the secondary slot
pub pending_by : (layout : Layout) (spots : List (ℕ × ℕ)) (old new : List ℕ) → Clear spots (slot_of layout 1).at (slot_of layout 1).length → Keeps spots old new → pending_in layout new ≡ pending_in layout old
pending_by layout spots old new c k =
    let s = slot_size (geometry_of layout) in
    let at = (slot_of layout 1).at in
    let large : 24 ≤ s = slot_large layout in
    let flag : is_flagged (slot_of layout 1) new ≡ is_flagged (slot_of layout 1) old = ap (λ (x : List ℕ). bytes_eq x (1 ∷ [])) (part_same spots at s (at + s - 24) 1 old new (omega arith) (omega arith) c k) in
    let mark : is_marked (slot_of layout 1) new ≡ is_marked (slot_of layout 1) old = ap (λ (x : List ℕ). bytes_eq x trailer_magic) (part_same spots at s (at + s - 16) 16 old new (omega arith) (omega arith) c k) in
    λ i. mark_by (mark i) (flag i)

-- what follows the accepted bytes there
pub clean_by : (layout : Layout) (up : Option Upload) (spots : List (ℕ × ℕ)) (old new : List ℕ) → IsRecord (geometry_of layout) (record_of false up) → Clear spots (slot_of layout 1).at (slot_of layout 1).length → Keeps spots old new → Clean layout up old → Clean layout up new
clean_by layout None spots old new l c k h = tt
clean_by layout (Some u) spots old new l c k h = λ below.
    let s = slot_size (geometry_of layout) in
    let at = (slot_of layout 1).at in
    let n = length u.accepted in
    let r : Regular (geometry_of layout) = regular (geometry_of layout) layout.lawful in
    let le : n ≤ s = upload_within layout false u l in
    let fits : n + tail (geometry_of layout).page n ≤ s = tail_last (geometry_of layout).page n s r.is_page r.slot_whole le in
    part_same spots at s (at + n) (tail (geometry_of layout).page n) old new (omega arith) (omega arith) c k ∙ h below

-- the generation of the record's bank
pub ages_clear : (layout : Layout) (n : ℕ) (spots : List (ℕ × ℕ)) (old new : List ℕ) → Clear spots (progress_of layout).first.at 4096 → Clear spots (progress_of layout).second.at 4096 → Keeps spots old new → AgesAtMost n (progress_of layout) old new
ages_clear layout n spots old new a b k =
    let e : newest_generation (progress_of layout) new ≡ newest_generation (progress_of layout) old = ap generation_by (newest_kept (progress_of layout) spots old new a b k) in
    record { kept = omega arith; most = omega arith }
