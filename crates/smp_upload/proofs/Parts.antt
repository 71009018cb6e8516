-- A part of a flash as bytes.
use Rattle.std.proofs.Common.{◌≡◌, ◌==◌, ℕ, zero, suc, ◌+◌, ◌<◌, ◌≤◌, List, [], ◌∷◌, length, take, drop, Option, Some, None, true, false, refl, ◌∙◌, sym, ap, subst, arith}
use Rattle.std.specs.Prelude.{IfSome}
use Rattle.std.specs.Option.{option_map}
use Rattle.smp_flash.specs.Area.{AreBytes, area, spot, Keeps}
use Rattle.smp_flash.specs.Calls.{Reads, Passes, Spends}
use Rattle.smp_flash.specs.State.{FlashState, End}
use Rattle.smp_flash.specs.State.End.{Went, WentOff, Failed}
use Rattle.smp_flash.specs.declared.flash.Operation.TheVariants.{Read}
use Rattle.smp_flash.proofs.Areas.{area-area, length-area, Keeps-refl}
use Rattle.smp_flash.proofs.Passing.{Calls-wider, Covers-within, read_Calls}
use Rattle.smp_flash.proofs.Telling.{Told-same}
use Rattle.smp_flash.specs.Calls.{Calls}
use Rattle.smp_flash.specs.Geometry.{slot_size}
use Rattle.smp_flash.specs.Layout.{geometry_of, slot_of, area_spot}
use Rattle.smp_flash.specs.declared.layout.Layout.{Layout}
use Rattle.smp_tlv.specs.State.{Looks}
use Rattle.smp_upload.specs.Reading.{part_state}

-- where it is told, it has its size
pub part_sized : (at size all : ℕ) (x : Option (List ℕ)) → at + size ≤ all → IfSome x (λ held. length held ≡ all) → IfSome (option_map (area at size) x) (λ held. length held ≡ size)
part_sized at size all None fits sized = tt
part_sized at size all (Some held) fits sized = length-area at size held (subst (λ k. at + size ≤ k) (sym sized) fits)

bytes-take : (n : ℕ) (xs : List ℕ) → AreBytes xs → AreBytes (take n xs)
bytes-take zero xs are i = omega arith
bytes-take (suc n) [] are i = omega arith
bytes-take (suc n) (x ∷ xs) are zero = are 0
bytes-take (suc n) (x ∷ xs) are (suc i) = bytes-take n xs (λ j. are (suc j)) i

bytes-drop : (n : ℕ) (xs : List ℕ) → AreBytes xs → AreBytes (drop n xs)
bytes-drop zero xs are = are
bytes-drop (suc n) [] are = are
bytes-drop (suc n) (x ∷ xs) are = bytes-drop n xs (λ j. are (suc j))

-- a part of bytes is bytes
pub part_bytes : (at size : ℕ) (x : Option (List ℕ)) → IfSome x AreBytes → IfSome (option_map (area at size) x) AreBytes
part_bytes at size None are = tt
part_bytes at size (Some held) are = bytes-take size (drop at held) (bytes-drop at held are)

-- what is read of a part of a part
pub part_read : (x : Option (List ℕ)) (at size p n : ℕ) (into : List ℕ) → p + n ≤ size → IfSome x (λ held. into ≡ area (at + p) n held)
    → IfSome (option_map (area at size) x) (λ held. into ≡ area p n held)
part_read None at size p n into fits read = tt
part_read (Some held) at size p n into fits read = read ∙ sym (area-area p n at size held fits)

same_geometry : (end : End) (a b : FlashState) → Passes end a b → b.geometry ≡ a.geometry
same_geometry Went a b passes = passes.geometry
same_geometry WentOff a b passes = passes.geometry
same_geometry (Failed operation) a b passes = passes.geometry

nothing_spent : (p q : Option ℕ) → Spends false p q → q ≡ p
nothing_spent None None s = refl
nothing_spent None (Some q) s = absurd s
nothing_spent (Some p) None s = absurd s
nothing_spent (Some p) (Some q) s = ap (λ (n : ℕ). Some n) s

pub not_empty : (n : ℕ) → (n == 0) ≡ false → 0 < n
not_empty zero e = absurd (let bad : true ≡ false = e in cc)
not_empty (suc n) e = omega arith

-- a read of the flash within the part is a look at the part
pub part_looks : (at size name p n : ℕ) (end : End) (a b : FlashState) → 0 < n → p + n ≤ size → Reads (at + p) n end a b → b.bytes ≡ a.bytes → Looks n end (part_state at size name a) (part_state at size name b)
part_looks at size name p n end a b some inside reads kept =
    let sizes = same_geometry end a b reads.passes in
    record {
      calls = Calls-wider (spot at size) (spot (at + p) n) end a b (Covers-within (at + p) n at size (omega arith) (omega arith))
          (read_Calls (at + p) n false n Read end a b some reads (Told-same (Keeps (spot (at + p) n)) a.bytes b.bytes (λ held. Keeps-refl (spot (at + p) n) held) kept));
      reads = reads.reads;
      unspent = λ went. nothing_spent a.patience b.patience (reads.spends went);
      held = ap (option_map (area at size)) kept;
      size = refl;
      start = refl;
      around = kept;
      beside = rw (sizes, kept) refl;
    }

-- a call on a front of the secondary slot
pub front_Calls : (layout : Layout) (at size : ℕ) (end : End) (a b : FlashState) → at ≡ (slot_of layout 1).at → size ≤ slot_size (geometry_of layout) → Calls (spot at size) end a b → Calls (area_spot (slot_of layout 1) ∷ []) end a b
front_Calls layout at size end a b is le calls =
    Calls-wider (area_spot (slot_of layout 1) ∷ []) (spot at size) end a b (Covers-within at size (slot_of layout 1).at (slot_size (geometry_of layout)) (omega (arith, is)) (omega (arith, is, le))) calls
