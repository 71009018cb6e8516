-- Bytes are added to the sums part by part.
use Rattle.std.proofs.Common.{◌≡◌, ℕ, ◌+◌, ◌-◌, ◌%◌, ◌≤◌, Bool, true, false, Option, Some, None, List, [], ◌++◌, refl, sym, ◌∙◌, ap, subst, arith, append_assoc}
use Rattle.std.proofs.lemmas.List.{append-nil}
use Rattle.std.specs.Prelude.{IfSome}
use Rattle.smp_flash.specs.Area.{area, spot}
use Rattle.smp_flash.specs.Calls.{Calls}
use Rattle.smp_flash.specs.Layout.{geometry_of, slot_of, scratch_of, upload_spots}
use Rattle.smp_flash.specs.Geometry.{slot_size}
use Rattle.smp_flash.specs.State.{FlashState, End}
use Rattle.smp_flash.specs.State.End.{Went}
use Rattle.smp_flash.specs.declared.layout.Layout.{Layout}
use Rattle.smp_flash.proofs.Areas.{area-add}
use Rattle.smp_flash.proofs.Passing.{Calls-after, Calls-wider, Covers-within}
use Rattle.smp_tlv.specs.Carried.{Carries}
use Rattle.smp_tlv.specs.declared.carried.Carried.{Carried}
use Rattle.smp_upload.specs.Bytes.{accepted_in}
use Rattle.smp_upload.specs.Summing.{Adds}

adds_more : (at m n : ℕ) (first mid last : Carried) (u : List ℕ) → Adds at m first mid u → Adds (at + m) n mid last u → Adds at (m + n) first last u
adds_more at m n first mid last u f g added c =
    subst (Carries last) (append_assoc added (area at m u) (area (at + m) n u) ∙ ap (λ (z : List ℕ). added ++ z) (sym (area-add at m n u))) (g (added ++ area at m u) (f added c))

pub told_more : (at m n : ℕ) (first mid last : Carried) (x y : Option (List ℕ)) → y ≡ x → IfSome x (Adds at m first mid) → IfSome y (Adds (at + m) n mid last) → IfSome x (Adds at (m + n) first last)
told_more at m n first mid last x y same f g = here x f (subst (λ (o : Option (List ℕ)). IfSome o (Adds (at + m) n mid last)) same g)
  where
    here : (x : Option (List ℕ)) → IfSome x (Adds at m first mid) → IfSome x (Adds (at + m) n mid last) → IfSome x (Adds at (m + n) first last)
    here None f g = tt
    here (Some u) f g = adds_more at m n first mid last u f g

pub block_Calls : (at size done n : ℕ) (end : End) (a b c : FlashState) → done + n ≤ size → Calls (spot at size) Went a b → Calls (spot (at + done) n) end b c → Calls (spot at size) end a c
block_Calls at size done n end a b c le f g = Calls-after (spot at size) end a b c f (Calls-wider (spot at size) (spot (at + done) n) end b c (Covers-within (at + done) n at size (omega arith) (omega arith)) g)

-- The accepted bytes, in the two places where they stand.
accepted_is : (layout : Layout) (rescue : Bool) (o front : ℕ) (u : List ℕ) → (rescue ≡ false → front ≡ o) → (rescue ≡ true → front ≡ o - o % (geometry_of layout).page)
    → area (slot_of layout 1).at front u ++ area (scratch_of layout).at (o - front) u ≡ accepted_in layout rescue o u
accepted_is layout false o front u plain moved =
    let at = (slot_of layout 1).at in
    let scratch = (scratch_of layout).at in
    let e : front ≡ o = plain refl in
    let none : o - o ≡ 0 = omega arith in
    (λ i. area at (e i) u ++ area scratch (o - e i) u) ∙ ap (λ (k : ℕ). area at o u ++ area scratch k u) none ∙ append-nil (area at o u)
accepted_is layout true o front u plain moved =
    let at = (slot_of layout 1).at in
    let scratch = (scratch_of layout).at in
    let page = (geometry_of layout).page in
    let e : front ≡ o - o % page = moved refl in
    let rest : o - (o - o % page) ≡ o % page = (let le : o % page ≤ o = omega arith in omega arith) in
    (λ i. area at (e i) u ++ area scratch (o - e i) u) ∙ ap (λ (k : ℕ). area at (o - o % page) u ++ area scratch k u) rest

pub told_summed : (layout : Layout) (rescue : Bool) (o front at scratch : ℕ) (empty mid last : Carried) (x y : Option (List ℕ)) → at ≡ (slot_of layout 1).at → scratch ≡ (scratch_of layout).at → (rescue ≡ false → front ≡ o) → (rescue ≡ true → front ≡ o - o % (geometry_of layout).page)
    → Carries empty [] → y ≡ x → IfSome x (Adds at front empty mid) → IfSome y (Adds scratch (o - front) mid last) → IfSome x (λ held. Carries last (accepted_in layout rescue o held))
told_summed layout rescue o front at scratch empty mid last x y from behind plain moved c same f g = here x f (subst (λ (p : Option (List ℕ)). IfSome p (Adds scratch (o - front) mid last)) same g)
  where
    here : (x : Option (List ℕ)) → IfSome x (Adds at front empty mid) → IfSome x (Adds scratch (o - front) mid last) → IfSome x (λ held. Carries last (accepted_in layout rescue o held))
    here None f g = tt
    here (Some u) f g =
        subst (Carries last) ((λ i. area (from i) front u ++ area (behind i) (o - front) u) ∙ accepted_is layout rescue o front u plain moved) (g (area at front u) (f [] c))

-- reads of the two places
pub slot_part_Calls : (layout : Layout) (at n : ℕ) (end : End) (a b : FlashState) → at ≡ (slot_of layout 1).at → n ≤ slot_size (geometry_of layout) → Calls (spot at n) end a b → Calls (upload_spots layout) end a b
slot_part_Calls layout at n end a b is le calls =
    let s = slot_size (geometry_of layout) in
    Calls-wider (upload_spots layout) (spot at n) end a b (Covers-within at n (slot_of layout 1).at (s + 8192 + (geometry_of layout).page) (omega (arith, is)) (omega (arith, is, le))) calls

pub scratch_part_Calls : (layout : Layout) (at n : ℕ) (end : End) (a b : FlashState) → at ≡ (scratch_of layout).at → n ≤ (geometry_of layout).page → Calls (spot at n) end a b → Calls (upload_spots layout) end a b
scratch_part_Calls layout at n end a b is le calls =
    let s = slot_size (geometry_of layout) in
    Calls-wider (upload_spots layout) (spot at n) end a b (Covers-within at n (slot_of layout 1).at (s + 8192 + (geometry_of layout).page) (omega (arith, is)) (omega (arith, is, le))) calls
