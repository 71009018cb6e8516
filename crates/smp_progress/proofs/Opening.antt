-- A body that was read and what its cells make of it are the record that the bank holds, or there is none.
use Rattle.std.proofs.Common.{◌≡◌, ℕ, ◌≤◌, ◌^◌, Option, Some, None, List, refl, sym, ◌∙◌, ap, subst}
use Rattle.std.specs.Option.{option_map}
use Rattle.std.specs.Prelude.{IfSome, IsErrOf, Err}
use Rattle.smp_flash.specs.Geometry.{slot_size}
use Rattle.smp_flash.specs.Layout.{geometry_of, image_of, progress_of}
use Rattle.smp_flash.specs.declared.layout.BankPlace.{BankPlace}
use Rattle.smp_flash.specs.declared.layout.Layout.{Layout}
use Rattle.smp_gate.specs.Newest.{Content, content_of, HasBody}
use Rattle.smp_gate.specs.declared.fault.BankFault.{BankFault}
use Rattle.smp_progress.specs.Cells.{cell_length, After, HasRecord, CellsGive, NoCellsGive}
use Rattle.smp_progress.specs.Record.{IsRecord, IsBody}
use Rattle.smp_progress.specs.declared.record.Record.{Record}
use Rattle.smp_progress.proofs.Records.{one_body}

-- a content with a body
record Found (o : Option Content) (body : List ℕ) : Type 0 where
  content : Content
  is : o ≡ Some content
  body_is : content.body ≡ body

found : (o : Option Content) (body : List ℕ) → option_map (λ (c : Content). c.body) o ≡ Some body → Found o body
found None body e = absurd (cc e)
found (Some c) body e = record { content = c; is = refl; body_is = cc e }

some_same : (x y : Content) → Some x ≡ Some y → x ≡ y
some_same x y e = cc e

opened_on : (layout : Layout) (first entry : Record) (body bytes : List ℕ) → IsBody (image_of layout) first body → IsRecord (geometry_of layout) first
    → HasBody (progress_of layout) cell_length body bytes → CellsGive layout first entry bytes → HasRecord layout entry bytes
opened_on layout first entry body bytes is l has gives =
    let f = found (content_of (progress_of layout) cell_length bytes) body has in
    record {
      content = f.content;
      held = f.is;
      gives = record { first = first; body = subst (IsBody (image_of layout) first) (sym f.body_is) is; lawful = l; cells = gives f.content f.is };
    }

none_on : (layout : Layout) (first entry : Record) (body bytes : List ℕ) → slot_size (geometry_of layout) ≤ 2 ^ 22 → IsBody (image_of layout) first body → IsRecord (geometry_of layout) first
    → HasBody (progress_of layout) cell_length body bytes → NoCellsGive layout first bytes → HasRecord layout entry bytes → ⊥
none_on layout first entry body bytes le is l has none held =
    let f = found (content_of (progress_of layout) cell_length bytes) body has in
    let same : f.content ≡ held.content = some_same f.content held.content (sym f.is ∙ held.held) in
    let own : IsBody (image_of layout) held.gives.first body = subst (IsBody (image_of layout) held.gives.first) (ap (λ (c : Content). c.body) (sym same) ∙ f.body_is) held.gives.body in
    let one : held.gives.first ≡ first = one_body (geometry_of layout) (image_of layout) held.gives.first first body le held.gives.lawful l own is in
    none held.content held.held entry (subst (λ (r : Record). After (geometry_of layout) r held.content.cells entry) one held.gives.cells)

-- where the bytes may not be told
pub opened : (layout : Layout) (first entry : Record) (body items : List ℕ) (place : BankPlace) (x y : Option (List ℕ)) → place ≡ progress_of layout → body ≡ items
    → IsBody (image_of layout) first body → IsRecord (geometry_of layout) first → IfSome x (HasBody place 8 items) → IfSome x (CellsGive layout first entry) → y ≡ x → IfSome y (HasRecord layout entry)
opened layout first entry body items place x y at same is l has gives kept = subst (λ (o : Option (List ℕ)). IfSome o (HasRecord layout entry)) (sym kept) (go x has gives)
  where
    go : (o : Option (List ℕ)) → IfSome o (HasBody place 8 items) → IfSome o (CellsGive layout first entry) → IfSome o (HasRecord layout entry)
    go None h k = tt
    go (Some bytes) h k = opened_on layout first entry items bytes (subst (IsBody (image_of layout) first) same is) l (subst (λ (q : BankPlace). HasBody q 8 items bytes) at h) k

pub none_opened : (layout : Layout) (first : Record) (body items : List ℕ) (place : BankPlace) (x y : Option (List ℕ)) → slot_size (geometry_of layout) ≤ 2 ^ 22 → place ≡ progress_of layout → body ≡ items
    → IsBody (image_of layout) first body → IsRecord (geometry_of layout) first → IfSome x (HasBody place 8 items) → IfSome x (NoCellsGive layout first) → y ≡ x
    → IfSome y (λ held. (entry : Record) → HasRecord layout entry held → ⊥)
none_opened layout first body items place x y le at same is l has none kept =
    subst (λ (o : Option (List ℕ)). IfSome o (λ held. (entry : Record) → HasRecord layout entry held → ⊥)) (sym kept) (go x has none)
  where
    go : (o : Option (List ℕ)) → IfSome o (HasBody place 8 items) → IfSome o (NoCellsGive layout first) → IfSome o (λ held. (entry : Record) → HasRecord layout entry held → ⊥)
    go None h k = tt
    go (Some bytes) h k = λ entry held.
        none_on layout first entry items bytes le (subst (IsBody (image_of layout) first) same is) l (subst (λ (q : BankPlace). HasBody q 8 items bytes) at h) k held

-- a body that is of no record
pub none_read : (layout : Layout) (body items : List ℕ) (place : BankPlace) (x : Option (List ℕ)) → place ≡ progress_of layout → body ≡ items
    → ((entry : Record) → IsRecord (geometry_of layout) entry → IsBody (image_of layout) entry body → ⊥) → IfSome x (HasBody place 8 items)
    → IfSome x (λ held. (entry : Record) → HasRecord layout entry held → ⊥)
none_read layout body items place None at same none has = tt
none_read layout body items place (Some bytes) at same none has = λ entry held.
    let f = found (content_of (progress_of layout) cell_length bytes) items (subst (λ (q : BankPlace). HasBody q 8 items bytes) at has) in
    let one : f.content ≡ held.content = some_same f.content held.content (sym f.is ∙ held.held) in
    let own : IsBody (image_of layout) held.gives.first items = subst (IsBody (image_of layout) held.gives.first) (ap (λ (c : Content). c.body) (sym one) ∙ f.body_is) held.gives.body in
    none held.gives.first held.gives.lawful (subst (IsBody (image_of layout) held.gives.first) (sym same) own)

pub not_some : {T : Type 0} (o : Option T) → ((x : T) → o ≡ Some x → ⊥) → o ≡ None
not_some None none = refl
not_some (Some x) none = absurd (none x refl)

-- a fault is the same with any other value beside it
pub err_again : {T U : Type 0} (x y : BankFault) → IsErrOf {T = T} {E = BankFault} (Err x) y → IsErrOf {T = U} {E = BankFault} (Err x) y
err_again x y is = let e : x ≡ y = cc is in ap Err e
