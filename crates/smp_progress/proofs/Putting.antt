-- What a record that is put leaves of the bank.
use Rattle.std.proofs.Common.{◌≡◌, inl, inr, ℕ, ◌+◌, Bool, true, false, Option, Some, None, List, [], ◌∷◌, ◌++◌, refl, sym, ◌∙◌, ap, subst, arith, ◌==◌}
use Rattle.std.specs.Prelude.{◌&&◌, IfSome, IsTrue, OnOk, Result, Ok, Err}
use Rattle.std.specs.Str.{bytes_eq}
use Rattle.std.proofs.lemmas.Bool.Decides.{nat_tests}
use Rattle.std.proofs.lemmas.Slice.Eq.{bytes_eq-Decides}
use Rattle.smp_flash.specs.Area.{Told}
use Rattle.smp_flash.specs.Layout.{geometry_of, image_of, progress_of}
use Rattle.smp_flash.specs.declared.geometry.Geometry.{Geometry}
use Rattle.smp_flash.specs.declared.layout.Layout.{Layout}
use Rattle.smp_flash.specs.declared.layout.BankPlace.{BankPlace}
use Rattle.smp_flash.proofs.Telling.{Told-with, Told-map, Told-after}
use Rattle.smp_gate.specs.Newest.{just, content_of, Added, OldOrNew, SameOrAdded, SameOrThis}
use Rattle.smp_model.specs.declared.upload.Announcement.{Announcement}
use Rattle.smp_progress.specs.Cells.{cell_length, entry_cell, After, HasRecord, OldOrThis, equal_digests, same_announcement, continues}
use Rattle.smp_progress.specs.Record.{record_bytes, IsRecord}
use Rattle.smp_gate.specs.Bank.{BankState}
use Rattle.smp_gate.specs.declared.fault.BankFault.{BankFault}
use Rattle.smp_progress.specs.State.{ProgressState, ProgressSays, appends, bank_after, after_put}
use Rattle.smp_progress.specs.declared.record.Record.{Record}
use Rattle.smp_progress.specs.declared.record.Record.TheVariants as records
use Rattle.smp_progress.proofs.Reading.{after_more}

and_left : (a b : Bool) → (a && b) ≡ true → a ≡ true
and_left true b e = refl
and_left false b e = e

and_right : (a b : Bool) → (a && b) ≡ true → b ≡ true
and_right true b e = e
and_right false b e = absurd (cc e)

same_option : (d e : Option (List ℕ)) → equal_digests d e ≡ true → d ≡ e
same_option None None is = refl
same_option None (Some e) is = absurd (cc is)
same_option (Some d) None is = absurd (cc is)
same_option (Some d) (Some e) is = ap Some ((bytes_eq-Decides d e).0 is)

same_length : (m n : ℕ) → (m == n) ≡ true → m ≡ n
same_length m n is = grind (arith, nat_tests)

announced : (a b : Announcement) → same_announcement a b ≡ true → a ≡ b
announced a b e =
    let n = same_length a.length b.length (and_left (a.length == b.length) (equal_digests a.digest b.digest) e) in
    let d = same_option a.digest b.digest (and_right (a.length == b.length) (equal_digests a.digest b.digest) e) in
    λ i. record { length = n i; digest = d i }

-- the cell of a record follows one with its announcement
cell_follows : (g : Geometry) (held entry : Record) (cell : List ℕ) → continues held entry ≡ true → cell ≡ entry_cell entry → IsRecord g entry → After g held (cell ∷ []) entry
cell_follows g records.None entry cell e is l = absurd (cc e)
cell_follows g (records.Upload a offset rescue) records.None cell e is l = absurd (cc e)
cell_follows g (records.Upload a offset rescue) (records.Upload b next moved) cell e is l =
    subst (λ (u : Announcement). After g (records.Upload u offset rescue) (cell ∷ []) (records.Upload b next moved)) (sym (announced a b e))
    (record { offset = next; rescue = moved; bytes = is; lawful = l }, refl)

added_holds : (layout : Layout) (held entry : Record) (cell old new : List ℕ) → continues held entry ≡ true → cell ≡ entry_cell entry → IsRecord (geometry_of layout) entry
    → HasRecord layout held old → Added (progress_of layout) cell_length cell old new → HasRecord layout entry new
added_holds layout held entry cell old new e is l has added = record {
  content = record { body = has.content.body; cells = has.content.cells ++ (cell ∷ []) };
  held = added has.content has.held;
  gives = record {
    first = has.gives.first;
    body = has.gives.body;
    lawful = has.gives.lawful;
    cells = after_more (geometry_of layout) has.gives.first held has.content.cells (cell ∷ []) entry has.gives.cells (cell_follows (geometry_of layout) held entry cell e is l);
  };
}

either_added : (layout : Layout) (held entry : Record) (cell old new : List ℕ) → continues held entry ≡ true → cell ≡ entry_cell entry → IsRecord (geometry_of layout) entry
    → HasRecord layout held old → SameOrAdded (progress_of layout) cell_length cell old new → OldOrThis layout entry old new
either_added layout held entry cell old new e is l has either = elim either [ inl same ↦ inl same | inr added ↦ inr (added_holds layout held entry cell old new e is l has added) ]

body_holds : (layout : Layout) (entry : Record) (body new : List ℕ) → body ≡ record_bytes 2 (image_of layout) entry → IsRecord (geometry_of layout) entry
    → content_of (progress_of layout) cell_length new ≡ Some (just body) → HasRecord layout entry new
body_holds layout entry body new is l held = record {
  content = just body;
  held = held;
  gives = record { first = entry; body = record { version = 2; known = inl refl; bytes = is }; lawful = l; cells = refl };
}

either_this : (layout : Layout) (entry : Record) (body old new : List ℕ) → body ≡ record_bytes 2 (image_of layout) entry → IsRecord (geometry_of layout) entry
    → SameOrThis (progress_of layout) cell_length (just body) old new → OldOrThis layout entry old new
either_this layout entry body old new is l either = elim either [ inl same ↦ inl same | inr this ↦ inr (body_holds layout entry body new is l this) ]

-- the same where the bytes may not be told, at the place and the cell length of a bank's value
pub told_added : (p : ProgressState) (entry : Record) (cell : List ℕ) (place : BankPlace) (size : ℕ) (x y : Option (List ℕ)) → place ≡ progress_of p.layout → size ≡ 8
    → continues p.entry entry ≡ true → cell ≡ entry_cell entry → IsRecord (geometry_of p.layout) entry → IfSome x (ProgressSays p)
    → Told (SameOrAdded place size cell) x y → Told (OldOrThis p.layout entry) x y
told_added p entry cell place size x y at long e is l says told =
    Told-with (ProgressSays p) (SameOrAdded (progress_of p.layout) cell_length cell) (OldOrThis p.layout entry) x y
    (λ u v s either. either_added p.layout p.entry entry cell u v e is l s.holds either) says
    (subst (λ (q : BankPlace). Told (SameOrAdded q 8 cell) x y) at (subst (λ (n : ℕ). Told (SameOrAdded place n cell) x y) long told))

pub told_added_holds : (p : ProgressState) (entry : Record) (cell : List ℕ) (place : BankPlace) (size : ℕ) (x y : Option (List ℕ)) → place ≡ progress_of p.layout → size ≡ 8
    → continues p.entry entry ≡ true → cell ≡ entry_cell entry → IsRecord (geometry_of p.layout) entry → IfSome x (ProgressSays p)
    → Told (Added place size cell) x y → IfSome y (HasRecord p.layout entry)
told_added_holds p entry cell place size x y at long e is l says told =
    Told-after (ProgressSays p) (Added (progress_of p.layout) cell_length cell) (HasRecord p.layout entry) x y
    (λ u v s added. added_holds p.layout p.entry entry cell u v e is l s.holds added) says
    (subst (λ (q : BankPlace). Told (Added q 8 cell) x y) at (subst (λ (n : ℕ). Told (Added place n cell) x y) long told))

pub told_this : (layout : Layout) (entry : Record) (body : List ℕ) (place : BankPlace) (size : ℕ) (x y : Option (List ℕ)) → place ≡ progress_of layout → size ≡ 8
    → body ≡ record_bytes 2 (image_of layout) entry → IsRecord (geometry_of layout) entry
    → Told (SameOrThis place size (just body)) x y → Told (OldOrThis layout entry) x y
told_this layout entry body place size x y at long is l told =
    Told-map (SameOrThis (progress_of layout) cell_length (just body)) (OldOrThis layout entry) x y (λ u v either. either_this layout entry body u v is l either)
    (subst (λ (q : BankPlace). Told (SameOrThis q 8 (just body)) x y) at (subst (λ (n : ℕ). Told (SameOrThis place n (just body)) x y) long told))

pub some_body_holds : (layout : Layout) (entry : Record) (body : List ℕ) (place : BankPlace) (size : ℕ) (y : Option (List ℕ)) → place ≡ progress_of layout → size ≡ 8
    → body ≡ record_bytes 2 (image_of layout) entry → IsRecord (geometry_of layout) entry
    → IfSome y (λ held. content_of place size held ≡ Some (just body)) → IfSome y (HasRecord layout entry)
some_body_holds layout entry body place size None at long is l held = tt
some_body_holds layout entry body place size (Some y) at long is l held =
    body_holds layout entry body y is l (ap (λ (q : BankPlace). content_of q 8 y) (sym at) ∙ ap (λ (n : ℕ). content_of place n y) (sym long) ∙ held)

-- what a bank of one place, age and body says, of equal ones
pub told_body : (p q : BankPlace) (m n : ℕ) (b d : List ℕ) (x y : Option (List ℕ)) → p ≡ q → m ≡ n → b ≡ d
    → Told (OldOrNew p (record { generation = m + 1; body = b })) x y → Told (OldOrNew q (record { generation = n + 1; body = d })) x y
told_body p q m n b d x y place age body t = rw (sym place, sym age, sym body) t

bank_sure : (b : Bool) (bank : BankState) → IsTrue bank.sure → IsTrue (bank_after b bank).sure
bank_sure true bank sure = sure
bank_sure false bank sure = sure

-- a value that was sure is sure after Ok
pub put_sure : {T : Type 0} (r : Result T BankFault) (entry : Record) (p q : ProgressState) → q ≡ after_put r entry p → IsTrue p.bank.sure → OnOk r (IsTrue q.bank.sure)
put_sure (Ok x) entry p q is sure = subst (λ (k : ProgressState). IsTrue k.bank.sure) (sym is) (bank_sure (appends p entry) p.bank sure)
put_sure (Err fault) entry p q is sure = tt
