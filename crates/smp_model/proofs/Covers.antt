-- What was acknowledged of the upload of an image stays held.
use Rattle.std.proofs.Common.{◌≡◌, inl, inr, ◌==◌, ℕ, List, [], ◌∷◌, Option, Some, None, sym, subst, arith, length-append, if◌then◌else◌}
use Rattle.std.specs.Prelude.{IfSome, option_map, max}
use Rattle.std.proofs.lemmas.Bool.Decides.{nat_tests}
use Rattle.smp_model.specs.declared.device.AbstractDevice.{AbstractDevice}
use Rattle.smp_model.specs.declared.device.Side.{Side}
use Rattle.smp_model.specs.declared.device.Sizes.{Sizes}
use Rattle.smp_model.specs.declared.device.Upload.{Upload}
use Rattle.smp_model.specs.Acknowledged.{chosen_since, offset_in, acknowledged, CoversAt, CoversOn}
use Rattle.smp_model.specs.Does.{does}
use Rattle.smp_model.specs.ImageGroup.{side_of, uploads}
use Rattle.smp_model.specs.Laws.{ReplyHeld}
use Rattle.smp_model.specs.Meant as meant
use Rattle.smp_model.specs.Meant.{Meant}
use Rattle.smp_model.specs.Said as said
use Rattle.smp_model.specs.Said.{Said}
use Rattle.smp_model.specs.Sides.{Choose, Append, Drop, MarkPending, Confirm, appended, side_apply}
use Rattle.smp_model.specs.Steps.{Step, OnSide, Save, Run, side_at, with_side, apply, applied}
use Rattle.smp_model.proofs.Cases.{by_if}
use Rattle.smp_model.proofs.OnSides.{side_with, side_other, side_saved, side_changed, same_or_other}
use Rattle.smp_model.proofs.UploadLaws.{Borne, upload_borne}
use Rattle.smp_model.proofs.RequestKinds.{IsOther, by_upload}

abbrev Covers : ℕ → Side → Type 0
Covers n s = CoversAt s.upload n

covers_appended : (u : Option Upload) (x : List ℕ) (n : ℕ) → CoversAt u n → CoversAt (appended u x) n
covers_appended None x n h = tt
covers_appended (Some u) x n h = omega (arith, length-append u.accepted x)

covers_nothing : (u : Option Upload) → CoversAt u 0
covers_nothing None = tt
covers_nothing (Some u) = omega arith

mapped : (P Q : Side → Type 0) (f : Side → Side) (o : Option Side) → ((s : Side) → P s → Q (f s)) → IfSome o P → IfSome (option_map f o) Q
mapped P Q f None g h = tt
mapped P Q f (Some s) g h = g s h

on_this : (image i : ℕ) (f : Side → Side) (d : AbstractDevice) (n m : ℕ) → i ≡ image → ((s : Side) → CoversAt s.upload n → CoversAt (f s).upload m) → CoversOn image d n → CoversOn image (with_side i f d) m
on_this image i f d n m e g h =
    subst (λ k. IfSome (side_at k (with_side i f d)) (Covers m)) e
    (subst (λ o. IfSome o (Covers m)) (sym (side_with i f d)) (mapped (Covers n) (Covers m) f (side_at i d) g (subst (λ k. IfSome (side_at k d) (Covers n)) (sym e) h)))

on_other : (image i : ℕ) (f : Side → Side) (d : AbstractDevice) (n : ℕ) → (i ≡ image → ⊥) → CoversOn image d n → CoversOn image (with_side i f d) n
on_other image i f d n e h = subst (λ o. IfSome o (Covers n)) (sym (side_other i image f d e)) h

-- a step that keeps what it finds
on_side_kept : (image i : ℕ) (f : Side → Side) (d : AbstractDevice) (n : ℕ) → ((s : Side) → CoversAt s.upload n → CoversAt (f s).upload n) → CoversOn image d n → CoversOn image (with_side i f d) n
on_side_kept image i f d n g h = elim (same_or_other i image) [
  | inl e ↦ on_this image i f d n n e g h
  | inr e ↦ on_other image i f d n e h
]

pub covers_after : (image : ℕ) (steps : List Step) (d : AbstractDevice) (n : ℕ) → CoversOn image d n → CoversOn image (applied steps d) (chosen_since image steps n)
covers_after image [] d n h = h
covers_after image (OnSide i (Choose a) ∷ steps) d n h =
    covers_after image steps (apply (OnSide i (Choose a)) d) (if i == image then 0 else n)
    (by_if (λ (m : ℕ). CoversOn image (apply (OnSide i (Choose a)) d) m) (i == image) 0 n
    (λ e. on_this image i (side_apply (Choose a)) d n 0 (grind (arith, nat_tests, e)) (λ s k. omega arith) h)
    (λ e. on_other image i (side_apply (Choose a)) d n (λ f. grind (arith, nat_tests, e, f)) h))
covers_after image (OnSide i (Append x) ∷ steps) d n h = covers_after image steps (apply (OnSide i (Append x)) d) n (on_side_kept image i (side_apply (Append x)) d n (λ s k. covers_appended s.upload x n k) h)
covers_after image (OnSide i Drop ∷ steps) d n h = covers_after image steps (apply (OnSide i Drop) d) n (on_side_kept image i (side_apply Drop) d n (λ s k. tt) h)
covers_after image (OnSide i (MarkPending m) ∷ steps) d n h = covers_after image steps (apply (OnSide i (MarkPending m)) d) n (on_side_kept image i (side_apply (MarkPending m)) d n (λ s k. k) h)
covers_after image (OnSide i Confirm ∷ steps) d n h = covers_after image steps (apply (OnSide i Confirm) d) n (on_side_kept image i (side_apply Confirm) d n (λ s k. k) h)
covers_after image (Save ∷ steps) d n h = covers_after image steps (apply Save d) n (subst (λ o. IfSome o (Covers n)) (sym (side_saved image d)) h)
covers_after image (Run c ∷ steps) d n h = covers_after image steps (apply (Run c) d) n (subst (λ o. IfSome o (Covers n)) (sym (side_changed image c d)) h)

-- the greater of what was acknowledged and of what a reply gives is held
covers_reply : (reply : Said) (u : Option Upload) (n : ℕ) → CoversAt u n → ReplyHeld reply u → CoversAt u (max n (offset_in reply))
covers_reply reply None n h k = tt
covers_reply (said.offset o matched) (Some u) n h k = grind (arith, h, k)
covers_reply (said.smp_error x) (Some u) n h k = grind (arith, h)
covers_reply (said.group_error g x) (Some u) n h k = grind (arith, h)
covers_reply said.empty (Some u) n h k = grind (arith, h)
covers_reply (said.echo t) (Some u) n h k = grind (arith, h)
covers_reply said.parameters (Some u) n h k = grind (arith, h)
covers_reply (said.stat_group x y z) (Some u) n h k = grind (arith, h)
covers_reply said.stat_list (Some u) n h k = grind (arith, h)
covers_reply (said.images x y) (Some u) n h k = grind (arith, h)
covers_reply (said.setting val) (Some u) n h k = grind (arith, h)
covers_reply (said.file_part o len part) (Some u) n h k = grind (arith, h)
covers_reply (said.file_length len) (Some u) n h k = grind (arith, h)
covers_reply (said.file_hash o len output) (Some u) n h k = grind (arith, h)
covers_reply said.file_types (Some u) n h k = grind (arith, h)

covers_zero : (u : Option Upload) (n : ℕ) → CoversAt u n → CoversAt u (max n 0)
covers_zero None n h = tt
covers_zero (Some u) n h = grind (arith, h)

both : (P Q R : Side → Type 0) (o : Option Side) → ((s : Side) → P s → Q s → R s) → IfSome o P → IfSome o Q → IfSome o R
both P Q R None f h k = tt
both P Q R (Some s) f h k = f s h k

no_more : (o : Option Side) (n : ℕ) → IfSome o (Covers n) → IfSome o (Covers (max n 0))
no_more o n h = both (Covers n) (Covers n) (Covers (max n 0)) o (λ s k _. covers_zero s.upload n k) h h

pub acknowledged_held : (sizes : Sizes) (d : AbstractDevice) (m : Meant) (image n : ℕ) → CoversOn image d n
    → CoversOn image (applied (does sizes d m).steps d) (acknowledged image d.target m (does sizes d m).steps (does sizes d m).reply n)
acknowledged_held sizes d m image n h =
    by_upload (λ m. CoversOn image (applied (does sizes d m).steps d) (chosen_since image (does sizes d m).steps n)
    → CoversOn image (applied (does sizes d m).steps d) (acknowledged image d.target m (does sizes d m).steps (does sizes d m).reply n)) uploads_hold others_hold m
    (covers_after image (does sizes d m).steps d n h)
  where
    uploads_hold : (named len : Option ℕ) (off : ℕ) (sha : Option (List ℕ)) (part : List ℕ)
        → CoversOn image (applied (uploads sizes d named len off sha part).steps d) (chosen_since image (uploads sizes d named len off sha part).steps n)
        → CoversOn image (applied (uploads sizes d named len off sha part).steps d) (acknowledged image d.target (meant.upload named len off sha part) (uploads sizes d named len off sha part).steps (uploads sizes d named len off sha part).reply n)
    uploads_hold named len off sha part k =
        by_if (λ (o : ℕ). CoversOn image e (max now o)) (side_of d.target named off sha == image) (offset_in r) 0
        (λ same. both (Covers now) (Borne r) (Covers (max now (offset_in r))) (side_at image e) (λ s x y. covers_reply r s.upload now x y.0) k
        (subst (λ j. IfSome (side_at j e) (Borne r)) (grind (arith, nat_tests, same)) (upload_borne sizes d named len off sha part)))
        (λ _. no_more (side_at image e) now k)
      where
        e : AbstractDevice
        e = applied (uploads sizes d named len off sha part).steps d

        r : Said
        r = (uploads sizes d named len off sha part).reply

        now : ℕ
        now = chosen_since image (uploads sizes d named len off sha part).steps n

    others_hold : (m : Meant) → IsOther m → CoversOn image (applied (does sizes d m).steps d) (chosen_since image (does sizes d m).steps n)
        → CoversOn image (applied (does sizes d m).steps d) (acknowledged image d.target m (does sizes d m).steps (does sizes d m).reply n)
    others_hold m other k =
        subst (λ b. CoversOn image (applied (does sizes d m).steps d) (max (chosen_since image (does sizes d m).steps n) (if b then offset_in (does sizes d m).reply else 0))) (sym (other.to_none image d.target))
        (no_more (side_at image (applied (does sizes d m).steps d)) (chosen_since image (does sizes d m).steps n) k)
