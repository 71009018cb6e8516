-- An upload is given up at an erase, or since it is spoiled: as it was before the request, or by bytes of the request.
use Rattle.std.proofs.Common.{◌≡◌, ◌≤◌, ◌==◌, ◌&&◌, ◌⊎◌, inl, inr, ℕ, List, [], ◌∷◌, ◌++◌, Bool, true, false, Some, None, refl, sym, subst, ◌∙◌, arith}
use Rattle.std.proofs.lemmas.Bool.Decides.{nat_tests}
use Rattle.smp_model.specs.declared.device.AbstractDevice.{AbstractDevice}
use Rattle.smp_model.specs.declared.device.Side.{Side}
use Rattle.smp_model.specs.declared.device.Sizes.{Sizes}
use Rattle.smp_model.specs.declared.upload.Announcement.{Announcement}
use Rattle.smp_model.specs.Consistent.{FitsSlot}
use Rattle.smp_model.specs.Does.{does}
use Rattle.smp_model.specs.Due.{IsErase, IsSideStepDue, IsStepDue}
use Rattle.smp_model.specs.Laws.{OnImage, AcceptsBytes, IsSpoiledOn, IsErasedOn, IsDropDue}
use Rattle.smp_model.specs.Meant as meant
use Rattle.smp_model.specs.Meant.{Meant}
use Rattle.smp_model.specs.Sides.{SideStep, Choose, Append, Drop, MarkPending, Confirm, chosen, side_apply}
use Rattle.smp_model.specs.Steps.{Step, OnSide, Save, Run, side_at, apply, applied}
use Rattle.smp_model.specs.Uploads.{differs, is_spoiled}
use Rattle.smp_model.proofs.DueSteps.{AllDue, does_due}
use Rattle.smp_model.proofs.OnSides.{side_other, side_changed, side_saved, found_with, along_front, along_at, same_or_other, the_side}

-- an upload that begins is not complete
begun_not_spoiled : (sizes : Sizes) (a : Announcement) → FitsSlot sizes a → is_spoiled (Some (chosen a)) ≡ true → ⊥
begun_not_spoiled sizes a fits h = go (0 == a.length) refl h
  where
    go : (b : Bool) → (0 == a.length) ≡ b → (b && differs a.digest []) ≡ true → ⊥
    go true e k = let long : 32 ≤ a.length = fits.header in grind (arith, nat_tests, e, long)
    go false e k = cc

accepts_more : (image : ℕ) (t : Step) (steps : List Step) → AcceptsBytes image steps → AcceptsBytes image (t ∷ steps)
accepts_more image (OnSide i (Choose a)) steps h = h
accepts_more image (OnSide i (Append x)) steps h = inr h
accepts_more image (OnSide i Drop) steps h = h
accepts_more image (OnSide i (MarkPending k)) steps h = h
accepts_more image (OnSide i Confirm) steps h = h
accepts_more image Save steps h = h
accepts_more image (Run c) steps h = h

spoiled_elsewhere : (i : ℕ) (d e : AbstractDevice) → side_at i e ≡ side_at i d → IsSpoiledOn i e → IsSpoiledOn i d
spoiled_elsewhere i d e same h = record { side = h.side; found = sym same ∙ h.found; fact = h.fact }

-- behind a step on its side
spoiled_on : (sizes : Sizes) (m : Meant) (image j : ℕ) (d : AbstractDevice) (s : Side) (t : SideStep) (steps : List Step) → j ≡ image → side_at image d ≡ Some s → IsSideStepDue sizes m t s
    → is_spoiled (side_apply t s).upload ≡ true → IsSpoiledOn image d ⊎ AcceptsBytes image (OnSide j t ∷ steps)
spoiled_on sizes m image j d s (Choose a) steps here found due h = absurd (begun_not_spoiled sizes a due.1.0 h)
spoiled_on sizes m image j d s (Append x) steps here found due h = inr (inl here)
spoiled_on sizes m image j d s Drop steps here found due h = absurd (cc)
spoiled_on sizes m image j d s (MarkPending k) steps here found due h = inl (record { side = s; found = found; fact = h })
spoiled_on sizes m image j d s Confirm steps here found due h = inl (record { side = s; found = found; fact = h })

spoiled_back : (sizes : Sizes) (target : ℕ) (m : Meant) (image : ℕ) (d : AbstractDevice) (t : Step) (steps : List Step) → IsStepDue sizes target m d t
    → IsSpoiledOn image (apply t d) → IsSpoiledOn image d ⊎ AcceptsBytes image (t ∷ steps)
spoiled_back sizes target m image d (OnSide j t) steps due q = elim (same_or_other j image) [
  | inl n ↦
      let before : side_at image d ≡ Some due.1.side = subst (λ x. side_at x d ≡ Some due.1.side) n due.1.found in
      let now : side_at image (apply (OnSide j t) d) ≡ Some (side_apply t due.1.side) = subst (λ x. side_at x (apply (OnSide j t) d) ≡ Some (side_apply t due.1.side)) n (found_with j (side_apply t) d due.1.side due.1.found) in
      let same : q.side ≡ side_apply t due.1.side = the_side q.side (side_apply t due.1.side) (sym q.found ∙ now) in
      spoiled_on sizes m image j d due.1.side t steps n before due.1.fact (subst (λ (s : Side). is_spoiled s.upload ≡ true) same q.fact)
  | inr n ↦ inl (spoiled_elsewhere image d (apply (OnSide j t) d) (side_other j image (side_apply t) d n) q)
]
spoiled_back sizes target m image d Save steps due q = inl (spoiled_elsewhere image d (apply Save d) (side_saved image d) q)
spoiled_back sizes target m image d (Run c) steps due q = inl (spoiled_elsewhere image d (apply (Run c) d) (side_changed image c d) q)

spoiled_backs : (sizes : Sizes) (target : ℕ) (m : Meant) (image : ℕ) (front : List Step) (d : AbstractDevice) → AllDue sizes target m d front
    → IsSpoiledOn image (applied front d) → IsSpoiledOn image d ⊎ AcceptsBytes image front
spoiled_backs sizes target m image [] d due q = inl q
spoiled_backs sizes target m image (t ∷ front) d due q = elim (spoiled_backs sizes target m image front (apply t d) due.1 q) [
  | inl now ↦ spoiled_back sizes target m image d t front due.0 now
  | inr later ↦ inr (accepts_more image t front later)
]

erased_on : (m : Meant) (image : ℕ) (e : AbstractDevice) → IsErase m → OnImage image (λ s. s.pending ≡ None) e → IsErasedOn m image e
erased_on (meant.erase slot) image e h q = q
erased_on m image e h q = absurd h

pub drop_is_due : (sizes : Sizes) (d : AbstractDevice) (m : Meant) (image : ℕ) (front rest : List Step) → (does sizes d m).steps ≡ front ++ OnSide image Drop ∷ rest → IsDropDue m image d front
drop_is_due sizes d m image front rest split =
    let due = subst (AllDue sizes d.target m d) split (does_due sizes d m) in
    let here = (along_at (IsStepDue sizes d.target m) front (OnSide image Drop) rest d due).1 in
    elim here.fact [
      | inl spoiled ↦
          let q : IsSpoiledOn image (applied front d) = record { side = here.side; found = here.found; fact = spoiled } in
          inr (q, spoiled_backs sizes d.target m image front d (along_front (IsStepDue sizes d.target m) front (OnSide image Drop ∷ rest) d due) q)
      | inr erased ↦ inl (erased_on m image (applied front d) erased.0 (record { side = here.side; found = here.found; fact = erased.1 }))
    ]
