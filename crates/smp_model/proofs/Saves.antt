-- Only a save changes what is saved.
use Rattle.std.proofs.Common.{◌≡◌, ◌⊎◌, inl, inr, ℕ, zero, suc, List, [], ◌∷◌, ◌++◌, refl, sym, ap, subst, ◌∙◌}
use Rattle.smp_model.specs.declared.device.AbstractDevice.{AbstractDevice}
use Rattle.smp_model.specs.declared.device.Side.{Side}
use Rattle.smp_model.specs.declared.device.Sizes.{Sizes}
use Rattle.smp_model.specs.Does.{does}
use Rattle.smp_model.specs.Due.{IsStepDue, IsChangeDue}
use Rattle.smp_model.specs.Laws.{EachStep, IsNoSave}
use Rattle.smp_model.specs.Meant as meant
use Rattle.smp_model.specs.Meant.{Meant}
use Rattle.smp_model.specs.Sides.{side_apply}
use Rattle.smp_model.specs.Steps.{Change, write_setting, delete_setting, load_settings, begin_file, append_file, aim_at, Step, OnSide, Save, Run, Part, with_side, apply, applied, changed}
use Rattle.smp_model.proofs.OnSides.{along_front, kept_along}
use Rattle.smp_model.proofs.DueSteps.{AllDue, does_due}
use Rattle.smp_model.proofs.RequestKinds.{IsRunOf, by_kind}

changed_saved : (c : Change) (d : AbstractDevice) → (changed c d).saved ≡ d.saved
changed_saved (write_setting name val) d = refl
changed_saved (delete_setting name) d = refl
changed_saved load_settings d = refl
changed_saved (begin_file name announced part) d = refl
changed_saved (append_file name part) d = refl
changed_saved (aim_at image) d = refl

pub side_saved : (i : ℕ) (f : Side → Side) (d : AbstractDevice) → (with_side i f d).saved ≡ d.saved
side_saved zero f d = refl
side_saved (suc zero) f d = refl
side_saved (suc (suc n)) f d = refl

-- a step of another request than a save
saved_step : (sizes : Sizes) (target : ℕ) (m : Meant) (d : AbstractDevice) → (m ≡ meant.save → ⊥) → (e : AbstractDevice) (t : Step) → IsStepDue sizes target m e t → e.saved ≡ d.saved → (apply t e).saved ≡ d.saved
saved_step sizes target m d other e (OnSide i t) h k = side_saved i (side_apply t) e ∙ k
saved_step sizes target m d other e Save h k = absurd (other h)
saved_step sizes target m d other e (Run c) h k = changed_saved c e ∙ k

-- what is saved where a request was broken off
abbrev pub SavedBy : Meant → AbstractDevice → AbstractDevice → Type 0
SavedBy m d e = (e.saved ≡ d.saved) ⊎ ((m ≡ meant.save) × (e.saved ≡ d.running))

kept_by : (sizes : Sizes) (d e : AbstractDevice) (m : Meant) → (m ≡ meant.save → ⊥) → Part d (does sizes d m).steps e → SavedBy m d e
kept_by sizes d e m other p =
    inl (ap (λ (x : AbstractDevice). x.saved) p.reached
    ∙ kept_along (IsStepDue sizes d.target m) (λ x. x.saved ≡ d.saved) p.front d (saved_step sizes d.target m d other)
    (along_front (IsStepDue sizes d.target m) p.front p.rest d (subst (AllDue sizes d.target m d) p.split (does_due sizes d m))) refl)

front_of_save : (front rest : List Step) (d : AbstractDevice) → Save ∷ [] ≡ front ++ rest → ((applied front d).saved ≡ d.saved) ⊎ ((applied front d).saved ≡ d.running)
front_of_save [] rest d e = inl refl
front_of_save (Save ∷ []) rest d e = inr refl
front_of_save (Save ∷ s ∷ front) rest d e = cc
front_of_save (OnSide i t ∷ front) rest d e = cc
front_of_save (Run c ∷ front) rest d e = cc

saved_by_save : (d e : AbstractDevice) → Part d (Save ∷ []) e → SavedBy meant.save d e
saved_by_save d e p = elim (front_of_save p.front p.rest d p.split) [
  | inl k ↦ inl (ap (λ (x : AbstractDevice). x.saved) p.reached ∙ k)
  | inr k ↦ inr (refl, ap (λ (x : AbstractDevice). x.saved) p.reached ∙ k)
]

-- changes of what a start forgets are no saves
runs_save_nothing : (P : Change → Type 0) (steps : List Step) → EachStep (IsRunOf P) steps → EachStep IsNoSave steps
runs_save_nothing P [] h = tt
runs_save_nothing P (OnSide i t ∷ steps) h = absurd h.0
runs_save_nothing P (Save ∷ steps) h = absurd h.0
runs_save_nothing P (Run c ∷ steps) h = (tt, runs_save_nothing P steps h.1)

front_saves_nothing : (front rest : List Step) (d : AbstractDevice) → EachStep IsNoSave (front ++ rest) → (applied front d).saved ≡ d.saved
front_saves_nothing [] rest d h = refl
front_saves_nothing (OnSide i t ∷ front) rest d h = front_saves_nothing front rest (apply (OnSide i t) d) h.1 ∙ side_saved i (side_apply t) d
front_saves_nothing (Save ∷ front) rest d h = absurd h.0
front_saves_nothing (Run c ∷ front) rest d h = front_saves_nothing front rest (apply (Run c) d) h.1 ∙ changed_saved c d

kept_without : (d e : AbstractDevice) (steps : List Step) → EachStep IsNoSave steps → Part d steps e → e.saved ≡ d.saved
kept_without d e steps h p = ap (λ (x : AbstractDevice). x.saved) p.reached ∙ front_saves_nothing p.front p.rest d (subst (EachStep IsNoSave) p.split h)

pub saved_by : (sizes : Sizes) (d e : AbstractDevice) (m : Meant) → Part d (does sizes d m).steps e → SavedBy m d e
saved_by sizes d e = by_kind sizes d (λ m. Part d (does sizes d m).steps e → SavedBy m d e) (record {
  still = λ m none p. inl (kept_without d e (does sizes d m).steps (subst (EachStep IsNoSave) (sym none) tt) p);
  runs = λ m r p. inl (kept_without d e (does sizes d m).steps (runs_save_nothing (λ c. (f : AbstractDevice) → IsChangeDue d.target m f c) (does sizes d m).steps r.changes) p);
  save = saved_by_save d e;
  image_list = kept_by sizes d e meant.image_list (λ k. cc);
  image_set = λ hash confirm. kept_by sizes d e (meant.image_set hash confirm) (λ k. cc);
  upload = λ image len off sha part. kept_by sizes d e (meant.upload image len off sha part) (λ k. cc);
  erase = λ slot. kept_by sizes d e (meant.erase slot) (λ k. cc);
})
