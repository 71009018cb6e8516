-- A refusal has no steps but those of settling, and leaves the target of parts; the target is the image of the last start that
-- was answered with an offset.
use Rattle.std.proofs.Common.{◌≡◌, ◌==◌, inl, inr, ℕ, zero, suc, List, [], ◌∷◌, ◌++◌, length, Bool, true, false, Option, Some, None, refl, sym, ap, subst, ◌∙◌, append-nil, if◌then◌else◌}
use Rattle.std.specs.Prelude.{Result, Ok, Err}
use Rattle.smp_model.specs.declared.device.AbstractDevice.{AbstractDevice}
use Rattle.smp_model.specs.declared.device.Side.{Side}
use Rattle.smp_model.specs.declared.device.Sizes.{Sizes}
use Rattle.smp_model.specs.Does.{does}
use Rattle.smp_model.specs.Due.{IsStart}
use Rattle.smp_model.specs.ImageGroup.{part_at, side_of, is_offset, aims, uploads, refuses_image, lists_with, mark_of, marks, confirms, runs, holds, confirms_on, marks_on, sets_hash, sets_no_hash, sets_image, erase_of, erases_on, erases}
use Rattle.smp_model.specs.Laws.{EachStep, SettlesAtMost}
use Rattle.smp_model.specs.Meant.{Meant}
use Rattle.smp_model.specs.Response.{Response, SideResponse, settling, settling_side}
use Rattle.smp_model.specs.Said as said
use Rattle.smp_model.specs.Said.{Said, is_error, if_some}
use Rattle.smp_model.specs.Sides.{SideStep, side_apply, side_settle_steps, side_settle}
use Rattle.smp_model.specs.Steps.{write_setting, delete_setting, load_settings, begin_file, append_file, aim_at, Step, OnSide, Save, Run, Part, with_side, side_at, apply, applied, on_side, settle, settle_steps, settle_steps_of}
use Rattle.smp_model.proofs.Cases.{either_way}
use Rattle.smp_model.proofs.DueSteps.{AllDue, does_due}
use Rattle.smp_model.proofs.OnSides.{each_more, applied_more}
use Rattle.smp_model.proofs.Replies.{RefusesSide, start_refuses, part_at_refuses, erase_refuses}
use Rattle.smp_model.proofs.Requests.{upload_cases, starting}
use Rattle.smp_model.proofs.UploadLaws.{steps_at}
use Rattle.smp_model.specs.declared.error.TheConstants.{HASH_NOT_FOUND, INVALID_DIGEST, INVALID_SLOT}
use Rattle.smp_model.proofs.RequestKinds.{by_kind}

-- an error that comes without steps
abbrev pub Refuses : Response → Type 0
Refuses r = is_error r.reply ≡ true → r.steps ≡ []

-- an error that comes with the steps of settling at most
abbrev pub Settles : AbstractDevice → Response → Type 0
Settles d r = is_error r.reply ≡ true → SettlesAtMost d r.steps

no_error : false ≡ true → {A : Type 0} → A
no_error h = cc

settled : (d : AbstractDevice) (response : AbstractDevice → Response) → Refuses (response (settle d)) → Settles d (settling d response)
settled d response h e = inr (inl (ap (λ steps. settle_steps d ++ steps) (h e) ∙ append-nil (settle_steps d)))

settled_on : (i : ℕ) (d : AbstractDevice) (s : Side) (between : List Step) (r : SideResponse) → side_at i d ≡ Some s → (is_error r.reply ≡ true → between ≡ []) → RefusesSide r
    → Settles d (settling_side i s between r)
settled_on i d s between r found none h e =
    inr (inr (
      i,
      (
          ap (λ x. on_side i (side_settle_steps s) ++ (x ++ on_side i r.steps)) (none e)
          ∙ (ap (λ x. on_side i (side_settle_steps s) ++ on_side i x) (h e) ∙ (append-nil (on_side i (side_settle_steps s)) ∙ steps_at i d s found))
          ),
    ))

error_no_offset : (r : Said) → is_error r ≡ true → is_offset r ≡ false
error_no_offset (said.smp_error n) e = refl
error_no_offset (said.group_error g n) e = refl
error_no_offset said.empty e = cc
error_no_offset (said.echo t) e = cc
error_no_offset said.parameters e = cc
error_no_offset (said.stat_group x y z) e = cc
error_no_offset said.stat_list e = cc
error_no_offset (said.images x y) e = cc
error_no_offset (said.offset o matched) e = cc
error_no_offset (said.setting val) e = cc
error_no_offset (said.file_part o len part) e = cc
error_no_offset (said.file_length len) e = cc
error_no_offset (said.file_hash o len output) e = cc
error_no_offset said.file_types e = cc

no_aims : (i : ℕ) (r : Said) → is_error r ≡ true → aims i r ≡ []
no_aims i r e = ap (λ b. if b then Run (aim_at i) ∷ [] else []) (error_no_offset r e)

uploads_refuse : (sizes : Sizes) (d : AbstractDevice) (image len : Option ℕ) (off : ℕ) (sha : Option (List ℕ)) (part : List ℕ) → Settles d (uploads sizes d image len off sha part)
uploads_refuse sizes d image len off sha part =
    upload_cases (Settles d) sizes d image len off sha part (λ n e. inl refl)
    (λ s n found l z long. settled_on i d s (aims i (starting sizes s n sha part).reply) (starting sizes s n sha part) found (no_aims i (starting sizes s n sha part).reply)
    (start_refuses sizes.unit s.pending (side_settle s).upload (record { length = n; digest = sha }) part))
    (λ s found z. settled_on i d s [] (part_at sizes.unit off sha part (side_settle s).upload) found (λ _. refl) (part_at_refuses sizes.unit (side_settle s).upload off sha part))
  where
    i : ℕ
    i = side_of d.target image off sha

with_refuses : (i : ℕ) (r : Result (List SideStep) ℕ) (e : AbstractDevice) → Refuses (lists_with i r e)
with_refuses i (Ok steps) e = λ h. no_error h
with_refuses i (Err n) e = λ h. refl

confirms_on_refuses : (i : ℕ) (confirm : Bool) (o : Option Side) (e : AbstractDevice) → Refuses (confirms_on i confirm o e)
confirms_on_refuses i confirm None e = λ h. refl
confirms_on_refuses i confirm (Some s) e = with_refuses i (confirms confirm s.confirmed) e

marks_on_refuses : (i : ℕ) (confirm : Bool) (o : Option Side) (e : AbstractDevice) → Refuses (marks_on i confirm o e)
marks_on_refuses i confirm None e = λ h. refl
marks_on_refuses i confirm (Some s) e = with_refuses i (marks (mark_of confirm) s.pending) e

hash_refuses : (hash : List ℕ) (confirm : Bool) (e : AbstractDevice) → Refuses (sets_hash hash confirm e)
hash_refuses hash confirm e =
    either_way Refuses (runs hash (side_at 0 e)) _ _ (confirms_on_refuses 0 confirm (side_at 0 e) e)
    (either_way Refuses (runs hash (side_at 1 e)) _ _ (confirms_on_refuses 1 confirm (side_at 1 e) e)
    (either_way Refuses (holds hash (side_at 0 e)) _ _ (marks_on_refuses 0 confirm (side_at 0 e) e)
    (either_way Refuses (holds hash (side_at 1 e)) _ (refuses_image HASH_NOT_FOUND) (marks_on_refuses 1 confirm (side_at 1 e) e) (λ h. refl))))

no_hash_refuses : (d : AbstractDevice) (confirm : Bool) → Settles d (sets_no_hash d confirm)
no_hash_refuses d true = settled d (λ e. confirms_on 0 true (side_at 0 e) e) (confirms_on_refuses 0 true (side_at 0 (settle d)) (settle d))
no_hash_refuses d false = λ h. inl refl

set_refuses : (d : AbstractDevice) (hash : Option (List ℕ)) (confirm : Bool) → Settles d (sets_image d hash confirm)
set_refuses d None confirm = no_hash_refuses d confirm
set_refuses d (Some []) confirm = no_hash_refuses d confirm
set_refuses d (Some (x ∷ xs)) confirm =
    either_way (Settles d) (length (x ∷ xs) == 32) _ (refuses_image INVALID_DIGEST) (settled d (sets_hash (x ∷ xs) confirm) (hash_refuses (x ∷ xs) confirm (settle d))) (λ h. inl refl)

erases_on_refuses : (i : ℕ) (d : AbstractDevice) (o : Option Side) → side_at i d ≡ o → Settles d (erases_on i o)
erases_on_refuses i d None e = λ h. inl refl
erases_on_refuses i d (Some s) e = settled_on i d s [] (erase_of s.pending) e (λ _. refl) (erase_refuses s.pending)

erases_refuse : (d : AbstractDevice) (slot : ℕ) → Settles d (erases d slot)
erases_refuse d slot =
    either_way (Settles d) (slot == 1) _ _ (erases_on_refuses 0 d (side_at 0 d) refl)
    (either_way (Settles d) (slot == 3) _ (refuses_image INVALID_SLOT) (erases_on_refuses 1 d (side_at 1 d) refl) (λ h. inl refl))

pub does_refuse : (sizes : Sizes) (d : AbstractDevice) (m : Meant) → Settles d (does sizes d m)
does_refuse sizes d = by_kind sizes d (λ m. Settles d (does sizes d m)) (record {
  still = λ m none h. inl none;
  runs = λ m r h. inl (r.refuses h);
  save = λ h. no_error h;
  image_list = λ h. no_error h;
  image_set = λ hash confirm. set_refuses d hash confirm;
  upload = λ image len off sha part. uploads_refuse sizes d image len off sha part;
  erase = λ slot. erases_refuse d slot;
})

-- The target of parts.
target_with : (i : ℕ) (f : Side → Side) (d : AbstractDevice) → (with_side i f d).target ≡ d.target
target_with zero f d = refl
target_with (suc zero) f d = refl
target_with (suc (suc n)) f d = refl

-- a step that leaves it
abbrev IsNoAim : Step → Type 0
IsNoAim (OnSide i t) = Unit {0}
IsNoAim Save = Unit {0}
IsNoAim (Run (aim_at i)) = ⊥
IsNoAim (Run (write_setting name val)) = Unit {0}
IsNoAim (Run (delete_setting name)) = Unit {0}
IsNoAim (Run load_settings) = Unit {0}
IsNoAim (Run (begin_file name announced part)) = Unit {0}
IsNoAim (Run (append_file name part)) = Unit {0}

target_step : (t : Step) (d : AbstractDevice) → IsNoAim t → (apply t d).target ≡ d.target
target_step (OnSide i t) d h = target_with i (side_apply t) d
target_step Save d h = refl
target_step (Run (aim_at i)) d h = absurd h
target_step (Run (write_setting name val)) d h = refl
target_step (Run (delete_setting name)) d h = refl
target_step (Run load_settings) d h = refl
target_step (Run (begin_file name announced part)) d h = refl
target_step (Run (append_file name part)) d h = refl

target_front : (front rest : List Step) (d : AbstractDevice) → EachStep IsNoAim (front ++ rest) → (applied front d).target ≡ d.target
target_front [] rest d h = refl
target_front (t ∷ front) rest d h = target_front front rest (apply t d) h.1 ∙ target_step t d h.0

pub target_part : (d e : AbstractDevice) (steps : List Step) → EachStep IsNoAim steps → Part d steps e → e.target ≡ d.target
target_part d e steps h p = ap (λ (x : AbstractDevice). x.target) p.reached ∙ target_front p.front p.rest d (subst (EachStep IsNoAim) p.split h)

no_aim_on : (i : ℕ) (steps : List SideStep) → EachStep IsNoAim (on_side i steps)
no_aim_on i [] = tt
no_aim_on i (t ∷ steps) = (tt, no_aim_on i steps)

no_aim_at : (i : ℕ) (o : Option Side) → EachStep IsNoAim (if_some o (λ s. on_side i (side_settle_steps s)))
no_aim_at i None = tt
no_aim_at i (Some s) = no_aim_on i (side_settle_steps s)

no_aim_settling : (d : AbstractDevice) (steps : List Step) → SettlesAtMost d steps → EachStep IsNoAim steps
no_aim_settling d steps (inl e) = subst (EachStep IsNoAim) (sym e) tt
no_aim_settling d steps (inr (inl e)) = subst (EachStep IsNoAim) (sym e) (each_more IsNoAim (settle_steps_of 0 d) (settle_steps_of 1 d) (no_aim_at 0 (side_at 0 d)) (no_aim_at 1 (side_at 1 d)))
no_aim_settling d steps (inr (inr e)) = subst (EachStep IsNoAim) (sym e.1) (no_aim_at e.0 (side_at e.0 d))

pub refused_target : (sizes : Sizes) (d e : AbstractDevice) (m : Meant) → is_error (does sizes d m).reply ≡ true → Part d (does sizes d m).steps e → e.target ≡ d.target
refused_target sizes d e m refuses p = target_part d e (does sizes d m).steps (no_aim_settling d (does sizes d m).steps (does_refuse sizes d m refuses)) p

no_aims_due : (sizes : Sizes) (target : ℕ) (m : Meant) → (IsStart m → ⊥) → (steps : List Step) (d : AbstractDevice) → AllDue sizes target m d steps → EachStep IsNoAim steps
no_aims_due sizes target m other [] d h = tt
no_aims_due sizes target m other (OnSide i t ∷ steps) d h = (tt, no_aims_due sizes target m other steps (apply (OnSide i t) d) h.1)
no_aims_due sizes target m other (Save ∷ steps) d h = (tt, no_aims_due sizes target m other steps (apply Save d) h.1)
no_aims_due sizes target m other (Run (aim_at i) ∷ steps) d h = absurd (other h.0.0)
no_aims_due sizes target m other (Run (write_setting name val) ∷ steps) d h = (tt, no_aims_due sizes target m other steps (apply (Run (write_setting name val)) d) h.1)
no_aims_due sizes target m other (Run (delete_setting name) ∷ steps) d h = (tt, no_aims_due sizes target m other steps (apply (Run (delete_setting name)) d) h.1)
no_aims_due sizes target m other (Run load_settings ∷ steps) d h = (tt, no_aims_due sizes target m other steps (apply (Run load_settings) d) h.1)
no_aims_due sizes target m other (Run (begin_file name announced part) ∷ steps) d h = (tt, no_aims_due sizes target m other steps (apply (Run (begin_file name announced part)) d) h.1)
no_aims_due sizes target m other (Run (append_file name part) ∷ steps) d h = (tt, no_aims_due sizes target m other steps (apply (Run (append_file name part)) d) h.1)

pub other_target : (sizes : Sizes) (d e : AbstractDevice) (m : Meant) → (IsStart m → ⊥) → Part d (does sizes d m).steps e → e.target ≡ d.target
other_target sizes d e m other p = target_part d e (does sizes d m).steps (no_aims_due sizes d.target m other (does sizes d m).steps d (does_due sizes d m)) p

-- a start that is answered with an offset
aimed : (i : ℕ) (d : AbstractDevice) (a : List SideStep) (b : List SideStep) → (applied (on_side i a ++ (Run (aim_at i) ∷ on_side i b)) d).target ≡ i
aimed i d a b =
    ap (λ (x : AbstractDevice). x.target) (applied_more (on_side i a) (Run (aim_at i) ∷ on_side i b) d)
    ∙ target_front (on_side i b) [] (apply (Run (aim_at i)) (applied (on_side i a) d)) (each_more IsNoAim (on_side i b) [] (no_aim_on i b) tt)

pub start_target : (sizes : Sizes) (d : AbstractDevice) (image len : Option ℕ) (sha : Option (List ℕ)) (part : List ℕ) → is_offset (uploads sizes d image len 0 sha part).reply ≡ true
    → (applied (uploads sizes d image len 0 sha part).steps d).target ≡ side_of d.target image 0 sha
start_target sizes d image len sha part =
    upload_cases (λ (r : Response). is_offset r.reply ≡ true → (applied r.steps d).target ≡ i) sizes d image len 0 sha part
    (λ n e. nothing e)
    (λ s n found l z long e.
    subst (λ steps. (applied (on_side i (side_settle_steps s) ++ (steps ++ on_side i (starting sizes s n sha part).steps)) d).target ≡ i)
    (sym (ap (λ b. if b then Run (aim_at i) ∷ [] else []) e)) (aimed i d (side_settle_steps s) (starting sizes s n sha part).steps))
    (λ s found z. absurd (z refl))
  where
    i : ℕ
    i = side_of d.target image 0 sha

    nothing : false ≡ true → {A : Type 0} → A
    nothing h = cc
