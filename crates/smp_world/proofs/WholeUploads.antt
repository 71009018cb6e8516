-- A whole upload of the only job stays whole, whatever its requests do.
use Rattle.std.proofs.Common.{◌≡◌, inl, inr, ◌==◌, ◌&&◌, not, ℕ, List, [], ◌∷◌, ◌++◌, length, Bool, true, false, Option, Some, refl, sym, ap, subst, ◌∙◌, arith, length-append, eq-eqb}
use Rattle.std.specs.Str.{bytes_eq}
use Rattle.std.proofs.lemmas.Slice.Eq.{bytes_eq-Decides}
use Rattle.sha2.specs.Sha256.{sha256}
use Rattle.smp_model.specs.declared.device.AbstractDevice.{AbstractDevice}
use Rattle.smp_model.specs.declared.device.Side.{Side}
use Rattle.smp_model.specs.declared.device.Upload.{Upload}
use Rattle.smp_model.specs.declared.upload.Announcement.{Announcement}
use Rattle.smp_model.specs.Laws.{Along}
use Rattle.smp_model.specs.Sides.{SideStep, Choose, Append, Drop, MarkPending, Confirm, side_apply}
use Rattle.smp_model.specs.Steps.{Step, OnSide, Save, Run, side_at, with_side, apply, applied}
use Rattle.smp_model.specs.Uploads.{is_resumed_by}
use Rattle.smp_world.proofs.Sides.{found_with, side_other, side_saved, side_changed, same_or_other}
use Rattle.smp_jobs.specs.Jobs.{UploadJob}
use Rattle.smp_world.specs.UploadJobs.{IsFront, announcement_of, upload_of, IsWhole}
use Rattle.smp_world.proofs.Fronts.{front_full}
use Rattle.smp_world.proofs.FairSteps.{Uploads, OfJob, IsFair, FairAt}

abbrev pub Only : UploadJob → Uploads
Only j k = k ≡ j

-- Fair steps leave a whole upload of the only job.
abbrev some_upload : UploadJob → Upload
some_upload j = record { announcement = announcement_of j; accepted = j.file }

same_bytes : (a : List ℕ) → bytes_eq (sha256 a) (sha256 a) ≡ true
same_bytes a = (bytes_eq-Decides (sha256 a) (sha256 a)).1 refl

both_are : (b c : Bool) → b ≡ true → c ≡ true → (b && c) ≡ true
both_are true true p q = refl
both_are true false p q = cc
both_are false c p q = cc

resumes_itself : (j : UploadJob) → is_resumed_by (announcement_of j) (announcement_of j) ≡ true
resumes_itself j = both_are (length j.file == length j.file) (bytes_eq (sha256 j.file) (sha256 j.file)) (eq-eqb (length j.file) (length j.file) refl) (same_bytes j.file)

true_false : (b : Bool) → b ≡ true → b ≡ false → ⊥
true_false b p q = cc

spoiled_not : (b c : Bool) → c ≡ true → (b && not c) ≡ true → ⊥
spoiled_not true true e h = cc
spoiled_not true false e h = cc
spoiled_not false c e h = cc

still_whole : (j : UploadJob) (i : ℕ) (x : List ℕ) → OfJob (Only j) i (record { announcement = announcement_of j; accepted = j.file ++ x }) → upload_of j (j.file ++ x) ≡ upload_of j j.file
still_whole j i x f =
    let same : f.job.file ≡ j.file = ap (λ (k : UploadJob). k.file) f.is in
    let front : IsFront (j.file ++ x) j.file = subst (IsFront (j.file ++ x)) same f.front in
    ap (upload_of j) (front_full (j.file ++ x) j.file front (omega (arith, length-append j.file x)))

-- the upload of the side is given by itself
whole_upload : (j : UploadJob) (i : ℕ) (t : SideStep) (s : Side) → IsFair (Only j) i t (record s { upload = upload_of j j.file }) → (side_apply t (record s { upload = upload_of j j.file })).upload ≡ upload_of j j.file
whole_upload j i (Choose a) s h =
    let is : a ≡ announcement_of j = h.0.announced ∙ ap announcement_of h.0.is in
    absurd (true_false (is_resumed_by (announcement_of j) a) (subst (λ (b : Announcement). is_resumed_by (announcement_of j) b ≡ true) (sym is) (resumes_itself j)) h.1)
whole_upload j i (Append x) s h = still_whole j i x h
whole_upload j i Drop s h = absurd (spoiled_not (length j.file == length j.file) (bytes_eq (sha256 j.file) (sha256 j.file)) (same_bytes j.file) h)
whole_upload j i (MarkPending m) s h = refl
whole_upload j i Confirm s h = refl

whole_side : (j : UploadJob) (i : ℕ) (t : SideStep) (s : Side) → s.upload ≡ upload_of j j.file → IsFair (Only j) i t s → (side_apply t s).upload ≡ upload_of j j.file
whole_side j i t s e h = subst (λ (r : Side). (side_apply t r).upload ≡ upload_of j j.file) same (whole_upload j i t s (subst (IsFair (Only j) i t) (sym same) h))
  where
    same : record s { upload = upload_of j j.file } ≡ s
    same = ap (λ (o : Option Upload). record s { upload = o }) (sym e)

whole_step : (j : UploadJob) (e : AbstractDevice) (t : Step) → FairAt (Only j) e t → IsWhole j e → IsWhole j (apply t e)
whole_step j e (OnSide i t) h w = elim (same_or_other i j.image) [
  | inl same ↦ record {
    side = side_apply t w.side;
    found = subst (λ (n : ℕ). side_at j.image (with_side n (side_apply t) e) ≡ Some (side_apply t w.side)) (sym same) (found_with j.image (side_apply t) e w.side w.found);
    fact = whole_side j i t w.side w.fact (h w.side (subst (λ (n : ℕ). side_at n e ≡ Some w.side) (sym same) w.found));
  }
  | inr n ↦ record { side = w.side; found = side_other i j.image (side_apply t) e n ∙ w.found; fact = w.fact }
]
whole_step j e Save h w = record { side = w.side; found = side_saved j.image e ∙ w.found; fact = w.fact }
whole_step j e (Run c) h w = record { side = w.side; found = side_changed j.image c e ∙ w.found; fact = w.fact }

pub whole_steps : (j : UploadJob) (steps : List Step) (d : AbstractDevice) → Along (FairAt (Only j)) d steps → IsWhole j d → IsWhole j (applied steps d)
whole_steps j [] d h w = w
whole_steps j (t ∷ steps) d h w = whole_steps j steps (apply t d) h.1 (whole_step j d t h.0 w)
