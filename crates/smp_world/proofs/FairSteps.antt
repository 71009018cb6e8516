-- What requests of upload jobs make of a side: its upload stays a front of the file of a job for that image.
use Rattle.std.proofs.Common.{◌≡◌, ◌⊎◌, inl, inr, ◌+◌, ◌==◌, ◌&&◌, ◌||◌, nat_lt, if◌then◌else◌, ℕ, zero, suc, List, [], ◌∷◌, ◌++◌, length, take, drop, Bool, true, false, Option, Some, None, refl, sym, subst, ◌∙◌, arith, length-append}
use Rattle.std.specs.Prelude.{IsTrue}
use Rattle.std.proofs.lemmas.List.{take-append-drop}
use Rattle.std.proofs.lemmas.Slice.Eq.{bytes_eq-Decides}
use Rattle.std.proofs.lemmas.Bool.Decides.{nat_tests}
use Rattle.sha2.specs.Sha256.{sha256}
use Rattle.smp_model.specs.declared.device.AbstractDevice.{AbstractDevice}
use Rattle.smp_model.specs.declared.device.Side.{Side}
use Rattle.smp_model.specs.declared.device.Sizes.{Sizes}
use Rattle.smp_model.specs.declared.device.Upload.{Upload}
use Rattle.smp_model.specs.declared.upload.Announcement.{Announcement}
use Rattle.smp_model.specs.declared.upload.Mark.{Mark}
use Rattle.smp_model.specs.Does.{does}
use Rattle.smp_model.specs.Due.{IsUpload as IsUploadRequest, IsErase, Announces, IsSideStepDue, IsStepDue}
use Rattle.smp_model.specs.ImageGroup.{completes, keeps, takes_part, part_at, new_start, resumes, start_at, side_of, is_offset, aims}
use Rattle.smp_model.specs.Laws.{Along}
use Rattle.smp_model.specs.Meant as meant
use Rattle.smp_model.specs.Meant.{Meant}
use Rattle.smp_model.specs.Response.{Response, SideResponse, settling_side}
use Rattle.smp_model.specs.Said.{Said, if_some}
use Rattle.smp_model.specs.Sides.{SideStep, Choose, Append, Drop, MarkPending, Confirm, appended, chosen, side_apply, side_applied, side_settle_steps, side_settle}
use Rattle.smp_model.specs.Steps.{Step, OnSide, Save, Run, aim_at, side_at, apply, applied, on_side, settle_steps, settle_steps_of}
use Rattle.smp_model.specs.Uploads.{differs, is_spoiled, kept, is_resumed_by, same_digest, is_tagged_by}
use Rattle.smp_world.proofs.Due.{AllDue, does_due}
use Rattle.smp_world.specs.Below.{StepsAreDue}
use Rattle.smp_world.proofs.Sides.{SideAlong, lifted, along_more, kept_along, found_after, found_other, side_changed, side_saved, side_step}
use Rattle.smp_world.proofs.Sides.{the_same}
use Rattle.smp_world.proofs.UploadRequests.{upload_cases, starting, aims_leave}
use Rattle.smp_jobs.specs.Jobs.{UploadJob, image_key, start_of, part_of}
use Rattle.smp_world.specs.UploadJobs.{IsFront, announcement_of, AreTagged}
use Rattle.smp_world.proofs.Cases.{by_if}
use Rattle.smp_world.proofs.Fronts.{front_more, front_append, kept_front}

abbrev pub Uploads : Type 1
Uploads = UploadJob → Type 0

-- an upload of a job for this image
pub record OfJob (J : Uploads) (image : ℕ) (u : Upload) : Type 0 where
  pub job : UploadJob
  pub is : J job
  pub on : job.image ≡ image
  pub announced : u.announcement ≡ announcement_of job
  pub front : IsFront u.accepted job.file

abbrev pub OfSome : Uploads → ℕ → Option Upload → Type 0
OfSome J image None = Unit {0}
OfSome J image (Some u) = OfJob J image u

-- another upload was announced, or none
abbrev pub NotResumed : Announcement → Option Upload → Type 0
NotResumed a None = Unit {0}
NotResumed a (Some u) = is_resumed_by u.announcement a ≡ false

-- What a step of these requests does to a side: an upload of a job begins where none goes on, goes on with the job's file, and is
-- given up where it is spoiled.
abbrev pub IsFair : Uploads → ℕ → SideStep → Side → Type 0
IsFair J image (Choose a) s = OfJob J image (chosen a) × NotResumed a s.upload
IsFair J image (Append x) s = OfSome J image (appended s.upload x)
IsFair J image Drop s = is_spoiled s.upload ≡ true
IsFair J image (MarkPending m) s = Unit {0}
IsFair J image Confirm s = Unit {0}

fair_step : (J : Uploads) (i : ℕ) (t : SideStep) (s : Side) → IsFair J i t s → OfSome J i s.upload → OfSome J i (side_apply t s).upload
fair_step J i (Choose a) s h f = h.0
fair_step J i (Append x) s h f = h
fair_step J i Drop s h f = tt
fair_step J i (MarkPending m) s h f = f
fair_step J i Confirm s h f = f

-- One side.
abbrev FairOn : Uploads → ℕ → Side → SideResponse → Type 0
FairOn J i s r = SideAlong (IsFair J i) s r.steps

abbrev held_upload : Announcement → List ℕ → Upload
held_upload a held = record { announcement = a; accepted = held }

abbrev with_held : Side → Announcement → List ℕ → Side
with_held s a held = record s { upload = Some (held_upload a held) }

both : (b c : Bool) → b ≡ true → c ≡ true → (b && c) ≡ true
both true c p q = q
both false c p q = cc

completes_fair : (J : Uploads) (i : ℕ) (s : Side) (a : Announcement) (held x : List ℕ) (digest : Option (List ℕ)) → OfJob J i (held_upload a (held ++ x)) → a.digest ≡ digest → (length (held ++ x) == a.length) ≡ true
    → FairOn J i (with_held s a held) (completes held x digest)
completes_fair J i s a held x None f is full = (f, tt)
completes_fair J i s a held x (Some d) f is full =
    by_if (FairOn J i (with_held s a held)) (differs (Some d) (held ++ x)) _ _
    (λ wrong. (f, (both (length (held ++ x) == a.length) (differs a.digest (held ++ x)) full (subst (λ (o : Option (List ℕ)). differs o (held ++ x) ≡ true) (sym is) wrong), tt))) (λ _. (f, tt))

keeps_fair : (J : Uploads) (i : ℕ) (s : Side) (a : Announcement) (held x : List ℕ) → OfJob J i (held_upload a (held ++ x)) → FairOn J i (with_held s a held) (keeps a held x)
keeps_fair J i s a held [] f = tt
keeps_fair J i s a held (x ∷ xs) f =
    by_if (FairOn J i (with_held s a held)) ((length held + length (x ∷ xs)) == a.length) (completes held (x ∷ xs) a.digest) _
    (λ e. completes_fair J i s a held (x ∷ xs) a.digest f refl (subst (λ (n : ℕ). (n == a.length) ≡ true) (sym (length-append held (x ∷ xs))) e)) (λ _. (f, tt))

takes_fair : (J : Uploads) (i unit : ℕ) (s : Side) (a : Announcement) (held x : List ℕ) → OfJob J i (held_upload a (held ++ x)) → FairOn J i (with_held s a held) (takes_part unit a held x)
takes_fair J i unit s a held x f =
    by_if (FairOn J i (with_held s a held)) (nat_lt a.length (length held + length x)) _ (keeps a held (kept unit a.length (length held) x))
    (λ _. tt)
    (λ _. keeps_fair J i s a held (kept unit a.length (length held) x) (record {
      job = f.job;
      is = f.is;
      on = f.on;
      announced = f.announced;
      front = front_append held (kept unit a.length (length held) x) x f.job.file (kept_front unit a.length (length held) x) f.front;
    }))

chunk_front : (chunk : ℕ) (file : List ℕ) → IsFront (take chunk file) file
chunk_front chunk file = (drop chunk file, sym (take-append-drop chunk file))

new_fair : (J : Uploads) (i unit : ℕ) (s : Side) (j : UploadJob) (p : Option Mark) → J j → j.image ≡ i → NotResumed (announcement_of j) s.upload → FairOn J i s (new_start unit (announcement_of j) (take j.chunk j.file) p)
new_fair J i unit s j (Some m) is on n = tt
new_fair J i unit s j None is on n =
    by_if (FairOn J i s) (nat_lt (length j.file) (length (take j.chunk j.file))) _ _ (λ _. tt)
    (λ _. (
      (record { job = j; is = is; on = on; announced = refl; front = (j.file, refl) }, n),
      takes_fair J i unit s (announcement_of j) [] (take j.chunk j.file) (record { job = j; is = is; on = on; announced = refl; front = chunk_front j.chunk j.file }),
    ))

-- the same digest
both_true : (b c : Bool) → (b && c) ≡ true → (b ≡ true) × (c ≡ true)
both_true true true e = (refl, refl)
both_true true false e = cc
both_true false c e = cc

digests_same : (a : Announcement) (j k : UploadJob) → a ≡ announcement_of k → same_digest a.digest (Some (sha256 j.file)) ≡ true → sha256 k.file ≡ sha256 j.file
digests_same a j k e h =
    (bytes_eq-Decides (sha256 k.file) (sha256 j.file)).0 (subst (λ (b : Announcement). same_digest b.digest (Some (sha256 j.file)) ≡ true) e h)

tags_same : (a : Announcement) (j k : UploadJob) → a ≡ announcement_of k → is_tagged_by (Some (sha256 j.file)) a.digest ≡ true → sha256 k.file ≡ sha256 j.file
tags_same a j k e h =
    sym ((bytes_eq-Decides (sha256 j.file) (sha256 k.file)).0 (subst (λ (b : Announcement). is_tagged_by (Some (sha256 j.file)) b.digest ≡ true) e h))

resumed_fair : (J : Uploads) (i unit : ℕ) (s : Side) (a : Announcement) (held : List ℕ) (j : UploadJob) → AreTagged J → J j → OfJob J i (held_upload a held) → is_resumed_by a (announcement_of j) ≡ true
    → FairOn J i (with_held s a held) (resumes unit a held (take j.chunk j.file))
resumed_fair J i unit s a [] j tagged is f e =
    let same = digests_same a j f.job f.announced (both_true _ _ e).1 in
    takes_fair J i unit s a [] (take j.chunk j.file) (record {
      job = f.job;
      is = f.is;
      on = f.on;
      announced = f.announced;
      front = subst (IsFront (take j.chunk j.file)) (sym (tagged.files f.job j f.is is same)) (chunk_front j.chunk j.file);
    })
resumed_fair J i unit s a (x ∷ xs) j tagged is f e = tt

start_fair : (J : Uploads) (i unit : ℕ) (s : Side) (j : UploadJob) (p : Option Mark) (u : Option Upload) → AreTagged J → J j → j.image ≡ i → OfSome J i u
    → FairOn J i (record s { upload = u }) (start_at unit (announcement_of j) (take j.chunk j.file) p u)
start_fair J i unit s j p None tagged is on f = new_fair J i unit (record s { upload = None }) j p is on tt
start_fair J i unit s j p (Some u) tagged is on f =
    by_if (FairOn J i (record s { upload = Some u })) (is_resumed_by u.announcement (announcement_of j)) (resumes unit u.announcement u.accepted (take j.chunk j.file)) (new_start unit (announcement_of j) (take j.chunk j.file) p)
    (λ e. resumed_fair J i unit s u.announcement u.accepted j tagged is f e) (λ e. new_fair J i unit (record s { upload = Some u }) j p is on e)

part_fair : (J : Uploads) (i unit : ℕ) (s : Side) (j : UploadJob) (off : ℕ) (u : Option Upload) → AreTagged J → J j → OfSome J i u
    → FairOn J i (record s { upload = u }) (part_at unit off (Some (sha256 j.file)) (take j.chunk (drop off j.file)) u)
part_fair J i unit s j off None tagged is f = tt
part_fair J i unit s j off (Some u) tagged is f =
    by_if (FairOn J i (record s { upload = Some u })) ((off == length u.accepted) && is_tagged_by (Some (sha256 j.file)) u.announcement.digest)
    (takes_part unit u.announcement u.accepted (take j.chunk (drop off j.file))) _
    (λ e. let both = both_true (off == length u.accepted) (is_tagged_by (Some (sha256 j.file)) u.announcement.digest) e in
    let same = tagged.files f.job j f.is is (tags_same u.announcement j f.job f.announced both.1) in
    let at : off ≡ length u.accepted = grind (arith, nat_tests, both.0) in
    takes_fair J i unit s u.announcement u.accepted (take j.chunk (drop off j.file)) (record {
      job = f.job;
      is = f.is;
      on = f.on;
      announced = f.announced;
      front = front_more u.accepted (take j.chunk (drop off j.file)) f.job.file f.front
          (subst (λ (k : ℕ). IsFront (take j.chunk (drop off j.file)) (drop k f.job.file)) at
          (subst (λ (file : List ℕ). IsFront (take j.chunk (drop off j.file)) (drop off file)) (sym same) (chunk_front j.chunk (drop off j.file))));
    }))
    (λ _. tt)

-- Devices.
abbrev pub FairAt : Uploads → AbstractDevice → Step → Type 0
FairAt J e (OnSide i t) = (s : Side) → side_at i e ≡ Some s → IsFair J i t s
FairAt J e Save = Unit {0}
FairAt J e (Run c) = Unit {0}

-- each upload is of a job for its image
abbrev pub AllOfJobs : Uploads → AbstractDevice → Type 0
AllOfJobs J d = (i : ℕ) (s : Side) → side_at i d ≡ Some s → OfSome J i s.upload

fair_apply : (J : Uploads) (e : AbstractDevice) (t : Step) → FairAt J e t → AllOfJobs J e → AllOfJobs J (apply t e)
fair_apply J e (OnSide i t) h f = side_step (λ (n : ℕ) (s : Side). OfSome J n s.upload) i (side_apply t) e (λ s g. fair_step J i t s (h s g) (f i s g)) f
fair_apply J e Save h f = λ i s g. f i s (sym (side_saved i e) ∙ g)
fair_apply J e (Run c) h f = λ i s g. f i s (sym (side_changed i c e) ∙ g)

pub fair_applied : (J : Uploads) (steps : List Step) (d : AbstractDevice) → Along (FairAt J) d steps → AllOfJobs J d → AllOfJobs J (applied steps d)
fair_applied J steps d h f = kept_along (FairAt J) (AllOfJobs J) steps d (fair_apply J) h f

settle_fair : (J : Uploads) (i : ℕ) (s : Side) → SideAlong (IsFair J i) s (side_settle_steps s)
settle_fair J i s = by_if (SideAlong (IsFair J i) s) (is_spoiled s.upload) (Drop ∷ []) [] (λ e. (e, tt)) (λ _. tt)

settled_of : (J : Uploads) (i : ℕ) (s : Side) → OfSome J i s.upload → OfSome J i (side_settle s).upload
settled_of J i s f = by_if (λ (steps : List SideStep). OfSome J i (side_applied steps s).upload) (is_spoiled s.upload) (Drop ∷ []) [] (λ _. tt) (λ _. f)

on_fair : (J : Uploads) (i : ℕ) (d : AbstractDevice) (s : Side) (t : SideStep) → side_at i d ≡ Some s → IsFair J i t s → FairAt J d (OnSide i t)
on_fair J i d s t found h = λ r g. subst (IsFair J i t) (sym (the_same s r (side_at i d) found g)) h

fair_between : (J : Uploads) (i : ℕ) (d : AbstractDevice) (s : Side) (between : List Step) (r : SideResponse) → side_at i d ≡ Some s
    → ((e : AbstractDevice) → side_at i (applied between e) ≡ side_at i e) → ((e : AbstractDevice) → Along (FairAt J) e between)
    → FairOn J i (side_settle s) r → Along (FairAt J) d (settling_side i s between r).steps
fair_between J i d s between r found same fair h =
    let settled = applied (on_side i (side_settle_steps s)) d in
    let there = found_after i (side_settle_steps s) d s found in
    along_more (FairAt J) (on_side i (side_settle_steps s)) (between ++ on_side i r.steps) d
    (lifted (FairAt J) (IsFair J i) i (on_fair J i) (side_settle_steps s) d s found (settle_fair J i s))
    (along_more (FairAt J) between (on_side i r.steps) settled (fair settled)
    (lifted (FairAt J) (IsFair J i) i (on_fair J i) r.steps (applied between settled) (side_settle s) (same settled ∙ there) h))

aims_fair : (J : Uploads) (i : ℕ) (reply : Said) (e : AbstractDevice) → Along (FairAt J) e (aims i reply)
aims_fair J i reply e = by_if (Along (FairAt J) e) (is_offset reply) (Run (aim_at i) ∷ []) [] (λ _. (tt, tt)) (λ _. tt)

-- the image of a job's requests
pub side_is : (n target off : ℕ) (tag : List ℕ) → side_of target (image_key n) off (Some tag) ≡ n
side_is zero target off tag = either (off == 0)
  where
    either : (b : Bool) → (if b || true then 0 else target) ≡ zero
    either true = refl
    either false = refl
side_is (suc n) target off tag = refl

the_number : (m n : ℕ) → Some m ≡ Some n → n ≡ m
the_number m n e = cc

-- a request that leaves each upload one of a job for its image
abbrev pub IsFairRequest : Uploads → Meant → Type 0
IsFairRequest J m = (sizes : Sizes) (d : AbstractDevice) → AllOfJobs J d → Along (FairAt J) d (does sizes d m).steps

pub start_request_fair : (J : Uploads) (j : UploadJob) → AreTagged J → J j → IsFairRequest J (start_of j)
start_request_fair J j tagged is = λ sizes d f.
    let i = side_of d.target (image_key j.image) 0 (Some (sha256 j.file)) in
    let on : j.image ≡ i = sym (side_is j.image d.target 0 (sha256 j.file)) in
    upload_cases (λ (r : Response). Along (FairAt J) d r.steps) sizes d (image_key j.image) (Some (length j.file)) 0 (Some (sha256 j.file)) (take j.chunk j.file)
    (λ n. tt)
    (λ s n found l z long. subst (λ (k : ℕ). Along (FairAt J) d (settling_side i s (aims i (starting sizes s k (Some (sha256 j.file)) (take j.chunk j.file)).reply) (starting sizes s k (Some (sha256 j.file)) (take j.chunk j.file))).steps)
    (sym (the_number (length j.file) n l))
    (fair_between J i d s (aims i (starting sizes s (length j.file) (Some (sha256 j.file)) (take j.chunk j.file)).reply) (starting sizes s (length j.file) (Some (sha256 j.file)) (take j.chunk j.file)) found
    (aims_leave i i (starting sizes s (length j.file) (Some (sha256 j.file)) (take j.chunk j.file)).reply) (aims_fair J i (starting sizes s (length j.file) (Some (sha256 j.file)) (take j.chunk j.file)).reply)
    (start_fair J i sizes.unit (side_settle s) j s.pending (side_settle s).upload tagged is on (settled_of J i s (f i s found)))))
    (λ s found z. absurd (z refl))

no_length : (n : ℕ) → None ≡ Some n → ⊥
no_length n e = cc

pub part_request_fair : (J : Uploads) (j : UploadJob) (off : ℕ) → AreTagged J → J j → IsFairRequest J (part_of j off)
part_request_fair J j off tagged is = λ sizes d f.
    let i = side_of d.target (image_key j.image) off (Some (sha256 j.file)) in
    upload_cases (λ (r : Response). Along (FairAt J) d r.steps) sizes d (image_key j.image) None off (Some (sha256 j.file)) (take j.chunk (drop off j.file))
    (λ n. tt)
    (λ s n found l z long. absurd (no_length n l))
    (λ s found z. fair_between J i d s [] (part_at sizes.unit off (Some (sha256 j.file)) (take j.chunk (drop off j.file)) (side_settle s).upload) found (λ e. refl) (λ e. tt)
    (part_fair J i sizes.unit (side_settle s) j off (side_settle s).upload tagged is (settled_of J i s (f i s found))))

-- Requests that are no uploads and no erases.
abbrev pub IsElse : Meant → Type 0
IsElse m = (IsUploadRequest m → ⊥) × (IsErase m → ⊥)

announces_upload : (a : Announcement) (m : Meant) → Announces a m → IsUploadRequest m
announces_upload a (meant.upload image len off sha part) h = tt
announces_upload a m h = absurd h

drops_fair : (m : Meant) (s : Side) → (IsErase m → ⊥) → IsTrue (is_spoiled s.upload) ⊎ (IsErase m × (s.pending ≡ None)) → is_spoiled s.upload ≡ true
drops_fair m s n (inl h) = h
drops_fair m s n (inr h) = absurd (n h.0)

due_fair : (J : Uploads) (sizes : Sizes) (m : Meant) (i : ℕ) (t : SideStep) (s : Side) → IsElse m → IsSideStepDue sizes m t s → IsFair J i t s
due_fair J sizes m i (Choose a) s n h = absurd (n.0 (announces_upload a m h.1.1))
due_fair J sizes m i (Append x) s n h = absurd (n.0 h.1)
due_fair J sizes m i Drop s n h = drops_fair m s n.1 h
due_fair J sizes m i (MarkPending k) s n h = tt
due_fair J sizes m i Confirm s n h = tt

step_fair : (J : Uploads) (sizes : Sizes) (target : ℕ) (m : Meant) (e : AbstractDevice) (t : Step) → IsElse m → IsStepDue sizes target m e t → FairAt J e t
step_fair J sizes target m e (OnSide i t) n h = λ s g. due_fair J sizes m i t s n (subst (IsSideStepDue sizes m t) (the_same s h.1.side (side_at i e) g h.1.found) h.1.fact)
step_fair J sizes target m e Save n h = tt
step_fair J sizes target m e (Run c) n h = tt

steps_fair : (J : Uploads) (sizes : Sizes) (target : ℕ) (m : Meant) → IsElse m → (steps : List Step) (d : AbstractDevice) → AllDue sizes target m d steps → Along (FairAt J) d steps
steps_fair J sizes target m n [] d h = tt
steps_fair J sizes target m n (t ∷ steps) d h = (step_fair J sizes target m d t n h.0, steps_fair J sizes target m n steps (apply t d) h.1)

pub other_request_fair : StepsAreDue → (J : Uploads) (m : Meant) → IsElse m → IsFairRequest J m
other_request_fair law J m n = λ sizes d f. steps_fair J sizes d.target m n (does sizes d m).steps d (does_due law sizes d m)

-- Settling.
settling_one : (J : Uploads) (i : ℕ) (d e : AbstractDevice) → side_at i e ≡ side_at i d → Along (FairAt J) e (settle_steps_of i d)
settling_one J i d e same = by_side (side_at i d) same
  where
    by_side : (o : Option Side) → side_at i e ≡ o → Along (FairAt J) e (if_some o (λ s. on_side i (side_settle_steps s)))
    by_side None found = tt
    by_side (Some s) found = lifted (FairAt J) (IsFair J i) i (on_fair J i) (side_settle_steps s) e s found (settle_fair J i s)

-- the first side does not move the second
second_there : (d : AbstractDevice) → side_at 1 (applied (settle_steps_of 0 d) d) ≡ side_at 1 d
second_there d = found_other 0 1 (side_settle_steps d.first) d (λ e. cc)

pub settling_fair : (J : Uploads) (d : AbstractDevice) → Along (FairAt J) d (settle_steps d)
settling_fair J d =
    along_more (FairAt J) (settle_steps_of 0 d) (settle_steps_of 1 d) d
    (settling_one J 0 d d refl)
    (settling_one J 1 d (applied (settle_steps_of 0 d) d) (second_there d))
