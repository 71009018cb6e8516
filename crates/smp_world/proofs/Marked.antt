-- The mark of a job that is answered by no error: its file is pending, or it is an image that runs and is confirmed.
use Rattle.std.proofs.Common.{◌≡◌, ◌⊎◌, inl, inr, ◌<◌, ◌==◌, ◌&&◌, not, if◌then◌else◌, ℕ, List, [], ◌∷◌, length, Bool, true, false, Option, Some, None, Result, Ok, Err, refl, sym, ap, subst, ◌∙◌, arith}
use Rattle.std.specs.Prelude.{IfSome, IsSome}
use Rattle.std.proofs.lemmas.Slice.Eq.{bytes_eq-Decides}
use Rattle.std.proofs.lemmas.Bool.Decides.{nat_tests}
use Rattle.smp_flash.specs.declared.arm.ArmKind.{ArmKind}
use Rattle.smp_flash.specs.declared.arm.ArmKind.TheVariants as arms
use Rattle.smp_model.specs.declared.device.AbstractDevice.{AbstractDevice}
use Rattle.smp_model.specs.declared.device.Side.{Side}
use Rattle.smp_model.specs.declared.device.Sizes.{Sizes}
use Rattle.smp_model.specs.declared.device.Upload.{Upload}
use Rattle.smp_model.specs.declared.image.ImageInfo.{ImageInfo}
use Rattle.smp_model.specs.declared.upload.Announcement.{Announcement}
use Rattle.smp_model.specs.declared.upload.Ending.{Ending}
use Rattle.smp_model.specs.declared.upload.Ending.TheVariants as endings
use Rattle.smp_model.specs.declared.upload.Mark.{Mark}
use Rattle.smp_model.specs.Does.{does}
use Rattle.smp_model.specs.Errors.{IsGroupError}
use Rattle.smp_model.specs.Image.{good_image}
use Rattle.smp_model.specs.ImageGroup as group
use Rattle.smp_model.specs.ImageGroup.{marks, same_mark, has_hash, runs, holds, lists_after, lists_with, confirms_on, marks_on, sets_hash, sets_image, refuses_image}
use Rattle.smp_model.specs.Laws.{OnImage, GoodUpload}
use Rattle.smp_model.specs.Meant.{Meant}
use Rattle.smp_model.specs.Response.{Response, settling}
use Rattle.smp_model.specs.Said as said
use Rattle.smp_model.specs.Said.{Said}
use Rattle.smp_model.specs.Sides.{SideStep, Choose, Append, Drop, MarkPending, Confirm, side_apply}
use Rattle.smp_model.specs.Steps.{Step, OnSide, Save, Run, Part, side_at, with_side, apply, applied, settle, settle_steps}
use Rattle.smp_model.specs.Uploads.{differs, is_complete, uploaded_image}
use Rattle.smp_world.specs.Below.{LawsBelow}
use Rattle.smp_world.proofs.Sides.{applied_more, found_with, side_other, side_saved, side_changed, same_or_other}
use Rattle.smp_device.specs.Goings.{Armed, durable, Went, Goes, IsToldBy, group_of}
use Rattle.smp_jobs.specs.Jobs as jobs
use Rattle.smp_jobs.specs.Jobs.{UploadJob, mark_of}
use Rattle.smp_world.specs.UploadJobs.{announcement_of, upload_of, RunsConfirmed, IsConfirmed, IsMarked}
use Rattle.smp_world.proofs.Cases.{by_if}
use Rattle.smp_world.proofs.Durably.{side_alike, means}
use Rattle.smp_world.proofs.Fronts.{front_full}
use Rattle.smp_world.proofs.Pending.{Lasts, StaysThis, RequestsSame, stays_lasts}
use Rattle.smp_world.proofs.FairSteps.{Uploads, OfJob, OfSome, AllOfJobs, fair_applied, settling_fair}

-- its file is pending, and good
pub record PendingWhole (j : UploadJob) (d : AbstractDevice) : Type 0 where
  pub mark : Mark
  pub stays : StaysThis j.image mark (upload_of j j.file) d
  pub good : GoodUpload (upload_of j j.file)

abbrev pub Marked : UploadJob → AbstractDevice → Type 0
Marked j d = PendingWhole j d ⊎ IsConfirmed j d

pub marked_is : (j : UploadJob) (d : AbstractDevice) → Marked j d → IsMarked j d
marked_is j d (inl p) = inl (record { side = p.stays.side; found = p.stays.found; fact = (subst IsSome (sym p.stays.fact.0) refl, p.stays.fact.1) })
marked_is j d (inr c) = inr c

-- It lasts, whatever comes.
runs_kept : (j : UploadJob) (t : SideStep) (s : Side) → RunsConfirmed j s → RunsConfirmed j (side_apply t s)
runs_kept j (Choose a) s h = record { info = h.info; good = h.good; hash = h.hash; confirmed = h.confirmed }
runs_kept j (Append x) s h = record { info = h.info; good = h.good; hash = h.hash; confirmed = h.confirmed }
runs_kept j Drop s h = record { info = h.info; good = h.good; hash = h.hash; confirmed = h.confirmed }
runs_kept j (MarkPending m) s h = record { info = h.info; good = h.good; hash = h.hash; confirmed = h.confirmed }
runs_kept j Confirm s h = record { info = h.info; good = h.good; hash = h.hash; confirmed = refl }

confirmed_step : (j : UploadJob) (i : ℕ) (t : Step) (d : AbstractDevice) → OnImage i (RunsConfirmed j) d → OnImage i (RunsConfirmed j) (apply t d)
confirmed_step j i (OnSide k t) d h = elim (same_or_other k i) [
  | inl e ↦ record {
    side = side_apply t h.side;
    found = subst (λ (n : ℕ). side_at i (with_side n (side_apply t) d) ≡ Some (side_apply t h.side)) (sym e) (found_with i (side_apply t) d h.side h.found);
    fact = runs_kept j t h.side h.fact;
  }
  | inr n ↦ record { side = h.side; found = side_other k i (side_apply t) d n ∙ h.found; fact = h.fact }
]
confirmed_step j i Save d h = record { side = h.side; found = side_saved i d ∙ h.found; fact = h.fact }
confirmed_step j i (Run c) d h = record { side = h.side; found = side_changed i c d ∙ h.found; fact = h.fact }

confirmed_steps : (j : UploadJob) (i : ℕ) (steps : List Step) (d : AbstractDevice) → OnImage i (RunsConfirmed j) d → OnImage i (RunsConfirmed j) (applied steps d)
confirmed_steps j i [] d h = h
confirmed_steps j i (t ∷ steps) d h = confirmed_steps j i steps (apply t d) (confirmed_step j i t d h)

confirmed_part : (j : UploadJob) (steps : List Step) (d e : AbstractDevice) → IsConfirmed j d → Part d steps e → IsConfirmed j e
confirmed_part j steps d e c p = record {
  ending = c.ending;
  image = c.image;
  runs = subst (OnImage c.image (RunsConfirmed j)) (sym p.reached) (confirmed_steps j c.image p.front d c.runs);
}

pub marked_lasts : RequestsSame → (sizes : Sizes) (j : UploadJob) → Lasts sizes (Marked j)
marked_lasts same sizes j = record {
  boots = record { alike = alike; settling = settling_ };
  requests = requests;
}
  where
    alike : (d e : AbstractDevice) → durable e ≡ durable d → Marked j d → Marked j e
    alike d e h (inl p) = inl (record { mark = p.mark; stays = (stays_lasts same sizes j.image p.mark (upload_of j j.file) p.good).boots.alike d e h p.stays; good = p.good })
    alike d e h (inr c) = inr (record {
      ending = c.ending;
      image = c.image;
      runs = record { side = c.runs.side; found = side_alike c.image d e h ∙ c.runs.found; fact = c.runs.fact };
    })

    settling_ : (d e : AbstractDevice) → Marked j d → Part d (settle_steps d) e → Marked j e
    settling_ d e (inl p) k = inl (record { mark = p.mark; stays = (stays_lasts same sizes j.image p.mark (upload_of j j.file) p.good).boots.settling d e p.stays k; good = p.good })
    settling_ d e (inr c) k = inr (confirmed_part j (settle_steps d) d e c k)

    requests : (d e : AbstractDevice) (m : Meant) → Marked j d → Part d (does sizes d m).steps e → Marked j e
    requests d e m (inl p) k = inl (record { mark = p.mark; stays = (stays_lasts same sizes j.image p.mark (upload_of j j.file) p.good).requests d e m p.stays k; good = p.good })
    requests d e m (inr c) k = inr (confirmed_part j (does sizes d m).steps d e c k)

-- Replies to a mark.

-- an error of the group of images
abbrev pub IsRefusal : ℕ → ℕ → Type 0
IsRefusal g n = (g ≡ 1) × (n < 256) × IsGroupError g n

abbrev pub MarkSaid : UploadJob → AbstractDevice → Said → Type 0
MarkSaid j d (said.images zero_ one) = Marked j d
MarkSaid j d (said.group_error g n) = IsRefusal g n
MarkSaid j d s = ⊥

abbrev FairMark : UploadJob → AbstractDevice → Response → Type 0
FairMark j d r = MarkSaid j (applied r.steps d) r.reply

confirms_is : (e : Ending) → jobs.confirms e ≡ true → e ≡ endings.Confirm
confirms_is endings.Confirm h = refl
confirms_is endings.Test h = cc
confirms_is endings.Only h = cc

-- an image that runs is meant
confirm_said : (j : UploadJob) (i : ℕ) (d : AbstractDevice) (s : Side) (info : ImageInfo) (b c : Bool) → side_at i d ≡ Some s → good_image s.active ≡ Some info → info.hash ≡ j.hash
    → jobs.confirms j.ending ≡ b → s.confirmed ≡ c → FairMark j d (lists_with i (group.confirms b c) d)
confirm_said j i d s info true true found good hash e f =
    inr (record { ending = confirms_is j.ending e; image = i; runs = record { side = s; found = found; fact = record { info = info; good = good; hash = hash; confirmed = f } } })
confirm_said j i d s info true false found good hash e f =
    inr (record {
      ending = confirms_is j.ending e;
      image = i;
      runs = record { side = side_apply Confirm s; found = found_with i (side_apply Confirm) d s found; fact = record { info = info; good = good; hash = hash; confirmed = refl } };
    })
confirm_said j i d s info false c found good hash e f = (refl, omega arith, refl)

confirms_said : (j : UploadJob) (i : ℕ) (d : AbstractDevice) (o : Option Side) → side_at i d ≡ o → runs j.hash o ≡ true → FairMark j d (confirms_on i (jobs.confirms j.ending) o d)
confirms_said j i d None found h = cc
confirms_said j i d (Some s) found h = by_image (good_image s.active) refl h
  where
    by_image : (g : Option ImageInfo) → good_image s.active ≡ g → has_hash j.hash g ≡ true → FairMark j d (lists_with i (group.confirms (jobs.confirms j.ending) s.confirmed) d)
    by_image None e k = cc
    by_image (Some info) e k = confirm_said j i d s info (jobs.confirms j.ending) s.confirmed found e ((bytes_eq-Decides info.hash j.hash).0 k) refl refl

-- the hash that is asked for is that of no file of another job
abbrev pub IsOwn : Uploads → UploadJob → Type 0
IsOwn J j = (k : UploadJob) → J k → (info : ImageInfo) → good_image k.file ≡ Some info → info.hash ≡ j.hash → k ≡ j

-- an upload with that image is the job's whole file
pub record IsHeld (j : UploadJob) (i : ℕ) (u : Option Upload) : Type 0 where
  pub on : i ≡ j.image
  pub whole : u ≡ upload_of j j.file

held_by : (J : Uploads) (j : UploadJob) (i : ℕ) (u : Upload) (info : ImageInfo) → IsOwn J j → (f : OfJob J i u) → length u.accepted ≡ u.announcement.length → good_image u.accepted ≡ Some info → info.hash ≡ j.hash → IsHeld j i (Some u)
held_by J j i u info own f full good hash =
    let size : u.announcement.length ≡ length f.job.file = ap (λ (a : Announcement). a.length) f.announced in
    let whole : u.accepted ≡ f.job.file = front_full u.accepted f.job.file f.front (omega (arith, full, size)) in
    let same : f.job ≡ j = own f.job f.is info (subst (λ (x : List ℕ). good_image x ≡ Some info) whole good) hash in
    record {
      on = sym f.on ∙ ap (λ (k : UploadJob). k.image) same;
      whole = ap Some (ap (λ (a : Announcement). record { announcement = a; accepted = u.accepted }) f.announced ∙ ap (λ (x : List ℕ). record { announcement = announcement_of f.job; accepted = x }) whole)
          ∙ ap (λ (k : UploadJob). upload_of k k.file) same;
    }

held_image : (J : Uploads) (j : UploadJob) (i : ℕ) (u : Option Upload) (info : ImageInfo) → IsOwn J j → OfSome J i u → uploaded_image u ≡ Some info → info.hash ≡ j.hash → IsHeld j i u
held_image J j i None info own f h hash = cc
held_image J j i (Some u) info own f h hash = by_complete (is_complete u) (not (differs u.announcement.digest u.accepted)) refl h
  where
    by_complete : (b c : Bool) → is_complete u ≡ b → (if b && c then good_image u.accepted else None) ≡ Some info → IsHeld j i (Some u)
    by_complete true true e k = held_by J j i u info own f (grind (arith, nat_tests, e)) k hash
    by_complete true false e k = cc
    by_complete false c e k = cc

mark_said : (j : UploadJob) (i : ℕ) (d : AbstractDevice) (s : Side) (m : Mark) (p : Option Mark) → side_at i d ≡ Some s → s.pending ≡ p → IsHeld j i s.upload → GoodUpload (upload_of j j.file)
    → FairMark j d (lists_with i (marks m p) d)
mark_said j i d s m None found is held good = inl (record {
  mark = m;
  stays = subst (λ (n : ℕ). StaysThis n m (upload_of j j.file) (with_side i (side_apply (MarkPending m)) d)) held.on
      (record { side = side_apply (MarkPending m) s; found = found_with i (side_apply (MarkPending m)) d s found; fact = (refl, held.whole) });
  good = good;
})
mark_said j i d s m (Some k) found is held good =
    by_if (λ (r : Result (List SideStep) ℕ). FairMark j d (lists_with i r d)) (same_mark k m) (Ok []) (Err 28)
    (λ _. inl (record { mark = k; stays = subst (λ (n : ℕ). StaysThis n k (upload_of j j.file) d) held.on (record { side = s; found = found; fact = (is, held.whole) }); good = good }))
    (λ _. (refl, omega arith, refl))

marks_said : LawsBelow → (J : Uploads) (j : UploadJob) (i : ℕ) (d : AbstractDevice) (o : Option Side) → IsOwn J j → AllOfJobs J d → side_at i d ≡ o → holds j.hash o ≡ true → FairMark j d (marks_on i (jobs.confirms j.ending) o d)
marks_said law J j i d None own f found h = cc
marks_said law J j i d (Some s) own f found h = by_image (uploaded_image s.upload) refl h
  where
    by_image : (g : Option ImageInfo) → uploaded_image s.upload ≡ g → has_hash j.hash g ≡ true → FairMark j d (lists_with i (marks (group.mark_of (jobs.confirms j.ending)) s.pending) d)
    by_image None e k = cc
    by_image (Some info) e k =
        let held = held_image J j i s.upload info own (f i s found) e ((bytes_eq-Decides info.hash j.hash).0 k) in
        mark_said j i d s (group.mark_of (jobs.confirms j.ending)) s.pending found refl held (subst GoodUpload held.whole ((law.good s.upload).1 (subst IsSome (sym e) refl)))

hash_said : LawsBelow → (J : Uploads) (j : UploadJob) (d : AbstractDevice) → IsOwn J j → AllOfJobs J d → FairMark j d (sets_hash j.hash (jobs.confirms j.ending) d)
hash_said law J j d own f =
    by_if (FairMark j d) (runs j.hash (side_at 0 d)) (confirms_on 0 (jobs.confirms j.ending) (side_at 0 d) d) _ (λ e. confirms_said j 0 d (side_at 0 d) refl e)
    (λ _. by_if (FairMark j d) (runs j.hash (side_at 1 d)) (confirms_on 1 (jobs.confirms j.ending) (side_at 1 d) d) _ (λ e. confirms_said j 1 d (side_at 1 d) refl e)
    (λ _. by_if (FairMark j d) (holds j.hash (side_at 0 d)) (marks_on 0 (jobs.confirms j.ending) (side_at 0 d) d) _ (λ e. marks_said law J j 0 d (side_at 0 d) own f refl e)
    (λ _. by_if (FairMark j d) (holds j.hash (side_at 1 d)) (marks_on 1 (jobs.confirms j.ending) (side_at 1 d) d) (refuses_image 8) (λ e. marks_said law J j 1 d (side_at 1 d) own f refl e)
    (λ _. (refl, omega arith, refl)))))

settling_said : LawsBelow → (J : Uploads) (j : UploadJob) (d : AbstractDevice) → IsOwn J j → AllOfJobs J d → FairMark j d (settling d (sets_hash j.hash (jobs.confirms j.ending)))
settling_said law J j d own f =
    let r = sets_hash j.hash (jobs.confirms j.ending) (settle d) in
    subst (λ (e : AbstractDevice). MarkSaid j e r.reply) (sym (applied_more (settle_steps d) r.steps d))
    (hash_said law J j (settle d) own (fair_applied J (settle_steps d) d (settling_fair J d) f))

pub mark_request_said : LawsBelow → (J : Uploads) (sizes : Sizes) (j : UploadJob) (d : AbstractDevice) → 0 < length j.hash → IsOwn J j → AllOfJobs J d → FairMark j d (does sizes d (mark_of j))
mark_request_said law J sizes j d some own f = by_hash j.hash refl
  where
    by_hash : (h : List ℕ) → j.hash ≡ h → FairMark j d (sets_image d (Some h) (jobs.confirms j.ending))
    by_hash [] e = let n = ap (λ (x : List ℕ). length x) e in absurd (omega (arith, n, some))
    by_hash (x ∷ xs) e =
        by_if (FairMark j d) (length (x ∷ xs) == 32) (settling d (sets_hash (x ∷ xs) (jobs.confirms j.ending))) (refuses_image 24)
        (λ _. subst (λ (h : List ℕ). FairMark j d (settling d (sets_hash h (jobs.confirms j.ending)))) e (settling_said law J j d own f))
        (λ _. (refl, omega arith, refl))

struck_said : (j : UploadJob) (d : AbstractDevice) (k : ArmKind) (reply : Option Said) → IsToldBy k 1 reply → IfSome reply (MarkSaid j d)
struck_said j d arms.Cut reply t = subst (λ (r : Option Said). IfSome r (MarkSaid j d)) (sym t) tt
struck_said j d arms.Fail reply (inl t) = subst (λ (r : Option Said). IfSome r (MarkSaid j d)) (sym t) (refl, omega arith, refl)
struck_said j d arms.Fail reply (inr t) = subst (λ (r : Option Said). IfSome r (MarkSaid j d)) (sym t) (refl, omega arith, refl)
struck_said j d arms.Read reply t = subst (λ (r : Option Said). IfSome r (MarkSaid j d)) (sym t) (refl, omega arith, refl)

-- what came of a packet with the mark
pub mark_goes : LawsBelow → (J : Uploads) (sizes : Sizes) (j : UploadJob) (h : Option Armed) (d : AbstractDevice) (w : Went) → 0 < length j.hash → IsOwn J j → AllOfJobs J d → Goes sizes h d (Ok (mark_of j)) w
    → IfSome w.reply (MarkSaid j (applied w.taken d))
mark_goes law J sizes j h d w some own f (inl p) =
    subst (λ (r : Option Said). IfSome r (MarkSaid j (applied w.taken d))) (sym p.reply)
    (subst (λ (t : List Step). MarkSaid j (applied t d) (does sizes d (mark_of j)).reply) (sym p.taken) (mark_request_said law J sizes j d some own f))
mark_goes law J sizes j h d w some own f (inr p) =
    struck_said j (applied w.taken d) p.arm.kind w.reply (subst (λ (g : ℕ). IsToldBy p.arm.kind g w.reply) (ap group_of (sym (same (mark_of j) p.request p.means))) p.reply)
  where
    same : (m n : Meant) → means m ≡ means n → m ≡ n
    same m n e = cc
