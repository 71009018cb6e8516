-- Jobs that upload nothing: what they ask for leaves the slots as they are.
use Rattle.std.proofs.Common.{◌≡◌, ◌++◌, not, if◌then◌else◌, ℕ, zero, suc, List, [], ◌∷◌, Bool, false, Option, Some, None, refl, sym, ap, subst, ◌∙◌, append-nil}
use Rattle.smp_model.specs.declared.device.AbstractDevice.{AbstractDevice}
use Rattle.smp_model.specs.declared.device.Side.{Side}
use Rattle.smp_model.specs.Laws.{IsAboutImages, SameImages}
use Rattle.smp_model.specs.declared.device.Sizes.{Sizes}
use Rattle.smp_model.specs.declared.setting.Setting.{Setting}
use Rattle.smp_model.specs.declared.upload.Announcement.{Announcement}
use Rattle.smp_model.specs.Does.{does}
use Rattle.smp_model.specs.Meant as meant
use Rattle.smp_model.specs.Meant.{Meant}
use Rattle.smp_model.specs.Said.{if_some}
use Rattle.smp_model.specs.Uploads.{is_spoiled}
use Rattle.smp_model.specs.declared.device.Upload.{Upload}
use Rattle.smp_model.specs.Sides.{Drop, side_settle_steps}
use Rattle.smp_model.specs.Steps.{Step, side_at, on_side, applied, settle_steps, settle_steps_of}
use Rattle.smp_world.specs.Below.{LawsBelow}
use Rattle.smp_reply.specs.Told.{Told}
use Rattle.smp_jobs.specs.Clients.{Client, begun}
use Rattle.smp_device.specs.Goings.{durable}
use Rattle.smp_jobs.specs.Jobs.{UploadJob, Job, uploads, lists, sets, puts, gets, echoes, nth_of_set, next, first_of, first_of_set}
use Rattle.smp_world.specs.Deliveries.{NoUpload}
use Rattle.smp_world.specs.Runs.{begins, Mail}
use Rattle.smp_world.specs.UploadJobs.{IsUpload}
use Rattle.smp_world.proofs.Durably.{side_alike}
use Rattle.smp_world.proofs.WholeUploads.{Only}
use Rattle.smp_world.proofs.OneJob.{only_tagged}
use Rattle.smp_world.proofs.FairSteps.{OfSome, AllOfJobs, fair_applied, IsFairRequest, start_request_fair, part_request_fair}
use Rattle.smp_world.proofs.UploadClients.{IsPartOf, the_start, a_part}
use Rattle.smp_world.proofs.OtherRequests.{IsOther}
use Rattle.smp_world.proofs.PartsTaken.{holds_not_spoiled}
use Rattle.smp_world.proofs.ClientKinds.{AsksFor, HasKind, put_kind, get_kind, one_kind, set_kind}

abbrev pub mail_of : Client → Mail
mail_of c = record { client = 1; message = c.request.packet }

-- The other jobs.
sets_other : (settings : List Setting) (n : ℕ) → AsksFor IsOther (nth_of_set settings n)
sets_other [] zero = tt
sets_other [] (suc n) = tt
sets_other (s ∷ settings) zero = tt
sets_other (s ∷ settings) (suc n) = sets_other settings n

other_next : (job : Job) → NoUpload (begins job) → (answers : List Told) → AsksFor IsOther (next job answers)
other_next (uploads j) s answers = absurd s
other_next lists s answers = one_kind IsOther meant.image_list tt answers
other_next (sets settings) s answers = set_kind IsOther settings (sets_other settings) answers
other_next (puts name file) s answers = put_kind IsOther name file tt (λ off. tt) answers
other_next (gets name) s answers = get_kind IsOther name (λ off. tt) answers
other_next (echoes text) s answers = one_kind IsOther (meant.echo text) tt answers

first_other : (settings : List Setting) → IsOther (first_of_set settings)
first_other [] = tt
first_other (s ∷ settings) = tt

other_first : (job : Job) → NoUpload (begins job) → IsOther (first_of job)
other_first (uploads j) s = absurd s
other_first lists s = tt
other_first (sets settings) s = first_other settings
other_first (puts name file) s = tt
other_first (gets name) s = tt
other_first (echoes text) s = tt

pub other_begun : (job : Job) → NoUpload (begins job) → HasKind IsOther (begun job)
other_begun job s = record { job = other_next job s; packet = record { sequence = 0; request = first_of job; kind = other_first job s; packet = refl } }

-- the same slots
abbrev pub SameSides : AbstractDevice → AbstractDevice → Type 0
SameSides d e = (i : ℕ) → side_at i e ≡ side_at i d

abbrev pub Clean : UploadJob → AbstractDevice → Type 0
Clean j d = AllOfJobs (Only j) d

pub clean_same : (j : UploadJob) (d e : AbstractDevice) → SameSides d e → Clean j d → Clean j e
clean_same j d e same f = λ i s g. f i s (sym (same i) ∙ g)

-- an upload of the job is not spoiled
not_spoiled : (j : UploadJob) (i : ℕ) (u : Option Upload) → OfSome (Only j) i u → is_spoiled u ≡ false
not_spoiled j i None f = refl
not_spoiled j i (Some u) f = subst (λ (a : Announcement). is_spoiled (Some (record { announcement = a; accepted = u.accepted })) ≡ false) (sym f.announced) (holds_not_spoiled f.job u.accepted f.front)

settles_none : (j : UploadJob) (i : ℕ) (d : AbstractDevice) (o : Option Side) → side_at i d ≡ o → Clean j d → if_some o (λ s. on_side i (side_settle_steps s)) ≡ []
settles_none j i d None found f = refl
settles_none j i d (Some s) found f = ap (λ (b : Bool). on_side i (if b then Drop ∷ [] else [])) (not_spoiled j i s.upload (f i s found))

pub settle_nothing : (j : UploadJob) (d : AbstractDevice) → Clean j d → settle_steps d ≡ []
settle_nothing j d f = ap (λ (t : List Step). t ++ settle_steps_of 1 d) (settles_none j 0 d (side_at 0 d) refl f) ∙ settles_none j 1 d (side_at 1 d) refl f

pub by_durable : (d e : AbstractDevice) → durable e ≡ durable d → SameSides d e
by_durable d e h = λ i. side_alike i d e h

by_steps : (d : AbstractDevice) (t u : List Step) → t ≡ u → SameSides (applied u d) (applied t d)
by_steps d t u e = λ i. ap (λ (x : List Step). side_at i (applied x d)) e

-- their requests leave the slots as they are
by_images : (d e : AbstractDevice) → SameImages d e → SameSides d e
by_images d e h zero = ap some h.first
  where
    some : Side → Option Side
    some s = Some s
by_images d e h (suc zero) = h.second
by_images d e h (suc (suc n)) = refl

no_images : LawsBelow → (sizes : Sizes) (d : AbstractDevice) (m : Meant) → (IsAboutImages m → ⊥) → SameSides d (applied (does sizes d m).steps d)
no_images law sizes d m not =
    by_images d (applied (does sizes d m).steps d) (law.images sizes d (applied (does sizes d m).steps d) m not (record {
      front = (does sizes d m).steps;
      rest = [];
      split = sym (append-nil (does sizes d m).steps);
      reached = refl;
    }))

pub other_side : LawsBelow → (sizes : Sizes) (j : UploadJob) (d : AbstractDevice) (m : Meant) → IsOther m → Clean j d → SameSides d (applied (does sizes d m).steps d)
other_side law sizes j d meant.image_list i f = by_steps d (settle_steps d ++ []) [] (ap (λ (t : List Step). t ++ []) (settle_nothing j d f))
other_side law sizes j d (meant.echo text) i f = no_images law sizes d (meant.echo text) (λ h. h)
other_side law sizes j d (meant.setting_write name val) i f = no_images law sizes d (meant.setting_write name val) (λ h. h)
other_side law sizes j d meant.save i f = no_images law sizes d meant.save (λ h. h)
other_side law sizes j d (meant.file_read off name) i f = no_images law sizes d (meant.file_read off name) (λ h. h)
other_side law sizes j d (meant.file_write off part len name) i f = no_images law sizes d (meant.file_write off part len name) (λ h. h)
other_side law sizes j d m i f = absurd i

-- requests of the upload's parts are fair
pub part_fair : (j : UploadJob) (r : Meant) → IsUpload j → IsPartOf j r → IsFairRequest (Only j) r
part_fair j r is (the_start e) = subst (IsFairRequest (Only j)) (sym e) (start_request_fair (Only j) j (only_tagged j is) refl)
part_fair j r is (a_part off some le e) = subst (IsFairRequest (Only j)) (sym e) (part_request_fair (Only j) j off (only_tagged j is) refl)

pub clean_after : (j : UploadJob) (sizes : Sizes) (d : AbstractDevice) (r : Meant) → IsFairRequest (Only j) r → Clean j d → Clean j (applied (does sizes d r).steps d)
clean_after j sizes d r fair f = fair_applied (Only j) (does sizes d r).steps d (fair sizes d f) f
