-- Where the files are told, a schedule fixes its flash and its jobs, and these fix its events.
use Rattle.std.proofs.Common.{◌≡◌, ℕ, List, [], ◌∷◌, Option, Some, None, refl, sym, ap, subst, ◌∙◌}
use Rattle.smp_edge.specs.Files.{Folder}
use Rattle.smp_flash.specs.declared.geometry.Geometry.{Geometry}
use Rattle.smp_jobs.specs.Jobs.{Job, uploads, puts, upload_job}
use Rattle.smp_model.specs.declared.image.ImageInfo.{ImageInfo}
use Rattle.smp_model.specs.declared.upload.Ending.{Ending}
use Rattle.smp_model.specs.Image.{good_image}
use Rattle.smp_schedule.specs.declared.event.Event.{Event as Said}
use Rattle.smp_schedule.specs.declared.event.Event.TheVariants as said
use Rattle.smp_schedule.specs.declared.flash_line.FlashLine.{FlashLine}
use Rattle.smp_schedule.specs.declared.job.JobWords.{JobWords}
use Rattle.smp_schedule.specs.declared.job.JobWords.TheVariants as words
use Rattle.smp_world.specs.Runs.{Event}
use Rattle.smp_world.specs.Schedules.{Flash, IsSecond, IsFlash, IsUploadOf, IsPutOf, IsJobOf, AreJobsOf, event_of, AreEventsOf}

abbrev pub Files : Type 0
Files = List ℕ → Option (List ℕ)

-- the folder that is told
abbrev pub told : Files → Folder
told files = Some files

one_content : (o : Option (List ℕ)) (a b : List ℕ) → o ≡ Some a → o ≡ Some b → a ≡ b
one_content o a b e f = same a b (sym e ∙ f)
  where
    same : (a b : List ℕ) → Some a ≡ Some b → a ≡ b
    same a b e = cc

-- the flash
one_second : (files : Files) (name a b : Option (List ℕ)) → IsSecond (told files) name a → IsSecond (told files) name b → a ≡ b
one_second files None None None h k = refl
one_second files (Some name) (Some a) (Some b) h k = ap Some (one_content (files name) a b h k)
one_second files None (Some a) b h k = absurd h
one_second files None None (Some b) h k = absurd k
one_second files (Some name) None b h k = absurd h
one_second files (Some name) (Some a) None h k = absurd k

same_flash : (a b : Flash) → a.geometry ≡ b.geometry → a.image ≡ b.image → a.second ≡ b.second → a ≡ b
same_flash a b g i s =
    ap (λ (x : Geometry). record { geometry = x; image = a.image; second = a.second }) g
    ∙ ap (λ (x : List ℕ). record { geometry = b.geometry; image = x; second = a.second }) i
    ∙ ap (λ (x : Option (List ℕ)). record { geometry = b.geometry; image = b.image; second = x }) s

pub one_flash : (files : Files) (line : Option FlashLine) (a b : Flash) → IsFlash (told files) line a → IsFlash (told files) line b → a ≡ b
one_flash files None a b h k = h ∙ sym k
one_flash files (Some line) a b h k =
    same_flash a b (h.geometry ∙ sym k.geometry) (one_content (files line.image) a.image b.image h.image k.image) (one_second files line.second a.second b.second h.second k.second)

-- the jobs
one_info : (a b : ImageInfo) (o : Option ImageInfo) → o ≡ Some a → o ≡ Some b → a ≡ b
one_info a b o e f = same a b (sym e ∙ f)
  where
    same : (a b : ImageInfo) → Some a ≡ Some b → a ≡ b
    same a b e = cc

one_upload : (files : Files) (image : ℕ) (file : List ℕ) (chunk : ℕ) (ending : Ending) (a b : Job)
    → IsUploadOf (told files) image file chunk ending a → IsUploadOf (told files) image file chunk ending b → a ≡ b
one_upload files image file chunk ending a b h k =
    let bytes : h.bytes ≡ k.bytes = one_content (files file) h.bytes k.bytes h.holds k.holds in
    let info : h.info ≡ k.info = one_info h.info k.info (good_image k.bytes) (subst (λ (x : List ℕ). good_image x ≡ Some h.info) bytes h.good) k.good in
    h.is
    ∙ ap (λ (x : List ℕ). uploads (upload_job image x h.info.hash chunk ending)) bytes
    ∙ ap (λ (i : ImageInfo). uploads (upload_job image k.bytes i.hash chunk ending)) info
    ∙ sym k.is

one_put : (files : Files) (file name : List ℕ) (a b : Job) → IsPutOf (told files) file name a → IsPutOf (told files) file name b → a ≡ b
one_put files file name a b h k = h.is ∙ ap (λ (x : List ℕ). puts name x) (one_content (files file) h.bytes k.bytes h.holds k.holds) ∙ sym k.is

one_job : (files : Files) (w : JobWords) (a b : Job) → IsJobOf (told files) w a → IsJobOf (told files) w b → a ≡ b
one_job files (words.Upload image file chunk ending) a b h k = one_upload files image file chunk ending a b h k
one_job files words.List a b h k = h ∙ sym k
one_job files (words.Set pairs) a b h k = h ∙ sym k
one_job files (words.Put file name) a b h k = one_put files file name a b h k
one_job files (words.Get name) a b h k = h ∙ sym k
one_job files (words.Echo text) a b h k = h ∙ sym k

both_same : (a b : Job) (xs ys : List Job) → a ≡ b → xs ≡ ys → a ∷ xs ≡ b ∷ ys
both_same a b xs ys e f = ap (λ (x : Job). x ∷ xs) e ∙ ap (λ (x : List Job). b ∷ x) f

pub one_jobs : (files : Files) (lines : List Said) (xs ys : List Job) → AreJobsOf (told files) lines xs → AreJobsOf (told files) lines ys → xs ≡ ys
one_jobs files [] [] [] h k = refl
one_jobs files [] (a ∷ xs) ys h k = absurd h
one_jobs files [] [] (b ∷ ys) h k = absurd k
one_jobs files (said.Client n w ∷ lines) (a ∷ xs) (b ∷ ys) h k = both_same a b xs ys (one_job files w a b h.0 k.0) (one_jobs files lines xs ys h.1 k.1)
one_jobs files (said.Client n w ∷ lines) [] ys h k = absurd h
one_jobs files (said.Client n w ∷ lines) (a ∷ xs) [] h k = absurd k
one_jobs files (said.Raw bytes ∷ lines) xs ys h k = one_jobs files lines xs ys h k
one_jobs files (said.Up which ∷ lines) xs ys h k = one_jobs files lines xs ys h k
one_jobs files (said.Down which ∷ lines) xs ys h k = one_jobs files lines xs ys h k
one_jobs files (said.Quiet n ∷ lines) xs ys h k = one_jobs files lines xs ys h k
one_jobs files (said.Armed arm ∷ lines) xs ys h k = one_jobs files lines xs ys h k
one_jobs files (said.Boot ∷ lines) xs ys h k = one_jobs files lines xs ys h k

-- the events
one_event : (o : Option Event) (a b : Event) → o ≡ Some a → o ≡ Some b → a ≡ b
one_event o a b e f = same a b (sym e ∙ f)
  where
    same : (a b : Event) → Some a ≡ Some b → a ≡ b
    same a b e = cc

pub one_events : (jobs : List Job) (lines : List Said) (xs ys : List Event) → AreEventsOf jobs lines xs → AreEventsOf jobs lines ys → xs ≡ ys
one_events jobs [] [] [] h k = refl
one_events jobs (line ∷ lines) (a ∷ xs) (b ∷ ys) h k =
    ap (λ (x : Event). x ∷ xs) (one_event (event_of jobs line) a b h.0 k.0) ∙ ap (λ (x : List Event). b ∷ x) (one_events jobs lines xs ys h.1 k.1)
one_events jobs [] (a ∷ xs) ys h k = absurd h
one_events jobs [] [] (b ∷ ys) h k = absurd k
one_events jobs (line ∷ lines) [] ys h k = absurd h
one_events jobs (line ∷ lines) (a ∷ xs) [] h k = absurd k
