-- What is so of every job.
use Rattle.std.specs.Prelude.{◌≡◌, ◌<◌, ℕ, List, [], ◌∷◌, length, Option, Some}
use Rattle.sha2.specs.Sha256.{sha256}
use Rattle.smp_model.specs.Meant.{upload}
use Rattle.smp_model.specs.declared.setting.Setting.{Setting}
use Rattle.smp_model.specs.declared.upload.Ending.TheVariants as endings
use Rattle.smp_reply.specs.Told as told
use Rattle.smp_reply.specs.Told.{Told}
use Rattle.smp_jobs.specs.Jobs.{UploadJob, Job, uploads, sets, gets, asks, ends, done, next, first_of, image_key, got}

abbrev pub FirstIsNext : Type 0
FirstIsNext = (job : Job) → next job [] ≡ asks (first_of job)

abbrev pub MarksAreAnswered : Type 0
MarksAreAnswered = (j : UploadJob) (answer : Told) (earlier : List Told) → (j.ending ≡ endings.Only → ⊥)
    → next (uploads j) (answer ∷ earlier) ≡ ends done → answer ≡ told.done

abbrev pub UploadsAreTagged : Type 0
UploadsAreTagged = (j : UploadJob) (answers : List Told) (image len : Option ℕ) (off : ℕ) (sha : Option (List ℕ)) (part : List ℕ)
    → next (uploads j) answers ≡ asks (upload image len off sha part) → (sha ≡ Some (sha256 j.file)) × (image ≡ image_key j.image)

abbrev pub SavesAreAnswered : Type 0
SavesAreAnswered = (settings : List Setting) (answers : List Told) → next (sets settings) answers ≡ ends done → length settings < length answers

abbrev pub FilesAreWhole : Type 0
FilesAreWhole = (name : List ℕ) (answers : List Told) → next (gets name) answers ≡ ends done → (got answers).len ≡ Some (length (got answers).held)
