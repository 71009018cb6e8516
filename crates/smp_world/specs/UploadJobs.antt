-- What an upload job that is done tells of the device, and what jobs a law speaks of.
use Rattle.std.specs.Prelude.{◌≡◌, ◌⊎◌, ◌<◌, ◌≤◌, ◌^◌, ◌++◌, ℕ, List, length, true, Option, Some, IsSome, Contains}
use Rattle.sha2.specs.Sha256.{sha256}
use Rattle.smp_model.specs.declared.device.AbstractDevice.{AbstractDevice}
use Rattle.smp_model.specs.declared.device.Side.{Side}
use Rattle.smp_model.specs.declared.device.Upload.{Upload}
use Rattle.smp_model.specs.declared.image.ImageInfo.{ImageInfo}
use Rattle.smp_model.specs.declared.upload.Announcement.{Announcement}
use Rattle.smp_model.specs.declared.upload.Ending.{Ending}
use Rattle.smp_model.specs.declared.upload.Ending.TheVariants as endings
use Rattle.smp_model.specs.Image.{good_image}
use Rattle.smp_model.specs.Laws.{OnImage}
use Rattle.smp_model.specs.Steps.{side_at}
use Rattle.smp_jobs.specs.Jobs.{UploadJob, uploads, lists, sets, puts, gets, echoes}
use Rattle.smp_world.specs.Runs.{Event, begins, raw, up, down, quiet, arms, boot}

-- some bytes are the front of others
abbrev pub IsFront : List ℕ → List ℕ → Type 0
IsFront front whole = (rest : List ℕ) × (whole ≡ front ++ rest)

abbrev pub announcement_of : UploadJob → Announcement
announcement_of j = record { length = length j.file; digest = Some (sha256 j.file) }

-- an upload of the job's file, of which these bytes are accepted
abbrev pub upload_of : UploadJob → List ℕ → Option Upload
upload_of j accepted = Some (record { announcement = announcement_of j; accepted = accepted })

-- the upload of its image is complete and is exactly the file
abbrev pub IsWhole : UploadJob → AbstractDevice → Type 0
IsWhole j d = OnImage j.image (λ s. s.upload ≡ upload_of j j.file) d

-- a side whose image that runs has the hash of the file, and is confirmed
pub record RunsConfirmed (j : UploadJob) (side : Side) : Type 0 where
  pub info : ImageInfo
  pub good : good_image side.active ≡ Some info
  pub hash : info.hash ≡ j.hash
  pub confirmed : side.confirmed ≡ true

-- an image that runs was meant, of whichever side, and is confirmed
pub record IsConfirmed (j : UploadJob) (d : AbstractDevice) : Type 0 where
  pub ending : j.ending ≡ endings.Confirm
  pub image : ℕ
  pub runs : OnImage image (RunsConfirmed j) d

-- the secondary slot of its image is pending with exactly the file; or the file's hash is that of an image that runs, which is
-- confirmed
abbrev pub IsMarked : UploadJob → AbstractDevice → Type 0
IsMarked j d = OnImage j.image (λ s. IsSome s.pending × (s.upload ≡ upload_of j j.file)) d ⊎ IsConfirmed j d

-- what a job of this ending tells when it is done
abbrev pub IsDoneBy : UploadJob → Ending → AbstractDevice → Type 0
IsDoneBy j endings.Only d = IsWhole j d
IsDoneBy j endings.Test d = IsMarked j d
IsDoneBy j endings.Confirm d = IsMarked j d

-- the file has bytes, as every image has, and its length can be written; the hash is a SHA-256; a device has two images at most
pub record IsUpload (j : UploadJob) : Type 0 where
  pub some : 0 < length j.file
  pub size : length j.file < 2 ^ 32
  pub hash : length j.hash ≡ 32
  pub image : j.image ≤ 1

-- no raw bytes come, and every upload job that begins is one of these
abbrev pub IsAmong : (UploadJob → Type 0) → Event → Type 0
IsAmong J (begins (uploads k)) = J k
IsAmong J (begins lists) = Unit {0}
IsAmong J (begins (sets settings)) = Unit {0}
IsAmong J (begins (puts name file)) = Unit {0}
IsAmong J (begins (gets name)) = Unit {0}
IsAmong J (begins (echoes text)) = Unit {0}
IsAmong J (raw bytes) = ⊥
IsAmong J (up which) = Unit {0}
IsAmong J (down which) = Unit {0}
IsAmong J (quiet client) = Unit {0}
IsAmong J (arms arm) = Unit {0}
IsAmong J boot = Unit {0}

abbrev pub IsNotRaw : Event → Type 0
IsNotRaw (begins job) = Unit {0}
IsNotRaw (raw bytes) = ⊥
IsNotRaw (up which) = Unit {0}
IsNotRaw (down which) = Unit {0}
IsNotRaw (quiet client) = Unit {0}
IsNotRaw (arms arm) = Unit {0}
IsNotRaw boot = Unit {0}

-- the upload jobs of a schedule
abbrev pub Begun : List Event → UploadJob → Type 0
Begun events j = Contains events (begins (uploads j))

-- upload jobs of which those with one digest have one file
pub record AreTagged (J : UploadJob → Type 0) : Type 0 where
  pub uploads : (j : UploadJob) → J j → IsUpload j
  pub files : (j k : UploadJob) → J j → J k → sha256 j.file ≡ sha256 k.file → j.file ≡ k.file

-- the bytes that were accepted of an upload that announced a digest are a front of the file of each job with that digest
abbrev pub IsTagged : (UploadJob → Type 0) → AbstractDevice → Type 0
IsTagged J d = (image : ℕ) (s : Side) (u : Upload) (digest : List ℕ) (j : UploadJob) → side_at image d ≡ Some s → s.upload ≡ Some u → u.announcement.digest ≡ Some digest
    → J j → sha256 j.file ≡ digest → IsFront u.accepted j.file

-- the hash that a mark names is the one of its file's image
abbrev pub HasOwnHash : UploadJob → Type 0
HasOwnHash j = (info : ImageInfo) → good_image j.file ≡ Some info → info.hash ≡ j.hash

-- upload jobs with different digests and different hashes
pub record AreDifferent (J : UploadJob → Type 0) : Type 0 where
  pub uploads : (j : UploadJob) → J j → IsUpload j
  pub hashes : (j : UploadJob) → J j → HasOwnHash j
  pub digests : (j k : UploadJob) → J j → J k → sha256 j.file ≡ sha256 k.file → j ≡ k
  pub apart : (j k : UploadJob) → J j → J k → j.hash ≡ k.hash → j ≡ k
