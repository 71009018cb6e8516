-- What the words of a schedule say of jobs is what the laws on jobs ask for.
use Rattle.std.proofs.Common.{◌≡◌, ◌≤◌, ◌<◌, ◌^◌, ◌&&◌, ℕ, List, [], ◌∷◌, length, true, Some, sym, ap, subst, ◌∙◌, arith}
use Rattle.std.specs.Prelude.{nat_le}
use Rattle.std.specs.List.{list_all}
use Rattle.std.specs.Str.{is_utf8}
use Rattle.std.proofs.lemmas.Str.{IsUtf8-from_is_utf8}
use Rattle.smp_cbor.specs.Shortest.{IsText}
use Rattle.smp_edge.specs.Files.{Folder}
use Rattle.smp_jobs.specs.Jobs.{UploadJob, Job, uploads, sets, upload_job}
use Rattle.smp_model.specs.declared.image.ImageInfo.{ImageInfo}
use Rattle.smp_model.specs.declared.setting.Setting.{Setting}
use Rattle.smp_model.specs.declared.upload.Ending.{Ending}
use Rattle.smp_model.specs.Image.{good_image}
use Rattle.smp_model.specs.ImageFaults.{GoodImagesAreWithin}
use Rattle.smp_schedule.specs.Lawful.{ArePairs, IsJob}
use Rattle.smp_schedule.specs.Words.{is_plain}
use Rattle.smp_schedule.specs.declared.job.JobWords.TheVariants as words
use Rattle.smp_world.specs.Schedules.{IsJobOf}
use Rattle.smp_world.specs.SetJobs.{AreTexts}
use Rattle.smp_world.specs.UploadJobs.{IsUpload, HasOwnHash}
use Rattle.smp_world.proofs.Cases.{both}

-- an upload
abbrev upload_of : UploadJob → Job
upload_of j = uploads j

the_upload : (j k : UploadJob) → upload_of j ≡ upload_of k → k ≡ j
the_upload j k e = cc

the_info : (a b : ImageInfo) → Some a ≡ Some b → a ≡ b
the_info a b e = cc

proper : GoodImagesAreWithin → (image : ℕ) (bytes : List ℕ) (info : ImageInfo) (chunk : ℕ) (ending : Ending) → good_image bytes ≡ Some info → image ≤ 1 → length bytes < 2 ^ 32
    → IsUpload (upload_job image bytes info.hash chunk ending) × HasOwnHash (upload_job image bytes info.hash chunk ending)
proper within image bytes info chunk ending good le few =
    let w = within bytes info good in (
      record { some = omega (arith, w.least, w.tlvs, w.«end»); size = few; hash = w.hash; image = le },
      λ other e. ap (λ (x : ImageInfo). x.hash) (the_info other info (sym e ∙ good)),
    )

pub uploads_are_proper : GoodImagesAreWithin → (folder : Folder) (image : ℕ) (file : List ℕ) (chunk : ℕ) (ending : Ending) (j : UploadJob)
    → IsJob (words.Upload image file chunk ending) → IsJobOf folder (words.Upload image file chunk ending) (uploads j) → length j.file < 2 ^ 32 → IsUpload j × HasOwnHash j
uploads_are_proper within folder image file chunk ending j lawful is few =
    let same = the_upload j (upload_job image is.bytes is.info.hash chunk ending) is.is in
    subst (λ (k : UploadJob). IsUpload k × HasOwnHash k) same
    (proper within image is.bytes is.info chunk ending is.good lawful.0 (subst (λ (k : UploadJob). length k.file < 2 ^ 32) (sym same) few))

-- settings
name_is_text : (name : List ℕ) → (nat_le 1 (length name) && (is_utf8 name && list_all is_plain name)) ≡ true → length name ≤ 32 → IsText name
name_is_text name h few = (omega (arith, few), IsUtf8-from_is_utf8 name (both (is_utf8 name) _ (both (nat_le 1 (length name)) _ h).1).0)

pairs_are_texts : (pairs : List Setting) → ArePairs pairs → AreTexts pairs
pairs_are_texts [] h = tt
pairs_are_texts (s ∷ pairs) h =
    let few = h.0.1.1.1 in
    (name_is_text s.name h.0.0.0.0 h.0.0.1, omega (arith, few), pairs_are_texts pairs h.1)

abbrev set_of : List Setting → Job
set_of settings = sets settings

the_settings : (a b : List Setting) → set_of a ≡ set_of b → b ≡ a
the_settings a b e = cc

pub sets_are_proper : (folder : Folder) (pairs settings : List Setting) → IsJob (words.Set pairs) → IsJobOf folder (words.Set pairs) (sets settings) → AreTexts settings × (length settings ≤ 254)
sets_are_proper folder pairs settings lawful is =
    subst (λ (s : List Setting). AreTexts s × (length s ≤ 254)) (the_settings settings pairs is) (pairs_are_texts pairs lawful.1, lawful.0.1)
