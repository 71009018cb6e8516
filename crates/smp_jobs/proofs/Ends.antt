-- When a job asks and when it is done.
use Rattle.std.proofs.Common.{◌≡◌, ◌<◌, ℕ, zero, suc, List, [], ◌∷◌, length, Bool, true, false, Option, Some, None, refl, ap, ◌∙◌, arith}
use Rattle.std.specs.Prelude.{if◌then◌else◌, ◌==◌}
use Rattle.std.proofs.lemmas.Bool.Decides.{nat_tests}
use Rattle.sha2.specs.Sha256.{sha256}
use Rattle.smp_model.specs.Meant.{Meant, upload}
use Rattle.smp_model.specs.declared.setting.Setting.{Setting}
use Rattle.smp_model.specs.declared.upload.Ending.{Ending}
use Rattle.smp_model.specs.declared.upload.Ending.TheVariants as endings
use Rattle.smp_reply.specs.Told as told
use Rattle.smp_reply.specs.Told.{Told}
use Rattle.smp_jobs.specs.Jobs.{UploadJob, uploads, lists, sets, puts, gets, echoes, Next, asks, ends, done, next, first_of, image_key, got, at_end, from_offset, start_of, part_of, is_outside, nth_of_set, is_all}
use Rattle.smp_jobs.specs.Laws.{FirstIsNext, MarksAreAnswered, UploadsAreTagged, SavesAreAnswered, FilesAreWhole}

first_set : (settings : List Setting) → next (sets settings) [] ≡ asks (first_of (sets settings))
first_set [] = refl
first_set (s ∷ settings) = refl

pub first_is_next : FirstIsNext
first_is_next (uploads j) = refl
first_is_next lists = refl
first_is_next (sets settings) = first_set settings
first_is_next (puts name file) = refl
first_is_next (gets name) = refl
first_is_next (echoes text) = refl

-- at the end of an upload that marks, the mark is asked for
not_at_end : (j : UploadJob) (e : Ending) → (e ≡ endings.Only → ⊥) → at_end j e ≡ ends done → ⊥
not_at_end j endings.Only marks h = marks refl
not_at_end j endings.Test marks h = absurd cc
not_at_end j endings.Confirm marks h = absurd cc

abbrev offset_if : Bool → UploadJob → ℕ → Next
offset_if b j off = if b then at_end j j.ending else asks (if is_outside off j.file then start_of j else part_of j off)

not_done : (j : UploadJob) (b : Bool) (off : ℕ) → (j.ending ≡ endings.Only → ⊥) → offset_if b j off ≡ ends done → ⊥
not_done j true off marks h = not_at_end j j.ending marks h
not_done j false off marks h = absurd cc

not_by_offset : (j : UploadJob) (off : ℕ) (matched : Option Bool) → (j.ending ≡ endings.Only → ⊥) → from_offset j off matched ≡ ends done → ⊥
not_by_offset j off None marks h = not_done j (off == length j.file) off marks h
not_by_offset j off (Some true) marks h = not_done j (off == length j.file) off marks h
not_by_offset j off (Some false) marks h = absurd cc

pub marks_are_answered : MarksAreAnswered
marks_are_answered j (told.refused group number) earlier marks h = absurd cc
marks_are_answered j told.done earlier marks h = refl
marks_are_answered j (told.echo text) earlier marks h = absurd cc
marks_are_answered j (told.images values) earlier marks h = absurd cc
marks_are_answered j (told.offset off matched) earlier marks h = absurd (not_by_offset j off matched marks h)
marks_are_answered j (told.file_part off len part) earlier marks h = absurd cc

-- a request that is tagged, where it is a part
abbrev IsTagged : UploadJob → Next → Type 0
IsTagged j n = (image len : Option ℕ) (off : ℕ) (sha : Option (List ℕ)) (part : List ℕ) → n ≡ asks (upload image len off sha part)
    → (sha ≡ Some (sha256 j.file)) × (image ≡ image_key j.image)

start_is_tagged : (j : UploadJob) → IsTagged j (asks (start_of j))
start_is_tagged j image len off sha part h = (cc, cc)

sent_is_tagged : (j : UploadJob) (b : Bool) (from : ℕ) → IsTagged j (asks (if b then start_of j else part_of j from))
sent_is_tagged j true from image len off sha part h = (cc, cc)
sent_is_tagged j false from image len off sha part h = (cc, cc)

end_is_tagged : (j : UploadJob) (e : Ending) → IsTagged j (at_end j e)
end_is_tagged j endings.Only image len off sha part h = absurd cc
end_is_tagged j endings.Test image len off sha part h = absurd cc
end_is_tagged j endings.Confirm image len off sha part h = absurd cc

offset_is_tagged : (j : UploadJob) (b : Bool) (from : ℕ) → IsTagged j (offset_if b j from)
offset_is_tagged j true from = end_is_tagged j j.ending
offset_is_tagged j false from = sent_is_tagged j (is_outside from j.file) from

from_is_tagged : (j : UploadJob) (from : ℕ) (matched : Option Bool) → IsTagged j (from_offset j from matched)
from_is_tagged j from None = offset_is_tagged j (from == length j.file) from
from_is_tagged j from (Some true) = offset_is_tagged j (from == length j.file) from
from_is_tagged j from (Some false) = λ image len off sha part h. absurd cc

pub uploads_are_tagged : UploadsAreTagged
uploads_are_tagged j [] = start_is_tagged j
uploads_are_tagged j (told.refused group number ∷ earlier) = λ image len off sha part h. absurd cc
uploads_are_tagged j (told.done ∷ earlier) = λ image len off sha part h. absurd cc
uploads_are_tagged j (told.echo text ∷ earlier) = start_is_tagged j
uploads_are_tagged j (told.images values ∷ earlier) = start_is_tagged j
uploads_are_tagged j (told.offset from matched ∷ earlier) = from_is_tagged j from matched
uploads_are_tagged j (told.file_part from len part ∷ earlier) = start_is_tagged j

-- the settings, and then the save
set_ends : (settings : List Setting) (n : ℕ) → nth_of_set settings n ≡ ends done → length settings < n
set_ends [] zero h = absurd cc
set_ends [] (suc n) h = omega arith
set_ends (s ∷ settings) zero h = absurd cc
set_ends (s ∷ settings) (suc n) h = let more : length settings < n = set_ends settings n h in omega arith

pub saves_are_answered : SavesAreAnswered
saves_are_answered settings [] h = set_ends settings 0 h
saves_are_answered settings (told.refused group number ∷ earlier) h = absurd cc
saves_are_answered settings (told.done ∷ earlier) h = set_ends settings (suc (length earlier)) h
saves_are_answered settings (told.echo text ∷ earlier) h = set_ends settings (suc (length earlier)) h
saves_are_answered settings (told.images values ∷ earlier) h = set_ends settings (suc (length earlier)) h
saves_are_answered settings (told.offset off matched ∷ earlier) h = set_ends settings (suc (length earlier)) h
saves_are_answered settings (told.file_part off len part ∷ earlier) h = set_ends settings (suc (length earlier)) h

-- all bytes of a file are held
all_held : (held : List ℕ) (len : Option ℕ) (b : Bool) → is_all held len ≡ b → b ≡ true → len ≡ Some (length held)
all_held held None b e h = let is : false ≡ true = e ∙ h in absurd cc
all_held held (Some n) b e h = let is : n ≡ length held = grind (arith, nat_tests) in ap Some is

abbrev part_if : Bool → Meant → Next
part_if b m = if b then ends done else asks m

is_done : (b : Bool) (m : Meant) → part_if b m ≡ ends done → b ≡ true
is_done true m h = refl
is_done false m h = absurd cc

whole : (name : List ℕ) (answers : List Told) (b : Bool) (m : Meant) → is_all (got answers).held (got answers).len ≡ b → part_if b m ≡ ends done
    → (got answers).len ≡ Some (length (got answers).held)
whole name answers b m e h = all_held (got answers).held (got answers).len b e (is_done b m h)

pub files_are_whole : FilesAreWhole
files_are_whole name [] h = whole name [] _ _ refl h
files_are_whole name (told.refused group number ∷ earlier) h = absurd cc
files_are_whole name (told.done ∷ earlier) h = whole name (told.done ∷ earlier) _ _ refl h
files_are_whole name (told.echo text ∷ earlier) h = whole name (told.echo text ∷ earlier) _ _ refl h
files_are_whole name (told.images values ∷ earlier) h = whole name (told.images values ∷ earlier) _ _ refl h
files_are_whole name (told.offset off matched ∷ earlier) h = whole name (told.offset off matched ∷ earlier) _ _ refl h
files_are_whole name (told.file_part off len part ∷ earlier) h = whole name (told.file_part off len part ∷ earlier) _ _ refl h
