-- The jobs of a client: what each asks for after the answers that it was given, and how it ends. What a client does after each answer
-- is chosen here.
use Rattle.std.specs.Prelude.{ℕ, zero, suc, ◌+◌, ◌-◌, ◌*◌, ◌/◌, List, [], ◌∷◌, ◌++◌, length, take, drop, Bool, true, false, ◌==◌, ◌&&◌, ◌||◌, nat_lt, nat_le, if◌then◌else◌, Option, Some, None}
use Rattle.sha2.specs.Sha256.{sha256}
use Rattle.smp_model.specs.declared.setting.Setting.{Setting}
use Rattle.smp_model.specs.declared.upload.Ending.{Ending}
use Rattle.smp_model.specs.declared.upload.Ending.TheVariants as endings
use Rattle.smp_model.specs.Meant.{Meant, echo, image_list, image_set, upload, setting_write, save, file_read, file_write}
use Rattle.smp_reply.specs.declared.answer.Asked.{Asked}
use Rattle.smp_reply.specs.declared.answer.Asked.TheVariants as kinds
use Rattle.smp_reply.specs.Told as told
use Rattle.smp_reply.specs.Told.{Told}

-- a file with an image, the hash that names the image in a mark, the bytes of a part, and the image of the device: 0 or 1
pub record UploadJob : Type 0 where
  pub image : ℕ
  pub file : List ℕ
  pub hash : List ℕ
  pub chunk : ℕ
  pub ending : Ending

abbrev pub upload_job : ℕ → List ℕ → List ℕ → ℕ → Ending → UploadJob
upload_job image file hash chunk ending = record { image = image; file = file; hash = hash; chunk = chunk; ending = ending }

pub data Job : Type 0 where
  uploads : UploadJob → Job
  lists : Job
  -- settings, one after another, and then a save
  sets : List Setting → Job
  puts : (name file : List ℕ) → Job
  gets : (name : List ℕ) → Job
  echoes : (text : List ℕ) → Job

-- how a job ends
pub data End : Type 0 where
  done : End
  no_answer : End
  refused : (group : Option ℕ) (number : ℕ) → End
  -- the device says that the bytes have another digest
  mismatch : End
  -- as many packets were sent as the job may send
  stalled : End

-- what a job does next
pub data Next : Type 0 where
  asks : Meant → Next
  ends : End → Next

-- Uploads.

-- image 0 is left out
abbrev pub image_key : ℕ → Option ℕ
image_key zero = None
image_key (suc n) = Some (suc n)

abbrev pub start_of : UploadJob → Meant
start_of j = upload (image_key j.image) (Some (length j.file)) 0 (Some (sha256 j.file)) (take j.chunk j.file)

-- a part is tagged with the digest of its file
abbrev pub part_of : UploadJob → ℕ → Meant
part_of j off = upload (image_key j.image) None off (Some (sha256 j.file)) (take j.chunk (drop off j.file))

abbrev pub confirms : Ending → Bool
confirms endings.Only = false
confirms endings.Test = false
confirms endings.Confirm = true

abbrev pub mark_of : UploadJob → Meant
mark_of j = image_set (Some j.hash) (confirms j.ending)

-- after all bytes were accepted
abbrev pub at_end : UploadJob → Ending → Next
at_end j endings.Only = ends done
at_end j endings.Test = asks (mark_of j)
at_end j endings.Confirm = asks (mark_of j)

-- an offset that cannot be gone on from: the start is sent anew
abbrev pub is_outside : ℕ → List ℕ → Bool
is_outside off file = (off == 0) || nat_lt (length file) off

abbrev pub at_offset : UploadJob → ℕ → Next
at_offset j off =
    if off == length j.file then at_end j j.ending
    else asks (if is_outside off j.file then start_of j else part_of j off)

-- another digest ends the job, whatever the offset is
abbrev pub from_offset : UploadJob → ℕ → Option Bool → Next
from_offset j off (Some false) = ends mismatch
from_offset j off (Some true) = at_offset j off
from_offset j off None = at_offset j off

-- by the newest answer: nothing yet, an offset, or an answer to the mark
abbrev pub next_of_upload : UploadJob → List Told → Next
next_of_upload j (told.refused group number ∷ earlier) = ends (refused group number)
next_of_upload j (told.offset off matched ∷ earlier) = from_offset j off matched
next_of_upload j (told.done ∷ earlier) = ends done
next_of_upload j answers = asks (start_of j)

-- Settings: by the count of answers.

abbrev pub nth_of_set : List Setting → ℕ → Next
nth_of_set [] zero = asks save
nth_of_set [] (suc n) = ends done
nth_of_set (s ∷ settings) zero = asks (setting_write s.name s.val)
nth_of_set (s ∷ settings) (suc n) = nth_of_set settings n

abbrev pub next_of_set : List Setting → List Told → Next
next_of_set settings (told.refused group number ∷ earlier) = ends (refused group number)
next_of_set settings answers = nth_of_set settings (length answers)

-- Files.

-- the bytes of one part that is sent
abbrev pub part_size : ℕ
part_size = 512

abbrev pub put_start : List ℕ → List ℕ → Meant
put_start name file = file_write 0 (take part_size file) (Some (length file)) name

abbrev pub put_part : List ℕ → List ℕ → ℕ → Meant
put_part name file off = file_write off (take part_size (drop off file)) None name

abbrev pub put_at_offset : List ℕ → List ℕ → ℕ → Next
put_at_offset name file off =
    if off == length file then ends done
    else asks (if is_outside off file then put_start name file else put_part name file off)

abbrev pub next_of_put : List ℕ → List ℕ → List Told → Next
next_of_put name file (told.refused group number ∷ earlier) = ends (refused group number)
next_of_put name file (told.offset off matched ∷ earlier) = put_at_offset name file off
next_of_put name file answers = asks (put_start name file)

-- what a job that gets a file holds of it, and the length of the file once it was told
pub record Got : Type 0 where
  pub held : List ℕ
  pub len : Option ℕ

abbrev pub or_before : Option ℕ → Option ℕ → Option ℕ
or_before (Some n) before = Some n
or_before None before = before

abbrev pub is_within : ℕ → Option ℕ → Bool
is_within n None = true
is_within n (Some len) = nat_le n len

-- a part goes behind what is held, where it begins there and does not pass the length
abbrev pub with_part : ℕ → List ℕ → Got → Got
with_part off part g =
    if (off == length g.held) && is_within (length g.held + length part) g.len
    then record g { held = g.held ++ part }
    else g

-- the answer at offset 0 tells the length
abbrev pub with_length : ℕ → Option ℕ → Got → Got
with_length off len g = if off == 0 then record g { len = or_before len g.len } else g

abbrev pub got_more : Told → Got → Got
got_more (told.file_part off len part) g = with_part off part (with_length off len g)
got_more answer g = g

abbrev pub got : List Told → Got
got [] = record { held = []; len = None }
got (answer ∷ earlier) = got_more answer (got earlier)

abbrev pub is_all : List ℕ → Option ℕ → Bool
is_all held None = false
is_all held (Some len) = length held == len

abbrev pub after_part : List ℕ → Got → Next
after_part name g = if is_all g.held g.len then ends done else asks (file_read (length g.held) name)

abbrev pub next_of_get : List ℕ → List Told → Next
next_of_get name (told.refused group number ∷ earlier) = ends (refused group number)
next_of_get name answers = after_part name (got answers)

-- The jobs that ask once.

abbrev pub next_of_one : Meant → List Told → Next
next_of_one m [] = asks m
next_of_one m (told.refused group number ∷ earlier) = ends (refused group number)
next_of_one m (answer ∷ earlier) = ends done

-- What a job does next, by the answers that it was given, the newest first. Each is an answer to what it asked for after
-- the earlier ones.
abbrev pub next : Job → List Told → Next
next (uploads j) answers = next_of_upload j answers
next lists answers = next_of_one image_list answers
next (sets settings) answers = next_of_set settings answers
next (puts name file) answers = next_of_put name file answers
next (gets name) answers = next_of_get name answers
next (echoes text) answers = next_of_one (echo text) answers

-- what it asks for first
abbrev pub first_of_set : List Setting → Meant
first_of_set [] = save
first_of_set (s ∷ settings) = setting_write s.name s.val

abbrev pub first_of : Job → Meant
first_of (uploads j) = start_of j
first_of lists = image_list
first_of (sets settings) = first_of_set settings
first_of (puts name file) = put_start name file
first_of (gets name) = file_read 0 name
first_of (echoes text) = echo text

-- the most packets that it sends, those that are sent again among them; none where its requests are few anyway
abbrev pub most_packets : Job → Option ℕ
most_packets (uploads j) = Some (64 + 8 * (length j.file / (j.chunk - 7) + 1))
most_packets (puts name file) = Some 512
most_packets (gets name) = Some 512
most_packets lists = None
most_packets (sets settings) = None
most_packets (echoes text) = None

abbrev pub is_below : ℕ → Option ℕ → Bool
is_below n None = true
is_below n (Some most) = nat_lt n most

-- whether it may send one more packet after so many
abbrev pub may_send : Job → ℕ → Bool
may_send job sent = is_below sent (most_packets job)

-- the kind of answer that a request asks for
abbrev pub asked_of : Meant → Asked
asked_of (upload image len off sha part) = kinds.Offset
asked_of (file_write off part len name) = kinds.Offset
asked_of (file_read off name) = kinds.FilePart
asked_of image_list = kinds.Images
asked_of (echo text) = kinds.Echo
asked_of m = kinds.Done
