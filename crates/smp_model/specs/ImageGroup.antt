-- What the device answers in group 1, images. The requests and the meanings of the errors are those of Zephyr's image
-- group; the order of refusals is this project's own. Of each image slot 0 is active and slot 1 takes uploads. Where a slot
-- is named without its image, those of image 1 are slots 2 and 3.
use Rattle.std.specs.Prelude.{ℕ, ◌+◌, ◌-◌, List, [], ◌∷◌, ◌++◌, length, take, Bool, true, false, not, ◌&&◌, ◌||◌, ◌==◌, nat_lt, Option, Some, None, is_some, option_map, unwrap_or, Result, Ok, Err, bit_and, replicate, if◌then◌else◌}
use Rattle.std.specs.Str.{bytes_eq}
use Rattle.smp_model.specs.declared.device.Sizes.{Sizes}
use Rattle.smp_model.specs.declared.device.Upload.{Upload}
use Rattle.smp_model.specs.declared.device.Side.{Side}
use Rattle.smp_model.specs.declared.device.AbstractDevice.{AbstractDevice}
use Rattle.smp_model.specs.declared.image.ImageInfo.{ImageInfo}
use Rattle.smp_model.specs.declared.reply.SidePair.{SidePair}
use Rattle.smp_model.specs.declared.reply.SlotEntry.{SlotEntry}
use Rattle.smp_model.specs.declared.upload.Announcement.{Announcement}
use Rattle.smp_model.specs.declared.upload.Mark.{Mark}
use Rattle.smp_model.specs.declared.upload.Mark.TheVariants.{Test, Permanent}
use Rattle.smp_model.specs.Image.{good_image}
use Rattle.smp_model.specs.Said as said
use Rattle.smp_model.specs.Said.{Said}
use Rattle.smp_model.specs.Sides.{SideStep, Choose, Append, Drop, MarkPending, Confirm, side_settle}
use Rattle.smp_model.specs.Steps.{Step, Run, aim_at, side_at, on_side, applied}
use Rattle.smp_model.specs.Response.{Response, SideResponse, responds, reply_alone, refuses, settling, side_responds, settling_side}
use Rattle.smp_model.specs.Uploads.{differs, kept, is_tagged_by, uploaded_image, is_resumed_by}
use Rattle.smp_model.specs.declared.error.TheConstants.{INVALID_VALUE, HASH_NOT_FOUND, NO_FREE_SLOT, INVALID_SLOT, NO_LENGTH, INVALID_HEADER, WRONG_MAGIC, INVALID_DIGEST, ALREADY_PENDING, IMAGE_TOO_LARGE, TEST_OF_ACTIVE, PAST_UPLOAD_END, IMAGE_GROUP}

-- the errors of a request; those of the flash are in `Faults.antt`
abbrev pub refuses_image : ℕ → Response
refuses_image number = refuses IMAGE_GROUP number

-- Parts of an upload: what one side does at them.

abbrev pub refuses_part : ℕ → SideResponse
refuses_part number = side_responds (said.group_error IMAGE_GROUP number) []

-- the offset that is wanted next, and no steps
abbrev pub wants : ℕ → SideResponse
wants offset = side_responds (said.offset offset None) []

-- An upload that these bytes complete. Where a digest was announced, the reply says whether it is theirs, and where it is
-- not, the upload is given up.
abbrev pub completes : (held part : List ℕ) (digest : Option (List ℕ)) → SideResponse
completes held bytes None = side_responds (said.offset (length held + length bytes) None) (Append bytes ∷ [])
completes held bytes (Some digest) =
    if differs (Some digest) (held ++ bytes)
    then side_responds (said.offset (length held + length bytes) (Some false)) (Append bytes ∷ Drop ∷ [])
    else side_responds (said.offset (length held + length bytes) (Some true)) (Append bytes ∷ [])

-- the kept bytes of a part
abbrev pub keeps : Announcement → (held part : List ℕ) → SideResponse
keeps a held [] = wants (length held)
keeps a held (x ∷ xs) =
    if length held + length (x ∷ xs) == a.length
    then completes held (x ∷ xs) a.digest
    else side_responds (said.offset (length held + length (x ∷ xs)) None) (Append (x ∷ xs) ∷ [])

-- a part at the wanted offset, behind the bytes that are held
abbrev pub takes_part : (unit : ℕ) → Announcement → (held part : List ℕ) → SideResponse
takes_part unit a held bytes =
    if nat_lt a.length (length held + length bytes) then refuses_part PAST_UPLOAD_END
    else keeps a held (kept unit a.length (length held) bytes)

-- A part at an offset above 0. Its tag, where it has one, has to be the digest that was announced.
abbrev pub part_at : (unit offset : ℕ) (tag : Option (List ℕ)) (part : List ℕ) → Option Upload → SideResponse
part_at unit off tag bytes None = wants 0
part_at unit off tag bytes (Some u) =
    if (off == length u.accepted) && is_tagged_by tag u.announcement.digest
    then takes_part unit u.announcement u.accepted bytes else wants (length u.accepted)

-- Starts of an upload, at offset 0.

abbrev pub begins : (unit : ℕ) → Announcement → (part : List ℕ) → SideResponse
begins unit a bytes =
    if nat_lt a.length (length bytes) then refuses_part PAST_UPLOAD_END
    else side_responds (takes_part unit a [] bytes).reply (Choose a ∷ (takes_part unit a [] bytes).steps)

abbrev pub new_start : (unit : ℕ) → Announcement → (part : List ℕ) (pending : Option Mark) → SideResponse
new_start unit a bytes (Some mark) = refuses_part NO_FREE_SLOT
new_start unit a bytes None = begins unit a bytes

-- a start with the upload's own announcement stores nothing where bytes are held already
abbrev pub resumes : (unit : ℕ) → Announcement → (held part : List ℕ) → SideResponse
resumes unit a [] bytes = takes_part unit a [] bytes
resumes unit a (x ∷ xs) bytes = wants (length (x ∷ xs))

abbrev pub start_at : (unit : ℕ) → Announcement → (part : List ℕ) (pending : Option Mark) → Option Upload → SideResponse
start_at unit a bytes pending None = new_start unit a bytes pending
start_at unit a bytes pending (Some u) =
    if is_resumed_by u.announcement a then resumes unit u.announcement u.accepted bytes else new_start unit a bytes pending

-- Uploads: the side that is meant, and what the device does.

-- The image of a start or a part. It is the one that is named. A start that names none is for image 0, and so is a part
-- with a tag. Another part is for the image of the last start that was answered with an offset.
abbrev pub side_of : (target : ℕ) (image : Option ℕ) (off : ℕ) (sha : Option (List ℕ)) → ℕ
side_of target (Some image) off sha = image
side_of target None off sha = if (off == 0) || is_some sha then 0 else target

abbrev pub is_offset : Said → Bool
is_offset (said.offset off matched) = true
is_offset reply = false

-- a start that is answered with an offset makes its image that of the parts to come
abbrev pub aims : (image : ℕ) → Said → List Step
aims image reply = if is_offset reply then Run (aim_at image) ∷ [] else []

abbrev pub has_wrong_size : Option (List ℕ) → Bool
has_wrong_size None = false
has_wrong_size (Some digest) = not (length digest == 32)

-- the magic of an image, 0x96f3b83d in little-endian
abbrev pub begins_with_magic : List ℕ → Bool
begins_with_magic bytes = bytes_eq (take 4 bytes) (61 ∷ 184 ∷ 243 ∷ 150 ∷ [])

abbrev pub begins_on : (image : ℕ) → Side → SideResponse → Response
begins_on image s response = settling_side image s (aims image response.reply) response

abbrev pub start_of : Sizes → (image : ℕ) → Side → (len : Option ℕ) (sha : Option (List ℕ)) (part : List ℕ) → Response
start_of sizes image s None sha bytes = refuses_image NO_LENGTH
start_of sizes image s (Some len) sha bytes =
    if has_wrong_size sha then refuses_image INVALID_DIGEST
    else if nat_lt (sizes.slot - sizes.page) len then refuses_image IMAGE_TOO_LARGE
    else if nat_lt (length bytes) 32 then refuses_image INVALID_HEADER
    else if not (begins_with_magic bytes) then refuses_image WRONG_MAGIC
    else begins_on image s (start_at sizes.unit (record { length = len; digest = sha }) bytes s.pending (side_settle s).upload)

abbrev pub part_of : Sizes → (image : ℕ) → Side → (off : ℕ) (sha : Option (List ℕ)) (part : List ℕ) → Response
part_of sizes image s off sha part =
    if has_wrong_size sha then refuses_image INVALID_DIGEST
    else settling_side image s [] (part_at sizes.unit off sha part (side_settle s).upload)

abbrev pub uploads_to : Sizes → (image : ℕ) → Option Side → (len : Option ℕ) (off : ℕ) (sha : Option (List ℕ)) (part : List ℕ) → Response
uploads_to sizes image None len off sha part = refuses_image INVALID_SLOT
uploads_to sizes image (Some s) len off sha part =
    if off == 0 then start_of sizes image s len sha part else part_of sizes image s off sha part

abbrev pub uploads : Sizes → AbstractDevice → (image : Option ℕ) (len : Option ℕ) (off : ℕ) (sha : Option (List ℕ)) (part : List ℕ) → Response
uploads sizes d image len off sha part =
    uploads_to sizes (side_of d.target image off sha) (side_at (side_of d.target image off sha) d) len off sha part

-- The list of images.

-- what a list says of a slot 0 that does not begin with a good image; every device begins with one that does
abbrev pub no_image : ImageInfo
no_image = record {
  version = record { major = 0; minor = 0; revision = 0; build = 0 };
  flags = 0;
  covered = 0;
  «end» = 0;
  hash = replicate 32 0;
}

-- the flag of an image that is not to run, MCUboot's IMAGE_F_NON_BOOTABLE, is not set
abbrev pub is_bootable : ImageInfo → Bool
is_bootable i = bit_and i.flags 16 == 0

abbrev pub active_entry : ImageInfo → (confirmed : Bool) → SlotEntry
active_entry i confirmed = record {
  slot = 0;
  version = i.version;
  hash = i.hash;
  bootable = is_bootable i;
  pending = false;
  confirmed = confirmed;
  active = true;
  permanent = false;
}

abbrev pub is_pending : Option Mark → Bool
is_pending None = false
is_pending (Some mark) = true

abbrev pub is_permanent : Option Mark → Bool
is_permanent (Some Permanent) = true
is_permanent (Some Test) = false
is_permanent None = false

abbrev pub second_entry : Option Mark → ImageInfo → SlotEntry
second_entry pending i = record {
  slot = 1;
  version = i.version;
  hash = i.hash;
  bootable = is_bootable i;
  pending = is_pending pending;
  confirmed = false;
  active = false;
  permanent = is_permanent pending;
}

-- what a list says of an image: always slot 0, and slot 1 only with a good upload
abbrev pub pair_of : Side → SidePair
pair_of s = record {
  first = active_entry (unwrap_or (good_image s.active) no_image) s.confirmed;
  second = option_map (second_entry s.pending) (uploaded_image s.upload);
}

abbrev pub images_of : AbstractDevice → Said
images_of d = said.images (pair_of d.first) (option_map pair_of d.second)

-- the list as it is after these steps
abbrev pub lists_after : List Step → AbstractDevice → Response
lists_after steps d = responds (images_of (applied steps d)) steps

-- the list after the steps of a side that are due, or an error
abbrev pub lists_with : (image : ℕ) → Result (List SideStep) ℕ → AbstractDevice → Response
lists_with image (Ok steps) d = lists_after (on_side image steps) d
lists_with image (Err number) d = refuses_image number

-- Marks.

abbrev pub mark_of : Bool → Mark
mark_of true = Permanent
mark_of false = Test

abbrev pub same_mark : Mark → Mark → Bool
same_mark Test Test = true
same_mark Test Permanent = false
same_mark Permanent Test = false
same_mark Permanent Permanent = true

-- the steps that mark a slot, where it may be
abbrev pub marks : (asked : Mark) (pending : Option Mark) → Result (List SideStep) ℕ
marks mark None = Ok (MarkPending mark ∷ [])
marks mark (Some m) = if same_mark m mark then Ok [] else Err ALREADY_PENDING

-- the image that runs is meant: whether it is to be confirmed, and whether it is confirmed already
abbrev pub confirms : (confirm confirmed : Bool) → Result (List SideStep) ℕ
confirms true true = Ok []
confirms true false = Ok (Confirm ∷ [])
confirms false confirmed = Err TEST_OF_ACTIVE

abbrev pub has_hash : List ℕ → Option ImageInfo → Bool
has_hash hash None = false
has_hash hash (Some i) = bytes_eq i.hash hash

-- the hash is that of the image that runs
abbrev pub runs : List ℕ → Option Side → Bool
runs hash None = false
runs hash (Some s) = has_hash hash (good_image s.active)

-- the hash is that of the good image that was uploaded
abbrev pub holds : List ℕ → Option Side → Bool
holds hash None = false
holds hash (Some s) = has_hash hash (uploaded_image s.upload)

abbrev pub confirms_on : (image : ℕ) (confirm : Bool) → Option Side → AbstractDevice → Response
confirms_on image confirm None d = refuses_image HASH_NOT_FOUND
confirms_on image confirm (Some s) d = lists_with image (confirms confirm s.confirmed) d

abbrev pub marks_on : (image : ℕ) (confirm : Bool) → Option Side → AbstractDevice → Response
marks_on image confirm None d = refuses_image HASH_NOT_FOUND
marks_on image confirm (Some s) d = lists_with image (marks (mark_of confirm) s.pending) d

-- the first slot with this hash, in the order 0, 2, 1, 3
abbrev pub sets_hash : (hash : List ℕ) (confirm : Bool) → AbstractDevice → Response
sets_hash hash confirm d =
    if runs hash (side_at 0 d) then confirms_on 0 confirm (side_at 0 d) d
    else if runs hash (side_at 1 d) then confirms_on 1 confirm (side_at 1 d) d
    else if holds hash (side_at 0 d) then marks_on 0 confirm (side_at 0 d) d
    else if holds hash (side_at 1 d) then marks_on 1 confirm (side_at 1 d) d
    else refuses_image HASH_NOT_FOUND

-- no hash: the image that runs as image 0 is meant, and can only be confirmed
abbrev pub sets_no_hash : AbstractDevice → (confirm : Bool) → Response
sets_no_hash d true = settling d (λ e. confirms_on 0 true (side_at 0 e) e)
sets_no_hash d false = reply_alone (said.smp_error INVALID_VALUE)

-- an empty hash is no hash
abbrev pub sets_image : AbstractDevice → (hash : Option (List ℕ)) (confirm : Bool) → Response
sets_image d None confirm = sets_no_hash d confirm
sets_image d (Some []) confirm = sets_no_hash d confirm
sets_image d (Some (x ∷ xs)) confirm =
    if length (x ∷ xs) == 32 then settling d (sets_hash (x ∷ xs) confirm) else refuses_image INVALID_DIGEST

-- Lists and erases.

abbrev pub lists : AbstractDevice → Response
lists d = settling d (lists_after [])

abbrev pub erase_of : Option Mark → SideResponse
erase_of (Some mark) = refuses_part NO_FREE_SLOT
erase_of None = side_responds said.empty (Drop ∷ [])

abbrev pub erases_on : (image : ℕ) → Option Side → Response
erases_on image None = refuses_image INVALID_SLOT
erases_on image (Some s) = settling_side image s [] (erase_of s.pending)

abbrev pub erases : AbstractDevice → ℕ → Response
erases d slot =
    if slot == 1 then erases_on 0 (side_at 0 d)
    else if slot == 3 then erases_on 1 (side_at 1 d)
    else refuses_image INVALID_SLOT
