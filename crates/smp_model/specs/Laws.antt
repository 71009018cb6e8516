-- The words in which the laws of the abstract device are said.
use Rattle.std.specs.Prelude.{◌≡◌, ◌⊎◌, ◌≤◌, ◌<◌, ◌+◌, ◌∷◌, ℕ, List, [], Bool, true, false, not, Option, Some, None, IfSome, IsTrue, length}
use Rattle.sha2.specs.Sha256.{sha256}
use Rattle.smp_model.specs.declared.device.AbstractDevice.{AbstractDevice}
use Rattle.smp_model.specs.declared.device.Side.{Side}
use Rattle.smp_model.specs.declared.device.Upload.{Upload}
use Rattle.smp_model.specs.declared.image.ImageInfo.{ImageInfo}
use Rattle.smp_model.specs.declared.upload.Announcement.{Announcement}
use Rattle.smp_model.specs.declared.upload.Mark.{Mark}
use Rattle.smp_model.specs.ImageGroup.{mark_of, runs, holds}
use Rattle.smp_model.specs.Meant as meant
use Rattle.smp_model.specs.Meant.{Meant, image_set}
use Rattle.smp_model.specs.Said as said
use Rattle.smp_model.specs.Said.{Said, is_error}
use Rattle.smp_model.specs.Sides.{SideStep, Choose, Append, Drop, MarkPending, Confirm, side_settle_steps}
use Rattle.smp_model.specs.Steps.{Step, OnSide, Save, Run, apply, applied, settle_steps, settle_steps_of, side_at}
use Rattle.smp_model.specs.Uploads.{IsGood, is_complete, is_spoiled, is_resumed_by, is_tagged_by, uploaded_image}

-- a fact of each step
abbrev pub EachStep : (Step → Type 0) → List Step → Type 0
EachStep P [] = Unit {0}
EachStep P (step ∷ steps) = P step × EachStep P steps

-- a fact of each step and the device that it finds
abbrev pub Along : (AbstractDevice → Step → Type 0) → AbstractDevice → List Step → Type 0
Along P d [] = Unit {0}
Along P d (step ∷ steps) = P d step × Along P (apply step d) steps

-- a fact of each side
pub record EachSide (P : Side → Type 0) (d : AbstractDevice) : Type 0 where
  pub first : P d.first
  pub second : IfSome d.second P

-- the device has the image, and this is so of its side
pub record OnImage (image : ℕ) (P : Side → Type 0) (d : AbstractDevice) : Type 0 where
  pub side : Side
  pub found : side_at image d ≡ Some side
  pub fact : P side

-- an upload is there that is what was announced, and a good image
abbrev pub GoodUpload : Option Upload → Type 0
GoodUpload None = ⊥
GoodUpload (Some u) = IsGood u.announcement u.accepted

abbrev pub GoodWhere : Option Mark → Option Upload → Type 0
GoodWhere None upload = Unit {0}
GoodWhere (Some mark) upload = GoodUpload upload

-- what is pending on a side is good
abbrev pub PendingIsGood : Side → Type 0
PendingIsGood s = GoodWhere s.pending s.upload

-- a step of a side that leaves the upload and what is pending as they are
abbrev pub LeavesUpload : SideStep → Type 0
LeavesUpload (Choose a) = ⊥
LeavesUpload (Append bytes) = ⊥
LeavesUpload Drop = ⊥
LeavesUpload (MarkPending mark) = ⊥
LeavesUpload Confirm = Unit {0}

-- a step that leaves them as they are of this image
abbrev pub IsApart : (image : ℕ) → Step → Type 0
IsApart image (OnSide i step) = i ≡ image → LeavesUpload step
IsApart image Save = Unit {0}
IsApart image (Run change) = Unit {0}

-- a step of no side but that of this image
abbrev pub IsOn : (image : ℕ) → Step → Type 0
IsOn image (OnSide i step) = i ≡ image
IsOn image Save = Unit {0}
IsOn image (Run change) = Unit {0}

-- upload and mark are those of this side
pub record SameUpload (s t : Side) : Type 0 where
  pub upload : t.upload ≡ s.upload
  pub pending : t.pending ≡ s.pending

-- a request for a mark by the hash of this image
pub record AsksFor (m : Meant) (due : Mark) (upload : Option Upload) : Type 0 where
  pub confirm : Bool
  pub info : ImageInfo
  pub image : uploaded_image upload ≡ Some info
  pub request : m ≡ image_set (Some info.hash) confirm
  pub mark : due ≡ mark_of confirm

-- a mark that is set on a side at a request: nothing is pending, the upload is good, and it is its image that is asked for
pub record IsDue (m : Meant) (mark : Mark) (s : Side) : Type 0 where
  pub free : s.pending ≡ None
  pub good : GoodUpload s.upload
  pub asked : AsksFor m mark s.upload

-- An offset that is answered is held by the upload. Where no upload is there, it is 0 or the upload was given up.
abbrev pub OffsetHeld : ℕ → Option Bool → Option Upload → Type 0
OffsetHeld offset matched None = (offset ≡ 0) ⊎ (matched ≡ Some false)
OffsetHeld offset matched (Some u) = offset ≤ length u.accepted

-- the offset of the reply is held
abbrev pub ReplyHeld : Said → Option Upload → Type 0
ReplyHeld (said.offset offset matched) upload = OffsetHeld offset matched upload
ReplyHeld reply upload = Unit {0}

-- a reply with an offset that is this one at least, less seven, or the whole length
abbrev pub Reaches : ℕ → ℕ → Said → Type 0
Reaches size n (said.offset offset matched) = (n ≤ offset + 7) ⊎ (offset ≡ size)
Reaches size n reply = ⊥

-- the upload is complete and has the digest that was announced
abbrev pub HasDigest : Option Upload → Type 0
HasDigest None = ⊥
HasDigest (Some u) = (length u.accepted ≡ u.announcement.length) × (u.announcement.digest ≡ Some (sha256 u.accepted))

-- `match` says of the upload then: it has the announced digest, or it was given up
abbrev pub MatchHolds : Said → Option Upload → Type 0
MatchHolds (said.offset offset (Some true)) upload = HasDigest upload
MatchHolds (said.offset offset (Some false)) upload = upload ≡ None
MatchHolds reply upload = Unit {0}

-- a tag that is not the digest of the upload: there is none, it announced no digest, or another
abbrev pub is_foreign : List ℕ → Option Upload → Bool
is_foreign tag None = true
is_foreign tag (Some u) = not (is_tagged_by (Some tag) u.announcement.digest)

-- no bytes are held
abbrev pub HoldsNothing : Option Upload → Type 0
HoldsNothing upload = IfSome upload (λ u. u.accepted ≡ [])

-- the reply of a start that goes on with the upload: the bytes that it holds already
abbrev pub ResumesAt : Announcement → Option Upload → Said → Type 0
ResumesAt a None reply = ⊥
ResumesAt a (Some u) reply = IsTrue (is_resumed_by u.announcement a) × ((0 < length u.accepted) × (reply ≡ said.offset (length u.accepted) None))

-- the reply of a start with so many bytes: an error, an offset behind them but for at most seven, or what is held already
abbrev pub StartsWith : Announcement → ℕ → Option Upload → Said → Type 0
StartsWith a n upload reply = IsTrue (is_error reply) ⊎ (Reaches a.length n reply ⊎ ResumesAt a upload reply)

-- nothing is spoiled on a side
abbrev pub IsSound : Side → Type 0
IsSound s = side_settle_steps s ≡ []

-- these steps are none, or those by which one side or all settle
abbrev pub SettlesAtMost : AbstractDevice → List Step → Type 0
SettlesAtMost d steps = (steps ≡ []) ⊎ ((steps ≡ settle_steps d) ⊎ ((image : ℕ) × (steps ≡ settle_steps_of image d)))

-- a mark or a confirmation of the first slot that has this hash, in the order 0, 2, 1, 3
abbrev pub IsOfFirst : AbstractDevice → List ℕ → Step → Type 0
IsOfFirst d hash (OnSide image Confirm) = IsTrue (runs hash (side_at image d)) × (0 < image → runs hash (side_at 0 d) ≡ false)
IsOfFirst d hash (OnSide image (MarkPending mark)) =
    ((runs hash (side_at 0 d) ≡ false) × (runs hash (side_at 1 d) ≡ false))
    × (IsTrue (holds hash (side_at image d)) × (0 < image → holds hash (side_at 0 d) ≡ false))
IsOfFirst d hash step = Unit {0}

-- An offset without `match` says of an upload to which bytes came that it is not complete, or announced no digest.
abbrev pub MatchTold : Said → Option Upload → Type 0
MatchTold (said.offset offset None) upload = IfSome upload (λ u. (is_complete u ≡ false) ⊎ (u.announcement.digest ≡ None))
MatchTold reply upload = Unit {0}

-- a request about images
abbrev pub IsAboutImages : Meant → Type 0
IsAboutImages meant.image_list = Unit {0}
IsAboutImages (meant.image_set hash confirm) = Unit {0}
IsAboutImages (meant.upload image len off sha part) = Unit {0}
IsAboutImages (meant.erase slot) = Unit {0}
IsAboutImages m = ⊥

-- what is not about images is as before
pub record SameBesideImages (d e : AbstractDevice) : Type 0 where
  pub saved : e.saved ≡ d.saved
  pub running : e.running ≡ d.running
  pub files : e.files ≡ d.files
  pub counters : e.counters ≡ d.counters

-- what is about images is as before
pub record SameImages (d e : AbstractDevice) : Type 0 where
  pub first : e.first ≡ d.first
  pub second : e.second ≡ d.second
  pub target : e.target ≡ d.target

-- bytes were accepted for this image among the steps
abbrev pub AcceptsBytes : (image : ℕ) → List Step → Type 0
AcceptsBytes image [] = ⊥
AcceptsBytes image (OnSide i (Append bytes) ∷ steps) = (i ≡ image) ⊎ AcceptsBytes image steps
AcceptsBytes image (step ∷ steps) = AcceptsBytes image steps

-- The upload of an image is given up behind these steps: at an erase while nothing is pending, or since it is spoiled, as it
-- was before them or by bytes that were accepted among them.
abbrev pub IsSpoiledOn : (image : ℕ) → AbstractDevice → Type 0
IsSpoiledOn image d = OnImage image (λ s. IsTrue (is_spoiled s.upload)) d

abbrev pub IsErasedOn : Meant → (image : ℕ) → AbstractDevice → Type 0
IsErasedOn (meant.erase slot) image d = OnImage image (λ s. s.pending ≡ None) d
IsErasedOn m image d = ⊥

abbrev pub IsDropDue : Meant → (image : ℕ) → AbstractDevice → (behind : List Step) → Type 0
IsDropDue m image d behind =
    IsErasedOn m image (applied behind d)
    ⊎ (IsSpoiledOn image (applied behind d) × (IsSpoiledOn image d ⊎ AcceptsBytes image behind))

-- a step that leaves every side as it is
abbrev pub IsOffSides : Step → Type 0
IsOffSides (OnSide image step) = ⊥
IsOffSides Save = Unit {0}
IsOffSides (Run change) = Unit {0}

-- a step that leaves the saved settings as they are
abbrev pub IsNoSave : Step → Type 0
IsNoSave (OnSide image step) = Unit {0}
IsNoSave Save = ⊥
IsNoSave (Run change) = Unit {0}

-- a step that chooses an upload, or appends to one
abbrev pub GoesToUpload : Step → Type 0
GoesToUpload (OnSide image (Choose a)) = Unit {0}
GoesToUpload (OnSide image (Append bytes)) = Unit {0}
GoesToUpload step = ⊥

-- the image of this hash runs and is confirmed, or the slot that holds it is pending by the mark that was asked for
abbrev pub IsSet : (hash : List ℕ) (confirm : Bool) → Side → Type 0
IsSet hash confirm s =
    (IsTrue (runs hash (Some s)) × ((confirm ≡ true) × (s.confirmed ≡ true)))
    ⊎ (IsTrue (holds hash (Some s)) × (s.pending ≡ Some (mark_of confirm)))

-- it is so of some side of the device
pub record IsSetOn (hash : List ℕ) (confirm : Bool) (d : AbstractDevice) : Type 0 where
  pub image : ℕ
  pub side : Side
  pub found : side_at image d ≡ Some side
  pub fact : IsSet hash confirm side
