-- What a request about one image is, and the device's response to it.
use Rattle.std.specs.Prelude.{◌≡◌, ℕ, zero, suc, Bool, ◌+◌, ◌≤◌, length, List, [], Option, Some, None, option_map, Result, Ok, IfOk, IfSome}
use Rattle.smp_flash.specs.Area.{area, blank}
use Rattle.smp_flash.specs.Geometry.{slot_size}
use Rattle.smp_flash.specs.Layout.{slot_of}
use Rattle.smp_flash.specs.declared.geometry.Geometry.{Geometry}
use Rattle.smp_flash.specs.declared.layout.Layout.{Layout}
use Rattle.smp_model.specs.declared.reply.Reply.{Reply}
use Rattle.smp_model.specs.declared.reply.Reply.TheVariants as replied
use Rattle.smp_upload.specs.declared.states.UploadFault.{UploadFault}
use Rattle.smp_model.specs.declared.device.AbstractDevice.{AbstractDevice}
use Rattle.smp_model.specs.declared.device.Side.{Side}
use Rattle.smp_model.specs.declared.error.TheConstants.{INVALID_SLOT}
use Rattle.smp_model.specs.ImageGroup.{start_at, part_at, erase_of, aims, refuses_image}
use Rattle.smp_model.specs.Response.{Response, SideResponse, settling_side}
use Rattle.smp_model.specs.Said.{Said}
use Rattle.smp_model.specs.Sides.{side_settle}
use Rattle.smp_model.specs.Steps.{Step, side_at}
use Rattle.smp_side.specs.Held.{is_mounted, is_ok}
use Rattle.smp_side.specs.declared.held.Held.{Held}
use Rattle.smp_device.specs.Places.{Places, place_at}
use Rattle.smp_device.specs.declared.images.Images.{Images}
use Rattle.smp_device.specs.declared.images.Replied.{Replied}
use Rattle.smp_device.specs.declared.images.SideRequest.{SideRequest}
use Rattle.smp_device.specs.declared.images.SideRequest.TheVariants as asks

-- what the side does, where it is settled
abbrev pub side_response : (unit : ℕ) → SideRequest → Side → SideResponse
side_response unit (asks.Start a bytes) side = start_at unit a bytes.now side.pending side.upload
side_response unit (asks.Part off tag bytes) side = part_at unit off (option_map (λ t. t.now) tag) bytes.now side.upload
side_response unit asks.Erase side = erase_of side.pending

-- what comes between the settling of the side and that: a start that is answered with an offset moves the target
abbrev pub between : SideRequest → (image : ℕ) → Said → List Step
between (asks.Start a bytes) image reply = aims image reply
between (asks.Part off tag bytes) image reply = []
between asks.Erase image reply = []

-- the response of the device that has the side, and of one that has no such image
abbrev pub responds_of : (unit : ℕ) → SideRequest → (image : ℕ) → Option Side → Response
responds_of unit request image None = refuses_image INVALID_SLOT
responds_of unit request image (Some s) =
    settling_side image s (between request image (side_response unit request (side_settle s)).reply) (side_response unit request (side_settle s))

abbrev pub responds_on : (unit : ℕ) → SideRequest → (image : ℕ) → AbstractDevice → Response
responds_on unit request image d = responds_of unit request image (side_at image d)

-- the start has the bytes of a header, and announces what a slot has room for
abbrev pub IsStart : Geometry → SideRequest → Type 0
IsStart g (asks.Start a bytes) = (32 ≤ length bytes.now) × (a.length + g.page ≤ slot_size g)
IsStart g (asks.Part off tag bytes) = Unit {0}
IsStart g asks.Erase = Unit {0}

-- the target after a request that came to a mounted side
abbrev pub target_by : (target image : ℕ) → Result Reply UploadFault → ℕ
target_by target image (Ok (replied.GroupError group number)) = target
target_by target image r = image

abbrev pub moved_target : (target image : ℕ) → SideRequest → Result Reply UploadFault → ℕ
moved_target target image (asks.Start a bytes) r = target_by target image r
moved_target target image (asks.Part off tag bytes) r = target
moved_target target image asks.Erase r = target

-- A request about an image leaves it mounted exactly where it was answered, and the other image as it was; one about an image that
-- is not there leaves all as it was.
abbrev pub SecondMounted : Option Held → Bool → Type 0
SecondMounted None answered = Unit {0}
SecondMounted (Some h) answered = is_mounted h ≡ answered

abbrev pub MountsOf : (image : ℕ) → (before : Images) → Replied → Type 0
MountsOf zero before r = (is_mounted r.images.zero ≡ is_ok r.result) × (r.images.one ≡ before.one)
MountsOf (suc zero) before r = (r.images.zero ≡ before.zero) × (SecondMounted r.images.one (is_ok r.result))
MountsOf (suc (suc n)) before r = r.images ≡ before

-- An erase that was done left every byte of the secondary slot FF.
abbrev pub IsErased : Layout → List ℕ → Type 0
IsErased layout held = area (slot_of layout 1).at (slot_of layout 1).length held ≡ blank (slot_of layout 1).length

abbrev pub ErasesSlot : Layout → Result Reply UploadFault → Option (List ℕ) → Type 0
ErasesSlot layout r x = IfOk r (λ reply. reply ≡ replied.Empty → IfSome x (IsErased layout))

abbrev pub Erases : Layout → SideRequest → Result Reply UploadFault → Option (List ℕ) → Type 0
Erases layout (asks.Start a bytes) r x = Unit {0}
Erases layout (asks.Part off tag bytes) r x = Unit {0}
Erases layout asks.Erase r x = ErasesSlot layout r x

abbrev pub ErasesAt : Places → (image : ℕ) → SideRequest → Result Reply UploadFault → Option (List ℕ) → Type 0
ErasesAt p image request r x = (layout : Layout) → place_at image p ≡ Some layout → Erases layout request r x

-- the slot of the image that it is for
abbrev pub ErasesFor : Places → Option ℕ → Result Reply UploadFault → Option (List ℕ) → Type 0
ErasesFor p image r x = IfSome image (λ i. (layout : Layout) → place_at i p ≡ Some layout → ErasesSlot layout r x)
