-- What a start does: it reads the settings, and then mounts each image.
use Rattle.std.specs.Prelude.{◌≡◌, ◌⊎◌, ◌++◌, ℕ, zero, suc, List, [], Option, Some, None, Result, Ok, Err, IfErr, IfSome, IfOk, IsSomeAnd, OnOk, option_map}
use Rattle.smp_flash.specs.Area.{Told, Keeps}
use Rattle.smp_flash.specs.Calls.{Calls, Smaller}
use Rattle.smp_flash.specs.Layout.{geometry_of, progress_of, settings_of, bank_spots}
use Rattle.smp_flash.specs.State.{FlashState}
use Rattle.smp_flash.specs.declared.layout.Layout.{Layout}
use Rattle.smp_flash.specs.declared.region.Region.{Region}
use Rattle.smp_gate.specs.Newest.{AgesAtMost}
use Rattle.smp_model.specs.declared.device.AbstractDevice.{AbstractDevice}
use Rattle.smp_model.specs.Counters.{no_counters}
use Rattle.smp_model.specs.Settings.{stored_form}
use Rattle.smp_model.specs.Steps.{Step, applied, settle_steps, side_at, start}
use Rattle.smp_settings.specs.Saved.{SavedReadable}
use Rattle.smp_upload.specs.Mounting.{IsWorn, Mounts}
use Rattle.smp_upload.specs.Moves.{KeepsPending, mount_spots}
use Rattle.smp_upload.specs.declared.states.UploadFault.{UploadFault}
use Rattle.smp_upload.specs.declared.states.UploadFault.TheVariants as faults
use Rattle.smp_upload.specs.Bytes.{SideReadable, confirmed_in}
use Rattle.smp_upload.specs.declared.states.Lost.{Lost}
use Rattle.smp_upload.specs.declared.states.Mounted.{Mounted}
use Rattle.smp_side.specs.Held.{result_end}
use Rattle.smp_side.specs.declared.held.Held.{Held}
use Rattle.smp_side.specs.declared.held.Held.TheVariants as helds
use Rattle.smp_device.specs.Answers.{ImagesReached}
use Rattle.smp_device.specs.Goings.{BringNearer}
use Rattle.smp_device.specs.Places.{Places, AtEach, ImagesSay, ImagesStand, spots_of}
use Rattle.smp_device.specs.Settling.{Settles}
use Rattle.smp_device.specs.declared.images.Images.{Images}
use Rattle.smp_device.specs.Showing.{shown_at, shown_side}
use Rattle.smp_device.specs.Handling.{DeviceState}
use Rattle.smp_device.specs.Up.{AllPlaces, Readable, Shows, Stands}
use Rattle.smp_device.specs.declared.device.OpenFault.{OpenFault}
use Rattle.smp_device.specs.declared.device.OpenFault.TheVariants as opens
use Rattle.smp_device.specs.declared.showing.Confirmed.{Confirmed}
use Rattle.smp_device.specs.declared.starting.Begun.{Begun}

-- where the operations of a start begin
abbrev pub start_spots : Places → List (ℕ × ℕ)
start_spots p = bank_spots (settings_of p.first) ++ spots_of p

-- The start of the device: the flash shows it, and memory holds what it starts with; what is shown of its images and of its
-- settings is its own.
pub record Started (p : Places) (d : AbstractDevice) (begun : Begun) (bytes : List ℕ) : Type 0 where
  pub shows : Shows p begun.images.target (start d) bytes
  pub running : begun.settings.running ≡ (start d).running
  pub form : begun.settings.form ≡ stored_form (start d).saved
  pub shown : (image : ℕ) → shown_at image begun.images begun.confirmed ≡ option_map shown_side (side_at image (start d))

-- it was broken off: some first steps of settling were taken
pub record Unstarted (p : Places) (d : AbstractDevice) (bytes : List ℕ) : Type 0 where
  pub taken : List Step
  pub rest : List Step
  pub split : settle_steps d ≡ taken ++ rest
  pub stands : Stands p d.target (applied taken d) bytes

abbrev pub StartsOn : Places → Result Begun UploadFault → List ℕ → List ℕ → Type 0
StartsOn p (Ok begun) old new = (d : AbstractDevice) → Stands p d.target d old → Started p d begun new
StartsOn p (Err fault) old new = (d : AbstractDevice) → Stands p d.target d old → Unstarted p d new

-- the record of an image can't take the records that its mount needs, when image 0 was mounted where it is image 1's
abbrev pub WornAt : Places → (image : ℕ) → List ℕ → Type 0
WornAt p zero bytes = IsWorn p.first bytes
WornAt p (suc zero) bytes = IsSomeAnd p.second (λ l. (middle : List ℕ) × (Keeps (mount_spots p.first) bytes middle × IsWorn l middle))
WornAt p (suc (suc n)) bytes = ⊥

-- Mounting each image.

-- images that are all mounted, when none was aimed at
abbrev pub alone_images : Mounted → Images
alone_images first = record { zero = helds.Mounted first; one = None; target = 0 }

abbrev pub both_images : (first second : Mounted) → Images
both_images first second = record { zero = helds.Mounted first; one = Some (helds.Mounted second); target = 0 }

abbrev pub IsMounted : Held → Type 0
IsMounted (helds.Unmounted u) = ⊥
IsMounted (helds.Mounted m) = Unit {0}

abbrev pub AreMounted : Images → Type 0
AreMounted images = IsMounted images.zero × IfSome images.one IsMounted

-- image 1 was mounted behind image 0
abbrev pub MountsSecond : Layout → (first : Mounted) → Result Images UploadFault → FlashState → FlashState → Type 0
MountsSecond l first (Ok images) a b = (second : Mounted) × ((images ≡ both_images first second) × Mounts l (Ok second) a b)
MountsSecond l first (Err fault) a b = (lost : Lost) × ((fault ≡ lost.fault) × Mounts l (Err lost) a b)

-- or there is none
abbrev pub MountsBehind : Option Layout → (first : Mounted) → Result Images UploadFault → FlashState → FlashState → Type 0
MountsBehind None first r a b = (r ≡ Ok (alone_images first)) × (b ≡ a)
MountsBehind (Some l) first r a b = MountsSecond l first r a b

-- which images are confirmed, by the bytes
pub record AreConfirmed (p : Places) (c : Confirmed) (bytes : List ℕ) : Type 0 where
  pub zero : c.zero ≡ confirmed_in p.first bytes
  pub one : IfSome p.second (λ l. c.one ≡ confirmed_in l bytes)

-- whatever device the bytes stood for, they stand for it after some first steps of settling
abbrev pub SettleTo : Places → List ℕ → List ℕ → Type 0
SettleTo p old new = (d : AbstractDevice) → ImagesStand p d.target d old → ImagesReached p d.target d (settle_steps d) new

pub record StartsImages (p : Places) (result : Result Images UploadFault) (a b : FlashState) : Type 0 where
  pub calls : Calls (spots_of p) (result_end result) a b
  pub reaches : Told (SettleTo p) a.bytes b.bytes
  pub settles : OnOk result ((t : ℕ) → Settles p t a b)
  pub says : IfOk result (λ images. IfSome b.bytes (ImagesSay images))
  pub mounted : IfOk result AreMounted
  pub readable : OnOk result (IfSome a.bytes (λ held. AtEach (λ l. SideReadable l held) p))
  pub unformatted : IfErr result (λ fault. fault ≡ faults.Unformatted → IfSome a.bytes (λ held. AtEach (λ l. SideReadable l held) p → ⊥))
  pub worn : IfErr result (λ fault. fault ≡ faults.Worn → IfSome a.bytes (λ held. WornAt p 0 held ⊎ WornAt p 1 held))
  pub ages : AtEach (λ l. Told (AgesAtMost 2 (progress_of l)) a.bytes b.bytes) p
  pub pending : AtEach (λ l. Told (KeepsPending l) a.bytes b.bytes) p

-- Why a start ended so: it is unformatted exactly where the bytes stand for no device, and worn only where a mount needs more
-- records than can be put.
abbrev pub StartCaused : Places → Result Begun UploadFault → Option (List ℕ) → Type 0
StartCaused p (Ok begun) x = IfSome x (Readable p)
StartCaused p (Err faults.Unformatted) x = IfSome x (λ held. Readable p held → ⊥)
StartCaused p (Err faults.Worn) x = IfSome x (λ held. WornAt p 0 held ⊎ WornAt p 1 held)
StartCaused p (Err (faults.Fault operation)) x = Unit {0}
StartCaused p (Err faults.Off) x = Unit {0}

-- The settings are read first: where the bytes give none, a start changes no byte.
abbrev pub SettingsFirst : Places → Option (List ℕ) → Option (List ℕ) → Type 0
SettingsFirst p x y = IfSome x (λ held. (SavedReadable p.first held → ⊥) → y ≡ x)

-- Where settling the device that the bytes stand for brings what is armed nearer, patience was taken of it.
abbrev pub StartPays : Places → FlashState → FlashState → Type 0
StartPays p a b =
    (region : Region) (d : AbstractDevice) → a.aim ≡ Some region → IsSomeAnd a.bytes (Stands p d.target d) → BringNearer region d (settle_steps d) → Smaller a.patience b.patience

-- The clause of a start.
pub record Starts (p : Places) (result : Result Begun UploadFault) (a b : FlashState) : Type 0 where
  pub calls : Calls (start_spots p) (result_end result) a b
  pub started : Told (StartsOn p result) a.bytes b.bytes
  pub caused : StartCaused p result a.bytes
  pub settings_first : SettingsFirst p a.bytes b.bytes
  pub progress_ages : AtEach (λ l. Told (AgesAtMost 2 (progress_of l)) a.bytes b.bytes) p
  pub settings_ages : Told (AgesAtMost 0 (settings_of p.first)) a.bytes b.bytes
  pub pending : AtEach (λ l. Told (KeepsPending l) a.bytes b.bytes) p
  pub pays : OnOk result (StartPays p a b)

-- What `open` and `restart` leave.

abbrev pub start_fault : OpenFault → Option UploadFault
start_fault opens.OutOfMemory = None
start_fault opens.Unformatted = Some faults.Unformatted
start_fault (opens.Fault operation) = Some (faults.Fault operation)
start_fault opens.Off = Some faults.Off
start_fault opens.Worn = Some faults.Worn

abbrev pub begun_of : Images → DeviceState → Begun
begun_of images s = record { images = images; settings = s.settings; confirmed = s.confirmed }

-- the device is up, and holds what the start brought; nothing is counted, and there are no files
pub record IsUp (s : DeviceState) (a b : FlashState) : Type 0 where
  pub images : Images
  pub up : s.up ≡ Some images
  pub starts : Starts s.places (Ok (begun_of images s)) a b
  pub counters : s.counters ≡ no_counters
  pub files : s.files ≡ []

abbrev pub OpenFails : Option UploadFault → FlashState → FlashState → Type 0
OpenFails None a b = b ≡ a
OpenFails (Some fault) a b = (p : Places) × (AllPlaces a.geometry p × Starts p (Err fault) a b)

abbrev pub Opens : Result DeviceState OpenFault → FlashState → FlashState → Type 0
Opens (Ok s) a b = (geometry_of s.places.first ≡ a.geometry) × IsUp s a b
Opens (Err fault) a b = OpenFails (start_fault fault) a b

-- it is down
pub record IsDown (places : Places) (fault : UploadFault) (s : DeviceState) (a b : FlashState) : Type 0 where
  pub down : s.up ≡ None
  pub starts : Starts places (Err fault) a b

abbrev pub Restarts : Result (Unit {0}) UploadFault → Places → DeviceState → FlashState → FlashState → Type 0
Restarts (Ok x) places s a b = IsUp s a b
Restarts (Err fault) places s a b = IsDown places fault s a b
