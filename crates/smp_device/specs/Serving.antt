-- What serving a request does to the device that the flash's bytes and memory stand for.
use Rattle.std.specs.Prelude.{◌≡◌, ◌-◌, ◌^◌, ◌++◌, ℕ, Bool, true, false, List, [], Option, Some, None, Result, Ok, Err, IfSome, IsSomeAnd, OnOk}
use Rattle.smp_flash.specs.Area.{Told}
use Rattle.smp_flash.specs.Calls.{Calls, Smaller}
use Rattle.smp_flash.specs.Layout.{progress_of, settings_of, bank_spots}
use Rattle.smp_flash.specs.State.{FlashState}
use Rattle.smp_flash.specs.declared.geometry.Geometry.{Geometry}
use Rattle.smp_flash.specs.declared.region.Region.{Region}
use Rattle.smp_gate.specs.Newest.{AgesAtMost, newest_generation}
use Rattle.smp_gate.specs.declared.fault.BankFault.{BankFault}
use Rattle.smp_gate.specs.declared.fault.BankFault.TheVariants as banks
use Rattle.smp_model.specs.declared.device.AbstractDevice.{AbstractDevice}
use Rattle.smp_model.specs.declared.device.Sizes.{Sizes}
use Rattle.smp_model.specs.declared.reply.Reply.{Reply}
use Rattle.smp_model.specs.declared.reply.Reply.TheVariants as replied
use Rattle.smp_model.specs.Due.{image_for}
use Rattle.smp_model.specs.FlashUse.{uses_images, uses_saved}
use Rattle.smp_model.specs.Handled.{response_to}
use Rattle.smp_model.specs.Meant as meant
use Rattle.smp_model.specs.Meant.{Meant}
use Rattle.smp_model.specs.Response.{Response}
use Rattle.smp_model.specs.Said.{said_of}
use Rattle.smp_model.specs.Steps.{Step, applied}
use Rattle.smp_model.specs.declared.error.TheConstants.{SETTINGS_GROUP, SETTING_NAME_LENGTH, SETTING_VALUE_LENGTH, SETTINGS_FULL}
use Rattle.smp_settings.specs.declared.fault.SettingFault.{SettingFault}
use Rattle.smp_settings.specs.declared.fault.SettingFault.TheVariants as writes
use Rattle.smp_upload.specs.Moves.{KeepsPending}
use Rattle.smp_upload.specs.declared.states.UploadFault.{UploadFault}
use Rattle.smp_upload.specs.declared.states.UploadFault.TheVariants as faults
use Rattle.smp_side.specs.Held.{is_ok, result_end}
use Rattle.smp_device.specs.Answers.{WornSomewhere}
use Rattle.smp_device.specs.Goings.{BringNearer}
use Rattle.smp_device.specs.Mounts.{HasImages, MountsAll, MountsItsOwn, MountsResult}
use Rattle.smp_device.specs.Places.{Places, AtEach, spots_of, places_of}
use Rattle.smp_device.specs.Requests.{ErasesFor}
use Rattle.smp_device.specs.Up.{Up, Stands, UpSays, Carries}
use Rattle.smp_device.specs.Uploads.{sizes_of}
use Rattle.smp_device.specs.declared.images.Images.{Images}
use Rattle.smp_device.specs.declared.images.Replied.{Replied}

-- where the operations of a request begin
abbrev pub spots_by : Places → Meant → List (ℕ × ℕ)
spots_by p meant.image_list = spots_of p
spots_by p (meant.image_set hash confirm) = spots_of p
spots_by p (meant.upload image len off sha part) = spots_of p
spots_by p (meant.erase slot) = spots_of p
spots_by p meant.load = bank_spots (settings_of p.first)
spots_by p meant.save = bank_spots (settings_of p.first)
spots_by p m = []

abbrev pub spots_for : Places → Result Meant ℕ → List (ℕ × ℕ)
spots_for p (Ok m) = spots_by p m
spots_for p (Err number) = []

-- how the request went, by its result: all steps were taken and the reply is the abstract device's, or some first steps
abbrev pub Went : Response → List Step → Result Reply UploadFault → Type 0
Went r taken (Ok reply) = (taken ≡ r.steps) × (said_of reply ≡ r.reply)
Went r taken (Err fault) = (rest : List Step) × (r.steps ≡ taken ++ rest)

-- what came of the device that the flash and memory stood for
pub record Reached (p : Places) (r : Response) (d : AbstractDevice) (after : Up) (result : Result Reply UploadFault) (new : List ℕ) : Type 0 where
  pub taken : List Step
  pub went : Went r taken result
  pub stands : Stands p after.images.target (applied taken d) new
  pub carries : Carries after (applied taken d)

abbrev pub ReachedFrom : Places → (AbstractDevice → Response) → (up after : Up) → Result Reply UploadFault → List ℕ → List ℕ → Type 0
ReachedFrom p respond up after result old new = (d : AbstractDevice) → Stands p up.images.target d old → Carries up d → Reached p (respond d) d after result new

-- Why a request was broken off. A bank is worn only where it can't take the records of a request; a flash that tells its
-- bytes, and stood for a device, is never unformatted.
abbrev pub CausedBy : Places → Result Meant ℕ → UploadFault → Option (List ℕ) → Type 0
CausedBy p m faults.Unformatted x = x ≡ None
CausedBy p (Ok meant.save) faults.Worn x = IfSome x (λ held. newest_generation (settings_of p.first) held ≡ 2 ^ 32 - 1)
CausedBy p m faults.Worn x = WornSomewhere p 5 x
CausedBy p m (faults.Fault operation) x = Unit {0}
CausedBy p m faults.Off x = Unit {0}

abbrev pub ResultCausedBy : Places → Result Meant ℕ → Result Reply UploadFault → Option (List ℕ) → Type 0
ResultCausedBy p m (Ok reply) x = Unit {0}
ResultCausedBy p m (Err fault) x = CausedBy p m fault x

-- A save that was answered as done found a settings bank that is not at its last generation, also where nothing was to be saved.
abbrev pub SavesUnworn : Places → Result Meant ℕ → Option (List ℕ) → Type 0
SavesUnworn p (Ok meant.save) x = IfSome x (λ held. newest_generation (settings_of p.first) held ≡ 2 ^ 32 - 1 → ⊥)
SavesUnworn p m x = Unit {0}

-- a request was answered, and flash and images are as they were
pub record Idle (up after : Up) (result : Result Reply UploadFault) (a b : FlashState) : Type 0 where
  pub answered : is_ok result ≡ true
  pub images_same : after.images ≡ up.images
  pub flash_same : b ≡ a

-- Whatever device has the images that are held: where its rules refuse a request about images before they come to the flash, or the
-- request is neither about images nor about what is saved, it is idle. So is a packet that means no request.
abbrev pub Idles : Sizes → Result Meant ℕ → (up after : Up) → Result Reply UploadFault → FlashState → FlashState → Type 0
Idles sizes (Ok m) up after result a b =
    (d : AbstractDevice) → HasImages (places_of up.images) up.images.target d → uses_images sizes d m ≡ false → uses_saved m ≡ false → Idle up after result a b
Idles sizes (Err number) up after result a b = Idle up after result a b

-- which images are mounted after it
abbrev pub MountsBy : Sizes → Result Meant ℕ → (before : Images) → Replied → FlashState → FlashState → Type 0
MountsBy sizes (Ok meant.image_list) before r a b = MountsResult (places_of before) before r.images r.result a b
MountsBy sizes (Ok (meant.image_set hash confirm)) before r a b = MountsAll sizes (meant.image_set hash confirm) before r a b
MountsBy sizes (Ok (meant.upload image len off sha part)) before r a b = MountsItsOwn sizes (meant.upload image len off sha part) before r a b
MountsBy sizes (Ok (meant.erase slot)) before r a b = MountsItsOwn sizes (meant.erase slot) before r a b
MountsBy sizes m before r a b = r.images ≡ before

-- an erase that was done left every byte of its slot FF
abbrev pub ErasesBy : Result Meant ℕ → (before : Images) → Result Reply UploadFault → Option (List ℕ) → Type 0
ErasesBy (Ok (meant.erase slot)) before r x = ErasesFor (places_of before) (image_for before.target (meant.erase slot)) r x
ErasesBy m before r x = Unit {0}

-- Where the steps of the device that flash and memory stand for bring what is armed nearer, patience was taken of it.
abbrev pub ServicePays : Up → (AbstractDevice → Response) → FlashState → FlashState → Type 0
ServicePays up respond a b =
    (region : Region) (d : AbstractDevice) → a.aim ≡ Some region → IsSomeAnd a.bytes (Stands (places_of up.images) up.images.target d) → Carries up d
    → BringNearer region d (respond d).steps → Smaller a.patience b.patience

-- a fact of the requests about images and of those about what is saved; the steps of all others bring nothing nearer
abbrev pub IfOfFlash : Result Meant ℕ → Type 0 → Type 0
IfOfFlash (Ok meant.image_list) P = P
IfOfFlash (Ok (meant.image_set hash confirm)) P = P
IfOfFlash (Ok (meant.upload image len off sha part)) P = P
IfOfFlash (Ok (meant.erase slot)) P = P
IfOfFlash (Ok meant.load) P = P
IfOfFlash (Ok meant.save) P = P
IfOfFlash m P = Unit {0}

-- A request was served, for whatever device the flash and memory stood for.
pub record Serves (g : Geometry) (m : Result Meant ℕ) (up after : Up) (result : Result Reply UploadFault) (a b : FlashState) : Type 0 where
  pub calls : Calls (spots_for (places_of up.images) m) (result_end result) a b
  pub reached : Told (ReachedFrom (places_of up.images) (λ d. response_to (sizes_of g) d m) up after result) a.bytes b.bytes
  pub says : IfSome b.bytes (UpSays after.images after.settings)
  pub places_kept : places_of after.images ≡ places_of up.images
  pub settings_kept : after.settings.layout ≡ up.settings.layout
  pub counters_kept : after.counters ≡ up.counters
  pub caused : ResultCausedBy (places_of up.images) m result a.bytes
  pub unworn : OnOk result (SavesUnworn (places_of up.images) m a.bytes)
  pub progress_ages : AtEach (λ l. Told (AgesAtMost 5 (progress_of l)) a.bytes b.bytes) (places_of up.images)
  pub settings_ages : Told (AgesAtMost 1 (settings_of (places_of up.images).first)) a.bytes b.bytes
  pub pending : AtEach (λ l. Told (KeepsPending l) a.bytes b.bytes) (places_of up.images)
  pub untouched : Idles (sizes_of g) m up after result a b
  pub mounts : MountsBy (sizes_of g) m up.images (record { images = after.images; result = result }) a b
  pub erased : ErasesBy m up.images result b.bytes
  pub pays : OnOk result (IfOfFlash m (ServicePays up (λ d. response_to (sizes_of g) d m) a b))

-- the fault of a call on the settings; the last is never answered by these
abbrev pub of_bank : BankFault → UploadFault
of_bank banks.Unformatted = faults.Unformatted
of_bank (banks.Fault operation) = faults.Fault operation
of_bank banks.Off = faults.Off
of_bank banks.Worn = faults.Worn
of_bank banks.Full = faults.Worn

-- the answer of a call on the settings that has nothing to tell
abbrev pub bank_reply : Result (Unit {0}) BankFault → Result Reply UploadFault
bank_reply (Ok x) = Ok replied.Empty
bank_reply (Err fault) = Err (of_bank fault)

-- the requests that may change something
abbrev pub changes : Meant → Bool
changes meant.image_list = true
changes (meant.image_set hash confirm) = true
changes (meant.upload image len off sha part) = true
changes (meant.erase slot) = true
changes (meant.setting_write name val) = true
changes (meant.setting_delete name) = true
changes meant.load = true
changes meant.save = true
changes (meant.file_write off part len name) = true
changes m = false

-- the answer to a write of a setting that ended so
abbrev pub setting_reply : Result (Unit {0}) SettingFault → Reply
setting_reply (Ok x) = replied.Empty
setting_reply (Err writes.NameLength) = replied.GroupError SETTINGS_GROUP SETTING_NAME_LENGTH
setting_reply (Err writes.ValueLength) = replied.GroupError SETTINGS_GROUP SETTING_VALUE_LENGTH
setting_reply (Err writes.Full) = replied.GroupError SETTINGS_GROUP SETTINGS_FULL
