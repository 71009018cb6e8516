-- Requests by the kind of steps that they have: none, changes of what a start forgets, a save, or steps of images. A proof about
-- every request goes through these kinds, so that another request without steps costs it nothing.
use Rattle.std.proofs.Common.{◌≡◌, ◌+◌, ◌==◌, not, ℕ, List, [], length, Bool, true, false, Option, Some, None, refl, sym, subst, if◌then◌else◌, nat_lt}
use Rattle.smp_model.specs.declared.device.AbstractDevice.{AbstractDevice}
use Rattle.smp_model.specs.declared.device.Sizes.{Sizes}
use Rattle.smp_model.specs.declared.device.StoredFile.{StoredFile}
use Rattle.smp_model.specs.declared.setting.Setting.{Setting}
use Rattle.smp_model.specs.declared.upload.Announcement.{Announcement}
use Rattle.smp_model.specs.Acknowledged.{is_upload_to}
use Rattle.smp_model.specs.Does.{does}
use Rattle.smp_model.specs.Due.{Announces, IsUpload, IsStart, IsChangeDue}
use Rattle.smp_model.specs.FileGroup.{if_file, about_file, reads_held, is_sha256, hashes_held, is_no_free_file, begins_file, continues_file, writes_file}
use Rattle.smp_model.specs.Files.{is_file_name, longest_file, file_of}
use Rattle.smp_model.specs.Laws.{EachStep}
use Rattle.smp_model.specs.Meant as meant
use Rattle.smp_model.specs.Meant.{Meant}
use Rattle.smp_model.specs.Steps.{Change, write_setting, delete_setting, begin_file, append_file, Step, OnSide, Save, Run}
use Rattle.smp_model.specs.Response.{Response, reply_alone}
use Rattle.smp_model.specs.Said as said
use Rattle.smp_model.specs.Said.{is_error}
use Rattle.smp_model.specs.Settings.{value_of, is_setting_name, is_setting_value, is_full}
use Rattle.smp_model.specs.SettingsGroup.{reads_value, reads_setting, writes_setting, deletes_value, deletes_setting}
use Rattle.smp_model.proofs.Cases.{either_way}

-- a change of which this holds
abbrev pub IsRunOf : (Change → Type 0) → Step → Type 0
IsRunOf P (OnSide image step) = ⊥
IsRunOf P Save = ⊥
IsRunOf P (Run change) = P change

-- a response whose steps are such changes, and none at an error
pub record Runs (P : Change → Type 0) (r : Response) : Type 0 where
  pub changes : EachStep (IsRunOf P) r.steps
  pub refuses : is_error r.reply ≡ true → r.steps ≡ []

abbrev HasNoSteps : Response → Type 0
HasNoSteps r = r.steps ≡ []

no_error : {A : Type 0} → false ≡ true → A
no_error h = cc

refusal : (P : Change → Type 0) (r : Response) → r.steps ≡ [] → Runs P r
refusal P r e = record { changes = subst (EachStep (IsRunOf P)) (sym e) tt; refuses = λ _. e }

-- reads have no steps
none_if : (b : Bool) (x y : Response) → HasNoSteps x → HasNoSteps y → HasNoSteps (if b then x else y)
none_if b x y p q = either_way HasNoSteps b x y p q

reads_value_none : (size : Option ℕ) (val : Option (List ℕ)) → HasNoSteps (reads_value size val)
reads_value_none size None = refl
reads_value_none size (Some val) = refl

reads_setting_none : (running : List Setting) (name : List ℕ) (size : Option ℕ) → HasNoSteps (reads_setting running name size)
reads_setting_none running name size = none_if (not (is_setting_name name)) _ _ refl (reads_value_none size (value_of name running))

if_file_none : (f : Option StoredFile) (response : StoredFile → Response) → ((g : StoredFile) → HasNoSteps (response g)) → HasNoSteps (if_file f response)
if_file_none None response h = refl
if_file_none (Some f) response h = h f

about_file_none : (files : List StoredFile) (name : List ℕ) (response : StoredFile → Response) → ((g : StoredFile) → HasNoSteps (response g)) → HasNoSteps (about_file files name response)
about_file_none files name response h = none_if (not (is_file_name name)) _ _ refl (if_file_none (file_of name files) response h)

reads_held_none : (off : ℕ) (f : StoredFile) → HasNoSteps (reads_held off f)
reads_held_none off f = none_if (nat_lt (length f.held) off) _ _ refl refl

hashes_held_none : (kind : Option (List ℕ)) (off : ℕ) (len : Option ℕ) (f : StoredFile) → HasNoSteps (hashes_held kind off len f)
hashes_held_none kind off len f = none_if (not (is_sha256 kind)) _ _ refl (none_if (nat_lt (length f.held) off) _ _ refl refl)

-- writes and deletes
runs_if : (P : Change → Type 0) (b : Bool) (x y : Response) → HasNoSteps x → Runs P y → Runs P (if b then x else y)
runs_if P b x y p q = either_way (Runs P) b x y (refusal P x p) q

writes_setting_runs : (P : Change → Type 0) (running : List Setting) (name val : List ℕ) → P (write_setting name val) → Runs P (writes_setting running name val)
writes_setting_runs P running name val p =
    runs_if P (not (is_setting_name name)) _ _ refl
    (runs_if P (not (is_setting_value val)) _ _ refl
    (runs_if P (is_full name val running) _ _ refl (record { changes = (p, tt); refuses = λ h. no_error h })))

deletes_value_runs : (P : Change → Type 0) (name : List ℕ) (val : Option (List ℕ)) → P (delete_setting name) → Runs P (deletes_value name val)
deletes_value_runs P name None p = record { changes = tt; refuses = λ _. refl }
deletes_value_runs P name (Some val) p = record { changes = (p, tt); refuses = λ h. no_error h }

deletes_setting_runs : (P : Change → Type 0) (running : List Setting) (name : List ℕ) → P (delete_setting name) → Runs P (deletes_setting running name)
deletes_setting_runs P running name p = runs_if P (not (is_setting_name name)) _ _ refl (deletes_value_runs P name (value_of name running) p)

begins_file_runs : (P : Change → Type 0) (files : List StoredFile) (name part : List ℕ) (len : Option ℕ) → ((n : ℕ) → P (begin_file name n part)) → Runs P (begins_file files name part len)
begins_file_runs P files name part None p = record { changes = tt; refuses = λ _. refl }
begins_file_runs P files name part (Some len) p =
    runs_if P (nat_lt longest_file len) _ _ refl
    (runs_if P (nat_lt len (length part)) _ _ refl
    (runs_if P (is_no_free_file files name) _ _ refl (record { changes = (p len, tt); refuses = λ h. no_error h })))

continues_file_runs : (P : Change → Type 0) (off : ℕ) (part : List ℕ) (f : StoredFile) → P (append_file f.name part) → Runs P (continues_file off part f)
continues_file_runs P off part f p =
    runs_if P (not (off == length f.held)) _ _ refl
    (runs_if P (nat_lt f.announced (length f.held + length part)) _ _ refl (record { changes = (p, tt); refuses = λ h. no_error h }))

if_file_runs : (P : Change → Type 0) (f : Option StoredFile) (response : StoredFile → Response) → ((g : StoredFile) → Runs P (response g)) → Runs P (if_file f response)
if_file_runs P None response h = record { changes = tt; refuses = λ _. refl }
if_file_runs P (Some f) response h = h f

writes_file_runs : (P : Change → Type 0) (files : List StoredFile) (off : ℕ) (part : List ℕ) (len : Option ℕ) (name : List ℕ)
    → ((n : ℕ) → P (begin_file name n part)) → ((n : List ℕ) → P (append_file n part)) → Runs P (writes_file files off part len name)
writes_file_runs P files off part len name begins appends =
    runs_if P (not (is_file_name name)) _ _ refl
    (either_way (Runs P) (off == 0) _ _ (begins_file_runs P files name part len begins) (if_file_runs P (file_of name files) (continues_file off part) (λ f. continues_file_runs P off part f (appends f.name))))

-- A fact of every request, from what it is where there are no steps, and for each request that has some.
pub record EachStepping (sizes : Sizes) (d : AbstractDevice) (P : Meant → Type 0) : Type 0 where
  pub still : (m : Meant) → (does sizes d m).steps ≡ [] → P m
  pub setting_write : (name val : List ℕ) → P (meant.setting_write name val)
  pub setting_delete : (name : List ℕ) → P (meant.setting_delete name)
  pub file_write : (off : ℕ) (part : List ℕ) (len : Option ℕ) (name : List ℕ) → P (meant.file_write off part len name)
  pub load : P meant.load
  pub save : P meant.save
  pub image_list : P meant.image_list
  pub image_set : (hash : Option (List ℕ)) (confirm : Bool) → P (meant.image_set hash confirm)
  pub upload : (image len : Option ℕ) (off : ℕ) (sha : Option (List ℕ)) (part : List ℕ) → P (meant.upload image len off sha part)
  pub erase : (slot : ℕ) → P (meant.erase slot)

pub by_stepping : (sizes : Sizes) (d : AbstractDevice) (P : Meant → Type 0) → EachStepping sizes d P → (m : Meant) → P m
by_stepping sizes d P k (meant.echo text) = k.still (meant.echo text) refl
by_stepping sizes d P k meant.reset = k.still meant.reset refl
by_stepping sizes d P k meant.parameters = k.still meant.parameters refl
by_stepping sizes d P k meant.image_list = k.image_list
by_stepping sizes d P k (meant.image_set hash confirm) = k.image_set hash confirm
by_stepping sizes d P k (meant.upload image len off sha part) = k.upload image len off sha part
by_stepping sizes d P k (meant.erase slot) = k.erase slot
by_stepping sizes d P k (meant.stat_group name) = k.still (meant.stat_group name) refl
by_stepping sizes d P k meant.stat_list = k.still meant.stat_list refl
by_stepping sizes d P k (meant.setting_read name size) = k.still (meant.setting_read name size) (reads_setting_none d.running name size)
by_stepping sizes d P k (meant.setting_write name val) = k.setting_write name val
by_stepping sizes d P k (meant.setting_delete name) = k.setting_delete name
by_stepping sizes d P k meant.commit = k.still meant.commit refl
by_stepping sizes d P k meant.load = k.load
by_stepping sizes d P k meant.save = k.save
by_stepping sizes d P k (meant.file_read off name) = k.still (meant.file_read off name) (about_file_none d.files name (reads_held off) (reads_held_none off))
by_stepping sizes d P k (meant.file_write off part len name) = k.file_write off part len name
by_stepping sizes d P k (meant.file_status name) = k.still (meant.file_status name) (about_file_none d.files name (λ f. reply_alone (said.file_length (length f.held))) (λ f. refl))
by_stepping sizes d P k (meant.file_hash name kind off len) =
    k.still (meant.file_hash name kind off len) (about_file_none d.files name (hashes_held kind off len) (hashes_held_none kind off len))
by_stepping sizes d P k meant.file_types = k.still meant.file_types refl
by_stepping sizes d P k meant.file_close = k.still meant.file_close refl

-- a request that changes what a start forgets: its changes are due on whatever device
abbrev Changing : AbstractDevice → Meant → Change → Type 0
Changing d m c = (e : AbstractDevice) → IsChangeDue d.target m e c

abbrev pub RunsChanges : Sizes → AbstractDevice → Meant → Type 0
RunsChanges sizes d m = Runs (λ c. (e : AbstractDevice) → IsChangeDue d.target m e c) (does sizes d m)

-- A fact of every request, from what it is for each kind: no steps, changes of what a start forgets, a save, and images.
pub record EachKind (sizes : Sizes) (d : AbstractDevice) (P : Meant → Type 0) : Type 0 where
  pub still : (m : Meant) → (does sizes d m).steps ≡ [] → P m
  pub runs : (m : Meant) → RunsChanges sizes d m → P m
  pub save : P meant.save
  pub image_list : P meant.image_list
  pub image_set : (hash : Option (List ℕ)) (confirm : Bool) → P (meant.image_set hash confirm)
  pub upload : (image len : Option ℕ) (off : ℕ) (sha : Option (List ℕ)) (part : List ℕ) → P (meant.upload image len off sha part)
  pub erase : (slot : ℕ) → P (meant.erase slot)

pub by_kind : (sizes : Sizes) (d : AbstractDevice) (P : Meant → Type 0) → EachKind sizes d P → (m : Meant) → P m
by_kind sizes d P k = by_stepping sizes d P (record {
  still = k.still;
  setting_write = λ name val. k.runs (meant.setting_write name val) (writes_setting_runs (Changing d (meant.setting_write name val)) d.running name val (λ e. refl));
  setting_delete = λ name. k.runs (meant.setting_delete name) (deletes_setting_runs (Changing d (meant.setting_delete name)) d.running name (λ e. refl));
  file_write = λ off part len name. k.runs (meant.file_write off part len name)
      (writes_file_runs (Changing d (meant.file_write off part len name)) d.files off part len name (λ n e. tt) (λ n e. tt));
  load = k.runs meant.load (record { changes = (λ e. refl, tt); refuses = λ h. no_error h });
  save = k.save;
  image_list = k.image_list;
  image_set = k.image_set;
  upload = k.upload;
  erase = k.erase;
})

-- a request that is no upload
pub record IsOther (m : Meant) : Type 0 where
  pub no_upload : IsUpload m → ⊥
  pub no_start : IsStart m → ⊥
  pub none_announced : (a : Announcement) → Announces a m → ⊥
  pub to_none : (image target : ℕ) → is_upload_to image target m ≡ false

-- A fact of every request, from what it is for an upload and for another.
pub by_upload : (P : Meant → Type 0) → ((image len : Option ℕ) (off : ℕ) (sha : Option (List ℕ)) (part : List ℕ) → P (meant.upload image len off sha part))
    → ((m : Meant) → IsOther m → P m) → (m : Meant) → P m
by_upload P up other (meant.upload image len off sha part) = up image len off sha part
by_upload P up other (meant.echo text) = other (meant.echo text) (record { no_upload = λ h. h; no_start = λ h. h; none_announced = λ a h. h; to_none = λ i t. refl })
by_upload P up other meant.reset = other meant.reset (record { no_upload = λ h. h; no_start = λ h. h; none_announced = λ a h. h; to_none = λ i t. refl })
by_upload P up other meant.parameters = other meant.parameters (record { no_upload = λ h. h; no_start = λ h. h; none_announced = λ a h. h; to_none = λ i t. refl })
by_upload P up other meant.image_list = other meant.image_list (record { no_upload = λ h. h; no_start = λ h. h; none_announced = λ a h. h; to_none = λ i t. refl })
by_upload P up other (meant.image_set hash confirm) = other (meant.image_set hash confirm) (record { no_upload = λ h. h; no_start = λ h. h; none_announced = λ a h. h; to_none = λ i t. refl })
by_upload P up other (meant.erase slot) = other (meant.erase slot) (record { no_upload = λ h. h; no_start = λ h. h; none_announced = λ a h. h; to_none = λ i t. refl })
by_upload P up other (meant.stat_group name) = other (meant.stat_group name) (record { no_upload = λ h. h; no_start = λ h. h; none_announced = λ a h. h; to_none = λ i t. refl })
by_upload P up other meant.stat_list = other meant.stat_list (record { no_upload = λ h. h; no_start = λ h. h; none_announced = λ a h. h; to_none = λ i t. refl })
by_upload P up other (meant.setting_read name size) = other (meant.setting_read name size) (record { no_upload = λ h. h; no_start = λ h. h; none_announced = λ a h. h; to_none = λ i t. refl })
by_upload P up other (meant.setting_write name val) = other (meant.setting_write name val) (record { no_upload = λ h. h; no_start = λ h. h; none_announced = λ a h. h; to_none = λ i t. refl })
by_upload P up other (meant.setting_delete name) = other (meant.setting_delete name) (record { no_upload = λ h. h; no_start = λ h. h; none_announced = λ a h. h; to_none = λ i t. refl })
by_upload P up other meant.commit = other meant.commit (record { no_upload = λ h. h; no_start = λ h. h; none_announced = λ a h. h; to_none = λ i t. refl })
by_upload P up other meant.load = other meant.load (record { no_upload = λ h. h; no_start = λ h. h; none_announced = λ a h. h; to_none = λ i t. refl })
by_upload P up other meant.save = other meant.save (record { no_upload = λ h. h; no_start = λ h. h; none_announced = λ a h. h; to_none = λ i t. refl })
by_upload P up other (meant.file_read off name) = other (meant.file_read off name) (record { no_upload = λ h. h; no_start = λ h. h; none_announced = λ a h. h; to_none = λ i t. refl })
by_upload P up other (meant.file_write off part len name) = other (meant.file_write off part len name) (record { no_upload = λ h. h; no_start = λ h. h; none_announced = λ a h. h; to_none = λ i t. refl })
by_upload P up other (meant.file_status name) = other (meant.file_status name) (record { no_upload = λ h. h; no_start = λ h. h; none_announced = λ a h. h; to_none = λ i t. refl })
by_upload P up other (meant.file_hash name kind off len) = other (meant.file_hash name kind off len) (record { no_upload = λ h. h; no_start = λ h. h; none_announced = λ a h. h; to_none = λ i t. refl })
by_upload P up other meant.file_types = other meant.file_types (record { no_upload = λ h. h; no_start = λ h. h; none_announced = λ a h. h; to_none = λ i t. refl })
by_upload P up other meant.file_close = other meant.file_close (record { no_upload = λ h. h; no_start = λ h. h; none_announced = λ a h. h; to_none = λ i t. refl })
