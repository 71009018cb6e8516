-- A request without where its parts lie in memory: what a packet means.
use Rattle.std.specs.Prelude.{ℕ, List, [], ◌∷◌, Bool, Option, Some, None, option_map}
use Rattle.smp_model.specs.declared.request.Request.{Request}
use Rattle.smp_model.specs.declared.request.Request.TheVariants as requests
use Rattle.smp_model.specs.Table.{Field, number, words, bytes, truth, Name, echo_row, reset_row, parameters_row, image_list_row, image_set_row, upload_row, erase_row, stat_group_row, stat_list_row, setting_read_row, setting_write_row, setting_delete_row, commit_row, load_row, save_row, file_read_row, file_write_row, file_status_row, file_hash_row, file_types_row, file_close_row}

pub data Meant : Type 0 where
  echo : (text : List ℕ) → Meant
  reset : Meant
  parameters : Meant
  image_list : Meant
  image_set : (hash : Option (List ℕ)) (confirm : Bool) → Meant
  upload : (image : Option ℕ) (len : Option ℕ) (off : ℕ) (sha : Option (List ℕ)) (part : List ℕ) → Meant
  erase : (slot : ℕ) → Meant
  stat_group : (name : List ℕ) → Meant
  stat_list : Meant
  setting_read : (name : List ℕ) (max_size : Option ℕ) → Meant
  setting_write : (name val : List ℕ) → Meant
  setting_delete : (name : List ℕ) → Meant
  commit : Meant
  load : Meant
  save : Meant
  file_read : (off : ℕ) (name : List ℕ) → Meant
  file_write : (off : ℕ) (part : List ℕ) (len : Option ℕ) (name : List ℕ) → Meant
  file_status : (name : List ℕ) → Meant
  file_hash : (name : List ℕ) (kind : Option (List ℕ)) (off : ℕ) (len : Option ℕ) → Meant
  file_types : Meant
  file_close : Meant

abbrev pub meant_of : Request → Meant
meant_of (requests.Echo t) = echo t.now
meant_of requests.Reset = reset
meant_of requests.Parameters = parameters
meant_of (requests.StatGroup t) = stat_group t.now
meant_of requests.StatList = stat_list
meant_of requests.ImageList = image_list
meant_of (requests.ImageSet hash confirm) = image_set (option_map (λ h. h.now) hash) confirm
meant_of (requests.Upload p) = upload p.image p.len p.off (option_map (λ s. s.now) p.sha) p.bytes.now
meant_of (requests.Erase slot) = erase slot
meant_of (requests.SettingRead name size) = setting_read name.now size
meant_of (requests.SettingWrite name val) = setting_write name.now val.now
meant_of (requests.SettingDelete name) = setting_delete name.now
meant_of requests.Commit = commit
meant_of requests.Load = load
meant_of requests.Save = save
meant_of (requests.FileRead name off) = file_read off name.now
meant_of (requests.FileWrite name off len b) = file_write off b.now len name.now
meant_of (requests.FileStatus name) = file_status name.now
meant_of (requests.FileHash name kind off len) = file_hash name.now (option_map (λ k. k.now) kind) off len
meant_of requests.FileTypes = file_types
meant_of requests.FileClose = file_close

-- the row of a request
abbrev pub name_of : Meant → Name
name_of (echo t) = echo_row
name_of reset = reset_row
name_of parameters = parameters_row
name_of image_list = image_list_row
name_of (image_set hash confirm) = image_set_row
name_of (upload image len off sha part) = upload_row
name_of (erase slot) = erase_row
name_of (stat_group name) = stat_group_row
name_of stat_list = stat_list_row
name_of (setting_read name size) = setting_read_row
name_of (setting_write name val) = setting_write_row
name_of (setting_delete name) = setting_delete_row
name_of commit = commit_row
name_of load = load_row
name_of save = save_row
name_of (file_read off name) = file_read_row
name_of (file_write off part len name) = file_write_row
name_of (file_status name) = file_status_row
name_of (file_hash name kind off len) = file_hash_row
name_of file_types = file_types_row
name_of file_close = file_close_row

-- its fields, in the order of the row's keys
abbrev pub fields_of : Meant → List (Option Field)
fields_of (echo t) = Some (words t) ∷ []
fields_of reset = []
fields_of parameters = []
fields_of image_list = []
fields_of (image_set hash confirm) = option_map bytes hash ∷ Some (truth confirm) ∷ []
fields_of (upload image len off sha part) = option_map number image ∷ option_map number len ∷ Some (number off) ∷ option_map bytes sha ∷ Some (bytes part) ∷ None ∷ []
fields_of (erase slot) = Some (number slot) ∷ []
fields_of (stat_group name) = Some (words name) ∷ []
fields_of stat_list = []
fields_of (setting_read name size) = Some (words name) ∷ option_map number size ∷ []
fields_of (setting_write name val) = Some (words name) ∷ Some (bytes val) ∷ []
fields_of (setting_delete name) = Some (words name) ∷ []
fields_of commit = []
fields_of load = []
fields_of save = []
fields_of (file_read off name) = Some (number off) ∷ Some (words name) ∷ []
fields_of (file_write off part len name) = Some (number off) ∷ Some (bytes part) ∷ option_map number len ∷ Some (words name) ∷ []
fields_of (file_status name) = Some (words name) ∷ []
fields_of (file_hash name kind off len) = Some (words name) ∷ option_map words kind ∷ Some (number off) ∷ option_map number len ∷ []
fields_of file_types = []
fields_of file_close = []

abbrev pub number_in : Option Field → Option ℕ
number_in (Some (number n)) = Some n
number_in o = None

abbrev pub words_in : Option Field → Option (List ℕ)
words_in (Some (words t)) = Some t
words_in o = None

abbrev pub bytes_in : Option Field → Option (List ℕ)
bytes_in (Some (bytes b)) = Some b
bytes_in o = None

-- the request of a row with these fields; fields of other kinds are none
abbrev pub made : Name → List (Option Field) → Option Meant
made echo_row (Some (words t) ∷ []) = Some (echo t)
made reset_row [] = Some reset
made parameters_row [] = Some parameters
made image_list_row [] = Some image_list
made image_set_row (hash ∷ Some (truth confirm) ∷ []) = Some (image_set (bytes_in hash) confirm)
made upload_row (image ∷ len ∷ Some (number off) ∷ sha ∷ Some (bytes part) ∷ None ∷ []) = Some (upload (number_in image) (number_in len) off (bytes_in sha) part)
made erase_row (Some (number slot) ∷ []) = Some (erase slot)
made stat_group_row (Some (words name) ∷ []) = Some (stat_group name)
made stat_list_row [] = Some stat_list
made setting_read_row (Some (words name) ∷ size ∷ []) = Some (setting_read name (number_in size))
made setting_write_row (Some (words name) ∷ Some (bytes val) ∷ []) = Some (setting_write name val)
made setting_delete_row (Some (words name) ∷ []) = Some (setting_delete name)
made commit_row [] = Some commit
made load_row [] = Some load
made save_row [] = Some save
made file_read_row (Some (number off) ∷ Some (words name) ∷ []) = Some (file_read off name)
made file_write_row (Some (number off) ∷ Some (bytes part) ∷ len ∷ Some (words name) ∷ []) = Some (file_write off part (number_in len) name)
made file_status_row (Some (words name) ∷ []) = Some (file_status name)
made file_hash_row (Some (words name) ∷ kind ∷ Some (number off) ∷ len ∷ []) = Some (file_hash name (words_in kind) off (number_in len))
made file_types_row [] = Some file_types
made file_close_row [] = Some file_close
made n fs = None
