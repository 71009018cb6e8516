-- The table of requests, as data: for each request its group, command, operations and keys, in the order in which the
-- keys are written. Groups, commands and keys are those of the group pages of Zephyr's SMP protocol (OS, image,
-- statistics, settings, file system). Which keys have to be there, and what counts where one is not, is chosen here.
use Rattle.std.specs.Prelude.{ℕ, List, [], ◌∷◌, Bool, false, Option, ◌==◌, ◌&&◌, ◌||◌, codes, find}

-- what a key may hold: a whole number of 0 to 4294967295, a text, bytes, a truth value
pub data Kind : Type 0 where
  a_number : Kind
  a_text : Kind
  some_bytes : Kind
  a_truth : Kind

-- what a key holds
pub data Field : Type 0 where
  number : ℕ → Field
  words : List ℕ → Field
  bytes : List ℕ → Field
  truth : Bool → Field

-- what a key that is not there does, and when a key is written
pub data Need : Type 0 where
  -- it has to be there
  required : Need
  -- it may be left out
  optional : Need
  -- left out, it counts as this; and this is not written
  counts_as : Field → Need
  -- left out, it counts as this; it is always written
  always : Field → Need
  -- it has no effect, and is never written
  unused : Need

pub record Key : Type 0 where
  pub name : List ℕ
  pub kind : Kind
  pub need : Need

abbrev pub key : List ℕ → Kind → Need → Key
key name kind need = record { name = name; kind = kind; need = need }

-- the operations of a row: 0 is a read, 2 is a write
pub data Operations : Type 0 where
  a_read : Operations
  a_write : Operations
  either : Operations

abbrev pub has_operation : Operations → ℕ → Bool
has_operation a_read op = op == 0
has_operation a_write op = op == 2
has_operation either op = (op == 0) || (op == 2)

-- the operation that is written
abbrev pub operation_of : Operations → ℕ
operation_of a_read = 0
operation_of a_write = 2
operation_of either = 2

pub record Row : Type 0 where
  pub group : ℕ
  pub command : ℕ
  pub operations : Operations
  pub keys : List Key

abbrev pub row_of : ℕ → ℕ → Operations → List Key → Row
row_of group command operations keys = record { group = group; command = command; operations = operations; keys = keys }

-- the requests by name
pub data Name : Type 0 where
  echo_row : Name
  reset_row : Name
  parameters_row : Name
  image_list_row : Name
  image_set_row : Name
  upload_row : Name
  erase_row : Name
  stat_group_row : Name
  stat_list_row : Name
  setting_read_row : Name
  setting_write_row : Name
  setting_delete_row : Name
  commit_row : Name
  load_row : Name
  save_row : Name
  file_read_row : Name
  file_write_row : Name
  file_status_row : Name
  file_hash_row : Name
  file_types_row : Name
  file_close_row : Name

abbrev pub table : Name → Row
-- group 0, OS
table echo_row = row_of 0 0 either (
    key (codes "d") a_text required
    ∷ [])
table reset_row = row_of 0 5 a_write []
table parameters_row = row_of 0 6 a_read []
-- group 1, image
table image_list_row = row_of 1 0 a_read []
table image_set_row = row_of 1 0 a_write (
    key (codes "hash") some_bytes optional
    ∷ key (codes "confirm") a_truth (counts_as (truth false))
    ∷ [])
table upload_row = row_of 1 1 a_write (
    key (codes "image") a_number optional
    ∷ key (codes "len") a_number optional
    ∷ key (codes "off") a_number required
    ∷ key (codes "sha") some_bytes optional
    ∷ key (codes "data") some_bytes required
    ∷ key (codes "upgrade") a_truth unused
    ∷ [])
table erase_row = row_of 1 5 a_write (
    key (codes "slot") a_number (always (number 1))
    ∷ [])
-- group 2, statistics
table stat_group_row = row_of 2 0 a_read (
    key (codes "name") a_text required
    ∷ [])
table stat_list_row = row_of 2 1 a_read []
-- group 3, settings
table setting_read_row = row_of 3 0 a_read (
    key (codes "name") a_text required
    ∷ key (codes "max_size") a_number optional
    ∷ [])
table setting_write_row = row_of 3 0 a_write (
    key (codes "name") a_text required
    ∷ key (codes "val") some_bytes required
    ∷ [])
table setting_delete_row = row_of 3 1 a_write (
    key (codes "name") a_text required
    ∷ [])
table commit_row = row_of 3 2 a_write []
table load_row = row_of 3 3 a_read []
table save_row = row_of 3 3 a_write []
-- group 8, files
table file_read_row = row_of 8 0 a_read (
    key (codes "off") a_number required
    ∷ key (codes "name") a_text required
    ∷ [])
table file_write_row = row_of 8 0 a_write (
    key (codes "off") a_number required
    ∷ key (codes "data") some_bytes required
    ∷ key (codes "len") a_number optional
    ∷ key (codes "name") a_text required
    ∷ [])
table file_status_row = row_of 8 1 a_read (
    key (codes "name") a_text required
    ∷ [])
table file_hash_row = row_of 8 2 a_read (
    key (codes "name") a_text required
    ∷ key (codes "type") a_text optional
    ∷ key (codes "off") a_number (always (number 0))
    ∷ key (codes "len") a_number optional
    ∷ [])
table file_types_row = row_of 8 3 a_read []
table file_close_row = row_of 8 4 a_write []

-- every row
abbrev pub names : List Name
names = echo_row ∷ reset_row ∷ parameters_row ∷ image_list_row ∷ image_set_row ∷ upload_row ∷ erase_row ∷ stat_group_row
    ∷ stat_list_row ∷ setting_read_row ∷ setting_write_row ∷ setting_delete_row ∷ commit_row ∷ load_row ∷ save_row
    ∷ file_read_row ∷ file_write_row ∷ file_status_row ∷ file_hash_row ∷ file_types_row ∷ file_close_row ∷ []

abbrev pub is_row : ℕ → ℕ → ℕ → Row → Bool
is_row group command op r = ((group == r.group) && (command == r.command)) && has_operation r.operations op

-- the request that a group, a command and an operation name; none where the table has no such row
abbrev pub name_at : (group command op : ℕ) → Option Name
name_at group command op = find (λ n. is_row group command op (table n)) names
