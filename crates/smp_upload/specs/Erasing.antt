-- What an erase needs, what it costs, and what its steps leave.
use Rattle.std.specs.Prelude.{◌≡◌, ◌+◌, ℕ, Bool, true, false, List, None, is_some}
use Rattle.smp_flash.specs.declared.layout.Layout.{Layout}
use Rattle.smp_progress.specs.State.{ProgressState}
use Rattle.smp_upload.specs.Free.{Free}
use Rattle.smp_upload.specs.States.{Known}

-- Nothing is pending, and this is whether an upload is there.
pub record FreeWith (layout : Layout) (entry : ProgressState) (there : Bool) (bytes : List ℕ) : Type 0 where
  pub free : Free layout entry bytes
  pub there_is : is_some free.known.upload ≡ there

-- what is known where no upload is there
abbrev pub known_gone : Layout → ProgressState → Known
known_gone layout entry = record { layout = layout; entry = entry; upload = None; pending = None; image = None; sums = None }

-- what an erase comes to, by whether an upload is there: its records, the bytes that it reads, its writes, and its erases of
-- pages, of which the record's bank has eight
abbrev pub records_if : (there : Bool) → ℕ
records_if false = 0
records_if true = 1

abbrev pub reads_if : (there : Bool) → ℕ → ℕ
reads_if false slot = slot
reads_if true slot = 4096 + slot

abbrev pub writes_if : (there : Bool) → ℕ
writes_if false = 0
writes_if true = 2

abbrev pub erases_if : (there : Bool) → ℕ → ℕ
erases_if false pages = pages
erases_if true pages = 8 + pages
