-- The exit status and the text of each way that a run ends.
use Rattle.std.specs.Prelude.{ℕ, List, ◌++◌, codes}
use Rattle.std.specs.Fmt.{decimal}
use Rattle.smp_app.specs.declared.status.Status.{Status}
use Rattle.smp_app.specs.declared.status.Status.TheVariants.{Done, Usage, BadSchedule, BadImage, TooLong, FileFault, WriteFault, NoMemory}

-- The exit status.
abbrev pub code_of : Status → ℕ
code_of Done = 0
code_of Usage = 2
code_of (BadSchedule line) = 3
code_of (BadImage why) = 3
code_of TooLong = 3
code_of FileFault = 4
code_of WriteFault = 5
code_of NoMemory = 10

-- The text, without its newline.
abbrev pub text_of : Status → List ℕ
text_of Done = codes "done"
text_of Usage = codes "usage"
text_of (BadSchedule line) = codes "bad schedule line " ++ decimal line
text_of (BadImage why) = codes "bad image"
text_of TooLong = codes "file too long"
text_of FileFault = codes "file fault"
text_of WriteFault = codes "write fault"
text_of NoMemory = codes "no memory"
