-- The lines of a transcript.
use Rattle.std.specs.Prelude.{ℕ, List, [], ◌++◌, length, codes, Bool, true, false, Option, Some, None, flat_map, if◌then◌else◌}
use Rattle.std.specs.Fmt.{decimal}
use Rattle.hex.specs.Hex.{encode_lower}
use Rattle.smp_model.specs.declared.device.AbstractDevice.{AbstractDevice}
use Rattle.smp_model.specs.declared.device.Side.{Side}
use Rattle.smp_model.specs.declared.device.Upload.{Upload}
use Rattle.smp_model.specs.declared.upload.Mark.{Mark}
use Rattle.smp_model.specs.declared.upload.Mark.TheVariants as marks
use Rattle.smp_model.specs.Settings.{stored_form}
use Rattle.smp_jobs.specs.Jobs.{End, done, no_answer, refused, mismatch, stalled}
use Rattle.smp_device.specs.Goings as goings
use Rattle.smp_device.specs.Goings.{BootEnd}

-- what a client did
pub data Did : Type 0 where
  -- it sent the packet of this number
  sent : (number : ℕ) → Did
  -- its wait goes on
  waits : Did
  ended : End → Did
  -- it had ended before
  over : Did
  -- there is no such client, or no such reply
  none : Did

-- what came of a packet to the device
pub data Fate : Type 0 where
  -- the reply's bytes, with its number where it answers a client's packet
  replied : (number : Option ℕ) (reply : List ℕ) → Fate
  -- it is no packet, or no request
  dropped : Fate
  -- the device is down
  is_down : Fate
  -- power was cut
  was_cut : Fate
  -- there is no such packet
  missing : Fate

-- one line: what it tells of is named by numbers, from 1
pub data Line : Type 0 where
  client_sends : (client number : ℕ) → Line
  raw : Fate → Line
  up : (number : ℕ) → Fate → Line
  down : (number : ℕ) → Did → Line
  quiet : (client : ℕ) → Did → Line
  armed : Line
  -- the device after a boot
  booted : AbstractDevice → Line
  boot_cut : Line
  boot_fault : Line

-- why a job failed: by an error of the protocol, or of a group
abbrev pub refused_text : Option ℕ → ℕ → List ℕ
refused_text None number = codes "refused smp " ++ decimal number
refused_text (Some group) number = codes "refused " ++ decimal group ++ codes " " ++ decimal number

abbrev pub end_text : End → List ℕ
end_text done = codes "done"
end_text no_answer = codes "failed no-answer"
end_text (refused group number) = codes "failed " ++ refused_text group number
end_text mismatch = codes "failed mismatch"
end_text stalled = codes "failed stalled"

abbrev pub did_text : Did → List ℕ
did_text (sent number) = codes "send " ++ decimal number
did_text waits = codes "wait"
did_text (ended e) = end_text e
did_text over = codes "over"
did_text none = codes "none"

abbrev pub fate_text : Fate → List ℕ
fate_text (replied None reply) = encode_lower reply
fate_text (replied (Some number) reply) = codes "reply " ++ decimal number ++ codes " " ++ encode_lower reply
fate_text dropped = codes "dropped"
fate_text is_down = codes "down"
fate_text was_cut = codes "cut"
fate_text missing = codes "none"

abbrev pub digest_text : Option (List ℕ) → List ℕ
digest_text None = codes "-"
digest_text (Some digest) = encode_lower digest

abbrev pub upload_text : Option Upload → List ℕ
upload_text None = codes "none"
upload_text (Some u) =
    decimal (length u.accepted) ++ codes "/" ++ decimal u.announcement.length ++ codes "/" ++ digest_text u.announcement.digest

abbrev pub pending_text : Option Mark → List ℕ
pending_text None = codes "none"
pending_text (Some marks.Test) = codes "test"
pending_text (Some marks.Permanent) = codes "permanent"

-- one image: its upload, what is pending, and whether it is confirmed
abbrev pub side_text : Side → List ℕ
side_text s =
    codes "upload " ++ upload_text s.upload ++ codes " pending " ++ pending_text s.pending
    ++ codes " confirmed " ++ (if s.confirmed then codes "yes" else codes "no")

abbrev pub second_text : Option Side → List ℕ
second_text None = []
second_text (Some s) = codes " " ++ side_text s

-- each side in order, and what is saved
abbrev pub boot_text : AbstractDevice → List ℕ
boot_text d = side_text d.first ++ second_text d.second ++ codes " saved " ++ encode_lower (stored_form d.saved)

abbrev pub line_text : Line → List ℕ
line_text (client_sends client number) = codes "client " ++ decimal client ++ codes " send " ++ decimal number
line_text (raw fate) = codes "raw " ++ fate_text fate
line_text (up number fate) = codes "up " ++ decimal number ++ codes " " ++ fate_text fate
line_text (down number did) = codes "down " ++ decimal number ++ codes " " ++ did_text did
line_text (quiet client did) = codes "quiet " ++ decimal client ++ codes " " ++ did_text did
line_text armed = codes "arm"
line_text (booted d) = codes "boot " ++ boot_text d
line_text boot_cut = codes "boot cut"
line_text boot_fault = codes "boot fault"

-- the lines, each with its newline
abbrev pub lines_text : List Line → List ℕ
lines_text lines = flat_map (λ line. line_text line ++ codes "\n") lines

-- the line of a boot, with the device after it
abbrev pub boot_line_by : BootEnd → AbstractDevice → Line
boot_line_by goings.up d = booted d
boot_line_by goings.cut d = boot_cut
boot_line_by goings.fault d = boot_fault

-- the last line: packets that clients sent, replies to them, and jobs that are done
abbrev pub last_text : (packets replies jobs : ℕ) → List ℕ
last_text packets replies jobs =
    codes "end sent " ++ decimal packets ++ codes " answered " ++ decimal replies ++ codes " done " ++ decimal jobs ++ codes "\n"

-- a cut fell
abbrev pub is_cut : Line → Bool
is_cut (raw was_cut) = true
is_cut (up number was_cut) = true
is_cut boot_cut = true
is_cut line = false

-- a boot ended with the device up
abbrev pub is_booted : Line → Bool
is_booted (booted d) = true
is_booted line = false
