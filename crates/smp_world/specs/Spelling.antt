-- What is printed of what a device shows.
use Rattle.std.specs.Prelude.{ℕ, List, [], ◌++◌, codes, Option, Some, None, if◌then◌else◌}
use Rattle.std.specs.Fmt.{decimal}
use Rattle.hex.specs.Hex.{encode_lower}
use Rattle.smp_model.specs.declared.upload.Announcement.{Announcement}
use Rattle.smp_device.specs.declared.showing.Shown.{Shown}
use Rattle.smp_world.specs.Lines.{digest_text, pending_text}

-- what is accepted of an upload, its length, and its digest or `-`
abbrev pub announced_text : Option (Announcement × ℕ) → List ℕ
announced_text None = codes "none"
announced_text (Some (a, offset)) = (decimal offset ++ codes "/" ++ decimal a.length) ++ codes "/" ++ digest_text a.digest

abbrev pub shown_text : Shown → List ℕ
shown_text s =
    (codes "upload " ++ announced_text s.upload) ++ (codes " pending " ++ pending_text s.pending)
    ++ codes " confirmed " ++ (if s.confirmed then codes "yes" else codes "no")

abbrev pub first_shown : Option Shown → List ℕ
first_shown None = []
first_shown (Some s) = shown_text s

-- behind the first one
abbrev pub second_shown : Option Shown → List ℕ
second_shown None = []
second_shown (Some s) = codes " " ++ shown_text s

-- the line of a boot, by what is shown of both images and the stored form of what is saved
abbrev pub booted_text : Option Shown → Option Shown → List ℕ → List ℕ
booted_text first second form = codes "boot " ++ first_shown first ++ second_shown second ++ codes " saved " ++ encode_lower form ++ codes "\n"
