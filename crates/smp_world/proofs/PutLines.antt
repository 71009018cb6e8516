-- Lines that were put, one behind another.
use Rattle.std.proofs.Common.{◌≡◌, ℕ, List, [], ◌∷◌, ◌++◌, length, Option, Some, None, if◌then◌else◌, sym, ◌∙◌, ap, subst}
use Rattle.std.specs.Prelude.{codes, option_map}
use Rattle.std.proofs.lemmas.List.{append_assoc, append-nil}
use Rattle.hex.specs.Hex.{encode_lower}
use Rattle.smp_model.specs.declared.device.AbstractDevice.{AbstractDevice}
use Rattle.smp_model.specs.declared.device.Side.{Side}
use Rattle.smp_model.specs.declared.device.Upload.{Upload}
use Rattle.smp_model.specs.Settings.{stored_form}
use Rattle.smp_device.specs.Goings as goings
use Rattle.smp_device.specs.Goings.{Booted}
use Rattle.smp_device.specs.Showing.{shown_of, shown_side}
use Rattle.smp_device.specs.declared.showing.Shown.{Shown}
use Rattle.smp_world.specs.Lines as lines
use Rattle.smp_world.specs.Lines.{Line, boot_line_by, boot_text, digest_text, line_text, lines_text, pending_text, second_text, side_text, upload_text}
use Rattle.smp_world.specs.Machines.{IsShown, MachineState, ShowsAfter, ShowsIf, end_by}
use Rattle.smp_world.specs.Runs.{boot_lines}
use Rattle.smp_world.specs.Spelling.{booted_text, first_shown, second_shown, shown_text}
use Rattle.smp_world.specs.Worlds.{PutsBoot, PutsLine}
use Rattle.smp_world.specs.declared.machine.BootEnd.{BootEnd}

-- one line
pub one_line : (line : Line) (before after : List ℕ) → PutsLine line before after → after ≡ before ++ lines_text (line ∷ [])
one_line line before after e = e ∙ ap (λ (x : List ℕ). before ++ x) (sym (append-nil (line_text line ++ codes "\n")))

-- a line, and then others
pub then_lines : (line : Line) (rest : List Line) (before mid after : List ℕ) → PutsLine line before mid → after ≡ mid ++ lines_text rest → after ≡ before ++ lines_text (line ∷ rest)
then_lines line rest before mid after e f = f ∙ ap (λ (x : List ℕ). x ++ lines_text rest) e ∙ append_assoc before (line_text line ++ codes "\n") (lines_text rest)

-- the line of a boot that ended so
boot_line : (e : goings.BootEnd) (m : MachineState) (d : AbstractDevice) (before after : List ℕ) → ShowsIf e m d → PutsBoot (Some (end_by e)) m before after → after ≡ before ++ lines_text (boot_line_by e d ∷ [])
boot_line goings.up m d before after shows puts = one_line (lines.booted d) before after (puts d shows)
boot_line goings.cut m d before after shows puts = one_line lines.boot_cut before after puts
boot_line goings.fault m d before after shows puts = one_line lines.boot_fault before after puts

pub boot_put : (b : Booted) (ended : BootEnd) (m : MachineState) (d : AbstractDevice) (before after : List ℕ) → ended ≡ end_by b.ended → ShowsIf b.ended m d → PutsBoot (Some ended) m before after → after ≡ before ++ lines_text (boot_line_by b.ended d ∷ [])
boot_put b ended m d before after e shows puts = boot_line b.ended m d before after shows (subst (λ (x : BootEnd). PutsBoot (Some x) m before after) e puts)

pub boot_lines_put : (o : Option Booted) (boot : Option BootEnd) (m : MachineState) (d : AbstractDevice) (before after : List ℕ) → boot ≡ option_map (λ b. end_by b.ended) o → ShowsAfter o m d → PutsBoot boot m before after → after ≡ before ++ lines_text (boot_lines o d)
boot_lines_put None boot m d before after e shows puts = subst (λ (x : Option BootEnd). PutsBoot x m before after) e puts ∙ sym (append-nil before)
boot_lines_put (Some b) boot m d before after e shows puts = boot_line b.ended m d before after shows (subst (λ (x : Option BootEnd). PutsBoot x m before after) e puts)

-- What is shown of a device is its text.

pub side_shown : (s : Side) → shown_text (shown_side s) ≡ side_text s
side_shown s = by_upload s.upload where
  four : (a b c d e f : List ℕ) → (a ++ b) ++ (c ++ d) ++ e ++ f ≡ a ++ b ++ c ++ d ++ e ++ f
  four a b c d e f = ap (λ (x : List ℕ). x ++ e ++ f) (sym (append_assoc (a ++ b) c d))

  by_upload : (o : Option Upload) → shown_text (record { upload = option_map (λ u. (u.announcement, length u.accepted)) o; pending = s.pending; confirmed = s.confirmed }) ≡ side_text (record s { upload = o })
  by_upload None = four (codes "upload ") (codes "none") (codes " pending ") (pending_text s.pending) (codes " confirmed ") (if s.confirmed then codes "yes" else codes "no")
  by_upload (Some u) = four (codes "upload ") (upload_text (Some u)) (codes " pending ") (pending_text s.pending) (codes " confirmed ") (if s.confirmed then codes "yes" else codes "no")

first_is : (s : Side) (o : Option Shown) → o ≡ Some (shown_side s) → first_shown o ≡ side_text s
first_is s o e = ap first_shown e ∙ side_shown s

second_is : (x : Option Side) (o : Option Shown) → o ≡ option_map shown_side x → second_shown o ≡ second_text x
second_is None o e = ap second_shown e
second_is (Some s) o e = ap second_shown e ∙ ap (λ (x : List ℕ). codes " " ++ x) (side_shown s)

-- the line of a boot
pub booted_line : (m : MachineState) (d : AbstractDevice) → IsShown m d → booted_text (shown_of 0 m.device.up m.device.confirmed) (shown_of 1 m.device.up m.device.confirmed) m.device.settings.form ≡ line_text (lines.booted d) ++ codes "\n"
booted_line m d h =
    let first = first_is d.first (shown_of 0 m.device.up m.device.confirmed) (h.sides 0) in
    let second = second_is d.second (shown_of 1 m.device.up m.device.confirmed) (h.sides 1) in
    ap (λ (x : List ℕ). codes "boot " ++ x ++ second_shown (shown_of 1 m.device.up m.device.confirmed) ++ codes " saved " ++ encode_lower m.device.settings.form ++ codes "\n") first
    ∙ ap (λ (x : List ℕ). codes "boot " ++ side_text d.first ++ x ++ codes " saved " ++ encode_lower m.device.settings.form ++ codes "\n") second
    ∙ ap (λ (x : List ℕ). codes "boot " ++ side_text d.first ++ second_text d.second ++ codes " saved " ++ encode_lower x ++ codes "\n") h.saved
    ∙ ap (λ (x : List ℕ). x ++ codes "\n") (grouped (codes "boot ") (side_text d.first) (second_text d.second) (codes " saved ") (encode_lower (stored_form d.saved)))
  where
    grouped : (a b c e f : List ℕ) → a ++ b ++ c ++ e ++ f ≡ a ++ (b ++ c ++ e ++ f)
    grouped a b c e f = ap (λ (x : List ℕ). x ++ f) (ap (λ (x : List ℕ). x ++ e) (append_assoc a b c) ∙ append_assoc a (b ++ c) e) ∙ append_assoc a (b ++ c ++ e) f
