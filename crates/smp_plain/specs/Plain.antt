-- What the plain program's values stand for, and what it asks of a device.
use Rattle.std.specs.Prelude.{ℕ, ◌+◌, ◌≤◌, ◌<◌, ◌^◌, ◌==◌, List, [], ◌∷◌, ◌++◌, length, Bool, true, not, map as each, option_map, Option, Some, None, IfSome, if◌then◌else◌}
use Rattle.std.specs.List.{All}
use Rattle.std.specs.Str.{bytes_eq}
use Rattle.smp_model.specs.declared.device.AbstractDevice.{AbstractDevice}
use Rattle.smp_model.specs.declared.device.Side.{Side}
use Rattle.smp_model.specs.declared.setting.Setting.{Setting}
use Rattle.smp_plain.specs.declared.devices.Kept.{Kept}
use Rattle.smp_plain.specs.declared.devices.Kept.TheVariants as kepts
use Rattle.smp_plain.specs.declared.handling.PlainHandled.{PlainHandled}
use Rattle.smp_plain.specs.declared.response.PlainChange.{PlainChange}
use Rattle.smp_plain.specs.declared.response.PlainChange.TheVariants as changes
use Rattle.smp_plain.specs.declared.response.PlainSideStep.{PlainSideStep}
use Rattle.smp_plain.specs.declared.response.PlainSideStep.TheVariants as sides
use Rattle.smp_plain.specs.declared.response.PlainStep.{PlainStep}
use Rattle.smp_plain.specs.declared.response.PlainStep.TheVariants as plains
use Rattle.smp_plain.specs.declared.response.PlainSideResponse.{PlainSideResponse}
use Rattle.smp_plain.specs.declared.response.PlainResponse.{PlainResponse}
use Rattle.smp_plain.specs.declared.views.SideView.{SideView}
use Rattle.smp_plain.specs.declared.views.DeviceView.{DeviceView}
use Rattle.smp_model.specs.Handled.{Handled}
use Rattle.smp_model.specs.Said.{said_of}
use Rattle.smp_model.specs.Sides.{SideStep, Choose, Append, Drop, MarkPending, Confirm}
use Rattle.smp_model.specs.Steps.{Change, write_setting, delete_setting, load_settings, begin_file, append_file, aim_at, Step, OnSide, Save, Run, settle_steps}
use Rattle.smp_model.specs.Response.{Response, SideResponse, responds, side_responds}
use Rattle.smp_model.specs.Named.{comes_before}
use Rattle.smp_model.specs.Settings.{stored_setting}

abbrev pub change_of : PlainChange → Change
change_of (changes.WriteSetting name val) = write_setting name.now val.now
change_of (changes.DeleteSetting name) = delete_setting name.now
change_of changes.LoadSettings = load_settings
change_of (changes.BeginFile name announced part) = begin_file name.now announced part.now
change_of (changes.AppendFile name part) = append_file name.now part.now
change_of (changes.AimAt image) = aim_at image

abbrev pub side_step_of : PlainSideStep → SideStep
side_step_of (sides.Choose announcement) = Choose announcement
side_step_of (sides.Append bytes) = Append bytes.now
side_step_of sides.Drop = Drop
side_step_of (sides.MarkPending mark) = MarkPending mark
side_step_of sides.Confirm = Confirm

abbrev pub step_of : PlainStep → Step
step_of (plains.OnSide image step) = OnSide image (side_step_of step)
step_of plains.Save = Save
step_of (plains.Run change) = Run (change_of change)

-- steps of a side, as steps of the device
abbrev pub lifted : ℕ → List PlainSideStep → List PlainStep
lifted image steps = each (λ step. plains.OnSide image step) steps

abbrev pub steps_of : List PlainStep → List Step
steps_of steps = each step_of steps

abbrev pub side_response_of : PlainSideResponse → SideResponse
side_response_of r = side_responds (said_of r.reply) (each side_step_of r.steps.items)

abbrev pub response_of : PlainResponse → Response
response_of r = responds (said_of r.reply) (each step_of r.steps.items)

-- the response of a settled device, behind the steps of settling
abbrev pub behind_settling : AbstractDevice → Response → Response
behind_settling d response = responds response.reply (settle_steps d ++ response.steps)

-- what came of a packet
abbrev pub handled_of : PlainHandled → Handled
handled_of h = record { reply = option_map (λ packet. packet.items) h.reply; device = h.device }

-- what is seen of a side, and of a device
abbrev pub side_seen : SideView → Side
side_seen v = record {
  active = v.active.now;
  confirmed = v.confirmed;
  upload = option_map (λ u. u.now) v.upload;
  pending = v.pending;
}

abbrev pub device_seen : DeviceView → AbstractDevice
device_seen v = record v.device.now { first = side_seen v.first; second = option_map side_seen v.second }

-- The numbers that a device has to answer fit their types: slot 0 has fewer bytes than 32 bits count, no upload and no file
-- has more bytes than were announced, and a running value fits a packet.
pub record IsSoundSide (s : Side) : Type 0 where
  pub active : length s.active < 2 ^ 32
  pub upload : IfSome s.upload (λ u. length u.accepted ≤ u.announcement.length)

pub record IsSound (d : AbstractDevice) : Type 0 where
  pub first : IsSoundSide d.first
  pub second : IfSome d.second IsSoundSide
  pub files : All (λ f. length f.held ≤ f.announced) d.files
  pub running : All (λ s. length s.val ≤ 128) d.running

-- the bytes that a setting takes in the stored form where one of this name is written beside it
abbrev pub size_beside : List ℕ → Setting → ℕ
size_beside name s =
    (if comes_before s.name name then length (stored_setting s) else 0)
    + (if comes_before name s.name then length (stored_setting s) else 0)

-- whether a thing of this name is kept
abbrev pub is_kept : Kept → List ℕ → Bool
is_kept kepts.All own = true
is_kept (kepts.Before name) own = comes_before own name.now
is_kept (kepts.Behind name) own = comes_before name.now own
is_kept (kepts.Others name) own = not (bytes_eq own name.now)

-- the settings have a stored form that is bytes: each length that stands in it fits a byte
abbrev pub HasByteLengths : Setting → Type 0
HasByteLengths s = (length s.name < 256) × (length s.val < 256)

pub record AreStorable (settings : List Setting) : Type 0 where
  pub count : length settings < 256
  pub lengths : All HasByteLengths settings
