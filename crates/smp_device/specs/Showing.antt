-- What a device shows of its images.
use Rattle.std.specs.Prelude.{ℕ, zero, suc, Bool, length, Option, Some, None, option_map}
use Rattle.smp_model.specs.declared.device.Side.{Side}
use Rattle.smp_model.specs.declared.upload.Announcement.{Announcement}
use Rattle.smp_upload.specs.States.{Announced, Known, known_mounted}
use Rattle.smp_side.specs.declared.held.Held.{Held}
use Rattle.smp_side.specs.declared.held.Held.TheVariants as helds
use Rattle.smp_device.specs.declared.images.Images.{Images}
use Rattle.smp_device.specs.declared.showing.Confirmed.{Confirmed}
use Rattle.smp_device.specs.declared.showing.Shown.{Shown}

abbrev pub shown_upload : Announced → Announcement × ℕ
shown_upload u = (u.announcement, u.offset)

abbrev pub shown_known : Bool → Known → Shown
shown_known confirmed k = record { upload = option_map shown_upload k.upload; pending = k.pending; confirmed = confirmed }

-- of a side that is mounted
abbrev pub shown_held : Bool → Held → Option Shown
shown_held confirmed (helds.Unmounted u) = None
shown_held confirmed (helds.Mounted m) = Some (shown_known confirmed (known_mounted m))

abbrev pub shown_if : Bool → Option Held → Option Shown
shown_if confirmed None = None
shown_if confirmed (Some h) = shown_held confirmed h

abbrev pub shown_at : ℕ → Images → Confirmed → Option Shown
shown_at zero images c = shown_held c.zero images.zero
shown_at (suc zero) images c = shown_if c.one images.one
shown_at (suc (suc n)) images c = None

-- of a device that is up
abbrev pub shown_of : ℕ → Option Images → Confirmed → Option Shown
shown_of image None c = None
shown_of image (Some images) c = shown_at image images c

-- what there is to show of a side of the abstract device
abbrev pub shown_side : Side → Shown
shown_side s = record { upload = option_map (λ u. (u.announcement, length u.accepted)) s.upload; pending = s.pending; confirmed = s.confirmed }
