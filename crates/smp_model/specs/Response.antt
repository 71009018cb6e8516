-- What the device does at a request: its reply, and its steps.
use Rattle.std.specs.Prelude.{ℕ, List, [], ◌++◌}
use Rattle.smp_model.specs.declared.device.Side.{Side}
use Rattle.smp_model.specs.declared.device.AbstractDevice.{AbstractDevice}
use Rattle.smp_model.specs.Said as said
use Rattle.smp_model.specs.Said.{Said}
use Rattle.smp_model.specs.Sides.{SideStep, side_settle_steps}
use Rattle.smp_model.specs.Steps.{Step, settle, settle_steps, applied, on_side, counted}

pub record Response : Type 0 where
  pub reply : Said
  pub steps : List Step

abbrev pub responds : Said → List Step → Response
responds reply steps = record { reply = reply; steps = steps }

-- a reply and no steps
abbrev pub reply_alone : Said → Response
reply_alone reply = responds reply []

-- an error of a group, and no steps
abbrev pub refuses : (group number : ℕ) → Response
refuses group number = reply_alone (said.group_error group number)

-- the response of the settled device, behind the steps of settling
abbrev pub settling : AbstractDevice → (AbstractDevice → Response) → Response
settling d response = responds (response (settle d)).reply (settle_steps d ++ (response (settle d)).steps)

-- what one side does: a reply, and steps of that side
pub record SideResponse : Type 0 where
  pub reply : Said
  pub steps : List SideStep

abbrev pub side_responds : Said → List SideStep → SideResponse
side_responds reply steps = record { reply = reply; steps = steps }

-- The response of the device about the side of an image: what the settled side does, behind the steps of its settling and
-- these.
abbrev pub settling_side : ℕ → Side → List Step → SideResponse → Response
settling_side image s between response =
    responds response.reply (on_side image (side_settle_steps s) ++ (between ++ on_side image response.steps))

-- the device after a request that was answered so
abbrev pub after : Response → AbstractDevice → AbstractDevice
after response d = counted response.reply (applied response.steps d)
