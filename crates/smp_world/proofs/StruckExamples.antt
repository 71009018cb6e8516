-- A run in which what is armed strikes at the first packet or boot that it reaches.
use Rattle.std.proofs.Common.{◌≡◌, ℕ, List, Option}
use Rattle.smp_model.specs.declared.device.Sizes.{Sizes}
use Rattle.smp_world.specs.Below.{StepsNeedFlash}
use Rattle.smp_world.specs.Runs.{Event, Moment, first_state, transcript, IsTranscript}
use Rattle.smp_world.proofs.Possible.{some_run}

abbrev pub soonest : StepsNeedFlash → Sizes → List ℕ → Option (List ℕ) → List Event → List Moment
soonest law sizes image second events = (some_run law sizes (first_state sizes image second) events).0

pub struck_run : (law : StepsNeedFlash) (sizes : Sizes) (image : List ℕ) (second : Option (List ℕ)) (events : List Event) (text : List ℕ)
    → text ≡ transcript (first_state sizes image second) (soonest law sizes image second events) → IsTranscript sizes image second events text
struck_run law sizes image second events text is = record {
  moments = soonest law sizes image second events;
  run = (some_run law sizes (first_state sizes image second) events).1;
  spelled = is;
}
