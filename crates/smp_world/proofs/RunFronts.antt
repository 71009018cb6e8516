-- A run is parted at any place, and goes on with any further events.
use Rattle.std.proofs.Common.{◌≡◌, ◌++◌, List, [], ◌∷◌, ℕ, refl, ap, ◌∙◌}
use Rattle.std.specs.Prelude.{flat_map}
use Rattle.std.proofs.lemmas.List.{append_assoc}
use Rattle.std.proofs.lemmas.List.Concat.{flat_map-append}
use Rattle.smp_model.specs.declared.device.Sizes.{Sizes}
use Rattle.smp_world.specs.Below.{StepsNeedFlash}
use Rattle.smp_world.specs.Lines.{lines_text}
use Rattle.smp_world.specs.Runs.{Event, State, Moment, Run as IsRun, state_at_end, last_line, transcript}
use Rattle.smp_world.specs.UploadJobs.{IsFront}
use Rattle.smp_world.proofs.Possible.{some_run}

joined : (sizes : Sizes) (s : State) (events later : List Event) (moments more : List Moment) → IsRun sizes s events moments → IsRun sizes (state_at_end s moments) later more → IsRun sizes s (events ++ later) (moments ++ more)
joined sizes s [] later [] more r k = k
joined sizes s (e ∷ events) later (m ∷ moments) more r k = (r.0, joined sizes m.state events later moments more r.1 k)
joined sizes s [] later (m ∷ moments) more r k = absurd r
joined sizes s (e ∷ events) later [] more r k = absurd r

pub goes_on : StepsNeedFlash → (sizes : Sizes) (s : State) (events later : List Event) (moments : List Moment) → IsRun sizes s events moments
    → (more : List Moment) × IsRun sizes s (events ++ later) (moments ++ more)
goes_on law sizes s events later moments r =
    let more = some_run law sizes (state_at_end s moments) later in
    (more.0, joined sizes s events later moments more.0 r more.1)

pub parted : (sizes : Sizes) (s : State) (events later : List Event) (moments : List Moment) → IsRun sizes s (events ++ later) moments
    → (firsts : List Moment) × (more : List Moment) × (moments ≡ firsts ++ more) × IsRun sizes s events firsts × IsRun sizes (state_at_end s firsts) later more
parted sizes s [] later moments r = ([], moments, refl, tt, r)
parted sizes s (e ∷ events) later [] r = absurd r
parted sizes s (e ∷ events) later (m ∷ moments) r =
    let rest = parted sizes m.state events later moments r.1 in
    (m ∷ rest.0, rest.1, ap (λ (l : List Moment). m ∷ l) rest.2, (r.0, rest.3), rest.4)

pub printed : (s : State) (moments more : List Moment) → IsFront (flat_map (λ m. lines_text m.lines) moments) (transcript s (moments ++ more))
printed s moments more = (
  flat_map (λ m. lines_text m.lines) more ++ last_line (state_at_end s (moments ++ more)),
  ap (λ (t : List ℕ). t ++ last_line (state_at_end s (moments ++ more))) (flat_map-append (λ m. lines_text m.lines) moments more)
      ∙ append_assoc (flat_map (λ m. lines_text m.lines) moments) (flat_map (λ m. lines_text m.lines) more) (last_line (state_at_end s (moments ++ more))),
)
