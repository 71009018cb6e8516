-- A device that was opened, and a job that begins, for the tests.
use Rattle.std.proofs.Common.{◌≡◌, ℕ, List, Result, Ok, Err, refl, sym, ◌∙◌, ap}
use Rattle.std.specs.Prelude.{IfOk, IsSome, is_some}
use Rattle.smp_flash.specs.Layout.{geometry_of}
use Rattle.smp_flash.specs.State.{FlashState}
use Rattle.smp_jobs.specs.Clients.{begun}
use Rattle.smp_jobs.specs.Jobs.{echoes}
use Rattle.smp_jobs.specs.States.{JobState, Stands}
use Rattle.smp_jobs.specs.declared.moves.JobFault.{JobFault}
use Rattle.smp_serve.specs.Driving.{IsRunning}
use Rattle.smp_device.specs.Handling.{DeviceState}
use Rattle.smp_device.specs.Starting.{Opens}
use Rattle.smp_device.specs.declared.device.OpenFault.{OpenFault}

pub opened_up : (r : Result DeviceState OpenFault) (a b : FlashState) → Opens r a b → IfOk r (λ s. IsSome s.up)
opened_up (Ok s) a b o = ap is_some o.1.up
opened_up (Err fault) a b o = tt

pub opened_sizes : (r : Result DeviceState OpenFault) (a b : FlashState) → Opens r a b → IfOk r (λ s. geometry_of s.places.first ≡ b.geometry)
opened_sizes (Ok s) a b o = o.0 ∙ sym o.1.starts.calls.passes.geometry
opened_sizes (Err fault) a b o = tt

-- A job that begins runs.
pub echo_runs : (r : Result JobState JobFault) (text : List ℕ) → IfOk r (λ job. Stands job (begun (echoes text))) → IfOk r IsRunning
echo_runs (Ok job) text h = record { client = begun (echoes text); goes = refl; stands = h }
echo_runs (Err fault) text h = tt
