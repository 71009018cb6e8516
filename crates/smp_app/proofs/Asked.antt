-- How a command ends.
use Rattle.std.proofs.Common.{◌≡◌, ℕ, Option, Some, refl, inl, inr, arith, subst}
use Rattle.std.specs.Prelude.{◌⊎◌, IfSome}
use Rattle.smp_edge.specs.Faults.{Rose}
use Rattle.smp_app.specs.Causes.{FileCause, WriteCause}
use Rattle.smp_app.specs.Replays.{IsDueUnlessPrevented}
use Rattle.smp_app.specs.declared.status.Status.{Status}
use Rattle.smp_app.specs.declared.status.Status.TheVariants.{Done, Usage, BadSchedule, BadImage, TooLong, FileFault, WriteFault, NoMemory}

-- with no fault and with what is asked told, all is done, or there was no memory
no_fault : (status : Status) (files_before files_now sink_before sink_now : ℕ) → IsDueUnlessPrevented status Done
    → FileCause status files_before files_now → WriteCause status sink_before sink_now
    → (Rose files_before files_now → ⊥) → (Rose sink_before sink_now → ⊥) → (status ≡ Done) ⊎ (status ≡ NoMemory)
no_fault status fb fn sb sn (inl done) files sink no_file no_sink = inl done
no_fault NoMemory fb fn sb sn (inr h) files sink no_file no_sink = inr refl
no_fault FileFault fb fn sb sn (inr h) files sink no_file no_sink = absurd (no_file (files.1 refl))
no_fault WriteFault fb fn sb sn (inr h) files sink no_file no_sink = absurd (no_sink (sink.1 refl))
no_fault Done fb fn sb sn (inr h) files sink no_file no_sink = inl refl
no_fault Usage fb fn sb sn (inr h) files sink no_file no_sink = absurd h
no_fault (BadSchedule line) fb fn sb sn (inr h) files sink no_file no_sink = absurd h
no_fault (BadImage why) fb fn sb sn (inr h) files sink no_file no_sink = absurd h
no_fault TooLong fb fn sb sn (inr h) files sink no_file no_sink = absurd h

pub completes : (asked : Option Status) (status : Status) (files_before files_now sink_before sink_now : ℕ)
    → IfSome asked (IsDueUnlessPrevented status) → FileCause status files_before files_now → WriteCause status sink_before sink_now
    → asked ≡ Some Done → (Rose files_before files_now → ⊥) → (Rose sink_before sink_now → ⊥) → (status ≡ Done) ⊎ (status ≡ NoMemory)
completes asked status fb fn sb sn h files sink is no_file no_sink =
    no_fault status fb fn sb sn (subst (λ (a : Option Status). IfSome a (IsDueUnlessPrevented status)) is h) files sink no_file no_sink

pub usage_quiet : (before now : ℕ) → now ≡ before → FileCause Usage before now × WriteCause Usage before now
usage_quiet before now same =
    ((omega (arith, same), (λ is. absurd cc), (λ isnt. same)), (omega (arith, same), (λ is. absurd cc), (λ isnt. same)))
