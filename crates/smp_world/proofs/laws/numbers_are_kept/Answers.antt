use Rattle.smp_world.proofs.KeptNumbers.{event_keeps}
use Rattle.smp_world.proofs.laws.numbers_are_kept.Goals as goal

pub returns : goal.returns
returns c = event_keeps
