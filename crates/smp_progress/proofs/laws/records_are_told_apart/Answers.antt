use Rattle.smp_progress.proofs.Reading.{one_record}
use Rattle.smp_progress.proofs.laws.records_are_told_apart.Goals as goal

pub returns : goal.returns
returns c = one_record
