use Rattle.smp_progress.proofs.Reading.{lawful_record}
use Rattle.smp_progress.proofs.laws.records_are_lawful.Goals as goal

pub returns : goal.returns
returns c = lawful_record
