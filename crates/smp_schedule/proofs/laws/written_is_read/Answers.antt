use Rattle.smp_schedule.proofs.Again.{written_is_read}
use Rattle.smp_schedule.proofs.laws.written_is_read.Goals as goal

pub returns : goal.returns
returns c = written_is_read
