use Rattle.smp_schedule.proofs.Again.{written_is_read}
use Rattle.smp_schedule.proofs.ReadLines.{read_is_lawful}
use Rattle.smp_schedule.proofs.laws.read_is_lawful.Goals as goal

pub returns-clause-lawful : goal.returns-clause-lawful
returns-clause-lawful c = read_is_lawful

pub returns-clause-again : goal.returns-clause-again
returns-clause-again c text s read = written_is_read s (read_is_lawful text s read)
