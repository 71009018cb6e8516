use Rattle.smp_line.proofs.Division.{crc_divides}
use Rattle.smp_line.proofs.laws.crc_is_worked_out.Goals as goal

pub returns : goal.returns
returns c = λ bytes fit. crc_divides bytes fit
