use Rattle.smp_line.proofs.Spelling.{content_written}
use Rattle.smp_line.proofs.laws.written_lines_are_read.Goals as goal

pub returns : goal.returns
returns c = λ is_first bytes fit fits. content_written is_first bytes fits fit
