use Rattle.smp_flash.proofs.Behind.{none_faded}
use Rattle.smp_flash.proofs.file_flash.make_flash.Goals as goal

pub returns-then-is_err-clause-err : goal.returns-then-is_err-clause-err
returns-then-is_err-clause-err g c = none_faded _ _ c.create.ensures.kept
