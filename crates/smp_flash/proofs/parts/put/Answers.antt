use Rattle.std.proofs.Common.{arith}
use Rattle.smp_flash.proofs.Areas.{Holds-part}
use Rattle.smp_flash.proofs.parts.put.Goals as goal

pub returns-clause-holds : goal.returns-clause-holds
returns-clause-holds c = Holds-part c.args.at _ c.args.held.now c.copy_from_slice.new.self c.args.bytes.now (omega arith) (omega arith) c.copy_from_slice.ensures.after
