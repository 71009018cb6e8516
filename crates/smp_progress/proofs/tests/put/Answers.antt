use Rattle.smp_progress.proofs.Putting.{put_sure}
use Rattle.smp_progress.proofs.tests.put.Goals as goal

pub returns-clause-sure : goal.returns-clause-sure
returns-clause-sure c = put_sure c.put.result c.args.entry.now c.args.progress.now c.put.new.self c.put.ensures.state c.requires.sure
