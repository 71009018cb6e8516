use Rattle.smp_app.proofs.Jobs.{not_bad}
use Rattle.smp_app.proofs.clients.make_job.Goals as goal

pub returns-in-Ok-clause-tests : goal.returns-in-Ok-clause-tests
returns-in-Ok-clause-tests c = not_bad c.args.client.words.now c.args.client.file _ c.in-Ok.ensures.ok
