use Rattle.smp_serve.proofs.Opened.{echo_runs}
use Rattle.smp_serve.proofs.tests.echo_job.Goals as goal

pub returns : goal.returns
returns c = echo_runs _ c.args.text.now c.echo.ensures.begun
