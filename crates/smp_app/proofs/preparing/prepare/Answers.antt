use Rattle.smp_app.proofs.Prepared.{due_of_tests}
use Rattle.smp_app.proofs.preparing.prepare.Goals as goal

pub returns-clause-due : goal.returns-clause-due
returns-clause-due g c =
    due_of_tests _ (g.D.Files.folder c.args.files.now) c.args.schedule.now c.in-Ok.loaded.images c.in-Ok.loaded.clients.items c.build.result
    c.in-Ok.ensures.loads c.in-Ok.ensures.images c.in-Ok.ensures.clients c.build.ensures.tests
