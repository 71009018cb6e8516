use Rattle.smp_flash.specs.Memory.{memory_of}
use Rattle.smp_app.proofs.Prepared.{is_built}
use Rattle.smp_app.proofs.preparing.build.Goals as goal

pub returns-in-Ok-new-clause-ok : goal.returns-in-Ok-new-clause-ok
returns-in-Ok-new-clause-ok c =
    is_built c.args.images.now c.args.clients.items c.in-Ok-make_jobs.jobs.items c.in-Ok-new.world (memory_of c.in-Ok.flash) c.in-Ok-make_jobs.ensures.ok c.in-Ok.ensures.ok c.in-Ok-new.ensures.opens c.in-Ok-new.ensures.steps
