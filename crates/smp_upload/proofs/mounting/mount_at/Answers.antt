use Rattle.smp_upload.proofs.Mounts.{mounts_after}
use Rattle.smp_upload.proofs.mounting.mount_at.Goals as goal

pub returns-in-Ok : goal.returns-in-Ok
returns-in-Ok g c = mounts_after c.args.layout _ _ _ _ c.in-Ok.ensures.calls c.look.ensures.kept c.find.ensures
