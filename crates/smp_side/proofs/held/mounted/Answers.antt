use Rattle.smp_side.proofs.Answering.{mount_none, mount_lost}
use Rattle.smp_side.proofs.held.mounted.Goals as goal

pub returns-in-Mounted-clause-done : goal.returns-in-Mounted-clause-done
returns-in-Mounted-clause-done g c = mount_none c.sides_are_told_apart.ensures c.args.held c.in-Mounted.mounted 2 (g.F.Flash.state c.args.flash.now) c.in-Mounted.is c.requires.says

pub returns-in-Unmounted-clause-caused : goal.returns-in-Unmounted-clause-caused
returns-in-Unmounted-clause-caused g c = mount_lost c.args.held c.in-Unmounted.state c.mount.result (g.F.Flash.state c.args.flash.now).bytes c.in-Unmounted.is c.requires.says c.mount.ensures.unformatted c.mount.ensures.worn
