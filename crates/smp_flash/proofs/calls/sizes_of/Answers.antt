use Rattle.std.proofs.Common.{subst, sym}
use Rattle.smp_flash.specs.Geometry.{Regular}
use Rattle.smp_flash.proofs.Sizes.{regular}
use Rattle.smp_flash.proofs.calls.sizes_of.Goals as goal

pub returns-clause-regular : goal.returns-clause-regular
returns-clause-regular g c = subst Regular (sym c.geometry.ensures) (regular _ (g.met.F.Flash.lawful c.args.flash.now))
