use Rattle.smp_flash.proofs.Sizes.{regular}
use Rattle.smp_flash.proofs.Layouts.{arranged}
use Rattle.smp_flash.proofs.layout.Layout.geometry.Goals as goal

pub returns-clause-regular : goal.returns-clause-regular
returns-clause-regular c = regular c.args.self.now.geometry c.args.self.now.lawful

pub returns-clause-arranged : goal.returns-clause-arranged
returns-clause-arranged c = arranged c.args.self.now
