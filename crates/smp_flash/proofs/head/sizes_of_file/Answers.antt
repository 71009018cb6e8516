use Rattle.std.proofs.Common.{arith}
use Rattle.smp_flash.proofs.Heads.{no_file}
use Rattle.smp_flash.proofs.head.sizes_of_file.Goals as goal

pub returns-then-length-from-clause-none : goal.returns-then-length-from-clause-none
returns-then-length-from-clause-none c =
    no_file c.args.head.now c.args.length c.in_ok-geometry.geometry c.in_ok-geometry.ensures.reads (let d = c.if-length-from.true in omega (arith, c.from.ensures, c.size.ensures.size))
