-- What follows by the count of answers.
use Rattle.std.proofs.Common.{arith, ap, length, ◌∙◌}
use Rattle.smp_jobs.specs.Jobs.{asks}
use Rattle.smp_jobs.proofs.Settings.{nth_write, nth_save, nth_done}
use Rattle.smp_jobs.proofs.sets.nth.Goals as goal

pub returns-then-set-pairs-clause-next : goal.returns-then-set-pairs-clause-next
returns-then-set-pairs-clause-next c =
    ap asks c.write.ensures.write ∙ nth_write c.args.set.now.pairs c.args.set.now.count c.index-pairs-set.result (omega (arith, ap length c.as_slice-pairs.ensures)) (rw c.as_slice-pairs.ensures at c.index-pairs-set.is)

pub returns-then-set-pairs-2-clause-next : goal.returns-then-set-pairs-2-clause-next
returns-then-set-pairs-2-clause-next c = nth_save c.args.set.now.pairs c.args.set.now.count (omega (arith, ap length c.as_slice-pairs.ensures))

pub returns-clause-next : goal.returns-clause-next
returns-clause-next c = nth_done c.args.set.now.pairs c.args.set.now.count (omega (arith, ap length c.as_slice-pairs.ensures))
