use Rattle.std.proofs.Common.{arith, refl, ap, inr, Some}
use Rattle.smp_flash.specs.Region.{counts_write}
use Rattle.smp_flash.proofs.Arms.{Acts-went, change_told}
use Rattle.smp_flash.proofs.Passing.{reads_none}
use Rattle.smp_flash.proofs.memory.MemFlashFlash.write.Goals as goal

pub returns-in-None-clause-acts : goal.returns-in-None-clause-acts
returns-in-None-clause-acts c =
    let u = change_told _ _ _ _ _ c.args.self.now.armed c.is_write_counted-counted.ensures c.strike.ensures.struck c.in-None.is c.strike.ensures.rest in
    Acts-went _ _ _ _ _ _ refl refl refl c.if-not-self.false (ap Some u.troubles) u.aim u.spends (λ e. e)
    (λ e. inr (ap (λ aim. counts_write c.args.self.now.geometry aim c.args.at c.args.bytes.now) e)) (reads_none (Some c.args.self.now.bytes_read))
    (omega (arith, c.saturating_add-self.ensures), omega (arith, c.saturating_add-self.ensures), omega arith, omega arith)
