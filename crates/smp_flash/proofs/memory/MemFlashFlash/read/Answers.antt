use Rattle.std.proofs.Common.{arith, refl, ap, inl, Some}
use Rattle.smp_flash.proofs.Arms.{Acts-went, read_told}
use Rattle.smp_flash.proofs.memory.MemFlashFlash.read.Goals as goal

pub returns-in-None-clause-acts : goal.returns-in-None-clause-acts
returns-in-None-clause-acts c =
    let u = read_told _ _ _ _ c.strike.ensures.struck c.in-None.is c.strike.ensures.rest in
    Acts-went _ _ _ _ _ _ refl refl refl c.if-not-self.false (ap Some u.troubles) u.aim u.spends (λ e. refl) (λ e. inl refl)
    (omega (arith, c.saturating_add-self.ensures), omega (arith, c.saturating_add-self.ensures))
    (omega arith, omega arith, omega arith, omega arith)
