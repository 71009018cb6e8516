use Rattle.std.proofs.Common.{◌-◌}
use Rattle.smp_settings.proofs.Forms.{SoFar}
use Rattle.smp_settings.proofs.form.read_settings.Given as goal

abbrev pub invariant-loop : goal.invariant-loop
invariant-loop l = SoFar l.count l.bytes l.table (l.count - l.counter) l.rest
