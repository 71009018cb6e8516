use Rattle.std.proofs.Common.{◌≡◌, ◌++◌, length}
use Rattle.smp_app.proofs.clients.copy_of.Given as goal

abbrev pub invariant-pairs : goal.invariant-pairs
invariant-pairs l = record { copied : l.copy ++ l.rest ≡ l.fn.pairs }

abbrev pub decreases-pairs : goal.decreases-pairs
decreases-pairs l = length l.rest
