use Rattle.std.proofs.Common.{◌≡◌, ◌≤◌, take, length}
use Rattle.smp_settings.proofs.difference.common_front.Given as goal

abbrev pub invariant-loop-i : goal.invariant-loop-i
invariant-loop-i l = (take l.i l.one ≡ take l.i l.other) × (l.i ≤ length l.other)
