use Rattle.std.proofs.Common.{length}
use Rattle.smp_flash.proofs.Areas.{blank_first}
use Rattle.smp_gate.proofs.Placing.{second_fresh}
use Rattle.smp_gate.proofs.tests.laid.Goals as goal

pub write-requires-clause-erased : goal.write-requires-clause-erased
write-requires-clause-erased c =
    blank_first c.in_ok-flash.place.first.at 4096 (length c.args.first.now) c.in_ok-flash.flash.held.items c.requires.first c.in_ok-flash.ensures.erased.first

pub write-requires-2-clause-erased : goal.write-requires-2-clause-erased
write-requires-2-clause-erased c =
    second_fresh c.in_ok-flash.place _ c.args.first.now c.in_ok-flash.flash.held.items _ (length c.args.second.now) c.in_ok-flash.ensures.place c.in_ok-flash.ensures.erased c.in_ok-write.ensures.ok c.requires.first
    c.requires.second
