use Rattle.std.proofs.Common.{arith}
use Rattle.smp_settings.proofs.Forms.{taken}
use Rattle.smp_settings.proofs.form.take_setting.Goals as goal

pub returns : goal.returns
returns c =
    taken c.args.name.now c.args.val.now c.in-Some.text.now c.args.table.now c.push.new.self c.new.result c.requires c.in-Some.ensures (omega arith)
    (omega (arith, c.count.ensures.count, c.if-count-ge-MOST.false)) (cc (c.comes_last.ensures, c.if-not-comes_last.ensures)) c.new.ensures c.push.ensures
