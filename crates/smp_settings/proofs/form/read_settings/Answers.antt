use Rattle.std.proofs.Common.{arith}
use Rattle.std.proofs.lemmas.Bool.Decides.{nat_tests}
use Rattle.smp_model.specs.Settings.{setting}
use Rattle.smp_settings.proofs.Forms.{one_more, none_next, not_taken, all_read}
use Rattle.smp_settings.proofs.form.read_settings.Goals as goal

pub returns-in_default : goal.returns-in_default
returns-in_default c =
    none_next c.args.count c.loop.counter c.args.bytes.now c.loop.rest.now c.loop.table c.loop-test.true c.loop.invariant c.in_default.ensures

pub returns-then-not-take_setting : goal.returns-then-not-take_setting
returns-then-not-take_setting c =
    not_taken c.args.count c.loop.counter c.args.bytes.now c.loop.rest.now c.in-Some.next.rest.now (setting c.in-Some.next.name.now c.in-Some.next.val.now) c.loop.table c.take_setting.new.table
    c.loop-test.true c.loop.invariant c.in-Some.ensures
    c.if-not-take_setting.ensures

pub loop-preserved : goal.loop-preserved
loop-preserved c =
    one_more c.args.count c.loop.counter c.args.bytes.now c.loop.rest.now c.in-Some.next.rest.now (setting c.in-Some.next.name.now c.in-Some.next.val.now) c.loop.table c.take_setting.new.table
    c.loop-test.true c.loop.invariant c.in-Some.ensures
    c.if-not-take_setting.ensures

pub returns : goal.returns
returns c =
    all_read c.args.count c.loop.counter c.args.bytes.now c.loop.rest.now c.loop.table c.is_empty.result c.loop-test.false c.loop.invariant
    (λ e. grind (arith, nat_tests, c.is_empty.ensures, e)) (λ e. grind (arith, nat_tests, c.is_empty.ensures, e))
