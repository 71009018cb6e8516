use Rattle.std.proofs.Common.{subst, arith, ◌+◌}
use Rattle.smp_flash.specs.Calls.{ReadsAtMost}
use Rattle.smp_flash.specs.Layout.{geometry_of}
use Rattle.smp_flash.specs.declared.layout.Layout.{Layout}
use Rattle.smp_flash.proofs.Passing.{reads_add, reads_more, changes_add}
use Rattle.smp_upload.specs.States.{known_mounted}
use Rattle.smp_side.proofs.Setting.{read_broken, confirm_refused, confirm_already, confirm_done, confirm_failed, confirming, confirming_fine}
use Rattle.smp_side.proofs.marking.confirm.Goals as goal

pub returns-then-not-confirm-clause-answers : goal.returns-then-not-confirm-clause-answers
returns-then-not-confirm-clause-answers g c =
    confirm_refused c.sides_are_told_apart.ensures c.args.mounted c.args.confirm c.refuses.result (g.F.Flash.state c.args.flash.now) c.if-not-confirm.true c.refuses.ensures c.requires.says

pub returns-in-Err-clause-answers : goal.returns-in-Err-clause-answers
returns-in-Err-clause-answers g c =
    read_broken (known_mounted c.args.mounted) c.layout_of-layout.result 0 (confirming c.args.confirm) c.broken.result c.in-Err.fault (g.F.Flash.state c.args.flash.now) (g.F.Flash.state c.is_confirmed.new.flash) c.layout_of-layout.ensures c.requires.says c.in-Err.ensures.calls c.in-Err.ensures.kept c.broken.ensures
    (confirming_fine (known_mounted c.args.mounted).layout c.args.confirm (g.F.Flash.state c.args.flash.now).bytes c.if-not-confirm.false)

pub returns-then-confirmed-clause-answers : goal.returns-then-confirmed-clause-answers
returns-then-confirmed-clause-answers g c =
    confirm_already c.sides_are_told_apart.ensures c.args.mounted c.layout_of-layout.result c.args.confirm c.in-Ok.confirmed c.said.result (g.F.Flash.state c.args.flash.now) (g.F.Flash.state c.is_confirmed.new.flash) c.if-not-confirm.false c.if-confirmed.true c.layout_of-layout.ensures c.said.ensures c.requires.says c.in-Ok.ensures.calls c.in-Ok.ensures.kept c.in-Ok.ensures.confirmed

pub returns-in-Ok-write_flag-clause-answers : goal.returns-in-Ok-write_flag-clause-answers
returns-in-Ok-write_flag-clause-answers g c =
    confirm_done c.sides_are_told_apart.ensures c.args.mounted c.layout_of-layout.result c.args.confirm c.in-Ok.confirmed c.said-in-Ok-write_flag.result (g.F.Flash.state c.args.flash.now) (g.F.Flash.state c.is_confirmed.new.flash) (g.F.Flash.state c.confirm.new.flash) c.if-not-confirm.false c.if-confirmed.false c.layout_of-layout.ensures c.said-in-Ok-write_flag.ensures c.requires.says
    c.in-Ok.ensures.calls c.in-Ok.ensures.kept c.in-Ok.ensures.confirmed c.in-Ok-write_flag.ensures.moved c.in-Ok-write_flag.ensures.does c.in-Ok-write_flag.ensures.pays c.in-Ok-write_flag.ensures.says

pub returns-in-Err-write_flag-clause-answers : goal.returns-in-Err-write_flag-clause-answers
returns-in-Err-write_flag-clause-answers g c =
    confirm_failed c.sides_are_told_apart.ensures c.args.mounted c.layout_of-layout.result c.args.confirm c.in-Ok.confirmed c.in-Err-write_flag.fault c.broken-in-Err-write_flag.result (g.F.Flash.state c.args.flash.now) (g.F.Flash.state c.is_confirmed.new.flash) (g.F.Flash.state c.confirm.new.flash) c.if-not-confirm.false c.if-confirmed.false c.layout_of-layout.ensures c.requires.says
    c.in-Ok.ensures.calls c.in-Ok.ensures.kept c.in-Ok.ensures.confirmed c.in-Err-write_flag.ensures.moved c.broken-in-Err-write_flag.ensures

pub returns-then-confirmed-clause-reads : goal.returns-then-confirmed-clause-reads
returns-then-confirmed-clause-reads g c =
    reads_more 1 (1 + (geometry_of (known_mounted c.args.mounted).layout).page) (g.F.Flash.state c.args.flash.now).bytes_read (g.F.Flash.state c.is_confirmed.new.flash).bytes_read (omega arith) c.in-Ok.ensures.reads

pub returns-in-Ok-write_flag-clause-reads : goal.returns-in-Ok-write_flag-clause-reads
returns-in-Ok-write_flag-clause-reads g c =
    subst (λ (l : Layout). ReadsAtMost (1 + (geometry_of l).page) (g.F.Flash.state c.args.flash.now).bytes_read (g.F.Flash.state c.confirm.new.flash).bytes_read) c.layout_of-layout.ensures
    (reads_add 1 (geometry_of c.layout_of-layout.result).page (g.F.Flash.state c.args.flash.now).bytes_read (g.F.Flash.state c.is_confirmed.new.flash).bytes_read (g.F.Flash.state c.confirm.new.flash).bytes_read c.in-Ok.ensures.reads c.in-Ok-write_flag.ensures.reads)

pub returns-in-Ok-write_flag-clause-changes : goal.returns-in-Ok-write_flag-clause-changes
returns-in-Ok-write_flag-clause-changes g c =
    changes_add 0 1 0 1 (g.F.Flash.state c.args.flash.now).changes (g.F.Flash.state c.is_confirmed.new.flash).changes (g.F.Flash.state c.confirm.new.flash).changes c.in-Ok.ensures.changes c.in-Ok-write_flag.ensures.changes
