use Rattle.std.proofs.lemmas.Result.{on_ok_weaker}
use Rattle.smp_upload.proofs.Confirmed.{confirm_moved, confirm_told, confirm_said, confirm_pays}
use Rattle.smp_upload.proofs.primary.confirm.Goals as goal

pub returns-clause-moved : goal.returns-clause-moved
returns-clause-moved g c = confirm_moved c.args.layout.now _ _ _ c.requires.unconfirmed c.put_flag.ensures.calls

pub returns-clause-does : goal.returns-clause-does
returns-clause-does g c = on_ok_weaker c.put_flag.result (λ is. confirm_told c.sides_are_told_apart.ensures c.args.layout.now _ _ c.put_flag.ensures.calls.keeps is) c.put_flag.ensures.ok

pub returns-clause-pays : goal.returns-clause-pays
returns-clause-pays g c = on_ok_weaker c.put_flag.result (λ pays. confirm_pays c.args.layout.now (g.F.Flash.state c.args.flash.now) (g.F.Flash.state c.put_flag.new.flash) pays) c.put_flag.ensures.pays

pub returns-clause-says : goal.returns-clause-says
returns-clause-says g c = confirm_said c.progress_outlasts_other_changes.ensures.says c.args.layout.now _ _ c.put_flag.ensures.calls.keeps
