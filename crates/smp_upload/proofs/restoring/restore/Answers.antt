use Rattle.std.proofs.Common.{arith, false}
use Rattle.std.proofs.lemmas.Result.{on_ok_weaker}
use Rattle.smp_flash.proofs.Passing.{Smaller-then}
use Rattle.smp_upload.proofs.Restored.{still_moved, then_moved, then_done, told_out_held, told_out_sums}
use Rattle.smp_upload.proofs.restoring.restore.Goals as goal

pub end_rescue-requires-clause-held : goal.end_rescue-requires-clause-held
end_rescue-requires-clause-held g c = let a = c.args in told_out_held a.layout a.progress c.in-Ok.next a.announcement a.offset _ _ c.requires.held c.in-Ok.ensures.flags c.in-Ok.ensures.says

pub end_rescue-requires-clause-sums : goal.end_rescue-requires-clause-sums
end_rescue-requires-clause-sums g c = let a = c.args in told_out_sums c.sides_are_told_apart.ensures a.layout a.progress a.announcement a.offset a.sums _ _ c.requires.held c.requires.sums c.in-Ok.ensures.flags

pub returns-in-Err-clause-moved : goal.returns-in-Err-clause-moved
returns-in-Err-clause-moved g c = let a = c.args in still_moved a.layout false a.progress a.announcement a.offset 2 _ _ _ (omega arith) c.requires.held c.in-Err.ensures.calls c.move_out.ensures.moves c.move_out.ensures.ages

pub returns-in-Ok-clause-moved : goal.returns-in-Ok-clause-moved
returns-in-Ok-clause-moved g c = let a = c.args in then_moved a.layout a.progress a.announcement a.offset _ _ _ _ c.requires.held c.in-Ok.ensures.calls c.in-Ok.ensures.flags c.move_out.ensures.ages c.end_rescue.ensures.moved

pub returns-in-Ok-clause-done : goal.returns-in-Ok-clause-done
returns-in-Ok-clause-done g c = let a = c.args in on_ok_weaker c.end_rescue.result (λ done. then_done c.sides_are_told_apart.ensures a.layout a.progress a.announcement a.offset _ _ _ c.requires.below c.requires.held c.in-Ok.ensures.calls c.in-Ok.ensures.flags c.move_out.ensures.ages done) c.end_rescue.ensures.done

pub returns-in-Ok-clause-spends : goal.returns-in-Ok-clause-spends
returns-in-Ok-clause-spends g c = on_ok_weaker c.end_rescue.result (λ done aims. Smaller-then (g.F.Flash.state c.args.flash.now).patience (g.F.Flash.state c.move_out.new.flash).patience (g.F.Flash.state c.end_rescue.new.flash).patience (c.in-Ok.ensures.pays aims) done.calls.passes.patience) c.end_rescue.ensures.done
