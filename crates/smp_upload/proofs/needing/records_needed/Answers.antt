use Rattle.std.proofs.Common.{Bool, subst, true, false, arith}
use Rattle.std.specs.Prelude.{IfSome}
use Rattle.smp_upload.specs.Rescuing.{HeldAs}
use Rattle.smp_upload.proofs.Needed.{told_needs_rescue, told_needs_tail, tail_calls, CleanIs}
use Rattle.smp_upload.proofs.needing.records_needed.Goals as goal

pub returns-then-rescue-clause-needs : goal.returns-then-rescue-clause-needs
returns-then-rescue-clause-needs g c =
    let a = c.args in
    let held = subst (λ (t : Bool). IfSome (g.F.Flash.state a.flash.now).bytes (HeldAs a.layout t a.progress.now a.announcement a.offset)) c.if-rescue.true c.requires.held in
    told_needs_rescue c.records_are_told_apart.ensures a.layout a.progress.now a.announcement a.offset _ held

pub returns-in-Ok-true-clause-needs : goal.returns-in-Ok-true-clause-needs
returns-in-Ok-true-clause-needs g c =
    let a = c.args in
    let held = subst (λ (t : Bool). IfSome (g.F.Flash.state a.flash.now).bytes (HeldAs a.layout t a.progress.now a.announcement a.offset)) c.if-rescue.false c.requires.held in
    let tail_is = subst (λ (t : Bool). IfSome (g.F.Flash.state a.flash.now).bytes (CleanIs a.layout a.offset t)) c.in-Ok-true.field-0-test c.in-Ok-true.ensures.clean in
    told_needs_tail c.records_are_told_apart.ensures a.layout a.progress.now a.announcement a.offset true _ c.requires.below held tail_is

pub returns-in-Ok-true-clause-calls : goal.returns-in-Ok-true-clause-calls
returns-in-Ok-true-clause-calls g c = tail_calls c.args.layout c.args.offset _ _ _ (let most = c.requires.most in let below = c.requires.below in omega arith) c.in-Ok-true.ensures.calls

pub returns-in-Ok-false-clause-needs : goal.returns-in-Ok-false-clause-needs
returns-in-Ok-false-clause-needs g c =
    let a = c.args in
    let held = subst (λ (t : Bool). IfSome (g.F.Flash.state a.flash.now).bytes (HeldAs a.layout t a.progress.now a.announcement a.offset)) c.if-rescue.false c.requires.held in
    let tail_is = subst (λ (t : Bool). IfSome (g.F.Flash.state a.flash.now).bytes (CleanIs a.layout a.offset t)) c.in-Ok-false.field-0-test c.in-Ok-false.ensures.clean in
    told_needs_tail c.records_are_told_apart.ensures a.layout a.progress.now a.announcement a.offset false _ c.requires.below held tail_is

pub returns-in-Ok-false-clause-calls : goal.returns-in-Ok-false-clause-calls
returns-in-Ok-false-clause-calls g c = tail_calls c.args.layout c.args.offset _ _ _ (let most = c.requires.most in let below = c.requires.below in omega arith) c.in-Ok-false.ensures.calls

pub returns-in-Err-clause-calls : goal.returns-in-Err-clause-calls
returns-in-Err-clause-calls g c = tail_calls c.args.layout c.args.offset _ _ _ (let most = c.requires.most in let below = c.requires.below in omega arith) c.in-Err.ensures.calls
