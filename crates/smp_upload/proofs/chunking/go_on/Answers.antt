use Rattle.std.proofs.Common.{refl, arith}
use Rattle.std.proofs.lemmas.Result.{IfOk-weaker}
use Rattle.smp_flash.proofs.Passing.{Calls-refl}
use Rattle.smp_upload.proofs.Resolved.{whole_done}
use Rattle.smp_upload.proofs.Parted.{told_partial, told_partial_says, said_partial, said_complete}
use Rattle.smp_upload.proofs.chunking.go_on.Goals as goal

pub returns-then-offset-announcement-clause-done : goal.returns-then-offset-announcement-clause-done
returns-then-offset-announcement-clause-done g c =
    let one = c.sides_are_told_apart.ensures in
    let s = c.args.stored in
    whole_done one c.args.layout s.progress c.args.announcement c.args.offset s.sums _ _ c.requires.filled (told_partial one c.args.layout s.progress c.args.announcement c.args.offset s.sums _ c.if-offset-announcement.true c.requires.filled) (Calls-refl _ _) refl

pub returns-then-offset-announcement-clause-says : goal.returns-then-offset-announcement-clause-says
returns-then-offset-announcement-clause-says g c = told_partial_says c.sides_are_told_apart.ensures c.args.layout c.args.stored.progress c.args.announcement c.args.offset c.args.stored.sums _ c.requires.place c.if-offset-announcement.true c.requires.filled

pub returns-then-offset-announcement-clause-said : goal.returns-then-offset-announcement-clause-said
returns-then-offset-announcement-clause-said g c = said_partial c.sides_are_told_apart.ensures c.args.layout c.args.stored.progress c.args.announcement c.args.offset c.args.stored.sums _ c.if-offset-announcement.true c.requires.filled

pub returns-clause-said : goal.returns-clause-said
returns-clause-said g c = IfOk-weaker c.settle.result _ _ (λ chunked q. said_complete c.sides_are_told_apart.ensures c.args.layout c.args.stored.progress c.args.announcement c.args.offset c.args.stored.sums chunked _ (let le = c.requires.within in let no = c.if-offset-announcement.false in omega arith) c.requires.filled q) c.settle.ensures.said
