use Rattle.std.proofs.Common.{◌∙◌, subst}
use Rattle.std.specs.List.{insert}
use Rattle.smp_files.proofs.Places.{put_at, Ranked}
use Rattle.smp_files.proofs.Storing.{by_ok}
use Rattle.smp_files.proofs.file.put.Goals as goal

pub returns-clause-files : goal.returns-clause-files
returns-clause-files c =
    let here : Ranked c.rank-at.result c.args.name.now c.args.files.now.items = subst (Ranked c.rank-at.result c.args.name.now) c.as_slice.ensures.value c.rank-at.ensures in
    by_ok _ c.insert.new.self.items (insert c.args.files.now.items c.rank-at.result c.args.added) c.args.files.now.items c.insert.ensures.items (cc (c.is_ok-stored.ensures.value, c.if-prove.ensures.value))
    ∙ put_at c.rank-at.result c.args.name.now c.args.files.now.items c.args.added c.requires.named here
