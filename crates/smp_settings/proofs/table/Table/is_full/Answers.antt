use Rattle.smp_settings.proofs.Forms.{full_by}
use Rattle.smp_settings.proofs.table.Table.is_full.Goals as goal

pub returns : goal.returns
returns c = full_by c.args.name.now c.args.val.now c.args.self.now c.length_without.result c.requires.sorted c.length_without.ensures.length (cc (c.lacks_place.ensures, c.if-lacks_place.false))
