use Rattle.std.proofs.Common.{length, sym, ◌∙◌}
use Rattle.std.proofs.lemmas.Result.{on_ok_weaker}
use Rattle.smp_upload.proofs.Parts.{part_read, part_looks, not_empty}
use Rattle.smp_upload.proofs.reading.FrontBytes.read.Goals as goal

pub returns-clause-looks : goal.returns-clause-looks
returns-clause-looks g c =
    part_looks c.args.self.now.at c.args.self.now.size c.args.self.now.flash.ghost_name c.args.at (length c.args.into.now) _ (g.F.Flash.state c.args.self.now.flash.now) (g.F.Flash.state c.read.new.self)
    (not_empty (length c.args.into.now) (sym c.is_empty.ensures ∙ c.if-is_empty.false)) c.requires c.read.ensures.acts c.read.ensures.kept

pub returns-clause-bytes : goal.returns-clause-bytes
returns-clause-bytes g c = on_ok_weaker c.read.result
    (part_read (g.F.Flash.state c.args.self.now.flash.now).bytes c.args.self.now.at c.args.self.now.size c.args.at (length c.args.into.now) c.read.new.into c.requires)
    c.read.ensures.bytes
