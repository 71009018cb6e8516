use Rattle.std.proofs.Common.{true}
use Rattle.smp_upload.proofs.Resolved.{said_whole, digest_there}
use Rattle.smp_upload.proofs.settling.give_up.Goals as goal

pub returns-in-Ok-clause-said : goal.returns-in-Ok-clause-said
returns-in-Ok-clause-said g c = said_whole c.sides_are_told_apart.ensures c.args.layout c.args.progress c.args.announcement true _ _ c.requires.held c.requires.wrong (digest_there c.args.announcement.digest c.requires.digest)
