use Rattle.std.proofs.Common.{arith}
use Rattle.smp_upload.proofs.Sights.{told_held_by}
use Rattle.smp_upload.proofs.mounting.find_upload.Goals as goal

pub receive-requires-clause-held : goal.receive-requires-clause-held
receive-requires-clause-held g c =
    let a = c.args in
    let most = c.requires.lawful.most in
    let within = c.requires.lawful.within in
    told_held_by a.layout a.rescue a.progress a.announcement a.offset _ c.requires.entry (omega arith) c.requires.looked
