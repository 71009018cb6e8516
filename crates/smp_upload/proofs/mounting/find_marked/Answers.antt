use Rattle.std.proofs.Common.{refl, arith}
use Rattle.smp_flash.proofs.Passing.{Calls-refl}
use Rattle.smp_upload.proofs.Mounts.{formless_lost}
use Rattle.smp_upload.proofs.Sights.{told_unfinished}
use Rattle.smp_upload.proofs.mounting.find_marked.Goals as goal

pub returns-then-offset-announcement : goal.returns-then-offset-announcement
returns-then-offset-announcement g c =
    let a = c.args in
    formless_lost a.layout c.lost.result _ _ (Calls-refl _ _) refl c.lost.ensures.layout c.lost.ensures.fault
    (told_unfinished c.records_are_told_apart.ensures a.layout a.rescue a.progress a.mark a.announcement a.offset _ c.requires.entry (λ e. omega (arith, e, c.if-offset-announcement.true)) c.requires.looked)
