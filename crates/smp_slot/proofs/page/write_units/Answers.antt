use Rattle.std.proofs.Common.{◌≡◌, ◌+◌, ◌-◌, ◌≤◌, ◌++◌, ℕ, List, [], length, sym, arith}
use Rattle.std.proofs.lemmas.List.{append-nil}
use Rattle.std.proofs.lemmas.Result.{on_ok_weaker}
use Rattle.smp_flash.specs.Area.{area, blank, spot, Holds}
use Rattle.smp_flash.proofs.Passing.{Calls-wider, Covers-within}
use Rattle.smp_flash.proofs.Telling.{Told-with}
use Rattle.smp_slot.specs.Laid.{Laid}
use Rattle.smp_slot.proofs.Laying.{Laid-written}
use Rattle.smp_slot.proofs.Paying.{counts_is_write}
use Rattle.smp_slot.proofs.page.write_units.Goals as goal

pub returns-clause-ok : goal.returns-clause-ok
returns-clause-ok g c =
    let bytes = c.args.bytes.now in
    on_ok_weaker c.write_part.result (λ told.
    Told-with (λ held. area c.args.at c.args.room held ≡ blank c.args.room) (Holds c.args.at bytes) (Laid c.args.at (c.args.room - length bytes) bytes) _ _
    (λ u v is holds. Laid-written c.args.at 0 c.args.room bytes bytes u v (sym (append-nil bytes)) (omega (arith, c.requires.fits)) is holds) c.requires.clean told) c.write_part.ensures.ok

pub returns-clause-pays : goal.returns-clause-pays
returns-clause-pays g c = on_ok_weaker c.write_part.result (λ pays counted. pays (counts_is_write (g.F.Flash.state c.args.flash.now).geometry (g.F.Flash.state c.args.flash.now).aim c.args.at _ counted)) c.write_part.ensures.pays
