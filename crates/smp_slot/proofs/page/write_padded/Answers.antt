use Rattle.std.proofs.Common.{◌≡◌, ◌+◌, ◌-◌, ◌<◌, ◌≤◌, ◌%◌, ℕ, List, take, length, arith, length-take}
use Rattle.std.proofs.lemmas.Result.{on_ok_weaker}
use Rattle.smp_flash.specs.Area.{area, blank, spot, Holds}
use Rattle.smp_flash.proofs.Passing.{Calls-wider, Covers-within}
use Rattle.smp_slot.specs.Laid.{Laid}
use Rattle.smp_flash.proofs.Telling.{Told-with}
use Rattle.smp_slot.proofs.Laying.{Laid-written, units_fit}
use Rattle.smp_slot.proofs.Paying.{counts_is_write}
use Rattle.smp_slot.proofs.page.write_padded.Goals as goal

pub returns-clause-ok : goal.returns-clause-ok
returns-clause-ok g c =
    let n = length c.args.bytes.now in
    let text = take c.fill_up-count.result c.fill_up-count.new.into in
    let le : c.fill_up-count.result ≤ c.args.room = units_fit c.args.unit n c.args.room c.fill_up-count.result c.requires.is_unit c.requires.fits c.requires.whole c.fill_up-count.ensures.whole c.fill_up-count.ensures.most in
    on_ok_weaker c.write_part.result (λ told.
    Told-with (λ held. area c.args.at c.args.room held ≡ blank c.args.room) (Holds c.args.at text) (Laid c.args.at (c.args.room - n) c.args.bytes.now) _ _
    (λ u v is holds. Laid-written c.args.at (c.fill_up-count.result - n) c.args.room c.args.bytes.now text u v c.fill_up-count.ensures.bytes (omega (arith, c.fill_up-count.ensures.least)) is holds) c.requires.clean told) c.write_part.ensures.ok

pub returns-clause-pays : goal.returns-clause-pays
returns-clause-pays g c = on_ok_weaker c.write_part.result (λ pays counted. pays (counts_is_write (g.F.Flash.state c.args.flash.now).geometry (g.F.Flash.state c.args.flash.now).aim c.args.at _ counted)) c.write_part.ensures.pays

pub returns-clause-calls : goal.returns-clause-calls
returns-clause-calls g c =
    let n = length c.args.bytes.now in
    let text = take c.fill_up-count.result c.fill_up-count.new.into in
    let le : c.fill_up-count.result ≤ c.args.room = units_fit c.args.unit n c.args.room c.fill_up-count.result c.requires.is_unit c.requires.fits c.requires.whole c.fill_up-count.ensures.whole c.fill_up-count.ensures.most in
    Calls-wider (spot c.args.at c.args.room) (spot c.args.at (length text)) _ _ _
    (Covers-within c.args.at (length text) c.args.at c.args.room (omega arith) (omega (arith, length-take c.fill_up-count.result c.fill_up-count.new.into, le))) c.write_part.ensures.calls
