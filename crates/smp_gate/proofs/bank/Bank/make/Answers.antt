use Rattle.std.proofs.Common.{refl, false, true, length}
use Rattle.smp_flash.proofs.Sizes.{regular}
use Rattle.smp_gate.proofs.Renewing.{told_made, told_made_either, told_made_ages, told_fresh, told_whole, second_same}
use Rattle.smp_gate.proofs.bank.Bank.make.Goals as goal

pub fill-requires-clause-regular : goal.fill-requires-clause-regular
fill-requires-clause-regular g c = regular _ (g.met.F.Flash.lawful c.args.flash.now)

pub returns-in-Ok-clause-old_or_new : goal.returns-in-Ok-clause-old_or_new
returns-in-Ok-clause-old_or_new g c = told_made_either c.args.place c.args.body.now _ _ c.requires.place.apart c.requires.erased c.fill.ensures.either

pub returns-in-Ok-clause-ages : goal.returns-in-Ok-clause-ages
returns-in-Ok-clause-ages g c =
    told_made_ages c.args.place c.args.body.now _ _ c.requires.erased (told_made_either c.args.place c.args.body.now _ _ c.requires.place.apart c.requires.erased c.fill.ensures.either)

pub returns-in-Ok-clause-says : goal.returns-in-Ok-clause-says
returns-in-Ok-clause-says g c =
    told_fresh (record { place = c.args.place; cell = c.args.cell; second = false; generation = 1; size = length c.args.body.now; gates = c.new.result.items; sure = true }) c.args.body.now _ c.requires.fits refl c.new.ensures (told_made c.args.place c.args.body.now _ _ c.requires.place.apart c.requires.erased c.in-Ok.ensures.renewed) c.in-Ok.ensures.side

pub returns-in-Ok-clause-content : goal.returns-in-Ok-clause-content
returns-in-Ok-clause-content g c =
    told_whole c.args.place c.args.cell _ _ c.args.body.now _ c.requires.fits (told_made c.args.place c.args.body.now _ _ c.requires.place.apart c.requires.erased c.in-Ok.ensures.renewed) c.in-Ok.ensures.side

pub returns-in-Err-clause-old_or_new : goal.returns-in-Err-clause-old_or_new
returns-in-Err-clause-old_or_new g c = told_made_either c.args.place c.args.body.now _ _ c.requires.place.apart c.requires.erased c.fill.ensures.either

pub returns-in-Err-clause-ages : goal.returns-in-Err-clause-ages
returns-in-Err-clause-ages g c =
    told_made_ages c.args.place c.args.body.now _ _ c.requires.erased (told_made_either c.args.place c.args.body.now _ _ c.requires.place.apart c.requires.erased c.fill.ensures.either)

pub returns-in-Ok-clause-second_kept : goal.returns-in-Ok-clause-second_kept
returns-in-Ok-clause-second_kept g c = second_same c.args.place _ _ c.requires.place.apart c.fill.ensures.calls.keeps

pub returns-in-Err-clause-second_kept : goal.returns-in-Err-clause-second_kept
returns-in-Err-clause-second_kept g c = second_same c.args.place _ _ c.requires.place.apart c.fill.ensures.calls.keeps
