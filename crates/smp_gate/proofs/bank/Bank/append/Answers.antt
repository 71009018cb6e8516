use Rattle.std.proofs.Common.{◌≡◌, refl, arith, sym, ◌∙◌}
use Rattle.smp_flash.proofs.Sizes.{regular}
use Rattle.std.specs.Prelude.{Ok, Err}
use Rattle.smp_gate.specs.declared.fault.BankFault.TheVariants.{Full}
use Rattle.smp_gate.specs.Newest.{sides}
use Rattle.smp_gate.proofs.Renewing.{passed_Calls, passed_not_full}
use Rattle.smp_gate.proofs.Appending.{adds_of, told_either, told_newest_same, told_ages_same, told_added, told_says_more, opened_at, told_free, told_full, side_small, cell_inside, says_opened, appended_Calls}
use Rattle.smp_gate.proofs.bank.Bank.append.Goals as goal

pub returns-then-used-places-clause-full_side : goal.returns-then-used-places-clause-full_side
returns-then-used-places-clause-full_side g c =
    told_full _ c.args.self.now (Err Full) _ c.self.view_is c.requires.says
    (λ e. let t = c.if-used-places.true in let l = c.len-used.ensures.value in let p = c.places.ensures in let most = c.self.invariant.3 in omega arith) (λ e. refl)

pub cell_at-at-requires-clause-side : goal.cell_at-at-requires-clause-side
cell_at-at-requires-clause-side g c =
    side_small _ c.args.self.now c.current_side-side.result (g.F.Flash.state c.args.flash.now).geometry c.self.view_is c.current_side-side.ensures c.requires.place
    (regular (g.F.Flash.state c.args.flash.now).geometry (g.met.F.Flash.lawful c.args.flash.now)).size_most

pub add_cell-requires-clause-regular : goal.add_cell-requires-clause-regular
add_cell-requires-clause-regular g c = regular _ (g.met.F.Flash.lawful c.args.flash.now)

pub add_cell-requires-clause-free : goal.add_cell-requires-clause-free
add_cell-requires-clause-free g c =
    told_free _ c.args.self.now _ c.cell_at-at.result _ _ _ c.self.view_is c.current_side-side.ensures c.len-used.ensures.value c.cell_at-at.ensures.at c.requires.long
    c.self.invariant.2 (let t = c.if-used-places.false in let l = c.len-used.ensures.value in let p = c.places.ensures in omega arith) c.requires.says

pub returns-in-Ok-clause-calls : goal.returns-in-Ok-clause-calls
returns-in-Ok-clause-calls g c =
    appended_Calls _ c.args.self.now c.cell_at-at.result _ _ _ _ _ c.self.view_is c.current_side-side.ensures (omega (arith, c.cell_at-at.ensures.at))
    (cell_inside _ c.args.self.now _ _ _ c.self.view_is c.requires.long c.cell_at-at.ensures.inside) c.in-Ok.ensures.calls

pub returns-in-Err-clause-calls : goal.returns-in-Err-clause-calls
returns-in-Err-clause-calls g c =
    passed_Calls (sides c.args.self.now.place) _ _ c.in-Err.fault _ c.passed_on.ensures
    (appended_Calls _ c.args.self.now c.cell_at-at.result _ _ _ _ _ c.self.view_is c.current_side-side.ensures (omega (arith, c.cell_at-at.ensures.at))
    (cell_inside _ c.args.self.now _ _ _ c.self.view_is c.requires.long c.cell_at-at.ensures.inside) c.in-Err.ensures.calls)

pub returns-in-Ok-clause-same_or_added : goal.returns-in-Ok-clause-same_or_added
returns-in-Ok-clause-same_or_added g c = told_either c.args.self.now c.args.cell.now _ _
    (adds_of _ c.args.self.now c.args.cell.now c.cell_at-at.result _ _ _ _ c.self.view_is c.current_side-side.ensures c.len-used.ensures.value c.cell_at-at.ensures.at c.requires.long c.requires.place.apart
    c.self.invariant.2 (let t = c.if-used-places.false in let l = c.len-used.ensures.value in let p = c.places.ensures in omega arith) c.requires.says c.add_cell.ensures.calls.keeps c.add_cell.ensures.whole)

pub returns-in-Ok-clause-newest : goal.returns-in-Ok-clause-newest
returns-in-Ok-clause-newest g c = told_newest_same c.args.self.now c.args.cell.now _ _
    (adds_of _ c.args.self.now c.args.cell.now c.cell_at-at.result _ _ _ _ c.self.view_is c.current_side-side.ensures c.len-used.ensures.value c.cell_at-at.ensures.at c.requires.long c.requires.place.apart
    c.self.invariant.2 (let t = c.if-used-places.false in let l = c.len-used.ensures.value in let p = c.places.ensures in omega arith) c.requires.says c.add_cell.ensures.calls.keeps c.add_cell.ensures.whole)

pub returns-in-Ok-clause-ages : goal.returns-in-Ok-clause-ages
returns-in-Ok-clause-ages g c = told_ages_same c.args.self.now c.args.cell.now _ _
    (adds_of _ c.args.self.now c.args.cell.now c.cell_at-at.result _ _ _ _ c.self.view_is c.current_side-side.ensures c.len-used.ensures.value c.cell_at-at.ensures.at c.requires.long c.requires.place.apart
    c.self.invariant.2 (let t = c.if-used-places.false in let l = c.len-used.ensures.value in let p = c.places.ensures in omega arith) c.requires.says c.add_cell.ensures.calls.keeps c.add_cell.ensures.whole)

pub returns-in-Err-clause-same_or_added : goal.returns-in-Err-clause-same_or_added
returns-in-Err-clause-same_or_added g c = told_either c.args.self.now c.args.cell.now _ _
    (adds_of _ c.args.self.now c.args.cell.now c.cell_at-at.result _ _ _ _ c.self.view_is c.current_side-side.ensures c.len-used.ensures.value c.cell_at-at.ensures.at c.requires.long c.requires.place.apart
    c.self.invariant.2 (let t = c.if-used-places.false in let l = c.len-used.ensures.value in let p = c.places.ensures in omega arith) c.requires.says c.add_cell.ensures.calls.keeps c.add_cell.ensures.whole)

pub returns-in-Err-clause-newest : goal.returns-in-Err-clause-newest
returns-in-Err-clause-newest g c = told_newest_same c.args.self.now c.args.cell.now _ _
    (adds_of _ c.args.self.now c.args.cell.now c.cell_at-at.result _ _ _ _ c.self.view_is c.current_side-side.ensures c.len-used.ensures.value c.cell_at-at.ensures.at c.requires.long c.requires.place.apart
    c.self.invariant.2 (let t = c.if-used-places.false in let l = c.len-used.ensures.value in let p = c.places.ensures in omega arith) c.requires.says c.add_cell.ensures.calls.keeps c.add_cell.ensures.whole)

pub returns-in-Err-clause-ages : goal.returns-in-Err-clause-ages
returns-in-Err-clause-ages g c = told_ages_same c.args.self.now c.args.cell.now _ _
    (adds_of _ c.args.self.now c.args.cell.now c.cell_at-at.result _ _ _ _ c.self.view_is c.current_side-side.ensures c.len-used.ensures.value c.cell_at-at.ensures.at c.requires.long c.requires.place.apart
    c.self.invariant.2 (let t = c.if-used-places.false in let l = c.len-used.ensures.value in let p = c.places.ensures in omega arith) c.requires.says c.add_cell.ensures.calls.keeps c.add_cell.ensures.whole)

pub returns-in-Ok-clause-added : goal.returns-in-Ok-clause-added
returns-in-Ok-clause-added g c = told_added c.args.self.now c.args.cell.now _ _
    (adds_of _ c.args.self.now c.args.cell.now c.cell_at-at.result _ _ _ _ c.self.view_is c.current_side-side.ensures c.len-used.ensures.value c.cell_at-at.ensures.at c.requires.long c.requires.place.apart
    c.self.invariant.2 (let t = c.if-used-places.false in let l = c.len-used.ensures.value in let p = c.places.ensures in omega arith) c.requires.says c.add_cell.ensures.calls.keeps c.add_cell.ensures.whole)
    (opened_at _ c.args.self.now _ c.cell_at-at.result _ _ _ c.self.view_is c.current_side-side.ensures c.len-used.ensures.value c.cell_at-at.ensures.at c.requires.long c.in-Ok.ensures.stands)

pub returns-in-Ok-clause-says : goal.returns-in-Ok-clause-says
returns-in-Ok-clause-says g c =
    says_opened _ c.args.self.now _ c.push.new.self.items _ c.self.view_is c.push.ensures.items (told_says_more c.args.self.now c.args.cell.now _ _
    (adds_of _ c.args.self.now c.args.cell.now c.cell_at-at.result _ _ _ _ c.self.view_is c.current_side-side.ensures c.len-used.ensures.value c.cell_at-at.ensures.at c.requires.long c.requires.place.apart
    c.self.invariant.2 (let t = c.if-used-places.false in let l = c.len-used.ensures.value in let p = c.places.ensures in omega arith) c.requires.says c.add_cell.ensures.calls.keeps c.add_cell.ensures.whole)
    (opened_at _ c.args.self.now _ c.cell_at-at.result _ _ _ c.self.view_is c.current_side-side.ensures c.len-used.ensures.value c.cell_at-at.ensures.at c.requires.long c.in-Ok.ensures.stands))

pub returns-in-Ok-clause-full_side : goal.returns-in-Ok-clause-full_side
returns-in-Ok-clause-full_side g c =
    told_full _ c.args.self.now (Ok tt) _ c.self.view_is c.requires.says (λ e. absurd (cc e))
    (λ all. absurd (let t = c.if-used-places.false in let l = c.len-used.ensures.value in let p = c.places.ensures in omega arith))

pub returns-in-Err-clause-full_side : goal.returns-in-Err-clause-full_side
returns-in-Err-clause-full_side g c =
    told_full _ c.args.self.now (Err c.passed_on.result) _ c.self.view_is c.requires.says (λ e. absurd (passed_not_full c.in-Err.fault c.passed_on.result c.passed_on.ensures (cc e)))
    (λ all. absurd (let t = c.if-used-places.false in let l = c.len-used.ensures.value in let p = c.places.ensures in omega arith))
