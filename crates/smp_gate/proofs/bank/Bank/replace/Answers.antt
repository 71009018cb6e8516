use Rattle.std.proofs.Common.{refl, ap}
use Rattle.smp_gate.specs.Newest.{sides}
use Rattle.smp_gate.proofs.Renewing.{passed_Calls, side_Calls, side_OldOrNew, side_ages, side_Stands, side_says, side_content, told_newest, side_whole, side_erases, newest_same}
use Rattle.smp_gate.proofs.Contents.{told_content_either}
use Rattle.smp_gate.proofs.bank.Bank.replace.Goals as goal

pub returns-in-Ok-clause-calls : goal.returns-in-Ok-clause-calls
returns-in-Ok-clause-calls g c = side_Calls _ _ _ _ _ _ c.self.view_is c.other_side-at.ensures c.in-Ok.ensures.calls

pub returns-in-Ok-clause-old_or_new : goal.returns-in-Ok-clause-old_or_new
returns-in-Ok-clause-old_or_new g c = side_OldOrNew _ _ _ _ _ _ c.self.view_is c.other_side-at.ensures c.requires.place.apart c.requires.says c.renew.ensures.either

pub returns-in-Ok-clause-ages : goal.returns-in-Ok-clause-ages
returns-in-Ok-clause-ages g c = side_ages _ _ _ c.args.body.now _ _ c.self.view_is c.other_side-at.ensures c.requires.place.apart c.requires.says c.renew.ensures.either

pub returns-in-Ok-clause-says : goal.returns-in-Ok-clause-says
returns-in-Ok-clause-says g c =
    side_says _ _ _ c.args.body.now _ _ c.requires.fits c.self.view_is c.other_side-at.ensures c.requires.place.apart c.requires.says c.in-Ok.ensures.renewed c.in-Ok.ensures.side _ c.clear.ensures

pub returns-in-Ok-clause-newest : goal.returns-in-Ok-clause-newest
returns-in-Ok-clause-newest g c =
    told_newest c.args.self.now.place _ _ c.args.body.now _ (side_Stands _ _ _ _ _ _ c.self.view_is c.other_side-at.ensures c.requires.place.apart c.requires.says c.in-Ok.ensures.renewed)

pub returns-in-Ok-clause-content : goal.returns-in-Ok-clause-content
returns-in-Ok-clause-content g c =
    side_content _ _ _ c.args.body.now _ _ c.requires.fits c.self.view_is c.other_side-at.ensures c.requires.place.apart c.requires.says c.in-Ok.ensures.renewed c.in-Ok.ensures.side

pub returns-in-Ok-clause-same_or_this : goal.returns-in-Ok-clause-same_or_this
returns-in-Ok-clause-same_or_this g c =
    told_content_either _ _ _ c.args.body.now _ _ c.requires.fits c.self.view_is c.other_side-at.ensures c.requires.place.apart c.requires.says c.renew.ensures.either

pub returns-in-Err-clause-same_or_this : goal.returns-in-Err-clause-same_or_this
returns-in-Err-clause-same_or_this g c =
    told_content_either _ _ _ c.args.body.now _ _ c.requires.fits c.self.view_is c.other_side-at.ensures c.requires.place.apart c.requires.says c.renew.ensures.either

pub returns-in-Ok-clause-erases : goal.returns-in-Ok-clause-erases
returns-in-Ok-clause-erases g c = side_erases _ c.args.self.now _ _ 0 _ _ _ _ c.self.view_is c.other_side-at.ensures (ap (λ sizes. sizes.page) c.sizes_of-page.ensures.same) c.in-Ok.ensures.erases

pub returns-in-Err-clause-calls : goal.returns-in-Err-clause-calls
returns-in-Err-clause-calls g c =
    passed_Calls (sides c.args.self.now.place) _ _ c.in-Err.fault _ c.passed_on.ensures (side_Calls _ _ _ _ _ _ c.self.view_is c.other_side-at.ensures c.in-Err.ensures.calls)

pub returns-in-Err-clause-old_or_new : goal.returns-in-Err-clause-old_or_new
returns-in-Err-clause-old_or_new g c = side_OldOrNew _ _ _ _ _ _ c.self.view_is c.other_side-at.ensures c.requires.place.apart c.requires.says c.renew.ensures.either

pub returns-in-Err-clause-ages : goal.returns-in-Err-clause-ages
returns-in-Err-clause-ages g c = side_ages _ _ _ c.args.body.now _ _ c.self.view_is c.other_side-at.ensures c.requires.place.apart c.requires.says c.renew.ensures.either

pub returns-in-Ok-clause-side : goal.returns-in-Ok-clause-side
returns-in-Ok-clause-side g c = side_whole _ _ _ c.args.body.now _ c.self.view_is c.other_side-at.ensures c.in-Ok.ensures.side

pub returns-in-Ok-clause-newest_kept : goal.returns-in-Ok-clause-newest_kept
returns-in-Ok-clause-newest_kept g c = newest_same _ _ _ _ _ c.self.view_is c.other_side-at.ensures c.requires.place.apart c.renew.ensures.calls.keeps

pub returns-in-Err-clause-newest_kept : goal.returns-in-Err-clause-newest_kept
returns-in-Err-clause-newest_kept g c = newest_same _ _ _ _ _ c.self.view_is c.other_side-at.ensures c.requires.place.apart c.renew.ensures.calls.keeps
