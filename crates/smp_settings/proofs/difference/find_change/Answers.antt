use Rattle.std.proofs.Common.{subst, List}
use Rattle.smp_model.specs.declared.setting.Setting.{Setting}
use Rattle.smp_settings.specs.Changes.{change_said}
use Rattle.smp_settings.specs.Places.{CommonFront}
use Rattle.smp_settings.proofs.Differing.{found_change, found_lawful, no_change, some_weaker, differs_at}
use Rattle.smp_settings.proofs.difference.find_change.Goals as goal

pub returns-clause-found : goal.returns-clause-found
returns-clause-found c =
    let at = c.common_front-at.result in
    let front : CommonFront at c.args.saved.now c.args.running.now = subst (CommonFront at c.args.saved.now) c.as_slice-other.ensures.value (subst (λ (xs : List Setting). CommonFront at xs c.as_slice-other.result.now) c.as_slice-one.ensures.value c.common_front-at.ensures) in
    some_weaker c.first_change.result _ _
    (λ x d. found_change at c.args.saved.now c.args.running.now (change_said x) c.requires.saved c.requires.running c.requires.differ front
    ((differs_at (change_said x) at c.as_slice-one.result.now c.as_slice-other.result.now c.args.saved.now c.args.running.now c.as_slice-one.ensures.value c.as_slice-other.ensures.value).0 d)) c.first_change.ensures.found

pub returns-clause-lawful : goal.returns-clause-lawful
returns-clause-lawful c =
    let at = c.common_front-at.result in
    let front : CommonFront at c.args.saved.now c.args.running.now = subst (CommonFront at c.args.saved.now) c.as_slice-other.ensures.value (subst (λ (xs : List Setting). CommonFront at xs c.as_slice-other.result.now) c.as_slice-one.ensures.value c.common_front-at.ensures) in
    some_weaker c.first_change.result _ _
    (λ x d. found_lawful at c.args.saved.now c.args.running.now (change_said x) c.requires.saved c.requires.running front
    ((differs_at (change_said x) at c.as_slice-one.result.now c.as_slice-other.result.now c.args.saved.now c.args.running.now c.as_slice-one.ensures.value c.as_slice-other.ensures.value).0 d)) c.first_change.ensures.found

pub returns-clause-none : goal.returns-clause-none
returns-clause-none c = λ none change is.
    let at = c.common_front-at.result in
    let front : CommonFront at c.args.saved.now c.args.running.now = subst (CommonFront at c.args.saved.now) c.as_slice-other.ensures.value (subst (λ (xs : List Setting). CommonFront at xs c.as_slice-other.result.now) c.as_slice-one.ensures.value c.common_front-at.ensures) in
    no_change at c.args.saved.now c.args.running.now change c.requires.saved front
    (λ d. c.first_change.ensures.none none change
    ((differs_at change at c.as_slice-one.result.now c.as_slice-other.result.now c.args.saved.now c.args.running.now c.as_slice-one.ensures.value c.as_slice-other.ensures.value).1 d)) is
