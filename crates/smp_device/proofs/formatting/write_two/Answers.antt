use Rattle.std.proofs.lemmas.Result.{err_from_is_err_and}
use Rattle.std.proofs.lemmas.Result.{on_ok_weaker}
use Rattle.smp_device.proofs.FormattedDevice.{all_calls, all_erased, both_fresh, first_fresh, second_erased, two_calls, two_stand}
use Rattle.smp_device.proofs.FormattedBanks.{two_first}
use Rattle.smp_device.proofs.formatting.write_two.Goals as goal

pub write_image-requires-clause-erased : goal.write_image-requires-clause-erased
write_image-requires-clause-erased g c = all_erased c.args.first.now c.requires.zero _ c.requires.erased

pub write_image-requires-2-clause-erased : goal.write_image-requires-2-clause-erased
write_image-requires-2-clause-erased g c = second_erased c.args.first.now c.args.second.now c.requires.same c.requires.zero c.requires.one _ _ c.requires.erased c.in_ok-write_image.ensures.calls.keeps

pub returns-in_err-write_image-2-clause-calls : goal.returns-in_err-write_image-2-clause-calls
returns-in_err-write_image-2-clause-calls g c =
    let p = err_from_is_err_and c.from_residual-in_err-write_image-2.result c.from_residual-in_err-write_image-2.ensures.1 in
    rw (p.1, p.2) (two_calls c.args.first.now c.args.second.now c.requires.same c.requires.zero c.requires.one c.args.one.now _ _ _ _ c.in_ok-write_image.ensures.calls c.in_err-write_image-2.ensures.calls)

pub write_settings-requires-clause-erased : goal.write_settings-requires-clause-erased
write_settings-requires-clause-erased g c =
    both_fresh c.args.first.now c.args.second.now c.requires.same c.requires.one _ _ (first_fresh c.args.first.now c.requires.zero _ _ c.requires.erased c.in_ok-write_image.ensures.calls.keeps) c.in_ok-write_image-2.ensures.calls.keeps

pub returns-clause-calls : goal.returns-clause-calls
returns-clause-calls g c =
    all_calls c.args.first.now c.args.second.now c.requires.same c.requires.zero c.requires.one c.args.one.now _ _ _ _ _ c.in_ok-write_image.ensures.calls c.in_ok-write_image-2.ensures.calls c.write_settings.ensures.calls

pub returns-clause-stands : goal.returns-clause-stands
returns-clause-stands g c =
    on_ok_weaker c.write_settings.result
    (λ saved. two_stand c.device_laws.ensures c.args.first.now c.args.second.now c.requires.same c.requires.zero c.requires.one c.args.zero.now c.args.one.now _ _ _ c.in_ok-write_image.ensures.stands c.in_ok-write_image-2.ensures.calls.keeps c.in_ok-write_image-2.ensures.stands c.write_settings.ensures.calls.keeps saved)
    c.write_settings.ensures.stands

pub returns-clause-generations : goal.returns-clause-generations
returns-clause-generations g c =
    on_ok_weaker c.write_settings.result
    (λ made. two_first c.device_laws.ensures c.args.first.now c.args.second.now c.requires.same c.requires.zero c.requires.one _ _ _ c.in_ok-write_image.ensures.generation c.in_ok-write_image-2.ensures.calls.keeps c.in_ok-write_image-2.ensures.generation c.write_settings.ensures.calls.keeps made)
    c.write_settings.ensures.generation
