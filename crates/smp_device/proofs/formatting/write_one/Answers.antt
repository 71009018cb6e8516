use Rattle.std.proofs.lemmas.Result.{on_ok_weaker}
use Rattle.smp_device.proofs.FormattedDevice.{all_erased, first_fresh, one_calls, one_stands}
use Rattle.smp_device.proofs.FormattedBanks.{one_first}
use Rattle.smp_device.proofs.formatting.write_one.Goals as goal

pub write_image-requires-clause-erased : goal.write_image-requires-clause-erased
write_image-requires-clause-erased g c = all_erased c.args.layout.now c.requires.zero _ c.requires.erased

pub write_settings-requires-clause-erased : goal.write_settings-requires-clause-erased
write_settings-requires-clause-erased g c = first_fresh c.args.layout.now c.requires.zero _ _ c.requires.erased c.in_ok-write_image.ensures.calls.keeps

pub returns-clause-calls : goal.returns-clause-calls
returns-clause-calls g c = one_calls c.args.layout.now c.requires.zero _ _ _ _ c.in_ok-write_image.ensures.calls c.write_settings.ensures.calls

pub returns-clause-stands : goal.returns-clause-stands
returns-clause-stands g c =
    on_ok_weaker c.write_settings.result (λ saved. one_stands c.device_laws.ensures c.args.layout.now c.requires.zero c.requires.one c.args.image.now _ _ c.in_ok-write_image.ensures.stands c.write_settings.ensures.calls.keeps saved) c.write_settings.ensures.stands

pub returns-clause-generations : goal.returns-clause-generations
returns-clause-generations g c =
    on_ok_weaker c.write_settings.result (λ made. one_first c.device_laws.ensures c.args.layout.now c.requires.zero c.requires.one _ _ c.in_ok-write_image.ensures.generation c.write_settings.ensures.calls.keeps made) c.write_settings.ensures.generation
