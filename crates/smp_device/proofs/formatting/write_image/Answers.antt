use Rattle.std.proofs.Common.{arith, refl, ap}
use Rattle.smp_device.proofs.FormattedSide.{put_calls, made_calls, told_fresh, told_side}
use Rattle.smp_device.proofs.FormattedBanks.{record_first}
use Rattle.smp_device.proofs.formatting.write_image.Goals as goal

pub returns-in-Err-clause-calls : goal.returns-in-Err-clause-calls
returns-in-Err-clause-calls g c =
    put_calls c.args.layout.now _ c.slot.result.at _ _ _ _ _ (ap (λ k. k.page) c.requires.sizes) (ap (λ s. s.at) c.slot.ensures) c.requires.fits.short c.of_call.ensures.ends c.in-Err.ensures.calls

pub make-requires-clause-erased : goal.make-requires-clause-erased
make-requires-clause-erased g c =
    told_fresh c.args.layout.now _ c.slot.result.at _ _ _ (ap (λ k. k.page) c.requires.sizes) (ap (λ s. s.at) c.slot.ensures) c.requires.fits.short c.requires.erased c.put.ensures.calls.keeps

pub returns-in-Ok-make-clause-calls : goal.returns-in-Ok-make-clause-calls
returns-in-Ok-make-clause-calls g c =
    made_calls c.args.layout.now _ c.slot.result.at _ _ _ _ _ _ (ap (λ k. k.page) c.requires.sizes) (ap (λ s. s.at) c.slot.ensures) c.requires.fits.short refl c.in-Ok.ensures.calls c.in-Ok-make.ensures.calls

pub returns-in-Ok-make-clause-stands : goal.returns-in-Ok-make-clause-stands
returns-in-Ok-make-clause-stands g c =
    told_side c.images_end.ensures.good c.args.layout.now c.in-Ok-make.field-0 _ c.slot.result.at _ c.args.image.now _ _ _ (ap (λ k. k.page) c.requires.sizes) (ap (λ p. p.layout) c.in-Ok-make.ensures.made) (ap (λ p. p.entry) c.in-Ok-make.ensures.made)
    (ap (λ s. s.at) c.slot.ensures) refl (λ i. let h = c.type_inv.image i in omega (arith, h)) c.requires.fits c.requires.erased c.in-Ok.ensures.ok c.make.ensures.calls.keeps c.in-Ok-make.ensures.says

pub returns-in-Err-make-clause-calls : goal.returns-in-Err-make-clause-calls
returns-in-Err-make-clause-calls g c =
    made_calls c.args.layout.now _ c.slot.result.at _ _ _ _ _ _ (ap (λ k. k.page) c.requires.sizes) (ap (λ s. s.at) c.slot.ensures) c.requires.fits.short c.of_making.ensures.ends c.in-Ok.ensures.calls c.in-Err-make.ensures.calls

pub returns-in-Ok-make-clause-generation : goal.returns-in-Ok-make-clause-generation
returns-in-Ok-make-clause-generation g c = record_first c.bank_says_what_stands.ensures.generation c.args.layout.now c.in-Ok-make.field-0 _ c.in-Ok-make.ensures.made c.in-Ok-make.ensures.says
