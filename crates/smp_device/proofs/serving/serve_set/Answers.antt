use Rattle.std.proofs.Common.{refl}
use Rattle.std.specs.Prelude.{option_map}
use Rattle.smp_model.specs.Meant as meant
use Rattle.smp_device.specs.Up.{up_of}
use Rattle.smp_device.specs.Uploads.{sizes_of}
use Rattle.smp_device.proofs.Nearer.{images_idle}
use Rattle.smp_device.proofs.ServingImages.{images_fit, images_served}
use Rattle.smp_device.proofs.serving.serve_set.Goals as goal

pub returns-clause-serves : goal.returns-clause-serves
returns-clause-serves g c = λ settings files counters for says.
    images_served c.device_laws.ensures (g.F.Flash.state c.args.flash.now).geometry (meant.image_set (option_map (λ h. h.now) c.args.hash) c.args.confirm) tt (up_of c.args.images settings files counters) c.set.result.images c.set.result.result (g.F.Flash.state c.args.flash.now) (g.F.Flash.state c.set.new.flash) for says c.set.ensures.answers
    (images_idle (sizes_of (g.F.Flash.state c.args.flash.now).geometry) (meant.image_set (option_map (λ h. h.now) c.args.hash) c.args.confirm) (up_of c.args.images settings files counters) (up_of c.set.result.images settings files counters) c.set.result (g.F.Flash.state c.args.flash.now) (g.F.Flash.state c.set.new.flash) refl c.set.ensures.untouched) c.set.ensures.mounts tt

pub returns-clause-fits : goal.returns-clause-fits
returns-clause-fits g c = images_fit c.set.result.result c.set.ensures.answer
