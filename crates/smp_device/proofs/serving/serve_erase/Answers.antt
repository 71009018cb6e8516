use Rattle.std.proofs.Common.{refl}
use Rattle.smp_model.specs.Meant as meant
use Rattle.smp_device.specs.Up.{up_of}
use Rattle.smp_device.specs.Uploads.{sizes_of}
use Rattle.smp_device.proofs.Nearer.{images_idle}
use Rattle.smp_device.proofs.ServingImages.{images_fit, images_served}
use Rattle.smp_device.proofs.serving.serve_erase.Goals as goal

pub returns-clause-serves : goal.returns-clause-serves
returns-clause-serves g c = λ settings files counters for says.
    images_served c.device_laws.ensures (g.F.Flash.state c.args.flash.now).geometry (meant.erase c.args.slot) tt (up_of c.args.images settings files counters) c.erase.result.images c.erase.result.result (g.F.Flash.state c.args.flash.now) (g.F.Flash.state c.erase.new.flash) for says c.erase.ensures.answers
    (images_idle (sizes_of (g.F.Flash.state c.args.flash.now).geometry) (meant.erase c.args.slot) (up_of c.args.images settings files counters) (up_of c.erase.result.images settings files counters) c.erase.result (g.F.Flash.state c.args.flash.now) (g.F.Flash.state c.erase.new.flash) refl c.erase.ensures.untouched) c.erase.ensures.mounts c.erase.ensures.erased

pub returns-clause-fits : goal.returns-clause-fits
returns-clause-fits g c = images_fit c.erase.result.result c.erase.ensures.answer
