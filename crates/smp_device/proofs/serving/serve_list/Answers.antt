use Rattle.smp_model.specs.Meant as meant
use Rattle.smp_device.specs.Up.{up_of}
use Rattle.smp_device.proofs.ServingImages.{images_fit, images_served}
use Rattle.smp_device.proofs.serving.serve_list.Goals as goal

pub returns-clause-serves : goal.returns-clause-serves
returns-clause-serves g c = λ settings files counters for says.
    images_served c.device_laws.ensures (g.F.Flash.state c.args.flash.now).geometry (meant.image_list) tt (up_of c.args.images settings files counters) c.list.result.images c.list.result.result (g.F.Flash.state c.args.flash.now) (g.F.Flash.state c.list.new.flash) for says c.list.ensures.answers
    (λ d has images saved. absurd (cc images)) c.list.ensures.mounts tt

pub returns-clause-fits : goal.returns-clause-fits
returns-clause-fits g c = images_fit c.list.result.result c.list.ensures.answer
