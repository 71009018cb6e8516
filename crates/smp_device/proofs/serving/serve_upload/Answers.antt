use Rattle.std.proofs.Common.{refl}
use Rattle.std.specs.Prelude.{option_map}
use Rattle.smp_model.specs.Meant as meant
use Rattle.smp_device.specs.Up.{up_of}
use Rattle.smp_device.specs.Uploads.{sizes_of}
use Rattle.smp_device.proofs.Nearer.{images_idle}
use Rattle.smp_device.proofs.ServingImages.{images_fit, images_served}
use Rattle.smp_device.proofs.serving.serve_upload.Goals as goal

pub returns-clause-serves : goal.returns-clause-serves
returns-clause-serves g c = λ settings files counters for says.
    images_served c.device_laws.ensures (g.F.Flash.state c.args.flash.now).geometry (meant.upload c.args.part.now.image c.args.part.now.len c.args.part.now.off (option_map (λ s. s.now) c.args.part.now.sha) c.args.part.now.bytes.now) tt (up_of c.args.images settings files counters) c.upload.result.images c.upload.result.result (g.F.Flash.state c.args.flash.now) (g.F.Flash.state c.upload.new.flash) for says c.upload.ensures.answers
    (images_idle (sizes_of (g.F.Flash.state c.args.flash.now).geometry) (meant.upload c.args.part.now.image c.args.part.now.len c.args.part.now.off (option_map (λ s. s.now) c.args.part.now.sha) c.args.part.now.bytes.now) (up_of c.args.images settings files counters) (up_of c.upload.result.images settings files counters) c.upload.result (g.F.Flash.state c.args.flash.now) (g.F.Flash.state c.upload.new.flash) refl c.upload.ensures.untouched) c.upload.ensures.mounts tt

pub returns-clause-fits : goal.returns-clause-fits
returns-clause-fits g c = images_fit c.upload.result.result c.upload.ensures.answer
