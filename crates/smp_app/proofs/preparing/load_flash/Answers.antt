use Rattle.std.proofs.Common.{ap}
use Rattle.std.specs.Prelude.{option_map}
use Rattle.smp_app.proofs.preparing.load_flash.Goals as goal

pub load_images-requires : goal.load_images-requires
load_images-requires g c = c.requires c.in-Some.line.now (ap (option_map (λ l. l.now)) c.in-Some.is)
