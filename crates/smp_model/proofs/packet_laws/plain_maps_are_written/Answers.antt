use Rattle.smp_model.proofs.PlainMaps.{map_has}
use Rattle.smp_model.proofs.packet_laws.plain_maps_are_written.Goals as goal

pub returns : goal.returns
returns c = map_has
