use Rattle.smp_model.proofs.PacketAgain.{packet_again}
use Rattle.smp_model.proofs.packet_laws.packets_are_read_back.Goals as goal

pub returns : goal.returns
returns c = packet_again
