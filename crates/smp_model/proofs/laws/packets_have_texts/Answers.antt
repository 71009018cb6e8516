use Rattle.smp_model.proofs.PacketTexts.{meaning_texts}
use Rattle.smp_model.proofs.laws.packets_have_texts.Goals as goal

pub returns : goal.returns
returns c = meaning_texts
