use Rattle.smp_model.proofs.PlainMaps.{key_text}
use Rattle.smp_model.proofs.packet_laws.keys_are_texts.Goals as goal

pub returns : goal.returns
returns c = key_text
