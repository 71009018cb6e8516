use Rattle.smp_cbor.proofs.CutAtFault.{sound_front}
use Rattle.smp_cbor.proofs.laws.front_is_sound.Goals as goal

pub returns : goal.returns
returns c = sound_front c.args._bytes.now
