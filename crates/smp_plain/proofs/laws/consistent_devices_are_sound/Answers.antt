use Rattle.smp_plain.proofs.SoundDevices.{consistent_sound}
use Rattle.smp_plain.proofs.laws.consistent_devices_are_sound.Goals as goal

pub returns : goal.returns
returns c = consistent_sound
