use Rattle.std.proofs.Common.{refl}
use Rattle.smp_flash.specs.Memory.{told_by}
use Rattle.smp_device.proofs.Strikes.{is_telling, is_told, memory_told}
use Rattle.smp_device.proofs.arming.arms_are_told.Goals as goal

pub returns-clause-told : goal.returns-clause-told
returns-clause-told c = is_told

pub returns-clause-telling : goal.returns-clause-telling
returns-clause-telling c = is_telling

pub returns-clause-memory : goal.returns-clause-memory
returns-clause-memory c = λ m. memory_told m.arm (told_by m) refl refl refl
