use Rattle.std.proofs.Common.{refl}
use Rattle.smp_upload.specs.States.{known_whole}
use Rattle.smp_upload.proofs.Begun.{free_of}
use Rattle.smp_upload.proofs.states.Whole.choose.Goals as goal

pub begin-requires-clause-free : goal.begin-requires-clause-free
begin-requires-clause-free g c = free_of (known_whole c.args.self) _ refl c.requires.says
