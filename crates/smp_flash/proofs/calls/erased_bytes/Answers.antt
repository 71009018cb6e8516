use Rattle.std.proofs.lemmas.List.{take-replicate}
use Rattle.smp_flash.proofs.calls.erased_bytes.Goals as goal

pub returns : goal.returns
returns c = take-replicate c.args.size 4096 255 c.requires
