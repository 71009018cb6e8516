use Rattle.smp_flash.proofs.Behind.{head_written, head_in_part}
use Rattle.smp_flash.proofs.Heads.{head_short}
use Rattle.smp_flash.proofs.file_flash.put_head.Goals as goal

pub returns-in-Ok-clause-kept : goal.returns-in-Ok-clause-kept
returns-in-Ok-clause-kept g c =
    head_written c.head_of.result _ _ _ _ c.sync.ensures.kept (head_short _ c.args.geometry c.head_of.ensures) c.requires.size c.in-Ok.ensures.ok c.sync-in-Ok.ensures.kept

pub returns-in-Err-clause-kept : goal.returns-in-Err-clause-kept
returns-in-Err-clause-kept g c =
    head_in_part c.head_of.result _ _ _ c.sync.ensures.kept (head_short _ c.args.geometry c.head_of.ensures) c.requires.size c.in-Err.ensures.err
