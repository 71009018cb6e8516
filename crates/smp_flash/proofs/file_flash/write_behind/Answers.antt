use Rattle.std.proofs.Common.{length}
use Rattle.smp_flash.specs.Area.{spot, Keeps, Holds}
use Rattle.smp_flash.proofs.Behind.{written, written_in_part, holds_keeps, kept_ok, kept_err}
use Rattle.smp_flash.proofs.file_flash.write_behind.Goals as goal

pub returns-in-Ok-clause-ok : goal.returns-in-Ok-clause-ok
returns-in-Ok-clause-ok g c =
    kept_ok (Holds c.args.at c.args.bytes.now) _ _ _ c.keep.result c.keep.ensures.kept
    (written c.args.at c.place.result c.args.bytes.now _ _ c.place.ensures c.in-Ok.ensures.ok)

pub returns-in-Ok-clause-err : goal.returns-in-Ok-clause-err
returns-in-Ok-clause-err g c =
    kept_err (Keeps (spot c.args.at (length c.args.bytes.now))) _ _ _ c.keep.result c.keep.ensures.kept
    (holds_keeps c.args.at c.args.bytes.now _ _ (written c.args.at c.place.result c.args.bytes.now _ _ c.place.ensures c.in-Ok.ensures.ok))

pub returns-in-Err-clause-err : goal.returns-in-Err-clause-err
returns-in-Err-clause-err g c = written_in_part c.args.at c.place.result c.args.bytes.now _ _ c.place.ensures c.in-Err.ensures.err
