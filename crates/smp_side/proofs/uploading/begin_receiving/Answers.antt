use Rattle.std.proofs.Common.{arith}
use Rattle.smp_flash.specs.Layout.{geometry_of}
use Rattle.smp_flash.proofs.Passing.{reads_add, reads_more}
use Rattle.smp_upload.specs.States.{known_receiving}
use Rattle.smp_upload.specs.declared.states.Mounted.TheVariants as mounts
use Rattle.smp_side.proofs.Answering.{caused_by, readable_says}
use Rattle.smp_side.proofs.Parting.{begin_refused, begin_chosen, begin_lost}
use Rattle.smp_side.proofs.uploading.begin_receiving.Goals as goal

pub returns-then-bytes-announcement-clause-answers : goal.returns-then-bytes-announcement-clause-answers
returns-then-bytes-announcement-clause-answers g c =
    begin_refused c.sides_are_told_apart.ensures (mounts.Receiving c.args.state) c.args.announcement.now (geometry_of c.args.state.layout).unit c.args.bytes.now c.refuses.result (g.F.Flash.state c.args.flash.now) c.if-bytes-announcement.true c.refuses.ensures c.requires.says

pub returns-in-Ok-clause-answers : goal.returns-in-Ok-clause-answers
returns-in-Ok-clause-answers g c =
    begin_chosen c.args.state.layout c.in-Ok.receiving.layout c.args.announcement.now c.args.bytes.now c.part.result (g.F.Flash.state c.args.flash.now) (g.F.Flash.state c.choose.new.flash) (g.F.Flash.state c.part.new.flash)
    c.if-bytes-announcement.false (c.in-Ok.ensures.chosen).0 c.in-Ok.ensures.done c.part.ensures.answers

pub returns-in-Err-clause-answers : goal.returns-in-Err-clause-answers
returns-in-Err-clause-answers g c =
    begin_lost c.args.state.layout c.args.announcement.now c.args.bytes.now c.in-Err.fault c.lost.result (g.F.Flash.state c.args.flash.now) (g.F.Flash.state c.choose.new.flash)
    c.if-bytes-announcement.false c.in-Err.ensures.lost c.lost.ensures c.in-Err.ensures.moved (readable_says (known_receiving c.args.state) (g.F.Flash.state c.args.flash.now).bytes c.requires.says)
    (caused_by c.bank_says_what_stands.ensures.generation (known_receiving c.args.state) 1 3 c.in-Err.fault.fault (g.F.Flash.state c.args.flash.now).bytes c.requires.says c.in-Err.ensures.formatted c.in-Err.ensures.worn (omega arith))

pub returns-in-Ok-clause-reads : goal.returns-in-Ok-clause-reads
returns-in-Ok-clause-reads g c = λ small.
    reads_add 4096 200000 (g.F.Flash.state c.args.flash.now).bytes_read (g.F.Flash.state c.choose.new.flash).bytes_read (g.F.Flash.state c.part.new.flash).bytes_read c.in-Ok.ensures.reads (c.part.ensures.reads small)

pub returns-in-Err-clause-reads : goal.returns-in-Err-clause-reads
returns-in-Err-clause-reads g c = λ small.
    reads_more 4096 204096 (g.F.Flash.state c.args.flash.now).bytes_read (g.F.Flash.state c.choose.new.flash).bytes_read (omega arith) c.in-Err.ensures.reads
