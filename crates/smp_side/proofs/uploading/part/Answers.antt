use Rattle.std.proofs.Common.{refl, arith}
use Rattle.smp_flash.specs.Layout.{geometry_of}
use Rattle.smp_upload.specs.Needs.{chunk_records}
use Rattle.smp_upload.specs.States.{known_receiving}
use Rattle.smp_upload.specs.declared.states.Mounted.TheVariants as mounts
use Rattle.smp_side.proofs.Answering.{caused_by, readable_says}
use Rattle.smp_side.proofs.Parting.{chunk_least, part_refused, part_stored, lost_Answers, parting, parts_fine}
use Rattle.smp_side.proofs.uploading.part.Goals as goal

pub returns-then-bytes-length-clause-answers : goal.returns-then-bytes-length-clause-answers
returns-then-bytes-length-clause-answers g c =
    let below = c.args.state.below in
    let past = c.if-bytes-length.true in
    part_refused c.sides_are_told_apart.ensures (mounts.Receiving c.args.state) c.args.state.announcement c.args.state.offset (geometry_of c.args.state.layout).unit c.args.bytes.now c.refuses.result (g.F.Flash.state c.args.flash.now) refl (omega (arith, below, past)) c.refuses.ensures c.requires.says

pub returns-in-Ok-clause-answers : goal.returns-in-Ok-clause-answers
returns-in-Ok-clause-answers g c =
    part_stored c.args.state.layout 2 c.args.state.announcement.length (geometry_of c.args.state.layout).unit c.args.bytes.now c.in-Ok.chunked c.mounted_from.result c.reply_of-reply.result c.said.result (g.F.Flash.state c.args.flash.now) (g.F.Flash.state c.chunk.new.flash)
    c.mounted_from.ensures c.reply_of-reply.ensures c.said.ensures c.in-Ok.ensures.layout c.in-Ok.ensures.done c.in-Ok.ensures.says c.in-Ok.ensures.said

pub returns-in-Err-clause-answers : goal.returns-in-Err-clause-answers
returns-in-Err-clause-answers g c =
    lost_Answers c.args.state.layout 2 (parting (geometry_of c.args.state.layout).unit c.args.bytes.now) c.in-Err.fault c.lost.result (g.F.Flash.state c.args.flash.now) (g.F.Flash.state c.chunk.new.flash)
    c.in-Err.ensures.lost c.lost.ensures c.in-Err.ensures.moved (readable_says (known_receiving c.args.state) (g.F.Flash.state c.args.flash.now).bytes c.requires.says)
    (caused_by c.bank_says_what_stands.ensures.generation (known_receiving c.args.state) (chunk_records (geometry_of c.args.state.layout).unit (record { announcement = c.args.state.announcement; offset = c.args.state.offset }) c.args.bytes.now) 2 c.in-Err.fault.fault (g.F.Flash.state c.args.flash.now).bytes c.requires.says c.in-Err.ensures.formatted c.in-Err.ensures.worn
    (chunk_least (geometry_of c.args.state.layout).unit (record { announcement = c.args.state.announcement; offset = c.args.state.offset }) c.args.bytes.now))
    (let below = c.args.state.below in let fits = c.if-bytes-length.false in
    parts_fine c.sides_are_told_apart.ensures (known_receiving c.args.state) c.args.state.announcement c.args.state.offset (geometry_of c.args.state.layout).unit c.args.bytes.now (g.F.Flash.state c.args.flash.now).bytes refl (omega (arith, below, fits)) c.requires.says)
