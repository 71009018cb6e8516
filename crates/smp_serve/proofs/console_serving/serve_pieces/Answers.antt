use Rattle.std.proofs.Common.{◌≡◌, ◌≤◌, length, take, refl, ◌∙◌, arith}
use Rattle.smp_serve.specs.Consoles.{most_pieces}
use Rattle.smp_serve.specs.Sessions.{point}
use Rattle.smp_serve.proofs.ConsoleTurns.{piece_length, pieces_begin, pieces_more, pieces_spent, pieces_stop, takes_some}
use Rattle.smp_serve.proofs.console_serving.serve_pieces.Goals as goal

pub pieces-init : goal.pieces-init
pieces-init g c = record {
  goes = pieces_begin c.args.receiver.now (point c.args.device.now (g.F.Flash.state c.args.flash.now)) (g.I.Source.left c.args.input.now) (g.O.Sink.written c.args.out.now) c.requires.fresh;
  up = c.requires.up;
  places = refl;
  sizes = refl;
  says = c.requires.says;
  read = refl;
  write = refl;
  room = c.requires.room;
}

pub pieces-preserved : goal.pieces-preserved
pieces-preserved g c =
    let size : length c.take_piece.new.piece ≡ 512 = omega arith in
    let t = takes_some c.take_piece.new.piece (g.I.Source.left c.pieces.input) (g.I.Source.left c.take_piece.new.input) c.in-Ok-Some.field-0 c.in-Ok-Some.n c.in-Ok-Some.field-0-is c.in-Ok-Some.ensures.taken in
    let long : length (take c.in-Ok-Some.n c.take_piece.new.piece) ≡ c.in-Ok-Some.n = piece_length c.take_piece.new.piece c.in-Ok-Some.n size t.1 in
    let some : 1 ≤ length (take c.in-Ok-Some.n c.take_piece.new.piece) = rw long t.0 in
    let fits : length (take c.in-Ok-Some.n c.take_piece.new.piece) ≤ 512 = rw long t.1 in
    record {
      goes = pieces_more c.pieces._count (take c.in-Ok-Some.n c.take_piece.new.piece) c.pieces.receiver c.serve_piece.new.receiver (point c.args.device.now (g.F.Flash.state c.args.flash.now)) (point c.pieces.device (g.F.Flash.state c.pieces.flash)) (point c.serve_piece.new.device (g.F.Flash.state c.serve_piece.new.flash)) (g.I.Source.left c.args.input.now) (g.I.Source.left c.pieces.input) (g.I.Source.left c.take_piece.new.input) (g.O.Sink.written c.args.out.now) (g.O.Sink.written c.pieces.out) (g.O.Sink.written c.serve_piece.new.out)
          c.pieces.invariant.goes some fits t.2 c.in-Ok.ensures.serves;
      up = c.in-Ok.ensures.up;
      places = c.serve_piece.ensures.places ∙ c.pieces.invariant.places;
      sizes = c.serve_piece.ensures.sizes ∙ c.pieces.invariant.sizes;
      says = c.serve_piece.ensures.says;
      read = c.in-Ok-Some.ensures.cause.kept ∙ c.pieces.invariant.read;
      write = c.in-Ok.ensures.cause ∙ c.pieces.invariant.write;
      room = size;
    }

pub returns-in-Err-serve_piece-clause-serves : goal.returns-in-Err-serve_piece-clause-serves
returns-in-Err-serve_piece-clause-serves g c =
    let size : length c.take_piece.new.piece ≡ 512 = omega arith in
    let t = takes_some c.take_piece.new.piece (g.I.Source.left c.pieces.input) (g.I.Source.left c.take_piece.new.input) c.in-Ok-Some.field-0 c.in-Ok-Some.n c.in-Ok-Some.field-0-is c.in-Ok-Some.ensures.taken in
    let long : length (take c.in-Ok-Some.n c.take_piece.new.piece) ≡ c.in-Ok-Some.n = piece_length c.take_piece.new.piece c.in-Ok-Some.n size t.1 in
    let some : 1 ≤ length (take c.in-Ok-Some.n c.take_piece.new.piece) = rw long t.0 in
    let fits : length (take c.in-Ok-Some.n c.take_piece.new.piece) ≤ 512 = rw long t.1 in
    pieces_stop c.pieces._count (take c.in-Ok-Some.n c.take_piece.new.piece) c.in-Err-serve_piece.fault c.pieces.receiver c.serve_piece.new.receiver (point c.args.device.now (g.F.Flash.state c.args.flash.now)) (point c.pieces.device (g.F.Flash.state c.pieces.flash)) (point c.serve_piece.new.device (g.F.Flash.state c.serve_piece.new.flash)) (g.I.Source.left c.args.input.now) (g.I.Source.left c.pieces.input) (g.I.Source.left c.take_piece.new.input) (g.O.Sink.written c.args.out.now) (g.O.Sink.written c.pieces.out) (g.O.Sink.written c.serve_piece.new.out)
    c.pieces-test.true c.pieces.invariant.goes some fits t.2 c.in-Err-serve_piece.ensures.stopped c.in-Err-serve_piece.ensures.serves

pub returns-in-Ok-Some-take_piece-clause-serves : goal.returns-in-Ok-Some-take_piece-clause-serves
returns-in-Ok-Some-take_piece-clause-serves g c =
    let size : length c.take_piece-2.new.piece ≡ 512 = omega arith in
    let t = takes_some c.take_piece-2.new.piece (g.I.Source.left c.pieces.input) (g.I.Source.left c.take_piece-2.new.input) c.in-Ok-Some-take_piece.field-0 c.in-Ok-Some-take_piece.field-0-0 c.in-Ok-Some-take_piece.field-0-is c.in-Ok-Some-take_piece.ensures.taken in
    let long : length (take c.in-Ok-Some-take_piece.field-0-0 c.take_piece-2.new.piece) ≡ c.in-Ok-Some-take_piece.field-0-0 = piece_length c.take_piece-2.new.piece c.in-Ok-Some-take_piece.field-0-0 size t.1 in
    let some : 1 ≤ length (take c.in-Ok-Some-take_piece.field-0-0 c.take_piece-2.new.piece) = rw long t.0 in
    let fits : length (take c.in-Ok-Some-take_piece.field-0-0 c.take_piece-2.new.piece) ≤ 512 = rw long t.1 in
    let all : c.pieces._count ≡ most_pieces = omega arith in
    pieces_spent c.pieces._count c.pieces.receiver (take c.in-Ok-Some-take_piece.field-0-0 c.take_piece-2.new.piece) (point c.args.device.now (g.F.Flash.state c.args.flash.now)) (point c.pieces.device (g.F.Flash.state c.pieces.flash)) (g.I.Source.left c.args.input.now) (g.I.Source.left c.pieces.input) (g.I.Source.left c.take_piece-2.new.input)
    (g.O.Sink.written c.args.out.now) (g.O.Sink.written c.pieces.out) all c.pieces.invariant.goes some fits t.2
