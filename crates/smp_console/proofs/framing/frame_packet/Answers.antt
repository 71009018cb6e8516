use Rattle.std.proofs.Common.{◌≡◌, ◌*◌, ◌==◌, ◌/◌, take, drop, ap, subst, ◌∙◌, ◌+◌, length, List, ℕ, Option, true}
use Rattle.std.specs.Io.KnownBytes.{append_known}
use Rattle.smp_edge.specs.Sink.{AppendsFront}
use Rattle.smp_line.specs.Line.{text_line}
use Rattle.smp_console.specs.Framing.{sent_bytes, pieces_of, text_of_pieces}
use Rattle.smp_console.proofs.Putting.{put_more, put_all, put_front, piece_of_sent, count_of_sent}
use Rattle.smp_console.proofs.framing.frame_packet.Goals as goal

pub returns-in_err-put_line-clause-front : goal.returns-in_err-put_line-clause-front
returns-in_err-put_line-clause-front g c =
    let packet : List ℕ = c.args.packet.now in
    let old : Option (List ℕ) = g.O.Sink.written c.args.out.now in
    let now : Option (List ℕ) = g.O.Sink.written c.put_line.new.out in
    let mid : Option (List ℕ) = g.O.Sink.written c.loop-i.out in
    let piece = piece_of_sent packet c.to_be_bytes-number.result c.to_be_bytes-crc.result c.fill.new.piece.items c.as_slice.result.now c.crc16.result c.loop-i.i
    c.to_be_bytes-number.ensures c.to_be_bytes-crc.ensures c.crc16.ensures.value c.fill.ensures c.as_slice.ensures.value in
    let line : AppendsFront mid now (text_line (c.loop-i.i == 0) (take 93 (drop (93 * c.loop-i.i) (sent_bytes packet)))) =
    subst (λ (p : List ℕ). AppendsFront mid now (text_line (c.loop-i.i == 0) p)) piece c.in_err-put_line.ensures.front in
    subst (λ (n : ℕ). AppendsFront old now (text_of_pieces true (pieces_of n (sent_bytes packet)))) (count_of_sent packet)
    (put_front old mid now (g.O.Sink.faults c.loop-i.out) (g.O.Sink.faults c.args.out.now) ((length packet + 96) / 93) (sent_bytes packet) c.loop-i.i c.loop-i.invariant c.loop-i-test.true line)

pub loop-i-preserved : goal.loop-i-preserved
loop-i-preserved g c =
    let packet : List ℕ = c.args.packet.now in
    let piece = piece_of_sent packet c.to_be_bytes-number.result c.to_be_bytes-crc.result c.fill.new.piece.items c.as_slice.result.now c.crc16.result c.loop-i.i
    c.to_be_bytes-number.ensures c.to_be_bytes-crc.ensures c.crc16.ensures.value c.fill.ensures c.as_slice.ensures.value in
    put_more (g.O.Sink.written c.args.out.now) (g.O.Sink.written c.loop-i.out) (g.O.Sink.written c.put_line.new.out)
    (g.O.Sink.faults c.loop-i.out) (g.O.Sink.faults c.put_line.new.out) (g.O.Sink.faults c.args.out.now) ((length packet + 96) / 93) (sent_bytes packet) c.loop-i.i
    c.loop-i.invariant c.loop-i-test.true
    (c.in_ok-put_line.ensures.all ∙ ap (λ (p : List ℕ). append_known (g.O.Sink.written c.loop-i.out) (text_line (c.loop-i.i == 0) p)) piece)
    c.in_ok-put_line.ensures.cause.kept

pub returns-clause-all : goal.returns-clause-all
returns-clause-all g c =
    let packet : List ℕ = c.args.packet.now in
    let old : Option (List ℕ) = g.O.Sink.written c.args.out.now in
    subst (λ (n : ℕ). g.O.Sink.written c.loop-i.out ≡ append_known old (text_of_pieces true (pieces_of n (sent_bytes packet)))) (count_of_sent packet)
    (put_all old (g.O.Sink.written c.loop-i.out) (g.O.Sink.faults c.loop-i.out) (g.O.Sink.faults c.args.out.now) ((length packet + 96) / 93) (sent_bytes packet) c.loop-i.i
    c.loop-i.invariant c.loop-i-test.false)
