use Rattle.std.proofs.Common.{ap, ◌∙◌, take, ◌++◌}
use Rattle.smp_console.specs.Receiving.{Received}
use Rattle.smp_console.proofs.Reading.{goes_nowhere, goes_on, finds, ends_piece}
use Rattle.smp_console.proofs.receiving.Receiver.feed.Goals as goal

pub lines-init : goal.lines-init
lines-init c = goes_nowhere c.args.self.now c.args.piece.now

pub lines-preserved : goal.lines-preserved
lines-preserved c =
    goes_on c.front_tells_content.ensures c.args.self.now c.lines.self c.end_line.new.self c.args.piece.now c.lines.rest.now c.in-Some.text.now c.in-Some.after.now c.end_line.result
    c.lines.invariant c.in-Some.ensures c.end_line.ensures c.if-end_line.false

pub returns-then-end_line : goal.returns-then-end_line
returns-then-end_line c =
    finds c.front_tells_content.ensures c.args.self.now c.lines.self c.end_line.new.self c.args.piece.now c.lines.rest.now c.in-Some.text.now c.in-Some.after.now c.end_line.result
    c.lines.invariant c.in-Some.ensures c.end_line.ensures c.if-end_line.true

pub returns : goal.returns
returns c =
    let view = c.self.view_is in
    ends_piece c.args.self.now c.lines.self _ c.args.piece.now c.lines.rest.now c.lines.invariant c.in_default.ensures
    (c.keep.ensures ∙ ap (λ (r : Received). take 516 (r.line ++ c.lines.rest.now)) view)
    (ap (λ (r : Received). r.collected) view) (ap (λ (r : Received). r.packet) view)
