use Rattle.std.proofs.Common.{ap, refl, sym, ◌∙◌, take, ◌++◌}
use Rattle.smp_console.specs.Receiving.{Received}
use Rattle.smp_console.proofs.Reading.{front_ends}
use Rattle.smp_console.proofs.receiving.Receiver.end_line.Goals as goal

pub returns : goal.returns
returns c =
    let view = c.self.view_is in
    front_ends c.front_tells_content.ensures c.args.self.now _ c.self.inside.gathering c.take_line-found.new.self c.as_slice.result.now c.args.text.now c.take_line-found.result
    (sym (ap (λ (r : Received). r.collected) view)) (sym (ap (λ (r : Received). r.packet) view)) c.clear.ensures refl refl
    (c.as_slice.ensures.value ∙ c.keep.ensures ∙ ap (λ (r : Received). take 516 (r.line ++ c.args.text.now)) view)
    c.take_line-found.ensures
