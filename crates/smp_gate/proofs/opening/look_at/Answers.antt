use Rattle.std.proofs.Common.{◌≡◌, ap, ◌∙◌, sym, arith, length-take}
use Rattle.std.specs.Str.{bytes_eq}
use Rattle.smp_flash.specs.Region.{gate}
use Rattle.std.specs.Prelude.{drop}
use Rattle.smp_gate.proofs.Found.{found_begun}
use Rattle.smp_gate.proofs.opening.look_at.Goals as goal

pub returns-clause-place : goal.returns-clause-place
returns-clause-place g c =
    found_begun c.args.cell c.args.at _ c.read_part.new.into c.ends_in_gate.result _ (let s = c.span.ensures in omega (arith, length-take c.span.result c.args.buffer.now, s, c.requires.room, c.requires.cell)) c.in_ok-read_part.ensures.bytes
    (λ e. cc (sym (c.is_erased.ensures.1 e) ∙ c.if-is_erased.false))
    (c.ends_in_gate.ensures ∙ (λ i. bytes_eq (drop (c.filled.ensures i) c.read_part.new.into) gate))
