use Rattle.std.proofs.Common.{ap, ◌∙◌, ◌≡◌}
use Rattle.smp_flash.specs.Area.{area}
use Rattle.smp_gate.specs.Head.{head_in}
use Rattle.smp_flash.proofs.Telling.{IfSome-map}
use Rattle.smp_gate.proofs.head.look.Goals as goal

pub returns-clause-head : goal.returns-clause-head
returns-clause-head g c = IfSome-map (λ held. c.read_part.new.into ≡ area c.args.at 16 held) _ _ (λ held e. c.read_head.ensures.head ∙ ap head_in e) c.in_ok-read_part.ensures.bytes
