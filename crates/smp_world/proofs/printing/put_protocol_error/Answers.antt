use Rattle.std.proofs.Common.{◌∙◌}
use Rattle.std.proofs.lemmas.Result.{on_ok_weaker}
use Rattle.std.proofs.lemmas.List.{append_assoc}
use Rattle.std.specs.Prelude.{codes}
use Rattle.std.specs.Fmt.{decimal}
use Rattle.smp_world.proofs.printing.put_protocol_error.Goals as goal

pub returns : goal.returns
returns c = on_ok_weaker c.put_named.result (λ e. e ∙ append_assoc c.args.text.now.held (codes "refused smp ") (decimal c.args.number)) c.put_named.ensures
