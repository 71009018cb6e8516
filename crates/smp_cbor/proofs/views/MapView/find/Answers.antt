use Rattle.std.proofs.Common.{arith}
use Rattle.std.proofs.lemmas.Grind.{common_steps}
use Rattle.smp_cbor.specs.Views.{map_bytes, item_bytes}
use Rattle.smp_cbor.proofs.Parts.{ends_then, part_of_end, skip_ends, key_ends}
use Rattle.smp_cbor.proofs.Steps.{steps}
use Rattle.smp_cbor.proofs.views.MapView.find.Goals as goal

pub loop-preserved : goal.loop-preserved
loop-preserved c =
    let whole = map_bytes c.args.self.now in
    let rest = c.loop.rest.now in
    let after = c.in-Ok.after.now in
    let next = c.in-Ok-skip_item.next.now in
    record {
      same = grind (arith, common_steps, steps);
      ends = ends_then whole rest next c.loop.invariant.ends
          (ends_then rest after next (key_ends rest (c.in-Ok.other.now, after) c.in-Ok.ensures) (skip_ends c.args.self.now.depth after next c.in-Ok-skip_item.ensures));
    }

pub returns-then-eq-clause-lent : goal.returns-then-eq-clause-lent
returns-then-eq-clause-lent c =
    let whole = map_bytes c.args.self.now in
    let rest = c.loop.rest.now in
    let after = c.in-Ok.after.now in
    part_of_end whole after (item_bytes c.item_of.result) (ends_then whole rest after c.loop.invariant.ends (key_ends rest (c.in-Ok.other.now, after) c.in-Ok.ensures)) c.item_of.ensures.lent
