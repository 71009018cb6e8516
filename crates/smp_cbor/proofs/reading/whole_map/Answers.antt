use Rattle.smp_cbor.specs.Views.{map_bytes}
use Rattle.smp_cbor.proofs.Parts.{ends_all, lent_end, placed_ends}
use Rattle.smp_cbor.proofs.reading.whole_map.Goals as goal

pub returns-in_default-clause-lent : goal.returns-in_default-clause-lent
returns-in_default-clause-lent c = lent_end c.args.bytes.now c.args.bytes.now (map_bytes c.behind_head.result) c.behind_head.ensures.lent (ends_all c.args.bytes.now)

pub returns-clause-lent : goal.returns-clause-lent
returns-clause-lent c =
    let content = c.in_ok-head.content.now in
    lent_end c.args.bytes.now content (map_bytes c.behind_head-2.result) c.behind_head-2.ensures.lent (placed_ends c.args.bytes.now (c.in_ok-head.head, content) c.in_ok-head.ensures)
