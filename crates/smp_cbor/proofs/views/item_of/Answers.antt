use Rattle.smp_cbor.specs.Views.{map_bytes, list_bytes}
use Rattle.smp_cbor.proofs.Parts.{lent_end, octets_part, text_part, placed_ends}
use Rattle.smp_cbor.proofs.views.item_of.Goals as goal

pub returns-in-List-2-clause-lent : goal.returns-in-List-2-clause-lent
returns-in-List-2-clause-lent c =
    let rest = c.in-Ok.rest.now in
    lent_end c.args.bytes.now rest (list_bytes c.behind_head.result) c.behind_head.ensures.lent (placed_ends c.args.bytes.now (c.in-Ok.head, rest) c.in-Ok.ensures)

pub returns-in-Ok-pairs_of-clause-lent : goal.returns-in-Ok-pairs_of-clause-lent
returns-in-Ok-pairs_of-clause-lent c =
    let rest = c.in-Ok.rest.now in
    lent_end c.args.bytes.now rest (map_bytes c.behind_head-in-Ok-pairs_of.result) c.behind_head-in-Ok-pairs_of.ensures.lent (placed_ends c.args.bytes.now (c.in-Ok.head, rest) c.in-Ok.ensures)

pub returns-in-Ok-text_of-clause-lent : goal.returns-in-Ok-text_of-clause-lent
returns-in-Ok-text_of-clause-lent c =
    let rest = c.in-Ok.rest.now in
    text_part c.args.bytes.now c.args.bytes.now _ rest (c.in-Ok-text_of.text.now, c.in-Ok-text_of.field-0-1.now)
    (placed_ends c.args.bytes.now (c.in-Ok.head, rest) c.in-Ok.ensures) c.in-Ok-text_of.ensures

pub returns-in-Ok-octets_of-clause-lent : goal.returns-in-Ok-octets_of-clause-lent
returns-in-Ok-octets_of-clause-lent c =
    let rest = c.in-Ok.rest.now in
    octets_part c.args.bytes.now c.args.bytes.now _ rest (c.in-Ok-octets_of.octets.now, c.in-Ok-octets_of.field-0-1.now)
    (placed_ends c.args.bytes.now (c.in-Ok.head, rest) c.in-Ok.ensures) c.in-Ok-octets_of.ensures
