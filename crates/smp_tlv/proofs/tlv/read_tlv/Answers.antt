use Rattle.std.proofs.Common.{length, ◌+◌, sym, ap, arith, ◌≡◌}
use Rattle.smp_flash.specs.Area.{area}
use Rattle.smp_flash.proofs.Telling.{IfSome-map, IfSome-same}
use Rattle.smp_tlv.specs.Walking.{outcome, Adds}
use Rattle.smp_tlv.proofs.Walks.{short_between, past_between, follows_next, IfSome-two, IfSome-three}
use Rattle.smp_tlv.specs.Reads.{is_missing}
use Rattle.smp_tlv.proofs.ReadsCounted.{at_most_none, leaves_none, head_at_most, head_leaves, value_at_most, next_leaves}
use Rattle.smp_tlv.proofs.tlv.read_tlv.Goals as goal

pub returns-then-end-walk-lt-HEAD-clause-follows : goal.returns-then-end-walk-lt-HEAD-clause-follows
returns-then-end-walk-lt-HEAD-clause-follows g c =
    IfSome-map (λ held. length held ≡ (g.B.Bytes.state c.args.b.now).size) _ (g.B.Bytes.state c.args.b.now).bytes
    (λ held size. ap (outcome c.args.walk.found) (short_between c.tlvs_are_read_in_order.ensures c.args.walk.at c.args.end held c.requires.some c.if-end-walk-lt-HEAD.true (omega arith)))
    (g.met.B.Bytes.sized c.args.b.now)

pub returns-then-end-value-clause-follows : goal.returns-then-end-value-clause-follows
returns-then-end-value-clause-follows g c =
    IfSome-two (λ held. length held ≡ (g.B.Bytes.state c.args.b.now).size) _ _ (g.B.Bytes.state c.args.b.now).bytes
    (λ held size head. ap (outcome c.args.walk.found) (past_between c.tlvs_are_read_in_order.ensures c.args.walk.at c.args.end held c.in_ok-head.head.second (omega arith) (omega arith) head.1 (omega arith)))
    (g.met.B.Bytes.sized c.args.b.now) c.in_ok-head.ensures.head

pub returns-clause-follows : goal.returns-clause-follows
returns-clause-follows g c =
    IfSome-three (λ held. length held ≡ (g.B.Bytes.state c.args.b.now).size) _ (λ held. Adds c.args.walk.found (record { kind = c.in_ok-head.head.first; value = area (c.args.walk.at + 4) c.in_ok-head.head.second held }) c.in_ok-found.found) _
    (g.B.Bytes.state c.args.b.now).bytes
    (λ held size head adds. follows_next c.tlvs_are_read_in_order.ensures c.args.walk.found c.in_ok-found.found c.args.walk.at c.args.end c.in_ok-head.head.first c.from-length.result c.in_ok-head.head.second held c.from-length.ensures (omega arith) (omega arith) head adds)
    (g.met.B.Bytes.sized c.args.b.now) c.in_ok-head.ensures.head
    (IfSome-same _ _ _ (sym c.in_ok-head.ensures.looks.held) c.in_ok-found.ensures.adds)

pub returns-in_err-head-clause-reads : goal.returns-in_err-head-clause-reads
returns-in_err-head-clause-reads g c =
    head_at_most (g.B.Bytes.state c.args.b.now).bytes (is_missing c.args.walk.found) c.args.walk.at c.args.end _ _ (omega arith) c.in_err-head.ensures.looks.reads

pub returns-then-end-value-clause-reads : goal.returns-then-end-value-clause-reads
returns-then-end-value-clause-reads g c =
    head_at_most (g.B.Bytes.state c.args.b.now).bytes (is_missing c.args.walk.found) c.args.walk.at c.args.end _ _ (omega arith) c.in_ok-head.ensures.looks.reads

pub returns-then-end-value-clause-left : goal.returns-then-end-value-clause-left
returns-then-end-value-clause-left g c =
    head_leaves (g.B.Bytes.state c.args.b.now).bytes (is_missing c.args.walk.found) c.args.walk.at c.args.end _ _ (omega arith) c.in_ok-head.ensures.looks.reads

pub returns-in_err-found-clause-reads : goal.returns-in_err-found-clause-reads
returns-in_err-found-clause-reads g c =
    value_at_most (g.B.Bytes.state c.args.b.now).bytes (is_missing c.args.walk.found) c.args.walk.at c.args.end c.in_ok-head.head.first c.in_ok-head.head.second _ _ _ (omega arith) (omega arith)
    c.in_ok-head.ensures.head c.in_ok-head.ensures.looks.reads c.in_err-found.ensures.reads

pub returns-clause-reads : goal.returns-clause-reads
returns-clause-reads g c =
    value_at_most (g.B.Bytes.state c.args.b.now).bytes (is_missing c.args.walk.found) c.args.walk.at c.args.end c.in_ok-head.head.first c.in_ok-head.head.second _ _ _ (omega arith) (omega arith)
    c.in_ok-head.ensures.head c.in_ok-head.ensures.looks.reads c.in_ok-found.ensures.reads

pub returns-clause-left : goal.returns-clause-left
returns-clause-left g c =
    next_leaves (g.B.Bytes.state c.args.b.now).bytes (is_missing c.args.walk.found) (is_missing c.in_ok-found.found) c.args.walk.at c.args.end c.in_ok-head.head.first c.in_ok-head.head.second (c.args.walk.at + 4 + c.from-length.result) _ _ _ (omega arith) (omega arith)
    c.in_ok-head.ensures.head c.in_ok-found.ensures.missing (omega arith) c.in_ok-head.ensures.looks.reads c.in_ok-found.ensures.reads
