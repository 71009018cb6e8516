use Rattle.std.proofs.Common.{sym, ◌∙◌, arith}
use Rattle.smp_flash.proofs.Telling.{IfSome-same}
use Rattle.smp_tlv.proofs.Images.{answers_short, tested, answers_fault, answers_areas, answers_protected, answers_tlvs, IfOk-map, cost_of}
use Rattle.smp_tlv.proofs.ReadsCounted.{header_at_most, protected_at_most, areas_at_most}
use Rattle.smp_tlv.proofs.image.find_image.Goals as goal

pub returns-then-size-lt32-clause-answer : goal.returns-then-size-lt32-clause-answer
returns-then-size-lt32-clause-answer g c =
    answers_short (g.B.Bytes.state c.args.b.now).bytes (g.B.Bytes.state c.args.b.now).size (g.met.B.Bytes.sized c.args.b.now) (omega arith)

pub returns-in-Err-clause-answer : goal.returns-in-Err-clause-answer
returns-in-Err-clause-answer g c =
    let x = (g.B.Bytes.state c.args.b.now).bytes in
    let t = tested x c.length-size.result c.in_ok-header.header c.check_header.result (rw c.length-size.ensures (g.met.B.Bytes.sized c.args.b.now)) (omega arith) c.in_ok-header.ensures.header c.check_header.ensures.tests in
    answers_fault x c.in_ok-header.header c.check_header.result c.in-Err.fault c.in-Err.is t

pub returns-then-not-branch-clause-answer : goal.returns-then-not-branch-clause-answer
returns-then-not-branch-clause-answer g c =
    let x = (g.B.Bytes.state c.args.b.now).bytes in
    let t = tested x c.length-size.result c.in_ok-header.header c.check_header.result (rw c.length-size.ensures (g.met.B.Bytes.sized c.args.b.now)) (omega arith) c.in_ok-header.ensures.header c.check_header.ensures.tests in
    answers_protected x c.in_ok-header.header c.in_ok-has_protected.field-0 c.if-not-branch.true
    (answers_areas x c.in_ok-header.header c.check_header.result c.in-Ok.covered c.in-Ok.is t)
    (IfSome-same _ _ x (sym c.in_ok-header.ensures.looks.held) c.in_ok-has_protected.ensures.there)

pub returns-clause-answer : goal.returns-clause-answer
returns-clause-answer g c =
    let x = (g.B.Bytes.state c.args.b.now).bytes in
    let t = tested x c.length-size.result c.in_ok-header.header c.check_header.result (rw c.length-size.ensures (g.met.B.Bytes.sized c.args.b.now)) (omega arith) c.in_ok-header.ensures.header c.check_header.ensures.tests in
    let held = c.in_ok-has_protected.ensures.looks.held ∙ c.in_ok-header.ensures.looks.held in
    IfOk-map c.read_tlvs.result _ _
    (λ answer tlvs. answers_tlvs x c.in_ok-header.header c.in-Ok.covered c.in_ok-has_protected.field-0 answer c.in-Ok.ensures.covered c.if-not-branch.false
    (answers_areas x c.in_ok-header.header c.check_header.result c.in-Ok.covered c.in-Ok.is t)
    (IfSome-same _ _ x (sym c.in_ok-header.ensures.looks.held) c.in_ok-has_protected.ensures.there)
    (IfSome-same _ _ x (sym held) tlvs))
    c.read_tlvs.ensures.answer

pub returns-clause-cost : goal.returns-clause-cost
returns-clause-cost g c =
    cost_of c.read_tlvs.result c.in_ok-header.header.protected_size c.in-Ok.covered _ _ _ _ c.in-Ok.ensures.small c.in-Ok.ensures.least
    c.in_ok-header.ensures.looks.reads c.in_ok-has_protected.ensures.looks.reads c.read_tlvs.ensures.looks.reads c.read_tlvs.ensures.kind c.read_tlvs.ensures.after c.read_tlvs.ensures.cost

pub returns-in_err-header-clause-reads : goal.returns-in_err-header-clause-reads
returns-in_err-header-clause-reads g c =
    header_at_most (g.B.Bytes.state c.args.b.now).bytes c.length-size.result _ _ (rw c.length-size.ensures (g.met.B.Bytes.sized c.args.b.now)) (omega arith) c.in_err-header.ensures.looks.reads

pub returns-in-Err-clause-reads : goal.returns-in-Err-clause-reads
returns-in-Err-clause-reads g c =
    header_at_most (g.B.Bytes.state c.args.b.now).bytes c.length-size.result _ _ (rw c.length-size.ensures (g.met.B.Bytes.sized c.args.b.now)) (omega arith) c.in_ok-header.ensures.looks.reads

pub returns-in_err-has_protected-clause-reads : goal.returns-in_err-has_protected-clause-reads
returns-in_err-has_protected-clause-reads g c =
    let x = (g.B.Bytes.state c.args.b.now).bytes in
    protected_at_most x c.length-size.result c.in_ok-header.header c.check_header.result c.in-Ok.covered _ _ _ (rw c.length-size.ensures (g.met.B.Bytes.sized c.args.b.now)) (omega arith) c.in_ok-header.ensures.header
    c.check_header.ensures.passes c.in-Ok.is c.in_ok-header.ensures.looks.reads (IfSome-same _ _ x (sym c.in_ok-header.ensures.looks.held) c.in_err-has_protected.ensures.reads)

pub returns-then-not-branch-clause-reads : goal.returns-then-not-branch-clause-reads
returns-then-not-branch-clause-reads g c =
    let x = (g.B.Bytes.state c.args.b.now).bytes in
    protected_at_most x c.length-size.result c.in_ok-header.header c.check_header.result c.in-Ok.covered _ _ _ (rw c.length-size.ensures (g.met.B.Bytes.sized c.args.b.now)) (omega arith) c.in_ok-header.ensures.header
    c.check_header.ensures.passes c.in-Ok.is c.in_ok-header.ensures.looks.reads (IfSome-same _ _ x (sym c.in_ok-header.ensures.looks.held) c.in_ok-has_protected.ensures.reads)

pub returns-clause-reads : goal.returns-clause-reads
returns-clause-reads g c =
    let x = (g.B.Bytes.state c.args.b.now).bytes in
    let held = c.in_ok-has_protected.ensures.looks.held ∙ c.in_ok-header.ensures.looks.held in
    areas_at_most x c.length-size.result c.in_ok-header.header c.in-Ok.covered c.in_ok-has_protected.field-0 c.check_header.result c.in-Ok.covered _ _ _ _ (rw c.length-size.ensures (g.met.B.Bytes.sized c.args.b.now)) (omega arith) c.in_ok-header.ensures.header
    c.check_header.ensures.passes c.in-Ok.is c.in-Ok.ensures.covered c.if-not-branch.false (IfSome-same _ _ x (sym c.in_ok-header.ensures.looks.held) c.in_ok-has_protected.ensures.there)
    c.in_ok-header.ensures.looks.reads (IfSome-same _ _ x (sym c.in_ok-header.ensures.looks.held) c.in_ok-has_protected.ensures.reads)
    (IfSome-same _ _ x (sym held) c.read_tlvs.ensures.reads)
