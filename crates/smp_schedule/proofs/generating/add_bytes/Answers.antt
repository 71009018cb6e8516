-- One byte more, and no more.
use Rattle.std.proofs.Common.{◌≡◌, ap, refl, ◌∙◌, arith}
use Rattle.smp_schedule.specs.Generated.{Generator, next_number}
use Rattle.smp_schedule.proofs.Drawing.{one_byte, one_number, no_bytes, no_number}
use Rattle.smp_schedule.proofs.generating.add_bytes.Goals as goal

pub bytes-preserved : goal.bytes-preserved
bytes-preserved c =
    let old = c.bytes.generator in
    let next : c.byte.new.self.number ≡ next_number old.number = ap (λ (g : Generator). g.number) c.byte.ensures.after in
    let i = c.bytes._i in
    record {
      bytes =
          rw (c.in_ok-push.ensures.items, c.byte.ensures.drawn, next)
          (one_byte c.bytes.bytes.items _ c.args.count i old.number c.bytes-test.true c.bytes.invariant.bytes);
      number = rw next (one_number _ c.args.count i old.number c.bytes-test.true c.bytes.invariant.number);
      replies = ap (λ (g : Generator). g.replies) c.byte.ensures.after ∙ c.bytes.invariant.replies;
    }

pub returns-clause-bytes : goal.returns-clause-bytes
returns-clause-bytes c = no_bytes c.bytes.bytes.items _ c.args.count c.bytes._i c.bytes.generator.number (omega arith) c.bytes.invariant.bytes

pub returns-clause-after : goal.returns-clause-after
returns-clause-after c =
    let number = no_number _ c.args.count c.bytes._i c.bytes.generator.number (omega arith) c.bytes.invariant.number in
    rw (number, c.bytes.invariant.replies) refl
