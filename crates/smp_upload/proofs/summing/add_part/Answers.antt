use Rattle.std.proofs.Common.{◌+◌, ◌<◌, ◌≤◌, ◌∙◌, ℕ, drop, length, length-append, sym, subst, arith, rules}
use Rattle.smp_flash.proofs.Passing.{reads_add}
use Rattle.smp_upload.proofs.Summed.{told_more, block_Calls}
use Rattle.smp_upload.proofs.summing.add_part.Goals as goal

pub loop-done-preserved : goal.loop-done-preserved
loop-done-preserved g c =
    let done = c.loop-done.done in
    let n = c.min-length.result in
    let inv = c.loop-done.invariant in
    let le : done + n ≤ c.args.size = search rules in
    let some : 0 < n = search rules in
    let long : 0 < length c.add_block.new.into = omega (arith, some, c.add_block.ensures.length) in
    record {
      most = le;
      calls = block_Calls c.args.at c.args.size done n _ _ _ _ le inv.calls c.in-Ok.ensures.calls;
      kept = c.add_block.ensures.kept ∙ inv.kept;
      reads = reads_add done n _ _ _ inv.reads c.in-Ok.ensures.reads;
      block = subst (λ (k : ℕ). 0 < k) (sym (length-append c.add_block.new.into (drop n c.loop-done.block))) (omega (arith, long));
      sums = told_more c.args.at done n _ _ _ _ _ inv.kept inv.sums c.in-Ok.ensures.sums;
    }
