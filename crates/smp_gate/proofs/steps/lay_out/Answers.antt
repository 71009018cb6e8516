use Rattle.std.proofs.Common.{◌≡◌, ◌∙◌, ◌++◌, ℕ, length, ap, replicate}
use Rattle.std.proofs.lemmas.List.{length-replicate}
use Rattle.smp_gate.specs.Side.{head_bytes, padding}
use Rattle.smp_gate.proofs.Writing.{laid_out}
use Rattle.smp_gate.proofs.steps.lay_out.Goals as goal

pub returns-clause-bytes : goal.returns-clause-bytes
returns-clause-bytes c =
    let n = length c.args.body.now in
    let h : c.copy_from_slice.new.self ≡ head_bytes c.args.generation n = c.copy_from_slice.ensures.after ∙ c.head_of.ensures in
    let b : c.copy_from_slice-2.new.self ≡ c.args.body.now = c.copy_from_slice-2.ensures.after in
    let z : c.zero.new.part ≡ replicate (padding n) 0 = c.zero.ensures in
    laid_out n (padding n) _ _ c.args.into.now c.copy_from_slice.new.self c.copy_from_slice-2.new.self c.zero.new.part (ap length h) (ap length b) (ap length z ∙ length-replicate {A = ℕ} (padding n) 0)
    ∙ (λ i. h i ++ (b i ++ z i))
