use Rattle.std.proofs.Common.{◌≡◌, ◌+◌, ◌≤◌, List, ℕ, length, take, subst, arith, length-take}
use Rattle.std.proofs.lemmas.Result.{on_ok_weaker}
use Rattle.smp_flash.specs.Area.{area, blank, spot, Keeps, Holds}
use Rattle.smp_gate.specs.Step.{Quiet, Ready}
use Rattle.smp_gate.specs.Side.{side_bytes}
use Rattle.smp_flash.proofs.Areas.{blank_within, blank_first}
use Rattle.smp_flash.proofs.Passing.{Calls-wider, Covers-within}
use Rattle.smp_flash.proofs.Telling.{IfSome-map, Told-with, Told-after}
use Rattle.smp_gate.proofs.Writing.{Quiet-shut, Ready-written}
use Rattle.smp_gate.proofs.steps.write_laid_out.Goals as goal

pub write_part-requires-clause-erased : goal.write_part-requires-clause-erased
write_part-requires-clause-erased g c =
    let n = length (take c.lay_out-count.result c.lay_out-count.new.into) in
    let le : 8 + n ≤ 4096 = omega (arith, length-take c.lay_out-count.result c.lay_out-count.new.into) in
    IfSome-map (λ held. area c.args.at 4096 held ≡ blank 4096) _ _ (λ held is. blank_within c.args.at 4096 8 n held le is) c.requires.erased

pub returns-clause-quiet : goal.returns-clause-quiet
returns-clause-quiet g c =
    let n = length (take c.lay_out-count.result c.lay_out-count.new.into) in
    let le : 8 + n ≤ 4096 = omega (arith, length-take c.lay_out-count.result c.lay_out-count.new.into) in
    Told-with (λ held. area c.args.at 4096 held ≡ blank 4096) (Keeps (spot (c.args.at + 8) n)) (Quiet c.args.at) _ _
    (λ u v is keeps. Quiet-shut c.args.at n u v le (blank_first c.args.at 4096 8 u (omega arith) is) keeps) c.requires.erased c.write_part.ensures.calls.keeps

pub returns-clause-ready : goal.returns-clause-ready
returns-clause-ready g c =
    let text = take c.lay_out-count.result c.lay_out-count.new.into in
    let le : 8 + length text ≤ 4096 = omega (arith, length-take c.lay_out-count.result c.lay_out-count.new.into) in
    let P : List ℕ → List ℕ → Type 0 = λ t v. Ready c.args.at t v in
    on_ok_weaker c.write_part.result (λ told.
    Told-after (λ held. area c.args.at 4096 held ≡ blank 4096) (Holds (c.args.at + 8) text) (Ready c.args.at (side_bytes c.args.generation c.args.body.now)) _ _
    (λ u v is holds. subst (λ (t : List ℕ). P t v) c.lay_out-count.ensures.bytes (Ready-written c.args.at text u v le is holds)) c.requires.erased told) c.write_part.ensures.ok

pub returns-clause-calls : goal.returns-clause-calls
returns-clause-calls g c =
    let n = length (take c.lay_out-count.result c.lay_out-count.new.into) in
    let le : 8 + n ≤ 4096 = omega (arith, length-take c.lay_out-count.result c.lay_out-count.new.into) in
    Calls-wider (spot c.args.at 4096) (spot (c.args.at + 8) n) _ _ _ (Covers-within (c.args.at + 8) n c.args.at 4096 (omega arith) (omega arith)) c.write_part.ensures.calls
