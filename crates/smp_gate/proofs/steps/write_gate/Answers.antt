use Rattle.std.proofs.Common.{◌≡◌, ◌^◌, ◌<◌, arith}
use Rattle.std.proofs.lemmas.Result.{on_ok_weaker}
use Rattle.smp_flash.specs.Area.{area, spot, Keeps, Holds}
use Rattle.smp_flash.specs.Region.{gate}
use Rattle.smp_gate.specs.Step.{Ready}
use Rattle.smp_gate.specs.Side.{side_bytes, whole_side}
use Rattle.smp_flash.proofs.Passing.{Calls-wider, Covers-within}
use Rattle.smp_flash.proofs.Telling.{Told-with, Told-after}
use Rattle.smp_gate.proofs.Writing.{either_torn, Renewed-written, whole_written}
use Rattle.smp_gate.proofs.steps.write_gate.Goals as goal

pub returns-clause-either : goal.returns-clause-either
returns-clause-either g c =
    let high : c.args.generation < 2 ^ 32 = omega arith in
    Told-with (Ready c.args.at (side_bytes c.args.generation c.args.body.now)) (Keeps (spot c.args.at 8)) _ _ _
    (λ u v ready keeps. either_torn c.args.at c.args.generation c.args.body.now u v c.requires.positive high c.requires.fits ready keeps) c.requires.ready c.write_part.ensures.calls.keeps

pub returns-clause-renewed : goal.returns-clause-renewed
returns-clause-renewed g c =
    let high : c.args.generation < 2 ^ 32 = omega arith in
    on_ok_weaker c.write_part.result (λ told.
    Told-with (Ready c.args.at (side_bytes c.args.generation c.args.body.now)) (Holds c.args.at gate) _ _ _
    (λ u v ready holds. Renewed-written c.args.at c.args.generation c.args.body.now u v c.requires.positive high c.requires.fits ready holds) c.requires.ready told) c.write_part.ensures.ok

pub returns-clause-calls : goal.returns-clause-calls
returns-clause-calls g c = Calls-wider (spot c.args.at 4096) (spot c.args.at 8) _ _ _ (Covers-within c.args.at 8 c.args.at 4096 (omega arith) (omega arith)) c.write_part.ensures.calls

pub returns-clause-side : goal.returns-clause-side
returns-clause-side g c =
    on_ok_weaker c.write_part.result (λ told.
    Told-after (Ready c.args.at (side_bytes c.args.generation c.args.body.now)) (Holds c.args.at gate) (λ held. area c.args.at 4096 held ≡ whole_side c.args.generation c.args.body.now) _ _
    (λ u v ready holds. whole_written c.args.at c.args.generation c.args.body.now u v c.requires.fits ready holds) c.requires.ready told) c.write_part.ensures.ok
