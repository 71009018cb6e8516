use Rattle.std.proofs.Common.{ap, sym, ◌∙◌, arith}
use Rattle.std.specs.Result.{result_ok}
use Rattle.smp_line.proofs.decoding.Decoder.decode.Goals as goal

pub returns-in-Ok : goal.returns-in-Ok
returns-in-Ok c =
    let decoded = c.in-Ok.ensures.ok in
    let fits = decoded.2 in
    (ap result_ok (sym (c.self.invariant c.args.symbols.now) ∙ decoded.0), omega (arith, fits, c.told-into))

pub returns-in-Err : goal.returns-in-Err
returns-in-Err c = ap result_ok (sym (c.self.invariant c.args.symbols.now) ∙ c.in-Err.ensures.err)
