use Rattle.std.proofs.lemmas.Result.{on_ok_weaker}
use Rattle.smp_tlv.proofs.Hashing.{image_is_good, image_is_bad}
use Rattle.smp_tlv.proofs.hash.check_hash.Goals as goal

pub returns-in-Ok-clause-good : goal.returns-in-Ok-clause-good
returns-in-Ok-clause-good g c = on_ok_weaker c.compare.result
    (λ same. image_is_good (g.B.Bytes.state c.args.b.now).bytes c.args.info.now c.in-Ok.digest same c.requires.image c.in-Ok.ensures.digest)
    c.compare.ensures.right

pub returns-in-Ok-clause-bad : goal.returns-in-Ok-clause-bad
returns-in-Ok-clause-bad g c = λ e.
    let other = rw e at c.compare.ensures.wrong in
    image_is_bad (g.B.Bytes.state c.args.b.now).bytes c.args.info.now c.in-Ok.digest other c.requires.image c.in-Ok.ensures.digest
