use Rattle.std.proofs.Common.{◌≡◌, ◌<◌, false, length, take, sym, ◌∙◌, arith}
use Rattle.std.proofs.lemmas.List.{take_more_set, length-map}
use Rattle.std.proofs.Math.ListN.{length-set}
use Rattle.smp_cbor.specs.Skipping.{skip_at}
use Rattle.smp_cbor.specs.Values.{is_among}
use Rattle.smp_cbor.specs.Walks.{texts_of}
use Rattle.smp_cbor.proofs.Steps.{distinct_more, texts-set}
use Rattle.smp_cbor.proofs.keys.keep_keys.Goals as goal

pub loop-turn-preserved : goal.loop-turn-preserved
loop-turn-preserved c =
    let kept = texts_of c.loop-turn.kept in
    let key = c.in_ok-key.key.now in
    let fresh : is_among key (take c.loop-turn.held kept) ≡ false = sym c.is_held.ensures ∙ c.if-is_held.false in
    let more = distinct_more c.args.until_break (skip_at c.args.depth) (take c.loop-turn.held kept) c.args.turns c.loop-turn.turn c.loop-turn.rest.now key c.in_ok-key.after.now c.in_ok-rest.rest.now c.loop-turn-test.true c.in_default.ensures.goes_on c.in_ok-key.ensures fresh c.in_ok-rest.ensures in
    let room : c.loop-turn.held < length kept = rw length-map (omega arith) in
    record {
      within = simp length-set (omega arith);
      same = rw (texts-set, take_more_set kept c.loop-turn.held key room) (sym more ∙ c.loop-turn.invariant.same);
    }
