use Rattle.std.proofs.Common.{◌≡◌, ◌-◌, ◌++◌, ◌∷◌, [], false, refl, sym, ◌∙◌, append_assoc, arith}
use Rattle.std.proofs.lemmas.List.{append-nil}
use Rattle.smp_cbor.specs.Skipping.{skip_at}
use Rattle.smp_cbor.specs.Values.{first_keys, is_among}
use Rattle.smp_cbor.specs.Walks.{texts_of}
use Rattle.smp_cbor.proofs.Steps.{one_key, leads_on, distinct_more, leads_from_start}
use Rattle.smp_cbor.proofs.keys.walked_pairs.Goals as goal

pub loop-turn-init : goal.loop-turn-init
unfolding first_keys
loop-turn-init c = record {
  same = let e : c.args.turns - 0 ≡ c.args.turns = omega arith in rw (e, append-nil) refl;
  leads = leads_from_start (skip_at c.args.depth) c.args.bytes.now;
}

pub loop-turn-preserved : goal.loop-turn-preserved
loop-turn-preserved c =
    let skip = skip_at c.args.depth in
    let seen = texts_of c.args.seen.now in
    let before = first_keys skip c.loop-turn.turn c.args.bytes.now in
    let key = c.in_ok-key.key.now in
    let fresh : is_among key (seen ++ before) ≡ false = sym c.came_before.ensures ∙ c.if-came_before.false in
    let more = distinct_more c.args.until_break skip (seen ++ before) c.args.turns c.loop-turn.turn c.loop-turn.rest.now key c.in_ok-key.after.now c.in_ok-rest.rest.now c.loop-turn-test.true c.in_default.ensures.goes_on c.in_ok-key.ensures fresh c.in_ok-rest.ensures in
    let one = one_key skip c.loop-turn.turn c.args.bytes.now c.loop-turn.rest.now key c.in_ok-key.after.now c.in_ok-rest.rest.now c.loop-turn.invariant.leads c.in_ok-key.ensures c.in_ok-rest.ensures in
    record {
      same = rw (one, ← append_assoc seen before (key ∷ [])) (sym more ∙ c.loop-turn.invariant.same);
      leads = leads_on skip c.loop-turn.turn c.args.bytes.now c.loop-turn.rest.now key c.in_ok-key.after.now c.in_ok-rest.rest.now c.loop-turn.invariant.leads c.in_ok-key.ensures c.in_ok-rest.ensures;
    }
