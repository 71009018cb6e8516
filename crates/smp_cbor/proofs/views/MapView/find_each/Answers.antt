use Rattle.std.proofs.Common.{◌≡◌, ◌+◌, ◌-◌, ◌&&◌, ℕ, List, [], Bor, true, false, map, refl, sym, ◌∙◌, arith}
use Rattle.std.specs.Prelude.{option_map}
use Rattle.smp_cbor.specs.Skipping.{skip_at, begins_break}
use Rattle.smp_cbor.specs.Values.{pairs_from, value_at}
use Rattle.smp_cbor.specs.Views.{value_of}
use Rattle.smp_cbor.proofs.Steps.{pairs_more}
use Rattle.smp_cbor.proofs.Noting.{note_pair, note_done, ended_by_break, ended_by_key, ended_by_value, ended_by_count, met, not_met, same_lengths}
use Rattle.smp_cbor.proofs.views.MapView.find_each.Goals as goal

pub returns-then-is_some : goal.returns-then-is_some
returns-then-is_some c =
    let m = c.args.self.now in
    let breaks : (m.until_break && begins_break c.loop.rest.now) ≡ true = met c.after_break.result _ _ (sym c.is_some.ensures ∙ c.if-is_some.true) c.after_break.ensures.ends in
    note_done (map (λ (key : Bor (List ℕ)). key.now) c.args.keys.now) (map (option_map value_of) c.loop.found) _ _
    (ended_by_break m.until_break (skip_at m.depth) (value_at m.depth) (m.turns - c.loop.counter) c.loop.rest.now breaks) (same_lengths _ _ c.loop.found c.args.keys.now (omega arith)) c.loop.invariant

pub returns-in_default : goal.returns-in_default
returns-in_default c =
    let m = c.args.self.now in
    let goes : (m.until_break && begins_break c.loop.rest.now) ≡ false = not_met c.after_break.result _ (sym c.is_some.ensures ∙ c.if-is_some.false) c.after_break.ensures.goes_on in
    note_done (map (λ (key : Bor (List ℕ)). key.now) c.args.keys.now) (map (option_map value_of) c.loop.found) _ _
    (ended_by_key m.until_break (skip_at m.depth) (value_at m.depth) (m.turns - c.loop.counter) c.loop.rest.now _ goes c.in_default.ensures) (same_lengths _ _ c.loop.found c.args.keys.now (omega arith)) c.loop.invariant

pub returns-in_default-skip_item : goal.returns-in_default-skip_item
returns-in_default-skip_item c =
    let m = c.args.self.now in
    let keys = map (λ (key : Bor (List ℕ)). key.now) c.args.keys.now in
    let goes : (m.until_break && begins_break c.loop.rest.now) ≡ false = not_met c.after_break.result _ (sym c.is_some.ensures ∙ c.if-is_some.false) c.after_break.ensures.goes_on in
    let key = c.in-Ok.key.now in
    let after = c.in-Ok.after.now in
    let last = ended_by_value m.until_break (skip_at m.depth) (value_at m.depth) m.turns c.loop.counter c.loop.rest.now key after _ c.loop-test.true goes c.in-Ok.ensures c.in_default-skip_item.ensures in
    let pair = note_pair key (value_at m.depth after) keys (map (option_map value_of) c.loop.found) [] in
    note_done keys (map (option_map value_of) c.note.new.found) [] _ refl (same_lengths _ _ c.note.new.found c.args.keys.now (omega arith)) (rw c.note.ensures (pair ∙ (rw last at c.loop.invariant)))

pub loop-preserved : goal.loop-preserved
loop-preserved c =
    let m = c.args.self.now in
    let keys = map (λ (key : Bor (List ℕ)). key.now) c.args.keys.now in
    let goes : (m.until_break && begins_break c.loop.rest.now) ≡ false = not_met c.after_break.result _ (sym c.is_some.ensures ∙ c.if-is_some.false) c.after_break.ensures.goes_on in
    let key = c.in-Ok.key.now in
    let after = c.in-Ok.after.now in
    let next = c.in-Ok-skip_item.next.now in
    let left = pairs_from m.until_break (skip_at m.depth) (value_at m.depth) (m.turns - (c.loop.counter + 1)) next in
    let more = pairs_more m.until_break (skip_at m.depth) (value_at m.depth) m.turns c.loop.counter c.loop.rest.now key after next c.loop-test.true goes c.in-Ok.ensures c.in-Ok-skip_item.ensures in
    let pair = note_pair key (value_at m.depth after) keys (map (option_map value_of) c.loop.found) left in
    rw c.note.ensures (pair ∙ (rw more at c.loop.invariant))

pub returns : goal.returns
returns c =
    let m = c.args.self.now in
    note_done (map (λ (key : Bor (List ℕ)). key.now) c.args.keys.now) (map (option_map value_of) c.loop.found) _ _
    (ended_by_count m.until_break (skip_at m.depth) (value_at m.depth) m.turns c.loop.counter c.loop.rest.now (omega arith)) (same_lengths _ _ c.loop.found c.args.keys.now (omega arith)) c.loop.invariant
