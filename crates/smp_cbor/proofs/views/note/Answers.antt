use Rattle.std.proofs.Common.{◌≡◌, ◌<◌, ℕ, List, [], Bor, length, map, get_or, None, ◌∙◌, arith, cond, Some}
use Rattle.std.specs.Prelude.{option_map}
use Rattle.std.specs.Str.{bytes_eq}
use Rattle.std.proofs.lemmas.List.{map-set, length-map, get_or-map}
use Rattle.smp_cbor.specs.Values.{value_at}
use Rattle.smp_cbor.specs.Views.{value_of, or_else}
use Rattle.smp_cbor.proofs.Noting.{note_place, same_lengths}
use Rattle.smp_cbor.proofs.views.note.Goals as goal

pub loop-i-preserved : goal.loop-i-preserved
loop-i-preserved c =
    let found = map (option_map value_of) c.loop-i.found in
    let keys = map (λ (key : Bor (List ℕ)). key.now) c.args.keys.now in
    let value = value_at c.args.depth c.args.bytes.now in
    let within : c.loop-i.i < length c.loop-i.found = omega arith in
    let before : get_or found c.loop-i.i None ≡ option_map value_of (get_or c.loop-i.found c.loop-i.i None) = get_or-map (option_map value_of) c.loop-i.found c.loop-i.i None None within in
    let wanted = λ (d : Bor (List ℕ)). get_or-map (λ (key : Bor (List ℕ)). key.now) c.args.keys.now c.loop-i.i d [] c.loop-i-test.true in
    let place : option_map value_of c.note_in.new.place ≡ or_else (get_or found c.loop-i.i None) (cond (bytes_eq c.args.key.now (get_or keys c.loop-i.i [])) (Some value) None) =
    rw (before, wanted (record { ref_ptr = (0, 0); now = [] })) c.note_in.ensures in
    let step = note_place c.args.key.now value keys found c.loop-i.i (option_map value_of c.note_in.new.place) (rw length-map (c.loop-i-test.true)) (same_lengths _ _ c.loop-i.found c.args.keys.now (omega arith)) place in
    rw map-set (step ∙ c.loop-i.invariant)
