use Rattle.std.proofs.Common.{◌≡◌, ◌≤◌, ◌<◌, ◌+◌, ◌++◌, ◌∷◌, ◌∙◌, sym, ap, subst, suc, ℕ, List, length, take, drop, get_or, Ok, arith, refl}
use Rattle.std.specs.Prelude.{slice_set}
use Rattle.smp_model.specs.declared.device.StoredFile.{StoredFile}
use Rattle.smp_model.specs.FileGroup.{continues_file}
use Rattle.smp_files.specs.Places.{file}
use Rattle.smp_files.specs.Writing.{Responds}
use Rattle.smp_files.proofs.Places.{split_at, length_front}
use Rattle.smp_files.proofs.Storing.{continued, continued_responds, is_there, same_item, held_fits}
use Rattle.smp_files.proofs.table.FileTable.go_on.Goals as goal

pub invariant_of-self : goal.invariant_of-self
invariant_of-self c =
    let f = c.index_mut.result.now in
    let xs = c.self.inside.files.items in
    let low : c.args.at < length xs = subst (λ (ys : List StoredFile). c.args.at < length ys) (sym c.self.view_is) c.requires in
    let split = split_at c.args.at xs f low c.index_mut.ensures.value in
    let one : c.index.result.now ≡ f = same_item xs c.args.at c.index.result.now f low c.index.ensures c.index_mut.ensures.value in
    let two : c.index-2.result.now ≡ f = same_item xs c.args.at c.index-2.result.now f low c.index-2.ensures c.index_mut.ensures.value in
    let held : length c.held-held.result.now ≡ length f.held = ap length (c.held-held.ensures.value ∙ ap (λ (g : StoredFile). g.held) one) in
    let size : c.announced.result ≡ f.announced = c.announced.ensures ∙ ap (λ (g : StoredFile). g.announced) two in
    let least : length f.held ≤ f.announced = held_fits xs (take c.args.at xs) (drop (suc c.args.at) xs) f c.self.invariant.lawful split in
    let fits : length f.held + length c.args.part.now ≤ f.announced = omega (arith, held, size, least, c.if-part-announced.false) in
    let k = continued c.args.at f c.append.new.self c.args.part.now (take c.args.at xs) (drop (suc c.args.at) xs) xs _ c.self.invariant.lawful split (length_front c.args.at xs low) c.append.ensures fits refl in
    record {
      lawful = k.lawful;
      memory = ap (λ n. n + length c.self.inside.spare.items) k.size ∙ c.self.invariant.memory;
      files_fit = c.self.invariant.files_fit;
      spare_fit = c.self.invariant.spare_fit;
    }

pub returns : goal.returns
returns c = λ f front rest split at.
    let xs = c.self.inside.files.items in
    let now : List StoredFile = slice_set xs c.args.at c.append.new.self in
    let low : c.args.at < length xs = subst (λ (ys : List StoredFile). c.args.at < length ys) (sym c.self.view_is) c.requires in
    let here : xs ≡ front ++ f ∷ rest = c.self.view_is ∙ split in
    let mut' : c.index_mut.result.now ≡ f = is_there front rest f c.index_mut.result.now c.args.at at (c.index_mut.ensures.value ∙ ap (λ zs. get_or zs c.args.at c.index_mut.result.now) here) in
    let one : c.index.result.now ≡ f = is_there front rest f c.index.result.now c.args.at at (c.index.ensures ∙ ap (λ zs. get_or zs c.args.at c.index.result.now) here) in
    let two : c.index-2.result.now ≡ f = is_there front rest f c.index-2.result.now c.args.at at (c.index-2.ensures ∙ ap (λ zs. get_or zs c.args.at c.index-2.result.now) here) in
    let held : length c.held-held.result.now ≡ length f.held = ap length (c.held-held.ensures.value ∙ ap (λ (g : StoredFile). g.held) one) in
    let size : c.announced.result ≡ f.announced = c.announced.ensures ∙ ap (λ (g : StoredFile). g.announced) two in
    let least : length f.held ≤ f.announced = held_fits xs front rest f c.self.invariant.lawful here in
    let fits : length f.held + length c.args.part.now ≤ f.announced = omega (arith, held, size, least, c.if-part-announced.false) in
    let there : c.args.off ≡ length f.held = omega (arith, held, c.if-off-held.false) in
    let made : c.append.new.self ≡ file f.name f.announced (f.held ++ c.args.part.now) = c.append.ensures ∙ ap (λ (g : StoredFile). file g.name g.announced (g.held ++ c.args.part.now)) mut' in
    let k = continued c.args.at f c.append.new.self c.args.part.now front rest xs now c.self.invariant.lawful here at made fits refl in
    subst (λ (n : ℕ). Responds (continues_file c.args.off c.args.part.now f) (Ok (n + length c.args.part.now)) c.args.self.now now) (sym held)
    (subst (λ (ys : List StoredFile). Responds (continues_file c.args.off c.args.part.now f) (Ok (length f.held + length c.args.part.now)) ys now) c.self.view_is
    (continued_responds c.args.off f c.args.part.now front rest xs now there fits k))
