use Rattle.std.proofs.Common.{◌≡◌, ◌<◌, ℕ, length, refl, subst, arith, rules}
use Rattle.std.proofs.lemmas.Result.{IfOk-weaker, on_ok_weaker}
use Rattle.smp_flash.specs.Area.{Told}
use Rattle.smp_flash.specs.Layout.{progress_of, upload_spots}
use Rattle.smp_flash.proofs.Passing.{Smaller-then, reads_more}
use Rattle.smp_gate.specs.Newest.{AgesAtMost}
use Rattle.smp_progress.specs.State.{CanTake}
use Rattle.smp_upload.specs.Storing.{known_at, Settled}
use Rattle.smp_upload.proofs.Stored.{none_pending}
use Rattle.smp_upload.proofs.Costs.{store_reads, chunk_reads}
use Rattle.smp_upload.proofs.Resolved.{worn_moved}
use Rattle.smp_upload.proofs.Parted.{Given, first_moved, both_moved, both_done, part_pending, told_part_ages, part_said, none_done, none_said}
use Rattle.smp_upload.proofs.states.Receiving.chunk.Goals as goal

pub returns-then-is_empty-clause-done : goal.returns-then-is_empty-clause-done
returns-then-is_empty-clause-done g c =
    let s = c.args.self in
    let given : Given s.layout s.announcement s.offset c.args.bytes.now c.keep-part.result.now = record { fits = c.requires.fits; kept_is = c.keep-part.ensures.kept } in
    none_done c.sides_are_told_apart.ensures s.layout s.progress s.announcement s.offset s.sums c.args.bytes.now c.keep-part.result.now _ given (let t = c.if-is_empty.true in let e = c.is_empty.ensures in let z : length c.keep-part.result.now ≡ 0 = search rules in z) c.requires.says

pub returns-then-is_empty-clause-said : goal.returns-then-is_empty-clause-said
returns-then-is_empty-clause-said g c =
    let s = c.args.self in
    let given : Given s.layout s.announcement s.offset c.args.bytes.now c.keep-part.result.now = record { fits = c.requires.fits; kept_is = c.keep-part.ensures.kept } in
    none_said c.sides_are_told_apart.ensures s.layout s.progress s.announcement s.offset s.sums c.args.bytes.now c.keep-part.result.now _ given (let t = c.if-is_empty.true in let e = c.is_empty.ensures in let z : length c.keep-part.result.now ≡ 0 = search rules in z) c.requires.says

pub returns-in-Err-clause-moved : goal.returns-in-Err-clause-moved
returns-in-Err-clause-moved g c =
    let s = c.args.self in
    let given : Given s.layout s.announcement s.offset c.args.bytes.now c.keep-part.result.now = record { fits = c.requires.fits; kept_is = c.keep-part.ensures.kept } in
    let some : 0 < length c.keep-part.result.now = search rules in
    first_moved c.sides_are_told_apart.ensures s.layout s.progress s.announcement s.offset s.sums c.args.bytes.now c.keep-part.result.now _ _ _ given some c.requires.says c.in-Err.ensures.calls c.store.ensures.moves c.store.ensures.ages c.store.ensures.pending

pub returns-in-Ok-clause-moved : goal.returns-in-Ok-clause-moved
returns-in-Ok-clause-moved g c =
    let s = c.args.self in
    let given : Given s.layout s.announcement s.offset c.args.bytes.now c.keep-part.result.now = record { fits = c.requires.fits; kept_is = c.keep-part.ensures.kept } in
    let some : 0 < length c.keep-part.result.now = search rules in
    both_moved c.sides_are_told_apart.ensures s.layout s.progress s.announcement s.offset s.sums c.args.bytes.now c.keep-part.result.now _ _ _ _ given some c.requires.says c.in-Ok.ensures.calls c.in-Ok.ensures.lays c.store.ensures.ages c.go_on.ensures.moved
    (part_pending s.layout s.progress s.announcement s.offset s.sums (AgesAtMost 1 (progress_of s.layout)) (Settled s.layout) _ _ _ (λ u v w says. none_pending (known_at s.layout s.progress s.announcement s.offset s.sums) u w refl says) c.requires.says c.store.ensures.ages c.go_on.ensures.settled)

pub returns-in-Ok-clause-done : goal.returns-in-Ok-clause-done
returns-in-Ok-clause-done g c =
    let s = c.args.self in
    let given : Given s.layout s.announcement s.offset c.args.bytes.now c.keep-part.result.now = record { fits = c.requires.fits; kept_is = c.keep-part.ensures.kept } in
    let some : 0 < length c.keep-part.result.now = search rules in
    on_ok_weaker c.go_on.result (λ done. both_done c.sides_are_told_apart.ensures s.layout s.progress s.announcement s.offset s.sums c.args.bytes.now c.keep-part.result.now _ _ _ given some c.requires.says c.in-Ok.ensures.calls c.in-Ok.ensures.lays c.store.ensures.ages c.in-Ok.ensures.pays c.in-Ok.ensures.pays_slot
    (part_pending s.layout s.progress s.announcement s.offset s.sums (AgesAtMost 1 (progress_of s.layout)) (Settled s.layout) _ _ _ (λ u v w says. none_pending (known_at s.layout s.progress s.announcement s.offset s.sums) u w refl says) c.requires.says c.store.ensures.ages c.go_on.ensures.settled) done) c.go_on.ensures.done

pub returns-in-Ok-clause-said : goal.returns-in-Ok-clause-said
returns-in-Ok-clause-said g c =
    let s = c.args.self in
    let given : Given s.layout s.announcement s.offset c.args.bytes.now c.keep-part.result.now = record { fits = c.requires.fits; kept_is = c.keep-part.ensures.kept } in
    let some : 0 < length c.keep-part.result.now = search rules in
    IfOk-weaker c.go_on.result _ _ (λ chunked q. part_said c.sides_are_told_apart.ensures s.layout s.progress s.announcement s.offset s.sums c.args.bytes.now c.keep-part.result.now chunked _ _ given some c.requires.says c.in-Ok.ensures.lays q) c.go_on.ensures.said

pub returns-in-Ok-clause-ages : goal.returns-in-Ok-clause-ages
returns-in-Ok-clause-ages g c =
    let s = c.args.self in
    let some : 0 < length c.keep-part.result.now = search rules in
    subst (λ (n : ℕ). Told (AgesAtMost n (progress_of s.layout)) (g.F.Flash.state c.args.flash.now).bytes (g.F.Flash.state c.go_on.new.flash).bytes) c.records_of.ensures.records
    (told_part_ages c.sides_are_told_apart.ensures s.layout s.progress s.announcement s.offset s.sums c.records_of.result c.keep-part.result.now _ _ _ (c.records_of.ensures.one some) (c.records_of.ensures.two some) c.requires.says c.in-Ok.ensures.lays c.store.ensures.ages c.go_on.ensures.settled)

pub returns-in-Ok-clause-spends : goal.returns-in-Ok-clause-spends
returns-in-Ok-clause-spends g c = on_ok_weaker c.go_on.result (λ done n aims. Smaller-then (g.F.Flash.state c.args.flash.now).patience (g.F.Flash.state c.store.new.flash).patience (g.F.Flash.state c.go_on.new.flash).patience (c.in-Ok.ensures.pays aims) done.calls.passes.patience) c.go_on.ensures.done

pub returns-then-not-can_take-clause-moved : goal.returns-then-not-can_take-clause-moved
returns-then-not-can_take-clause-moved g c = worn_moved c.args.self.layout (upload_spots c.args.self.layout) 2 _ c.lost.result.fault _ c.lost.ensures.fault

pub returns-in-Err-clause-reads : goal.returns-in-Err-clause-reads
returns-in-Err-clause-reads g c few = reads_more 10240 200000 _ _ (omega arith) (store_reads c.args.self.layout c.args.self.offset (length c.keep-part.result.now) (length c.args.bytes.now) _ _ c.keep-part.ensures.most few c.store.ensures.reads)

pub returns-in-Ok-clause-reads : goal.returns-in-Ok-clause-reads
returns-in-Ok-clause-reads g c few = chunk_reads _ _ _ (store_reads c.args.self.layout c.args.self.offset (length c.keep-part.result.now) (length c.args.bytes.now) _ _ c.keep-part.ensures.most few c.store.ensures.reads) c.go_on.ensures.reads

pub returns-in-Ok-clause-fresh : goal.returns-in-Ok-clause-fresh
returns-in-Ok-clause-fresh g c =
    let can : CanTake c.args.self.progress.bank.generation c.records_of.result = c.can_take.ensures.0 c.if-not-can_take.false in
    on_ok_weaker c.go_on.result (λ done. subst (CanTake c.args.self.progress.bank.generation) c.records_of.ensures.records can) c.go_on.ensures.done
