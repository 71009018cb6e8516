use Rattle.std.proofs.Common.{length, refl, arith}
use Rattle.smp_flash.specs.Layout.{progress_of}
use Rattle.smp_gate.specs.Newest.{AgesAtMost}
use Rattle.smp_upload.specs.Storing.{known_at}
use Rattle.smp_upload.proofs.Putting.{either_of, holds_of}
use Rattle.smp_upload.proofs.Stored.{in_slot, slot_Calls, chain_Calls, told_slot_ages, told_chain_ages, told_torn, told_progress, told_pending, told_both_moves, told_both_lays, told_clean, put_pays, told_filled}
use Rattle.smp_upload.proofs.storing.store.Goals as goal

pub put_bytes-requires-clause-clean : goal.put_bytes-requires-clause-clean
put_bytes-requires-clause-clean g c = told_clean c.args.layout c.args.progress c.args.announcement c.args.offset c.args.sums _ (omega (arith, c.requires.fits, c.requires.some)) c.requires.says

pub returns-in-Err-clause-calls : goal.returns-in-Err-clause-calls
returns-in-Err-clause-calls g c =
    let a = c.args in
    slot_Calls a.layout a.offset _ _ _ _ _ (in_slot a.layout a.offset (length a.bytes.now) a.announcement.length c.requires.fits c.requires.most) c.in-Err.ensures.calls

pub returns-in-Err-clause-moves : goal.returns-in-Err-clause-moves
returns-in-Err-clause-moves g c =
    let a = c.args in
    told_torn c.sides_are_told_apart.ensures a.layout a.progress a.announcement a.offset a.sums _ _ _ _ _ (in_slot a.layout a.offset (length a.bytes.now) a.announcement.length c.requires.fits c.requires.most) c.requires.says c.put_bytes.ensures.calls.keeps

pub returns-in-Err-clause-ages : goal.returns-in-Err-clause-ages
returns-in-Err-clause-ages g c =
    let a = c.args in
    told_slot_ages a.layout 1 a.offset _ _ _ _ (in_slot a.layout a.offset (length a.bytes.now) a.announcement.length c.requires.fits c.requires.most) c.put_bytes.ensures.calls.keeps

pub returns-in-Err-clause-pending : goal.returns-in-Err-clause-pending
returns-in-Err-clause-pending g c =
    let a = c.args in
    told_pending (known_at a.layout a.progress a.announcement a.offset a.sums) _ _ _ refl c.requires.says c.put_bytes.ensures.calls.keeps

pub put_record-requires-clause-says : goal.put_record-requires-clause-says
put_record-requires-clause-says g c =
    let a = c.args in
    told_progress c.progress_outlasts_other_changes.ensures.says a.layout a.progress a.announcement a.offset a.sums _ _ _ _ c.requires.place (in_slot a.layout a.offset (length a.bytes.now) a.announcement.length c.requires.fits c.requires.most) c.requires.says c.put_bytes.ensures.calls.keeps

pub returns-in-Ok-clause-calls : goal.returns-in-Ok-clause-calls
returns-in-Ok-clause-calls g c =
    let a = c.args in
    chain_Calls a.layout a.offset _ _ _ _ _ _ (in_slot a.layout a.offset (length a.bytes.now) a.announcement.length c.requires.fits c.requires.most) c.in_default.ensures.calls c.in-Ok.ensures.calls

pub returns-in-Ok-clause-moves : goal.returns-in-Ok-clause-moves
returns-in-Ok-clause-moves g c =
    let a = c.args in
    told_both_moves c.sides_are_told_apart.ensures a.layout a.progress a.announcement a.offset a.sums _ a.bytes.now _ _ _ (in_slot a.layout a.offset (length a.bytes.now) a.announcement.length c.requires.fits c.requires.most) c.requires.says c.in_default.ensures.laid c.put_record.ensures.calls.keeps (either_of a.layout _ _ _ _ c.record_at-entry.ensures.entry c.put_record.ensures.either)

pub returns-in-Ok-clause-ages : goal.returns-in-Ok-clause-ages
returns-in-Ok-clause-ages g c =
    let a = c.args in
    told_chain_ages a.layout a.offset _ _ _ _ _ (in_slot a.layout a.offset (length a.bytes.now) a.announcement.length c.requires.fits c.requires.most) c.put_bytes.ensures.calls.keeps c.put_record.ensures.ages

pub returns-in-Ok-clause-pending : goal.returns-in-Ok-clause-pending
returns-in-Ok-clause-pending g c =
    let a = c.args in
    told_pending (known_at a.layout a.progress a.announcement a.offset a.sums) (AgesAtMost 1 (progress_of a.layout)) _ _ refl c.requires.says (told_chain_ages a.layout a.offset _ _ _ _ _ (in_slot a.layout a.offset (length a.bytes.now) a.announcement.length c.requires.fits c.requires.most) c.put_bytes.ensures.calls.keeps c.put_record.ensures.ages)

pub returns-in-Err-put_record-clause-calls : goal.returns-in-Err-put_record-clause-calls
returns-in-Err-put_record-clause-calls g c =
    let a = c.args in
    chain_Calls a.layout a.offset _ _ _ _ _ _ (in_slot a.layout a.offset (length a.bytes.now) a.announcement.length c.requires.fits c.requires.most) c.in_default.ensures.calls c.in-Err-put_record.ensures.calls

pub returns-in-Err-put_record-clause-moves : goal.returns-in-Err-put_record-clause-moves
returns-in-Err-put_record-clause-moves g c =
    let a = c.args in
    told_both_moves c.sides_are_told_apart.ensures a.layout a.progress a.announcement a.offset a.sums _ a.bytes.now _ _ _ (in_slot a.layout a.offset (length a.bytes.now) a.announcement.length c.requires.fits c.requires.most) c.requires.says c.in_default.ensures.laid c.put_record.ensures.calls.keeps (either_of a.layout _ _ _ _ c.record_at-entry.ensures.entry c.put_record.ensures.either)

pub returns-in-Err-put_record-clause-ages : goal.returns-in-Err-put_record-clause-ages
returns-in-Err-put_record-clause-ages g c =
    let a = c.args in
    told_chain_ages a.layout a.offset _ _ _ _ _ (in_slot a.layout a.offset (length a.bytes.now) a.announcement.length c.requires.fits c.requires.most) c.put_bytes.ensures.calls.keeps c.put_record.ensures.ages

pub returns-in-Err-put_record-clause-pending : goal.returns-in-Err-put_record-clause-pending
returns-in-Err-put_record-clause-pending g c =
    let a = c.args in
    told_pending (known_at a.layout a.progress a.announcement a.offset a.sums) (AgesAtMost 1 (progress_of a.layout)) _ _ refl c.requires.says (told_chain_ages a.layout a.offset _ _ _ _ _ (in_slot a.layout a.offset (length a.bytes.now) a.announcement.length c.requires.fits c.requires.most) c.put_bytes.ensures.calls.keeps c.put_record.ensures.ages)

pub returns-in-Ok-clause-lays : goal.returns-in-Ok-clause-lays
returns-in-Ok-clause-lays g c =
    let a = c.args in
    told_both_lays c.sides_are_told_apart.ensures a.layout a.progress a.announcement a.offset a.sums _ a.bytes.now _ _ _ (in_slot a.layout a.offset (length a.bytes.now) a.announcement.length c.requires.fits c.requires.most) c.requires.says c.in_default.ensures.laid c.put_record.ensures.calls.keeps (holds_of a.layout _ _ _ c.record_at-entry.ensures.entry c.in-Ok.ensures.holds)

pub returns-in-Ok-clause-filled : goal.returns-in-Ok-clause-filled
returns-in-Ok-clause-filled g c =
    let a = c.args in
    told_filled a.layout a.progress c.in-Ok.next a.announcement a.offset a.sums c.add.new.self a.bytes.now _ _ c.requires.says (told_both_lays c.sides_are_told_apart.ensures a.layout a.progress a.announcement a.offset a.sums _ a.bytes.now _ _ _ (in_slot a.layout a.offset (length a.bytes.now) a.announcement.length c.requires.fits c.requires.most) c.requires.says c.in_default.ensures.laid c.put_record.ensures.calls.keeps (holds_of a.layout _ _ _ c.record_at-entry.ensures.entry c.in-Ok.ensures.holds)) c.add.ensures c.in-Ok.ensures.says

pub returns-in-Ok-clause-pays : goal.returns-in-Ok-clause-pays
returns-in-Ok-clause-pays g c =
    let a = c.args in
    put_pays a.layout (g.F.Flash.state c.args.flash.now) (g.F.Flash.state c.put_bytes.new.flash) (g.F.Flash.state c.put_record.new.flash) c.in_default.ensures.calls.passes c.in-Ok.ensures.pays
