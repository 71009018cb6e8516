use Rattle.std.proofs.Common.{◌≡◌, ◌∙◌, sym, subst}
use Rattle.smp_flash.specs.Layout.{geometry_of, image_of}
use Rattle.smp_flash.proofs.Sizes.{regular}
use Rattle.smp_progress.specs.Record.{IsRecord}
use Rattle.smp_progress.proofs.Records.{body_again, spelled, refused}
use Rattle.smp_progress.proofs.record.read_record.Goals as goal

pub returns-then-not-is_spelled-clause-none : goal.returns-then-not-is_spelled-clause-none
returns-then-not-is_spelled-clause-none c = λ none entry l b.
    let layout = c.args.layout.now in
    let same : c.fields_of-entry.result ≡ entry = c.fields_of-entry.ensures ∙ body_again (geometry_of layout) (image_of layout) entry c.args.body.now (regular (geometry_of layout) layout.lawful).slot_most l b in
    refused c.is_spelled.result _ c.is_spelled.ensures.1 (spelled (image_of layout) c.image_byte-image.result entry c.fields_of-entry.result c.args.body.now c.image_byte-image.ensures same b) c.if-not-is_spelled.true

pub returns-then-not-is_record-clause-none : goal.returns-then-not-is_record-clause-none
returns-then-not-is_record-clause-none c = λ none entry l b.
    let layout = c.args.layout.now in
    let same : c.fields_of-entry.result ≡ entry = c.fields_of-entry.ensures ∙ body_again (geometry_of layout) (image_of layout) entry c.args.body.now (regular (geometry_of layout) layout.lawful).slot_most l b in
    refused c.is_record.result _ c.is_record.ensures.1 (subst (IsRecord (geometry_of layout)) (sym same) l) c.if-not-is_record.true
