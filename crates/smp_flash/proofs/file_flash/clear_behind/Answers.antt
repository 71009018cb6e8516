use Rattle.std.proofs.Common.{ap, take, ◌∙◌, arith}
use Rattle.std.proofs.lemmas.List.{take-replicate, length-take}
use Rattle.smp_flash.specs.Area.{Erased, Fades}
use Rattle.smp_flash.proofs.Behind.{erased_behind, faded_behind, erased_fades, kept_ok, kept_err, room_for}
use Rattle.smp_flash.proofs.file_flash.clear_behind.Goals as goal

pub put-requires : goal.put-requires
put-requires g c =
    room_for c.args.at c.place.result c.args.size (take c.args.size c.blank_page-blank.result) _ c.place.ensures
    (omega (arith, length-take c.args.size c.blank_page-blank.result)) c.requires.inside

pub returns-in-Ok-clause-ok : goal.returns-in-Ok-clause-ok
returns-in-Ok-clause-ok g c =
    kept_ok (Erased c.args.at c.args.size) _ _ _ c.keep.result c.keep.ensures.kept
    (erased_behind c.args.at c.place.result c.args.size (take c.args.size c.blank_page-blank.result) _ _ c.place.ensures
    (ap (take c.args.size) c.blank_page-blank.ensures ∙ take-replicate c.args.size 4096 255 c.requires.most) c.requires.inside c.in-Ok.ensures.ok)

pub returns-in-Ok-clause-err : goal.returns-in-Ok-clause-err
returns-in-Ok-clause-err g c =
    kept_err (Fades c.args.at c.args.size) _ _ _ c.keep.result c.keep.ensures.kept
    (erased_fades c.args.at c.args.size _ _
    (erased_behind c.args.at c.place.result c.args.size (take c.args.size c.blank_page-blank.result) _ _ c.place.ensures
    (ap (take c.args.size) c.blank_page-blank.ensures ∙ take-replicate c.args.size 4096 255 c.requires.most) c.requires.inside c.in-Ok.ensures.ok))

pub returns-in-Err-clause-err : goal.returns-in-Err-clause-err
returns-in-Err-clause-err g c =
    faded_behind c.args.at c.place.result c.args.size (take c.args.size c.blank_page-blank.result) _ _ c.place.ensures
    (ap (take c.args.size) c.blank_page-blank.ensures ∙ take-replicate c.args.size 4096 255 c.requires.most) c.requires.inside c.in-Err.ensures.err
