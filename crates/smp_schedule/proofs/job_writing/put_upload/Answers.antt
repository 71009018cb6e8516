use Rattle.std.proofs.Common.{◌∷◌, codes, refl}
use Rattle.std.specs.Fmt.{decimal}
use Rattle.smp_schedule.specs.Words.{ending_word}
use Rattle.smp_schedule.specs.Written.{image_words}
use Rattle.smp_schedule.proofs.Pieces.{first_put, first_fails, put_fails, more_put, last_put, started_line}
use Rattle.smp_schedule.proofs.job_writing.put_upload.Goals as goal

pub returns-in_err-put_start : goal.returns-in_err-put_start
returns-in_err-put_start g c =
    first_fails _ _ _ _ _ _ _ _ _ _ c.in_err-put_start.was c.put_start.ensures
    (started_line c.args.number (codes "upload") (c.args.file.now ∷ decimal c.args.chunk ∷ ending_word c.args.ending ∷ image_words c.args.image))
    c.from_residual.ensures.0

pub returns-in_err-put_field : goal.returns-in_err-put_field
returns-in_err-put_field g c =
    put_fails _ _ _ _ _ _ _ _ _ _ _ _ _
    (first_put _ _ _ _ _ _ _ _ c.in_ok-put_start.was c.put_start.ensures
    (started_line c.args.number (codes "upload") (c.args.file.now ∷ decimal c.args.chunk ∷ ending_word c.args.ending ∷ image_words c.args.image)))
    c.in_err-put_field.was c.put_field.ensures refl c.from_residual-in_err-put_field.ensures.0

pub returns : goal.returns
returns g c =
    last_put _ _ _ _ _ _ _ _ _
    (more_put _ _ _ _ _ _ _ _ _ _ _
    (first_put _ _ _ _ _ _ _ _ c.in_ok-put_start.was c.put_start.ensures
    (started_line c.args.number (codes "upload") (c.args.file.now ∷ decimal c.args.chunk ∷ ending_word c.args.ending ∷ image_words c.args.image)))
    c.in_ok-put_field.was c.put_field.ensures refl)
    c.put_parts.ensures
