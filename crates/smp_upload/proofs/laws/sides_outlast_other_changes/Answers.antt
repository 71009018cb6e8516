use Rattle.smp_upload.proofs.Frames.{stand_outlast, say_outlast}
use Rattle.smp_upload.proofs.laws.sides_outlast_other_changes.Goals as goal

pub returns-clause-stand : goal.returns-clause-stand
returns-clause-stand c = stand_outlast

pub returns-clause-say : goal.returns-clause-say
returns-clause-say c = say_outlast c.progress_outlasts_other_changes.ensures.says
