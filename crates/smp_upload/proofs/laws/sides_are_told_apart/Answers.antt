use Rattle.smp_upload.proofs.Sides.{one_side}
use Rattle.smp_upload.proofs.laws.sides_are_told_apart.Goals as goal

pub returns : goal.returns
returns c = one_side c.records_are_told_apart.ensures
