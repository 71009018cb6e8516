use Rattle.smp_model.proofs.Keeping.{beside_images, same_images, part_counters}
use Rattle.smp_model.proofs.laws.requests_keep_to_their_part.Goals as goal

pub returns-clause-images : goal.returns-clause-images
returns-clause-images c = beside_images

pub returns-clause-others : goal.returns-clause-others
returns-clause-others c = same_images

pub returns-clause-counters : goal.returns-clause-counters
returns-clause-counters c = part_counters
