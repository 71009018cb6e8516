use Rattle.smp_upload.proofs.Looks.{front_0_Calls}
use Rattle.smp_upload.proofs.reading.is_good_at.Goals as goal

pub returns-clause-calls : goal.returns-clause-calls
returns-clause-calls g c = front_0_Calls c.args.layout c.args.front.now.at c.args.front.now.size _ _ _ c.requires.place c.requires.fits c.is_good_in.ensures.calls
