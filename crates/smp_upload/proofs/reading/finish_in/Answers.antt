use Rattle.std.proofs.Common.{◌∙◌}
use Rattle.smp_tlv.specs.declared.carried.Finished.{Finished}
use Rattle.smp_upload.proofs.Ends.{read_lost, ends}
use Rattle.smp_upload.proofs.Parts.{front_Calls}
use Rattle.smp_upload.proofs.reading.finish_in.Goals as goal

pub returns-in-Ok-clause-calls : goal.returns-in-Ok-clause-calls
returns-in-Ok-clause-calls g c = front_Calls c.args.layout c.args.front.now.at c.args.front.now.size _ _ _ c.requires.place c.requires.fits c.in-Ok.ensures.looks.calls

pub returns-in-Err-clause-calls : goal.returns-in-Err-clause-calls
returns-in-Err-clause-calls g c = read_lost _ _ _ c.in-Err.fault _ (c.lost.ensures.fault ∙ c.from_read.ensures)
    (front_Calls c.args.layout c.args.front.now.at c.args.front.now.size _ _ _ c.requires.place c.requires.fits (ends Finished _ _ _ c.in-Err.fault c.in-Err.ensures.looks.calls))
