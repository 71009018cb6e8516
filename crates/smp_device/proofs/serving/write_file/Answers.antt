use Rattle.smp_device.specs.Up.{up_of}
use Rattle.smp_device.proofs.ServingFiles.{file_served}
use Rattle.smp_device.proofs.serving.write_file.Goals as goal

pub returns-clause-serves : goal.returns-clause-serves
returns-clause-serves c = λ sizes settings counters a says.
    file_served sizes c.args.off c.args.bytes.now c.args.len c.args.name.now c.write-answer.result c.file_reply.result (up_of c.args.images settings c.args.files.now counters) c.write-answer.new.self a says c.file_reply.ensures.reply c.write-answer.ensures
