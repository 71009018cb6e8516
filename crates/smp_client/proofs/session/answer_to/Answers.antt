use Rattle.smp_header.specs.Message.{message_of}
use Rattle.smp_client.specs.Waits.{message_at}
use Rattle.smp_client.proofs.Answering.{answer_of_some}
use Rattle.smp_client.proofs.session.answer_to.Goals as goal

pub returns-in-Some : goal.returns-in-Some
returns-in-Some c own =
    answer_of_some (message_at own c.args.header.now) c.args.header.now.asked c.args.bytes.now (message_of c.in-Some.packet) _ c.in-Some.ensures.packet (c.answer_in.ensures own)
