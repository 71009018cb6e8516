use Rattle.std.proofs.Common.{sym, ◌∙◌}
use Rattle.smp_header.specs.Message.{message_of}
use Rattle.smp_client.specs.Waits.{message_at}
use Rattle.smp_client.proofs.Answering.{answer_then, answer_else}
use Rattle.smp_client.proofs.session.answer_in.Goals as goal

pub returns-then-is_reply : goal.returns-then-is_reply
returns-then-is_reply c own =
    answer_then (message_at own c.args.header.now) c.args.header.now.asked (message_of c.args.packet.now) _ (sym (c.is_reply.ensures own) ∙ c.if-is_reply.true) c.answer_of.ensures

pub returns-else-is_reply : goal.returns-else-is_reply
returns-else-is_reply c own =
    answer_else (message_at own c.args.header.now) c.args.header.now.asked (message_of c.args.packet.now) (sym (c.is_reply.ensures own) ∙ c.if-is_reply.false)
