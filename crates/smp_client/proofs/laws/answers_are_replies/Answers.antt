use Rattle.smp_client.proofs.Replies.{answers_are_replies}
use Rattle.smp_client.proofs.laws.answers_are_replies.Goals as goal

pub returns : goal.returns
returns c = answers_are_replies
