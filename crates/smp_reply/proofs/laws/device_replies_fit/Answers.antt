use Rattle.smp_reply.proofs.DeviceReplies.{replies_fit}
use Rattle.smp_reply.proofs.laws.device_replies_fit.Goals as goal

pub returns : goal.returns
returns c = replies_fit
