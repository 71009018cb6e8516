use Rattle.smp_world.proofs.NamedMail.{event_named}
use Rattle.smp_world.proofs.laws.lines_name_their_mail.Goals as goal

pub returns : goal.returns
returns c = event_named
