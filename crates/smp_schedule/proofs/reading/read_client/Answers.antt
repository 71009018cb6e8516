-- A line with more words than a job has.
use Rattle.smp_schedule.proofs.Longest.{refused_client}
use Rattle.smp_schedule.proofs.reading.read_client.Goals as goal

pub returns-in-None : goal.returns-in-None
returns-in-None c = refused_client c.args.clients c.args.fields.now c.next.new.self c.in-Some.number.now c.in-Some.ensures (rw c.in-None.is at c.in_ok-words.ensures)
