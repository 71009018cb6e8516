use Rattle.smp_world.proofs.Seats.{seat_waits}
use Rattle.smp_world.proofs.clients.Seat.quiet.Goals as goal

pub returns : goal.returns
returns c = seat_waits c.args.self.now (record { job = c.quiet-made.new.self; is_done = c.marked-self.result }) c.quiet-made.result c.marked-self.ensures c.quiet-made.ensures.over c.quiet-made.ensures.waited
