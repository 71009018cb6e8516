use Rattle.smp_world.proofs.Seats.{seat_hears}
use Rattle.smp_world.proofs.clients.Seat.hear.Goals as goal

pub returns : goal.returns
returns c = seat_hears c.args.packet.now c.args.self.now (record { job = c.hear-made.new.self; is_done = c.marked-self.result }) c.hear-made.result c.marked-self.ensures c.hear-made.ensures.over c.hear-made.ensures.heard
