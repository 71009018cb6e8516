use Rattle.smp_world.proofs.Arming.{armed_line_strikes}
use Rattle.smp_world.proofs.laws.armed_troubles_strike_in_time.Goals as goal

pub returns : goal.returns
returns c = armed_line_strikes
