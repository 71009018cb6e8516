-- A world that is opened stands for the first state of its runs.
use Rattle.std.proofs.Common.{List, [], Ok}
use Rattle.smp_flash.specs.Memory.{Memory}
use Rattle.smp_jobs.specs.States.{JobState}
use Rattle.smp_world.specs.Machines.{MachineState, OpensFormatted}
use Rattle.smp_world.specs.Worlds.{OpensWorld}

pub world_opens : (m : MachineState) (before : Memory) (states : List JobState) → OpensFormatted (Ok m) before
    → OpensWorld (Ok (record { machine = m; clients = record { begun = []; waiting = states }; packets = []; replies = []; steps = 0; cuts = 0; boots = 0 })) before states
world_opens m before states h g image second jobs f waits =
    let up = h g image second f in
    record {
      machine = up.stands;
      sizes_are = up.sizes_are;
      up = up.up;
      armed = up.armed;
      clients = record { seats = tt; waiting = waits };
      packets = tt;
      replies = tt;
    }
