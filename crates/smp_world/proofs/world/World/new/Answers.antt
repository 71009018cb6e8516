use Rattle.std.proofs.Common.{Ok, sym, subst}
use Rattle.smp_flash.specs.Memory.{memory_of}
use Rattle.smp_world.specs.Worlds.{OpensWorld, WorldState}
use Rattle.smp_world.proofs.WorldOpens.{world_opens}
use Rattle.smp_world.proofs.world.World.new.Goals as goal

pub returns-in-Ok-clause-opens : goal.returns-in-Ok-clause-opens
returns-in-Ok-clause-opens c = subst (λ (x : WorldState). OpensWorld (Ok x) (memory_of c.args.flash) c.args.jobs.items) (sym c.over.ensures) (world_opens c.in-Ok.machine (memory_of c.args.flash) c.args.jobs.items c.in-Ok.ensures.formatted)
