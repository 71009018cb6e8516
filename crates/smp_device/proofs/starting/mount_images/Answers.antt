use Rattle.smp_device.proofs.Starts.{first_lost, mounted_behind, places_behind, target_behind}
use Rattle.smp_device.proofs.starting.mount_images.Goals as goal

pub returns-in-Ok-clause-mounts : goal.returns-in-Ok-clause-mounts
returns-in-Ok-clause-mounts g c =
    let e = c.in-Ok.ensures in
    mounted_behind c.side_laws.ensures (g.F.Flash.state c.args.flash.now).geometry (record { first = c.args.first.now; second = c.args.second.now }) c.requires.all.are c.in-Ok.zero c.mount_second.result (g.F.Flash.state c.args.flash.now) (g.F.Flash.state c.mount.new.flash) (g.F.Flash.state c.mount_second.new.flash)
    (record { moved = e.moved; done = e.done; says = e.says; layout_is = e.layout; lost_is = e.lost; idle = e.idle; unformatted = e.unformatted; readable = e.readable; ages = e.ages; worn = e.worn; fresh = e.fresh; spends = e.spends }) c.mount_second.ensures

pub returns-in-Ok-clause-places : goal.returns-in-Ok-clause-places
returns-in-Ok-clause-places g c = places_behind c.args.first.now c.args.second.now c.in-Ok.zero c.mount_second.result (g.F.Flash.state c.mount.new.flash) (g.F.Flash.state c.mount_second.new.flash) c.in-Ok.ensures.layout c.mount_second.ensures

pub returns-in-Ok-clause-target : goal.returns-in-Ok-clause-target
returns-in-Ok-clause-target g c = target_behind c.args.second.now c.in-Ok.zero c.mount_second.result (g.F.Flash.state c.mount.new.flash) (g.F.Flash.state c.mount_second.new.flash) c.mount_second.ensures

pub returns-in-Err-clause-mounts : goal.returns-in-Err-clause-mounts
returns-in-Err-clause-mounts g c =
    let e = c.in-Err.ensures in
    first_lost c.side_laws.ensures (g.F.Flash.state c.args.flash.now).geometry (record { first = c.args.first.now; second = c.args.second.now }) c.requires.all.are c.in-Err.lost (g.F.Flash.state c.args.flash.now) (g.F.Flash.state c.mount.new.flash)
    (record { moved = e.moved; done = e.done; says = e.says; layout_is = e.layout; lost_is = e.lost; idle = e.idle; unformatted = e.unformatted; readable = e.readable; ages = e.ages; worn = e.worn; fresh = e.fresh; spends = e.spends })
