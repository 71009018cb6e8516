use Rattle.std.proofs.Common.{sym, subst, refl, Ok, Err, Option}
use Rattle.smp_flash.specs.declared.layout.Layout.{Layout}
use Rattle.smp_device.specs.Starting.{MountsBehind, both_images}
use Rattle.smp_device.proofs.starting.mount_second.Goals as goal

pub returns-in-Ok : goal.returns-in-Ok
returns-in-Ok g c =
    let e = c.in-Ok.ensures in
    subst (λ (o : Option Layout). MountsBehind o c.args.zero (Ok (both_images c.args.zero c.in-Ok.one)) (g.F.Flash.state c.args.flash.now) (g.F.Flash.state c.mount.new.flash)) (sym c.in-Some.is)
    (c.in-Ok.one, (refl, record { moved = e.moved; done = e.done; says = e.says; layout_is = e.layout; lost_is = e.lost; idle = e.idle; unformatted = e.unformatted; readable = e.readable; ages = e.ages; worn = e.worn; fresh = e.fresh; spends = e.spends }))

pub returns-in-Err : goal.returns-in-Err
returns-in-Err g c =
    let e = c.in-Err.ensures in
    subst (λ (o : Option Layout). MountsBehind o c.args.zero (Err c.in-Err.lost.fault) (g.F.Flash.state c.args.flash.now) (g.F.Flash.state c.mount.new.flash)) (sym c.in-Some.is)
    (c.in-Err.lost, (refl, record { moved = e.moved; done = e.done; says = e.says; layout_is = e.layout; lost_is = e.lost; idle = e.idle; unformatted = e.unformatted; readable = e.readable; ages = e.ages; worn = e.worn; fresh = e.fresh; spends = e.spends }))
