use Rattle.std.proofs.Common.{sym, subst}
use Rattle.std.proofs.lemmas.Result.{on_ok_weaker}
use Rattle.smp_world.specs.Runs.{boot}
use Rattle.smp_world.specs.Worlds.{DoesEvent, WorldState}
use Rattle.smp_world.proofs.WorldSteps.{boot_does}
use Rattle.smp_world.proofs.world.World.boot.Goals as goal

pub returns-clause-does : goal.returns-clause-does
returns-clause-does c =
    let w : WorldState = record { machine = c.self.inside.machine; clients = c.self.inside.clients; packets = c.self.inside.packets.items; replies = c.self.inside.replies.items; steps = c.self.inside.steps; cuts = c.self.inside.cuts; boots = c.self.inside.boots } in
    subst (λ (x : WorldState). DoesEvent boot x c.count.new.self c.args.text.now.held c.put_boot.new.text.held) c.self.view_is
    (subst (λ (x : WorldState). DoesEvent boot w x c.args.text.now.held c.put_boot.new.text.held) (sym c.count.ensures)
    (boot_does w c.boot.new.self c.boot.result c.args.text.now.held c.put_boot.new.text.held c.boot.ensures c.in_ok-put_boot.ensures))
