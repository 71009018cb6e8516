use Rattle.std.proofs.Common.{◌<◌, sym, subst}
use Rattle.std.proofs.lemmas.Result.{on_ok_weaker}
use Rattle.smp_world.specs.Worlds.{Steps, WorldState}
use Rattle.smp_world.proofs.MailSteps.{step_does}
use Rattle.smp_world.proofs.world.World.step.Goals as goal

pub returns-clause-steps : goal.returns-clause-steps
returns-clause-steps c =
    let w : WorldState = record { machine = c.self.inside.machine; clients = c.self.inside.clients; packets = c.self.inside.packets.items; replies = c.self.inside.replies.items; steps = c.self.inside.steps; cuts = c.self.inside.cuts; boots = c.self.inside.boots } in
    let few = subst (λ (x : WorldState). x.steps < 500000000) (sym c.self.view_is) c.requires.few in
    on_ok_weaker c.does.result
    (λ does. subst (λ (x : WorldState). Steps c.args.event.now x c.does.new.self c.args.text.now.held c.does.new.text.held) c.self.view_is
    (step_does c.args.event.now w c.does.new.self c.args.text.now.held c.does.new.text.held c.does.ensures.count few does))
    c.does.ensures.does
