use Rattle.std.proofs.Common.{sym, subst}
use Rattle.std.proofs.lemmas.Result.{on_ok_weaker}
use Rattle.smp_schedule.specs.declared.event.Event.{Event}
use Rattle.smp_world.specs.Worlds.{CanStep, DoesSaid}
use Rattle.smp_world.proofs.MailSteps.{said_begins}
use Rattle.smp_world.proofs.world.World.does.Goals as goal

pub returns-in-Client-clause-does : goal.returns-in-Client-clause-does
returns-in-Client-clause-does c =
    let can = subst (λ (e : Event). CanStep c.args.self.now e) c.in-Client.is c.requires.can in
    on_ok_weaker c.begin.result
    (λ begins. subst (λ (e : Event). DoesSaid e c.args.self.now c.begin.new.self c.args.text.now.held c.begin.new.text.held) (sym c.in-Client.is)
    (said_begins c.in-Client.number c.in-Client.job c.args.self.now c.begin.new.self c.args.text.now.held c.begin.new.text.held can.0 begins))
    c.begin.ensures.does
