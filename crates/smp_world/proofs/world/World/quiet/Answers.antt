use Rattle.std.proofs.Common.{ℕ, subst}
use Rattle.std.proofs.lemmas.Result.{on_ok_weaker}
use Rattle.smp_world.specs.Lines as lines
use Rattle.smp_world.specs.Runs.{quiet}
use Rattle.smp_world.specs.Worlds.{DoesEvent, PutsMove, WorldState, move_told}
use Rattle.smp_world.proofs.MailSteps.{quiet_does}
use Rattle.smp_world.proofs.world.World.quiet.Goals as goal

pub returns-clause-does : goal.returns-clause-does
returns-clause-does c =
    let w : WorldState = record { machine = c.self.inside.machine; clients = c.self.inside.clients; packets = c.self.inside.packets.items; replies = c.self.inside.replies.items; steps = c.self.inside.steps; cuts = c.self.inside.cuts; boots = c.self.inside.boots } in
    let next : WorldState = c.keep_sent.new.self in
    on_ok_weaker c.put_quiet.result
    (λ put. subst (λ (x : WorldState). DoesEvent (quiet c.args.client) x next c.args.text.now.held c.put_quiet.new.text.held) c.self.view_is
    (quiet_does c.args.client w next c.quiet-made.new.self c.quiet-made.result c.args.text.now.held c.put_quiet.new.text.held c.quiet-made.ensures.moves c.in_ok-keep_sent.ensures.kept c.in_ok-keep_sent.ensures.tally.0 c.in_ok-keep_sent.ensures.tally.1
    (subst (λ (n : ℕ). PutsMove (lines.quiet c.args.client) (move_told c.quiet-made.result n) c.args.text.now.held c.put_quiet.new.text.held) c.sent.ensures put)))
    c.put_quiet.ensures
