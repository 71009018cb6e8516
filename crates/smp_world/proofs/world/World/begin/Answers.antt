use Rattle.std.proofs.Common.{◌≤◌, ℕ, length, sym, subst}
use Rattle.std.proofs.lemmas.Result.{on_ok_weaker}
use Rattle.smp_jobs.specs.States.{JobState}
use Rattle.smp_world.specs.Clients.{ClientsState}
use Rattle.smp_world.specs.Lines as lines
use Rattle.smp_world.specs.Worlds.{DoesBegin, KeepsPacket, PutsLine, WorldState}
use Rattle.smp_world.proofs.MailSteps.{begin_does, first_job}
use Rattle.smp_world.proofs.world.World.begin.Goals as goal

pub returns-clause-does : goal.returns-clause-does
returns-clause-does c =
    let w : WorldState = record { machine = c.self.inside.machine; clients = c.self.inside.clients; packets = c.self.inside.packets.items; replies = c.self.inside.replies.items; steps = c.self.inside.steps; cuts = c.self.inside.cuts; boots = c.self.inside.boots } in
    let next : WorldState = c.keep_packet.new.self in
    let clients : ClientsState = c.begin.new.self in
    let some = subst (λ (x : WorldState). 1 ≤ length x.clients.waiting) (sym c.self.view_is) c.requires in
    let d : JobState = first_job w.clients.waiting some in
    let keeps = subst (λ (k : ℕ). KeepsPacket k (record w { clients = clients }) next) c.count-client.ensures c.in_ok-keep_packet.ensures.kept in
    on_ok_weaker c.put_begun.result
    (λ put. subst (λ (x : WorldState). DoesBegin x next c.args.text.now.held c.put_begun.new.text.held) c.self.view_is
    (begin_does w next clients d c.args.text.now.held c.put_begun.new.text.held some c.in_ok-begin.ensures.waiting (c.in_ok-begin.ensures.begun d) keeps c.in_ok-keep_packet.ensures.tally.0 c.in_ok-keep_packet.ensures.tally.1
    (subst (λ (k : ℕ). PutsLine (lines.client_sends k (length next.packets)) c.args.text.now.held c.put_begun.new.text.held) c.count-client.ensures
    (subst (λ (n : ℕ). PutsLine (lines.client_sends c.count-client.result n) c.args.text.now.held c.put_begun.new.text.held) c.sent.ensures put))))
    c.put_begun.ensures
