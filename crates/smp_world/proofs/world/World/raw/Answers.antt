use Rattle.std.proofs.Common.{ℕ, List, sym, subst}
use Rattle.std.proofs.lemmas.Result.{on_ok_weaker}
use Rattle.smp_world.specs.Lines as lines
use Rattle.smp_world.specs.Runs.{raw}
use Rattle.smp_world.specs.Worlds.{DoesEvent, PutsLine, WorldState, raw_told}
use Rattle.smp_world.proofs.WorldSteps.{raw_does}
use Rattle.smp_world.proofs.world.World.raw.Goals as goal

pub returns-clause-does : goal.returns-clause-does
returns-clause-does c =
    let w : WorldState = record { machine = c.self.inside.machine; clients = c.self.inside.clients; packets = c.self.inside.packets.items; replies = c.self.inside.replies.items; steps = c.self.inside.steps; cuts = c.self.inside.cuts; boots = c.self.inside.boots } in
    let put = subst (λ (x : List ℕ). PutsLine (lines.raw (raw_told c.take-taken.result.fate x)) c.args.text.now.held c.put_raw.new.text.held) c.reply.ensures.value c.in_ok-put_raw.ensures in
    subst (λ (x : WorldState). DoesEvent (raw c.args.bytes.now) x c.count.new.self c.args.text.now.held c.put_boot.new.text.held) c.self.view_is
    (subst (λ (x : WorldState). DoesEvent (raw c.args.bytes.now) w x c.args.text.now.held c.put_boot.new.text.held) (sym c.count.ensures)
    (raw_does c.args.bytes.now w c.take-taken.new.self c.take-taken.result.fate c.take-taken.result.boot c.args.text.now.held c.put_raw.new.text.held c.put_boot.new.text.held c.take-taken.ensures put c.in_ok-put_boot.ensures))
