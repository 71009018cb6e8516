use Rattle.std.proofs.Common.{◌≡◌, ◌⊎◌, ◌<◌, ◌≤◌, ℕ, List, length, sym, ◌∙◌, ap, subst}
use Rattle.std.proofs.lemmas.Result.{on_ok_weaker}
use Rattle.smp_header.specs.declared.TheConstants.{LARGEST_PACKET}
use Rattle.smp_world.specs.Lines as lines
use Rattle.smp_world.specs.Machines.{MachineState, TakesBytes, named}
use Rattle.smp_world.specs.Runs.{up}
use Rattle.smp_world.specs.Schedules.{which_of}
use Rattle.smp_world.specs.Worlds.{DoesEvent, PutsBoot, PutsLine, WorldState, up_told}
use Rattle.smp_world.specs.declared.mail.Mail.{Mail}
use Rattle.smp_world.proofs.MailSteps.{kept_machine, up_does, up_missing_does}
use Rattle.smp_world.proofs.world.World.up.Goals as goal

pub returns-in_default-clause-does : goal.returns-in_default-clause-does
returns-in_default-clause-does c =
    let w : WorldState = record { machine = c.self.inside.machine; clients = c.self.inside.clients; packets = c.self.inside.packets.items; replies = c.self.inside.replies.items; steps = c.self.inside.steps; cuts = c.self.inside.cuts; boots = c.self.inside.boots } in
    let own : length c.args.self.now.packets ≡ length w.packets = ap (λ (x : WorldState). length x.packets) (sym c.self.view_is) in
    let number : c.number_of-number.result ≡ named c.args.which (length w.packets) = c.number_of-number.ensures ∙ ap (named c.args.which) (c.sent.ensures ∙ own) in
    let past = subst (λ (n : ℕ). (n ≡ 0) ⊎ (length w.packets < n)) number (subst (λ (k : ℕ). (c.number_of-number.result ≡ 0) ⊎ (k < c.number_of-number.result)) (c.sent-2.ensures ∙ own) (c.place_of.ensures.none c.in_default.is)) in
    on_ok_weaker c.put_up_missing.result
    (λ put. subst (λ (x : WorldState). DoesEvent (up (which_of c.args.which)) x x c.args.text.now.held c.put_up_missing.new.text.held) c.self.view_is
    (up_missing_does c.args.which w c.args.text.now.held c.put_up_missing.new.text.held past
    (subst (λ (n : ℕ). PutsLine (lines.up n lines.missing) c.args.text.now.held c.put_up_missing.new.text.held) number put)))
    c.put_up_missing.ensures

pub returns-clause-does : goal.returns-clause-does
returns-clause-does c =
    let w : WorldState = record { machine = c.self.inside.machine; clients = c.self.inside.clients; packets = c.self.inside.packets.items; replies = c.self.inside.replies.items; steps = c.self.inside.steps; cuts = c.self.inside.cuts; boots = c.self.inside.boots } in
    let own : length c.args.self.now.packets ≡ length w.packets = ap (λ (x : WorldState). length x.packets) (sym c.self.view_is) in
    let number : c.number_of-number.result ≡ named c.args.which (length w.packets) = c.number_of-number.ensures ∙ ap (named c.args.which) (c.sent.ensures ∙ own) in
    let few : c.in-Some.place < length w.packets = subst (λ (k : ℕ). c.in-Some.place < k) (c.sent-2.ensures ∙ own) c.in-Some.ensures.place.1 in
    let place = c.in-Some.ensures.place.0 ∙ number in
    let mail : Mail = c.index-mail.result.now in
    let machine : MachineState = c.take-taken.new.self in
    let next : WorldState = c.keep_reply.new.self in
    let fate = c.take-taken.result.fate in
    let same : next.machine ≡ machine = kept_machine fate mail.client (record w { machine = machine }) next c.in_ok-keep_reply.ensures.kept in
    let reply : c.reply.result.now ≡ machine.reply = c.reply.ensures.value ∙ ap (λ (x : WorldState). x.machine.reply) c.self-2.view_is ∙ ap (λ (x : MachineState). x.reply) same in
    let fits = subst (λ (x : List ℕ). length x ≤ LARGEST_PACKET) reply c.reply.ensures.fits in
    let takes = subst (λ (x : List ℕ). TakesBytes x fate c.take-taken.result.boot w.machine machine) c.as_slice.ensures c.take-taken.ensures in
    let put = subst (λ (n : ℕ). PutsLine (lines.up n (up_told fate (length next.replies) machine.reply)) c.args.text.now.held c.put_up.new.text.held) number
    (subst (λ (x : List ℕ). PutsLine (lines.up c.number_of-number.result (up_told fate (length next.replies) x)) c.args.text.now.held c.put_up.new.text.held) reply
    (subst (λ (n : ℕ). PutsLine (lines.up c.number_of-number.result (up_told fate n c.reply.result.now)) c.args.text.now.held c.put_up.new.text.held) c.answered.ensures c.in_ok-put_up.ensures)) in
    subst (λ (x : WorldState). DoesEvent (up (which_of c.args.which)) x c.count.new.self c.args.text.now.held c.put_boot.new.text.held) c.self.view_is
    (subst (λ (x : WorldState). DoesEvent (up (which_of c.args.which)) w x c.args.text.now.held c.put_boot.new.text.held) (sym c.count.ensures)
    (up_does c.packets_are_read_back.ensures c.args.which c.in-Some.place w next machine fate c.take-taken.result.boot mail c.args.text.now.held c.put_up.new.text.held c.put_boot.new.text.held place few c.index-mail.ensures fits takes
    c.in_ok-keep_reply.ensures.kept put (subst (λ (m : MachineState). PutsBoot c.take-taken.result.boot m c.put_up.new.text.held c.put_boot.new.text.held) same c.in_ok-put_boot.ensures)
    c.in_ok-keep_reply.ensures.tally.0 c.in_ok-keep_reply.ensures.tally.1))
