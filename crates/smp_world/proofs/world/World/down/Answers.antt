use Rattle.std.proofs.Common.{◌≡◌, ◌⊎◌, ◌<◌, ℕ, List, length, None, sym, ◌∙◌, ap, subst}
use Rattle.std.proofs.lemmas.Result.{on_ok_weaker}
use Rattle.smp_jobs.specs.Clients.{client_hears_bytes}
use Rattle.smp_world.specs.Clients.{MovesClient}
use Rattle.smp_world.specs.Lines as lines
use Rattle.smp_world.specs.Machines.{named}
use Rattle.smp_world.specs.Runs.{down}
use Rattle.smp_world.specs.Schedules.{which_of}
use Rattle.smp_world.specs.Worlds.{DoesEvent, PutsMove, WorldState, move_told}
use Rattle.smp_world.specs.declared.mail.Mail.{Mail}
use Rattle.smp_world.proofs.MailSteps.{down_does, down_missing_does}
use Rattle.smp_world.proofs.world.World.down.Goals as goal

pub returns-in_default-clause-does : goal.returns-in_default-clause-does
returns-in_default-clause-does c =
    let w : WorldState = record { machine = c.self.inside.machine; clients = c.self.inside.clients; packets = c.self.inside.packets.items; replies = c.self.inside.replies.items; steps = c.self.inside.steps; cuts = c.self.inside.cuts; boots = c.self.inside.boots } in
    let own : length c.args.self.now.replies ≡ length w.replies = ap (λ (x : WorldState). length x.replies) (sym c.self.view_is) in
    let number : c.number_of-number.result ≡ named c.args.which (length w.replies) = c.number_of-number.ensures ∙ ap (named c.args.which) (c.answered.ensures ∙ own) in
    let past = subst (λ (n : ℕ). (n ≡ 0) ⊎ (length w.replies < n)) number (subst (λ (k : ℕ). (c.number_of-number.result ≡ 0) ⊎ (k < c.number_of-number.result)) (c.answered-2.ensures ∙ own) (c.place_of.ensures.none c.in_default.is)) in
    on_ok_weaker c.put_down.result
    (λ put. subst (λ (x : WorldState). DoesEvent (down (which_of c.args.which)) x x c.args.text.now.held c.put_down.new.text.held) c.self.view_is
    (down_missing_does c.args.which w c.args.text.now.held c.put_down.new.text.held past
    (subst (λ (n : ℕ). PutsMove (lines.down n) (move_told None 0) c.args.text.now.held c.put_down.new.text.held) number put)))
    c.put_down.ensures

pub returns-clause-does : goal.returns-clause-does
returns-clause-does c =
    let w : WorldState = record { machine = c.self.inside.machine; clients = c.self.inside.clients; packets = c.self.inside.packets.items; replies = c.self.inside.replies.items; steps = c.self.inside.steps; cuts = c.self.inside.cuts; boots = c.self.inside.boots } in
    let own : length c.args.self.now.replies ≡ length w.replies = ap (λ (x : WorldState). length x.replies) (sym c.self.view_is) in
    let number : c.number_of-number.result ≡ named c.args.which (length w.replies) = c.number_of-number.ensures ∙ ap (named c.args.which) (c.answered.ensures ∙ own) in
    let few : c.in-Some.place < length w.replies = subst (λ (k : ℕ). c.in-Some.place < k) (c.answered-2.ensures ∙ own) c.in-Some.ensures.place.1 in
    let place = c.in-Some.ensures.place.0 ∙ number in
    let mail : Mail = c.index-mail.result.now in
    let next : WorldState = c.keep_sent.new.self in
    let moves = subst (λ (x : List ℕ). MovesClient mail.client (λ a. client_hears_bytes a x) c.hear-made.result w.clients c.hear-made.new.self) c.as_slice.ensures c.hear-made.ensures.moves in
    on_ok_weaker c.put_down-2.result
    (λ put. subst (λ (x : WorldState). DoesEvent (down (which_of c.args.which)) x next c.args.text.now.held c.put_down-2.new.text.held) c.self.view_is
    (down_does c.args.which c.in-Some.place w next c.hear-made.new.self c.hear-made.result mail c.args.text.now.held c.put_down-2.new.text.held place few c.index-mail.ensures moves c.in_ok-keep_sent.ensures.kept c.in_ok-keep_sent.ensures.tally.0 c.in_ok-keep_sent.ensures.tally.1
    (subst (λ (n : ℕ). PutsMove (lines.down n) (move_told c.hear-made.result (length next.packets)) c.args.text.now.held c.put_down-2.new.text.held) number
    (subst (λ (n : ℕ). PutsMove (lines.down c.number_of-number.result) (move_told c.hear-made.result n) c.args.text.now.held c.put_down-2.new.text.held) c.sent.ensures put))))
    c.put_down-2.ensures
