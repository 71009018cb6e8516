use Rattle.std.proofs.Common.{◌≡◌, ◌+◌, ◌++◌, ◌∷◌, [], ℕ, List, false, Some, length, refl, sym, ap, ◌∙◌}
use Rattle.smp_schedule.specs.declared.event.Event.{Event}
use Rattle.smp_schedule.specs.Fields.{is_skipped}
use Rattle.smp_schedule.specs.Schedules.{event_at, events_left}
use Rattle.smp_schedule.proofs.Events.{takes}
use Rattle.smp_schedule.proofs.schedule.take_line.Goals as goal

pub returns-clause-events : goal.returns-clause-events
returns-clause-events c lines =
    let now = c.args.reading.now in
    let event = c.in_ok-event.event in
    let isnt : is_skipped c.args.line.now ≡ false = sym c.is_skipped.ensures ∙ c.if-is_skipped.false in
    let is : event_at now.clients (length now.events.items) c.args.line.now ≡ Some event =
    ap (λ (n : ℕ). event_at now.clients n c.args.line.now) (sym c.count_of-count.ensures) ∙ c.in_ok-event.ensures in
    takes now.events.items now.clients now.number (now.number + 1) c.args.line.now event lines isnt is refl
    ∙ ap (λ (k : ℕ). events_left (now.events.items ++ event ∷ []) k (now.number + 1) lines) (sym c.clients_after-clients.ensures)
    ∙ ap (λ (es : List Event). events_left es c.clients_after-clients.result (now.number + 1) lines) (sym c.in-Ok.ensures)
