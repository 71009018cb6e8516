-- The events read so far, and those of the lines that are left.
use Rattle.std.proofs.Common.{◌≡◌, ℕ, suc, ◌+◌, true, false, List, [], ◌∷◌, ◌++◌, length, Option, Some, None, Result, Ok, Err, refl, sym, ap, ◌∙◌, arith, add-one, append-nil, append_assoc, length-append}
use Rattle.smp_schedule.specs.declared.event.Event.{Event}
use Rattle.smp_schedule.specs.Fields.{is_skipped}
use Rattle.smp_schedule.specs.Schedules.{after, events_left, events_from, onto_events, event_at, clients_with, clients_after}

pub skips : (events : List Event) (clients number next : ℕ) (line : List ℕ) (lines : List (List ℕ)) → is_skipped line ≡ true → next ≡ number + 1
    → events_left events clients number (line ∷ lines) ≡ events_left events clients next lines
skips events clients number next line lines is e = rw (is, e, add-one) refl

after_onto : (events : List Event) (number : ℕ) (event : Event) (others : Result (List Event) ℕ)
    → after events (onto_events number (Some event) others) ≡ after (events ++ event ∷ []) others
after_onto events number event (Ok more) = ap Ok (sym (append_assoc events (event ∷ []) more))
after_onto events number event (Err line) = refl

longer : (events : List Event) (event : Event) → suc (length events) ≡ length (events ++ event ∷ [])
longer events event = omega (arith, length-append events (event ∷ []))

pub takes : (events : List Event) (clients number next : ℕ) (line : List ℕ) (event : Event) (lines : List (List ℕ)) → is_skipped line ≡ false
    → event_at clients (length events) line ≡ Some event → next ≡ number + 1
    → events_left events clients number (line ∷ lines) ≡ events_left (events ++ event ∷ []) (clients_after event clients) next lines
takes events clients number next line event lines isnt is e =
    let at = event_at clients (length events) line in
    rw isnt (
    ap (λ (o : Option Event). after events (onto_events number o (events_from (suc number) (clients_with o clients) (suc (length events)) lines))) is
    ∙ after_onto events number event (events_from (suc number) (clients_after event clients) (suc (length events)) lines)
    ∙ ap (λ (n : ℕ). after (events ++ event ∷ []) (events_from (suc number) (clients_after event clients) n lines)) (longer events event)
    ∙ ap (λ (n : ℕ). events_left (events ++ event ∷ []) (clients_after event clients) n lines) (sym (e ∙ add-one number)))

pub refuses : (events : List Event) (clients number : ℕ) (line : List ℕ) (lines : List (List ℕ)) → is_skipped line ≡ false
    → event_at clients (length events) line ≡ None → events_left events clients number (line ∷ lines) ≡ Err number
refuses events clients number line lines isnt is =
    rw isnt (ap (λ (o : Option Event). after events (onto_events number o (events_from (suc number) (clients_with o clients) (suc (length events)) lines))) is)

pub no_more : (events : List Event) (clients number : ℕ) → events_left events clients number [] ≡ Ok events
no_more events clients number = ap Ok (append-nil events)
