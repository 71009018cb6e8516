-- Events that happen one after another, and what is put of them.
use Rattle.std.proofs.Common.{◌≡◌, ℕ, ◌+◌, ◌≤◌, List, [], ◌∷◌, ◌++◌, length, Option, refl, sym, ap, ◌∙◌, append_assoc, append-nil, subst, arith}
use Rattle.std.proofs.lemmas.List.Concat.{flat_map-append}
use Rattle.smp_edge.specs.Sink.{AppendsFront}
use Rattle.smp_jobs.specs.Jobs.{Job}
use Rattle.smp_model.specs.declared.device.Sizes.{Sizes}
use Rattle.smp_schedule.specs.declared.event.Event.{Event as Said}
use Rattle.smp_schedule.specs.declared.event.Event.TheVariants as said
use Rattle.smp_schedule.specs.Lawful.{AreEvents}
use Rattle.smp_world.specs.Lines.{lines_text}
use Rattle.smp_world.specs.Runs.{Event, Happens, Moment, Run, State, state_at_end}
use Rattle.smp_world.specs.Schedules.{AreEventsOf}
use Rattle.smp_world.specs.Worlds.{CanStep, CountsClients, StandsNow, Steps, WorldState}
use Rattle.smp_app.specs.Gathering.{PutOn}
use Rattle.smp_app.specs.Playing.{AllRun, BreaksAll, BreaksOff, BreaksOne, CanPlay, Going, GoesOn, Plays, PlaysAll, PlaysOne, clients_in, text_of}
use Rattle.smp_app.proofs.Putting.{known_none, then_known, none_put}

-- One event.

pub one_plays : (event : Said) (before after : WorldState) (old new : Option (List ℕ)) (held_before full held : List ℕ)
    → Steps event before after held_before full → PutOn old new full held → PlaysOne event before after old new held_before held
one_plays event before after old new held_before full held steps put sizes jobs s e is stands =
    let step = steps sizes jobs s e is stands in
    (step.moment, step.happens, step.stands, subst (λ (bytes : List ℕ). PutOn old new bytes held) step.spelled put)

pub one_breaks : (event : Said) (before after : WorldState) (old new : Option (List ℕ)) (held full : List ℕ)
    → Steps event before after held full → AppendsFront old new full → BreaksOne event before old new held
one_breaks event before after old new held full steps front sizes jobs s e is stands =
    let step = steps sizes jobs s e is stands in
    (step.moment, step.happens, subst (AppendsFront old new) step.spelled front)

-- where nothing was put, some moment would have come of it
a_moment : (sizes : Sizes) (s : State) (e : Event) (moments : List Moment) → Run sizes s (e ∷ []) moments → (m : Moment) × Happens sizes s e m
a_moment sizes s e [] r = absurd r
a_moment sizes s e (m ∷ moments) r = (m, r.0)

pub one_is_lost : AllRun → (event : Said) (before : WorldState) (old new : Option (List ℕ)) (held : List ℕ) → new ≡ old
    → BreaksOne event before old new held
one_is_lost run event before old new held same sizes jobs s e is stands =
    let some = run sizes s (e ∷ []) in
    let m = a_moment sizes s e some.0 some.1 in
    (m.0, m.1, none_put old new (held ++ lines_text m.0.lines) same)

-- Events.

text_more : (moments more : List Moment) → text_of (moments ++ more) ≡ text_of moments ++ text_of more
text_more moments more = flat_map-append (λ (m : Moment). lines_text m.lines) moments more

end_more : (s : State) (moments : List Moment) (m : Moment) → state_at_end s (moments ++ m ∷ []) ≡ m.state
end_more s [] m = refl
end_more s (n ∷ moments) m = end_more n.state moments m

pub begins : (said : List Said) (w : WorldState) (old : Option (List ℕ)) (held : List ℕ) → held ≡ [] → GoesOn said said w w old old held
begins said w old held none sizes jobs s events are stands = record {
  moments = [];
  left = events;
  are_left = are;
  stands = stands;
  goes = λ more run. run;
  put = record { front = []; split = sym none; appended = known_none old };
}

-- what was put and held, and then more of it
put_more : (old mid new : Option (List ℕ)) (text held more now : List ℕ) → PutOn old mid text held → PutOn mid new (held ++ more) now
    → PutOn old new (text ++ more) now
put_more old mid new text held more now first second = record {
  front = first.front ++ second.front;
  split =
      ap (λ (xs : List ℕ). xs ++ more) first.split
      ∙ append_assoc first.front held more
      ∙ ap (λ (xs : List ℕ). first.front ++ xs) second.split
      ∙ sym (append_assoc first.front second.front now);
  appended = then_known old mid new first.front second.front first.appended second.appended;
}

front_more : (old mid new : Option (List ℕ)) (text held more later : List ℕ) → PutOn old mid text held → AppendsFront mid new (held ++ more)
    → AppendsFront old new (text ++ (more ++ later))
front_more old mid new text held more later first second = record {
  front = first.front ++ second.front;
  rest = second.rest ++ later;
  split =
      ap (λ (xs : List ℕ). xs ++ (more ++ later)) first.split
      ∙ append_assoc first.front held (more ++ later)
      ∙ ap (λ (xs : List ℕ). first.front ++ xs)
      (sym (append_assoc held more later) ∙ ap (λ (xs : List ℕ). xs ++ later) second.split ∙ append_assoc second.front second.rest later)
      ∙ sym (append_assoc first.front second.front (second.rest ++ later));
  appended = then_known old mid new first.front second.front first.appended second.appended;
}

stepped : (sizes : Sizes) (jobs : List Job) (s : State) (events : List Event) (event : Said) (later : List Said) (w after : WorldState)
    (old mid new : Option (List ℕ)) (held_before held : List ℕ) (moments : List Moment) (left : List Event)
    → AreEventsOf jobs (event ∷ later) left → StandsNow sizes jobs w (state_at_end s moments)
    → ((more : List Moment) → Run sizes (state_at_end s moments) left more → Run sizes s events (moments ++ more))
    → PutOn old mid (text_of moments) held_before → PlaysOne event w after mid new held_before held
    → Going sizes jobs s events later after old new held
stepped sizes jobs s events event later w after old mid new held_before held moments [] are stands goes put one = absurd are
stepped sizes jobs s events event later w after old mid new held_before held moments (e ∷ left) are stands goes put one =
    let next = one sizes jobs (state_at_end s moments) e are.0 stands in
    let end : state_at_end s (moments ++ next.0 ∷ []) ≡ next.0.state = end_more s moments next.0 in
    let text : text_of (moments ++ next.0 ∷ []) ≡ text_of moments ++ lines_text next.0.lines =
    text_more moments (next.0 ∷ []) ∙ ap (λ (xs : List ℕ). text_of moments ++ xs) (append-nil (lines_text next.0.lines)) in
    record {
      moments = moments ++ next.0 ∷ [];
      left = left;
      are_left = are.1;
      stands = subst (StandsNow sizes jobs after) (sym end) next.2;
      goes = λ more run.
          let as_said : Run sizes next.0.state left more = subst (λ (t : State). Run sizes t left more) end run in
          subst (Run sizes s events) (sym (append_assoc moments (next.0 ∷ []) more)) (goes (next.0 ∷ more) (next.1, as_said));
      put = subst (λ (xs : List ℕ). PutOn old new xs held) (sym text) (put_more old mid new (text_of moments) held_before (lines_text next.0.lines) held put next.3);
    }

pub goes_on : (said rest later : List Said) (event : Said) (before w after : WorldState) (old mid new : Option (List ℕ)) (held_before held : List ℕ)
    → rest ≡ event ∷ later → GoesOn said rest before w old mid held_before → PlaysOne event w after mid new held_before held
    → GoesOn said later before after old new held
goes_on said rest later event before w after old mid new held_before held split so_far one sizes jobs s events are stands =
    let so = so_far sizes jobs s events are stands in
    stepped sizes jobs s events event later w after old mid new held_before held so.moments so.left
    (subst (λ (xs : List Said). AreEventsOf jobs xs so.left) split so.are_left) so.stands so.goes so.put one

ended : (sizes : Sizes) (jobs : List Job) (s : State) (events : List Event) (w : WorldState) (old new : Option (List ℕ)) (held : List ℕ) (moments : List Moment) (left : List Event)
    → AreEventsOf jobs [] left → StandsNow sizes jobs w (state_at_end s moments)
    → ((more : List Moment) → Run sizes (state_at_end s moments) left more → Run sizes s events (moments ++ more))
    → PutOn old new (text_of moments) held → Plays sizes jobs s events w old new held
ended sizes jobs s events w old new held moments [] are stands goes put = record {
  moments = moments;
  run = subst (Run sizes s events) (append-nil moments) (goes [] tt);
  stands = stands;
  put = put;
}
ended sizes jobs s events w old new held moments (e ∷ left) are stands goes put = absurd are

pub has_played : (said rest : List Said) (before w : WorldState) (old new : Option (List ℕ)) (held : List ℕ) → rest ≡ []
    → GoesOn said rest before w old new held → PlaysAll said before w old new held
has_played said rest before w old new held none so_far sizes jobs s events are stands =
    let so = so_far sizes jobs s events are stands in
    ended sizes jobs s events w old new held so.moments so.left (subst (λ (xs : List Said). AreEventsOf jobs xs so.left) none so.are_left) so.stands so.goes so.put

broken : AllRun → (sizes : Sizes) (jobs : List Job) (s : State) (events : List Event) (event : Said) (later : List Said) (w : WorldState)
    (old mid new : Option (List ℕ)) (held : List ℕ) (moments : List Moment) (left : List Event)
    → AreEventsOf jobs (event ∷ later) left → StandsNow sizes jobs w (state_at_end s moments)
    → ((more : List Moment) → Run sizes (state_at_end s moments) left more → Run sizes s events (moments ++ more))
    → PutOn old mid (text_of moments) held → BreaksOne event w mid new held
    → BreaksOff sizes s events old new
broken run sizes jobs s events event later w old mid new held moments [] are stands goes put one = absurd are
broken run sizes jobs s events event later w old mid new held moments (e ∷ left) are stands goes put one =
    let next = one sizes jobs (state_at_end s moments) e are.0 stands in
    let others = run sizes next.0.state left in
    record {
      moments = moments ++ next.0 ∷ others.0;
      run = goes (next.0 ∷ others.0) (next.1, others.1);
      front = subst (AppendsFront old new) (sym (text_more moments (next.0 ∷ others.0)))
          (front_more old mid new (text_of moments) held (lines_text next.0.lines) (text_of others.0) put next.2);
    }

pub is_broken : AllRun → (said rest later : List Said) (event : Said) (before w : WorldState) (old mid new : Option (List ℕ)) (held : List ℕ)
    → rest ≡ event ∷ later → GoesOn said rest before w old mid held → BreaksOne event w mid new held → BreaksAll said before old new
is_broken run said rest later event before w old mid new held split so_far one sizes jobs s events are stands =
    let so = so_far sizes jobs s events are stands in
    broken run sizes jobs s events event later w old mid new held so.moments so.left
    (subst (λ (xs : List Said). AreEventsOf jobs xs so.left) split so.are_left) so.stands so.goes so.put one

-- Clients begin in their order.

pub can_step : (w : WorldState) (event : Said) (later : List Said) → CanPlay w (event ∷ later) → CanStep w event
can_step w (said.Client number words) later h = (h.lawful.0.0, omega (arith, h.jobs))
can_step w (said.Raw bytes) later h = tt
can_step w (said.Up packet) later h = tt
can_step w (said.Down reply) later h = tt
can_step w (said.Quiet client) later h = tt
can_step w (said.Armed arm) later h = h.lawful.0.0.0
can_step w said.Boot later h = tt

clients_left : (event : Said) (later : List Said) (w after : WorldState) → CountsClients event w after → clients_in (event ∷ later) ≤ length w.clients.waiting
    → clients_in later ≤ length after.clients.waiting
clients_left (said.Client number words) later w after counts room = omega (arith, counts.1, room)
clients_left (said.Raw bytes) later w after counts room = omega (arith, counts.1, room)
clients_left (said.Up packet) later w after counts room = omega (arith, counts.1, room)
clients_left (said.Down reply) later w after counts room = omega (arith, counts.1, room)
clients_left (said.Quiet client) later w after counts room = omega (arith, counts.1, room)
clients_left (said.Armed arm) later w after counts room = omega (arith, counts.1, room)
clients_left said.Boot later w after counts room = omega (arith, counts.1, room)

lawful_left : (event : Said) (later : List Said) (w after : WorldState) → CountsClients event w after → AreEvents (length w.clients.begun) (event ∷ later)
    → AreEvents (length after.clients.begun) later
lawful_left (said.Client number words) later w after counts h = subst (λ (k : ℕ). AreEvents k later) (h.0.0 ∙ sym counts.0) h.1
lawful_left (said.Raw bytes) later w after counts h = subst (λ (k : ℕ). AreEvents k later) (sym counts.0) h.1
lawful_left (said.Up packet) later w after counts h = subst (λ (k : ℕ). AreEvents k later) (sym counts.0) h.1
lawful_left (said.Down reply) later w after counts h = subst (λ (k : ℕ). AreEvents k later) (sym counts.0) h.1
lawful_left (said.Quiet client) later w after counts h = subst (λ (k : ℕ). AreEvents k later) (sym counts.0) h.1
lawful_left (said.Armed arm) later w after counts h = subst (λ (k : ℕ). AreEvents k later) (sym counts.0) h.1
lawful_left said.Boot later w after counts h = subst (λ (k : ℕ). AreEvents k later) (sym counts.0) h.1

pub can_go_on : (w after : WorldState) (event : Said) (later : List Said) → CanPlay w (event ∷ later) → after.steps ≡ w.steps + 1
    → CountsClients event w after → CanPlay after later
can_go_on w after event later h count counts = record {
  lawful = lawful_left event later w after counts h.lawful;
  jobs = clients_left event later w after counts h.jobs;
  steps = omega (arith, count, h.steps);
}
