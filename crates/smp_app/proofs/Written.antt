-- The transcript that is written once the events have happened.
use Rattle.std.proofs.Common.{◌≡◌, ℕ, List, ◌++◌, Option, Result, Ok, Err, sym, ap, ◌∙◌, append_assoc, subst}
use Rattle.std.specs.Prelude.{OnErr, OnOk}
use Rattle.smp_app.specs.declared.status.Status.{Status}
use Rattle.std.specs.Io.KnownBytes.{append_known}
use Rattle.smp_edge.specs.Sink.{AppendsFront}
use Rattle.smp_schedule.specs.declared.event.Event.{Event as Said}
use Rattle.smp_world.specs.Runs.{last_line, state_at_end, transcript}
use Rattle.smp_world.specs.Worlds.{EndsWorld, WorldState, age_of}
use Rattle.smp_app.specs.Gathering.{PutOn}
use Rattle.smp_app.specs.Playing.{AllRun, BreaksAll, Finishes, FinishesInPart, PlaysAll, WritesFrontOf, WritesTranscript, text_of}
use Rattle.smp_app.proofs.Putting.{none_put, then_known}

-- The last line.

pub whole : (w : WorldState) (held full : List ℕ) (old new : Option (List ℕ)) → EndsWorld w held full → new ≡ append_known old full → Finishes w held old new
whole w held full old new ends put sizes jobs s stands = put ∙ ap (append_known old) (ends (age_of w.steps) sizes jobs s stands)

pub last_lost : (w : WorldState) (held : List ℕ) (old new : Option (List ℕ)) → new ≡ old → FinishesInPart w held old new
last_lost w held old new same sizes jobs s stands = none_put old new (held ++ last_line s) same

pub last_broken : (w : WorldState) (held full : List ℕ) (old new : Option (List ℕ)) → EndsWorld w held full → AppendsFront old new full → FinishesInPart w held old new
last_broken w held full old new ends front sizes jobs s stands = subst (AppendsFront old new) (ends (age_of w.steps) sizes jobs s stands) front

-- The whole transcript.

put_whole : (old mid new : Option (List ℕ)) (text held last : List ℕ) → PutOn old mid text held → new ≡ append_known mid (held ++ last) → new ≡ append_known old (text ++ last)
put_whole old mid new text held last first second =
    then_known old mid new first.front (held ++ last) first.appended second
    ∙ ap (append_known old) (sym (append_assoc first.front held last) ∙ ap (λ (xs : List ℕ). xs ++ last) (sym first.split))

put_part : (old mid new : Option (List ℕ)) (text held last : List ℕ) → PutOn old mid text held → AppendsFront mid new (held ++ last) → AppendsFront old new (text ++ last)
put_part old mid new text held last first second = record {
  front = first.front ++ second.front;
  rest = second.rest;
  split =
      ap (λ (xs : List ℕ). xs ++ last) first.split
      ∙ append_assoc first.front held last
      ∙ ap (λ (xs : List ℕ). first.front ++ xs) second.split
      ∙ sym (append_assoc first.front second.front second.rest);
  appended = then_known old mid new first.front second.front first.appended second.appended;
}

pub all_written : (said : List Said) (before after : WorldState) (old mid new : Option (List ℕ)) (held : List ℕ)
    → PlaysAll said before after old mid held → Finishes after held mid new → WritesTranscript said before old new
all_written said before after old mid new held plays ends sizes jobs s events are stands =
    let played = plays sizes jobs s events are stands in (
      played.moments,
      played.run,
      put_whole old mid new (text_of played.moments) held (last_line (state_at_end s played.moments)) played.put (ends sizes jobs (state_at_end s played.moments) played.stands),
    )

pub part_written : (said : List Said) (before after : WorldState) (old mid new : Option (List ℕ)) (held : List ℕ)
    → PlaysAll said before after old mid held → FinishesInPart after held mid new → WritesFrontOf said before old new
part_written said before after old mid new held plays ends sizes jobs s events are stands =
    let played = plays sizes jobs s events are stands in
    record {
      moments = played.moments;
      run = played.run;
      front = put_part old mid new (text_of played.moments) held (last_line (state_at_end s played.moments)) played.put (ends sizes jobs (state_at_end s played.moments) played.stands);
    }

longer : (old new : Option (List ℕ)) (text last : List ℕ) → AppendsFront old new text → AppendsFront old new (text ++ last)
longer old new text last h = record {
  front = h.front;
  rest = h.rest ++ last;
  split = ap (λ (xs : List ℕ). xs ++ last) h.split ∙ append_assoc h.front h.rest last;
  appended = h.appended;
}

pub break_written : (said : List Said) (before : WorldState) (old new : Option (List ℕ)) → BreaksAll said before old new → WritesFrontOf said before old new
break_written said before old new breaks sizes jobs s events are stands =
    let broken = breaks sizes jobs s events are stands in
    record {
      moments = broken.moments;
      run = broken.run;
      front = longer old new (text_of broken.moments) (last_line (state_at_end s broken.moments)) broken.front;
    }

pub nothing_written : AllRun → (said : List Said) (before : WorldState) (old new : Option (List ℕ)) → new ≡ old → WritesFrontOf said before old new
nothing_written run said before old new same sizes jobs s events are stands =
    let some = run sizes s events in
    record { moments = some.0; run = some.1; front = none_put old new (transcript s some.0) same }

-- by how finishing ended
pub all_result : (T : Type 0) (result : Result T Status) (said : List Said) (before after : WorldState) (old mid new : Option (List ℕ)) (held : List ℕ)
    → PlaysAll said before after old mid held → OnOk result (Finishes after held mid new) → OnOk result (WritesTranscript said before old new)
all_result T (Ok x) said before after old mid new held plays ends = all_written said before after old mid new held plays ends
all_result T (Err status) said before after old mid new held plays ends = tt

pub part_result : (T : Type 0) (result : Result T Status) (said : List Said) (before after : WorldState) (old mid new : Option (List ℕ)) (held : List ℕ)
    → PlaysAll said before after old mid held → OnErr result (FinishesInPart after held mid new) → OnErr result (WritesFrontOf said before old new)
part_result T (Ok x) said before after old mid new held plays ends = tt
part_result T (Err status) said before after old mid new held plays ends = part_written said before after old mid new held plays ends
