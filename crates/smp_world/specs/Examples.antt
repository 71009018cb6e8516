-- What is printed of short lists of events, where nothing is armed, for examples.
use Rattle.std.specs.Prelude.{◌≡◌, ℕ, List, [], ◌++◌, codes, Some, None, Ok, flat_map, unwrap_or}
use Rattle.std.specs.Result.{result_ok}
use Rattle.hex.specs.Hex.{decode_of}
use Rattle.smp_model.specs.declared.device.Sizes.{Sizes}
use Rattle.smp_world.specs.Runs.{Event, State, raw, first_state, transcript}
use Rattle.smp_schedule.specs.Schedules.{Schedule, schedule as spelled_by}
use Rattle.smp_world.specs.Schedules.{IsReplay}
use Rattle.smp_world.specs.Unarmed.{unarmed_moments}

-- raw bytes, in hex
abbrev pub comes : List ℕ → Event
comes digits = raw (unwrap_or (result_ok (decode_of digits)) [])

-- sizes that no example looks at
abbrev pub some_sizes : Sizes
some_sizes = record { unit = 8; page = 512; slot = 8192 }

-- of a device of one image, and of two; their bytes are looked at by no example
abbrev pub printed_from : State → List Event → List ℕ
printed_from s events = transcript s (unarmed_moments some_sizes s events)

abbrev pub printed : List Event → List ℕ
printed events = printed_from (first_state some_sizes [] None) events

abbrev pub printed_of_two : List Event → List ℕ
printed_of_two events = printed_from (first_state some_sizes [] (Some [])) events

-- a text of these lines
abbrev pub text_of : List (List ℕ) → List ℕ
text_of lines = flat_map (λ line. line ++ codes "\n") lines

-- a text is the transcript of a schedule's text, which names no file
pub record Replays (text out : List ℕ) : Type 0 where
  pub schedule : Schedule
  pub spelled : spelled_by text ≡ Ok schedule
  pub replay : IsReplay None schedule out
