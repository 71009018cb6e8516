-- The words of the command line.
use Rattle.std.specs.Prelude.{ℕ, if◌then◌else◌, List, [], ◌∷◌, Option, Some, None, codes}
use Rattle.std.specs.Str.{bytes_eq}
use Rattle.smp_schedule.specs.Words.{is_word}
use Rattle.smp_app.specs.declared.words.Command.{Command}
use Rattle.smp_app.specs.declared.words.Command.TheVariants as commands

-- What is asked for: the replay of the schedule with this name.
pub data Asked : Type 0 where
  replays : (name : List ℕ) → Asked

-- A word has at least one byte, is text, and has no control characters. It may have spaces.
abbrev pub replay_in : List ℕ → Option Asked
replay_in name = if is_word name then Some (replays name) else None

-- What words ask for; all other words are no command.
abbrev pub asked_in : List (List ℕ) → Option Asked
asked_in [] = None
asked_in (command ∷ []) = None
asked_in (command ∷ name ∷ []) = if bytes_eq command (codes "replay") then replay_in name else None
asked_in (command ∷ name ∷ more ∷ words) = None

-- the command that was read
abbrev pub asked_by : Command → Asked
asked_by (commands.Replay name) = replays name.now
