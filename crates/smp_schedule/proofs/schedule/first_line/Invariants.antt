use Rattle.std.proofs.Common.{◌≡◌, ◌+◌, ◌<◌, ◌^◌, length}
use Rattle.smp_schedule.specs.Fields.{lines_of}
use Rattle.smp_schedule.specs.Schedules.{schedule, schedule_from}
use Rattle.smp_schedule.proofs.schedule.first_line.Given as goal

abbrev pub invariant-lines : goal.invariant-lines
invariant-lines l = record {
  fits : l.number + length l.rest < 2 ^ 32;
  read : schedule l.fn.text ≡ schedule_from l.number (lines_of l.rest);
}

abbrev pub decreases-lines : goal.decreases-lines
decreases-lines l = length l.rest
