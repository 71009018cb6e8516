use Rattle.std.proofs.Common.{◌≡◌, ◌+◌, ◌<◌, ◌^◌, length}
use Rattle.smp_schedule.specs.Fields.{lines_of}
use Rattle.smp_schedule.specs.Schedules.{events_left, events_from}
use Rattle.smp_schedule.proofs.schedule.read_events.Given as goal

abbrev pub invariant-lines : goal.invariant-lines
invariant-lines l = record {
  fits : l.reading.number + length l.rest < 2 ^ 32;
  read : events_from l.fn.number 0 0 (lines_of l.fn.text) ≡ events_left l.reading.events.items l.reading.clients l.reading.number (lines_of l.rest);
}

abbrev pub decreases-lines : goal.decreases-lines
decreases-lines l = length l.rest
