use Rattle.std.proofs.Common.{◌≡◌, List, ◌++◌, length}
use Rattle.std.specs.Vec.Iter.{into_iter_items, into_iter_len}
use Rattle.smp_jobs.specs.States.{JobState}
use Rattle.smp_app.specs.Making.{BeginJobs, CanMake, bad_files}
use Rattle.smp_app.proofs.clients.make_jobs.Given as goal

abbrev pub invariant-clients : goal.invariant-clients
invariant-clients l = record {
  size : into_iter_len l.waiting ≡ length (into_iter_items l.waiting);
  can : CanMake (into_iter_items l.waiting);
  bad : bad_files l.fn.clients.items ≡ bad_files (into_iter_items l.waiting);
  begin : (added : List JobState) → BeginJobs (into_iter_items l.waiting) added → BeginJobs l.fn.clients.items (l.jobs.items ++ added);
}

abbrev pub decreases-clients : goal.decreases-clients
decreases-clients l = into_iter_len l.waiting
