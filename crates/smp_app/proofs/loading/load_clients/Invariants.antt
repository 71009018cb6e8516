use Rattle.std.proofs.Common.{◌≡◌, ℕ, List, ◌++◌, Option, length}
use Rattle.smp_schedule.specs.Lawful.{AreEvents}
use Rattle.smp_app.specs.declared.loading.Client.{Client}
use Rattle.smp_app.specs.declared.status.Status.{Status}
use Rattle.smp_app.specs.Loading.{AreClients, HaveFault, calls_after, names_in}
use Rattle.smp_app.proofs.loading.load_clients.Given as goal

abbrev pub invariant-events : goal.invariant-events
invariant-events g l = record {
  lawful : (k : ℕ) × AreEvents k l.rest;
  fault : (fault : Option Status) → HaveFault (g.D.Files.folder l.fn.files) (names_in l.rest) fault → HaveFault (g.D.Files.folder l.fn.files) (names_in l.fn.events) fault;
  held : (others : List Client) → AreClients (g.D.Files.folder l.fn.files) l.rest others → AreClients (g.D.Files.folder l.fn.files) l.fn.events (l.clients.items ++ others);
  same : g.D.Files.folder l.files ≡ g.D.Files.folder l.fn.files;
  faults : g.D.Files.faults l.files ≡ g.D.Files.faults l.fn.files;
  calls : calls_after (length (names_in l.rest)) (g.D.Files.answered l.files) ≡ calls_after (length (names_in l.fn.events)) (g.D.Files.answered l.fn.files);
}

abbrev pub decreases-events : goal.decreases-events
decreases-events g l = length l.rest
