use Rattle.std.proofs.Common.{◌≡◌, None, length}
use Rattle.smp_jobs.specs.Clients.{Client}
use Rattle.smp_jobs.specs.States.{Stands, left}
use Rattle.smp_serve.specs.Driving.{IsRunning}
use Rattle.smp_serve.specs.Hearing.{link_state}
use Rattle.smp_serve.proofs.ClientDrives.{Conversing}
use Rattle.smp_serve.proofs.driving.converse.Given as goal

abbrev pub invariant-turns : goal.invariant-turns
invariant-turns g l = record {
  drives : (c : Client) → c.ended ≡ None → Stands l.fn.job c
      → Conversing c l.fn.peer l.job (link_state (g.L.Link.script l.fn.link) (g.L.Link.sent l.fn.link)) (link_state (g.L.Link.script l.link) (g.L.Link.sent l.link));
  runs : IsRunning l.job;
  names : g.L.Link.names l.link ≡ g.L.Link.names l.fn.link;
  faults : g.L.Link.faults l.link ≡ g.L.Link.faults l.fn.link;
  room : length l.into ≡ 2049;
}

abbrev pub decreases-turns : goal.decreases-turns
decreases-turns g l = left l.job
