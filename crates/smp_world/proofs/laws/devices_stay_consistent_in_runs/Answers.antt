use Rattle.smp_world.proofs.Consistency.{run_consistent, formatted_consistent}
use Rattle.smp_world.proofs.laws.devices_stay_consistent_in_runs.Goals as goal

pub returns-clause-first : goal.returns-clause-first
returns-clause-first c = formatted_consistent c.images_end.ensures.good

pub returns-clause-later : goal.returns-clause-later
returns-clause-later c = run_consistent (record {
  texts = c.packets_have_texts.ensures;
  requests = c.devices_stay_consistent.ensures.requests;
  settled = c.devices_stay_consistent.ensures.settled;
  started = c.devices_stay_consistent.ensures.started;
})
