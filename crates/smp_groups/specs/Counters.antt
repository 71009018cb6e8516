-- The three numbers as the counters of the abstract device.
use Rattle.smp_groups.specs.declared.Counts.{Counts}
use Rattle.smp_model.specs.declared.device.Counters.{Counters}

abbrev pub counters_of : Counts → Counters
counters_of c = record { handled = c.handled; dropped = c.dropped; errors = c.errors }
