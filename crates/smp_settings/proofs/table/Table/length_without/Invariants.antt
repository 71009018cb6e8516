use Rattle.std.proofs.Common.{◌≡◌, ◌≤◌, ◌*◌, ◌+◌, take, length}
use Rattle.smp_model.specs.Settings.{stored_form, deleted_setting}
use Rattle.smp_settings.proofs.table.Table.length_without.Given as goal

abbrev pub invariant-loop-entry : goal.invariant-loop-entry
invariant-loop-entry l = (l.sum ≡ length (stored_form (deleted_setting l.name (take l.entry-index l.entry-items)))) × (l.sum ≤ 162 * l.entry-index + 2)
