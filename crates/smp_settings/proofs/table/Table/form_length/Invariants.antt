use Rattle.std.proofs.Common.{◌≡◌, ◌≤◌, ◌*◌, ◌+◌, take, length}
use Rattle.smp_model.specs.Settings.{stored_form}
use Rattle.smp_settings.proofs.table.Table.form_length.Given as goal

abbrev pub invariant-loop-entry : goal.invariant-loop-entry
invariant-loop-entry l = (l.sum ≡ length (stored_form (take l.entry-index l.entry-items))) × (l.sum ≤ 162 * l.entry-index + 2)
