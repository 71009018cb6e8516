-- What a change says, as the code passes it around.
use Rattle.smp_settings.specs.Cells.{CellChange, Gives, Removes}
use Rattle.smp_settings.specs.declared.cell.Change.{Change}
use Rattle.smp_settings.specs.declared.cell.Change.TheVariants.{Given, Removed}

abbrev pub change_said : Change → CellChange
change_said (Given name val) = Gives name.now val.now
change_said (Removed name) = Removes name.now
