use Rattle.std.proofs.Common.{sym, subst}
use Rattle.std.specs.Option.{ForSome}
use Rattle.std.specs.Prelude.{Option}
use Rattle.smp_schedule.specs.Lawful.{IsFlash}
use Rattle.smp_schedule.specs.declared.flash_line.FlashLine.{FlashLine}
use Rattle.smp_app.proofs.preparing.load_all.Goals as goal

pub load_flash-requires : goal.load_flash-requires
load_flash-requires g c = subst (λ (line : Option FlashLine). ForSome line IsFlash) (sym c.flash.ensures) c.requires.flash
