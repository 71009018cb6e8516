use Rattle.std.proofs.Common.{◌∙◌, ap, arith}
use Rattle.smp_flash.specs.Area.{area}
use Rattle.smp_flash.specs.declared.layout.BankPlace.{BankPlace}
use Rattle.smp_flash.proofs.Areas.{blank_first}
use Rattle.smp_settings.proofs.tests.worn.Goals as goal

pub write-requires-clause-erased : goal.write-requires-clause-erased
write-requires-clause-erased c =
    blank_first c.settings-place.result.first.at 4096 24 c.in_ok-flash.flash.held.items (omega arith)
    (ap (λ (p : BankPlace). area p.first.at 4096 c.in_ok-flash.flash.held.items) c.settings-place.ensures ∙ c.in_ok-flash.ensures.erased.first)
