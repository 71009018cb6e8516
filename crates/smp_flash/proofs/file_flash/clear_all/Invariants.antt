use Rattle.std.proofs.Common.{◌≡◌, ◌*◌}
use Rattle.smp_flash.specs.Area.{Told}
use Rattle.smp_flash.specs.Medium.{Blanked}
use Rattle.smp_flash.proofs.file_flash.clear_all.Given as goal

abbrev pub invariant-pages : goal.invariant-pages
invariant-pages g l =
    Told (Blanked (l.n * l.fn.geometry.page)) (g.M.Medium.held l.fn.medium) (g.M.Medium.held l.medium) × (g.M.Medium.faults l.medium ≡ g.M.Medium.faults l.fn.medium)
