-- A call that goes on after a fault, and meets no other, ends by that fault.
use Rattle.std.proofs.Common.{◌≡◌, ℕ, Option, List, sym, ◌∙◌, subst}
use Rattle.smp_flash.specs.Area.{Keeps}
use Rattle.smp_flash.specs.State.{FlashState, Faults, Troubles, End}
use Rattle.smp_flash.specs.State.End.{Went, WentOff, Failed}
use Rattle.smp_flash.specs.Calls.{Lowers, Rises, Goes, Cuts, Passes, Calls}
use Rattle.smp_flash.proofs.Areas.{Keeps-trans}
use Rattle.smp_flash.proofs.Passing.{Goes-trans, NoGreater-trans, NeverFewer-trans, Undisturbed-trans, Spares-same}
use Rattle.smp_flash.proofs.Telling.{Told-trans}

passes_then : (end : End) (a b c : FlashState) → Passes end a b → Goes b c → Passes end a c
passes_then Went a b c f g = Goes-trans a b c f g
passes_then WentOff a b c f g =
    let same : c ≡ b = g.idle f.off in subst (λ (s : FlashState). Cuts a s) (sym same) f
passes_then (Failed operation) a b c f g = record {
  geometry = g.geometry ∙ f.geometry;
  rises = subst (λ (x : Faults). Rises operation a.faults x) (sym g.faults) f.rises;
  was_on = f.was_on;
  on = g.on ∙ f.on;
  troubles = subst (λ (x : Option Troubles). Lowers (Failed operation) a.troubles x) (sym g.troubles) f.troubles;
}

same_sizes : (end : End) (a b : FlashState) → Passes end a b → b.geometry ≡ a.geometry
same_sizes Went a b f = f.geometry
same_sizes WentOff a b f = f.geometry
same_sizes (Failed operation) a b f = f.geometry

pub Calls-then : (spots : List (ℕ × ℕ)) (end : End) (a b c : FlashState) → Calls spots end a b → Calls spots Went b c → Calls spots end a c
Calls-then spots end a b c f g = record {
  passes = passes_then end a b c f.passes g.passes;
  spared = λ s. Undisturbed-trans a b c (f.spared s) (g.spared (Spares-same spots a b (same_sizes end a b f.passes) (f.spared s).aim s));
  keeps = Told-trans (Keeps spots) (Keeps spots) (Keeps spots) a.bytes b.bytes c.bytes (λ u v w k l. Keeps-trans spots u v w k l) f.keeps g.keeps;
  reads = NoGreater-trans c.bytes_read b.bytes_read a.bytes_read g.reads f.reads;
  changes = NeverFewer-trans a.changes b.changes c.changes f.changes g.changes;
}
