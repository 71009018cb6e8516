use Rattle.std.proofs.Common.{ap, sym, ◌∙◌}
use Rattle.smp_flash.specs.Layout.{geometry_of}
use Rattle.smp_flash.specs.Memory.{mem_state}
use Rattle.smp_world.proofs.HandledFlash.{sizes_stay}
use Rattle.smp_world.proofs.machine.Machine.deliver.Goals as goal

pub invariant_of-self : goal.invariant_of-self
invariant_of-self c = record {
  sizes = ap (λ p. geometry_of p.first) c.handle.ensures.places ∙ c.self.invariant.sizes ∙ sym (sizes_stay c.args.bytes.now c.self.inside.device c.handle.new.self c.handle.new.out.items c.handle.result (mem_state c.self.inside.flash) (mem_state c.handle.new.flash) c.handle.ensures.handles);
  says = c.handle.ensures.says;
}
