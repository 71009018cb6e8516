use Rattle.std.proofs.Common.{refl, ◌∙◌}
use Rattle.smp_flash.specs.Layout.{geometry_of}
use Rattle.smp_device.specs.Starting.{start_fault}
use Rattle.smp_device.proofs.Beginnings.{counts_none, open_fails, places_all, places_of_sizes}
use Rattle.smp_device.proofs.device.Device.open.Goals as goal

pub invariant_of-result : goal.invariant_of-result
invariant_of-result g c = record {
  all = places_all c.geometry-geometry.result c.of-first.result c.second-second.result c.of-first.ensures.geometry c.of-first.ensures.image c.second-second.ensures.none.0 c.second-second.ensures.geometry c.second-second.ensures.image;
  images = c.in-Ok-begin.ensures.places;
  layout = c.in-Ok-begin.ensures.layout;
}

pub returns-in-Ok-begin-clause-opens : goal.returns-in-Ok-begin-clause-opens
returns-in-Ok-begin-clause-opens g c = (
  c.of-first.ensures.geometry ∙ c.geometry-geometry.ensures,
  record { images = c.in-Ok-begin.begun.images; up = refl; starts = c.in-Ok-begin.ensures.starts; counters = counts_none c.default.result c.default.ensures; files = c.in-Ok.ensures },
)

pub returns-in-Err-clause-opens : goal.returns-in-Err-clause-opens
returns-in-Err-clause-opens g c =
    open_fails (record { first = c.of-first.result; second = c.second-second.result }) c.in-Err.fault (start_fault c.open_fault.result) (g.F.Flash.state c.args.flash.now) (g.F.Flash.state c.begin.new.flash) c.open_fault.ensures
    (places_of_sizes (g.F.Flash.state c.args.flash.now).geometry (geometry_of c.of-first.result) (record { first = c.of-first.result; second = c.second-second.result }) (c.of-first.ensures.geometry ∙ c.geometry-geometry.ensures) (places_all c.geometry-geometry.result c.of-first.result c.second-second.result c.of-first.ensures.geometry c.of-first.ensures.image c.second-second.ensures.none.0 c.second-second.ensures.geometry c.second-second.ensures.image)) c.in-Err.ensures.starts

pub returns-in-Ok-begin-clause-whole : goal.returns-in-Ok-begin-clause-whole
returns-in-Ok-begin-clause-whole g c = record {
  all = places_all c.geometry-geometry.result c.of-first.result c.second-second.result c.of-first.ensures.geometry c.of-first.ensures.image c.second-second.ensures.none.0 c.second-second.ensures.geometry c.second-second.ensures.image;
  images = c.in-Ok-begin.ensures.places;
  layout = c.in-Ok-begin.ensures.layout;
}
