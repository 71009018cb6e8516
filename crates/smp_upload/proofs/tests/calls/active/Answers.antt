use Rattle.std.proofs.Common.{false, sym, subst}
use Rattle.smp_flash.specs.declared.layout.Layout.{Layout}
use Rattle.smp_upload.specs.Bytes.{SideStandsAs}
use Rattle.smp_upload.proofs.tests.calls.active.Goals as goal

pub active_image-requires-clause-readable : goal.active_image-requires-clause-readable
active_image-requires-clause-readable c =
    let side = c.requires.says.side in
    record {
      side = side;
      stands = record {
        rescue = false;
        stands =
            subst (λ (layout : Layout). SideStandsAs layout false side c.args.bench.flash.held.items) (sym c.layout_of-layout.ensures) c.requires.says.shows.stands;
      };
    }
