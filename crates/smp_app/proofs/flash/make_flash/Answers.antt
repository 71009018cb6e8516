use Rattle.smp_flash.specs.Memory.{memory_of}
use Rattle.smp_app.proofs.Flashes.{all_fit, is_misfit}
use Rattle.smp_app.proofs.flash.make_flash.Goals as goal

pub returns-in-Ok-format_with-clause-tests : goal.returns-in-Ok-format_with-clause-tests
returns-in-Ok-format_with-clause-tests c =
    all_fit c.args.images.now.geometry c.args.images.now.first c.args.images.now.second c.in-Ok-format_with.field-0 (memory_of c.in-Ok.flash) (memory_of c.format_with.new.flash) c.in-Ok.ensures c.in-Ok-format_with.ensures

pub returns-in-Err-BadImage-clause-tests : goal.returns-in-Err-BadImage-clause-tests
returns-in-Err-BadImage-clause-tests c =
    is_misfit c.args.images.now.geometry c.args.images.now.first c.args.images.now.second c.in-Err-BadImage.fault c.in-Err-BadImage.field-0 (memory_of c.in-Ok.flash) (memory_of c.format_with.new.flash) c.in-Ok.ensures c.in-Err-BadImage.field-0-is c.in-Err-BadImage.ensures
