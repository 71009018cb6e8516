use Rattle.std.proofs.Common.{◌*◌, arith}
use Rattle.smp_flash.specs.Geometry.{size_of}
use Rattle.smp_flash.specs.Medium.{if_some}
use Rattle.smp_flash.proofs.Behind.{room_within, some_size}
use Rattle.smp_flash.proofs.file_flash.FileFlashFlash.erase.Goals as goal

pub clear_behind-requires-clause-inside : goal.clear_behind-requires-clause-inside
clear_behind-requires-clause-inside g c =
    let inside = c.requires in
    room_within (c.args.page * c.args.self.now.geometry.page) c.args.self.now.geometry.page (size_of c.args.self.now.geometry) _ (omega arith)
    (some_size c.args.self.now.geometry c.args.self.now.lawful) (if_some _ _ c.args.self.now.sized)
