use Rattle.std.proofs.Common.{length}
use Rattle.smp_flash.specs.Geometry.{size_of}
use Rattle.smp_flash.specs.Medium.{if_some}
use Rattle.smp_flash.proofs.Behind.{room_within, some_size}
use Rattle.smp_flash.proofs.file_flash.FileFlashFlash.write.Goals as goal

pub write_behind-requires : goal.write_behind-requires
write_behind-requires g c =
    room_within c.args.at (length c.args.bytes.now) (size_of c.args.self.now.geometry) _ c.requires.inside (some_size c.args.self.now.geometry c.args.self.now.lawful)
    (if_some _ _ c.args.self.now.sized)
