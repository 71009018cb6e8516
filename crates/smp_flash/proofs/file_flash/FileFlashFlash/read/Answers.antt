use Rattle.std.proofs.Common.{length, arith}
use Rattle.smp_flash.specs.Geometry.{size_of}
use Rattle.smp_flash.specs.Medium.{if_some}
use Rattle.smp_flash.proofs.Behind.{read_behind, room_for, room_within, some_size}
use Rattle.smp_flash.proofs.file_flash.FileFlashFlash.read.Goals as goal

pub get-requires : goal.get-requires
get-requires g c =
    room_for c.args.at c.place.result (length c.args.into.now) c.args.into.now _ c.place.ensures (omega arith)
    (room_within c.args.at (length c.args.into.now) (size_of c.args.self.now.geometry) _ c.requires (some_size c.args.self.now.geometry c.args.self.now.lawful) (if_some _ _ c.args.self.now.sized))

pub returns-in-Ok-clause-bytes : goal.returns-in-Ok-clause-bytes
returns-in-Ok-clause-bytes g c = read_behind c.args.at c.place.result (length c.args.into.now) c.get.new.into _ c.place.ensures c.in-Ok.ensures.bytes
