-- What a list says of one image.
use Rattle.std.specs.Prelude.{◌≡◌, ℕ, List}
use Rattle.smp_flash.specs.declared.layout.Layout.{Layout}
use Rattle.smp_model.specs.declared.device.Side.{Side}
use Rattle.smp_model.specs.declared.reply.SidePair.{SidePair}
use Rattle.smp_model.specs.ImageGroup.{pair_of}
use Rattle.smp_upload.specs.Bytes.{SideStands}

-- the pair is that of whatever side the bytes stand for
abbrev pub IsPair : Layout → SidePair → List ℕ → Type 0
IsPair layout pair bytes = (side : Side) → SideStands layout side bytes → pair ≡ pair_of side
