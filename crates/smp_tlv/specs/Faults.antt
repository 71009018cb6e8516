-- The faults of an image, by whom they come from.
use Rattle.std.specs.Prelude.{Result, Ok, Err}
use Rattle.smp_flash.specs.declared.flash.FlashFault.{FlashFault}
use Rattle.smp_flash.specs.declared.flash.FlashFault.TheVariants as flash_faults
use Rattle.smp_model.specs.declared.image.ImageInfo.{ImageInfo}
use Rattle.smp_model.specs.declared.image.ImageFault.{ImageFault}
use Rattle.smp_model.specs.declared.image.ImageFault.TheVariants.{Magic, HeaderSize, Encrypted, Bounds, Tlvs, NoHash, WrongHash, TooLarge, Fault, Off}

-- a fault that reading an image finds in its bytes
abbrev pub IsOfBytes : ImageFault → Type 0
IsOfBytes WrongHash = ⊥
IsOfBytes TooLarge = ⊥
IsOfBytes Fault = ⊥
IsOfBytes Off = ⊥
IsOfBytes _ = Unit {0}

-- a fault that the header's tests find
abbrev pub IsOfHeader : ImageFault → Type 0
IsOfHeader Magic = Unit {0}
IsOfHeader HeaderSize = Unit {0}
IsOfHeader Encrypted = Unit {0}
IsOfHeader Bounds = Unit {0}
IsOfHeader _ = ⊥

-- a fault that the TLVs behind the covered bytes show
abbrev pub IsOfTlvs : ImageFault → Type 0
IsOfTlvs Tlvs = Unit {0}
IsOfTlvs NoHash = Unit {0}
IsOfTlvs _ = ⊥

-- a fault of checking a hash
abbrev pub IsOfHash : ImageFault → Type 0
IsOfHash WrongHash = Unit {0}
IsOfHash Fault = Unit {0}
IsOfHash Off = Unit {0}
IsOfHash _ = ⊥

-- the answer, where no test failed before
abbrev pub unless : {T : Type 0} → Result T ImageFault → Result ImageInfo ImageFault → Result ImageInfo ImageFault
unless (Ok passed) answer = answer
unless (Err fault) answer = Err fault

-- a fault of reading an image
abbrev pub IsOfReading : ImageFault → Type 0
IsOfReading WrongHash = ⊥
IsOfReading TooLarge = ⊥
IsOfReading _ = Unit {0}

-- a fault of the holder, as a fault of an image
abbrev pub image_fault : FlashFault → ImageFault
image_fault flash_faults.Fault = Fault
image_fault flash_faults.Off = Off
