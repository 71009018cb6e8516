-- What bytes tell of themselves, and what reading leaves of that.
use Rattle.std.specs.Prelude.{◌≡◌, ◌+◌, ◌≤◌, ℕ, List, Option, Result, Ok, Err}
use Rattle.smp_flash.specs.Area.{spot}
use Rattle.smp_flash.specs.Calls.{Calls, ReadsAtMost}
use Rattle.smp_flash.specs.State.{FlashState, End}
use Rattle.smp_flash.specs.State.End.{Went, WentOff, Failed}
use Rattle.smp_flash.specs.declared.flash.Operation.TheVariants.{Read}
use Rattle.smp_model.specs.declared.image.ImageFault.{ImageFault}
use Rattle.smp_model.specs.declared.image.ImageFault.TheVariants.{Short, Magic, HeaderSize, Encrypted, Bounds, Protected, Fault, Off}
use Rattle.smp_model.specs.declared.image.ImageInfo.{ImageInfo}

-- The bytes, where they are told, and how many they are; what holds them, with its failures, its power, its troubles and
-- the bytes read; where in the holder they begin; and what stands beside them.
pub record BytesState : Type 0 where
  pub bytes : Option (List ℕ)
  pub size : ℕ
  pub holder : FlashState
  pub start : ℕ
  pub beside : List ℕ

-- A call that only reads, at most so many bytes, and ended so. Its reads begin in the bytes alone; so where these count in
-- no aim, it lowers no trouble.
pub record Looks (most : ℕ) (end : End) (a b : BytesState) : Type 0 where
  pub calls : Calls (spot a.start a.size) end a.holder b.holder
  pub reads : ReadsAtMost most a.holder.bytes_read b.holder.bytes_read
  pub unspent : end ≡ Went → b.holder.patience ≡ a.holder.patience
  pub held : b.bytes ≡ a.bytes
  pub size : b.size ≡ a.size
  pub start : b.start ≡ a.start
  pub around : b.holder.bytes ≡ a.holder.bytes
  pub beside : b.beside ≡ a.beside

-- how a call ended that reads an image or checks its hash: only the last two faults come from the holder
abbrev pub image_end : {T : Type 0} → Result T ImageFault → End
image_end (Ok x) = Went
image_end (Err Fault) = Failed Read
image_end (Err Off) = WentOff
image_end (Err _) = Went

-- an image of this size at most, by what is known of it alone: a header, its TLVs behind the covered bytes
pub record IsInside (size : ℕ) (info : ImageInfo) : Type 0 where
  pub least : 32 ≤ info.covered
  pub tlvs : info.covered + 4 ≤ info.end
  pub «end» : info.end ≤ size

-- The most bytes that are read of an image, by what was found: nothing of bytes that are too few, else the header; then the
-- protected TLVs, which with a header are no more than the covered bytes, and the others.
abbrev pub image_cost : Result ImageInfo ImageFault → ℕ
image_cost (Ok info) = info.end
image_cost (Err Short) = 0
image_cost (Err Magic) = 32
image_cost (Err HeaderSize) = 32
image_cost (Err Encrypted) = 32
image_cost (Err Bounds) = 32
image_cost (Err Protected) = 65567
image_cost (Err _) = 131102
