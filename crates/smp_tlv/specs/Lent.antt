-- What lent bytes tell: themselves, and a holder that is always on and meets no trouble. The holder's sizes count for
-- nothing, since it has no aim.
use Rattle.std.specs.Prelude.{ℕ, List, [], length, true, Some, None}
use Rattle.smp_flash.specs.State.{FlashState}
use Rattle.smp_tlv.specs.State.{BytesState}
use Rattle.smp_tlv.specs.declared.lent.Lent.{Lent}

abbrev pub lent_bytes : Lent → List ℕ
lent_bytes lent = lent.bytes.now

abbrev pub steady : FlashState
steady = record {
  bytes = None;
  on = true;
  geometry = record { page = 512; unit = 1; slot_pages = 4; images = 1 };
  faults = record { reads = 0; writes = 0; erases = 0 };
  troubles = Some (record { cuts = 0; changes = 0; reads = 0 });
  aim = None;
  patience = None;
  bytes_read = None;
  changes = None;
}

abbrev pub lent_state : Lent → BytesState
lent_state lent = record {
  bytes = Some lent.bytes.now;
  size = length lent.bytes.now;
  holder = steady;
  start = 0;
  beside = [];
}
