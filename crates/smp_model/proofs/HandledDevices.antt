-- What comes of a packet keeps a consistent device consistent, also where the flash fails at it.
use Rattle.std.proofs.Common.{◌≡◌, ℕ, List, true, Option, Some, None, refl, sym, subst}
use Rattle.std.specs.Prelude.{Result, Ok, Err, IsSome}
use Rattle.smp_header.specs.Message.{Message, packet}
use Rattle.smp_model.specs.declared.device.AbstractDevice.{AbstractDevice}
use Rattle.smp_model.specs.declared.device.Counters.{Counters}
use Rattle.smp_model.specs.declared.device.Sizes.{Sizes}
use Rattle.smp_model.specs.Consistent.{IsConsistent}
use Rattle.smp_model.specs.Counters.{after_drop, after_reply}
use Rattle.smp_model.specs.Does.{does}
use Rattle.smp_model.specs.Faults.{IsHandledWithFault}
use Rattle.smp_model.specs.Handled.{Handled, is_request, response_to, is_reset, answered, dropped, handled_packet, handled}
use Rattle.smp_model.specs.Meaning.{meaning}
use Rattle.smp_model.specs.Meant.{Meant}
use Rattle.smp_model.specs.Response.{after}
use Rattle.smp_model.specs.Said.{is_error}
use Rattle.smp_model.specs.Steps.{applied, start}
use Rattle.smp_model.proofs.Cases.{either_way}
use Rattle.smp_model.proofs.Consistency.{request_consistent, start_consistent}
use Rattle.smp_model.proofs.OnSides.{side_same}
use Rattle.smp_model.proofs.PacketTexts.{meaning_texts}
use Rattle.smp_model.proofs.Pending.{whole}

-- the counters have no part in it
counts_consistent : (sizes : Sizes) (d : AbstractDevice) (c : Counters) → IsConsistent sizes d → IsConsistent sizes (record d { counters = c })
counts_consistent sizes d c k = record {
  sides = record { first = k.sides.first; second = k.sides.second };
  saved = k.saved;
  running = k.running;
  files = k.files;
  target = subst IsSome (sym (side_same d.target d (record d { counters = c }) refl refl)) k.target;
}

after_consistent : (sizes : Sizes) (d : AbstractDevice) (p : Message) (o : Result Meant ℕ) → meaning p ≡ o → IsConsistent sizes d → IsConsistent sizes (after (response_to sizes d o) d)
after_consistent sizes d p (Ok m) e c =
    counts_consistent sizes (applied (does sizes d m).steps d) (after_reply (is_error (does sizes d m).reply) (applied (does sizes d m).steps d).counters)
    (request_consistent sizes d (applied (does sizes d m).steps d) m c (meaning_texts p m e) (whole d (does sizes d m).steps))
after_consistent sizes d p (Err n) e c = counts_consistent sizes d (after_reply true d.counters) c

answered_consistent : (sizes : Sizes) (d : AbstractDevice) (p : Message) → IsConsistent sizes d → IsConsistent sizes (answered sizes d p).device
answered_consistent sizes d p c =
    let now = after_consistent sizes d p (meaning p) refl c in
    either_way (IsConsistent sizes) (is_reset (meaning p)) (start (after (response_to sizes d (meaning p)) d)) (after (response_to sizes d (meaning p)) d) (start_consistent sizes (after (response_to sizes d (meaning p)) d) now) now

packet_consistent : (sizes : Sizes) (d : AbstractDevice) (o : Option Message) → IsConsistent sizes d → IsConsistent sizes (handled_packet sizes d o).device
packet_consistent sizes d None c = counts_consistent sizes d (after_drop d.counters) c
packet_consistent sizes d (Some p) c =
    either_way (λ (h : Handled). IsConsistent sizes h.device) (is_request p) (answered sizes d p) (dropped d) (answered_consistent sizes d p c) (counts_consistent sizes d (after_drop d.counters) c)

pub handled_consistent : (sizes : Sizes) (d : AbstractDevice) (bytes : List ℕ) → IsConsistent sizes d → IsConsistent sizes (handled sizes d bytes).device
handled_consistent sizes d bytes c = packet_consistent sizes d (packet bytes) c

pub broken_consistent : (sizes : Sizes) (d : AbstractDevice) (bytes : List ℕ) (h : Handled) → IsConsistent sizes d → IsHandledWithFault sizes d bytes h → IsConsistent sizes h.device
broken_consistent sizes d bytes h c f =
    subst (IsConsistent sizes) (sym f.broken.device)
    (counts_consistent sizes f.broken.reached (after_reply true f.broken.reached.counters)
    (request_consistent sizes d f.broken.reached f.request c (meaning_texts f.message f.request f.means) f.broken.part))
