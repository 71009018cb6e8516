use Rattle.smp_model.proofs.Tlvs.{tlvs_short, tlvs_past, next_of}
use Rattle.smp_model.proofs.image_laws.tlvs_are_read_in_order.Goals as goal

pub returns : goal.returns
returns c = record { short = tlvs_short; past = tlvs_past; next = next_of }
