-- What is so of every reply.
use Rattle.std.specs.Prelude.{◌≡◌, ℕ}
use Rattle.smp_cbor.specs.Shortest.{shortest}
use Rattle.smp_model.specs.Said.{Said, reply_value}
use Rattle.smp_reply.specs.declared.answer.Asked.{Asked}
use Rattle.smp_reply.specs.Held.{CanSay}
use Rattle.smp_reply.specs.Sendable.{IsSendable}
use Rattle.smp_reply.specs.StandsFor.{stands_for}
use Rattle.smp_reply.specs.Told.{told}

-- the data of a reply, in either version, tells the answer that it stands for
abbrev pub RepliesAreTold : Type 0
RepliesAreTold = (version : ℕ) (asked : Asked) (s : Said) → CanSay s → IsSendable s → told asked (shortest (reply_value version s)) ≡ stands_for version asked s
