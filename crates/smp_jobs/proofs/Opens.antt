-- What becomes of an open request when something is heard or a wait ends.
use Rattle.std.proofs.Common.{◌≡◌, ◌≤◌, ◌+◌, ℕ, List, Bool, true, false, Option, Some, None, refl, arith}
use Rattle.std.specs.Prelude.{if◌then◌else◌, ◌==◌}
use Rattle.std.proofs.lemmas.Bool.Decides.{nat_tests}
use Rattle.smp_reply.specs.Told.{Told}
use Rattle.smp_client.specs.Requests.{Open, sends, waits, no_answer, Moved, moved, wait_ends, by_answer, hears_bytes, answer_of_bytes}

abbrev waited_if : Bool → Open → Moved
waited_if last o = if last then moved o no_answer else moved (record o { waits = o.waits + 1; strangers = 0 }) sends

abbrev strange_if : Bool → Open → Moved
strange_if last o = if last then wait_ends o else moved (record o { strangers = o.strangers + 1 }) waits

-- counts that stay in their bounds
pub record IsWithin (o : Open) : Type 0 where
  pub waits : o.waits ≤ 8
  pub strangers : o.strangers ≤ 63

-- What an open request becomes: its packet stays, the counts stay in their bounds, and they tell of another sending and of waiting.
pub record Becomes (o : Open) (m : Moved) : Type 0 where
  pub packet : m.request.packet ≡ o.packet
  pub within : IsWithin o → IsWithin m.request
  pub again : m.reaction ≡ sends → (m.request.waits ≡ o.waits + 1) × (m.request.strangers ≡ 0)
  pub waiting : m.reaction ≡ waits → (m.request.waits ≡ o.waits) × (m.request.strangers ≡ o.strangers + 1)

waited_by : (o : Open) (last : Bool) → (o.waits == 8) ≡ last → Becomes o (waited_if last o)
waited_by o true e = record { packet = refl; within = λ h. h; again = λ h. absurd cc; waiting = λ h. absurd cc }
waited_by o false e = record {
  packet = refl;
  within = λ h. let few : o.waits ≤ 8 = h.waits in record { waits = grind (arith, nat_tests); strangers = omega arith };
  again = λ h. (refl, refl);
  waiting = λ h. absurd cc;
}

pub waited : (o : Open) → Becomes o (wait_ends o)
waited o = waited_by o (o.waits == 8) refl

strange_by : (o : Open) (last : Bool) → (o.strangers == 63) ≡ last → Becomes o (strange_if last o)
strange_by o true e = waited o
strange_by o false e = record {
  packet = refl;
  within = λ h. let few : o.strangers ≤ 63 = h.strangers in record { waits = h.waits; strangers = grind (arith, nat_tests) };
  again = λ h. absurd cc;
  waiting = λ h. (refl, refl);
}

by_told : (o : Open) (told : Option Told) → Becomes o (by_answer o told)
by_told o None = strange_by o (o.strangers == 63) refl
by_told o (Some answer) = record { packet = refl; within = λ h. h; again = λ h. absurd cc; waiting = λ h. absurd cc }

pub heard : (o : Open) (bytes : List ℕ) → Becomes o (hears_bytes o bytes)
heard o bytes = by_told o (answer_of_bytes o.packet o.asked bytes)
