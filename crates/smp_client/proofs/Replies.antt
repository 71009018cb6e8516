-- An answer is a reply to the request that it answers.
use Rattle.std.proofs.Common.{◌≡◌, ℕ, List, Bool, true, false, Option, Some, None, refl, arith}
use Rattle.std.specs.Prelude.{◌==◌}
use Rattle.smp_header.specs.Message.{Message, packet}
use Rattle.smp_reply.specs.Told.{Told}
use Rattle.smp_client.specs.Requests.{Open, answers, is_reply_to, is_strange, wait_ends, answer_by, answer_of_packet, answer_of_bytes, by_answer}
use Rattle.smp_client.specs.Laws.{IsReplyTo, IsAnswer, AnswersAreReplies}

-- a wait that ends, and a stranger, bring no answer
ended : (o : Open) (b : Bool) (answer : Told) → (o.waits == 8) ≡ b → (wait_ends o).reaction ≡ answers answer → ⊥
ended o true answer e h = let h' = rw e at h in absurd cc
ended o false answer e h = let h' = rw e at h in absurd cc

strange : (o : Open) (b : Bool) (answer : Told) → (o.strangers == 63) ≡ b → (is_strange o).reaction ≡ answers answer → ⊥
strange o true answer e h = let h' : (wait_ends o).reaction ≡ answers answer = rw e at h in ended o (o.waits == 8) answer refl h'
strange o false answer e h = let h' = rw e at h in absurd cc

by_told : (o : Open) (given : Option Told) (answer : Told) → (by_answer o given).reaction ≡ answers answer → given ≡ Some answer
by_told o None answer h = absurd (strange o (o.strangers == 63) answer refl h)
by_told o (Some given) answer h = cc

is_reply : (request m : Message) → is_reply_to request m ≡ true → IsReplyTo request m
is_reply request m h = record {
  sequence = grind (arith, h);
  group = grind (arith, h);
  command = grind (arith, h);
  operation = grind (arith, h);
  version = grind (arith, h);
}

of_message : (o : Open) (bytes : List ℕ) (m : Message) (answer : Told) (b : Bool) → packet bytes ≡ Some m → is_reply_to o.packet m ≡ b
    → answer_by o.packet o.asked m ≡ Some answer → IsAnswer o bytes answer
of_message o bytes m answer true is reply h = record { reply = m; is_packet = is; is_reply = is_reply o.packet m reply; is_told = rw reply at h }
of_message o bytes m answer false is reply h = let h' = rw reply at h in absurd cc

of_packet : (o : Open) (bytes : List ℕ) (p : Option Message) (answer : Told) → packet bytes ≡ p → answer_of_packet o.packet o.asked p ≡ Some answer → IsAnswer o bytes answer
of_packet o bytes None answer is h = absurd cc
of_packet o bytes (Some m) answer is h = of_message o bytes m answer (is_reply_to o.packet m) is refl h

pub answers_are_replies : AnswersAreReplies
answers_are_replies o bytes answer h = of_packet o bytes (packet bytes) answer refl (by_told o (answer_of_bytes o.packet o.asked bytes) answer h)
