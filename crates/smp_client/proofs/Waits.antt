-- How often a packet is sent, and how long a wait lasts.
use Rattle.std.proofs.Common.{◌≡◌, ℕ, zero, suc, ◌+◌, ◌<◌, ◌≤◌, List, [], ◌∷◌, length, false, refl, sym, ap, subst, ◌∙◌, arith, add-one}
use Rattle.std.specs.Prelude.{◌==◌}
use Rattle.std.specs.List.{All}
use Rattle.std.proofs.lemmas.List.Elements.{All-head, All-tail}
use Rattle.smp_header.specs.Message.{Message}
use Rattle.smp_reply.specs.declared.answer.Asked.{Asked}
use Rattle.smp_client.specs.Requests.{Open, opened, sends, waits, Moved, moved, is_strange, wait_ends, by_answer, hears_bytes}
use Rattle.smp_client.specs.Laws.{after_waits, NineWaits, hears_each, IsStranger, StrangersEndWaits, FewStrangersWait}

not_last : (n : ℕ) → n < 8 → (n == 8) ≡ false
not_last n h = grind (arith, h)

pub after : (m : Message) (asked : Asked) (n : ℕ) → n ≤ 8 → after_waits n (opened m asked) ≡ record (opened m asked) { waits = n }
after m asked zero h = refl
after m asked (suc n) h =
    let before : after_waits n (opened m asked) ≡ record (opened m asked) { waits = n } = after m asked n (omega arith) in
    let early : (n == 8) ≡ false = not_last n (omega arith) in
    ap (λ (o : Open). (wait_ends o).request) before ∙ rw (early, add-one) refl

sends_again : (m : Message) (asked : Asked) (n : ℕ) → n < 8 → (wait_ends (after_waits n (opened m asked))).reaction ≡ sends
sends_again m asked n h = ap (λ (o : Open). (wait_ends o).reaction) (after m asked n (omega arith)) ∙ rw (not_last n h) refl

pub nine_waits : NineWaits
nine_waits m asked = (sends_again m asked, ap (λ (o : Open). (wait_ends o).reaction) (after m asked 8 (omega arith)))

-- a stranger, by the count of those before it
stranger : (o : Open) (bytes : List ℕ) → IsStranger o bytes → hears_bytes o bytes ≡ is_strange o
stranger o bytes h = ap (by_answer o) h

counted : (o : Open) (n : ℕ) → o.strangers ≡ n → n < 63 → is_strange o ≡ moved (record o { strangers = n + 1 }) waits
counted o n e h = let few : (n == 63) ≡ false = grind (arith, h) in subst (λ (k : ℕ). is_strange (record o { strangers = k }) ≡ moved (record o { strangers = n + 1 }) waits) (sym e) (rw few refl)

last : (o : Open) → o.strangers ≡ 63 → is_strange o ≡ wait_ends (record o { strangers = 63 })
last o e = subst (λ (k : ℕ). is_strange (record o { strangers = k }) ≡ wait_ends (record o { strangers = 63 })) (sym e) refl

-- one stranger more, of fewer than 64
one_more : (o : Open) (n : ℕ) (bytes : List ℕ) → IsStranger o bytes → o.strangers ≡ n → n < 63 → hears_bytes o bytes ≡ moved (record o { strangers = n + 1 }) waits
one_more o n bytes h e few = stranger o bytes h ∙ counted o n e few

few_from : (o : Open) (n : ℕ) (first : List ℕ) (more : List (List ℕ)) → IsStranger o first → All (IsStranger o) more
    → o.strangers ≡ n → n + length more < 63 → hears_each o first more ≡ moved (record o { strangers = n + length more + 1 }) waits
few_from o n first [] h hs e few = one_more o n first h e (omega arith) ∙ ap (λ (k : ℕ). moved (record o { strangers = k }) waits) (omega arith)
few_from o n first (next ∷ more) h hs e few =
    ap (λ (m : Moved). hears_each m.request next more) (one_more o n first h e (omega arith))
    ∙ few_from (record o { strangers = n + 1 }) (n + 1) next more (All-head (IsStranger o) next more hs) (All-tail (IsStranger o) next more hs) refl (omega arith)
    ∙ ap (λ (k : ℕ). moved (record o { strangers = k }) waits) (omega arith)

all_from : (o : Open) (n : ℕ) (first : List ℕ) (more : List (List ℕ)) → IsStranger o first → All (IsStranger o) more
    → o.strangers ≡ n → n + length more ≡ 63 → hears_each o first more ≡ wait_ends (record o { strangers = 63 })
all_from o n first [] h hs e all = stranger o first h ∙ last o (omega arith)
all_from o n first (next ∷ more) h hs e all =
    ap (λ (m : Moved). hears_each m.request next more) (one_more o n first h e (omega arith))
    ∙ all_from (record o { strangers = n + 1 }) (n + 1) next more (All-head (IsStranger o) next more hs) (All-tail (IsStranger o) next more hs) refl (omega arith)

pub strangers_end : StrangersEndWaits
strangers_end o first more h hs e all = all_from o 0 first more h hs e (omega arith)

pub few_wait : FewStrangersWait
few_wait o first more h hs e few = few_from o 0 first more h hs e (omega arith) ∙ ap (λ (k : ℕ). moved (record o { strangers = k }) waits) (omega arith)
