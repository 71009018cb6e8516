-- What is heard over a link.
use Rattle.std.proofs.Common.{◌≡◌, ℕ, zero, suc, ◌+◌, ◌<◌, Bool, true, false, inl, inr, List, [], ◌∷◌, ◌++◌, length, take, drop, min, Option, Some, None, refl, ap, sym, ◌∙◌, subst, arith, add-one, append_assoc}
use Rattle.std.specs.Prelude.{IfSome, if◌then◌else◌, nat_le, ◌&&◌, ◌==◌}
use Rattle.std.proofs.lemmas.Bool.Decides.{nat_tests}
use Rattle.std.proofs.lemmas.Bool.{cases_lt}
use Rattle.std.proofs.lemmas.List.{take_all, length-take, append-nil, drop-drop, length_push}
use Rattle.smp_edge.specs.Link.{Hears, next_item, without_next}
use Rattle.smp_edge.specs.declared.link.Heard.{Heard}
use Rattle.smp_edge.specs.declared.link.Heard.TheVariants as heards
use Rattle.smp_edge.specs.declared.link.Peer.{Peer}
use Rattle.smp_edge.specs.declared.scripts.Scripted.{Scripted}
use Rattle.smp_edge.specs.declared.scripts.Scripted.TheVariants as items
use Rattle.smp_edge.specs.declared.scripts.Sent.{Sent}
use Rattle.smp_header.specs.Message.{Message, packet, number_at}
use Rattle.smp_header.specs.declared.TheConstants.{HEADER, LARGEST_PACKET}
use Rattle.smp_serve.specs.Hearing.{HearsOne, HearsAll, heard_of, with_all}

no_packet : (x y z : Bool) (m : Message) → y ≡ false → (if x && y && z then Some m else None) ≡ None
no_packet true true z m h = cc
no_packet true false z m h = refl
no_packet false y z m h = refl

-- bytes that are longer than the largest packet are none
pub too_long : (b : List ℕ) → 2048 < length b → packet b ≡ None
too_long b h =
    let long : nat_le (length b) 2048 ≡ false = grind (arith, nat_tests) in
    no_packet (nat_le HEADER (length b)) (nat_le (length b) LARGEST_PACKET) (length b == HEADER + number_at b 2) _ long

-- cut to 2049 bytes they are the same packet, or none still
pub cut_is_same : (held into : List ℕ) (n : ℕ) → length into ≡ 2049 → n ≡ min (length held) (length into) → take n into ≡ take n held
    → packet held ≡ packet (take n into)
cut_is_same held into n size count same =
    elim (cases_lt 2048 (length held)) [
      | inl h ↦ (
          let long : 2048 < length (take n into) = rw length-take (omega arith) in
          too_long held h ∙ sym (too_long (take n into) long))
      | inr h ↦ ap packet (sym (same ∙ take_all n held (omega arith)))
    ]

-- a packet that was heard, with what of it came into a buffer
pub record HearsPacket (a b : Option (List Scripted)) (from : Peer) (bytes : List ℕ) : Type 0 where
  pub held : List ℕ
  pub hears : HearsOne a b (items.Packet from held)
  pub same : packet held ≡ packet bytes

packet_item : (item : Scripted) (into : List ℕ) (from : Peer) (n : ℕ) → length into ≡ 2049 → Hears item into (heards.Packet from n)
    → (held : List ℕ) × ((item ≡ items.Packet from held) × (packet held ≡ packet (take n into)))
packet_item items.Quiet into from n size h = absurd h
packet_item (items.Packet peer held) into from n size h = (held, (ap (λ (p : Peer). items.Packet p held) (sym h.0), cut_is_same held into n size h.1 h.2))

hears_told : (a b : Option (List Scripted)) (into : List ℕ) (from : Peer) (n : ℕ) → length into ≡ 2049
    → IfSome a (λ items. Hears (next_item items) into (heards.Packet from n)) → b ≡ without_next a → HearsPacket a b from (take n into)
hears_told None b into from n size h left = record { held = take n into; hears = record { told = tt; left = left }; same = refl }
hears_told (Some script) b into from n size h left =
    let p = packet_item (next_item script) into from n size h in
    record { held = p.0; hears = record { told = sym p.1.0; left = left }; same = p.1.1 }

pub hears_packet : (a b : Option (List Scripted)) (into : List ℕ) (heard : Heard) (from : Peer) (n : ℕ) → length into ≡ 2049 → heard ≡ heards.Packet from n
    → IfSome a (λ items. Hears (next_item items) into heard) → b ≡ without_next a → HearsPacket a b from (take n into)
hears_packet a b into heard from n size e h left =
    hears_told a b into from n size (subst (λ (x : Heard). IfSome a (λ items. Hears (next_item items) into x)) e h) left

quiet_item : (item : Scripted) (into : List ℕ) → Hears item into heards.Quiet → items.Quiet ≡ item
quiet_item items.Quiet into h = refl
quiet_item (items.Packet peer held) into h = absurd h

quiet_told : (a b : Option (List Scripted)) (into : List ℕ) → IfSome a (λ items. Hears (next_item items) into heards.Quiet) → b ≡ without_next a → HearsOne a b items.Quiet
quiet_told None b into h left = record { told = tt; left = left }
quiet_told (Some script) b into h left = record { told = quiet_item (next_item script) into h; left = left }

pub hears_quiet : (a b : Option (List Scripted)) (into : List ℕ) (heard : Heard) → heard ≡ heards.Quiet
    → IfSome a (λ items. Hears (next_item items) into heard) → b ≡ without_next a → HearsOne a b items.Quiet
hears_quiet a b into heard e h left = quiet_told a b into (subst (λ (x : Heard). IfSome a (λ items. Hears (next_item items) into x)) e h) left

-- One item behind others.

one_more : (n : ℕ) → 1 + n ≡ suc n
one_more n = omega arith

heard_more_suc : (n : ℕ) (script : List Scripted) → heard_of (suc n) script ≡ heard_of n script ++ next_item (drop n script) ∷ []
unfolding heard_of
heard_more_suc zero script = refl
heard_more_suc (suc n) script =
    ap (λ (xs : List Scripted). next_item script ∷ xs) (
    heard_more_suc n (drop 1 script)
    ∙ ap (λ (xs : List Scripted). heard_of n (drop 1 script) ++ next_item xs ∷ []) (drop-drop n 1 script ∙ ap (λ (k : ℕ). drop k script) (one_more n)))

heard_more : (n : ℕ) (script : List Scripted) → heard_of (n + 1) script ≡ heard_of n script ++ next_item (drop n script) ∷ []
heard_more n script = rw add-one (heard_more_suc n script)

pub nothing_heard : (a : Option (List Scripted)) → HearsAll a a []
unfolding heard_of
nothing_heard None = record { told = tt; left = refl }
nothing_heard (Some script) = record { told = refl; left = refl }

count_more : (heard : List Scripted) (item : Scripted) (script : List Scripted) → heard ≡ heard_of (length heard) script → item ≡ next_item (drop (length heard) script)
    → heard ++ item ∷ [] ≡ heard_of (length (heard ++ item ∷ [])) script
count_more heard item script h one =
    ap (λ (i : Scripted). heard ++ i ∷ []) one ∙ ap (λ (xs : List Scripted). xs ++ next_item (drop (length heard) script) ∷ []) h
    ∙ sym (ap (λ (n : ℕ). heard_of n script) (length_push heard item) ∙ heard_more (length heard) script)

pub hears_more : (a b c : Option (List Scripted)) (heard : List Scripted) (item : Scripted) → HearsAll a b heard → HearsOne b c item → HearsAll a c (heard ++ item ∷ [])
hears_more None b c heard item h one = record { told = tt; left = one.left ∙ ap without_next h.left }
hears_more (Some script) b c heard item h one =
    let told : item ≡ next_item (drop (length heard) script) = subst (λ (x : Option (List Scripted)). IfSome x (λ items. item ≡ next_item items)) h.left one.told in
    record {
      told = count_more heard item script h.told told;
      left = one.left ∙ ap without_next h.left ∙ ap Some (drop-drop 1 (length heard) script ∙ sym (ap (λ (n : ℕ). drop n script) (length_push heard item)));
    }

-- and what is sent

pub sends_nothing : (a : Option (List Sent)) → a ≡ with_all a []
sends_nothing None = refl
sends_nothing (Some sent) = ap Some (sym (append-nil sent))

pub sends_more : (a : Option (List Sent)) (one more : List Sent) → with_all (with_all a one) more ≡ with_all a (one ++ more)
sends_more None one more = refl
sends_more (Some sent) one more = ap Some (append_assoc sent one more)
