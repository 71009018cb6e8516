-- What is read is a part of the bytes, and what stands after it is their end.
use Rattle.std.proofs.Common.{◌≡◌, ℕ, zero, suc, ◌/◌, ◌%◌, Bool, true, false, ◌&&◌, eqb, ltb, List, [], ◌∷◌, ◌++◌, drop, Option, Some, None, Result, Ok, refl, sym, ap, subst, ◌∙◌, append_assoc, inl, inr}
use Rattle.std.proofs.lemmas.List.{append-nil}
use Rattle.smp_cbor.specs.declared.heads.Head.{Head}
use Rattle.smp_cbor.specs.declared.heads.Head.TheVariants as heads
use Rattle.smp_cbor.specs.declared.fault.CborKind.{CborKind}
use Rattle.smp_cbor.specs.declared.fault.Stop.{Stop}
use Rattle.smp_cbor.specs.Heads.{◌>>=◌, argument_at, simple_at, head_at}
use Rattle.smp_cbor.specs.Skipping.{placed, octets_at, text_at, begins_break, Skip, entry, skips, skip_body, skip_at}
use Rattle.smp_cbor.specs.Values.{key_at}
use Rattle.smp_cbor.specs.Views.{IsPart}
use Rattle.smp_cbor.proofs.Results.{chosen, done, ok_is, not_ok, bind_ok}
use Rattle.smp_cbor.proofs.HeadLaws.{argument_takes}
use Rattle.smp_cbor.proofs.Takes.{placed_ok, octets_takes, text_takes}
use Rattle.smp_cbor.proofs.Maps.{key_skips}

-- r is the end of b
pub record Ends (b r : List ℕ) : Type 0 where
  pub front : List ℕ
  pub parts : b ≡ front ++ r

pub ends_all : (b : List ℕ) → Ends b b
ends_all b = record { front = []; parts = refl }

pub ends_then : (b r t : List ℕ) → Ends b r → Ends r t → Ends b t
ends_then b r t one two = record { front = one.front ++ two.front; parts = one.parts ∙ ap (λ (x : List ℕ). one.front ++ x) two.parts ∙ sym (append_assoc one.front two.front t) }

ends_cons : (x : ℕ) (b r : List ℕ) → Ends b r → Ends (x ∷ b) r
ends_cons x b r e = record { front = x ∷ e.front; parts = ap (λ (t : List ℕ). x ∷ t) e.parts }

pub part_of_end : (b r p : List ℕ) → Ends b r → IsPart p r → IsPart p b
part_of_end b r p e (front, rest, is) = (e.front ++ front, rest, e.parts ∙ ap (λ (t : List ℕ). e.front ++ t) is ∙ sym (append_assoc e.front front (p ++ rest)))

pub end_is_part : (b r : List ℕ) → Ends b r → IsPart r b
end_is_part b r e = (e.front, [], e.parts ∙ ap (λ (t : List ℕ). e.front ++ t) (sym (append-nil r)))

pub front_is_part : (b p r : List ℕ) → b ≡ p ++ r → IsPart p b
front_is_part b p r is = ([], r, is)

pub nothing_is_part : (b : List ℕ) → IsPart [] b
nothing_is_part b = ([], b, refl)

-- ---- heads

argument_ends : (low : ℕ) (b : List ℕ) (x : ℕ × List ℕ) → argument_at low b ≡ Ok x → Ends b x.1
argument_ends low b x e = let a = argument_takes low b x.0 x.1 e in record { front = a.bytes; parts = a.parts }

abbrev at_head : Head → List ℕ → Result (Head × List ℕ) CborKind
at_head hd r = Ok (hd, r)

here_ends : (b : List ℕ) (hd : Head) (x : Head × List ℕ) → at_head hd b ≡ Ok x → Ends b x.1
here_ends b hd x e = subst (λ (p : Head × List ℕ). Ends b p.1) (ok_is (hd, b) x e) (ends_all b)

simple_ends : (low : ℕ) (b : List ℕ) (x : Head × List ℕ) → simple_at low b ≡ Ok x → Ends b x.1
unfolding simple_at
simple_ends low b x e =
    elim (chosen (eqb low 20) _ _ (Ok x) e) [
      | inl p ↦ here_ends b (heads.Bool false) x p.1
      | inr p ↦ elim (chosen (eqb low 21) _ _ (Ok x) p.1) [
        | inl q ↦ here_ends b (heads.Bool true) x q.1
        | inr q ↦ elim (chosen (eqb low 22) _ _ (Ok x) q.1) [
          | inl r ↦ here_ends b heads.Null x r.1
          | inr r ↦
              let n = bind_ok (argument_at low b) _ x r.1 in
              elim (chosen (eqb low 24 && ltb n.0.0 32) _ _ (Ok x) n.2) [
                | inl t ↦ not_ok _ x t.1
                | inr t ↦ ends_then b n.0.1 x.1 (argument_ends low b n.0 n.1) (here_ends n.0.1 heads.Other x t.1)
              ]
        ]
      ]
    ]

head_ends : (b : List ℕ) (x : Head × List ℕ) → head_at b ≡ Ok x → Ends b x.1
unfolding head_at
head_ends [] x e = not_ok _ x e
head_ends (y ∷ b) x e = ends_cons y b x.1 (elim (chosen (eqb (y / 32) 7) _ _ (Ok x) e) [
  | inl p ↦ simple_ends (y % 32) b x p.1
  | inr p ↦ elim (chosen (eqb (y % 32) 31 && eqb (y / 32) 4) _ _ (Ok x) p.1) [
    | inl q ↦ here_ends b (heads.List None) x q.1
    | inr q ↦ elim (chosen (eqb (y % 32) 31 && eqb (y / 32) 5) _ _ (Ok x) q.1) [
      | inl r ↦ here_ends b (heads.Map None) x r.1
      | inr r ↦
          let n = bind_ok (argument_at (y % 32) b) _ x r.1 in
          ends_then b n.0.1 x.1 (argument_ends (y % 32) b n.0 n.1) (here_ends n.0.1 _ x n.2)
    ]
  ]
])

pub placed_ends : (b : List ℕ) (x : Head × List ℕ) → placed b (head_at b) ≡ Ok x → Ends b x.1
placed_ends b x e = head_ends b x (placed_ok b (head_at b) x e)

-- ---- items

pub octets_end : (s : List ℕ) (n : ℕ) (rest : List ℕ) (x : List ℕ × List ℕ) → octets_at s n rest ≡ Ok x → Ends rest x.1
octets_end s n rest x e = let o = octets_takes s n rest x e in record { front = x.0; parts = o.1 }

pub text_ends : (s : List ℕ) (n : ℕ) (rest : List ℕ) (x : List ℕ × List ℕ) → text_at s n rest ≡ Ok x → Ends rest x.1
text_ends s n rest x e = let t = text_takes s n rest x e in record { front = x.0; parts = t.1 }

rest_is : (b r : List ℕ) → done {E = Stop} b ≡ done {E = Stop} r → Ends b r
rest_is b r e = subst (λ (t : List ℕ). Ends b t) (ok_is b r e) (ends_all b)

module _ (skip : Skip) (inner : (b r : List ℕ) → skip b ≡ Ok r → Ends b r) where
  entry_ends : (pairs : Bool) (b r : List ℕ) → entry pairs skip b ≡ Ok r → Ends b r
  entry_ends true b r e = let x = bind_ok (skip b) skip r e in ends_then b x.0 r (inner b x.0 x.1) (inner x.0 r x.2)
  entry_ends false b r e = let x = bind_ok (skip b) (λ r. Ok r) r e in ends_then b x.0 r (inner b x.0 x.1) (rest_is x.0 r x.2)

  break_ends : (b r : List ℕ) → begins_break b ≡ true → done {E = Stop} (drop 1 b) ≡ done {E = Stop} r → Ends b r
  break_ends [] r is e = absurd cc
  break_ends (x ∷ b) r is e = ends_cons x b r (rest_is b r e)

  entries_end : (until pairs : Bool) (k : ℕ) (b r : List ℕ) → skips until (entry pairs skip) k b ≡ Ok r → Ends b r
  unfolding skips
  entries_end true pairs zero b r e = not_ok _ r e
  entries_end false pairs zero b r e = rest_is b r e
  entries_end true pairs (suc k) b r e =
      elim (chosen (begins_break b) (done (drop 1 b)) (entry pairs skip b >>= skips true (entry pairs skip) k) (Ok r) e) [
        | inl p ↦ break_ends b r p.0 p.1
        | inr p ↦ let x = bind_ok (entry pairs skip b) (skips true (entry pairs skip) k) r p.1 in ends_then b x.0 r (entry_ends pairs b x.0 x.1) (entries_end true pairs k x.0 r x.2)
      ]
  entries_end false pairs (suc k) b r e =
      let x = bind_ok (entry pairs skip b) (skips false (entry pairs skip) k) r e in ends_then b x.0 r (entry_ends pairs b x.0 x.1) (entries_end false pairs k x.0 r x.2)

body_ends : (inner : Option Skip) → ((skip : Skip) → inner ≡ Some skip → (b r : List ℕ) → skip b ≡ Ok r → Ends b r) → (b : List ℕ) (hd : Head) (t r : List ℕ) → skip_body inner b hd t ≡ Ok r → Ends t r
body_ends inner deeper b (heads.Unsigned n) t r e = rest_is t r e
body_ends inner deeper b (heads.Negative n) t r e = rest_is t r e
body_ends inner deeper b (heads.Bool v) t r e = rest_is t r e
body_ends inner deeper b heads.Null t r e = rest_is t r e
body_ends inner deeper b heads.Other t r e = rest_is t r e
body_ends inner deeper b (heads.Octets n) t r e = let x = bind_ok (octets_at b n t) (λ x. Ok x.1) r e in ends_then t x.0.1 r (octets_end b n t x.0 x.1) (rest_is x.0.1 r x.2)
body_ends inner deeper b (heads.Text n) t r e = let x = bind_ok (text_at b n t) (λ x. Ok x.1) r e in ends_then t x.0.1 r (text_ends b n t x.0 x.1) (rest_is x.0.1 r x.2)
body_ends None deeper b (heads.List c) t r e = not_ok _ r e
body_ends None deeper b (heads.Map c) t r e = not_ok _ r e
body_ends None deeper b heads.Tag t r e = not_ok _ r e
body_ends (Some skip) deeper b (heads.List (Some n)) t r e = entries_end skip (deeper skip refl) false false n t r e
body_ends (Some skip) deeper b (heads.List None) t r e = entries_end skip (deeper skip refl) true false _ t r e
body_ends (Some skip) deeper b (heads.Map (Some n)) t r e = entries_end skip (deeper skip refl) false true n t r e
body_ends (Some skip) deeper b (heads.Map None) t r e = entries_end skip (deeper skip refl) true true _ t r e
body_ends (Some skip) deeper b heads.Tag t r e = deeper skip refl t r e

none_some : (skip : Skip) → ◌≡◌ {A = Option Skip} None (Some skip) → ⊥
none_some skip e = cc

some_same : (s t : Skip) → ◌≡◌ {A = Option Skip} (Some s) (Some t) → s ≡ t
some_same s t e = cc

pub skip_ends : (d : ℕ) (b r : List ℕ) → skip_at d b ≡ Ok r → Ends b r
unfolding skip_at
skip_ends zero b r e =
    let h = bind_ok (placed b (head_at b)) (λ h. skip_body None b h.0 h.1) r e in
    ends_then b h.0.1 r (placed_ends b h.0 h.1) (body_ends None (λ skip is. absurd (none_some skip is)) b h.0.0 h.0.1 r h.2)
skip_ends (suc d) b r e =
    let h = bind_ok (placed b (head_at b)) (λ h. skip_body (Some (skip_at d)) b h.0 h.1) r e in
    let deeper : (skip : Skip) → ◌≡◌ {A = Option Skip} (Some (skip_at d)) (Some skip) → (b r : List ℕ) → skip b ≡ Ok r → Ends b r =
    λ skip is. subst (λ (s : Skip). (b r : List ℕ) → s b ≡ Ok r → Ends b r) (some_same (skip_at d) skip is) (skip_ends d) in
    ends_then b h.0.1 r (placed_ends b h.0 h.1) (body_ends (Some (skip_at d)) deeper b h.0.0 h.0.1 r h.2)

pub key_ends : (b : List ℕ) (x : List ℕ × List ℕ) → key_at b ≡ Ok x → Ends b x.1
key_ends b x e = skip_ends 0 b x.1 (key_skips 0 b x e)

-- ---- what is lent

pub lent_end : (b r p : List ℕ) → p ≡ r → Ends b r → IsPart p b
lent_end b r p same e = subst (λ (t : List ℕ). IsPart t b) (sym same) (end_is_part b r e)

pub octets_part : (b s : List ℕ) (n : ℕ) (rest : List ℕ) (x : List ℕ × List ℕ) → Ends b rest → octets_at s n rest ≡ Ok x → IsPart x.0 b
octets_part b s n rest x e read = part_of_end b rest x.0 e (front_is_part rest x.0 x.1 (octets_takes s n rest x read).1)

pub text_part : (b s : List ℕ) (n : ℕ) (rest : List ℕ) (x : List ℕ × List ℕ) → Ends b rest → text_at s n rest ≡ Ok x → IsPart x.0 b
text_part b s n rest x e read = part_of_end b rest x.0 e (front_is_part rest x.0 x.1 (text_takes s n rest x read).1)
