-- A head that reading refuses: why no head stands there.
use Rattle.std.proofs.Common.{◌≡◌, ℕ, ◌/◌, ◌%◌, ◌<◌, ◌≤◌, Bool, true, false, ◌&&◌, cond, eqb, ltb, ◌⊎◌, List, [], ◌∷◌, length, Result, Ok, Err, refl, sym, ap, subst, arith, inl, inr}
use Rattle.std.specs.Int.{Width, w16, w32, w64, byte_len}
use Rattle.std.proofs.lemmas.Bool.Decides.{nat_tests}
use Rattle.smp_cbor.specs.declared.heads.Head.{Head}
use Rattle.smp_cbor.specs.declared.heads.Head.TheVariants as heads
use Rattle.smp_cbor.specs.declared.fault.CborKind.{CborKind}
use Rattle.smp_cbor.specs.declared.fault.CborKind.TheVariants as kinds
use Rattle.smp_cbor.specs.Heads.{◌>>=◌, number_at, byte_at, argument_at, simple_at, head_at, named}
use Rattle.smp_cbor.specs.Faults.{width, NoHead, at_end, cut, reserved, no_length, low_simple}
use Rattle.smp_cbor.proofs.Results.{chosen, failed, err_is, not_err}

abbrev at_head : Head → List ℕ → Result (Head × List ℕ) CborKind
at_head hd r = Ok (hd, r)

-- why an argument is refused
abbrev Refused : ℕ → List ℕ → CborKind → Type 0
Refused low b k = ((length b < width low) × (k ≡ kinds.Short)) ⊎ ((28 ≤ low) × (k ≡ kinds.Head))

number_fails : (w : Width) (low : ℕ) (b : List ℕ) (k : CborKind) → width low ≡ byte_len w → number_at w b ≡ Err k → Refused low b k
number_fails w low b k is e =
    elim (chosen (ltb (length b) (byte_len w)) _ _ (Err k) e) [
      | inl p ↦ inl (grind (arith, nat_tests, p.0, is), (err_is kinds.Short k p.1))
      | inr p ↦ not_err _ k p.1
    ]

byte_fails : (b : List ℕ) (k : CborKind) → byte_at b ≡ Err k → Refused 24 b k
byte_fails [] k e = inl (omega arith, (err_is kinds.Short k e))
byte_fails (x ∷ b) k e = not_err _ k e

argument_fails : (low : ℕ) (b : List ℕ) (k : CborKind) → argument_at low b ≡ Err k → Refused low b k
unfolding argument_at
argument_fails low b k e =
    elim (chosen (ltb low 24) _ _ (Err k) e) [
      | inl p ↦ not_err _ k p.1
      | inr p ↦ elim (chosen (eqb low 24) _ _ (Err k) p.1) [
        | inl q ↦ let is : 24 ≡ low = grind (arith, nat_tests, q.0) in subst (λ l. Refused l b k) is (byte_fails b k q.1)
        | inr q ↦ elim (chosen (eqb low 25) _ _ (Err k) q.1) [
          | inl r ↦ let is : 25 ≡ low = grind (arith, nat_tests, r.0) in subst (λ l. Refused l b k) is (number_fails w16 25 b k refl r.1)
          | inr r ↦ elim (chosen (eqb low 26) _ _ (Err k) r.1) [
            | inl t ↦ let is : 26 ≡ low = grind (arith, nat_tests, t.0) in subst (λ l. Refused l b k) is (number_fails w32 26 b k refl t.1)
            | inr t ↦ elim (chosen (eqb low 27) _ _ (Err k) t.1) [
              | inl u ↦ let is : 27 ≡ low = grind (arith, nat_tests, u.0) in subst (λ l. Refused l b k) is (number_fails w64 27 b k refl u.1)
              | inr u ↦ inr (grind (arith, nat_tests, p.0, q.0, r.0, t.0, u.0), (err_is kinds.Head k u.1))
            ]
          ]
        ]
      ]
    ]

no_argument : (x : ℕ) (xs : List ℕ) (k : CborKind) → ((eqb (x % 32) 31 && eqb (x / 32) 4) ≡ false) → ((eqb (x % 32) 31 && eqb (x / 32) 5) ≡ false) → Refused (x % 32) xs k → NoHead (x ∷ xs) k
no_argument x xs k a b (inl p) = rw p.1 (cut p.0)
no_argument x xs k a b (inr p) = rw p.1 (elim (chosen (eqb (x % 32) 31) true false (eqb (x % 32) 31) (same (eqb (x % 32) 31))) [
  | inl q ↦ no_length {x = x} (grind (arith, nat_tests, q.0)) (λ h. grind (arith, nat_tests, q.0, a, h)) (λ h. grind (arith, nat_tests, q.0, b, h))
  | inr q ↦ reserved {x = x} p.0 (grind (arith, nat_tests, q.0))
])
  where
    same : (b : Bool) → cond b true false ≡ b
    same true = refl
    same false = refl

simple_fails : (x : ℕ) (xs : List ℕ) (k : CborKind) → x / 32 ≡ 7 → (a : Result (ℕ × List ℕ) CborKind) → argument_at (x % 32) xs ≡ a → (a >>= λ n. cond (eqb (x % 32) 24 && ltb n.0 32) (failed kinds.Head) (at_head heads.Other n.1)) ≡ Err k → NoHead (x ∷ xs) k
unfolding argument_at
simple_fails x xs k major (Err j) is e =
    let f : Refused (x % 32) xs j = argument_fails (x % 32) xs j is in
    let a : (eqb (x % 32) 31 && eqb (x / 32) 4) ≡ false = grind (arith, nat_tests, major) in
    let b : (eqb (x % 32) 31 && eqb (x / 32) 5) ≡ false = grind (arith, nat_tests, major) in
    no_argument x xs k a b (subst (λ j. Refused (x % 32) xs j) (sym (err_is j k e)) f)
simple_fails x xs k major (Ok n) is e =
    elim (chosen (eqb (x % 32) 24 && ltb n.0 32) _ _ (Err k) e) [
      | inl p ↦
          let low : x % 32 ≡ 24 = grind (arith, nat_tests, p.0) in
          let small : n.0 < 32 = grind (arith, nat_tests, p.0) in
          let first : 248 ≡ x = omega arith in
          let one : byte_at xs ≡ Ok n = subst (λ l. argument_at l xs ≡ Ok n) low is in
          subst (λ y. NoHead (y ∷ xs) k) first (rw ((err_is kinds.Head k p.1)) (simple_byte xs n small one))
      | inr p ↦ not_err _ k p.1
    ]
  where
    simple_byte : (xs : List ℕ) (n : ℕ × List ℕ) → n.0 < 32 → byte_at xs ≡ Ok n → NoHead (248 ∷ xs) kinds.Head
    simple_byte [] n small e = absurd cc
    simple_byte (y ∷ ys) n small e = let same : y ≡ n.0 = ap (λ (r : Result (ℕ × List ℕ) CborKind). elim r [ Ok m ↦ m.0 | Err k ↦ 0 ]) e in low_simple (omega arith)

pub head_fails : (b : List ℕ) (k : CborKind) → head_at b ≡ Err k → NoHead b k
unfolding head_at simple_at
head_fails [] k e = rw ((err_is kinds.Short k e)) at_end
head_fails (x ∷ xs) k e =
    elim (chosen (eqb (x / 32) 7) _ _ (Err k) e) [
      | inl p ↦ elim (chosen (eqb (x % 32) 20) _ _ (Err k) p.1) [
        | inl q ↦ not_err _ k q.1
        | inr q ↦ elim (chosen (eqb (x % 32) 21) _ _ (Err k) q.1) [
          | inl r ↦ not_err _ k r.1
          | inr r ↦ elim (chosen (eqb (x % 32) 22) _ _ (Err k) r.1) [
            | inl t ↦ not_err _ k t.1
            | inr t ↦ simple_fails x xs k (grind (arith, nat_tests, p.0)) (argument_at (x % 32) xs) refl t.1
          ]
        ]
      ]
      | inr p ↦ elim (chosen (eqb (x % 32) 31 && eqb (x / 32) 4) _ _ (Err k) p.1) [
        | inl q ↦ not_err _ k q.1
        | inr q ↦ elim (chosen (eqb (x % 32) 31 && eqb (x / 32) 5) _ _ (Err k) q.1) [
          | inl r ↦ not_err _ k r.1
          | inr r ↦ named_fails x xs k q.0 r.0 (argument_at (x % 32) xs) refl r.1
        ]
      ]
    ]
  where
    named_fails : (x : ℕ) (xs : List ℕ) (k : CborKind) → ((eqb (x % 32) 31 && eqb (x / 32) 4) ≡ false) → ((eqb (x % 32) 31 && eqb (x / 32) 5) ≡ false) → (a : Result (ℕ × List ℕ) CborKind) → argument_at (x % 32) xs ≡ a → (a >>= λ n. at_head (named (x / 32) n.0) n.1) ≡ failed k → NoHead (x ∷ xs) k
    named_fails x xs k p q (Ok n) is e = not_err _ k e
    named_fails x xs k p q (Err j) is e = no_argument x xs k p q (subst (λ j. Refused (x % 32) xs j) (sym (err_is j k e)) (argument_fails (x % 32) xs j is))
