-- A head that is spelled is read, whatever follows; a head that is read is spelled so.
use Rattle.std.proofs.Common.{◌≡◌, ℕ, zero, suc, ◌+◌, ◌*◌, ◌/◌, ◌%◌, ◌<◌, ◌≤◌, true, false, ◌&&◌, cond, eqb, ltb, List, [], ◌∷◌, ◌++◌, length, get_or, take, drop, Some, None, Result, Ok, Err, refl, sym, ap, subst, arith, inl, inr}
use Rattle.std.specs.Int.{Width, w16, w32, w64, byte_len, from_be_bytes}
use Rattle.std.proofs.lemmas.Bool.{ltb-false, le-ltb}
use Rattle.std.proofs.lemmas.Bool.Decides.{nat_tests}
use Rattle.std.proofs.lemmas.List.{take_at, drop_at, length-append, length-take, take-append-drop}
use Rattle.smp_cbor.specs.declared.heads.Head.{Head}
use Rattle.smp_cbor.specs.declared.heads.Head.TheVariants as heads
use Rattle.smp_cbor.specs.declared.fault.CborKind.{CborKind}
use Rattle.smp_cbor.specs.declared.fault.CborKind.TheVariants as kinds
use Rattle.smp_cbor.specs.Heads.{◌>>=◌, number_at, byte_at, argument_at, simple_at, head_at, named}
use Rattle.smp_cbor.specs.Spelling.{Numbers, small, in_1, in_2, in_4, in_8, Numbered, IsSimple, IsHead}
use Rattle.smp_cbor.proofs.Results.{chosen, done, ok_is, not_ok}

number_again : (w : Width) (bs rest : List ℕ) → length bs ≡ byte_len w → number_at w (bs ++ rest) ≡ Ok (from_be_bytes w bs, rest)
number_again w bs rest len =
    let long : ltb (length (bs ++ rest)) (byte_len w) ≡ false = le-ltb _ _ (omega (arith, length-append bs rest)) in
    rw (long, take_at bs rest (byte_len w) len, drop_at bs rest (byte_len w) len) refl

pub argument_again : {low : ℕ} {bs : List ℕ} {n : ℕ} → Numbers low bs n → (rest : List ℕ) → argument_at low (bs ++ rest) ≡ Ok (n, rest)
unfolding argument_at
argument_again (small {low} lt) rest = let t : ltb low 24 ≡ true = grind (arith, nat_tests) in rw t refl
argument_again in_1 rest = refl
argument_again (in_2 {bs} len) rest = number_again w16 bs rest len
argument_again (in_4 {bs} len) rest = number_again w32 bs rest len
argument_again (in_8 {bs} len) rest = number_again w64 bs rest len

pub low_below : {low : ℕ} {bs : List ℕ} {n : ℕ} → Numbers low bs n → low < 28
low_below (small lt) = omega arith
low_below in_1 = omega arith
low_below (in_2 len) = omega arith
low_below (in_4 len) = omega arith
low_below (in_8 len) = omega arith

-- the two parts of a first byte
first_major : (major low : ℕ) → low < 32 → (32 * major + low) / 32 ≡ major
first_major major low lt = omega arith

first_low : (major low : ℕ) → low < 32 → (32 * major + low) % 32 ≡ low
first_low major low lt = omega arith

named_again : (major n : ℕ) (h : List ℕ) → major < 7 → Numbered major n h → (rest : List ℕ) → head_at (h ++ rest) ≡ Ok (named major n, rest)
unfolding head_at
named_again major n h lt r rest =
    let below : r.low < 28 = low_below r.number in
    let q = first_major major r.low (omega arith) in
    let m = first_low major r.low (omega arith) in
    let a = argument_again r.number rest in
    let t : eqb major 7 ≡ false = grind (arith, nat_tests) in
    let u : eqb r.low 31 ≡ false = grind (arith, nat_tests) in
    rw (r.is, q, m, t, u, a) refl

simple_again : (h : List ℕ) → IsSimple h → (rest : List ℕ) → head_at (h ++ rest) ≡ Ok (heads.Other, rest)
unfolding head_at simple_at
simple_again h r rest =
    let below : r.low < 28 = low_below r.number in
    let q = first_major 7 r.low (omega arith) in
    let m = first_low 7 r.low (omega arith) in
    let a = argument_again r.number rest in
    let t : eqb r.low 20 ≡ false = grind (arith, nat_tests, r.not_false) in
    let u : eqb r.low 21 ≡ false = grind (arith, nat_tests, r.not_true) in
    let v : eqb r.low 22 ≡ false = grind (arith, nat_tests, r.not_null) in
    let w : (eqb r.low 24 && ltb r.n 32) ≡ false = grind (arith, nat_tests, r.wide) in
    rw (r.is, q, m, t, u, v, a, w) refl

pub head_again : (h : List ℕ) (hd : Head) → IsHead h hd → (rest : List ℕ) → head_at (h ++ rest) ≡ Ok (hd, rest)
unfolding head_at simple_at
head_again h (heads.Unsigned n) r rest = named_again 0 n h (omega arith) r rest
head_again h (heads.Negative n) r rest = named_again 1 n h (omega arith) r rest
head_again h (heads.Octets n) r rest = named_again 2 n h (omega arith) r rest
head_again h (heads.Text n) r rest = named_again 3 n h (omega arith) r rest
head_again h (heads.List (Some n)) r rest = named_again 4 n h (omega arith) r rest
head_again h (heads.List None) r rest = rw r refl
head_again h (heads.Map (Some n)) r rest = named_again 5 n h (omega arith) r rest
head_again h (heads.Map None) r rest = rw r refl
head_again h heads.Tag r rest = named_again 6 r.0 h (omega arith) r.1 rest
head_again h (heads.Bool true) r rest = rw r refl
head_again h (heads.Bool false) r rest = rw r refl
head_again h heads.Null r rest = rw r refl
head_again h heads.Other r rest = simple_again h r rest

-- ---- the other way

abbrev pub IsBytes : List ℕ → Type 0
IsBytes bytes = (i : ℕ) → get_or bytes i 0 < 256

-- a head, and what stands after it
pub record Begins (b : List ℕ) (hd : Head) (rest : List ℕ) : Type 0 where
  pub head : List ℕ
  pub is : IsHead head hd
  pub parts : b ≡ head ++ rest

pub record Argument (low : ℕ) (b : List ℕ) (n : ℕ) (rest : List ℕ) : Type 0 where
  pub bytes : List ℕ
  pub number : Numbers low bytes n
  pub parts : b ≡ bytes ++ rest

number_takes : (w : Width) (low : ℕ) (b : List ℕ) (n : ℕ) (rest : List ℕ) → ((bs : List ℕ) → length bs ≡ byte_len w → Numbers low bs (from_be_bytes w bs)) → number_at w b ≡ Ok (n, rest) → Argument low b n rest
number_takes w low b n rest wide e =
    elim (chosen (ltb (length b) (byte_len w)) (Err kinds.Short) (done (from_be_bytes w (take (byte_len w) b), drop (byte_len w) b)) (Ok (n, rest)) e) [
      | inl p ↦ not_ok kinds.Short (n, rest) p.1
      | inr p ↦
          let long : byte_len w ≤ length b = ltb-false _ _ p.0 in
          let same = ok_is (from_be_bytes w (take (byte_len w) b), drop (byte_len w) b) (n, rest) p.1 in
          let n-is : from_be_bytes w (take (byte_len w) b) ≡ n = ap (λ (p : ℕ × List ℕ). p.0) same in
          let rest-is : drop (byte_len w) b ≡ rest = ap (λ (p : ℕ × List ℕ). p.1) same in
          record {
            bytes = take (byte_len w) b;
            number = rw (← n-is) (wide (take (byte_len w) b) (omega (arith, length-take (byte_len w) b)));
            parts = rw (← rest-is) (sym (take-append-drop (byte_len w) b));
          }
    ]

byte_takes : (b : List ℕ) (n : ℕ) (rest : List ℕ) → byte_at b ≡ Ok (n, rest) → Argument 24 b n rest
byte_takes [] n rest e = not_ok kinds.Short (n, rest) e
byte_takes (x ∷ xs) n rest e =
    let same = ok_is (x, xs) (n, rest) e in
    subst (λ (p : ℕ × List ℕ). Argument 24 (x ∷ xs) p.0 p.1) same (record { bytes = x ∷ []; number = in_1; parts = refl })

pub argument_takes : (low : ℕ) (b : List ℕ) (n : ℕ) (rest : List ℕ) → argument_at low b ≡ Ok (n, rest) → Argument low b n rest
unfolding argument_at
argument_takes low b n rest e =
    elim (chosen (ltb low 24) _ _ (Ok (n, rest)) e) [
      | inl p ↦ let same = ok_is (low, b) (n, rest) p.1 in
          subst (λ (p : ℕ × List ℕ). Argument low b p.0 p.1) same (record { bytes = []; number = small (grind (arith, nat_tests, p.0)); parts = refl })
      | inr p ↦ elim (chosen (eqb low 24) _ _ (Ok (n, rest)) p.1) [
        | inl q ↦ let is : 24 ≡ low = grind (arith, nat_tests, q.0) in subst (λ l. Argument l b n rest) is (byte_takes b n rest q.1)
        | inr q ↦ elim (chosen (eqb low 25) _ _ (Ok (n, rest)) q.1) [
          | inl r ↦ let is : 25 ≡ low = grind (arith, nat_tests, r.0) in subst (λ l. Argument l b n rest) is (number_takes w16 25 b n rest (λ bs len. in_2 len) r.1)
          | inr r ↦ elim (chosen (eqb low 26) _ _ (Ok (n, rest)) r.1) [
            | inl t ↦ let is : 26 ≡ low = grind (arith, nat_tests, t.0) in subst (λ l. Argument l b n rest) is (number_takes w32 26 b n rest (λ bs len. in_4 len) t.1)
            | inr t ↦ elim (chosen (eqb low 27) _ _ (Ok (n, rest)) t.1) [
              | inl u ↦ let is : 27 ≡ low = grind (arith, nat_tests, u.0) in subst (λ l. Argument l b n rest) is (number_takes w64 27 b n rest (λ bs len. in_8 len) u.1)
              | inr u ↦ not_ok kinds.Head (n, rest) u.1
            ]
          ]
        ]
      ]
    ]

named_is : (major n : ℕ) (h : List ℕ) → major < 7 → Numbered major n h → IsHead h (named major n)
named_is zero n h lt r = r
named_is (suc zero) n h lt r = r
named_is (suc (suc zero)) n h lt r = r
named_is (suc (suc (suc zero))) n h lt r = r
named_is (suc (suc (suc (suc zero)))) n h lt r = r
named_is (suc (suc (suc (suc (suc zero))))) n h lt r = r
named_is (suc (suc (suc (suc (suc (suc zero)))))) n h lt r = (n, r)
named_is (suc (suc (suc (suc (suc (suc (suc k))))))) n h lt r = absurd (omega arith)

abbrev at_head : Head → List ℕ → Result (Head × List ℕ) CborKind
at_head hd r = Ok (hd, r)

-- what follows a first byte
module _ (x : ℕ) (xs : List ℕ) (hd : Head) (rest : List ℕ) where
  one_byte : (got : Head) → x ≡ 32 * (x / 32) + x % 32 → IsHead (x ∷ []) got → at_head got xs ≡ at_head hd rest → Begins (x ∷ xs) hd rest
  one_byte got whole is e =
      let same = ok_is (got, xs) (hd, rest) e in
      subst (λ (p : Head × List ℕ). Begins (x ∷ xs) p.0 p.1) same (record { head = x ∷ []; is = is; parts = refl })

  simple_takes : x / 32 ≡ 7 → simple_at (x % 32) xs ≡ Ok (hd, rest) → Begins (x ∷ xs) hd rest
  unfolding simple_at
  simple_takes major e =
      let whole : x ≡ 32 * (x / 32) + x % 32 = omega arith in
      elim (chosen (eqb (x % 32) 20) _ _ (Ok (hd, rest)) e) [
        | inl p ↦ let is : x ≡ 244 = grind (arith, nat_tests, p.0) in one_byte (heads.Bool false) whole (ap (λ (y : ℕ). y ∷ []) is) p.1
        | inr p ↦ elim (chosen (eqb (x % 32) 21) _ _ (Ok (hd, rest)) p.1) [
          | inl q ↦ let is : x ≡ 245 = grind (arith, nat_tests, q.0) in one_byte (heads.Bool true) whole (ap (λ (y : ℕ). y ∷ []) is) q.1
          | inr q ↦ elim (chosen (eqb (x % 32) 22) _ _ (Ok (hd, rest)) q.1) [
            | inl r ↦ let is : x ≡ 246 = grind (arith, nat_tests, r.0) in one_byte heads.Null whole (ap (λ (y : ℕ). y ∷ []) is) r.1
            | inr r ↦ simple_rest major p.0 q.0 r.0 (argument_at (x % 32) xs) refl r.1
          ]
        ]
      ]
    where
      simple_rest : x / 32 ≡ 7 → eqb (x % 32) 20 ≡ false → eqb (x % 32) 21 ≡ false → eqb (x % 32) 22 ≡ false → (a : Result (ℕ × List ℕ) CborKind) → argument_at (x % 32) xs ≡ a
          → (a >>= λ n. cond (eqb (x % 32) 24 && ltb n.0 32) (Err kinds.Head) (at_head heads.Other n.1)) ≡ Ok (hd, rest) → Begins (x ∷ xs) hd rest
      simple_rest major a b c (Err k) is e = not_ok k (hd, rest) e
      simple_rest major a b c (Ok n) is e =
          elim (chosen (eqb (x % 32) 24 && ltb n.0 32) _ _ (Ok (hd, rest)) e) [
            | inl p ↦ not_ok kinds.Head (hd, rest) p.1
            | inr p ↦
                let arg = argument_takes (x % 32) xs n.0 n.1 is in
                let same = ok_is (heads.Other, n.1) (hd, rest) p.1 in
                let wide : x % 32 ≡ 24 → 32 ≤ n.0 = λ h. grind (arith, nat_tests, p.0, h) in
                let whole : x ≡ 32 * 7 + x % 32 = omega arith in
                let simple : IsSimple (x ∷ arg.bytes) = record {
                  low = x % 32;
                  bytes = arg.bytes;
                  n = n.0;
                  number = arg.number;
                  not_false = λ h. grind (arith, nat_tests, a, h);
                  not_true = λ h. grind (arith, nat_tests, b, h);
                  not_null = λ h. grind (arith, nat_tests, c, h);
                  wide = wide;
                  is = ap (λ (y : ℕ). y ∷ arg.bytes) whole;
                } in
                let begins : Begins (x ∷ xs) heads.Other n.1 = record { head = x ∷ arg.bytes; is = simple; parts = ap (λ (l : List ℕ). x ∷ l) arg.parts } in
                subst (λ (p : Head × List ℕ). Begins (x ∷ xs) p.0 p.1) same begins
          ]

  named_takes : x < 256 → eqb (x / 32) 7 ≡ false → (a : Result (ℕ × List ℕ) CborKind) → argument_at (x % 32) xs ≡ a → (a >>= λ n. at_head (named (x / 32) n.0) n.1) ≡ Ok (hd, rest) → Begins (x ∷ xs) hd rest
  named_takes fits other (Err k) is e = not_ok k (hd, rest) e
  named_takes fits other (Ok n) is e =
      let arg = argument_takes (x % 32) xs n.0 n.1 is in
      let below : x / 32 < 7 = grind (arith, nat_tests, other) in
      let whole : x ≡ 32 * (x / 32) + x % 32 = omega arith in
      let numbered : Numbered (x / 32) n.0 (x ∷ arg.bytes) = record { low = x % 32; bytes = arg.bytes; number = arg.number; is = ap (λ (y : ℕ). y ∷ arg.bytes) whole } in
      let same = ok_is (named (x / 32) n.0, n.1) (hd, rest) e in
      let begins : Begins (x ∷ xs) (named (x / 32) n.0) n.1 = record { head = x ∷ arg.bytes; is = named_is (x / 32) n.0 (x ∷ arg.bytes) below numbered; parts = ap (λ (l : List ℕ). x ∷ l) arg.parts } in
      subst (λ (p : Head × List ℕ). Begins (x ∷ xs) p.0 p.1) same begins

  open_is : (major byte : ℕ) → byte ≡ 32 * major + 31 → (eqb (x % 32) 31 && eqb (x / 32) major) ≡ true → x ≡ byte
  open_is major byte is t = grind (arith, nat_tests, t)

pub head_takes : (b : List ℕ) (hd : Head) (rest : List ℕ) → IsBytes b → head_at b ≡ Ok (hd, rest) → Begins b hd rest
unfolding head_at
head_takes [] hd rest fits e = not_ok kinds.Short (hd, rest) e
head_takes (x ∷ xs) hd rest fits e =
    let whole : x ≡ 32 * (x / 32) + x % 32 = omega arith in
    elim (chosen (eqb (x / 32) 7) _ _ (Ok (hd, rest)) e) [
      | inl p ↦ simple_takes x xs hd rest (grind (arith, nat_tests, p.0)) p.1
      | inr p ↦ elim (chosen (eqb (x % 32) 31 && eqb (x / 32) 4) _ _ (Ok (hd, rest)) p.1) [
        | inl q ↦ one_byte x xs hd rest (heads.List None) whole (ap (λ (y : ℕ). y ∷ []) (open_is x xs hd rest 4 159 refl q.0)) q.1
        | inr q ↦ elim (chosen (eqb (x % 32) 31 && eqb (x / 32) 5) _ _ (Ok (hd, rest)) q.1) [
          | inl r ↦ one_byte x xs hd rest (heads.Map None) whole (ap (λ (y : ℕ). y ∷ []) (open_is x xs hd rest 5 191 refl r.0)) r.1
          | inr r ↦ named_takes x xs hd rest (fits 0) p.0 (argument_at (x % 32) xs) refl r.1
        ]
      ]
    ]
