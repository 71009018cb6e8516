-- Laws of parts of a list.
use Rattle.std.proofs.Common.{◌≡◌, inl, inr, ℕ, zero, suc, ◌+◌, ◌-◌, ◌≤◌, List, [], ◌∷◌, ◌++◌, length, take, drop, refl, sym, ◌∙◌, ap, subst, arith, length-append, length-take, length-drop, take-append-drop}
use Rattle.std.proofs.lemmas.List.{drop-drop, drop-take, take-take, take_at, drop_at, length-replicate, drop-replicate, take-replicate, replicate-append-replicate}
use Rattle.std.proofs.Math.Seq.{take-add}
use borrow.Rule.Slice.PartMut.{put_mid}
use Rattle.smp_flash.specs.Area.{area, blank, spot, Clear, Keeps, Holds, Faded, Fades, Erased}

-- a part of a part
pub area-area : (p n at size : ℕ) (xs : List ℕ) → p + n ≤ size → area p n (area at size xs) ≡ area (at + p) n xs
area-area p n at size xs le =
    let e : take n (drop p (take size (drop at xs))) ≡ take n (take (size - p) (drop p (drop at xs))) =
    (let s : size ≡ p + (size - p) = omega arith in
    ap (λ (k : ℕ). take n (drop p (take k (drop at xs)))) s ∙ ap (take n) (drop-take p (size - p) (drop at xs))) in
    e ∙ take-take n (size - p) (drop p (drop at xs)) (omega arith) ∙ ap (take n) (drop-drop p at xs)

pub length-area : (p n : ℕ) (xs : List ℕ) → p + n ≤ length xs → length (area p n xs) ≡ n
length-area p n xs le = omega (arith, length-take n (drop p xs), length-drop p xs)

-- what comes before or after a change
pub area-take : (p n at : ℕ) (xs ys : List ℕ) → p + n ≤ at → take at ys ≡ take at xs → area p n ys ≡ area p n xs
area-take p n at xs ys le same =
    let of_take : (zs : List ℕ) → area p n zs ≡ drop p (take (p + n) (take at zs)) = λ zs.
    sym (ap (drop p) (take-take (p + n) at zs le) ∙ drop-take p n zs) in
    of_take ys ∙ ap (λ (zs : List ℕ). drop p (take (p + n) zs)) same ∙ sym (of_take xs)

pub area-drop : (p n at : ℕ) (xs ys : List ℕ) → at ≤ p → drop at ys ≡ drop at xs → area p n ys ≡ area p n xs
area-drop p n at xs ys le same =
    let of_drop : (zs : List ℕ) → area p n zs ≡ take n (drop (p - at) (drop at zs)) = λ zs.
    (let e : p ≡ at + (p - at) = omega arith in ap (λ (k : ℕ). take n (drop k zs)) e ∙ ap (take n) (sym (drop-drop (p - at) at zs))) in
    of_drop ys ∙ ap (λ (zs : List ℕ). take n (drop (p - at) zs)) same ∙ sym (of_drop xs)

pub Keeps-refl : (spots : List (ℕ × ℕ)) (xs : List ℕ) → Keeps spots xs xs
Keeps-refl spots xs = record { length_same = refl; apart = λ p n clear. refl }

pub Keeps-trans : (spots : List (ℕ × ℕ)) (xs ys zs : List ℕ) → Keeps spots xs ys → Keeps spots ys zs → Keeps spots xs zs
Keeps-trans spots xs ys zs f g = record {
  length_same = g.length_same ∙ f.length_same;
  apart = λ p n clear. g.apart p n clear ∙ f.apart p n clear;
}

-- what lies apart from the wide spots lies apart from these
pub Keeps-wider : (spots wide : List (ℕ × ℕ)) (xs ys : List ℕ) → ((p n : ℕ) → Clear wide p n → Clear spots p n) → Keeps spots xs ys → Keeps wide xs ys
Keeps-wider spots wide xs ys narrow f = record { length_same = f.length_same; apart = λ p n clear. f.apart p n (narrow p n clear) }

-- a spot within another
pub Clear-within : (at size wide n : ℕ) → wide ≤ at → at + size ≤ wide + n → (p m : ℕ) → Clear (spot wide n) p m → Clear (spot at size) p m
Clear-within at size wide n a b p m clear = (elim clear.0 [ inl before ↦ inl (omega arith) | inr after ↦ inr (omega arith) ], tt)

-- a part is replaced by as many bytes
pub Keeps-put_mid : (at k : ℕ) (xs ys : List ℕ) → at + k ≤ length xs → length ys ≡ k → Keeps (spot at k) xs (put_mid at k xs ys)
Keeps-put_mid at k xs ys le same =
    let front : length (take at xs) ≡ at = omega (arith, length-take at xs) in
    let whole : length (put_mid at k xs ys) ≡ length xs = omega (arith, length-append (take at xs) (ys ++ drop k (drop at xs)), length-append ys (drop k (drop at xs)), front, length-drop k (drop at xs), length-drop at xs) in
    let before : take at (put_mid at k xs ys) ≡ take at xs = take_at (take at xs) (ys ++ drop k (drop at xs)) at front in
    let rest : drop at (put_mid at k xs ys) ≡ ys ++ drop k (drop at xs) = drop_at (take at xs) (ys ++ drop k (drop at xs)) at front in
    let after : drop (at + k) (put_mid at k xs ys) ≡ drop (at + k) xs =
    sym (drop-drop k at (put_mid at k xs ys)) ∙ ap (drop k) rest ∙ drop_at ys (drop k (drop at xs)) k same ∙ drop-drop k at xs in
    record {
      length_same = whole;
      apart = λ p n clear. elim clear.0 [
        | inl h ↦ area-take p n at xs (put_mid at k xs ys) h before
        | inr h ↦ area-drop p n (at + k) xs (put_mid at k xs ys) h after
      ];
    }

pub area-put_mid : (at k : ℕ) (xs ys : List ℕ) → at + k ≤ length xs → length ys ≡ k → area at k (put_mid at k xs ys) ≡ ys
area-put_mid at k xs ys le same =
    let front : length (take at xs) ≡ at = omega (arith, length-take at xs) in
    ap (take k) (drop_at (take at xs) (ys ++ drop k (drop at xs)) at front) ∙ take_at ys (drop k (drop at xs)) k same

pub Holds-put_mid : (at k : ℕ) (xs ys : List ℕ) → at + k ≤ length xs → length ys ≡ k → Holds at ys xs (put_mid at k xs ys)
Holds-put_mid at k xs ys le same = record {
  keeps = rw same (Keeps-put_mid at k xs ys le same);
  holds = rw same (area-put_mid at k xs ys le same);
}

pub Faded-refl : (xs : List ℕ) → Faded xs xs
Faded-refl [] = tt
Faded-refl (x ∷ xs) = (inl refl, Faded-refl xs)

pub Faded-trans : (xs ys zs : List ℕ) → Faded xs ys → Faded ys zs → Faded xs zs
Faded-trans [] [] [] f g = tt
Faded-trans [] [] (z ∷ zs) f g = absurd g
Faded-trans [] (y ∷ ys) zs f g = absurd f
Faded-trans (x ∷ xs) [] zs f g = absurd f
Faded-trans (x ∷ xs) (y ∷ ys) [] f g = absurd g
Faded-trans (x ∷ xs) (y ∷ ys) (z ∷ zs) f g =
    let rest = Faded-trans xs ys zs f.1 g.1 in
    elim g.0 [ inl same ↦ elim f.0 [ inl was ↦ (inl (same ∙ was), rest) | inr gone ↦ (inr (same ∙ gone), rest) ] | inr gone ↦ (inr gone, rest) ]

pub Faded-append : (xs ys us vs : List ℕ) → Faded xs ys → Faded us vs → Faded (xs ++ us) (ys ++ vs)
Faded-append [] [] us vs f g = g
Faded-append [] (y ∷ ys) us vs f g = absurd f
Faded-append (x ∷ xs) [] us vs f g = absurd f
Faded-append (x ∷ xs) (y ∷ ys) us vs f g = (f.0, Faded-append xs ys us vs f.1 g)

pub Faded-take : (n : ℕ) (xs ys : List ℕ) → Faded xs ys → Faded (take n xs) (take n ys)
Faded-take zero xs ys f = tt
Faded-take (suc n) [] [] f = tt
Faded-take (suc n) [] (y ∷ ys) f = absurd f
Faded-take (suc n) (x ∷ xs) [] f = absurd f
Faded-take (suc n) (x ∷ xs) (y ∷ ys) f = (f.0, Faded-take n xs ys f.1)

pub Faded-drop : (n : ℕ) (xs ys : List ℕ) → Faded xs ys → Faded (drop n xs) (drop n ys)
Faded-drop zero xs ys f = f
Faded-drop (suc n) [] [] f = tt
Faded-drop (suc n) [] (y ∷ ys) f = absurd f
Faded-drop (suc n) (x ∷ xs) [] f = absurd f
Faded-drop (suc n) (x ∷ xs) (y ∷ ys) f = Faded-drop n xs ys f.1

pub Faded-area : (p n : ℕ) (xs ys : List ℕ) → Faded xs ys → Faded (area p n xs) (area p n ys)
Faded-area p n xs ys f = Faded-take n (drop p xs) (drop p ys) (Faded-drop p xs ys f)

pub Faded-blank : (xs : List ℕ) → Faded xs (blank (length xs))
Faded-blank [] = tt
Faded-blank (x ∷ xs) = (inr refl, Faded-blank xs)

-- a part is replaced by what is left of it
pub Faded-put_mid : (at k : ℕ) (xs ys : List ℕ) → Faded (area at k xs) ys → Faded xs (put_mid at k xs ys)
Faded-put_mid at k xs ys f =
    let whole : xs ≡ take at xs ++ (take k (drop at xs) ++ drop k (drop at xs)) =
    sym (take-append-drop at xs) ∙ ap (λ (zs : List ℕ). take at xs ++ zs) (sym (take-append-drop k (drop at xs))) in
    let P : List ℕ → Type 0 = λ zs. Faded zs (put_mid at k xs ys) in
    subst P (sym whole) (Faded-append (take at xs) (take at xs) _ _ (Faded-refl (take at xs)) (Faded-append (area at k xs) ys _ _ f (Faded-refl (drop k (drop at xs)))))

pub Fades-put_mid : (at k : ℕ) (xs ys : List ℕ) → at + k ≤ length xs → length ys ≡ k → Faded (area at k xs) ys → Fades at k xs (put_mid at k xs ys)
Fades-put_mid at k xs ys le same f = record { keeps = Keeps-put_mid at k xs ys le same; faded = Faded-put_mid at k xs ys f }

-- the same, with what the part holds now named
pub Holds-part : (at k : ℕ) (xs ys bytes : List ℕ) → at + k ≤ length xs → k ≡ length bytes → ys ≡ bytes → Holds at bytes xs (put_mid at k xs ys)
Holds-part at k xs ys bytes le size is =
    let P : List ℕ → Type 0 = λ zs. Holds at zs xs (put_mid at k xs ys) in
    subst P is (Holds-put_mid at k xs ys le (ap length is ∙ sym size))

pub Keeps-part : (at k n : ℕ) (xs ys : List ℕ) → at + k ≤ length xs → k ≡ n → length ys ≡ k → Keeps (spot at n) xs (put_mid at k xs ys)
Keeps-part at k n xs ys le size same =
    let P : ℕ → Type 0 = λ m. Keeps (spot at m) xs (put_mid at k xs ys) in
    subst P size (Keeps-put_mid at k xs ys le same)

pub Fades-refl : (at size : ℕ) (xs : List ℕ) → Fades at size xs xs
Fades-refl at size xs = record { keeps = Keeps-refl (spot at size) xs; faded = Faded-refl xs }

-- the part is erased
pub Erased-part : (at k n : ℕ) (xs ys : List ℕ) → at + k ≤ length xs → k ≡ n → ys ≡ blank k → Erased at n xs (put_mid at k xs ys)
Erased-part at k n xs ys le size is =
    let same : length ys ≡ k = ap length is ∙ length-replicate k 255 in
    let old : length (area at k xs) ≡ k = length-area at k xs le in
    let faded : Faded (area at k xs) ys =
    (let P : List ℕ → Type 0 = λ zs. Faded (area at k xs) zs in
    subst P (ap blank old ∙ sym is) (Faded-blank (area at k xs))) in
    let P : ℕ → Type 0 = λ m. Erased at m xs (put_mid at k xs ys) in
    subst P size (record { fades = Fades-put_mid at k xs ys le same faded; erased = area-put_mid at k xs ys le same ∙ is })

pub Fades-part : (at k n : ℕ) (xs ys : List ℕ) → at + k ≤ length xs → k ≡ n → length ys ≡ k → Faded (area at k xs) ys → Fades at n xs (put_mid at k xs ys)
Fades-part at k n xs ys le size same f =
    let P : ℕ → Type 0 = λ m. Fades at m xs (put_mid at k xs ys) in
    subst P size (Fades-put_mid at k xs ys le same f)

-- two parts, one behind the other
pub area-add : (at m n : ℕ) (xs : List ℕ) → area at (m + n) xs ≡ area at m xs ++ area (at + m) n xs
area-add at m n xs = take-add m n (drop at xs) ∙ ap (λ (ys : List ℕ). area at m xs ++ take n ys) (drop-drop m at xs)

-- erased parts of an erased part
pub blank_within : (at size p n : ℕ) (held : List ℕ) → p + n ≤ size → area at size held ≡ blank size → area (at + p) n held ≡ blank n
blank_within at size p n held le is =
    sym (area-area p n at size held le) ∙ ap (λ (xs : List ℕ). take n (drop p xs)) is
    ∙ ap (take n) (drop-replicate p size 255) ∙ take-replicate n (size - p) 255 (omega arith)

pub blank_first : (at size n : ℕ) (held : List ℕ) → n ≤ size → area at size held ≡ blank size → area at n held ≡ blank n
blank_first at size n held le is = sym (take-take n size (drop at held) le) ∙ ap (take n) is ∙ take-replicate n size 255 le

pub blank-add : (at m n : ℕ) (xs : List ℕ) → area at m xs ≡ blank m → area (at + m) n xs ≡ blank n → area at (m + n) xs ≡ blank (m + n)
blank-add at m n xs a b = area-add at m n xs ∙ (λ i. a i ++ b i) ∙ replicate-append-replicate m n 255

-- a part of a flash that is all erased
pub area-blank : (at n size : ℕ) → at + n ≤ size → area at n (blank size) ≡ blank n
area-blank at n size le = ap (take n) (drop-replicate at size 255) ∙ take-replicate n (size - at) 255 (omega arith)
