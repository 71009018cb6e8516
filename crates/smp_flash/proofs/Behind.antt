-- Changes behind the head are changes of the file.
use Rattle.std.proofs.Common.{◌≡◌, ℕ, ◌+◌, ◌*◌, ◌/◌, ◌-◌, ◌≤◌, ◌⊎◌, true, List, [], ◌++◌, length, take, drop, replicate, Option, Some, None, Result, Ok, Err, OnOk, OnErr, inl, inr, arith, refl, sym, ap, ◌∙◌, subst, append_assoc, take-append-drop}
use Rattle.std.specs.Prelude.{IfSome, ◌<◌}
use Rattle.std.specs.Option.{ForSome}
use Rattle.std.proofs.lemmas.List.{drop-drop, take_all, length-replicate, length-take, take-replicate}
use Rattle.std.proofs.Math.ListN.{length-drop}
use Rattle.smp_flash.specs.Area.{area, blank, spot, Clear, Keeps, Holds, Faded, Fades, Erased, Told}
use Rattle.smp_flash.specs.Head.{behind, IsFile}
use Rattle.smp_flash.specs.Geometry.{is_lawful, size_of, second_size, of_second, IsPage}
use Rattle.smp_flash.specs.declared.geometry.Geometry.{Geometry}
use Rattle.smp_flash.specs.Medium.{PutsFront, SameSize, Blanked, FadedBehind, SameBehind}
use Rattle.smp_flash.proofs.Sizes.{regular, each_page, of_one}
use Rattle.smp_flash.proofs.Areas.{Faded-trans, blank-add, Keeps-wider, Clear-within, Faded-append, Faded-refl, Faded-blank, length-area}

area_behind : (p n : ℕ) (l : List ℕ) → area p n (drop 32 l) ≡ area (32 + p) n l
area_behind p n l = ap (λ (xs : List ℕ). take n xs) (drop-drop p 32 l)

clear_behind : (at size p n : ℕ) → Clear (spot at size) p n → Clear (spot (32 + at) size) (32 + p) n
clear_behind at size p n (inl before, done) = (inl (omega arith), tt)
clear_behind at size p n (inr after, done) = (inr (omega arith), tt)

keeps_behind : (at size : ℕ) (u v : List ℕ) → Keeps (spot (32 + at) size) u v → Keeps (spot at size) (drop 32 u) (drop 32 v)
keeps_behind at size u v k = record {
  length_same = length-drop 32 v ∙ ap (λ (n : ℕ). n - 32) k.length_same ∙ sym (length-drop 32 u);
  apart = λ p n clear. area_behind p n v ∙ k.apart (32 + p) n (clear_behind at size p n clear) ∙ sym (area_behind p n u);
}

holds_behind : (at : ℕ) (bytes u v : List ℕ) → Holds (32 + at) bytes u v → Holds at bytes (drop 32 u) (drop 32 v)
holds_behind at bytes u v h = record {
  keeps = keeps_behind at (length bytes) u v h.keeps;
  holds = area_behind at (length bytes) v ∙ h.holds;
}

wider : (at n k : ℕ) (u v : List ℕ) → n ≤ k → Keeps (spot at n) u v → Keeps (spot at k) u v
wider at n k u v le f = Keeps-wider (spot at n) (spot at k) u v (Clear-within at n at k (omega arith) (omega arith)) f

-- what a write leaves
pub written_parts : (at : ℕ) (bytes u v : List ℕ) → PutsFront (32 + at) bytes u v → Keeps (spot at (length bytes)) (drop 32 u) (drop 32 v)
written_parts at bytes u v f =
    wider at (length (take f.count bytes)) (length bytes) (drop 32 u) (drop 32 v) (omega (arith, length-take f.count bytes))
    (holds_behind at (take f.count bytes) u v f.holds).keeps

-- FF in a place
faded_place : (at k : ℕ) (u v : List ℕ) → at + k ≤ length u → Holds at (blank k) u v → Faded u v
faded_place at k u v le h =
    let size : length (blank k) ≡ k = length-replicate k 255 in
    let whole : (xs : List ℕ) → xs ≡ take at xs ++ (area at k xs ++ drop (at + k) xs) = λ xs.
    sym (take-append-drop at xs) ∙ ap (λ (r : List ℕ). take at xs ++ r) (sym (take-append-drop k (drop at xs)) ∙ ap (λ (r : List ℕ). area at k xs ++ r) (drop-drop k at xs)) in
    let keeps : Keeps (spot at k) u v = subst (λ (n : ℕ). Keeps (spot at n) u v) size h.keeps in
    let front : take at v ≡ take at u = keeps.apart 0 at (inl (omega arith), tt) in
    let middle : area at k v ≡ blank k = subst (λ (n : ℕ). area at n v ≡ blank k) size h.holds in
    let m : ℕ = length u - (at + k) in
    let rest : (xs : List ℕ) → length xs ≡ length u → area (at + k) m xs ≡ drop (at + k) xs = λ xs e.
    take_all m (drop (at + k) xs) (omega (arith, length-drop (at + k) xs, e)) in
    let back : drop (at + k) v ≡ drop (at + k) u =
    sym (rest v keeps.length_same) ∙ keeps.apart (at + k) m (inr (omega arith), tt) ∙ rest u refl in
    let new : v ≡ take at u ++ (blank k ++ drop (at + k) u) =
    whole v ∙ (λ i. front i ++ (middle i ++ back i)) in
    let part : Faded (area at k u) (blank k) =
    subst (λ (n : ℕ). Faded (area at k u) (blank n)) (length-area at k u le) (Faded-blank (area at k u)) in
    let f : Faded (take at u ++ (area at k u ++ drop (at + k) u)) (take at u ++ (blank k ++ drop (at + k) u)) =
    Faded-append (take at u) (take at u) (area at k u ++ drop (at + k) u) (blank k ++ drop (at + k) u) (Faded-refl (take at u))
    (Faded-append (area at k u) (blank k) (drop (at + k) u) (drop (at + k) u) part (Faded-refl (drop (at + k) u))) in
    subst (λ (x : List ℕ). Faded x v) (sym (whole u)) (subst (λ (y : List ℕ). Faded (take at u ++ (area at k u ++ drop (at + k) u)) y) (sym new) f)

cleared : (at k : ℕ) (u v : List ℕ) → 32 + at + k ≤ length u → Holds (32 + at) (blank k) u v → Erased at k (drop 32 u) (drop 32 v)
cleared at k u v le h =
    let b = holds_behind at (blank k) u v h in
    let size : length (blank k) ≡ k = length-replicate k 255 in
    record {
      fades = record {
        keeps = subst (λ (n : ℕ). Keeps (spot at n) (drop 32 u) (drop 32 v)) size b.keeps;
        faded = faded_place at k (drop 32 u) (drop 32 v) (omega (arith, length-drop 32 u)) b;
      };
      erased = subst (λ (n : ℕ). area at n (drop 32 v) ≡ blank k) size b.holds;
    }

cleared_parts : (at k : ℕ) (u v : List ℕ) → 32 + at + k ≤ length u → PutsFront (32 + at) (blank k) u v → Fades at k (drop 32 u) (drop 32 v)
cleared_parts at k u v le f =
    let within : f.count ≤ k = let w = f.within in omega (arith, length-replicate {A = ℕ} k 255) in
    let few : take f.count (blank k) ≡ blank f.count = take-replicate f.count k 255 within in
    let h : Holds (32 + at) (blank f.count) u v = subst (λ (b : List ℕ). Holds (32 + at) b u v) few f.holds in
    let e = cleared at f.count u v (omega arith) h in
    record { keeps = wider at f.count k (drop 32 u) (drop 32 v) within e.fades.keeps; faded = e.fades.faded }

-- ---- the same where bytes are told

told_behind : (A : List ℕ → Type 0) (P Q : List ℕ → List ℕ → Type 0) (x y : Option (List ℕ))
    → ((u v : List ℕ) → A u → P u v → Q (drop 32 u) (drop 32 v)) → IfSome x A → Told P x y → Told Q (behind x) (behind y)
told_behind A P Q None None step a f = tt
told_behind A P Q None (Some v) step a f = absurd f
told_behind A P Q (Some u) None step a f = absurd f
told_behind A P Q (Some u) (Some v) step a f = step u v a f

told_size : (P : List ℕ → List ℕ → Type 0) (x y : Option (List ℕ)) → ((u v : List ℕ) → P u v → length v ≡ length u) → Told P x y → Told SameSize x y
told_size P None None step f = tt
told_size P None (Some v) step f = absurd f
told_size P (Some u) None step f = absurd f
told_size P (Some u) (Some v) step f = step u v f

abbrev IsRoom : ℕ → List ℕ → Type 0
IsRoom n h = n ≤ length h

pub written : (at place : ℕ) (bytes : List ℕ) (x y : Option (List ℕ)) → place ≡ 32 + at → Told (Holds place bytes) x y → Told (Holds at bytes) (behind x) (behind y)
written at place bytes x y is f =
    told_behind (λ u. Unit {0}) (Holds (32 + at) bytes) (Holds at bytes) x y (λ u v a h. holds_behind at bytes u v h) (nothing x)
    (subst (λ (p : ℕ). Told (Holds p bytes) x y) is f)
  where
    nothing : (x : Option (List ℕ)) → IfSome x (λ u. Unit {0})
    nothing None = tt
    nothing (Some u) = tt

pub written_in_part : (at place : ℕ) (bytes : List ℕ) (x y : Option (List ℕ)) → place ≡ 32 + at → Told (PutsFront place bytes) x y
    → Told (Keeps (spot at (length bytes))) (behind x) (behind y)
written_in_part at place bytes x y is f =
    told_behind (λ u. Unit {0}) (PutsFront (32 + at) bytes) (Keeps (spot at (length bytes))) x y (λ u v a h. written_parts at bytes u v h) (nothing x)
    (subst (λ (p : ℕ). Told (PutsFront p bytes) x y) is f)
  where
    nothing : (x : Option (List ℕ)) → IfSome x (λ u. Unit {0})
    nothing None = tt
    nothing (Some u) = tt

-- what went through keeps all else
pub holds_keeps : (at : ℕ) (bytes : List ℕ) (x y : Option (List ℕ)) → Told (Holds at bytes) x y → Told (Keeps (spot at (length bytes))) x y
holds_keeps at bytes None None f = tt
holds_keeps at bytes None (Some v) f = absurd f
holds_keeps at bytes (Some u) None f = absurd f
holds_keeps at bytes (Some u) (Some v) f = f.keeps

pub erased_fades : (at k : ℕ) (x y : Option (List ℕ)) → Told (Erased at k) x y → Told (Fades at k) x y
erased_fades at k None None f = tt
erased_fades at k None (Some v) f = absurd f
erased_fades at k (Some u) None f = absurd f
erased_fades at k (Some u) (Some v) f = f.fades

pub size_put : (place : ℕ) (bytes : List ℕ) (x y : Option (List ℕ)) → Told (Holds place bytes) x y → Told SameSize x y
size_put place bytes x y f = told_size (Holds place bytes) x y (λ u v h. h.keeps.length_same) f

pub size_in_part : (place : ℕ) (bytes : List ℕ) (x y : Option (List ℕ)) → Told (PutsFront place bytes) x y → Told SameSize x y
size_in_part place bytes x y f = told_size (PutsFront place bytes) x y (λ u v h. h.holds.keeps.length_same) f

pub erased_behind : (at place k : ℕ) (bytes : List ℕ) (x y : Option (List ℕ)) → place ≡ 32 + at → bytes ≡ blank k → IfSome x (λ h. 32 + at + k ≤ length h)
    → Told (Holds place bytes) x y → Told (Erased at k) (behind x) (behind y)
erased_behind at place k bytes x y is all room f =
    told_behind (IsRoom (32 + at + k)) (Holds (32 + at) (blank k)) (Erased at k) x y (λ u v a h. cleared at k u v a h) room
    (subst (λ (b : List ℕ). Told (Holds (32 + at) b) x y) all (subst (λ (p : ℕ). Told (Holds p bytes) x y) is f))

pub faded_behind : (at place k : ℕ) (bytes : List ℕ) (x y : Option (List ℕ)) → place ≡ 32 + at → bytes ≡ blank k → IfSome x (λ h. 32 + at + k ≤ length h)
    → Told (PutsFront place bytes) x y → Told (Fades at k) (behind x) (behind y)
faded_behind at place k bytes x y is all room f =
    told_behind (IsRoom (32 + at + k)) (PutsFront (32 + at) (blank k)) (Fades at k) x y (λ u v a h. cleared_parts at k u v a h) room
    (subst (λ (b : List ℕ). Told (PutsFront (32 + at) b) x y) all (subst (λ (p : ℕ). Told (PutsFront p bytes) x y) is f))

-- ---- what is left after a wait, whatever it answers

pub kept_ok : {T E : Type 0} (Q : List ℕ → List ℕ → Type 0) (x y z : Option (List ℕ)) (r : Result T E) → z ≡ y → Told Q x (behind y) → OnOk r (Told Q x (behind z))
kept_ok Q x y z (Ok v) same f = subst (λ (o : Option (List ℕ)). Told Q x (behind o)) (sym same) f
kept_ok Q x y z (Err e) same f = tt

pub kept_err : {T E : Type 0} (Q : List ℕ → List ℕ → Type 0) (x y z : Option (List ℕ)) (r : Result T E) → z ≡ y → Told Q x (behind y) → OnErr r (Told Q x (behind z))
kept_err Q x y z (Ok v) same f = tt
kept_err Q x y z (Err e) same f = subst (λ (o : Option (List ℕ)). Told Q x (behind o)) (sym same) f

-- room in the file
pub room_for : (at place size : ℕ) (bytes : List ℕ) (x : Option (List ℕ)) → place ≡ 32 + at → length bytes ≤ size → IfSome x (λ h. 32 + at + size ≤ length h)
    → IfSome x (λ h. place + length bytes ≤ length h)
room_for at place size bytes None is small room = tt
room_for at place size bytes (Some u) is small room = omega arith

-- room by the size of the flash
pub room_within : (at size whole : ℕ) (x : Option (List ℕ)) → at + size ≤ whole → 0 < whole → IfSome (behind x) (λ held. length held ≡ whole)
    → IfSome x (λ h. 32 + at + size ≤ length h)
room_within at size whole None le some sized = tt
room_within at size whole (Some u) le some sized = omega (arith, length-drop 32 u)

pub head_within : (whole : ℕ) (x : Option (List ℕ)) → 0 < whole → IfSome (behind x) (λ held. length held ≡ whole) → IfSome x (λ h. 32 ≤ length h)
head_within whole None some sized = tt
head_within whole (Some u) some sized = omega (arith, length-drop 32 u)

-- the size stays
pub sized_after : (whole : ℕ) (x y : Option (List ℕ)) → IfSome (behind x) (λ held. length held ≡ whole) → Told SameSize x y → IfSome (behind y) (λ held. length held ≡ whole)
sized_after whole None None sized same = tt
sized_after whole None (Some v) sized same = absurd same
sized_after whole (Some u) None sized same = absurd same
sized_after whole (Some u) (Some v) sized same = omega (arith, length-drop 32 u, length-drop 32 v)

-- a fact of what is told, in the other spelling
pub for_some : {T : Type 0} (o : Option T) (P : T → Type 0) → IfSome o P → ForSome o P
for_some None P f x is = absurd (cc is)
for_some (Some y) P f x is = let same : y ≡ x = cc is in subst P same f

-- ---- making a flash

pub none_blanked : (k : ℕ) (x : Option (List ℕ)) → k ≡ 0 → Told (Blanked k) x x
none_blanked k x none = subst (λ (n : ℕ). Told (Blanked n) x x) (sym none) (at_first x) where
  at_first : (x : Option (List ℕ)) → Told (Blanked 0) x x
  at_first None = tt
  at_first (Some u) = record { size = refl; faded = Faded-refl (drop 32 u); blank = refl }

blanked_page : (page n : ℕ) (u v w : List ℕ) → Blanked (n * page) u v → Erased (n * page) page (drop 32 v) (drop 32 w) → SameSize v w → Blanked ((n + 1) * page) u w
blanked_page page n u v w b e same =
    let before : area 0 (n * page) (drop 32 w) ≡ blank (n * page) = e.fades.keeps.apart 0 (n * page) (inl (omega arith), tt) ∙ b.blank in
    let place : 0 + n * page ≡ n * page = omega arith in
    let there : area (0 + n * page) page (drop 32 w) ≡ blank page = ap (λ (p : ℕ). area p page (drop 32 w)) place ∙ e.erased in
    let more : area 0 (n * page + page) (drop 32 w) ≡ blank (n * page + page) = blank-add 0 (n * page) page (drop 32 w) before there in
    let next : n * page + page ≡ (n + 1) * page = omega arith in
    record {
      size = same ∙ b.size;
      faded = Faded-trans (drop 32 u) (drop 32 v) (drop 32 w) b.faded e.fades.faded;
      blank = subst (λ (k : ℕ). area 0 k (drop 32 w) ≡ blank k) next more;
    }

pub blanked_more : (page n : ℕ) (x y z : Option (List ℕ)) → Told (Blanked (n * page)) x y → Told (Erased (n * page) page) (behind y) (behind z) → Told SameSize y z
    → Told (Blanked ((n + 1) * page)) x z
blanked_more page n None None None b e same = tt
blanked_more page n None None (Some w) b e same = absurd same
blanked_more page n None (Some v) z b e same = absurd b
blanked_more page n (Some u) None z b e same = absurd b
blanked_more page n (Some u) (Some v) None b e same = absurd same
blanked_more page n (Some u) (Some v) (Some w) b e same = blanked_page page n u v w b e same

pub blanked_partly : (k at size : ℕ) (x y z : Option (List ℕ)) → Told (Blanked k) x y → Told (Fades at size) (behind y) (behind z) → Told SameSize y z
    → Told FadedBehind x z
blanked_partly k at size None None None b e same = tt
blanked_partly k at size None None (Some w) b e same = absurd same
blanked_partly k at size None (Some v) z b e same = absurd b
blanked_partly k at size (Some u) None z b e same = absurd b
blanked_partly k at size (Some u) (Some v) None b e same = absurd same
blanked_partly k at size (Some u) (Some v) (Some w) b e same =
    record { size = same ∙ b.size; faded = Faded-trans (drop 32 u) (drop 32 v) (drop 32 w) b.faded e.faded }

-- the size that was there is there after so many pages
pub blanked_size : (n : ℕ) (k whole : ℕ) (x y : Option (List ℕ)) → IfSome x (λ h. length h ≡ whole) → Told (Blanked k) x y → n ≤ whole → IfSome y (λ h. n ≤ length h)
blanked_size n k whole None None size b le = tt
blanked_size n k whole None (Some v) size b le = absurd b
blanked_size n k whole (Some u) None size b le = absurd b
blanked_size n k whole (Some u) (Some v) size b le = let s = b.size in omega arith

-- the head
head_put : (bytes u v : List ℕ) → length bytes ≤ 32 → 32 ≤ length u → Keeps (spot 0 (length bytes)) u v → SameBehind u v
head_put bytes u v short long k =
    let m : ℕ = length u - 32 in
    let rest : (xs : List ℕ) → length xs ≡ length u → area 32 m xs ≡ drop 32 xs = λ xs e. take_all m (drop 32 xs) (omega (arith, length-drop 32 xs, e)) in
    record {
      size = k.length_same;
      same = sym (rest v k.length_same) ∙ k.apart 32 m (inr (omega arith), tt) ∙ rest u refl;
    }

pub head_written : (bytes : List ℕ) (x0 x y z : Option (List ℕ)) → x ≡ x0 → length bytes ≤ 32 → IfSome x0 (λ h. 32 ≤ length h) → Told (Holds 0 bytes) x y → z ≡ y
    → Told SameBehind x0 z
head_written bytes x0 x y z first short long f same =
    subst (λ (o : Option (List ℕ)). Told SameBehind x0 o) (sym same)
    (at_once x0 y long (subst (λ (o : Option (List ℕ)). Told (Holds 0 bytes) o y) first f))
  where
    at_once : (x y : Option (List ℕ)) → IfSome x (λ h. 32 ≤ length h) → Told (Holds 0 bytes) x y → Told SameBehind x y
    at_once None None long f = tt
    at_once None (Some v) long f = absurd f
    at_once (Some u) None long f = absurd f
    at_once (Some u) (Some v) long f = head_put bytes u v short long f.keeps

pub head_in_part : (bytes : List ℕ) (x0 x y : Option (List ℕ)) → x ≡ x0 → length bytes ≤ 32 → IfSome x0 (λ h. 32 ≤ length h) → Told (PutsFront 0 bytes) x y → Told SameBehind x0 y
head_in_part bytes x0 x y first short long f = at_once x0 y long (subst (λ (o : Option (List ℕ)). Told (PutsFront 0 bytes) o y) first f) where
  at_once : (x y : Option (List ℕ)) → IfSome x (λ h. 32 ≤ length h) → Told (PutsFront 0 bytes) x y → Told SameBehind x y
  at_once None None long f = tt
  at_once None (Some v) long f = absurd f
  at_once (Some u) None long f = absurd f
  at_once (Some u) (Some v) long f =
      head_put (take f.count bytes) u v (omega (arith, length-take f.count bytes)) long f.holds.keeps

pub same_behind : (x y : Option (List ℕ)) → y ≡ x → Told SameBehind x y
same_behind x y same = subst (λ (o : Option (List ℕ)). Told SameBehind x o) (sym same) (itself x) where
  itself : (x : Option (List ℕ)) → Told SameBehind x x
  itself None = tt
  itself (Some u) = record { size = refl; same = refl }

pub blanked_then_head : (k : ℕ) (x y z : Option (List ℕ)) → Told (Blanked k) x y → Told SameBehind y z → Told (Blanked k) x z
blanked_then_head k None None None b s = tt
blanked_then_head k None None (Some w) b s = absurd s
blanked_then_head k None (Some v) z b s = absurd b
blanked_then_head k (Some u) None z b s = absurd b
blanked_then_head k (Some u) (Some v) None b s = absurd s
blanked_then_head k (Some u) (Some v) (Some w) b s = record {
  size = s.size ∙ b.size;
  faded = subst (λ (l : List ℕ). Faded (drop 32 u) l) (sym s.same) b.faded;
  blank = subst (λ (l : List ℕ). area 0 k l ≡ blank k) (sym s.same) b.blank;
}

pub blanked_faded : (k : ℕ) (x y : Option (List ℕ)) → Told (Blanked k) x y → Told FadedBehind x y
blanked_faded k None None b = tt
blanked_faded k None (Some v) b = absurd b
blanked_faded k (Some u) None b = absurd b
blanked_faded k (Some u) (Some v) b = record { size = b.size; faded = b.faded }

pub none_faded : (x y : Option (List ℕ)) → y ≡ x → Told FadedBehind x y
none_faded x y same = subst (λ (o : Option (List ℕ)). Told FadedBehind x o) (sym same) (itself x) where
  itself : (x : Option (List ℕ)) → Told FadedBehind x x
  itself None = tt
  itself (Some u) = record { size = refl; faded = Faded-refl (drop 32 u) }

-- what a made flash tells
pub made_blank : (k : ℕ) (x y : Option (List ℕ)) → IfSome x (λ h. length h ≡ 32 + k) → Told (Blanked k) x y → Told (λ old new. new ≡ blank k) (behind x) (behind y)
made_blank k None None size b = tt
made_blank k None (Some v) size b = absurd b
made_blank k (Some u) None size b = absurd b
made_blank k (Some u) (Some v) size b =
    let s = b.size in
    sym (take_all k (drop 32 v) (omega (arith, length-drop 32 v))) ∙ b.blank

pub faded_told : (x y : Option (List ℕ)) → Told FadedBehind x y → Told Faded (behind x) (behind y)
faded_told None None f = tt
faded_told None (Some v) f = absurd f
faded_told (Some u) None f = absurd f
faded_told (Some u) (Some v) f = f.faded

pub faded_size : (x y : Option (List ℕ)) → Told FadedBehind x y → Told SameSize x y
faded_size None None f = tt
faded_size None (Some v) f = absurd f
faded_size (Some u) None f = absurd f
faded_size (Some u) (Some v) f = f.size

pub made_size : (k : ℕ) (x y : Option (List ℕ)) → IfSome x (λ h. length h ≡ 32 + k) → Told (Blanked k) x y → IfSome (behind y) (λ held. length held ≡ k)
made_size k None None size b = tt
made_size k None (Some v) size b = absurd b
made_size k (Some u) None size b = absurd b
made_size k (Some u) (Some v) size b = let s = b.size in omega (arith, length-drop 32 v)

-- ---- pages and sizes

pub some_size : (g : Geometry) → is_lawful g ≡ true → 0 < size_of g
some_size g good = let r = regular g good in let least = r.size_least in omega arith

pub page_within : (page n s : ℕ) → IsPage page → n < s / page → n * page + page ≤ s
page_within page n s is = each_page (λ (p : ℕ). n < s / p → n * p + p ≤ s) (λ h. omega arith) (λ h. omega arith) (λ h. omega arith) (λ h. omega arith) page is

whole_pages : (page slots s : ℕ) → IsPage page → (s ≡ 2 * (page * slots) + 16384 + page) ⊎ (s ≡ 2 * (page * slots) + 16384 + page + (2 * (page * slots) + 8192 + page))
    → s / page * page ≡ s
whole_pages page slots s is = each_page
    (λ (p : ℕ). (s ≡ 2 * (p * slots) + 16384 + p) ⊎ (s ≡ 2 * (p * slots) + 16384 + p + (2 * (p * slots) + 8192 + p)) → s / p * p ≡ s)
    (λ h. elim h [ inl e ↦ omega arith | inr e ↦ omega arith ])
    (λ h. elim h [ inl e ↦ omega arith | inr e ↦ omega arith ])
    (λ h. elim h [ inl e ↦ omega arith | inr e ↦ omega arith ])
    (λ h. elim h [ inl e ↦ omega arith | inr e ↦ omega arith ])
    page is

pub all_pages : (g : Geometry) → is_lawful g ≡ true → size_of g / g.page * g.page ≡ size_of g
all_pages g good =
    let r = regular g good in
    whole_pages g.page g.slot_pages (size_of g) r.is_page (elim r.images_some [
      | inl one ↦ inl (let n : of_second g (second_size g) ≡ 0 = of_one g (second_size g) one in omega arith)
      | inr two ↦ inr (r.size_two two)
    ])

pub blanked_whole : (k n page whole : ℕ) (x y : Option (List ℕ)) → n ≡ whole / page → whole / page * page ≡ whole → Told (Blanked (n * page)) x y → Told (Blanked whole) x y
blanked_whole k n page whole x y last pages b =
    subst (λ (m : ℕ). Told (Blanked m) x y) (ap (λ (m : ℕ). m * page) last ∙ pages) b

-- a file that was taken up
pub file_sized : (g : Geometry) (x y : Option (List ℕ)) → y ≡ x → IfSome x (λ h. IsFile g (take 32 h) (length h)) → IfSome (behind y) (λ held. length held ≡ size_of g)
file_sized g x y same f = subst (λ (o : Option (List ℕ)). IfSome (behind o) (λ held. length held ≡ size_of g)) (sym same) (of_it x f) where
  of_it : (x : Option (List ℕ)) → IfSome x (λ h. IsFile g (take 32 h) (length h)) → IfSome (behind x) (λ held. length held ≡ size_of g)
  of_it None f = tt
  of_it (Some u) f = let long = f.1 in omega (arith, length-drop 32 u)

-- a read
pub read_behind : (at place n : ℕ) (into : List ℕ) (x : Option (List ℕ)) → place ≡ 32 + at → IfSome x (λ h. into ≡ area place n h)
    → IfSome (behind x) (λ held. into ≡ area at n held)
read_behind at place n into None is f = tt
read_behind at place n into (Some u) is f = f ∙ ap (λ (p : ℕ). area p n u) is ∙ sym (area_behind at n u)

-- the size stays where making a flash failed
pub sized_closed : (whole : ℕ) (x y z : Option (List ℕ)) → IfSome (behind x) (λ held. length held ≡ whole) → Told FadedBehind x y → z ≡ y
    → IfSome (behind z) (λ held. length held ≡ whole)
sized_closed whole x y z sized f same =
    subst (λ (o : Option (List ℕ)). IfSome (behind o) (λ held. length held ≡ whole)) (sym same) (sized_after whole x y sized (faded_size x y f))
