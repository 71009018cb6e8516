-- Places in a list of files: what stands there, what is taken out there, and what is put there.
use Rattle.std.proofs.Common.{◌≡◌, ◌≤◌, ◌<◌, ◌+◌, not, ℕ, suc, List, [], ◌∷◌, ◌++◌, length, take, drop, get_or, true, false, None, refl, sym, ap, subst, ◌∙◌, arith, length-append, drop-cons, take-append-drop}
use Rattle.std.specs.Prelude.{filter}
use Rattle.std.specs.List.{list_all, insert, remove}
use Rattle.std.specs.Str.{bytes_eq}
use Rattle.std.proofs.lemmas.List.{length-take-le, take_all, append-nil}
use Rattle.std.proofs.Math.Seq.{take-append_seam, drop-append_seam}
use Rattle.std.proofs.lemmas.Slice.Eq.{bytes_eq-Decides}
use Rattle.smp_model.specs.declared.device.StoredFile.{StoredFile}
use Rattle.smp_model.specs.Files.{file_of}
use Rattle.smp_model.specs.Named.{comes_before, is_ascending, placed, without}
use Rattle.smp_files.specs.Places.{FileAt, PartedAt, TakenFrom}
use Rattle.smp_files.proofs.Naming.{found_first, found_none, parted_at, parted_end, without_one, without_none}

-- the file at a place, between those before it and those behind it
pub split_at : (i : ℕ) (xs : List StoredFile) (x : StoredFile) → i < length xs → x ≡ get_or xs i x → xs ≡ take i xs ++ x ∷ drop (suc i) xs
split_at i xs x h e =
    sym (take-append-drop i xs) ∙ (ap (λ ys. take i xs ++ ys) (drop-cons xs i x h) ∙ ap (λ y. take i xs ++ y ∷ drop (suc i) xs) (sym e))

pub length_front : (i : ℕ) (xs : List StoredFile) → i < length xs → i ≡ length (take i xs)
length_front i xs h = sym (length-take-le i xs (omega (arith, h)))

-- a name was found
pub file_here : (i : ℕ) (name : List ℕ) (xs : List StoredFile) (x : StoredFile) → i < length xs → x ≡ get_or xs i x → list_all (λ f. not (bytes_eq f.name name)) (take i xs) ≡ true
    → bytes_eq x.name name ≡ true → FileAt i name xs
file_here i name xs x h e none same =
    let split = split_at i xs x h e in
    record {
      front = take i xs;
      found = x;
      rest = drop (suc i) xs;
      split = split;
      index = length_front i xs h;
      named = (bytes_eq-Decides x.name name).0 same;
      first = ap (file_of name) split ∙ found_first (λ (f : StoredFile). bytes_eq f.name name) (take i xs) x (drop (suc i) xs) none same;
    }

pub named_nowhere : (i : ℕ) (name : List ℕ) (xs : List StoredFile) → length xs ≤ i → list_all (λ f. not (bytes_eq f.name name)) (take i xs) ≡ true → file_of name xs ≡ None
named_nowhere i name xs h none =
    found_none (λ (f : StoredFile). bytes_eq f.name name) xs (subst (λ ys. list_all (λ (f : StoredFile). not (bytes_eq f.name name)) ys ≡ true) (take_all i xs h) none)

-- the place of a new name
abbrev pub Ranked : ℕ → List ℕ → List StoredFile → Type 0
Ranked i name xs = PartedAt i (filter (λ f. comes_before f.name name) xs) (filter (λ f. comes_before name f.name) xs) xs

pub ranked_here : (i : ℕ) (name n : List ℕ) (xs : List StoredFile) (x : StoredFile) → i < length xs → x ≡ get_or xs i x → n ≡ x.name
    → list_all (λ f. comes_before f.name name) (take i xs) ≡ true → comes_before n name ≡ false
    → is_ascending (λ f. f.name) xs ≡ true → file_of name xs ≡ None → Ranked i name xs
ranked_here i name n xs x h at same first not' sorted new =
    let split = split_at i xs x h at in
    let sorted' : is_ascending (λ f. f.name) (take i xs ++ x ∷ drop (suc i) xs) ≡ true = subst (λ ys. is_ascending (λ (f : StoredFile). f.name) ys ≡ true) split sorted in
    let new' : file_of name (take i xs ++ x ∷ drop (suc i) xs) ≡ None = subst (λ ys. file_of name ys ≡ None) split new in
    let both = parted_at (λ (f : StoredFile). f.name) name (take i xs) x (drop (suc i) xs) sorted' new' first (ap (λ m. comes_before m name) (sym same) ∙ not') in
    subst (Ranked i name) (sym split) (record {
      split = ap (λ ys. ys ++ x ∷ drop (suc i) xs) (sym both.0) ∙ ap (λ ys. filter (λ (f : StoredFile). comes_before f.name name) (take i xs ++ x ∷ drop (suc i) xs) ++ ys) (sym both.1);
      index = length_front i xs h ∙ ap length (sym both.0);
    })

pub ranked_last : (i : ℕ) (name : List ℕ) (xs : List StoredFile) → length xs ≤ i → list_all (λ f. comes_before f.name name) (take i xs) ≡ true → Ranked (length xs) name xs
ranked_last i name xs h first =
    let all : list_all (λ (f : StoredFile). comes_before f.name name) xs ≡ true = subst (λ ys. list_all (λ (f : StoredFile). comes_before f.name name) ys ≡ true) (take_all i xs h) first in
    let both = parted_end (λ (f : StoredFile). f.name) name xs all in
    record {
      split = sym both.0 ∙ (sym (append-nil (filter (λ (f : StoredFile). comes_before f.name name) xs)) ∙ ap (λ ys. filter (λ (f : StoredFile). comes_before f.name name) xs ++ ys) (sym both.1));
      index = ap length (sym both.0);
    }

-- what is taken out, and what is put in
taken_out : (at : ℕ) (front rest : List StoredFile) (f : StoredFile) → at ≡ length front → remove (front ++ f ∷ rest) at ≡ front ++ rest
taken_out at front rest f e =
    ap (remove (front ++ f ∷ rest)) e
    ∙ (ap (λ ys. ys ++ drop (suc (length front)) (front ++ f ∷ rest)) (take-append_seam front (f ∷ rest)) ∙ ap (λ ys. front ++ ys) (drop_more front))
  where
    drop_more : (xs : List StoredFile) → drop (suc (length xs)) (xs ++ f ∷ rest) ≡ rest
    drop_more [] = refl
    drop_more (x ∷ xs) = drop_more xs

pub removed_at : (at : ℕ) (name : List ℕ) (xs : List StoredFile) → is_ascending (λ f. f.name) xs ≡ true → FileAt at name xs
    → remove xs at ≡ without (λ f. f.name) name xs
removed_at at name xs sorted here =
    let sorted' = subst (λ ys. is_ascending (λ (f : StoredFile). f.name) ys ≡ true) here.split sorted in
    ap (λ ys. remove ys at) here.split
    ∙ (taken_out at here.front here.rest here.found here.index ∙ (sym (without_one (λ (f : StoredFile). f.name) here.front here.found here.rest sorted')
    ∙ (ap (λ n. without (λ (f : StoredFile). f.name) n (here.front ++ here.found ∷ here.rest)) here.named ∙ ap (without (λ (f : StoredFile). f.name) name) (sym here.split))))

pub taken_file : (at spare : ℕ) (buffer name : List ℕ) (xs ys : List StoredFile) → is_ascending (λ f. f.name) xs ≡ true → FileAt at name xs → buffer ≡ [] → ys ≡ remove xs at
    → length ys + 1 ≡ length xs → TakenFrom buffer name xs ys spare spare
taken_file at spare buffer name xs ys sorted here empty is many = record {
  empty = empty;
  files = is ∙ removed_at at name xs sorted here;
  count = omega (arith, many);
}

pub taken_spare : (before now : ℕ) (buffer name : List ℕ) (xs : List StoredFile) → file_of name xs ≡ None → buffer ≡ [] → now + 1 ≡ before → TakenFrom buffer name xs xs before now
taken_spare before now buffer name xs new empty many = record {
  empty = empty;
  files = sym (without_none (λ (f : StoredFile). f.name) name xs new);
  count = omega (arith, many);
}

pub put_at : (at : ℕ) (name : List ℕ) (xs : List StoredFile) (f : StoredFile) → f.name ≡ name → Ranked at name xs → insert xs at f ≡ placed (λ g. g.name) f xs
put_at at name xs f is r =
    let before = filter (λ (g : StoredFile). comes_before g.name name) xs in
    let behind = filter (λ (g : StoredFile). comes_before name g.name) xs in
    let front : take at xs ≡ before = ap (take at) r.split ∙ (ap (λ n. take n (before ++ behind)) r.index ∙ take-append_seam before behind) in
    let rest : drop at xs ≡ behind = ap (drop at) r.split ∙ (ap (λ n. drop n (before ++ behind)) r.index ∙ drop-append_seam before behind) in
    ap (λ zs. zs ++ f ∷ drop at xs) front ∙ (ap (λ zs. before ++ f ∷ zs) rest
    ∙ ap (λ n. filter (λ (g : StoredFile). comes_before g.name n) xs ++ f ∷ filter (λ (g : StoredFile). comes_before n g.name) xs) (sym is))

pub rank_small : (at : ℕ) (name : List ℕ) (ys : List StoredFile) → Ranked at name ys → at ≤ length ys
rank_small at name ys r =
    omega (arith, r.index, ap length r.split, length-append (filter (λ (f : StoredFile). comes_before f.name name) ys) (filter (λ (f : StoredFile). comes_before name f.name) ys))
