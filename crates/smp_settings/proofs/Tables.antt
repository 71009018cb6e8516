-- Places in a list of settings: what stands there, what is taken out there, and what is put there.
use Rattle.std.proofs.Common.{◌≡◌, ◌≤◌, ◌<◌, ◌+◌, not, ℕ, suc, List, [], ◌∷◌, ◌++◌, length, take, drop, get_or, true, false, Some, None, refl, sym, ap, subst, ◌∙◌, arith, length-append, drop-cons, take-append-drop}
use Rattle.std.specs.Prelude.{filter}
use Rattle.std.specs.List.{list_all, insert, remove}
use Rattle.std.specs.Str.{bytes_eq}
use Rattle.std.proofs.lemmas.List.{length-take-le, take_all, append-nil}
use Rattle.std.proofs.Math.Seq.{take-append_seam, drop-append_seam}
use Rattle.std.proofs.lemmas.Slice.Eq.{bytes_eq-Decides}
use Rattle.smp_model.specs.declared.setting.Setting.{Setting}
use Rattle.smp_model.specs.Named.{comes_before, is_ascending, named}
use Rattle.smp_model.specs.Settings.{setting, written_setting, deleted_setting}
use Rattle.smp_settings.specs.Places.{StandsAt, PartedAt}
use Rattle.smp_settings.proofs.Naming.{found_first, found_none, parted_at, parted_end, without_one, placed_without, placed_new, named_without, without_ascending}

-- the thing at a place, between those before it and those behind it
pub split_at : (i : ℕ) (xs : List Setting) (x : Setting) → i < length xs → x ≡ get_or xs i x → xs ≡ take i xs ++ x ∷ drop (suc i) xs
split_at i xs x h e =
    sym (take-append-drop i xs) ∙ (ap (λ ys. take i xs ++ ys) (drop-cons xs i x h) ∙ ap (λ y. take i xs ++ y ∷ drop (suc i) xs) (sym e))

pub length_front : (i : ℕ) (xs : List Setting) → i < length xs → i ≡ length (take i xs)
length_front i xs h = sym (length-take-le i xs (omega (arith, h)))

-- a name was found
stands_here : (i : ℕ) (name : List ℕ) (xs : List Setting) (x : Setting) → i < length xs → x ≡ get_or xs i x → list_all (λ s. not (bytes_eq s.name name)) (take i xs) ≡ true
    → x.name ≡ name → StandsAt i name xs
stands_here i name xs x h e none same =
    let split = split_at i xs x h e in
    let made : setting name x.val ≡ x = ap (λ n. setting n x.val) (sym same) in
    record {
      front = take i xs;
      val = x.val;
      rest = drop (suc i) xs;
      split = split ∙ ap (λ s. take i xs ++ s ∷ drop (suc i) xs) (sym made);
      index = length_front i xs h;
      found = ap (λ ys. named (λ (s : Setting). s.name) name ys) split
          ∙ (found_first (λ (s : Setting). bytes_eq s.name name) (take i xs) x (drop (suc i) xs) none ((bytes_eq-Decides x.name name).1 same) ∙ ap Some (sym made));
    }

pub stands_at : (i : ℕ) (name : List ℕ) (xs settings : List Setting) (x : Setting) → xs ≡ settings → i < length xs → x ≡ get_or xs i x
    → list_all (λ s. not (bytes_eq s.name name)) (take i xs) ≡ true → bytes_eq x.name name ≡ true → StandsAt i name settings
stands_at i name xs settings x e h at none same = subst (StandsAt i name) e (stands_here i name xs x h at none ((bytes_eq-Decides x.name name).0 same))

pub named_nowhere : (i : ℕ) (name : List ℕ) (xs settings : List Setting) → xs ≡ settings → length xs ≤ i → list_all (λ s. not (bytes_eq s.name name)) (take i xs) ≡ true
    → named (λ (s : Setting). s.name) name settings ≡ None
named_nowhere i name xs settings e h none =
    let all : list_all (λ (s : Setting). not (bytes_eq s.name name)) xs ≡ true = subst (λ ys. list_all (λ (s : Setting). not (bytes_eq s.name name)) ys ≡ true) (take_all i xs h) none in
    ap (named (λ (s : Setting). s.name) name) (sym e) ∙ found_none (λ (s : Setting). bytes_eq s.name name) xs all

-- the place of a new name
abbrev Ranked : ℕ → List ℕ → List Setting → Type 0
Ranked i name xs = PartedAt i (filter (λ s. comes_before s.name name) xs) (filter (λ s. comes_before name s.name) xs) xs

pub ranked_here : (i : ℕ) (name n : List ℕ) (xs settings : List Setting) (x : Setting) → xs ≡ settings → i < length xs → x ≡ get_or xs i x → n ≡ x.name
    → list_all (λ s. comes_before s.name name) (take i xs) ≡ true → comes_before n name ≡ false
    → is_ascending (λ s. s.name) settings ≡ true → named (λ s. s.name) name settings ≡ None → Ranked i name settings
ranked_here i name n xs settings x e h at same first not' sorted new =
    let split : settings ≡ take i xs ++ x ∷ drop (suc i) xs = sym e ∙ split_at i xs x h at in
    let sorted' : is_ascending (λ s. s.name) (take i xs ++ x ∷ drop (suc i) xs) ≡ true = subst (λ ys. is_ascending (λ (s : Setting). s.name) ys ≡ true) split sorted in
    let new' : named (λ s. s.name) name (take i xs ++ x ∷ drop (suc i) xs) ≡ None = subst (λ ys. named (λ (s : Setting). s.name) name ys ≡ None) split new in
    let both = parted_at (λ (s : Setting). s.name) name (take i xs) x (drop (suc i) xs) sorted' new' first (ap (λ m. comes_before m name) (sym same) ∙ not') in
    subst (Ranked i name) (sym split) (record {
      split = ap (λ ys. ys ++ x ∷ drop (suc i) xs) (sym both.0) ∙ ap (λ ys. filter (λ (s : Setting). comes_before s.name name) (take i xs ++ x ∷ drop (suc i) xs) ++ ys) (sym both.1);
      index = length_front i xs h ∙ ap length (sym both.0);
    })

pub ranked_last : (i : ℕ) (name : List ℕ) (xs settings : List Setting) → xs ≡ settings → length xs ≤ i → list_all (λ s. comes_before s.name name) (take i xs) ≡ true
    → Ranked (length xs) name settings
ranked_last i name xs settings e h first =
    let all : list_all (λ (s : Setting). comes_before s.name name) xs ≡ true = subst (λ ys. list_all (λ (s : Setting). comes_before s.name name) ys ≡ true) (take_all i xs h) first in
    let both = parted_end (λ (s : Setting). s.name) name xs all in
    subst (Ranked (length xs) name) e (record {
      split = sym both.0 ∙ (sym (append-nil (filter (λ (s : Setting). comes_before s.name name) xs)) ∙ ap (λ ys. filter (λ (s : Setting). comes_before s.name name) xs ++ ys) (sym both.1));
      index = ap length (sym both.0);
    })

-- what is taken out, and what is put in
taken_out : (at : ℕ) (front rest : List Setting) (s : Setting) → at ≡ length front → remove (front ++ s ∷ rest) at ≡ front ++ rest
taken_out at front rest s e =
    ap (remove (front ++ s ∷ rest)) e
    ∙ (ap (λ ys. ys ++ drop (suc (length front)) (front ++ s ∷ rest)) (take-append_seam front (s ∷ rest)) ∙ ap (λ ys. front ++ ys) (drop_more front))
  where
    drop_more : (xs : List Setting) → drop (suc (length xs)) (xs ++ s ∷ rest) ≡ rest
    drop_more [] = refl
    drop_more (x ∷ xs) = drop_more xs

pub removed_at : (at : ℕ) (name : List ℕ) (xs settings : List Setting) → xs ≡ settings → is_ascending (λ s. s.name) settings ≡ true → StandsAt at name settings
    → remove xs at ≡ deleted_setting name settings
removed_at at name xs settings e sorted here =
    let s = setting name here.val in
    let sorted' = subst (λ ys. is_ascending (λ (x : Setting). x.name) ys ≡ true) here.split sorted in
    ap (λ ys. remove ys at) (e ∙ here.split)
    ∙ (taken_out at here.front here.rest s here.index ∙ (sym (without_one (λ (x : Setting). x.name) here.front s here.rest sorted') ∙ ap (deleted_setting name) (sym here.split)))

pub put_at : (at : ℕ) (name val : List ℕ) (xs ys settings : List Setting) (s : Setting) → xs ≡ ys → ys ≡ deleted_setting name settings → s ≡ setting name val → Ranked at name ys
    → insert xs at s ≡ written_setting name val settings
put_at at name val xs ys settings s e made is r =
    let before = filter (λ (x : Setting). comes_before x.name name) ys in
    let behind = filter (λ (x : Setting). comes_before name x.name) ys in
    let front : take at ys ≡ before = ap (take at) r.split ∙ (ap (λ n. take n (before ++ behind)) r.index ∙ take-append_seam before behind) in
    let rest : drop at ys ≡ behind = ap (drop at) r.split ∙ (ap (λ n. drop n (before ++ behind)) r.index ∙ drop-append_seam before behind) in
    ap (λ zs. insert zs at s) e
    ∙ (ap (λ zs. zs ++ s ∷ drop at ys) front ∙ (ap (λ zs. before ++ s ∷ zs) rest ∙ (ap (λ t. before ++ t ∷ behind) is
    ∙ (ap (λ zs. written_setting name val zs) made ∙ placed_without (λ (x : Setting). x.name) (setting name val) settings))))

pub rank_small : (at : ℕ) (name : List ℕ) (ys : List Setting) → Ranked at name ys → at ≤ length ys
rank_small at name ys r =
    omega (arith, r.index, ap length r.split, length-append (filter (λ (s : Setting). comes_before s.name name) ys) (filter (λ (s : Setting). comes_before name s.name) ys))

-- there is room for one more, where the written settings are few enough
pub room_for : (name val : List ℕ) (ys settings : List Setting) → ys ≡ deleted_setting name settings → is_ascending (λ s. s.name) settings ≡ true
    → length (written_setting name val settings) ≤ 32 → length ys < 32
room_for name val ys settings made sorted room =
    let gone = deleted_setting name settings in
    let one : length (written_setting name val gone) ≡ length gone + 1 =
    placed_new (λ (s : Setting). s.name) (setting name val) gone (without_ascending (λ (s : Setting). s.name) name settings sorted) (named_without (λ (s : Setting). s.name) name settings) in
    let same : length (written_setting name val gone) ≡ length (written_setting name val settings) = ap length (placed_without (λ (s : Setting). s.name) (setting name val) settings) in
    let size = ap length made in
    omega (arith, one, same, room, size)
