-- Two lists of settings behind their common front: what one change makes of them, and which change it was.
use Rattle.std.proofs.Common.{◌≡◌, ◌≢◌, inl, inr, ◌≤◌, ◌<◌, ◌+◌, ◌-◌, ◌&&◌, ℕ, List, [], ◌∷◌, ◌++◌, length, take, drop, get_or, Bool, true, false, Option, Some, None, refl, sym, ap, subst, ◌∙◌, arith, length-append, take-append-drop, if◌then◌else◌}
use Rattle.std.specs.Prelude.{find, filter, replicate, nat_le, nat_lt, IfSome}
use Rattle.std.specs.List.{list_all}
use Rattle.std.specs.Str.{bytes_eq, is_utf8}
use Rattle.std.proofs.lemmas.Bool.Decides.{nat_tests}
use Rattle.std.proofs.lemmas.List.{drop_all, length-take-le, take_rest, take_more_same, length-replicate}
use Rattle.std.proofs.Math.Seq.{drop-append_seam, take-add}
use Rattle.std.proofs.lemmas.Slice.Eq.{bytes_eq-Decides}
use Rattle.smp_model.specs.declared.setting.Setting.{Setting}
use Rattle.smp_model.specs.Named.{comes_before, is_ascending, named, placed}
use Rattle.smp_model.specs.Settings.{setting, written_setting, deleted_setting, is_setting, is_setting_name, is_setting_value, is_within_limits}
use Rattle.smp_settings.specs.Cells.{CellChange, Gives, Removes, with_change, is_change, change_bytes, cell_of}
use Rattle.smp_settings.specs.Places.{IsOneChange, HeadsDiffer, CommonFront, FirstsSame, Renewed, Gave, Gone, Differs}
use Rattle.smp_settings.proofs.Limits.{limits_of}
use Rattle.smp_settings.proofs.Naming.{left_of, right_of, all_pass, all_second, placed_without, placed_over, without_one, without_none, parted, ascending_behind, same_not_before}
use Rattle.smp_settings.proofs.Tables.{split_at}

-- A change of what is behind a common front is a change of the whole.
leads : (front one other : List Setting) (change : CellChange) → is_ascending (λ s. s.name) (front ++ one) ≡ true → is_ascending (λ s. s.name) (front ++ other) ≡ true
    → Differs change one other → front ++ other ≡ with_change change (front ++ one)
leads front one other (Gives name val) a b d = elim d.before [
  | inl same ↦ (
      let s = setting name val in
      let split : other ≡ s ∷ one = d.split ∙ ap (λ xs. s ∷ xs) (sym same) in
      let b' : is_ascending (λ (x : Setting). x.name) (front ++ s ∷ one) ≡ true = subst (λ xs. is_ascending (λ (x : Setting). x.name) (front ++ xs) ≡ true) split b in
      ap (λ xs. front ++ xs) split
      ∙ (sym (placed_over (λ (x : Setting). x.name) s front s one b' refl)
      ∙ (sym (placed_without (λ (x : Setting). x.name) s (front ++ s ∷ one)) ∙ ap (placed (λ (x : Setting). x.name) s) (without_one (λ (x : Setting). x.name) front s one b')))
      )
  | inr renewed ↦ renews front one other name val a d.rest d.split renewed
]
  where
    heads : (x y : Setting) (xs ys : List Setting) → x ∷ xs ≡ y ∷ ys → x ≡ y
    heads x y xs ys e = cc

    tails : (x y : Setting) (xs ys : List Setting) → x ∷ xs ≡ y ∷ ys → xs ≡ ys
    tails x y xs ys e = cc

    renews : (front one other : List Setting) (name val : List ℕ) → is_ascending (λ s. s.name) (front ++ one) ≡ true → (rest : List Setting) → other ≡ setting name val ∷ rest
        → Renewed one other → front ++ other ≡ written_setting name val (front ++ one)
    renews front one other name val a rest split r =
        let first : setting name val ≡ setting r.name r.after = heads (setting name val) (setting r.name r.after) rest r.rest (sym split ∙ r.other_split) in
        let others : rest ≡ r.rest = tails (setting name val) (setting r.name r.after) rest r.rest (sym split ∙ r.other_split) in
        let named' : r.name ≡ name = sym (ap (λ (s : Setting). s.name) first) in
        let a' : is_ascending (λ (x : Setting). x.name) (front ++ setting r.name r.before ∷ r.rest) ≡ true = subst (λ xs. is_ascending (λ (x : Setting). x.name) (front ++ xs) ≡ true) r.split a in
        ap (λ xs. front ++ xs) (split ∙ ap (λ xs. setting name val ∷ xs) others)
        ∙ (sym (placed_over (λ (x : Setting). x.name) (setting name val) front (setting r.name r.before) r.rest a' named') ∙ ap (λ xs. written_setting name val (front ++ xs)) (sym r.split))
leads front one other (Removes name) a b d =
    let a' : is_ascending (λ (x : Setting). x.name) (front ++ setting name d.val ∷ other) ≡ true = subst (λ xs. is_ascending (λ (x : Setting). x.name) (front ++ xs) ≡ true) d.split a in
    sym (without_one (λ (x : Setting). x.name) front (setting name d.val) other a') ∙ ap (λ xs. deleted_setting name (front ++ xs)) (sym d.split)

-- the common front of two lists is one
same_rests : (f g r s t u : List Setting) → f ++ r ≡ g ++ t → f ++ s ≡ g ++ u → HeadsDiffer r s → HeadsDiffer t u → (r ≡ t) × (s ≡ u)
same_rests [] [] r s t u e k h d = (e, k)
same_rests [] (y ∷ g) r s t u e k h d = absurd (subst (λ xs. HeadsDiffer xs (y ∷ g ++ u)) e (subst (HeadsDiffer r) k h) refl)
same_rests (x ∷ f) [] r s t u e k h d = absurd (subst (λ xs. HeadsDiffer xs (x ∷ f ++ s)) (sym e) (subst (HeadsDiffer t) (sym k) d) refl)
same_rests (x ∷ f) (y ∷ g) r s t u e k h d = same_rests f g r s t u (tail x y (f ++ r) (g ++ t) e) (tail x y (f ++ s) (g ++ u) k) h d
  where
    tail : (a b : Setting) (xs ys : List Setting) → a ∷ xs ≡ b ∷ ys → xs ≡ ys
    tail a b xs ys q = cc

-- what was found, between those before it and those behind it
record FoundAt (f : Setting → Bool) (x : Setting) (xs : List Setting) : Type 0 where
  front : List Setting
  rest : List Setting
  split : xs ≡ front ++ x ∷ rest
  passes : f x ≡ true

found_at : (f : Setting → Bool) (xs : List Setting) (x : Setting) → find f xs ≡ Some x → FoundAt f x xs
found_at f [] x e = absurd (cc e)
found_at f (y ∷ xs) x e = go (f y) refl e (λ k. found_at f xs x k)
  where
    some_same : (a b : Setting) → Some a ≡ Some b → a ≡ b
    some_same a b k = cc

    go : (b : Bool) → f y ≡ b → (if b then Some y else find f xs) ≡ Some x → (find f xs ≡ Some x → FoundAt f x xs) → FoundAt f x (y ∷ xs)
    go true h k others = let same : y ≡ x = some_same y x k in record { front = []; rest = xs; split = ap (λ z. z ∷ xs) same; passes = subst (λ z. f z ≡ true) same h }
    go false h k others =
        let inner = others k in
        record { front = y ∷ inner.front; rest = inner.rest; split = ap (λ ys. y ∷ ys) inner.split; passes = inner.passes }

-- a setting is not the first of those whose names come after its own
heads_after : (s : Setting) (xs : List Setting) → list_all (λ x. comes_before s.name x.name) xs ≡ true → HeadsDiffer xs (s ∷ xs)
heads_after s [] h = tt
heads_after s (x ∷ xs) h = λ e.
    let before : comes_before s.name x.name ≡ true = left_of (comes_before s.name x.name) (list_all (λ y. comes_before s.name y.name) xs) h in
    let none : comes_before s.name x.name ≡ false = same_not_before s.name x.name ((bytes_eq-Decides s.name x.name).1 (ap (λ (t : Setting). t.name) e)) in
    cc

heads_gone : (s : Setting) (xs : List Setting) → list_all (λ x. comes_before s.name x.name) xs ≡ true → HeadsDiffer (s ∷ xs) xs
heads_gone s [] h = tt
heads_gone s (x ∷ xs) h = λ e.
    let before : comes_before s.name x.name ≡ true = left_of (comes_before s.name x.name) (list_all (λ y. comes_before s.name y.name) xs) h in
    let none : comes_before s.name x.name ≡ false = same_not_before s.name x.name ((bytes_eq-Decides s.name x.name).1 (ap (λ (t : Setting). t.name) (sym e))) in
    cc

-- The change that leads from the one list to the other is the one between what is behind their common front.

given_new : (front one other : List Setting) (name val : List ℕ) (saved running : List Setting) → is_ascending (λ s. s.name) saved ≡ true → saved ≡ front ++ one → running ≡ front ++ other
    → HeadsDiffer one other → running ≡ written_setting name val saved → named (λ s. s.name) name saved ≡ None → Gave name val one other
given_new front one other name val saved running a e k h w none =
    let s = setting name val in
    let before = filter (λ (x : Setting). comes_before x.name name) saved in
    let behind = filter (λ (x : Setting). comes_before name x.name) saved in
    let whole : saved ≡ before ++ behind = parted (λ (x : Setting). x.name) name saved a none in
    let rests = same_rests front before one other behind (s ∷ behind) (sym e ∙ whole) (sym k ∙ w) h (heads_after s behind (all_pass (λ (x : Setting). comes_before name x.name) saved)) in
    record { rest = behind; split = rests.1; before = inl rests.0 }

given_again : (front one other : List Setting) (name val : List ℕ) (saved running : List Setting) (x : Setting) → is_ascending (λ s. s.name) saved ≡ true → saved ≡ front ++ one → running ≡ front ++ other
    → HeadsDiffer one other → running ≡ written_setting name val saved → running ≢ saved → named (λ s. s.name) name saved ≡ Some x → Gave name val one other
given_again front one other name val saved running x a e k h w differ found =
    let s = setting name val in
    let f = found_at (λ (y : Setting). bytes_eq y.name name) saved x found in
    let same : x.name ≡ name = (bytes_eq-Decides x.name name).0 f.passes in
    let a' : is_ascending (λ (y : Setting). y.name) (f.front ++ x ∷ f.rest) ≡ true = subst (λ xs. is_ascending (λ (y : Setting). y.name) xs ≡ true) f.split a in
    let now : running ≡ f.front ++ s ∷ f.rest = w ∙ (ap (written_setting name val) f.split ∙ placed_over (λ (y : Setting). y.name) s f.front x f.rest a' same) in
    let other' : s ≢ x = (λ (q : s ≡ x). differ (now ∙ (ap (λ y. f.front ++ y ∷ f.rest) q ∙ sym f.split))) in
    let rests = same_rests front f.front one other (x ∷ f.rest) (s ∷ f.rest) (sym e ∙ f.split) (sym k ∙ now) h other' in
    let made : setting name x.val ≡ x = ap (λ n. setting n x.val) (sym same) in
    record {
      rest = f.rest;
      split = rests.1;
      before = inr (record { name = name; before = x.val; after = val; rest = f.rest; split = rests.0 ∙ ap (λ y. y ∷ f.rest) (sym made); other_split = rests.1 });
    }

gone_again : (front one other : List Setting) (name : List ℕ) (saved running : List Setting) (x : Setting) → is_ascending (λ s. s.name) saved ≡ true → saved ≡ front ++ one → running ≡ front ++ other
    → HeadsDiffer one other → running ≡ deleted_setting name saved → named (λ s. s.name) name saved ≡ Some x → Gone name one other
gone_again front one other name saved running x a e k h w found =
    let f = found_at (λ (y : Setting). bytes_eq y.name name) saved x found in
    let same : x.name ≡ name = (bytes_eq-Decides x.name name).0 f.passes in
    let a' : is_ascending (λ (y : Setting). y.name) (f.front ++ x ∷ f.rest) ≡ true = subst (λ xs. is_ascending (λ (y : Setting). y.name) xs ≡ true) f.split a in
    let now : running ≡ f.front ++ f.rest =
    w ∙ (ap (deleted_setting name) f.split ∙ (ap (λ n. deleted_setting n (f.front ++ x ∷ f.rest)) (sym same) ∙ without_one (λ (y : Setting). y.name) f.front x f.rest a')) in
    let rests = same_rests front f.front one other (x ∷ f.rest) f.rest (sym e ∙ f.split) (sym k ∙ now) h (heads_gone x f.rest (ascending_behind (λ (y : Setting). y.name) f.front x f.rest a')) in
    let made : setting name x.val ≡ x = ap (λ n. setting n x.val) (sym same) in
    record { val = x.val; split = rests.0 ∙ (ap (λ y. y ∷ f.rest) (sym made) ∙ ap (λ xs. setting name x.val ∷ xs) (sym rests.1)) }

only_change : (front one other saved running : List Setting) (change : CellChange) → is_ascending (λ s. s.name) saved ≡ true → saved ≡ front ++ one → running ≡ front ++ other
    → HeadsDiffer one other → IsOneChange change saved running → Differs change one other
only_change front one other saved running (Gives name val) a e k h is = go (named (λ (s : Setting). s.name) name saved) refl
  where
    go : (o : Option Setting) → named (λ (s : Setting). s.name) name saved ≡ o → Gave name val one other
    go None f = given_new front one other name val saved running a e k h is.leads f
    go (Some x) f = given_again front one other name val saved running x a e k h is.leads is.differ f
only_change front one other saved running (Removes name) a e k h is = go (named (λ (s : Setting). s.name) name saved) refl
  where
    go : (o : Option Setting) → named (λ (s : Setting). s.name) name saved ≡ o → Gone name one other
    go None f = absurd (is.differ (is.leads ∙ without_none (λ (s : Setting). s.name) name saved f))
    go (Some x) f = gone_again front one other name saved running x a e k h is.leads f

-- the rests are what is behind as many settings as the front has
rest_at : (at : ℕ) (front rest xs : List Setting) → xs ≡ front ++ rest → at ≡ length front → drop at xs ≡ rest
rest_at at front rest xs e is = ap (drop at) e ∙ (ap (λ n. drop n (front ++ rest)) is ∙ drop-append_seam front rest)

pub found_change : (at : ℕ) (saved running : List Setting) (change : CellChange) → is_within_limits saved ≡ true → is_within_limits running ≡ true → running ≢ saved
    → CommonFront at saved running → Differs change (drop at saved) (drop at running) → IsOneChange change saved running
found_change at saved running change w v differ f d =
    let one = rest_at at f.front f.rest saved f.split f.index in
    let other = rest_at at f.front f.other_rest running f.other_split f.index in
    let d' : Differs change f.rest f.other_rest = subst (Differs change f.rest) other (subst (λ xs. Differs change xs (drop at running)) one d) in
    let a = subst (λ xs. is_ascending (λ (s : Setting). s.name) xs ≡ true) f.split (limits_of saved w).ascending in
    let b = subst (λ xs. is_ascending (λ (s : Setting). s.name) xs ≡ true) f.other_split (limits_of running v).ascending in
    record { leads = f.other_split ∙ (leads f.front f.rest f.other_rest change a b d' ∙ ap (with_change change) (sym f.split)); differ = differ }

pub no_change : (at : ℕ) (saved running : List Setting) (change : CellChange) → is_within_limits saved ≡ true → CommonFront at saved running
    → (Differs change (drop at saved) (drop at running) → ⊥) → IsOneChange change saved running → ⊥
no_change at saved running change w f none is =
    let one = rest_at at f.front f.rest saved f.split f.index in
    let other = rest_at at f.front f.other_rest running f.other_split f.index in
    let d = only_change f.front f.rest f.other_rest saved running change (limits_of saved w).ascending f.split f.other_split f.heads is in
    none (subst (Differs change (drop at saved)) (sym other) (subst (λ xs. Differs change xs f.other_rest) (sym one) d))

-- a change that was found is lawful
first_of : (front rest xs : List Setting) (s : Setting) → xs ≡ front ++ s ∷ rest → list_all is_setting xs ≡ true → is_setting s ≡ true
first_of front rest xs s e h = left_of (is_setting s) (list_all is_setting rest) (all_second is_setting front (s ∷ rest) (subst (λ ys. list_all is_setting ys ≡ true) e h))

pub found_lawful : (at : ℕ) (saved running : List Setting) (change : CellChange) → is_within_limits saved ≡ true → is_within_limits running ≡ true
    → CommonFront at saved running → Differs change (drop at saved) (drop at running) → is_change change ≡ true
found_lawful at saved running (Gives name val) w v f d =
    first_of (take at running) d.rest running (setting name val) (sym (take-append-drop at running) ∙ ap (λ xs. take at running ++ xs) d.split) (limits_of running v).each
found_lawful at saved running (Removes name) w v f d =
    left_of (is_setting_name name && is_utf8 name) (is_setting_value d.val)
    (first_of (take at saved) (drop at running) saved (setting name d.val) (sym (take-append-drop at saved) ∙ ap (λ xs. take at saved ++ xs) d.split) (limits_of saved w).each)

-- what the tests of the code say
pub differs_at : (change : CellChange) (i : ℕ) (xs ys one other : List Setting) → xs ≡ one → ys ≡ other
    → (Differs change (take (length xs - i) (drop i xs)) (take (length ys - i) (drop i ys)) → Differs change (drop i one) (drop i other))
    × (Differs change (drop i one) (drop i other) → Differs change (take (length xs - i) (drop i xs)) (take (length ys - i) (drop i ys)))
differs_at change i xs ys one other e f =
    let x : take (length xs - i) (drop i xs) ≡ drop i one = take_rest xs i ∙ ap (drop i) e in
    let y : take (length ys - i) (drop i ys) ≡ drop i other = take_rest ys i ∙ ap (drop i) f in (
      λ d. subst (Differs change (drop i one)) y (subst (λ zs. Differs change zs (take (length ys - i) (drop i ys))) x d),
      λ d. subst (Differs change (take (length xs - i) (drop i xs))) (sym y) (subst (λ zs. Differs change zs (drop i other)) (sym x) d),
    )

pub same_setting : (x y : Setting) → (bytes_eq x.name y.name && bytes_eq x.val y.val) ≡ true → x ≡ y
same_setting x y e =
    let n = (bytes_eq-Decides x.name y.name).0 (left_of (bytes_eq x.name y.name) (bytes_eq x.val y.val) e) in
    let v = (bytes_eq-Decides x.val y.val).0 (right_of (bytes_eq x.name y.name) (bytes_eq x.val y.val) e) in
    λ i. record { name = n i; val = v i }

pub more_same : (i : ℕ) (xs ys : List Setting) (x y : Setting) → i < length xs → i < length ys → x ≡ get_or xs i x → y ≡ get_or ys i y → (bytes_eq x.name y.name && bytes_eq x.val y.val) ≡ true
    → take i xs ≡ take i ys → take (i + 1) xs ≡ take (i + 1) ys
more_same i xs ys x y h k e f is t =
    let s = same_setting x y is in
    take_more_same xs ys i x h k t (sym e ∙ (s ∙ (f ∙ ap (get_or ys i) (sym s))))

pub firsts_are : (xs ys : List Setting) (x y : Setting) → 0 < length xs → 0 < length ys → x ≡ get_or xs 0 x → y ≡ get_or ys 0 y → (bytes_eq x.name y.name && bytes_eq x.val y.val) ≡ true
    → FirstsSame xs ys
firsts_are xs ys x y h k e f is = record {
  first = x;
  rest = drop 1 xs;
  other_rest = drop 1 ys;
  split = split_at 0 xs x h e;
  other_split = split_at 0 ys y k f ∙ ap (λ z. z ∷ drop 1 ys) (sym (same_setting x y is));
}

pub renewed_by : (xs ys : List Setting) (x y : Setting) → 0 < length xs → 0 < length ys → x ≡ get_or xs 0 x → y ≡ get_or ys 0 y → bytes_eq x.name y.name ≡ true → drop 1 xs ≡ drop 1 ys
    → Renewed xs ys
renewed_by xs ys x y h k e f is rest =
    let named' : x.name ≡ y.name = (bytes_eq-Decides x.name y.name).0 is in
    record {
      name = x.name;
      before = x.val;
      after = y.val;
      rest = drop 1 xs;
      split = split_at 0 xs x h e;
      other_split = split_at 0 ys y k f ∙ (ap (λ n. setting n y.val ∷ drop 1 ys) (sym named') ∙ ap (λ zs. setting x.name y.val ∷ zs) (sym rest));
    }

pub front_more : (i : ℕ) (xs ys : List Setting) → take i xs ≡ take i ys → i ≤ length ys → FirstsSame (drop i xs) (drop i ys) → (take (i + 1) xs ≡ take (i + 1) ys) × (i + 1 ≤ length ys)
front_more i xs ys t k f = (
  take-add i 1 xs
      ∙ (ap (λ zs. take i xs ++ take 1 zs) f.split
      ∙ (ap (λ zs. zs ++ take 1 (f.first ∷ f.rest)) t ∙ (ap (λ zs. take i ys ++ take 1 zs) (sym f.other_split) ∙ sym (take-add i 1 ys)))),
  omega (arith, ap length (take-append-drop i ys), length-append (take i ys) (drop i ys), length-take-le i ys k, ap length f.other_split),
)

pub front_ends : (i : ℕ) (xs ys : List Setting) → take i xs ≡ take i ys → i ≤ length xs → HeadsDiffer (drop i xs) (drop i ys) → CommonFront i xs ys
front_ends i xs ys t h d = record {
  front = take i xs;
  rest = drop i xs;
  other_rest = drop i ys;
  split = sym (take-append-drop i xs);
  other_split = sym (take-append-drop i ys) ∙ ap (λ zs. zs ++ drop i ys) (sym t);
  index = sym (length-take-le i xs h);
  heads = d;
}

pub front_whole : (i : ℕ) (xs ys : List Setting) → length xs ≤ i → i ≤ length xs → take i xs ≡ take i ys → CommonFront (length xs) xs ys
front_whole i xs ys h k t =
    let e : i ≡ length xs = omega (arith, h, k) in
    subst (λ n. CommonFront n xs ys) e (front_ends i xs ys t k (subst (λ zs. HeadsDiffer zs (drop i ys)) (sym (drop_all i xs h)) tt))

pub some_weaker : {A : Type 0} (o : Option A) (P Q : A → Type 0) → ((x : A) → P x → Q x) → IfSome o P → IfSome o Q
some_weaker None P Q f h = tt
some_weaker (Some x) P Q f h = f x h

-- the bytes of a change's cell are as many as a cell has
pub cell_long : (change : CellChange) → is_change change ≡ true → length (cell_of change) ≡ 168
cell_long (Gives name val) h =
    let named' = left_of (is_setting_name name) (is_utf8 name) (left_of (is_setting_name name && is_utf8 name) (is_setting_value val) h) in
    let n : length name ≤ 32 = grind (arith, nat_tests, right_of (nat_lt 0 (length name)) (nat_le (length name) 32) named') in
    let v : length val ≤ 128 = grind (arith, nat_tests, right_of (is_setting_name name && is_utf8 name) (is_setting_value val) h) in
    filled (change_bytes (Gives name val)) (omega (arith, length-append name (length val ∷ val), n, v))
  where
    filled : (xs : List ℕ) → length xs ≤ 168 → length (xs ++ replicate (168 - length xs) 0) ≡ 168
    filled xs e = omega (arith, length-append xs (replicate (168 - length xs) 0), length-replicate {A = ℕ} (168 - length xs) 0, e)
cell_long (Removes name) h =
    let named' = left_of (is_setting_name name) (is_utf8 name) h in
    let n : length name ≤ 32 = grind (arith, nat_tests, right_of (nat_lt 0 (length name)) (nat_le (length name) 32) named') in
    filled (change_bytes (Removes name)) (omega (arith, n))
  where
    filled : (xs : List ℕ) → length xs ≤ 168 → length (xs ++ replicate (168 - length xs) 0) ≡ 168
    filled xs e = omega (arith, length-append xs (replicate (168 - length xs) 0), length-replicate {A = ℕ} (168 - length xs) 0, e)
