-- Reading and writing the stored form.
use Rattle.std.proofs.Common.{◌≡◌, ◌≤◌, ◌<◌, ◌+◌, ◌-◌, ◌&&◌, ◌||◌, ℕ, suc, List, [], ◌∷◌, ◌++◌, length, take, drop, get_or, Bool, true, false, Option, Some, None, refl, sym, ap, subst, ◌∙◌, arith, length-append, if◌then◌else◌}
use Rattle.std.specs.Prelude.{nat_lt, nat_le, is_none, flat_map}
use Rattle.std.specs.List.{list_all}
use Rattle.std.specs.Str.{is_utf8}
use Rattle.std.proofs.lemmas.Bool.Decides.{nat_tests}
use Rattle.std.proofs.lemmas.Grind.{flat_map-append}
use Rattle.std.proofs.lemmas.List.Folds.{list_all-append}
use Rattle.std.proofs.lemmas.List.{append-nil, drop_all}
use Rattle.smp_model.specs.declared.setting.Setting.{Setting}
use Rattle.smp_model.specs.Named.{comes_before, is_ascending}
use Rattle.smp_model.specs.Settings.{setting, is_setting, is_setting_name, is_setting_value, is_within_limits, is_full, value_of, stored_setting, stored_form, next_setting, in_front, followed, settings_from, if_within_limits, written_setting, deleted_setting}
use Rattle.smp_settings.specs.Reading.{LawfulSoFar, may_follow, TakenWhere, Reads}
use Rattle.smp_settings.proofs.Limits.{limits_of, written_length}
use Rattle.smp_settings.proofs.Naming.{left_of, right_of, both_of, all_second, all_more, all_weaker, before_trans, ascending_before, ascending_seam}
use Rattle.smp_settings.proofs.Tables.{split_at}

-- a name that is text
pub text_taken : (name text : List ℕ) → 0 < length name → length name ≤ 32 → text ≡ name → is_utf8 name ≡ true
    → Some text ≡ (if is_setting_name name && is_utf8 name then Some name else None)
text_taken name text some few same text' =
    let named : is_setting_name name ≡ true = grind (arith, nat_tests, some, few) in
    ap Some same ∙ sym (ap (λ b. if b then Some name else None) (both_of (is_setting_name name) (is_utf8 name) named text'))

pub text_refused : (name : List ℕ) → is_utf8 name ≡ false → None ≡ (if is_setting_name name && is_utf8 name then Some name else None)
text_refused name h = go (is_setting_name name)
  where
    go : (b : Bool) → None ≡ (if b && is_utf8 name then Some name else None)
    go true = ap (λ b. if b then Some name else None) (sym h)
    go false = refl

pub text_is : (b : Bool) (text name : List ℕ) → Some text ≡ (if b then Some name else None) → (b ≡ true) × (text ≡ name)
text_is true text name e = (refl, some_same text name e)
  where
    some_same : (x y : List ℕ) → Some x ≡ Some y → x ≡ y
    some_same x y k = cc
text_is false text name e = cc

-- the last one decides whether a name comes behind all
abbrev before : List ℕ → Setting → Bool
before name s = comes_before s.name name

and_false : (a : Bool) → (a && false) ≡ false
and_false true = refl
and_false false = refl

ends_before : (front : List Setting) (x : Setting) (name : List ℕ) → is_ascending (λ s. s.name) (front ++ x ∷ []) ≡ true
    → comes_before x.name name ≡ list_all (before name) (front ++ x ∷ [])
ends_before front x name sorted = go (comes_before x.name name) refl
  where
    go : (b : Bool) → comes_before x.name name ≡ b → b ≡ list_all (before name) (front ++ x ∷ [])
    go true e =
        sym (all_more (before name) front (x ∷ []) (all_weaker (before x.name) (before name) (λ y k. before_trans y.name x.name name k e) front (ascending_before (λ (s : Setting). s.name) front x [] sorted))
        (both_of (comes_before x.name name) true e refl))
    go false e =
        sym (list_all-append (before name) front (x ∷ []) ∙ (ap (λ b. list_all (before name) front && (b && true)) e ∙ and_false (list_all (before name) front)))

pub last_decides : (xs settings : List Setting) (x : Setting) (name n : List ℕ) → xs ≡ settings → 0 < length xs → x ≡ get_or xs (length xs - 1) x → n ≡ x.name
    → is_ascending (λ s. s.name) settings ≡ true → comes_before n name ≡ list_all (λ s. comes_before s.name name) settings
last_decides xs settings x name n e some at is sorted =
    let i = length xs - 1 in
    let split = split_at i xs x (omega (arith, some)) at in
    let none : drop (suc i) xs ≡ [] = drop_all (suc i) xs (omega (arith, some)) in
    let whole : settings ≡ take i xs ++ x ∷ [] = sym e ∙ (split ∙ ap (λ ys. take i xs ++ x ∷ ys) none) in
    ap (λ m. comes_before m name) is
    ∙ (ends_before (take i xs) x name (subst (λ ys. is_ascending (λ (s : Setting). s.name) ys ≡ true) whole sorted) ∙ ap (list_all (before name)) (sym whole))

-- a setting that may follow
pub taken : (name val text : List ℕ) (old new : List Setting) (s : Setting) → LawfulSoFar old → Some text ≡ (if is_setting_name name && is_utf8 name then Some name else None)
    → length val ≤ 128 → length old < 32 → list_all (λ t. comes_before t.name text) old ≡ true → s ≡ setting text val → new ≡ old ++ s ∷ []
    → TakenWhere true (setting name val) old new
taken name val text old new s l e v few last is added =
    let named = text_is (is_setting_name name && is_utf8 name) text name e in
    let this = setting name val in
    let val' : is_setting_value val ≡ true = grind (arith, nat_tests, v) in
    let room : nat_lt (length old) 32 ≡ true = grind (arith, nat_tests, few) in
    let lawful : is_setting this ≡ true = both_of (is_setting_name name && is_utf8 name) (is_setting_value val) named.0 val' in
    let behind : list_all (λ (t : Setting). comes_before t.name name) old ≡ true = subst (λ n. list_all (λ (t : Setting). comes_before t.name n) old ≡ true) named.1 last in
    let after : new ≡ old ++ this ∷ [] = added ∙ ap (λ x. old ++ x ∷ []) (is ∙ ap (λ n. setting n val) named.1) in
    record {
      may = both_of (is_setting this) _ lawful (both_of (nat_lt (length old) 32) _ room behind);
      after = after;
      lawful = subst LawfulSoFar (sym after) (record {
        each = all_more is_setting old (this ∷ []) l.each (both_of (is_setting this) true lawful refl);
        ascending = ascending_seam (λ (t : Setting). t.name) this old [] behind l.ascending refl refl;
      });
    }

-- settings that were read, ahead of those that are read behind them
abbrev pub ahead : List Setting → Option (List Setting) → Option (List Setting)
ahead [] others = others
ahead (s ∷ settings) others = in_front s (ahead settings others)

ahead_more : (settings : List Setting) (s : Setting) (others : Option (List Setting)) → ahead (settings ++ s ∷ []) others ≡ ahead settings (in_front s others)
ahead_more [] s others = refl
ahead_more (t ∷ settings) s others = ap (in_front t) (ahead_more settings s others)

ahead_none : (settings : List Setting) → ahead settings None ≡ None
ahead_none [] = refl
ahead_none (s ∷ settings) = ap (in_front s) (ahead_none settings)

ahead_some : (settings more : List Setting) → ahead settings (Some more) ≡ Some (settings ++ more)
ahead_some [] more = refl
ahead_some (s ∷ settings) more = ap (in_front s) (ahead_some settings more)

-- what is known while they are read: so many are left
pub record SoFar (count : ℕ) (bytes : List ℕ) (settings : List Setting) (left : ℕ) (rest : List ℕ) : Type 0 where
  pub read : settings_from count bytes ≡ ahead settings (settings_from left rest)
  pub lawful : LawfulSoFar settings
  pub few : length settings ≤ 32

pub at_first : (count : ℕ) (bytes : List ℕ) (settings : List Setting) → settings ≡ [] → SoFar count bytes settings (count - 0) bytes
at_first count bytes settings e =
    subst (λ xs. SoFar count bytes xs (count - 0) bytes) (sym e) (record { read = ap (λ n. settings_from n bytes) (sym (less_none count)); lawful = record { each = refl; ascending = refl }; few = omega arith })
  where
    less_none : (n : ℕ) → n - 0 ≡ n
    less_none n = omega arith

one_less : (count i : ℕ) → i < count → count - i ≡ suc (count - (i + 1))
one_less count i h = omega (arith, h)

read_one : (count i : ℕ) (rest : List ℕ) (o : Option (Setting × List ℕ)) → i < count → next_setting rest ≡ o
    → settings_from (count - i) rest ≡ followed o (settings_from (count - (i + 1)))
read_one count i rest o h e = ap (λ n. settings_from n rest) (one_less count i h) ∙ ap (λ p. followed p (settings_from (count - (i + 1)))) e

pub one_more : (count i : ℕ) (bytes rest others : List ℕ) (s : Setting) (old new : List Setting) → i < count → SoFar count bytes old (count - i) rest
    → Some (s, others) ≡ next_setting rest → TakenWhere true s old new → SoFar count bytes new (count - (i + 1)) others
one_more count i bytes rest others s old new h f e t =
    let room : length old < 32 = grind (arith, nat_tests, left_of (nat_lt (length old) 32) _ (right_of (is_setting s) _ t.may)) in
    record {
      read = f.read ∙ (ap (ahead old) (read_one count i rest (Some (s, others)) h (sym e)) ∙ (sym (ahead_more old s (settings_from (count - (i + 1)) others)) ∙ ap (λ xs. ahead xs (settings_from (count - (i + 1)) others)) (sym t.after)));
      lawful = t.lawful;
      few = omega (arith, room, ap length t.after, length-append old (s ∷ []));
    }

pub none_next : (count i : ℕ) (bytes rest : List ℕ) (settings : List Setting) → i < count → SoFar count bytes settings (count - i) rest → None ≡ next_setting rest
    → if_within_limits (settings_from count bytes) ≡ None
none_next count i bytes rest settings h f e =
    ap if_within_limits (f.read ∙ (ap (ahead settings) (read_one count i rest None h (sym e)) ∙ ahead_none settings))

follows_there : (settings more : List Setting) (s : Setting) → is_within_limits (settings ++ s ∷ more) ≡ true → may_follow s settings ≡ true
follows_there settings more s h =
    let l = limits_of (settings ++ s ∷ more) h in
    let few : length settings < 32 = omega (arith, l.count, length-append settings (s ∷ more)) in
    let room : nat_lt (length settings) 32 ≡ true = grind (arith, nat_tests, few) in
    both_of (is_setting s) _ (left_of (is_setting s) _ (all_second is_setting settings (s ∷ more) l.each))
    (both_of (nat_lt (length settings) 32) _ room (ascending_before (λ (t : Setting). t.name) settings s more l.ascending))

past_limits : (settings : List Setting) (s : Setting) (o : Option (List Setting)) → may_follow s settings ≡ false → if_within_limits (ahead settings (in_front s o)) ≡ None
past_limits settings s None h = ap if_within_limits (ahead_none settings)
past_limits settings s (Some more) h = ap if_within_limits (ahead_some settings (s ∷ more)) ∙ go (is_within_limits (settings ++ s ∷ more)) refl
  where
    go : (b : Bool) → is_within_limits (settings ++ s ∷ more) ≡ b → (if b then Some (settings ++ s ∷ more) else None) ≡ None
    go true e = let may : may_follow s settings ≡ true = follows_there settings more s e in cc
    go false e = refl

pub not_taken : (count i : ℕ) (bytes rest others : List ℕ) (s : Setting) (old new : List Setting) → i < count → SoFar count bytes old (count - i) rest
    → Some (s, others) ≡ next_setting rest → TakenWhere false s old new → if_within_limits (settings_from count bytes) ≡ None
not_taken count i bytes rest others s old new h f e t =
    ap if_within_limits (f.read ∙ ap (ahead old) (read_one count i rest (Some (s, others)) h (sym e))) ∙ past_limits old s (settings_from (count - (i + 1)) others) t.may

pub all_read : (count i : ℕ) (bytes rest : List ℕ) (settings : List Setting) (b : Bool) → count ≤ i → SoFar count bytes settings (count - i) rest
    → (b ≡ true → length rest ≡ 0) → (b ≡ false → 0 < length rest) → Reads b count bytes settings
all_read count i bytes [] settings true h f e k = record {
  read = f.read ∙ (ap (λ n. ahead settings (settings_from n [])) (none_left count i h) ∙ (ahead_some settings [] ∙ ap Some (append-nil settings)));
  lawful = f.lawful;
  few = f.few;
}
  where
    none_left : (n j : ℕ) → n ≤ j → n - j ≡ 0
    none_left n j h = omega (arith, h)
all_read count i bytes (x ∷ rest) settings true h f e k = absurd (omega (arith, e refl))
all_read count i bytes [] settings false h f e k = absurd (omega (arith, k refl))
all_read count i bytes (x ∷ rest) settings false h f e k =
    ap if_within_limits (f.read ∙ (ap (λ n. ahead settings (settings_from n (x ∷ rest))) (none_left count i h) ∙ ahead_none settings))
  where
    none_left : (n j : ℕ) → n ≤ j → n - j ≡ 0
    none_left n j h = omega (arith, h)

-- the room for one more setting of a stored form
pub form_room : (i : ℕ) (xs : List Setting) (x : Setting) → i < length xs → x ≡ get_or xs i x
    → length (flat_map stored_setting (take i xs)) + length (stored_setting x) ≤ length (flat_map stored_setting xs)
form_room i xs x h e =
    let rest = drop (suc i) xs in
    omega (
      arith,
      ap length (ap (flat_map stored_setting) (split_at i xs x h e) ∙ flat_map-append stored_setting (take i xs) (x ∷ rest)),
      length-append (flat_map stored_setting (take i xs)) (stored_setting x ++ flat_map stored_setting rest),
      length-append (stored_setting x) (flat_map stored_setting rest),
    )

-- whether there is no room for a write
pub full_by : (name val : List ℕ) (settings : List Setting) (without' : ℕ) → is_ascending (λ s. s.name) settings ≡ true
    → without' ≡ length (stored_form (deleted_setting name settings)) → (is_none (value_of name settings) && nat_le 32 (length settings)) ≡ false
    → nat_lt 3072 (without' + 2 + length name + length val) ≡ is_full name val settings
full_by name val settings without' sorted e free =
    let needed : without' + 2 + length name + length val ≡ length (stored_form (written_setting name val settings)) = omega (arith, e, written_length name val settings sorted) in
    ap (nat_lt 3072) needed ∙ ap (λ b. b || nat_lt 3072 (length (stored_form (written_setting name val settings)))) (sym free)
