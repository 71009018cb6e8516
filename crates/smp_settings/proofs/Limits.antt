-- Settings within the limits: what they have in common, and when a write or a delete keeps to them.
use Rattle.std.proofs.Common.{◌≡◌, ◌≤◌, ◌<◌, ◌+◌, ◌&&◌, ◌||◌, ℕ, List, ◌∷◌, ◌++◌, length, Bool, true, false, Option, Some, None, refl, sym, ap, ◌∙◌, arith, length-append}
use Rattle.std.specs.Prelude.{nat_le, nat_lt, is_none, flat_map, option_map}
use Rattle.std.specs.List.{list_all}
use Rattle.std.proofs.lemmas.Bool.Decides.{nat_tests}
use Rattle.std.proofs.lemmas.Grind.{flat_map-append}
use Rattle.std.specs.Prelude.{filter}
use Rattle.smp_model.specs.declared.setting.Setting.{Setting}
use Rattle.smp_model.specs.Named.{comes_before, is_ascending, named}
use Rattle.smp_model.specs.Settings.{setting, value_of, written_setting, deleted_setting, is_setting, is_within_limits, is_full, stored_setting, stored_form}
use Rattle.smp_settings.proofs.Naming.{left_of, right_of, both_of, placed_ascending, placed_all, placed_count, placed_again, without_ascending, without_all, without_count, without_shorter, parted, placed_new, placed_without, named_without}

or_left : (a b : Bool) → (a || b) ≡ false → a ≡ false
or_left true b h = cc
or_left false b h = refl

or_right : (a b : Bool) → (a || b) ≡ false → b ≡ false
or_right true b h = cc
or_right false b h = h

abbrev pub name_of : Setting → List ℕ
name_of s = s.name

-- Settings within the limits, by their four parts.
pub record Limits (settings : List Setting) : Type 0 where
  pub each : list_all is_setting settings ≡ true
  pub ascending : is_ascending (λ s. s.name) settings ≡ true
  pub count : length settings ≤ 32
  pub form : length (stored_form settings) ≤ 3072

pub limits_of : (settings : List Setting) → is_within_limits settings ≡ true → Limits settings
limits_of settings h =
    let these = left_of (list_all is_setting settings && is_ascending (λ s. s.name) settings) _ h in
    let sizes = right_of (list_all is_setting settings && is_ascending (λ s. s.name) settings) _ h in
    let count = left_of (nat_le (length settings) 32) _ sizes in
    let form = right_of (nat_le (length settings) 32) _ sizes in
    record {
      each = left_of (list_all is_setting settings) _ these;
      ascending = right_of (list_all is_setting settings) _ these;
      count = grind (arith, nat_tests, count);
      form = grind (arith, nat_tests, form);
    }

pub within : (settings : List Setting) → Limits settings → is_within_limits settings ≡ true
within settings l =
    let count : nat_le (length settings) 32 ≡ true = grind (arith, nat_tests, l.count) in
    let form : nat_le (length (stored_form settings)) 3072 ≡ true = grind (arith, nat_tests, l.form) in
    both_of (list_all is_setting settings && is_ascending (λ s. s.name) settings) _
    (both_of (list_all is_setting settings) _ l.each l.ascending) (both_of (nat_le (length settings) 32) _ count form)

-- a write for which there is room
pub written_count : (name val : List ℕ) (settings : List Setting) → length settings ≤ 32 → (is_none (value_of name settings) && nat_le 32 (length settings)) ≡ false
    → length (written_setting name val settings) ≤ 32
written_count name val settings h free = go (named (λ (s : Setting). s.name) name settings) refl
  where
    new : nat_le 32 (length settings) ≡ false → length (written_setting name val settings) ≤ 32
    new e =
        let fewer : length settings + 1 ≤ 32 = grind (arith, nat_tests, e) in
        omega (arith, placed_count (λ (s : Setting). s.name) (setting name val) settings, fewer)

    none : (o : Option (List ℕ)) → value_of name settings ≡ o → is_none o ≡ true → nat_le 32 (length settings) ≡ false
    none o e f = grind (arith, free, e, f)

    go : (o : Option Setting) → named (λ (s : Setting). s.name) name settings ≡ o → length (written_setting name val settings) ≤ 32
    go None e = new (none None (ap (option_map (λ (s : Setting). s.val)) e) refl)
    go (Some s) e = omega (arith, placed_again (λ (s : Setting). s.name) (setting name val) settings s e, h)

pub written_within : (name val : List ℕ) (settings : List Setting) → is_within_limits settings ≡ true → is_setting (setting name val) ≡ true
    → is_full name val settings ≡ false → is_within_limits (written_setting name val settings) ≡ true
written_within name val settings h lawful full =
    let l = limits_of settings h in
    let free = or_left (is_none (value_of name settings) && nat_le 32 (length settings)) _ full in
    let short = or_right (is_none (value_of name settings) && nat_le 32 (length settings)) _ full in
    within (written_setting name val settings) (record {
      each = placed_all (λ (s : Setting). s.name) is_setting (setting name val) settings lawful l.each;
      ascending = placed_ascending (λ (s : Setting). s.name) (setting name val) settings l.ascending;
      count = written_count name val settings l.count free;
      form = grind (arith, nat_tests, short);
    })

pub written_past : (name val : List ℕ) (settings : List Setting) → is_within_limits settings ≡ true → is_full name val settings ≡ true
    → is_within_limits (written_setting name val settings) ≡ false
written_past name val settings h full = go (is_within_limits (written_setting name val settings)) refl
  where
    l : Limits settings
    l = limits_of settings h

    count : (o : Option Setting) → named (λ (s : Setting). s.name) name settings ≡ o → length (written_setting name val settings) ≤ 32
        → (is_none (option_map (λ (s : Setting). s.val) o) && nat_le 32 (length settings)) ≡ false
    count None e k =
        let one : length (written_setting name val settings) ≡ length settings + 1 = placed_new (λ (s : Setting). s.name) (setting name val) settings l.ascending e in
        let fewer : length settings < 32 = omega (arith, one, k) in
        grind (arith, nat_tests, fewer)
    count (Some s) e k = refl

    not_full : Limits (written_setting name val settings) → is_full name val settings ≡ false
    not_full w =
        let free : (is_none (value_of name settings) && nat_le 32 (length settings)) ≡ false = count (named (λ (s : Setting). s.name) name settings) refl w.count in
        let short : nat_lt 3072 (length (stored_form (written_setting name val settings))) ≡ false = grind (arith, nat_tests, w.form) in
        ap (λ a. a || nat_lt 3072 (length (stored_form (written_setting name val settings)))) free ∙ short

    go : (b : Bool) → is_within_limits (written_setting name val settings) ≡ b → b ≡ false
    go true e = let no' : is_full name val settings ≡ false = not_full (limits_of (written_setting name val settings) e) in cc
    go false e = refl

pub deleted_within : (name : List ℕ) (settings : List Setting) → is_within_limits settings ≡ true → is_within_limits (deleted_setting name settings) ≡ true
deleted_within name settings h =
    let l = limits_of settings h in
    within (deleted_setting name settings) (record {
      each = without_all (λ (s : Setting). s.name) is_setting name settings l.each;
      ascending = without_ascending (λ (s : Setting). s.name) name settings l.ascending;
      count = omega (arith, without_count (λ (s : Setting). s.name) name settings, l.count);
      form = omega (arith, without_shorter (λ (s : Setting). s.name) stored_setting name settings, l.form);
    })

-- the length of a stored form with one more setting
pub form_between : (front rest : List Setting) (s : Setting) → length (stored_form (front ++ s ∷ rest)) ≡ length (stored_form (front ++ rest)) + (2 + length s.name + length s.val)
form_between front rest s =
    omega (
      arith,
      ap length (flat_map-append stored_setting front (s ∷ rest)),
      ap length (flat_map-append stored_setting front rest),
      length-append (flat_map stored_setting front) (stored_setting s ++ flat_map stored_setting rest),
      length-append (flat_map stored_setting front) (flat_map stored_setting rest),
      length-append (stored_setting s) (flat_map stored_setting rest),
      length-append s.name (length s.val ∷ s.val),
    )

pub written_length : (name val : List ℕ) (settings : List Setting) → is_ascending (λ s. s.name) settings ≡ true
    → length (stored_form (written_setting name val settings)) ≡ length (stored_form (deleted_setting name settings)) + (2 + length name + length val)
written_length name val settings sorted =
    let ys = deleted_setting name settings in
    let s = setting name val in
    let whole : ys ≡ filter (λ x. comes_before x.name name) ys ++ filter (λ x. comes_before name x.name) ys =
    parted (λ (x : Setting). x.name) name ys (without_ascending (λ (x : Setting). x.name) name settings sorted) (named_without (λ (x : Setting). x.name) name settings) in
    sym (ap (λ xs. length (stored_form xs)) (placed_without (λ (x : Setting). x.name) s settings))
    ∙ (form_between (filter (λ x. comes_before x.name name) ys) (filter (λ x. comes_before name x.name) ys) s
    ∙ ap (λ xs. length (stored_form xs) + (2 + length name + length val)) (sym whole))
