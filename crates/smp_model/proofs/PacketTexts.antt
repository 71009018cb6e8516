-- The texts of a request that a packet means are UTF-8: the reader of maps takes no other.
use Rattle.std.proofs.Common.{◌≡◌, ◌^◌, ◌/◌, ◌==◌, ◌&&◌, ℕ, zero, suc, List, [], ◌∷◌, Bool, true, false, Option, Some, None, refl, ap, subst, ◌∙◌, if◌then◌else◌, nat_lt}
use Rattle.std.specs.Prelude.{Result, Ok, Err, IfSome}
use Rattle.std.specs.Str.{is_utf8, bytes_eq}
use Rattle.smp_cbor.specs.declared.fault.CborKind.TheVariants as kinds
use Rattle.smp_cbor.specs.declared.fault.Stop.{Stop}
use Rattle.smp_cbor.specs.declared.heads.Head.{Head}
use Rattle.smp_cbor.specs.declared.heads.Head.TheVariants as heads
use Rattle.smp_cbor.specs.Heads.{◌>>=◌, head_at}
use Rattle.smp_cbor.specs.Skipping.{stop_at, placed, octets_at, text_at, begins_break, Skip}
use Rattle.smp_cbor.specs.Values.{Value, unsigned, octets, text, boolean, null, key_at, or_nil, pairs_from, map_value, or_other, leaf_value, inner_value, value_at, whole, map_body, map_of, map_pairs, map_entries}
use Rattle.smp_cbor.specs.Views.{look_up}
use Rattle.smp_header.specs.Message.{Message}
use Rattle.smp_model.specs.Consistent.{HasTexts}
use Rattle.smp_model.specs.Meaning.{of_kind, field, by_need, fields, or_invalid, some_or_invalid, filled, by_row, meaning}
use Rattle.smp_model.specs.Meant as meant
use Rattle.smp_model.specs.Meant.{Meant, number_in, words_in, bytes_in, made}
use Rattle.smp_model.specs.Table.{Kind, a_number, a_text, some_bytes, a_truth, Field, number, words, bytes, truth, Need, required, optional, counts_as, always, unused, Key, Name, echo_row, reset_row, parameters_row, image_list_row, image_set_row, upload_row, erase_row, stat_group_row, stat_list_row, setting_read_row, setting_write_row, setting_delete_row, commit_row, load_row, save_row, file_read_row, file_write_row, file_status_row, file_hash_row, file_types_row, file_close_row, table, name_at}
use Rattle.smp_model.specs.declared.error.TheConstants.{INVALID_VALUE, VERSION_TOO_NEW}

-- a value that is UTF-8 where it is a text
abbrev IsSoundValue : Value → Type 0
IsSoundValue v = (t : List ℕ) → v ≡ text t → is_utf8 t ≡ true

some_text : (s t : List ℕ) → text s ≡ text t → s ≡ t
some_text s t e = cc

text_body : (b : List ℕ) (n : ℕ) (r : List ℕ) → IsSoundValue (or_other (text_at b n r) (λ x. text x.0))
unfolding text_at
text_body b n r t = go (octets_at b n r)
  where
    test : (x : List ℕ × List ℕ) (u : Bool) → is_utf8 x.0 ≡ u → or_other (if u then Ok x else Err (stop_at b kinds.NotUtf8)) (λ x. text x.0) ≡ text t → is_utf8 t ≡ true
    test x true e h = subst (λ s. is_utf8 s ≡ true) (some_text x.0 t h) e
    test x false e h = cc

    go : (o : Result (List ℕ × List ℕ) Stop) → or_other (o >>= λ x. if is_utf8 x.0 then Ok x else Err (stop_at b kinds.NotUtf8)) (λ x. text x.0) ≡ text t → is_utf8 t ≡ true
    go (Ok x) h = test x (is_utf8 x.0) refl h
    go (Err e) h = cc

octets_body : (b : List ℕ) (n : ℕ) (r : List ℕ) → IsSoundValue (or_other (octets_at b n r) (λ x. octets x.0))
octets_body b n r t = go (octets_at b n r)
  where
    go : (o : Result (List ℕ × List ℕ) Stop) → or_other o (λ x. octets x.0) ≡ text t → is_utf8 t ≡ true
    go (Ok x) h = cc
    go (Err e) h = cc

leaf_sound : (b : List ℕ) (h : Head) (r : List ℕ) → IsSoundValue (leaf_value b h r)
leaf_sound b (heads.Unsigned n) r t e = cc
leaf_sound b (heads.Negative n) r t e = cc
leaf_sound b (heads.Octets n) r t e = octets_body b n r t e
leaf_sound b (heads.Text n) r t e = text_body b n r t e
leaf_sound b (heads.List count) r t e = cc
leaf_sound b (heads.Map count) r t e = cc
leaf_sound b heads.Tag r t e = cc
leaf_sound b (heads.Bool v) r t e = cc
leaf_sound b heads.Null r t e = cc
leaf_sound b heads.Other r t e = cc

map_sound : (u : Bool) (ps : List (List ℕ × Value)) → IsSoundValue (map_value u ps)
map_sound true ps t e = cc
map_sound false ps t e = cc

inner_sound : (d : ℕ) (one : List ℕ → Value) (b : List ℕ) (h : Head) (r : List ℕ) → IsSoundValue (inner_value d one b h r)
inner_sound d one b (heads.Unsigned n) r t e = cc
inner_sound d one b (heads.Negative n) r t e = cc
inner_sound d one b (heads.Octets n) r t e = octets_body b n r t e
inner_sound d one b (heads.Text n) r t e = text_body b n r t e
inner_sound d one b (heads.List count) r t e = cc
inner_sound d one b (heads.Map count) r t e = map_sound _ _ t e
inner_sound d one b heads.Tag r t e = cc
inner_sound d one b (heads.Bool v) r t e = cc
inner_sound d one b heads.Null r t e = cc
inner_sound d one b heads.Other r t e = cc

value_sound : (d : ℕ) (b : List ℕ) → IsSoundValue (value_at d b)
unfolding value_at
value_sound zero b t = go (placed b (head_at b))
  where
    go : (o : Result (Head × List ℕ) Stop) → or_other o (λ h. leaf_value b h.0 h.1) ≡ text t → is_utf8 t ≡ true
    go (Ok h) e = leaf_sound b h.0 h.1 t e
    go (Err s) e = cc
value_sound (suc d) b t = go (placed b (head_at b))
  where
    go : (o : Result (Head × List ℕ) Stop) → or_other o (λ h. inner_value d (value_at d) b h.0 h.1) ≡ text t → is_utf8 t ≡ true
    go (Ok h) e = inner_sound d (value_at d) b h.0 h.1 t e
    go (Err s) e = cc

-- the pairs of a map
abbrev pub AreSound : List (List ℕ × Value) → Type 0
AreSound [] = Unit {0}
AreSound (p ∷ ps) = IsSoundValue p.1 × AreSound ps

pairs_sound : (ends : Bool) (skip : Skip) (one : List ℕ → Value) → ((b : List ℕ) → IsSoundValue (one b)) → (k : ℕ) (b : List ℕ) → AreSound (pairs_from ends skip one k b)
unfolding pairs_from
pairs_sound ends skip one sound zero b = tt
pairs_sound ends skip one sound (suc k) b = test (pairs_sound ends skip one sound k) (ends && begins_break b)
  where
    behind : ((r : List ℕ) → AreSound (pairs_from ends skip one k r)) → (o : Result (List ℕ) Stop) → AreSound (or_nil o (pairs_from ends skip one k))
    behind others (Ok r) = others r
    behind others (Err s) = tt

    entry : ((r : List ℕ) → AreSound (pairs_from ends skip one k r)) → (o : Result (List ℕ × List ℕ) Stop)
        → AreSound (or_nil o (λ x. (x.0, one x.1) ∷ or_nil (skip x.1) (pairs_from ends skip one k)))
    entry others (Ok x) = (sound x.1, behind others (skip x.1))
    entry others (Err s) = tt

    test : ((r : List ℕ) → AreSound (pairs_from ends skip one k r)) → (u : Bool)
        → AreSound (if u then [] else or_nil (key_at b) (λ x. (x.0, one x.1) ∷ or_nil (skip x.1) (pairs_from ends skip one k)))
    test others true = tt
    test others false = entry others (key_at b)

-- what a map's body is read as
some_ok : {A E : Type 0} (x y : A) → ◌≡◌ {A = Result A E} (Ok x) (Ok y) → x ≡ y
some_ok x y e = cc

body_sound : (b : List ℕ) (h : Head) (r : List ℕ) (ps : List (List ℕ × Value)) → map_body b h r ≡ Ok ps → AreSound ps
body_sound b (heads.Map count) r ps e = go (whole b (map_pairs 7 count) r) e
  where
    go : (o : Result (List ℕ) Stop) → (o >>= λ r. Ok (map_entries 7 (value_at 7) count r)) ≡ Ok ps → AreSound ps
    go (Ok x) e = subst AreSound (some_ok (map_entries 7 (value_at 7) count x) ps e) (pairs_sound _ _ (value_at 7) (value_sound 7) _ x)
    go (Err s) e = cc
body_sound b (heads.Unsigned n) r ps e = cc
body_sound b (heads.Negative n) r ps e = cc
body_sound b (heads.Octets n) r ps e = cc
body_sound b (heads.Text n) r ps e = cc
body_sound b (heads.List count) r ps e = cc
body_sound b heads.Tag r ps e = cc
body_sound b (heads.Bool v) r ps e = cc
body_sound b heads.Null r ps e = cc
body_sound b heads.Other r ps e = cc

pub map_of_sound : (b : List ℕ) (ps : List (List ℕ × Value)) → map_of b ≡ Ok ps → AreSound ps
unfolding map_of
map_of_sound [] ps e = subst AreSound (some_ok [] ps e) tt
map_of_sound (x ∷ xs) ps e = test ((x / 32) == 5) e
  where
    go : (o : Result (Head × List ℕ) Stop) → (o >>= λ h. map_body (x ∷ xs) h.0 h.1) ≡ Ok ps → AreSound ps
    go (Ok h) e = body_sound (x ∷ xs) h.0 h.1 ps e
    go (Err s) e = cc

    test : (u : Bool) → (if u then (placed (x ∷ xs) (head_at (x ∷ xs)) >>= λ h. map_body (x ∷ xs) h.0 h.1) else Err (stop_at (x ∷ xs) kinds.NotAMap)) ≡ Ok ps → AreSound ps
    test true e = go (placed (x ∷ xs) (head_at (x ∷ xs))) e
    test false e = cc

-- the value of a key
found_sound : (key : List ℕ) (ps : List (List ℕ × Value)) → AreSound ps → (o : Option Value) → look_up key ps ≡ o → IfSome o IsSoundValue
found_sound key [] h None e = tt
found_sound key [] h (Some v) e = cc
found_sound key (p ∷ ps) h o e = test (found_sound key ps h.1 o) (bytes_eq p.0 key) e
  where
    test : (look_up key ps ≡ o → IfSome o IsSoundValue) → (u : Bool) → (if u then Some p.1 else look_up key ps) ≡ o → IfSome o IsSoundValue
    test others true e = subst (λ x. IfSome x IsSoundValue) e h.0
    test others false e = others e

-- a field that is UTF-8 where it is a text
abbrev IsSoundField : Option Field → Type 0
IsSoundField f = (t : List ℕ) → f ≡ Some (words t) → is_utf8 t ≡ true

abbrev AreSoundFields : List (Option Field) → Type 0
AreSoundFields [] = Unit {0}
AreSoundFields (f ∷ fs) = IsSoundField f × AreSoundFields fs

none_sound : IsSoundField None
none_sound t e = cc

of_kind_sound : (kind : Kind) (v : Value) (f : Option Field) → IsSoundValue v → of_kind kind (Some v) ≡ Ok f → IsSoundField f
of_kind_sound a_number (unsigned n) f h e t k = test (nat_lt n (2 ^ 32)) e
  where
    test : (u : Bool) → (if u then Ok (Some (number n)) else Err INVALID_VALUE) ≡ Ok f → is_utf8 t ≡ true
    test true e = cc
    test false e = cc
of_kind_sound a_text (text s) f h e t k = h t (cc)
of_kind_sound some_bytes (octets b) f h e t k = cc
of_kind_sound a_truth (boolean b) f h e t k = cc
of_kind_sound kind v f h e t k = cc

field_sound : (kind : Kind) (o : Option Value) (f : Option Field) → IfSome o IsSoundValue → field kind o ≡ Ok f → IsSoundField f
field_sound kind None f h e t k = cc
field_sound kind (Some null) f h e t k = cc
field_sound kind (Some v) f h e t k = of_kind_sound kind v f h e t k

-- no default is a text
abbrev is_no_text : Field → Bool
is_no_text (words t) = false
is_no_text f = true

abbrev has_sound_default : Need → Bool
has_sound_default (counts_as f) = is_no_text f
has_sound_default (always f) = is_no_text f
has_sound_default need = true

no_text_sound : (f : Field) → is_no_text f ≡ true → IsSoundField (Some f)
no_text_sound (number n) h t e = cc
no_text_sound (words s) h t e = cc
no_text_sound (bytes b) h t e = cc
no_text_sound (truth b) h t e = cc

need_sound : (need : Need) (f g : Option Field) → has_sound_default need ≡ true → IsSoundField f → by_need need f ≡ Ok g → IsSoundField g
need_sound required None g d h e = cc
need_sound required (Some f) g d h e = subst IsSoundField (some_ok (Some f) g e) h
need_sound optional f g d h e = subst IsSoundField (some_ok f g e) h
need_sound (counts_as c) None g d h e = subst IsSoundField (some_ok (Some c) g e) (no_text_sound c d)
need_sound (counts_as c) (Some f) g d h e = subst IsSoundField (some_ok (Some f) g e) h
need_sound (always c) None g d h e = subst IsSoundField (some_ok (Some c) g e) (no_text_sound c d)
need_sound (always c) (Some f) g d h e = subst IsSoundField (some_ok (Some f) g e) h
need_sound unused f g d h e = subst IsSoundField (some_ok None g e) none_sound

abbrev have_sound_defaults : List Key → Bool
have_sound_defaults [] = true
have_sound_defaults (k ∷ ks) = has_sound_default k.need && have_sound_defaults ks

front_of : (a b : Bool) → (a && b) ≡ true → a ≡ true
front_of true b e = refl
front_of false b e = cc

rest_of : (a b : Bool) → (a && b) ≡ true → b ≡ true
rest_of true b e = e
rest_of false b e = cc

fields_sound : (ks : List Key) → have_sound_defaults ks ≡ true → (ps : List (List ℕ × Value)) → AreSound ps → (fs : List (Option Field)) → fields ks ps ≡ Ok fs → AreSoundFields fs
fields_sound [] d ps h fs e = subst AreSoundFields (some_ok [] fs e) tt
fields_sound (k ∷ ks) d ps h fs e = first (fields_sound ks (rest_of (has_sound_default k.need) _ d) ps h) (field k.kind (look_up k.name ps)) refl e
  where
    others : ((gs : List (Option Field)) → fields ks ps ≡ Ok gs → AreSoundFields gs) → (g : Option Field) → IsSoundField g → (o : Result (List (Option Field)) ℕ) → fields ks ps ≡ o
        → (o >>= λ gs. Ok (g ∷ gs)) ≡ Ok fs → AreSoundFields fs
    others rest g hg (Ok gs) q e = subst AreSoundFields (some_ok (g ∷ gs) fs e) (hg, rest gs q)
    others rest g hg (Err n) q e = cc

    second : ((gs : List (Option Field)) → fields ks ps ≡ Ok gs → AreSoundFields gs) → (f : Option Field) → IsSoundField f → (o : Result (Option Field) ℕ) → by_need k.need f ≡ o
        → (o >>= λ g. fields ks ps >>= λ gs. Ok (g ∷ gs)) ≡ Ok fs → AreSoundFields fs
    second rest f hf (Ok g) q e = others rest g (need_sound k.need f g (front_of (has_sound_default k.need) _ d) hf q) (fields ks ps) refl e
    second rest f hf (Err n) q e = cc

    first : ((gs : List (Option Field)) → fields ks ps ≡ Ok gs → AreSoundFields gs) → (o : Result (Option Field) ℕ) → field k.kind (look_up k.name ps) ≡ o → (o >>= λ f. by_need k.need f >>= λ g. fields ks ps >>= λ gs. Ok (g ∷ gs)) ≡ Ok fs → AreSoundFields fs
    first rest (Ok f) q e = second rest f (field_sound k.kind (look_up k.name ps) f (found_sound k.name ps h (look_up k.name ps) refl) q) (by_need k.need f) refl e
    first rest (Err n) q e = cc

-- the request that the fields make
some_meant : (a b : Meant) → Some a ≡ Some b → a ≡ b
some_meant a b e = cc

optional_text : (f : Option Field) → IsSoundField f → IfSome (words_in f) (λ t. is_utf8 t ≡ true)
optional_text None h = tt
optional_text (Some (number n)) h = tt
optional_text (Some (words t)) h = h t refl
optional_text (Some (bytes b)) h = tt
optional_text (Some (truth b)) h = tt

made_texts : (n : Name) (fs : List (Option Field)) (m : Meant) → made n fs ≡ Some m → AreSoundFields fs → HasTexts m
made_texts echo_row (Some (words t) ∷ []) m e h = subst HasTexts (some_meant (meant.echo t) m e) (h.0 t refl)
made_texts reset_row [] m e h = subst HasTexts (some_meant meant.reset m e) tt
made_texts parameters_row [] m e h = subst HasTexts (some_meant meant.parameters m e) tt
made_texts image_list_row [] m e h = subst HasTexts (some_meant meant.image_list m e) tt
made_texts image_set_row (hash ∷ Some (truth confirm) ∷ []) m e h = subst HasTexts (some_meant (meant.image_set (bytes_in hash) confirm) m e) tt
made_texts upload_row (image ∷ len ∷ Some (number off) ∷ sha ∷ Some (bytes part) ∷ None ∷ []) m e h =
    subst HasTexts (some_meant (meant.upload (number_in image) (number_in len) off (bytes_in sha) part) m e) tt
made_texts erase_row (Some (number slot) ∷ []) m e h = subst HasTexts (some_meant (meant.erase slot) m e) tt
made_texts stat_group_row (Some (words name) ∷ []) m e h = subst HasTexts (some_meant (meant.stat_group name) m e) (h.0 name refl)
made_texts stat_list_row [] m e h = subst HasTexts (some_meant meant.stat_list m e) tt
made_texts setting_read_row (Some (words name) ∷ size ∷ []) m e h = subst HasTexts (some_meant (meant.setting_read name (number_in size)) m e) (h.0 name refl)
made_texts setting_write_row (Some (words name) ∷ Some (bytes val) ∷ []) m e h = subst HasTexts (some_meant (meant.setting_write name val) m e) (h.0 name refl)
made_texts setting_delete_row (Some (words name) ∷ []) m e h = subst HasTexts (some_meant (meant.setting_delete name) m e) (h.0 name refl)
made_texts commit_row [] m e h = subst HasTexts (some_meant meant.commit m e) tt
made_texts load_row [] m e h = subst HasTexts (some_meant meant.load m e) tt
made_texts save_row [] m e h = subst HasTexts (some_meant meant.save m e) tt
made_texts file_read_row (Some (number off) ∷ Some (words name) ∷ []) m e h = subst HasTexts (some_meant (meant.file_read off name) m e) (h.1.0 name refl)
made_texts file_write_row (Some (number off) ∷ Some (bytes part) ∷ len ∷ Some (words name) ∷ []) m e h =
    subst HasTexts (some_meant (meant.file_write off part (number_in len) name) m e) (h.1.1.1.0 name refl)
made_texts file_status_row (Some (words name) ∷ []) m e h = subst HasTexts (some_meant (meant.file_status name) m e) (h.0 name refl)
made_texts file_hash_row (Some (words name) ∷ kind ∷ Some (number off) ∷ len ∷ []) m e h =
    subst HasTexts (some_meant (meant.file_hash name (words_in kind) off (number_in len)) m e) (h.0 name refl, optional_text kind h.1.0)
made_texts file_types_row [] m e h = subst HasTexts (some_meant meant.file_types m e) tt
made_texts file_close_row [] m e h = subst HasTexts (some_meant meant.file_close m e) tt
made_texts n fs m e h = cc

rows_sound : (n : Name) → have_sound_defaults (table n).keys ≡ true
rows_sound echo_row = refl
rows_sound reset_row = refl
rows_sound parameters_row = refl
rows_sound image_list_row = refl
rows_sound image_set_row = refl
rows_sound upload_row = refl
rows_sound erase_row = refl
rows_sound stat_group_row = refl
rows_sound stat_list_row = refl
rows_sound setting_read_row = refl
rows_sound setting_write_row = refl
rows_sound setting_delete_row = refl
rows_sound commit_row = refl
rows_sound load_row = refl
rows_sound save_row = refl
rows_sound file_read_row = refl
rows_sound file_write_row = refl
rows_sound file_status_row = refl
rows_sound file_hash_row = refl
rows_sound file_types_row = refl
rows_sound file_close_row = refl

filled_texts : (n : Name) (ps : List (List ℕ × Value)) (m : Meant) → AreSound ps → filled n ps ≡ Ok m → HasTexts m
filled_texts n ps m h = go (fields (table n).keys ps) refl
  where
    request : (fs : List (Option Field)) → AreSoundFields fs → (o : Option Meant) → made n fs ≡ o → some_or_invalid o ≡ Ok m → HasTexts m
    request fs hf (Some r) q e = made_texts n fs m (q ∙ ap Some (some_ok r m e)) hf
    request fs hf None q e = cc

    go : (o : Result (List (Option Field)) ℕ) → fields (table n).keys ps ≡ o → (o >>= λ fs. some_or_invalid (made n fs)) ≡ Ok m → HasTexts m
    go (Ok fs) q e = request fs (fields_sound (table n).keys (rows_sound n) ps h fs q) (made n fs) refl e
    go (Err k) q e = cc

by_row_texts : (o : Option Name) (b : List ℕ) (m : Meant) → by_row o b ≡ Ok m → HasTexts m
by_row_texts None b m e = cc
by_row_texts (Some n) b m e = go (map_of b) refl e
  where
    go : (o : Result (List (List ℕ × Value)) Stop) → map_of b ≡ o → (or_invalid o >>= filled n) ≡ Ok m → HasTexts m
    go (Ok ps) q e = filled_texts n ps m (map_of_sound b ps q) e
    go (Err s) q e = cc

pub meaning_texts : (p : Message) (m : Meant) → meaning p ≡ Ok m → HasTexts m
meaning_texts p m = test (nat_lt p.version 2)
  where
    test : (u : Bool) → (if u then by_row (name_at p.group p.command p.op) p.bytes else Err VERSION_TOO_NEW) ≡ Ok m → HasTexts m
    test true e = by_row_texts (name_at p.group p.command p.op) p.bytes m e
    test false e = cc
