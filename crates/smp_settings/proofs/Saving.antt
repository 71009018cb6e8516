-- What the content of the bank gives, cell by cell, and what a save makes of it.
use Rattle.std.proofs.Common.{◌≡◌, inl, inr, ◌≤◌, ◌<◌, ◌+◌, ℕ, zero, suc, List, [], ◌∷◌, ◌++◌, length, take, drop, true, false, Option, Some, None, refl, sym, ap, subst, ◌∙◌, arith, if◌then◌else◌}
use Rattle.std.specs.Prelude.{IfSome, IsSome, is_some, option_map, ◌&&◌}
use Rattle.std.specs.Str.{is_utf8}
use Rattle.std.proofs.lemmas.Bool.Decides.{nat_tests}
use Rattle.smp_gate.specs.Side.{whole_side}
use Rattle.std.proofs.lemmas.List.{take_all}
use Rattle.smp_flash.specs.Area.{area, Told}
use Rattle.smp_flash.specs.Calls.{Calls}
use Rattle.smp_flash.specs.Layout.{settings_of, bank_spots}
use Rattle.smp_flash.specs.State.{FlashState, End}
use Rattle.smp_flash.specs.declared.layout.BankPlace.{BankPlace}
use Rattle.smp_flash.specs.declared.layout.Layout.{Layout}
use Rattle.smp_flash.proofs.Telling.{Told-map}
use Rattle.smp_gate.specs.Bank.{BankState, BankSays, current}
use Rattle.smp_gate.specs.Fault.{after_fault}
use Rattle.smp_gate.specs.declared.fault.BankFault.{BankFault}
use Rattle.smp_gate.specs.declared.fault.BankFault.TheVariants as faults
use Rattle.smp_gate.specs.Cells.{cells_in, cell_of, standing}
use Rattle.smp_gate.specs.Newest.{Content, just, content_of, HasBody, HasCell, SameOrAdded, SameOrThis, Added, sides}
use Rattle.smp_model.specs.declared.setting.Setting.{Setting}
use Rattle.smp_model.specs.Settings.{setting, is_setting, is_setting_name, is_setting_value, settings_in, stored_form, is_within_limits}
use Rattle.smp_settings.proofs.Naming.{both_of}
use Rattle.smp_settings.specs.Cells.{CellChange, cell_length, cell_of as cell_bytes, changed_by, after_cell, after_cells, settings_given, with_change, is_change}
use Rattle.smp_settings.specs.Saved.{saved_in, SavedStand, SavedReadable, SavedOrThis, SettingsState, SettingsSay}
use Rattle.smp_settings.specs.Found.{CellsGive, HoldsBank}
use Rattle.smp_settings.proofs.Changing.{read_back}
use Rattle.smp_settings.proofs.Counting.{cells_stand}

-- cells one after the other
after_more : (cells : List (List ℕ)) (cell : List ℕ) (o : Option (List Setting)) → after_cells (cells ++ cell ∷ []) o ≡ after_cell cell (after_cells cells o)
after_more [] cell o = refl
after_more (x ∷ cells) cell o = after_more cells cell (after_cell x o)

after_none : (cells : List (List ℕ)) → after_cells cells None ≡ None
after_none [] = refl
after_none (x ∷ cells) = after_none cells

after_split : (front rest : List (List ℕ)) (o : Option (List Setting)) → after_cells (front ++ rest) o ≡ after_cells rest (after_cells front o)
after_split [] rest o = refl
after_split (x ∷ front) rest o = after_split front rest (after_cell x o)

-- the cell of a number, between those before it and those behind it
cell_split : (n : ℕ) (cells : List (List ℕ)) (x : List ℕ) → cell_of n cells ≡ Some x → cells ≡ take n cells ++ x ∷ drop (suc n) cells
cell_split n [] x e = cc
cell_split zero (y ∷ cells) x e = ap (λ z. z ∷ cells) (some_same y x e)
  where
    some_same : (a b : List ℕ) → Some a ≡ Some b → a ≡ b
    some_same a b k = cc
cell_split (suc n) (y ∷ cells) x e = ap (λ zs. y ∷ zs) (cell_split n cells x e)

take_next : (n : ℕ) (cells : List (List ℕ)) (x : List ℕ) → cell_of n cells ≡ Some x → take (suc n) cells ≡ take n cells ++ x ∷ []
take_next n [] x e = cc
take_next zero (y ∷ cells) x e = ap (λ z. z ∷ []) (some_same y x e)
  where
    some_same : (a b : List ℕ) → Some a ≡ Some b → a ≡ b
    some_same a b k = cc
take_next (suc n) (y ∷ cells) x e = ap (λ zs. y ∷ zs) (take_next n cells x e)

-- what the first cells give, by the bytes
abbrev pub FirstGive : BankState → ℕ → List Setting → List Setting → List ℕ → Type 0
FirstGive bank n old new held = (c : Content) → content_of bank.place bank.cell held ≡ Some c → after_cells (take n c.cells) (Some old) ≡ Some new

pub first_none : (bank : BankState) (old new : List Setting) (held : List ℕ) → new ≡ old → FirstGive bank 0 old new held
first_none bank old new held e = λ c h. ap Some (sym e)

pub first_more : (bank : BankState) (n : ℕ) (old mid new : List Setting) (cell held : List ℕ) → FirstGive bank n old mid held → HasCell bank.place bank.cell n cell held
    → after_cell cell (Some mid) ≡ Some new → FirstGive bank (n + 1) old new held
first_more bank n old mid new cell held f h e = λ c k.
    let m : n + 1 ≡ suc n = omega arith in
    ap (λ i. after_cells (take i c.cells) (Some old)) m
    ∙ (ap (λ cells. after_cells cells (Some old)) (take_next n c.cells cell (h c k)) ∙ (after_more (take n c.cells) cell (Some old) ∙ (ap (after_cell cell) (f c k) ∙ e)))

pub cell_refused : (bank : BankState) (n : ℕ) (old mid new : List Setting) (cell held : List ℕ) → FirstGive bank n old mid held → HasCell bank.place bank.cell n cell held
    → after_cell cell (Some mid) ≡ None → CellsGive bank false old new held
cell_refused bank n old mid new cell held f h e = λ c k.
    ap (λ cells. after_cells cells (Some old)) (cell_split n c.cells cell (h c k))
    ∙ (after_split (take n c.cells) (cell ∷ drop (suc n) c.cells) (Some old)
    ∙ (ap (λ o. after_cells (drop (suc n) c.cells) (after_cell cell o)) (f c k) ∙ (ap (after_cells (drop (suc n) c.cells)) e ∙ after_none (drop (suc n) c.cells))))

-- a bank's value and its content
abbrev pub ContentLaw : Type 0
ContentLaw = (bank : BankState) (bytes : List ℕ) (says : BankSays bank bytes)
    → content_of bank.place bank.cell bytes ≡ Some (record { body = says.body; cells = cells_in bank.cell bank.size (area (current bank.place bank.second) 4096 bytes) })

some_content : (x y : Content) → Some x ≡ Some y → x ≡ y
some_content x y k = cc

pub all_cells : (bank : BankState) (n : ℕ) (old new : List Setting) (held : List ℕ) → ContentLaw → BankSays bank held → standing bank.gates ≤ n → FirstGive bank n old new held → CellsGive bank true old new held
all_cells bank n old new held law says all f = λ c k.
    let is : c.cells ≡ cells_in bank.cell bank.size (area (current bank.place bank.second) 4096 held) = ap (λ (x : Content). x.cells) (some_content _ _ (sym k ∙ law bank held says)) in
    let many : length c.cells ≡ standing bank.gates = ap length is ∙ cells_stand bank.cell bank.size bank.gates (area (current bank.place bank.second) 4096 held) says.used in
    let whole : take n c.cells ≡ c.cells = take_all n c.cells (omega (arith, many, all)) in
    ap (λ cells. after_cells cells (Some old)) (sym whole) ∙ f c k

-- what is found by body and cells
abbrev body_in : Option Content → Option (List ℕ)
body_in o = option_map (λ (c : Content). c.body) o

some_bytes : (x y : List ℕ) → Some x ≡ Some y → x ≡ y
some_bytes x y k = cc

given_by : (place : BankPlace) (o : Option Content) (saved start : Option (List Setting)) (body : List ℕ) → body_in o ≡ Some body → settings_in body ≡ start
    → ((c : Content) → o ≡ Some c → after_cells c.cells start ≡ saved) → settings_given o ≡ saved
given_by place None saved start body b s f = cc
given_by place (Some c) saved start body b s f =
    ap (λ x. after_cells c.cells (settings_in x)) (some_bytes c.body body b) ∙ (ap (after_cells c.cells) s ∙ f c refl)

-- the place and the cells of the bank are those of the settings
abbrev ContentAt : Layout → List ℕ → Option Content
ContentAt layout held = content_of (settings_of layout) cell_length held

pub found_saved : (layout : Layout) (bank : BankState) (start saved : List Setting) (body held : List ℕ) → HoldsBank bank layout → HasBody (settings_of layout) cell_length body held
    → settings_in body ≡ Some start → CellsGive bank true start saved held → SavedStand layout saved held
found_saved layout bank start saved body held is b s f =
    given_by (settings_of layout) (ContentAt layout held) (Some saved) (Some start) body b s
    (λ c e. f c (ap (λ p. content_of p bank.cell held) is.place ∙ (ap (λ n. content_of (settings_of layout) n held) is.cell ∙ e)))

none_readable : (o : Option (List Setting)) → o ≡ None → IsSome o → ⊥
none_readable None e h = absurd (false_true h)
  where
    false_true : false ≡ true → ⊥
    false_true k = cc
none_readable (Some x) e h = absurd (some_none e)
  where
    some_none : Some x ≡ None → ⊥
    some_none k = cc

pub refused_cells : (layout : Layout) (bank : BankState) (start saved : List Setting) (body held : List ℕ) → HoldsBank bank layout → HasBody (settings_of layout) cell_length body held
    → settings_in body ≡ Some start → CellsGive bank false start saved held → SavedReadable layout held → ⊥
refused_cells layout bank start saved body held is b s f =
    none_readable (saved_in layout held) (given_by (settings_of layout) (ContentAt layout held) None (Some start) body b s
    (λ c e. f c (ap (λ p. content_of p bank.cell held) is.place ∙ (ap (λ n. content_of (settings_of layout) n held) is.cell ∙ e))))

pub refused_body : (layout : Layout) (body held : List ℕ) → HasBody (settings_of layout) cell_length body held → settings_in body ≡ None → SavedReadable layout held → ⊥
refused_body layout body held b s =
    none_readable (saved_in layout held) (given_by (settings_of layout) (ContentAt layout held) None None body b s (λ c e. after_none c.cells))

pub no_side : (layout : Layout) (held : List ℕ) → ContentAt layout held ≡ None → SavedReadable layout held → ⊥
no_side layout held e = none_readable (saved_in layout held) (ap settings_given e)

-- what a save leaves: after a cell
pub cell_saved : (layout : Layout) (change : CellChange) (saved running : List Setting) (old new : List ℕ) → is_change change ≡ true → running ≡ with_change change saved
    → is_within_limits running ≡ true → SavedStand layout saved old → Added (settings_of layout) cell_length (cell_bytes change) old new → SavedStand layout running new
cell_saved layout change saved running old new lawful leads within stands added = go (ContentAt layout old) refl stands
  where
    go : (o : Option Content) → ContentAt layout old ≡ o → settings_given o ≡ Some saved → saved_in layout new ≡ Some running
    go None e s = cc
    go (Some c) e s =
        ap settings_given (added c e)
        ∙ (after_more c.cells (cell_bytes change) (settings_in c.body) ∙ (ap (after_cell (cell_bytes change)) s
        ∙ (ap (changed_by saved) (read_back change lawful) ∙ (ap (λ xs. if is_within_limits xs then Some xs else None) (sym leads) ∙ ap (λ b. if b then Some running else None) within))))

pub cell_leaves : (layout : Layout) (change : CellChange) (saved running : List Setting) (old new : List ℕ) → is_change change ≡ true → running ≡ with_change change saved
    → is_within_limits running ≡ true → SavedStand layout saved old → SameOrAdded (settings_of layout) cell_length (cell_bytes change) old new → SavedOrThis layout running old new
cell_leaves layout change saved running old new lawful leads within stands (inl same) = inl (ap settings_given same)
cell_leaves layout change saved running old new lawful leads within stands (inr added) = inr (cell_saved layout change saved running old new lawful leads within stands added)

-- after a replacement
pub body_saved : (layout : Layout) (running : List Setting) (new : List ℕ) → settings_in (stored_form running) ≡ Some running → ContentAt layout new ≡ Some (just (stored_form running))
    → SavedStand layout running new
body_saved layout running new back e = ap settings_given e ∙ back

pub body_leaves : (layout : Layout) (running : List Setting) (old new : List ℕ) → settings_in (stored_form running) ≡ Some running
    → SameOrThis (settings_of layout) cell_length (just (stored_form running)) old new → SavedOrThis layout running old new
body_leaves layout running old new back (inl same) = inl (ap settings_given same)
body_leaves layout running old new back (inr this) = inr (body_saved layout running new back this)

-- how a bank's spots are named
pub sides_are : (layout : Layout) (place : BankPlace) (end : End) (a b : FlashState) → place ≡ settings_of layout → Calls (sides place) end a b → Calls (bank_spots (settings_of layout)) end a b
sides_are layout place end a b e c = subst (λ (p : BankPlace). Calls (sides p) end a b) e c

-- the same of bytes that may not be told
pub first_told : (bank : BankState) (n : ℕ) (old mid new : List Setting) (cell : List ℕ) (x y : Option (List ℕ)) → y ≡ x → IfSome x (FirstGive bank n old mid)
    → IfSome y (HasCell bank.place bank.cell n cell) → after_cell cell (Some mid) ≡ Some new → IfSome x (FirstGive bank (n + 1) old new)
first_told bank n old mid new cell None y e f h k = tt
first_told bank n old mid new cell (Some held) y e f h k =
    first_more bank n old mid new cell held f (subst (λ (o : Option (List ℕ)). IfSome o (HasCell bank.place bank.cell n cell)) e h) k

pub refused_told : (bank : BankState) (n : ℕ) (old mid new : List Setting) (cell : List ℕ) (x y : Option (List ℕ)) → y ≡ x → IfSome x (FirstGive bank n old mid)
    → IfSome y (HasCell bank.place bank.cell n cell) → after_cell cell (Some mid) ≡ None → IfSome y (CellsGive bank false old new)
refused_told bank n old mid new cell x None e f h k = tt
refused_told bank n old mid new cell x (Some held) e f h k =
    cell_refused bank n old mid new cell held (subst (λ (o : Option (List ℕ)). IfSome o (FirstGive bank n old mid)) (sym e) f) h k

pub all_told : (bank : BankState) (n : ℕ) (old new : List Setting) (x y : Option (List ℕ)) → ContentLaw → y ≡ x → IfSome x (BankSays bank) → standing bank.gates ≤ n
    → IfSome x (FirstGive bank n old new) → IfSome y (CellsGive bank true old new)
all_told bank n old new x None law e says all f = tt
all_told bank n old new x (Some held) law e says all f =
    all_cells bank n old new held law (subst (λ (o : Option (List ℕ)). IfSome o (BankSays bank)) (sym e) says) all (subst (λ (o : Option (List ℕ)). IfSome o (FirstGive bank n old new)) (sym e) f)

pub holds_bank : (bank made : BankState) (layout : Layout) (place : BankPlace) → bank ≡ made → made.place ≡ place → made.cell ≡ cell_length → made.sure ≡ true → place ≡ settings_of layout → HoldsBank bank layout
holds_bank bank made layout place e p c s f = record {
  place = ap (λ (b : BankState). b.place) e ∙ (p ∙ f);
  cell = ap (λ (b : BankState). b.cell) e ∙ c;
  sure = ap (λ (b : BankState). b.sure) e ∙ s;
}

body_at : (layout : Layout) (place : BankPlace) (body held : List ℕ) → place ≡ settings_of layout → HasBody place cell_length body held → HasBody (settings_of layout) cell_length body held
body_at layout place body held e h = subst (λ (p : BankPlace). HasBody p cell_length body held) e h

pub refused_body_told : (layout : Layout) (place : BankPlace) (body bytes : List ℕ) (x : Option (List ℕ)) → place ≡ settings_of layout → bytes ≡ body → settings_in bytes ≡ None
    → IfSome x (HasBody place cell_length body) → IfSome x (λ held. SavedReadable layout held → ⊥)
refused_body_told layout place body bytes None e b s h = tt
refused_body_told layout place body bytes (Some held) e b s h = refused_body layout body held (body_at layout place body held e h) (ap settings_in (sym b) ∙ s)

pub refused_cells_told : (layout : Layout) (place : BankPlace) (bank : BankState) (start saved : List Setting) (body bytes : List ℕ) (x y : Option (List ℕ)) → place ≡ settings_of layout → bytes ≡ body
    → settings_in bytes ≡ Some start → HoldsBank bank layout → y ≡ x → IfSome x (HasBody place cell_length body) → IfSome y (CellsGive bank false start saved) → IfSome y (λ held. SavedReadable layout held → ⊥)
refused_cells_told layout place bank start saved body bytes x None e b s is k h f = tt
refused_cells_told layout place bank start saved body bytes x (Some held) e b s is k h f =
    refused_cells layout bank start saved body held is (body_at layout place body held e (subst (λ (o : Option (List ℕ)). IfSome o (HasBody place cell_length body)) (sym k) h)) (ap settings_in (sym b) ∙ s) f

pub found_saved_told : (layout : Layout) (place : BankPlace) (bank : BankState) (start saved : List Setting) (body bytes : List ℕ) (x y : Option (List ℕ)) → place ≡ settings_of layout → bytes ≡ body
    → settings_in bytes ≡ Some start → HoldsBank bank layout → y ≡ x → IfSome x (HasBody place cell_length body) → IfSome y (CellsGive bank true start saved) → IfSome y (SavedStand layout saved)
found_saved_told layout place bank start saved body bytes x None e b s is k h f = tt
found_saved_told layout place bank start saved body bytes x (Some held) e b s is k h f =
    found_saved layout bank start saved body held is (body_at layout place body held e (subst (λ (o : Option (List ℕ)). IfSome o (HasBody place cell_length body)) (sym k) h)) (ap settings_in (sym b) ∙ s) f

-- the first map that is made
pub made_says : (layout : Layout) (s : SettingsState) (form : List ℕ) (x : Option (List ℕ)) (place : BankPlace) → s.layout ≡ layout → s.saved ≡ [] → form ≡ stored_form [] → s.bank.place ≡ place
    → place ≡ settings_of layout → IfSome x (BankSays s.bank) → IfSome x (λ held. content_of place cell_length held ≡ Some (just form)) → IfSome x (SettingsSay s)
made_says layout s form None place l e f p q b c = tt
made_says layout s form (Some held) place l e f p q b c =
    let at : content_of (settings_of layout) cell_length held ≡ Some (just (stored_form [])) =
    ap (λ (pl : BankPlace). content_of pl cell_length held) (sym q) ∙ (c ∙ ap (λ bytes. Some (just bytes)) f) in
    let none : saved_in layout held ≡ Some [] = body_saved layout [] held refl at in
    let stands : saved_in s.layout held ≡ Some s.saved = ap (λ (m : Layout). saved_in m held) l ∙ (none ∙ ap Some (sym e)) in
    record {
      readable = ap is_some stands;
      place = p ∙ (q ∙ ap settings_of (sym l));
      bank = λ sure. b;
      saved = λ sure. stands;
    }

pub made_side : (layout : Layout) (place : BankPlace) (form : List ℕ) (x : Option (List ℕ)) → place ≡ settings_of layout → form ≡ stored_form []
    → IfSome x (λ held. area place.first.at 4096 held ≡ whole_side 1 form) → IfSome x (λ held. area (settings_of layout).first.at 4096 held ≡ whole_side 1 (stored_form []))
made_side layout place form None e f h = tt
made_side layout place form (Some held) e f h = ap (λ (p : BankPlace). area p.first.at 4096 held) (sym e) ∙ (h ∙ ap (whole_side 1) f)

-- a setting that may be written
pub lawful_setting : (name val : List ℕ) → 0 < length name → length name ≤ 32 → is_utf8 name ≡ true → length val ≤ 128 → is_setting (setting name val) ≡ true
lawful_setting name val some few text short =
    let named : is_setting_name name ≡ true = grind (arith, nat_tests, some, few) in
    let valued : is_setting_value val ≡ true = grind (arith, nat_tests, short) in
    both_of (is_setting_name name && is_utf8 name) (is_setting_value val) (both_of (is_setting_name name) (is_utf8 name) named text) valued

-- after a replacement, of bytes that may not be told
pub either_told : (layout : Layout) (place : BankPlace) (cell : ℕ) (running : List Setting) (bytes : List ℕ) (x y : Option (List ℕ)) → place ≡ settings_of layout → cell ≡ cell_length → bytes ≡ stored_form running
    → settings_in (stored_form running) ≡ Some running → Told (SameOrThis place cell (just bytes)) x y → Told (SavedOrThis layout running) x y
either_told layout place cell running bytes x y p c b back h =
    Told-map (SameOrThis place cell (just bytes)) (SavedOrThis layout running) x y
    (λ u v s. body_leaves layout running u v back (subst (λ (bs : List ℕ). SameOrThis (settings_of layout) cell_length (just bs) u v) b
    (subst (λ (n : ℕ). SameOrThis (settings_of layout) n (just bytes) u v) c (subst (λ (q : BankPlace). SameOrThis q cell (just bytes) u v) p s)))) h

pub all_saved : (layout : Layout) (place : BankPlace) (cell : ℕ) (running : List Setting) (bytes : List ℕ) (y : Option (List ℕ)) → place ≡ settings_of layout → cell ≡ cell_length → bytes ≡ stored_form running
    → settings_in (stored_form running) ≡ Some running → IfSome y (λ held. content_of place cell held ≡ Some (just bytes)) → IfSome y (SavedStand layout running)
all_saved layout place cell running bytes None p c b back h = tt
all_saved layout place cell running bytes (Some held) p c b back h =
    body_saved layout running held back (ap (λ (q : BankPlace). content_of q cell_length held) (sym p) ∙ (ap (λ n. content_of place n held) (sym c) ∙ (h ∙ ap (λ bs. Some (just bs)) b)))

some_either : (layout : Layout) (running : List Setting) (u v : List ℕ) → SavedReadable layout u → SavedOrThis layout running u v → SavedReadable layout v
some_either layout running u v r (inl same) = ap is_some same ∙ r
some_either layout running u v r (inr this) = ap is_some this

-- what the value says after a save of some kind
pub says_after : (s t : SettingsState) (x y : Option (List ℕ)) → IfSome x (SettingsSay s) → Told (SavedOrThis s.layout s.running) x y → t.layout ≡ s.layout → t.bank.place ≡ s.bank.place
    → (t.bank.sure ≡ true → IfSome y (BankSays t.bank) × IfSome y (SavedStand t.layout t.saved)) → IfSome y (SettingsSay t)
says_after s t x None says either l p sure = tt
says_after s t None (Some v) says either l p sure = absurd either
says_after s t (Some u) (Some v) says either l p sure = record {
  readable = subst (λ (m : Layout). SavedReadable m v) (sym l) (some_either s.layout s.running u v says.readable either);
  place = p ∙ (says.place ∙ ap settings_of (sym l));
  bank = λ e. (sure e).0;
  saved = λ e. (sure e).1;
}

-- a bank that is sure after a fault of a replacement is worn, and as before
pub worn_stays : (fault : BankFault) (bank now : BankState) → now ≡ after_fault fault bank → now.sure ≡ true → (fault ≡ faults.Unformatted → ⊥) → (fault ≡ faults.Full → ⊥) → (now ≡ bank) × (fault ≡ faults.Worn)
worn_stays faults.Unformatted bank now e s f g = absurd (f refl)
worn_stays (faults.Fault operation) bank now e s f g = absurd (unsure (sym (ap (λ (b : BankState). b.sure) e) ∙ s))
  where
    unsure : false ≡ true → ⊥
    unsure k = cc
worn_stays faults.Off bank now e s f g = absurd (unsure (sym (ap (λ (b : BankState). b.sure) e) ∙ s))
  where
    unsure : false ≡ true → ⊥
    unsure k = cc
worn_stays faults.Full bank now e s f g = absurd (g refl)
worn_stays faults.Worn bank now e s f g = (e, refl)
