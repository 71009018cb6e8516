-- What the steps of a save leave of the bank and of the value.
use Rattle.std.proofs.Common.{◌≡◌, ◌≢◌, ◌⊎◌, inl, inr, ◌+◌, ◌-◌, ◌^◌, ℕ, List, true, false, Option, Some, None, refl, sym, ap, subst, ◌∙◌, arith}
use Rattle.std.specs.Prelude.{◌↔◌, IfSome, Result, Ok, Err, OnOk, OnErr, IsErrOf}
use Rattle.smp_flash.specs.Area.{Told}
use Rattle.smp_flash.specs.Calls.{ChangesAtMost, NoGreater, Smaller}
use Rattle.smp_flash.specs.Layout.{geometry_of, settings_of, CountsInBank, CountsInRegions}
use Rattle.smp_flash.specs.State.{Changes, FlashState}
use Rattle.smp_flash.specs.declared.geometry.Geometry.{Geometry}
use Rattle.smp_flash.specs.declared.layout.BankPlace.{BankPlace}
use Rattle.smp_flash.specs.declared.layout.Layout.{Layout}
use Rattle.smp_flash.specs.declared.region.Region.{Region}
use Rattle.smp_flash.proofs.Passing.{then_Smaller, changes_none, changes_more, changes_add}
use Rattle.smp_flash.proofs.Telling.{Told-with, Told-map, Told-after, Told-same, Told-from, IfSome-map, IfSome-same}
use Rattle.smp_gate.specs.Bank.{BankState, BankSays}
use Rattle.smp_gate.specs.Fault.{after_fault}
use Rattle.smp_gate.specs.declared.fault.BankFault.{BankFault}
use Rattle.smp_gate.specs.declared.fault.BankFault.TheVariants as faults
use Rattle.smp_gate.specs.Newest.{just, content_of, newest_side, newest_generation, AgesAtMost, SameNewest, SameOrAdded, Added, IsFull}
use Rattle.smp_model.specs.declared.setting.Setting.{Setting}
use Rattle.smp_model.specs.Settings.{stored_form, is_within_limits}
use Rattle.smp_settings.specs.Cells.{CellChange, cell_length}
use Rattle.smp_settings.specs.Places.{IsOneChange, CellSaves}
use Rattle.smp_settings.specs.Saved.{SavedStand, SavedReadable, SavedOrThis, SavedAlready, OneCellSaves, KeepsSide, OneCellIsEnough, SavesCheaply, SavedAnew, ElseAnew, IsWorn, AimsAtSettings, SettingsState, SettingsSay}
use Rattle.smp_settings.proofs.Saving.{cell_saved, cell_leaves, says_after}

some_settings : (xs ys : List Setting) → Some xs ≡ Some ys → xs ≡ ys
some_settings xs ys e = cc

-- bytes stand for one map
pub one_saved : (layout : Layout) (one other : List Setting) (bytes : List ℕ) → SavedStand layout one bytes → SavedStand layout other bytes → one ≡ other
one_saved layout one other bytes e f = some_settings one other (sym e ∙ f)

-- where an aim at the settings counts
pub aimed : (layout : Layout) (g : Geometry) (aim : Option Region) (place : BankPlace) → CountsInRegions layout → geometry_of layout ≡ g → place ≡ settings_of layout
    → AimsAtSettings aim → CountsInBank g aim place
aimed layout g aim place counts sizes at aims =
    subst (λ (h : Geometry). CountsInBank h aim place) sizes
    (subst (λ (q : BankPlace). CountsInBank (geometry_of layout) aim q) (sym at)
    (elim aims [
      | inl e ↦ subst (λ (m : Option Region). CountsInBank (geometry_of layout) m (settings_of layout)) (sym e) counts.settings
      | inr e ↦ subst (λ (m : Option Region). CountsInBank (geometry_of layout) m (settings_of layout)) (sym e) counts.settings_gate
    ]))

-- what the value says of a sure bank
pub bank_said : (s : SettingsState) (x : Option (List ℕ)) → s.bank.sure ≡ true → IfSome x (SettingsSay s) → IfSome x (BankSays s.bank)
bank_said s x sure says = IfSome-map (SettingsSay s) (BankSays s.bank) x (λ u h. h.bank sure) says

pub saved_said : (s : SettingsState) (x : Option (List ℕ)) → s.bank.sure ≡ true → IfSome x (SettingsSay s) → IfSome x (SavedStand s.layout s.saved)
saved_said s x sure says = IfSome-map (SettingsSay s) (SavedStand s.layout s.saved) x (λ u h. h.saved sure) says

abbrev pub GenerationLaw : Type 0
GenerationLaw = (bank : BankState) (bytes : List ℕ) → BankSays bank bytes → newest_generation bank.place bytes ≡ bank.generation

generation_said : (s : SettingsState) (u : List ℕ) → GenerationLaw → s.bank.sure ≡ true → SettingsSay s u → newest_generation (settings_of s.layout) u ≡ s.bank.generation
generation_said s u law sure says = ap (λ (p : BankPlace). newest_generation p u) (sym says.place) ∙ law s.bank u (says.bank sure)

-- after a side was replaced
pub anew_told : (s : SettingsState) (bank : BankState) (body : List ℕ) (x y : Option (List ℕ)) → GenerationLaw → bank ≡ s.bank → bank.place ≡ settings_of s.layout → bank.cell ≡ cell_length
    → body ≡ stored_form s.running → s.bank.sure ≡ true → IfSome x (SettingsSay s) → Told (AgesAtMost 1 bank.place) x y
    → IfSome y (λ held. content_of bank.place bank.cell held ≡ Some (just body)) → IfSome y (λ held. newest_side bank.place held ≡ Some (record { generation = bank.generation + 1; body = body }))
    → Told (SavedAnew s.layout s.running) x y
anew_told s bank body None None law e at long is sure says ages content side = tt
anew_told s bank body None (Some v) law e at long is sure says ages content side = absurd ages
anew_told s bank body (Some u) None law e at long is sure says ages content side = absurd ages
anew_told s bank body (Some u) (Some v) law e at long is sure says ages content side =
    let age : bank.generation ≡ newest_generation (settings_of s.layout) u = ap (λ (b : BankState). b.generation) e ∙ sym (generation_said s u law sure says) in
    record {
      content = ap (λ (p : BankPlace). content_of p cell_length v) (sym at) ∙ (ap (λ (n : ℕ). content_of bank.place n v) (sym long) ∙ (content ∙ ap (λ (bs : List ℕ). Some (just bs)) is));
      side = ap (λ (p : BankPlace). newest_side p v) (sym at) ∙ (side ∙ (λ i. Some (record { generation = age i + 1; body = is i })));
    }

fault_place : (fault : BankFault) (bank : BankState) → (after_fault fault bank).place ≡ bank.place
fault_place faults.Unformatted bank = refl
fault_place (faults.Fault operation) bank = refl
fault_place faults.Off bank = refl
fault_place faults.Full bank = refl
fault_place faults.Worn bank = refl

-- a bank that is sure after a fault is as before
still_sure : (fault : BankFault) (bank now : BankState) → now ≡ after_fault fault bank → now.sure ≡ true → (fault ≡ faults.Unformatted → ⊥) → (now ≡ bank) × ((fault ≡ faults.Worn) ⊎ (fault ≡ faults.Full))
still_sure faults.Unformatted bank now e s f = absurd (f refl)
still_sure (faults.Fault operation) bank now e s f = absurd (unsure (sym (ap (λ (b : BankState). b.sure) e) ∙ s))
  where
    unsure : false ≡ true → ⊥
    unsure k = cc
still_sure faults.Off bank now e s f = absurd (unsure (sym (ap (λ (b : BankState). b.sure) e) ∙ s))
  where
    unsure : false ≡ true → ⊥
    unsure k = cc
still_sure faults.Full bank now e s f = (e, inr refl)
still_sure faults.Worn bank now e s f = (e, inl refl)

-- after a step that was refused
pub says_refused : (s t : SettingsState) (fault : BankFault) (x y : Option (List ℕ)) → IfSome x (SettingsSay s) → Told (SavedOrThis s.layout s.running) x y → t.layout ≡ s.layout → t.saved ≡ s.saved
    → t.bank ≡ after_fault fault s.bank → (fault ≡ faults.Unformatted → ⊥) → ((fault ≡ faults.Worn) ⊎ (fault ≡ faults.Full) → y ≡ x) → IfSome y (SettingsSay t)
says_refused s t fault x y says either l m e f h =
    says_after s t x y says either l (ap (λ (b : BankState). b.place) e ∙ fault_place fault s.bank)
    (λ sure.
    let w = still_sure fault s.bank t.bank e sure f in
    let kept : y ≡ x = h w.1 in
    let sure' : s.bank.sure ≡ true = ap (λ (b : BankState). b.sure) (sym w.0) ∙ sure in (
      subst (λ (b : BankState). IfSome y (BankSays b)) (sym w.0) (IfSome-same (BankSays s.bank) x y kept (bank_said s x sure' says)),
      subst (λ (n : Layout). IfSome y (SavedStand n t.saved)) (sym l) (subst (λ (xs : List Setting). IfSome y (SavedStand s.layout xs)) (sym m) (IfSome-same (SavedStand s.layout s.saved) x y kept (saved_said s x sure' says))),
    ))

pub ok_not : {T : Type 0} (x : T) (fault : BankFault) → IsErrOf {T = T} {E = BankFault} (Ok x) fault → ⊥
ok_not x fault e = cc

pub ok_weaker : {T : Type 0} (r : Result T BankFault) (A B : Type 0) → (A → B) → OnOk r A → OnOk r B
ok_weaker (Ok x) A B f a = f a
ok_weaker (Err fault) A B f a = tt

pub ok_fresh : {T : Type 0} (r : Result T BankFault) (G B : Type 0) → IsErrOf r faults.Worn ↔ G → ((G → ⊥) → B) → OnOk r B
ok_fresh (Ok x) G B h f = f (λ g. ok_not x faults.Worn (h.1 g))
ok_fresh (Err fault) G B h f = tt

-- after a cell
pub cell_either_told : (s : SettingsState) (cell : List ℕ) (place : BankPlace) (size : ℕ) (x y : Option (List ℕ)) → place ≡ settings_of s.layout → size ≡ cell_length → s.bank.sure ≡ true
    → is_within_limits s.running ≡ true → CellSaves s.saved s.running cell → IfSome x (SettingsSay s) → Told (SameOrAdded place size cell) x y → Told (SavedOrThis s.layout s.running) x y
cell_either_told s cell place size x y at long sure within saves says told =
    Told-with (SettingsSay s) (SameOrAdded (settings_of s.layout) cell_length cell) (SavedOrThis s.layout s.running) x y
    (λ u v h either. cell_leaves s.layout saves.change s.saved s.running u v saves.lawful saves.one.leads within (h.saved sure)
    (subst (λ (bs : List ℕ). SameOrAdded (settings_of s.layout) cell_length bs u v) saves.bytes either)) says
    (subst (λ (q : BankPlace). Told (SameOrAdded q cell_length cell) x y) at (subst (λ (n : ℕ). Told (SameOrAdded place n cell) x y) long told))

pub cell_saved_told : (s : SettingsState) (cell : List ℕ) (place : BankPlace) (size : ℕ) (x y : Option (List ℕ)) → place ≡ settings_of s.layout → size ≡ cell_length → s.bank.sure ≡ true
    → is_within_limits s.running ≡ true → CellSaves s.saved s.running cell → IfSome x (SettingsSay s) → Told (Added place size cell) x y → IfSome y (SavedStand s.layout s.running)
cell_saved_told s cell place size x y at long sure within saves says told =
    Told-after (SettingsSay s) (Added (settings_of s.layout) cell_length cell) (SavedStand s.layout s.running) x y
    (λ u v h added. cell_saved s.layout saves.change s.saved s.running u v saves.lawful saves.one.leads within (h.saved sure)
    (subst (λ (bs : List ℕ). Added (settings_of s.layout) cell_length bs u v) saves.bytes added)) says
    (subst (λ (q : BankPlace). Told (Added q cell_length cell) x y) at (subst (λ (n : ℕ). Told (Added place n cell) x y) long told))

-- whether a cell was free
pub free_told : (layout : Layout) (place : BankPlace) (size : ℕ) (P : Type 0) (x : Option (List ℕ)) → place ≡ settings_of layout → size ≡ cell_length → (P → ⊥)
    → IfSome x (λ held. P ↔ IsFull place size held) → IfSome x (λ held. IsFull (settings_of layout) cell_length held → ⊥)
free_told layout place size P None at long none h = tt
free_told layout place size P (Some u) at long none h = λ full.
    none (h.1 (subst (λ (q : BankPlace). IsFull q size u) (sym at) (subst (λ (n : ℕ). IsFull (settings_of layout) n u) (sym long) full)))

pub full_told : (layout : Layout) (place : BankPlace) (size : ℕ) (P : Type 0) (x : Option (List ℕ)) → place ≡ settings_of layout → size ≡ cell_length → P
    → IfSome x (λ held. P ↔ IsFull place size held) → IfSome x (IsFull (settings_of layout) cell_length)
full_told layout place size P None at long some h = tt
full_told layout place size P (Some u) at long some h =
    subst (λ (n : ℕ). IsFull (settings_of layout) n u) long (subst (λ (q : BankPlace). IsFull q size u) at (h.0 some))

-- where one cell is not enough
same_change : (s : SettingsState) (u : List ℕ) → s.bank.sure ≡ true → SettingsSay s u → (one : OneCellSaves s.layout s.running u) → IsOneChange one.change s.saved s.running
same_change s u sure says one =
    subst (λ (xs : List Setting). IsOneChange one.change xs s.running) (one_saved s.layout one.saved s.saved u one.stands (says.saved sure)) one.one

pub no_cell_told : (s : SettingsState) (R : List ℕ → List ℕ → Type 0) (before now : Option Changes) (x y : Option (List ℕ)) → s.bank.sure ≡ true → IfSome x (SettingsSay s)
    → ((change : CellChange) → IsOneChange change s.saved s.running → ⊥) → Told R x y → Told (OneCellIsEnough s.layout s.running before now) x y
no_cell_told s R before now x y sure says none told =
    Told-with (SettingsSay s) R (OneCellIsEnough s.layout s.running before now) x y (λ u v h r one. absurd (none one.change (same_change s u sure h one))) says told

pub full_cell_told : (s : SettingsState) (R : List ℕ → List ℕ → Type 0) (before now : Option Changes) (x y : Option (List ℕ)) → IfSome x (IsFull (settings_of s.layout) cell_length)
    → Told R x y → Told (OneCellIsEnough s.layout s.running before now) x y
full_cell_told s R before now x y full told =
    Told-with (IsFull (settings_of s.layout) cell_length) R (OneCellIsEnough s.layout s.running before now) x y (λ u v h r one. absurd (one.free h)) full told

-- what a save that keeps its side is spared
pub no_cell_spared : (s : SettingsState) (A : Type 0) (x : Option (List ℕ)) → s.bank.sure ≡ true → IfSome x (SettingsSay s) → ((change : CellChange) → IsOneChange change s.saved s.running → ⊥)
    → IfSome x (λ held. OneCellSaves s.layout s.running held → A)
no_cell_spared s A x sure says none =
    IfSome-map (SettingsSay s) (λ held. OneCellSaves s.layout s.running held → A) x (λ u h one. absurd (none one.change (same_change s u sure h one))) says

pub all_spared : (R : List ℕ → Type 0) (A : Type 0) (x : Option (List ℕ)) → A → IfSome x (λ held. R held → A)
all_spared R A None a = tt
all_spared R A (Some u) a = λ r. a

pub side_spared : (s : SettingsState) (A : Type 0) (x : Option (List ℕ)) → s.bank.sure ≡ true → s.running ≢ s.saved → IfSome x (SettingsSay s) → IfSome x (λ held. OneCellSaves s.layout s.running held → A)
    → IfSome x (λ held. KeepsSide s.layout s.running held → A)
side_spared s A None sure differ says f = tt
side_spared s A (Some u) sure differ says f = λ keeps.
    elim keeps [
      | inl already ↦ absurd (differ (one_saved s.layout s.running s.saved u already (says.saved sure)))
      | inr one ↦ f one
    ]

-- and where it is
pub cell_told : (layout : Layout) (running : List Setting) (before now : Option Changes) (x y : Option (List ℕ)) → Told (SameNewest (settings_of layout)) x y → ChangesAtMost 2 0 before now
    → Told (OneCellIsEnough layout running before now) x y
cell_told layout running before now x y newest changes =
    Told-map (SameNewest (settings_of layout)) (OneCellIsEnough layout running before now) x y (λ u v h one. (h, changes)) newest

pub else_told : (layout : Layout) (running : List Setting) (x y : Option (List ℕ)) → Told (SavedAnew layout running) x y → Told (ElseAnew layout running) x y
else_told layout running x y told = Told-map (SavedAnew layout running) (ElseAnew layout running) x y (λ u v anew a b. anew) told

pub not_else_told : (s : SettingsState) (cell : List ℕ) (R : List ℕ → List ℕ → Type 0) (x y : Option (List ℕ)) → s.bank.sure ≡ true → IfSome x (SettingsSay s) → CellSaves s.saved s.running cell
    → IfSome x (λ held. IsFull (settings_of s.layout) cell_length held → ⊥) → Told R x y → Told (ElseAnew s.layout s.running) x y
not_else_told s cell R None None sure says saves free told = tt
not_else_told s cell R None (Some v) sure says saves free told = absurd told
not_else_told s cell R (Some u) None sure says saves free told = absurd told
not_else_told s cell R (Some u) (Some v) sure says saves free told = λ a b.
    absurd (b (record { saved = s.saved; stands = says.saved sure; change = saves.change; one = saves.one; free = free }))

-- where nothing differs, or where nothing is done
pub cheap_same : (layout : Layout) (running : List Setting) (before now : Option Changes) (x y : Option (List ℕ)) → y ≡ x → now ≡ before → Told (SavesCheaply layout running before now) x y
cheap_same layout running before now x y e f =
    Told-same (SavesCheaply layout running before now) x y
    (λ u. record { nothing = λ a. (refl, none); cell = λ one. (refl, changes_more 0 2 0 0 before now (omega arith) (omega arith) none) }) e
  where
    none : ChangesAtMost 0 0 before now
    none = subst (λ (c : Option Changes). ChangesAtMost 0 0 before c) (sym f) (changes_none before)

pub cheap_told : (s : SettingsState) (before now : Option Changes) (x y : Option (List ℕ)) → s.bank.sure ≡ true → s.running ≢ s.saved → IfSome x (SettingsSay s)
    → Told (OneCellIsEnough s.layout s.running before now) x y → Told (SavesCheaply s.layout s.running before now) x y
cheap_told s before now x y sure differ says told =
    Told-with (SettingsSay s) (OneCellIsEnough s.layout s.running before now) (SavesCheaply s.layout s.running before now) x y
    (λ u v h cell. record { nothing = λ already. absurd (differ (one_saved s.layout s.running s.saved u already (h.saved sure))); cell = cell }) says told

pub ages_same : (layout : Layout) (n : ℕ) (x y : Option (List ℕ)) → y ≡ x → Told (AgesAtMost n (settings_of layout)) x y
ages_same layout n x y e = Told-same (AgesAtMost n (settings_of layout)) x y (λ u. record { kept = omega arith; most = omega arith }) e

pub either_same : (layout : Layout) (running : List Setting) (x y : Option (List ℕ)) → y ≡ x → Told (SavedOrThis layout running) x y
either_same layout running x y e = Told-same (SavedOrThis layout running) x y (λ u. inl refl) e

pub already_said : (s : SettingsState) (x : Option (List ℕ)) → s.bank.sure ≡ true → s.running ≡ s.saved → IfSome x (SettingsSay s) → IfSome x (SavedAlready s.layout s.running)
already_said s x sure same says = subst (λ (xs : List Setting). IfSome x (SavedAlready s.layout xs)) (sym same) (saved_said s x sure says)

pub same_not_else : (s : SettingsState) (x y : Option (List ℕ)) → s.bank.sure ≡ true → s.running ≡ s.saved → IfSome x (SettingsSay s) → y ≡ x → Told (ElseAnew s.layout s.running) x y
same_not_else s x y sure same says e =
    Told-with (SavedAlready s.layout s.running) (SavedOrThis s.layout s.running) (ElseAnew s.layout s.running) x y (λ u v h r a b. absurd (a h)) (already_said s x sure same says) (either_same s.layout s.running x y e)

pub same_pays : (s : SettingsState) (A : Type 0) (x : Option (List ℕ)) → s.bank.sure ≡ true → s.running ≡ s.saved → IfSome x (SettingsSay s)
    → IfSome x (λ held. (SavedAlready s.layout s.running held → ⊥) → A)
same_pays s A x sure same says = IfSome-map (SavedAlready s.layout s.running) (λ held. (SavedAlready s.layout s.running held → ⊥) → A) x (λ u h none. absurd (none h)) (already_said s x sure same says)

pub pays_told : (layout : Layout) (running : List Setting) (A : Type 0) (x : Option (List ℕ)) → A → IfSome x (λ held. (SavedAlready layout running held → ⊥) → A)
pays_told layout running A None a = tt
pays_told layout running A (Some u) a = λ none. a

-- a worn bank, by the value and by the bytes
pub worn_told : (s : SettingsState) (x : Option (List ℕ)) → GenerationLaw → s.bank.sure ≡ true → s.bank.generation ≡ 2 ^ 32 - 1 → IfSome x (SettingsSay s) → IfSome x (IsWorn s.layout)
worn_told s x law sure last says = IfSome-map (SettingsSay s) (IsWorn s.layout) x (λ u h. generation_said s u law sure h ∙ last) says

pub fresh_told : (s : SettingsState) (x : Option (List ℕ)) → GenerationLaw → s.bank.sure ≡ true → s.bank.generation ≢ 2 ^ 32 - 1 → IfSome x (SettingsSay s) → IfSome x (λ held. IsWorn s.layout held → ⊥)
fresh_told s x law sure less says = IfSome-map (SettingsSay s) (λ held. IsWorn s.layout held → ⊥) x (λ u h worn. less (sym (generation_said s u law sure h) ∙ worn)) says

-- a map that is there can't be missed
pub not_unformatted : (s : SettingsState) (x y : Option (List ℕ)) → y ≡ x → IfSome x (SettingsSay s) → IfSome y (λ held. SavedReadable s.layout held → ⊥) → x ≡ None
not_unformatted s None y e says none = refl
not_unformatted s (Some u) None e says none = cc
not_unformatted s (Some u) (Some v) e says none = absurd (none (subst (SavedReadable s.layout) (same u v e) says.readable))
  where
    same : (a b : List ℕ) → Some b ≡ Some a → a ≡ b
    same a b k = cc

pub ages_more : (layout : Layout) (x y : Option (List ℕ)) → Told (AgesAtMost 0 (settings_of layout)) x y → Told (AgesAtMost 1 (settings_of layout)) x y
ages_more layout x y told =
    Told-map (AgesAtMost 0 (settings_of layout)) (AgesAtMost 1 (settings_of layout)) x y (λ u v a. let most = a.most in record { kept = a.kept; most = omega (arith, most) }) told

-- behind an opening, by which no byte changed
pub cheap_after : (layout other : Layout) (running others : List Setting) (before middle now : Option Changes) (x z y : Option (List ℕ)) → other ≡ layout → others ≡ running → z ≡ x
    → ChangesAtMost 0 0 before middle → Told (SavesCheaply other others middle now) z y → Told (SavesCheaply layout running before now) x y
cheap_after layout other running others before middle now x z y l r e none told =
    Told-from (SavesCheaply layout running before now) x z y e
    (Told-map (SavesCheaply layout running middle now) (SavesCheaply layout running before now) z y
    (λ u v c. record {
      nothing = λ already. ((c.nothing already).0, changes_add 0 0 0 0 before middle now none (c.nothing already).1);
      cell = λ one. ((c.cell one).0, changes_add 0 2 0 0 before middle now none (c.cell one).1);
    })
    (subst (λ (xs : List Setting). Told (SavesCheaply layout xs middle now) z y) r (subst (λ (m : Layout). Told (SavesCheaply m others middle now) z y) l told)))

pub last_told : (s : SettingsState) (layout : Layout) (x z : Option (List ℕ)) (A : Type 0) → GenerationLaw → s.layout ≡ layout → z ≡ x → s.bank.sure ≡ true → IfSome z (SettingsSay s)
    → (s.bank.generation ≡ 2 ^ 32 - 1 → A) → IfSome x (λ held. IsWorn layout held → A)
last_told s layout x z A law l e sure says f =
    IfSome-same (λ held. IsWorn layout held → A) z x (sym e)
    (IfSome-map (SettingsSay s) (λ held. IsWorn layout held → A) z
    (λ u h worn. f (sym (generation_said s u law sure h) ∙ (ap (λ (m : Layout). newest_generation (settings_of m) u) l ∙ worn))) says)

pub worn_before : (s : SettingsState) (layout : Layout) (x z : Option (List ℕ)) → GenerationLaw → s.layout ≡ layout → z ≡ x → s.bank.sure ≡ true → IfSome z (SettingsSay s)
    → s.bank.generation ≡ 2 ^ 32 - 1 → IfSome x (IsWorn layout)
worn_before s layout x z law l e sure says last =
    IfSome-same (IsWorn layout) z x (sym e) (subst (λ (m : Layout). IfSome z (IsWorn m)) l (worn_told s z law sure last says))

pub pays_before : (layout other : Layout) (running others : List Setting) (a m b : FlashState) (x z : Option (List ℕ)) → other ≡ layout → others ≡ running → z ≡ x → m.aim ≡ a.aim → NoGreater a.patience m.patience
    → IfSome z (λ held. (SavedAlready other others held → ⊥) → AimsAtSettings m.aim → Smaller m.patience b.patience)
    → IfSome x (λ held. (SavedAlready layout running held → ⊥) → AimsAtSettings a.aim → Smaller a.patience b.patience)
pays_before layout other running others a m b x z l r e aim less pays =
    IfSome-same (λ held. (SavedAlready layout running held → ⊥) → AimsAtSettings a.aim → Smaller a.patience b.patience) z x (sym e)
    (IfSome-map (λ held. (SavedAlready other others held → ⊥) → AimsAtSettings m.aim → Smaller m.patience b.patience)
    (λ held. (SavedAlready layout running held → ⊥) → AimsAtSettings a.aim → Smaller a.patience b.patience) z
    (λ u p none aims. then_Smaller a.patience m.patience b.patience less
    (p (λ already. none (subst (λ (xs : List Setting). SavedAlready layout xs u) r (subst (λ (n : Layout). SavedAlready n others u) l already)))
    (subst AimsAtSettings (sym aim) aims))) pays)

-- a cell needs no erase
pub fewer_erases : (f : List ℕ → ℕ) (before now : Option Changes) (x : Option (List ℕ)) → ChangesAtMost 2 0 before now → IfSome x (λ held. ChangesAtMost 2 (f held) before now)
fewer_erases f before now None c = tt
fewer_erases f before now (Some u) c = changes_more 2 2 0 (f u) before now (omega arith) (omega arith) c

-- what is found before a refusal stays
pub err_weaker : {T : Type 0} (r : Result T BankFault) (A B : Type 0) → (A → B) → OnErr r A → OnErr r B
err_weaker (Ok x) A B f a = tt
err_weaker (Err fault) A B f a = f a

pub refused_after : (layout : Layout) (s : SettingsState) (now : List Setting) (A : Type 0) (x z : Option (List ℕ)) → s.layout ≡ layout → z ≡ x → s.bank.sure ≡ true → IfSome z (SettingsSay s)
    → now ≡ s.saved → A ⊎ IfSome x (SavedStand layout now)
refused_after layout s now A x z l e sure says same =
    inr (subst (λ (xs : List Setting). IfSome x (SavedStand layout xs)) (sym same)
    (IfSome-same (SavedStand layout s.saved) z x (sym e) (subst (λ (m : Layout). IfSome z (SavedStand m s.saved)) l (saved_said s z sure says))))
