-- What the heads of two sides say of a bank.
use Rattle.std.proofs.Common.{◌≡◌, ℕ, ◌+◌, ◌<◌, ◌≤◌, Bool, true, false, Option, Some, None, List, take, drop, refl, sym, ◌∙◌, ap, subst, arith}
use Rattle.std.specs.Prelude.{IfSome, if◌then◌else◌, nat_lt}
use Rattle.std.proofs.lemmas.Bool.Decides.{nat_tests}
use Rattle.std.proofs.lemmas.List.{take-take}
use Rattle.smp_flash.specs.Area.{area, spot}
use Rattle.smp_flash.specs.Region.{Spares}
use Rattle.smp_flash.proofs.Areas.{area-area}
use Rattle.smp_flash.proofs.Passing.{Covers, Calls-wider}
use Rattle.smp_flash.specs.State.{FlashState, End}
use Rattle.smp_flash.specs.Calls.{Calls}
use Rattle.smp_gate.proofs.Sides.{low_generation}
use Rattle.smp_flash.specs.declared.layout.BankPlace.{BankPlace}
use Rattle.smp_gate.specs.Head.{head_by, head_in, chosen}
use Rattle.smp_gate.specs.Side.{ValidSide, generation_in, length_in, is_valid, side_by, valid_side, AtMost}
use Rattle.smp_gate.specs.Newest.{newer, content_of, content_in, sides}
use Rattle.smp_gate.specs.Cells.{Used}
use Rattle.smp_gate.specs.Bank.{BankState, BankSays, Stands, bar, current, other}
use Rattle.smp_gate.specs.declared.head.Head.{Head}
use Rattle.smp_gate.specs.declared.head.Choice.{Choice}

-- what a side holds, by its head
abbrev found_of : Option Head → List ℕ → Option ValidSide
found_of None side = None
found_of (Some h) side = Some (record { generation = h.generation; body = take h.size (drop 16 side) })

found_head : (is : Bool) (head side : List ℕ) → side_by is head side ≡ found_of (head_by is head) side
found_head true head side = refl
found_head false head side = refl

side_found : (at : ℕ) (held : List ℕ) → valid_side (area at 4096 held) ≡ found_of (head_in (area at 16 held)) (area at 4096 held)
side_found at held =
    found_head (is_valid (take 16 (area at 4096 held))) (take 16 (area at 4096 held)) (area at 4096 held)
    ∙ ap (λ (xs : List ℕ). found_of (head_in xs) (area at 4096 held)) (take-take 16 4096 (drop at held) (omega arith))

abbrev HeadAtMost : ℕ → Option Head → Type 0
HeadAtMost n None = Unit {0}
HeadAtMost n (Some h) = h.generation ≤ n

atmost_of : (n : ℕ) (o : Option Head) (side : List ℕ) → HeadAtMost n o → AtMost n (found_of o side)
atmost_of n None side most = tt
atmost_of n (Some h) side most = most

positive_by : (is : Bool) (xs : List ℕ) (h : Head) → (is ≡ true → 1 ≤ generation_in xs) → head_by is xs ≡ Some h → 1 ≤ h.generation
positive_by false xs h low e = absurd (cc e)
positive_by true xs h low e = let same : generation_in xs ≡ h.generation = cc e in omega (arith, low refl)

positive : (xs : List ℕ) (h : Head) → head_in xs ≡ Some h → 1 ≤ h.generation
positive xs h e = positive_by (is_valid xs) xs h (λ is. low_generation xs is) e

stands_of : (place : BankPlace) (second : Bool) (held : List ℕ) (h : Head) (o : Option Head) → head_in (area (current place second) 16 held) ≡ Some h
    → head_in (area (other place second) 16 held) ≡ o → HeadAtMost (bar second h.generation) o
    → Stands place second h.generation (take h.size (drop 16 (area (current place second) 4096 held))) held
stands_of place second held h o here there most = record {
  found = side_found (current place second) held ∙ ap (λ (x : Option Head). found_of x (area (current place second) 4096 held)) here;
  behind = subst (AtMost (bar second h.generation)) (sym (side_found (other place second) held ∙ ap (λ (x : Option Head). found_of x (area (other place second) 4096 held)) there))
      (atmost_of (bar second h.generation) o (area (other place second) 4096 held) most);
  positive = positive (area (current place second) 16 held) h here;
}

abbrev Opened : BankPlace → List ℕ → Choice → Type 0
Opened place held c = Stands place c.second c.head.generation (take c.head.size (drop 16 (area (current place c.second) 4096 held))) held

opened_both : (place : BankPlace) (held : List ℕ) (x y : Head) (c : Choice) → head_in (area place.first.at 16 held) ≡ Some x → head_in (area place.second.at 16 held) ≡ Some y
    → (is : Bool) → nat_lt x.generation y.generation ≡ is → (if is then Some (record { second = true; head = y }) else Some (record { second = false; head = x })) ≡ Some c → Opened place held c
opened_both place held x y c e f true is g =
    let same : c ≡ record { second = true; head = y } = cc g in
    subst (Opened place held) (sym same) (stands_of place true held y (Some x) f e (let lt : x.generation < y.generation = grind (arith, nat_tests) in omega arith))
opened_both place held x y c e f false is g =
    let same : c ≡ record { second = false; head = x } = cc g in
    subst (Opened place held) (sym same) (stands_of place false held x (Some y) e f (let le : y.generation ≤ x.generation = grind (arith, nat_tests) in le))

opened : (place : BankPlace) (held : List ℕ) (x y : Option Head) (c : Choice) → head_in (area place.first.at 16 held) ≡ x → head_in (area place.second.at 16 held) ≡ y
    → chosen x y ≡ Some c → Opened place held c
opened place held None None c e f g = absurd (cc g)
opened place held (Some x) None c e f g =
    let same : c ≡ record { second = false; head = x } = cc g in subst (Opened place held) (sym same) (stands_of place false held x None e f tt)
opened place held None (Some y) c e f g =
    let same : c ≡ record { second = true; head = y } = cc g in subst (Opened place held) (sym same) (stands_of place true held y None f e tt)
opened place held (Some x) (Some y) c e f g = opened_both place held x y c e f (nat_lt x.generation y.generation) refl g

-- as the code finds it: the choice, and the body that was read
pub told_opened : (place : BankPlace) (o : Option Choice) (c : Choice) (at : ℕ) (body : List ℕ) (x : Option (List ℕ)) → o ≡ Some c → at ≡ current place c.second → c.head.size ≤ 4080
    → IfSome x (λ held. o ≡ chosen (head_in (area place.first.at 16 held)) (head_in (area place.second.at 16 held)))
    → IfSome x (λ held. body ≡ area (at + 16) c.head.size held) → IfSome x (Stands place c.second c.head.generation body)
told_opened place o c at body None is here fits heads read = tt
told_opened place o c at body (Some held) is here fits heads read =
    let all : Opened place held c = opened place held (head_in (area place.first.at 16 held)) (head_in (area place.second.at 16 held)) c refl refl (sym heads ∙ is) in
    let same : body ≡ take c.head.size (drop 16 (area (current place c.second) 4096 held)) =
    read ∙ ap (λ (p : ℕ). area (p + 16) c.head.size held) here ∙ sym (area-area 16 c.head.size (current place c.second) 4096 held (omega arith)) in
    subst (λ (b : List ℕ). Stands place c.second c.head.generation b held) (sym same) all

none_both : (x y : Option Head) → chosen x y ≡ None → (x ≡ None) × (y ≡ None)
none_both None None e = (refl, refl)
none_both (Some x) None e = absurd (cc e)
none_both None (Some y) e = absurd (cc e)
none_both (Some x) (Some y) e = absurd (either_some (nat_lt x.generation y.generation) (record { second = true; head = y }) (record { second = false; head = x }) e)
  where
    either_some : (b : Bool) (c d : Choice) → (if b then Some c else Some d) ≡ None → ⊥
    either_some true c d e = cc e
    either_some false c d e = cc e

-- no side counts
pub told_none : (place : BankPlace) (cell : ℕ) (o : Option Choice) (x : Option (List ℕ)) → o ≡ None
    → IfSome x (λ held. o ≡ chosen (head_in (area place.first.at 16 held)) (head_in (area place.second.at 16 held))) → IfSome x (λ held. content_of place cell held ≡ None)
told_none place cell o None is heads = tt
told_none place cell o (Some held) is heads =
    let both = none_both (head_in (area place.first.at 16 held)) (head_in (area place.second.at 16 held)) (sym heads ∙ is) in
    let first : valid_side (area place.first.at 4096 held) ≡ None = side_found place.first.at held ∙ ap (λ (o : Option Head). found_of o (area place.first.at 4096 held)) both.0 in
    let second : valid_side (area place.second.at 4096 held) ≡ None = side_found place.second.at held ∙ ap (λ (o : Option Head). found_of o (area place.second.at 4096 held)) both.1 in
    (λ i. content_in cell (newer (first i) (second i) (area place.first.at 4096 held) (area place.second.at 4096 held)))

-- the side that counts is within both
pub Covers-current : (place : BankPlace) (second : Bool) → Covers (sides place) (spot (current place second) 4096)
Covers-current place false = record { clear = λ p n c. (c.0, tt); spares = λ g aim. elim aim as (λ m. Spares g m (sides place) → Spares g m (spot place.first.at 4096)) [ None ↦ λ s. tt | Some r ↦ λ s. (s.0, tt) ] }
Covers-current place true = record { clear = λ p n c. (c.1.0, tt); spares = λ g aim. elim aim as (λ m. Spares g m (sides place) → Spares g m (spot place.second.at 4096)) [ None ↦ λ s. tt | Some r ↦ λ s. (s.1.0, tt) ] }

pub current_Calls : (place : BankPlace) (second : Bool) (at : ℕ) (end : End) (a b : FlashState) → at ≡ current place second → Calls (spot at 4096) end a b → Calls (sides place) end a b
current_Calls place second at end a b is f =
    Calls-wider (sides place) (spot (current place second) 4096) end a b (Covers-current place second) (subst (λ (p : ℕ). Calls (spot p 4096) end a b) is f)

pub first_Calls : (place : BankPlace) (end : End) (a b : FlashState) → Calls (spot place.first.at 4096) end a b → Calls (sides place) end a b
first_Calls place end a b f = current_Calls place false place.first.at end a b refl f

pub second_Calls : (place : BankPlace) (end : End) (a b : FlashState) → Calls (spot place.second.at 4096) end a b → Calls (sides place) end a b
second_Calls place end a b f = current_Calls place true place.second.at end a b refl f

-- the head of the side that is chosen
head_here : (place : BankPlace) (held : List ℕ) (x y : Option Head) (c : Choice) → head_in (area place.first.at 16 held) ≡ x → head_in (area place.second.at 16 held) ≡ y
    → chosen x y ≡ Some c → head_in (area (current place c.second) 16 held) ≡ Some c.head
head_here place held None None c e f g = absurd (cc g)
head_here place held (Some x) None c e f g =
    let same : record { second = false; head = x } ≡ c = cc g in subst (λ (d : Choice). head_in (area (current place d.second) 16 held) ≡ Some d.head) same e
head_here place held None (Some y) c e f g =
    let same : record { second = true; head = y } ≡ c = cc g in subst (λ (d : Choice). head_in (area (current place d.second) 16 held) ≡ Some d.head) same f
head_here place held (Some x) (Some y) c e f g = by (nat_lt x.generation y.generation) g
  where
    by : (b : Bool) → (if b then Some (record { second = true; head = y }) else Some (record { second = false; head = x })) ≡ Some c → head_in (area (current place c.second) 16 held) ≡ Some c.head
    by true g = let same : record { second = true; head = y } ≡ c = cc g in subst (λ (d : Choice). head_in (area (current place d.second) 16 held) ≡ Some d.head) same f
    by false g = let same : record { second = false; head = x } ≡ c = cc g in subst (λ (d : Choice). head_in (area (current place d.second) 16 held) ≡ Some d.head) same e

size_by : (is : Bool) (xs : List ℕ) (h : Head) → head_by is xs ≡ Some h → length_in xs ≡ h.size
size_by true xs h e = cc e
size_by false xs h e = absurd (cc e)

-- what the bank's value says, as the code finds it
pub opened_says : (bank : BankState) (o : Option Choice) (c : Choice) (at : ℕ) (body : List ℕ) (x : Option (List ℕ)) → o ≡ Some c → at ≡ current bank.place c.second → c.head.size ≤ 4080
    → bank.second ≡ c.second → bank.generation ≡ c.head.generation → bank.size ≡ c.head.size
    → IfSome x (λ held. o ≡ chosen (head_in (area bank.place.first.at 16 held)) (head_in (area bank.place.second.at 16 held)))
    → IfSome x (λ held. body ≡ area (at + 16) c.head.size held) → IfSome x (λ held. Used bank.cell c.head.size bank.gates (area at 4096 held)) → IfSome x (BankSays bank)
opened_says bank o c at body None is here fits second generation size heads read used = tt
opened_says bank o c at body (Some held) is here fits second generation size heads read used =
    let stands : Stands bank.place c.second c.head.generation body held = told_opened bank.place o c at body (Some held) is here fits heads read in
    let head : head_in (area (current bank.place c.second) 16 held) ≡ Some c.head =
    head_here bank.place held (head_in (area bank.place.first.at 16 held)) (head_in (area bank.place.second.at 16 held)) c refl refl (sym heads ∙ is) in
    let side : ℕ = current bank.place bank.second in
    let place : current bank.place c.second ≡ side = ap (current bank.place) (sym second) in
    record {
      body = body;
      stands = subst (λ (b : Bool). Stands bank.place b bank.generation body held) (sym second) (subst (λ (n : ℕ). Stands bank.place c.second n body held) (sym generation) stands);
      size = ap length_in (take-take 16 4096 (drop side held) (omega arith)) ∙ ap (λ (p : ℕ). length_in (area p 16 held)) (sym place)
          ∙ size_by (is_valid (area (current bank.place c.second) 16 held)) (area (current bank.place c.second) 16 held) c.head head ∙ sym size;
      used = subst (λ (n : ℕ). Used bank.cell n bank.gates (area side 4096 held)) (sym size)
          (subst (λ (p : ℕ). Used bank.cell c.head.size bank.gates (area p 4096 held)) (here ∙ place) used);
    }
