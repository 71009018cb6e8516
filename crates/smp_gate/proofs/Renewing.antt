-- A side is renewed, and what that does to its bank.
use Rattle.std.proofs.Common.{◌≡◌, inl, inr, ℕ, ◌+◌, Bool, Option, Some, None, List, [], length, ◌≤◌, ◌/◌, drop, refl, sym, ◌∙◌, ap, subst, arith}
use Rattle.std.specs.Prelude.{IfSome, not, true, false}
use Rattle.smp_flash.specs.Area.{area, blank, dirty_pages, spot, Clear, Erased, Told, Keeps}
use Rattle.std.proofs.lemmas.List.{take-take}
use Rattle.smp_flash.specs.Region.{Spares, counts_write}
use Rattle.smp_flash.specs.State.{FlashState, Changes, End, fault_end}
use Rattle.smp_flash.specs.Calls.{Goes, Smaller, Calls, ChangesAtMost}
use Rattle.smp_flash.proofs.Areas.{Keeps-trans, blank_first}
use Rattle.smp_flash.proofs.Passing.{Covers, Calls-wider, then_Smaller, changes_add}
use Rattle.smp_flash.proofs.Telling.{Told-map, Told-trans, Told-with, Told-after, IfSome-map}
use Rattle.smp_flash.specs.declared.layout.BankPlace.{BankPlace}
use Rattle.smp_gate.specs.declared.fault.BankFault.{BankFault}
use Rattle.smp_gate.specs.declared.fault.BankFault.TheVariants.{Full}
use Rattle.smp_flash.specs.declared.flash.CallFault.{CallFault}
use Rattle.smp_flash.specs.declared.flash.CallFault.TheVariants.{Fault as Faulty, Off as Gone}
use Rattle.smp_gate.specs.Side.{ValidSide, valid_side, AtMost, whole_side}
use Rattle.smp_gate.specs.Newest.{Apart, sides, newest, newest_side, content_of, just, newest_generation, generation_by, AgesAtMost, OldOrNew, Fresh, SameSide}
use Rattle.smp_gate.specs.Bank.{BankState, BankSays, Stands, bar, current, other}
use Rattle.smp_gate.specs.Step.{Quiet, Renewed, QuietOrRenewed}
use Rattle.smp_gate.specs.Fault.{bank_fault, bank_fault_end}
use Rattle.smp_gate.proofs.Sides.{blank_gate, no_generation, newest-Stands, Stands-kept, Stands-new, current_apart, flipped_current}
use Rattle.smp_gate.proofs.Contents.{fresh_says, content_whole}

Quiet-trans : (at : ℕ) (x y z : List ℕ) → Quiet at x y → Quiet at y z → Quiet at x z
Quiet-trans at x y z f g = record { keeps = Keeps-trans (spot at 4096) x y z f.keeps g.keeps; most = λ n most. g.most n (f.most n most) }

Quiet-then : (at : ℕ) (next : ValidSide) (x y z : List ℕ) → Quiet at x y → QuietOrRenewed at next y z → QuietOrRenewed at next x z
Quiet-then at next x y z f g = elim g [
  | inl quiet ↦ inl (Quiet-trans at x y z f quiet)
  | inr renewed ↦ inr (record { keeps = Keeps-trans (spot at 4096) x y z f.keeps renewed.keeps; found = renewed.found; whole = renewed.whole })
]

pub told_Quiet : (at : ℕ) (next : ValidSide) (x y : Option (List ℕ)) → Told (Quiet at) x y → Told (QuietOrRenewed at next) x y
told_Quiet at next x y f = Told-map (Quiet at) (QuietOrRenewed at next) x y (λ u v q. inl q) f

pub told_Quiet-trans : (at : ℕ) (x y z : Option (List ℕ)) → Told (Quiet at) x y → Told (Quiet at) y z → Told (Quiet at) x z
told_Quiet-trans at x y z f g = Told-trans (Quiet at) (Quiet at) (Quiet at) x y z (λ u v w p q. Quiet-trans at u v w p q) f g

pub told_then : (at : ℕ) (next : ValidSide) (x y z : Option (List ℕ)) → Told (Quiet at) x y → Told (QuietOrRenewed at next) y z → Told (QuietOrRenewed at next) x z
told_then at next x y z f g = Told-trans (Quiet at) (QuietOrRenewed at next) (QuietOrRenewed at next) x y z (λ u v w p q. Quiet-then at next u v w p q) f g

pub told_Renewed : (at : ℕ) (next : ValidSide) (x y z : Option (List ℕ)) → Told (Quiet at) x y → Told (Renewed at next) y z → Told (Renewed at next) x z
told_Renewed at next x y z f g =
    Told-trans (Quiet at) (Renewed at next) (Renewed at next) x y z (λ u v w p q. record { keeps = Keeps-trans (spot at 4096) u v w p.keeps q.keeps; found = q.found; whole = q.whole }) f g

pub told_blank : (at : ℕ) (x y : Option (List ℕ)) → Told (Erased at 4096) x y → IfSome y (λ held. area at 4096 held ≡ blank 4096)
told_blank at None None f = tt
told_blank at None (Some v) f = absurd f
told_blank at (Some u) None f = absurd f
told_blank at (Some u) (Some v) f = f.erased

-- what the bank holds, by what became of the other side
OldOrNew-from : (bank : BankState) (body old new : List ℕ) → Apart bank.place → BankSays bank old
    → QuietOrRenewed (other bank.place bank.second) (record { generation = bank.generation + 1; body = body }) old new
    → OldOrNew bank.place (record { generation = bank.generation + 1; body = body }) old new
OldOrNew-from bank body old new apart up either =
    let place = bank.place in
    let second = bank.second in
    let g = bank.generation in
    elim either [
      | inl quiet ↦ inl (newest-Stands place second g up.body new (Stands-kept place second g up.body old new apart quiet.keeps (quiet.most (bar second g)) up.stands)
          ∙ sym (newest-Stands place second g up.body old up.stands))
      | inr renewed ↦ inr (newest-Stands place (not second) (g + 1) body new (Stands-new place second g up.body body old new apart renewed.keeps renewed.found up.stands))
    ]

pub told_OldOrNew : (bank : BankState) (body : List ℕ) (x y : Option (List ℕ)) → Apart bank.place → IfSome x (BankSays bank)
    → Told (QuietOrRenewed (other bank.place bank.second) (record { generation = bank.generation + 1; body = body })) x y
    → Told (OldOrNew bank.place (record { generation = bank.generation + 1; body = body })) x y
told_OldOrNew bank body x y apart up f =
    Told-with (BankSays bank) (QuietOrRenewed (other bank.place bank.second) (record { generation = bank.generation + 1; body = body }))
    (OldOrNew bank.place (record { generation = bank.generation + 1; body = body })) x y
    (λ u v says either. OldOrNew-from bank body u v apart says either) up f

pub told_Stands : (bank : BankState) (body : List ℕ) (x y : Option (List ℕ)) → Apart bank.place → IfSome x (BankSays bank)
    → Told (Renewed (other bank.place bank.second) (record { generation = bank.generation + 1; body = body })) x y
    → IfSome y (Stands bank.place (not bank.second) (bank.generation + 1) body)
told_Stands bank body x y apart up f =
    Told-after (BankSays bank) (Renewed (other bank.place bank.second) (record { generation = bank.generation + 1; body = body }))
    (Stands bank.place (not bank.second) (bank.generation + 1) body) x y
    (λ u v says renewed. Stands-new bank.place bank.second bank.generation says.body body u v apart renewed.keeps renewed.found says.stands) up f

-- the generation of a bank whose content is the old one or the new one
ages_of : (bank : BankState) (body old new : List ℕ) → BankSays bank old → OldOrNew bank.place (record { generation = bank.generation + 1; body = body }) old new → AgesAtMost 1 bank.place old new
ages_of bank body old new says either =
    let g : ℕ = bank.generation in
    let was : newest_generation bank.place old ≡ g = ap generation_by (newest-Stands bank.place bank.second g says.body old says.stands) in
    elim either [
      | inl same ↦ let e : newest_generation bank.place new ≡ newest_generation bank.place old = ap generation_by same in record { kept = omega arith; most = omega arith }
      | inr next ↦ let e : newest_generation bank.place new ≡ g + 1 = ap generation_by next in record { kept = omega arith; most = omega arith }
    ]

pub told_ages : (bank : BankState) (body : List ℕ) (x y : Option (List ℕ)) → IfSome x (BankSays bank)
    → Told (OldOrNew bank.place (record { generation = bank.generation + 1; body = body })) x y → Told (AgesAtMost 1 bank.place) x y
told_ages bank body x y up f =
    Told-with (BankSays bank) (OldOrNew bank.place (record { generation = bank.generation + 1; body = body })) (AgesAtMost 1 bank.place) x y
    (λ u v says either. ages_of bank body u v says either) up f

-- one side is within both
pub Covers-other : (place : BankPlace) (second : Bool) → Covers (sides place) (spot (other place second) 4096)
Covers-other place true = record { clear = λ p n c. (c.0, tt); spares = λ g aim. elim aim as (λ m. Spares g m (sides place) → Spares g m (spot place.first.at 4096)) [ None ↦ λ s. tt | Some r ↦ λ s. (s.0, tt) ] }
Covers-other place false = record { clear = λ p n c. (c.1.0, tt); spares = λ g aim. elim aim as (λ m. Spares g m (sides place) → Spares g m (spot place.second.at 4096)) [ None ↦ λ s. tt | Some r ↦ λ s. (s.1.0, tt) ] }

-- patience that a last call takes
pub pays-after : (a b c : FlashState) (at : ℕ) (bytes : List ℕ) → Goes a b → (counts_write b.geometry b.aim at bytes ≡ true → Smaller b.patience c.patience)
    → counts_write a.geometry a.aim at bytes ≡ true → Smaller a.patience c.patience
pays-after a b c at bytes goes pays counted =
    then_Smaller a.patience b.patience c.patience goes.patience (pays (ap (λ g. counts_write g b.aim at bytes) goes.geometry ∙ ap (λ m. counts_write a.geometry m at bytes) goes.aim ∙ counted))

same_end : (fault : CallFault) → bank_fault_end (bank_fault fault) ≡ fault_end fault
same_end (Faulty operation) = refl
same_end Gone = refl

-- a fault that is passed on ends the call as before
pub passed_Calls : (spots : List (ℕ × ℕ)) (a b : FlashState) (fault : CallFault) (passed : BankFault) → passed ≡ bank_fault fault → Calls spots (fault_end fault) a b → Calls spots (bank_fault_end passed) a b
passed_Calls spots a b fault passed is f = subst (λ (end : End). Calls spots end a b) (sym (ap bank_fault_end is ∙ same_end fault)) f

-- what a bank's value says of a side that was just filled
pub told_fresh : (bank : BankState) (body : List ℕ) (x : Option (List ℕ)) → length body ≤ 4080 → bank.size ≡ length body → bank.gates ≡ []
    → IfSome x (Stands bank.place bank.second bank.generation body)
    → IfSome x (λ held. area (current bank.place bank.second) 4096 held ≡ whole_side bank.generation body) → IfSome x (BankSays bank)
told_fresh bank body None fits size none stands whole = tt
told_fresh bank body (Some held) fits size none stands whole = fresh_says bank body held fits size none stands whole

pub told_whole : (place : BankPlace) (cell : ℕ) (second : Bool) (g : ℕ) (body : List ℕ) (x : Option (List ℕ)) → length body ≤ 4080 → IfSome x (Stands place second g body)
    → IfSome x (λ held. area (current place second) 4096 held ≡ whole_side g body) → IfSome x (λ held. content_of place cell held ≡ Some (just body))
told_whole place cell second g body None fits stands whole = tt
told_whole place cell second g body (Some held) fits stands whole = content_whole place cell second g body held fits stands whole

-- the same, where the code has opened the bank's value `now` into the fields of `bank`
pub side_OldOrNew : (bank now : BankState) (at : ℕ) (body : List ℕ) (x y : Option (List ℕ)) → bank ≡ now → at ≡ other bank.place bank.second → Apart now.place → IfSome x (BankSays now)
    → Told (QuietOrRenewed at (record { generation = bank.generation + 1; body = body })) x y → Told (OldOrNew now.place (record { generation = now.generation + 1; body = body })) x y
side_OldOrNew bank now at body x y same is apart up f =
    told_OldOrNew now body x y apart up
    (subst (λ (b : BankState). Told (QuietOrRenewed (other b.place b.second) (record { generation = b.generation + 1; body = body })) x y) same
    (subst (λ (p : ℕ). Told (QuietOrRenewed p (record { generation = bank.generation + 1; body = body })) x y) is f))

pub side_ages : (bank now : BankState) (at : ℕ) (body : List ℕ) (x y : Option (List ℕ)) → bank ≡ now → at ≡ other bank.place bank.second → Apart now.place → IfSome x (BankSays now)
    → Told (QuietOrRenewed at (record { generation = bank.generation + 1; body = body })) x y → Told (AgesAtMost 1 now.place) x y
side_ages bank now at body x y same is apart up f = told_ages now body x y up (side_OldOrNew bank now at body x y same is apart up f)

pub side_Stands : (bank now : BankState) (at : ℕ) (body : List ℕ) (x y : Option (List ℕ)) → bank ≡ now → at ≡ other bank.place bank.second → Apart now.place → IfSome x (BankSays now)
    → Told (Renewed at (record { generation = bank.generation + 1; body = body })) x y → IfSome y (Stands now.place (not now.second) (now.generation + 1) body)
side_Stands bank now at body x y same is apart up f =
    told_Stands now body x y apart up
    (subst (λ (b : BankState). Told (Renewed (other b.place b.second) (record { generation = b.generation + 1; body = body })) x y) same
    (subst (λ (p : ℕ). Told (Renewed p (record { generation = bank.generation + 1; body = body })) x y) is f))

-- what the bank's new value says, and what it then holds
flip_whole : (bank : BankState) (at : ℕ) (body : List ℕ) (y : Option (List ℕ)) → at ≡ other bank.place bank.second → IfSome y (λ held. area at 4096 held ≡ whole_side (bank.generation + 1) body)
    → IfSome y (λ held. area (current bank.place (not bank.second)) 4096 held ≡ whole_side (bank.generation + 1) body)
flip_whole bank at body y is f = subst (λ (p : ℕ). IfSome y (λ held. area p 4096 held ≡ whole_side (bank.generation + 1) body)) (is ∙ sym (flipped_current bank.place bank.second)) f

pub side_says : (bank now : BankState) (at : ℕ) (body : List ℕ) (x y : Option (List ℕ)) → length body ≤ 4080 → bank ≡ now → at ≡ other bank.place bank.second → Apart now.place → IfSome x (BankSays now)
    → Told (Renewed at (record { generation = bank.generation + 1; body = body })) x y → IfSome y (λ held. area at 4096 held ≡ whole_side (bank.generation + 1) body)
    → (gates : List Bool) → gates ≡ []
    → IfSome y (BankSays (record { place = bank.place; cell = bank.cell; second = not bank.second; generation = bank.generation + 1; size = length body; gates = gates; sure = bank.sure }))
side_says bank now at body x y fits same is apart up f whole gates none =
    let stands : IfSome y (Stands bank.place (not bank.second) (bank.generation + 1) body) =
    subst (λ (b : BankState). IfSome y (Stands b.place (not b.second) (b.generation + 1) body)) (sym same) (side_Stands bank now at body x y same is apart up f) in
    told_fresh (record { place = bank.place; cell = bank.cell; second = not bank.second; generation = bank.generation + 1; size = length body; gates = gates; sure = bank.sure }) body y fits refl none stands
    (flip_whole bank at body y is whole)

pub side_content : (bank now : BankState) (at : ℕ) (body : List ℕ) (x y : Option (List ℕ)) → length body ≤ 4080 → bank ≡ now → at ≡ other bank.place bank.second → Apart now.place → IfSome x (BankSays now)
    → Told (Renewed at (record { generation = bank.generation + 1; body = body })) x y → IfSome y (λ held. area at 4096 held ≡ whole_side (bank.generation + 1) body)
    → IfSome y (λ held. content_of now.place now.cell held ≡ Some (just body))
side_content bank now at body x y fits same is apart up f whole =
    subst (λ (b : BankState). IfSome y (λ held. content_of b.place b.cell held ≡ Some (just body))) same
    (told_whole bank.place bank.cell (not bank.second) (bank.generation + 1) body y fits
    (subst (λ (b : BankState). IfSome y (Stands b.place (not b.second) (b.generation + 1) body)) (sym same) (side_Stands bank now at body x y same is apart up f))
    (flip_whole bank at body y is whole))

-- all bytes of the side that was renewed, and those of the newest one, which no step touched
pub side_whole : (bank now : BankState) (at : ℕ) (body : List ℕ) (y : Option (List ℕ)) → bank ≡ now → at ≡ other bank.place bank.second
    → IfSome y (λ held. area at 4096 held ≡ whole_side (bank.generation + 1) body)
    → IfSome y (λ held. area (other now.place now.second) 4096 held ≡ whole_side (now.generation + 1) body)
side_whole bank now at body y same is f =
    subst (λ (b : BankState). IfSome y (λ held. area (other b.place b.second) 4096 held ≡ whole_side (b.generation + 1) body)) same
    (subst (λ (p : ℕ). IfSome y (λ held. area p 4096 held ≡ whole_side (bank.generation + 1) body)) is f)

pub newest_same : (bank now : BankState) (at : ℕ) (x y : Option (List ℕ)) → bank ≡ now → at ≡ other bank.place bank.second → Apart now.place → Told (Keeps (spot at 4096)) x y
    → Told (SameSide (current now.place now.second)) x y
newest_same bank now at x y same is apart f =
    Told-map (Keeps (spot (other now.place now.second) 4096)) (SameSide (current now.place now.second)) x y
    (λ u v keeps. keeps.apart (current now.place now.second) 4096 (current_apart now.place now.second apart))
    (subst (λ (b : BankState). Told (Keeps (spot (other b.place b.second) 4096)) x y) same (subst (λ (p : ℕ). Told (Keeps (spot p 4096)) x y) is f))

pub second_same : (place : BankPlace) (x y : Option (List ℕ)) → Apart place → Told (Keeps (spot place.first.at 4096)) x y → Told (SameSide place.second.at) x y
second_same place x y apart f =
    Told-map (Keeps (spot place.first.at 4096)) (SameSide place.second.at) x y (λ u v keeps. keeps.apart place.second.at 4096 (current_apart place true apart)) f

pub side_Calls : (bank now : BankState) (at : ℕ) (end : End) (a b : FlashState) → bank ≡ now → at ≡ other bank.place bank.second → Calls (spot at 4096) end a b → Calls (sides now.place) end a b
side_Calls bank now at end a b same is f =
    subst (λ (s : BankState). Calls (sides s.place) end a b) same
    (Calls-wider (sides bank.place) (spot (other bank.place bank.second) 4096) end a b (Covers-other bank.place bank.second) (subst (λ (p : ℕ). Calls (spot p 4096) end a b) is f))

-- a first body on an erased place
made : (place : BankPlace) (body old new : List ℕ) → Apart place → Fresh place old → Renewed place.first.at (record { generation = 1; body = body }) old new → Stands place false 1 body new
made place body old new apart fresh renewed =
    let clear : Clear (spot place.first.at 4096) place.second.at 4096 = (elim apart [ inl before ↦ inr before | inr after ↦ inl after ], tt) in
    let same : area place.second.at 4096 new ≡ blank 4096 = renewed.keeps.apart place.second.at 4096 clear ∙ fresh.second in
    let none : valid_side (area place.second.at 4096 new) ≡ None =
    blank_gate (area place.second.at 4096 new) (take-take 8 4096 (drop place.second.at new) (omega arith) ∙ blank_first place.second.at 4096 8 new (omega arith) same) in
    record { found = renewed.found; behind = subst (AtMost 1) (sym none) tt; positive = omega arith }

pub told_made : (place : BankPlace) (body : List ℕ) (x y : Option (List ℕ)) → Apart place → IfSome x (Fresh place) → Told (Renewed place.first.at (record { generation = 1; body = body })) x y
    → IfSome y (Stands place false 1 body)
told_made place body x y apart fresh f =
    Told-after (Fresh place) (Renewed place.first.at (record { generation = 1; body = body })) (Stands place false 1 body) x y (λ u v p q. made place body u v apart p q) fresh f

-- what stands is what the bank holds
pub told_newest : (place : BankPlace) (second : Bool) (g : ℕ) (body : List ℕ) (x : Option (List ℕ)) → IfSome x (Stands place second g body)
    → IfSome x (λ held. newest_side place held ≡ Some (record { generation = g; body = body }))
told_newest place second g body x f = IfSome-map (Stands place second g body) (λ held. newest_side place held ≡ Some (record { generation = g; body = body })) x (λ held s. newest-Stands place second g body held s) f

-- no side of an erased place is valid
fresh_first : (place : BankPlace) (bytes : List ℕ) → Fresh place bytes → valid_side (area place.first.at 4096 bytes) ≡ None
fresh_first place bytes fresh = blank_gate (area place.first.at 4096 bytes) (take-take 8 4096 (drop place.first.at bytes) (omega arith) ∙ blank_first place.first.at 4096 8 bytes (omega arith) fresh.first)

fresh_second : (place : BankPlace) (bytes : List ℕ) → Fresh place bytes → valid_side (area place.second.at 4096 bytes) ≡ None
fresh_second place bytes fresh = blank_gate (area place.second.at 4096 bytes) (take-take 8 4096 (drop place.second.at bytes) (omega arith) ∙ blank_first place.second.at 4096 8 bytes (omega arith) fresh.second)

fresh_none : (place : BankPlace) (bytes : List ℕ) → Fresh place bytes → newest_side place bytes ≡ None
fresh_none place bytes fresh = (λ i. newest (fresh_first place bytes fresh i) (fresh_second place bytes fresh i))

-- a side that holds at most generation 0, which no valid side has, isn't valid
quiet_none : (at : ℕ) (old new : List ℕ) → valid_side (area at 4096 old) ≡ None → Quiet at old new → valid_side (area at 4096 new) ≡ None
quiet_none at old new none quiet = no_generation (area at 4096 new) (quiet.most 0 (subst (AtMost 0) (sym none) tt))

made_either : (place : BankPlace) (body old new : List ℕ) → Apart place → Fresh place old → QuietOrRenewed place.first.at (record { generation = 1; body = body }) old new
    → OldOrNew place (record { generation = 1; body = body }) old new
made_either place body old new apart fresh either = elim either [
  | inl quiet ↦ inl (
      (let first : valid_side (area place.first.at 4096 new) ≡ None = quiet_none place.first.at old new (fresh_first place old fresh) quiet in
      let clear : Clear (spot place.first.at 4096) place.second.at 4096 = (elim apart [ inl before ↦ inr before | inr after ↦ inl after ], tt) in
      let second : valid_side (area place.second.at 4096 new) ≡ None = ap valid_side (quiet.keeps.apart place.second.at 4096 clear) ∙ fresh_second place old fresh in
      (λ i. newest (first i) (second i)) ∙ sym (fresh_none place old fresh)))
  | inr renewed ↦ inr (newest-Stands place false 1 body new (made place body old new apart fresh renewed))
]

pub told_made_either : (place : BankPlace) (body : List ℕ) (x y : Option (List ℕ)) → Apart place → IfSome x (Fresh place)
    → Told (QuietOrRenewed place.first.at (record { generation = 1; body = body })) x y → Told (OldOrNew place (record { generation = 1; body = body })) x y
told_made_either place body x y apart fresh f =
    Told-with (Fresh place) (QuietOrRenewed place.first.at (record { generation = 1; body = body })) (OldOrNew place (record { generation = 1; body = body })) x y
    (λ u v p q. made_either place body u v apart p q) fresh f

made_ages : (place : BankPlace) (body old new : List ℕ) → Fresh place old → OldOrNew place (record { generation = 1; body = body }) old new → AgesAtMost 1 place old new
made_ages place body old new fresh either =
    let was : newest_generation place old ≡ 0 = ap generation_by (fresh_none place old fresh) in
    elim either [
      | inl same ↦ let e : newest_generation place new ≡ newest_generation place old = ap generation_by same in record { kept = omega arith; most = omega arith }
      | inr next ↦ let e : newest_generation place new ≡ 1 = ap generation_by next in record { kept = omega arith; most = omega arith }
    ]

pub told_made_ages : (place : BankPlace) (body : List ℕ) (x y : Option (List ℕ)) → IfSome x (Fresh place) → Told (OldOrNew place (record { generation = 1; body = body })) x y → Told (AgesAtMost 1 place) x y
told_made_ages place body x y fresh f =
    Told-with (Fresh place) (OldOrNew place (record { generation = 1; body = body })) (AgesAtMost 1 place) x y (λ u v p q. made_ages place body u v p q) fresh f

-- the erases of a side, and then two writes
pub told_erases : (page at n : ℕ) (x : Option (List ℕ)) (p q r : Option Changes) → IfSome x (λ held. ChangesAtMost 0 (dirty_pages page at n held) p q) → ChangesAtMost 2 0 q r
    → IfSome x (λ held. ChangesAtMost 2 (dirty_pages page at n held) p r)
told_erases page at n None p q r f two = tt
told_erases page at n (Some x) p q r f two =
    let e : dirty_pages page at n x + 0 ≡ dirty_pages page at n x = omega arith in
    subst (λ (k : ℕ). ChangesAtMost 2 k p r) e (changes_add 0 2 (dirty_pages page at n x) 0 p q r f two)

-- a fault that is passed on is a fault of the flash
pub passed_not_full : (fault : CallFault) (passed : BankFault) → passed ≡ bank_fault fault → passed ≡ Full → ⊥
passed_not_full (Faulty operation) passed is full = cc (sym is ∙ full)
passed_not_full Gone passed is full = cc (sym is ∙ full)

-- the erases of the other side, where the code has opened the bank's value
pub side_erases : (bank now : BankState) (at page pages n : ℕ) (x : Option (List ℕ)) (p q : Option Changes) → bank ≡ now → at ≡ other bank.place bank.second → page ≡ n
    → IfSome x (λ held. ChangesAtMost 2 (dirty_pages page at (4096 / page) held) p q) → IfSome x (λ held. ChangesAtMost 2 (dirty_pages n (other now.place now.second) (4096 / n) held) p q)
side_erases bank now at page pages n x p q same is size f =
    subst (λ (k : ℕ). IfSome x (λ held. ChangesAtMost 2 (dirty_pages k (other now.place now.second) (4096 / k) held) p q)) size
    (subst (λ (b : BankState). IfSome x (λ held. ChangesAtMost 2 (dirty_pages page (other b.place b.second) (4096 / page) held) p q)) same
    (subst (λ (k : ℕ). IfSome x (λ held. ChangesAtMost 2 (dirty_pages page k (4096 / page) held) p q)) is f))
