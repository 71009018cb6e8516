-- What a bank holds, by the side that stands.
use Rattle.std.proofs.Common.{◌≡◌, inl, inr, ℕ, ◌+◌, ◌-◌, ◌<◌, ◌≤◌, Bool, true, false, Option, Some, None, List, [], length, take, refl, sym, ◌∙◌, ap, subst, arith}
use Rattle.std.specs.Prelude.{IfSome, not, nat_lt, if◌then◌else◌}
use Rattle.std.specs.Option.{option_map}
use Rattle.std.proofs.lemmas.Bool.Decides.{nat_tests}
use Rattle.smp_flash.specs.Area.{area, spot, Keeps, Told}
use Rattle.smp_flash.specs.declared.layout.BankPlace.{BankPlace}
use Rattle.smp_flash.proofs.Telling.{IfSome-map, Told-with}
use Rattle.smp_gate.specs.Side.{ValidSide, valid_side, length_in, AtMost, whole_side}
use Rattle.smp_gate.specs.Cells.{cells_in, Used}
use Rattle.smp_gate.specs.Newest.{Apart, Content, newer, newest_bytes, content_of, content_in, content_by, just, HasBody, SameOrThis}
use Rattle.smp_gate.specs.Bank.{BankState, BankSays, Stands, bar, current, other}
use Rattle.smp_gate.specs.Step.{Renewed, QuietOrRenewed}
use Rattle.smp_gate.proofs.Sides.{decoded_size, Stands-kept, Stands-new, current_apart, flipped_current}
use Rattle.smp_gate.proofs.Ranges.{cells_whole, used_none}

newer_first : (x : ValidSide) (o : Option ValidSide) (a b : List ℕ) → AtMost x.generation o → newer (Some x) o a b ≡ Some a
newer_first x None a b most = refl
newer_first x (Some y) a b most =
    let t : nat_lt x.generation y.generation ≡ false = grind (arith, nat_tests) in
    ap (λ (c : Bool). if c then Some b else Some a) t

newer_second : (x : ValidSide) (o : Option ValidSide) (a b : List ℕ) → 1 ≤ x.generation → AtMost (x.generation - 1) o → newer o (Some x) a b ≡ Some b
newer_second x None a b low most = refl
newer_second x (Some y) a b low most =
    let lt : y.generation < x.generation = omega arith in
    let t : nat_lt y.generation x.generation ≡ true = grind (arith, nat_tests) in
    ap (λ (c : Bool). if c then Some b else Some a) t

-- the newest side's bytes are those of the side that stands
pub bytes-Stands : (place : BankPlace) (second : Bool) (g : ℕ) (body bytes : List ℕ) → Stands place second g body bytes
    → newest_bytes place bytes ≡ Some (area (current place second) 4096 bytes)
bytes-Stands place false g body bytes s =
    let a : List ℕ = area place.first.at 4096 bytes in
    let b : List ℕ = area place.second.at 4096 bytes in
    ap (λ (o : Option ValidSide). newer o (valid_side b) a b) s.found ∙ newer_first (record { generation = g; body = body }) (valid_side b) a b s.behind
bytes-Stands place true g body bytes s =
    let a : List ℕ = area place.first.at 4096 bytes in
    let b : List ℕ = area place.second.at 4096 bytes in
    ap (λ (o : Option ValidSide). newer (valid_side a) o a b) s.found ∙ newer_second (record { generation = g; body = body }) (valid_side a) a b s.positive s.behind

pub content-Stands : (place : BankPlace) (cell : ℕ) (second : Bool) (g : ℕ) (body bytes : List ℕ) → Stands place second g body bytes
    → content_of place cell bytes ≡ Some (record { body = body; cells = cells_in cell (length_in (take 16 (area (current place second) 4096 bytes))) (area (current place second) 4096 bytes) })
content-Stands place cell second g body bytes s =
    let side : List ℕ = area (current place second) 4096 bytes in
    ap (content_in cell) (bytes-Stands place second g body bytes s) ∙ ap (λ (o : Option ValidSide). content_by cell o side) s.found

pub says_content : (bank : BankState) (bytes : List ℕ) (says : BankSays bank bytes)
    → content_of bank.place bank.cell bytes ≡ Some (record { body = says.body; cells = cells_in bank.cell bank.size (area (current bank.place bank.second) 4096 bytes) })
says_content bank bytes says =
    let side : List ℕ = area (current bank.place bank.second) 4096 bytes in
    content-Stands bank.place bank.cell bank.second bank.generation says.body bytes says.stands
    ∙ ap (λ (n : ℕ). Some (record { body = says.body; cells = cells_in bank.cell n side })) says.size

pub body_of : (place : BankPlace) (cell : ℕ) (second : Bool) (g : ℕ) (body : List ℕ) (x : Option (List ℕ)) → IfSome x (Stands place second g body)
    → IfSome x (HasBody place cell body)
body_of place cell second g body x f =
    IfSome-map (Stands place second g body) (HasBody place cell body) x (λ held s. ap (option_map (λ (c : Content). c.body)) (content-Stands place cell second g body held s)) f

-- the length in the head of a side that was filled
pub size_whole : (g : ℕ) (body : List ℕ) → length_in (take 16 (whole_side g body)) ≡ length body
size_whole g body = decoded_size (length body)

-- a side that was filled holds its body and no cells
pub content_whole : (place : BankPlace) (cell : ℕ) (second : Bool) (g : ℕ) (body bytes : List ℕ) → length body ≤ 4080 → Stands place second g body bytes
    → area (current place second) 4096 bytes ≡ whole_side g body → content_of place cell bytes ≡ Some (just body)
content_whole place cell second g body bytes fits s whole =
    content-Stands place cell second g body bytes s
    ∙ ap (λ (side : List ℕ). Some (record { body = body; cells = cells_in cell (length_in (take 16 side)) side })) whole
    ∙ ap (λ (n : ℕ). Some (record { body = body; cells = cells_in cell n (whole_side g body) })) (size_whole g body)
    ∙ ap (λ (cells : List (List ℕ)). Some (record { body = body; cells = cells })) (cells_whole cell g body fits)

pub fresh_says : (bank : BankState) (body bytes : List ℕ) → length body ≤ 4080 → bank.size ≡ length body → bank.gates ≡ []
    → Stands bank.place bank.second bank.generation body bytes → area (current bank.place bank.second) 4096 bytes ≡ whole_side bank.generation body → BankSays bank bytes
fresh_says bank body bytes fits size none s whole = record {
  body = body;
  stands = s;
  size = ap (λ (side : List ℕ). length_in (take 16 side)) whole ∙ size_whole bank.generation body ∙ sym size;
  used = subst (λ (side : List ℕ). Used bank.cell bank.size bank.gates side) (sym whole)
      (subst (λ (gates : List Bool). Used bank.cell bank.size gates (whole_side bank.generation body)) (sym none)
      (subst (λ (n : ℕ). Used bank.cell n [] (whole_side bank.generation body)) (sym size) (used_none bank.cell bank.generation body fits)));
}

-- the content after a change of the other side
pub content_either : (bank : BankState) (body old new : List ℕ) → length body ≤ 4080 → Apart bank.place → BankSays bank old
    → QuietOrRenewed (other bank.place bank.second) (record { generation = bank.generation + 1; body = body }) old new
    → SameOrThis bank.place bank.cell (just body) old new
content_either bank body old new fits apart says either =
    let place = bank.place in
    let second = bank.second in
    let g : ℕ = bank.generation in
    elim either [
      | inl quiet ↦
          let same : area (current place second) 4096 new ≡ area (current place second) 4096 old = quiet.keeps.apart (current place second) 4096 (current_apart place second apart) in
          inl (content-Stands place bank.cell second g says.body new (Stands-kept place second g says.body old new apart quiet.keeps (quiet.most (bar second g)) says.stands)
          ∙ ap (λ (side : List ℕ). Some (record { body = says.body; cells = cells_in bank.cell (length_in (take 16 side)) side })) same
          ∙ sym (content-Stands place bank.cell second g says.body old says.stands))
      | inr renewed ↦
          inr (content_whole place bank.cell (not second) (g + 1) body new fits (Stands-new place second g says.body body old new apart renewed.keeps renewed.found says.stands)
          (ap (λ (at : ℕ). area at 4096 new) (flipped_current place second) ∙ renewed.whole))
    ]

pub told_content_either : (bank now : BankState) (at : ℕ) (body : List ℕ) (x y : Option (List ℕ)) → length body ≤ 4080 → bank ≡ now → at ≡ other bank.place bank.second → Apart now.place
    → IfSome x (BankSays now) → Told (QuietOrRenewed at (record { generation = bank.generation + 1; body = body })) x y → Told (SameOrThis now.place now.cell (just body)) x y
told_content_either bank now at body x y fits same is apart up f =
    Told-with (BankSays now) (QuietOrRenewed (other now.place now.second) (record { generation = now.generation + 1; body = body })) (SameOrThis now.place now.cell (just body)) x y
    (λ u v says either. content_either now body u v fits apart says either) up
    (subst (λ (b : BankState). Told (QuietOrRenewed (other b.place b.second) (record { generation = b.generation + 1; body = body })) x y) same
    (subst (λ (p : ℕ). Told (QuietOrRenewed p (record { generation = bank.generation + 1; body = body })) x y) is f))
