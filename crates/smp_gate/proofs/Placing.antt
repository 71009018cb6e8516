-- A layout's banks are rightly placed, and erased on a flash that is.
use Rattle.std.proofs.Common.{◌≡◌, inl, inr, ℕ, ◌≤◌, List, length, refl, sym, ◌∙◌, ap, subst, arith}
use Rattle.smp_flash.specs.Area.{area, blank, spot, Clear, Holds}
use Rattle.smp_flash.specs.Geometry.{size_of}
use Rattle.smp_flash.specs.Layout.{geometry_of, progress_of, settings_of, upload_spots}
use Rattle.smp_flash.specs.declared.geometry.Geometry.{Geometry}
use Rattle.smp_flash.specs.declared.layout.BankPlace.{BankPlace}
use Rattle.smp_flash.specs.declared.layout.Layout.{Layout}
use Rattle.smp_flash.proofs.Areas.{area-blank, blank_first}
use Rattle.smp_flash.proofs.Layouts.{arranged}
use Rattle.smp_flash.proofs.Passing.{Covers, Covers-two}
use Rattle.smp_gate.specs.Newest.{Fits, Fresh, sides}

pub progress_fits : (layout : Layout) → Fits (progress_of layout) (geometry_of layout)
progress_fits layout =
    let first = (arranged layout).inside.3.3 in
    let second = first.3 in
    record {
      apart = inl (omega arith);
      first_long = refl;
      first_begins = first.0;
      first_inside = first.2;
      second_long = refl;
      second_begins = second.0;
      second_inside = second.2;
    }

pub settings_fits : (layout : Layout) → Fits (settings_of layout) (geometry_of layout)
settings_fits layout =
    let first = (arranged layout).inside.3.3.3.3.3 in
    let second = first.3 in
    record {
      apart = inl (omega arith);
      first_long = refl;
      first_begins = first.0;
      first_inside = first.2;
      second_long = refl;
      second_begins = second.0;
      second_inside = second.2;
    }

pub fresh_all : (place : BankPlace) (g : Geometry) → Fits place g → Fresh place (blank (size_of g))
fresh_all place g fits = record {
  first = area-blank place.first.at 4096 (size_of g) fits.first_inside;
  second = area-blank place.second.at 4096 (size_of g) fits.second_inside;
}

-- a new flash, and where the progress bank of its layout lies
pub fresh_progress : (layout : Layout) (place : BankPlace) (g : Geometry) (held : List ℕ) → place ≡ progress_of layout → geometry_of layout ≡ g → held ≡ blank (size_of g) → Fresh place held
fresh_progress layout place g held lies sizes is =
    subst (λ (p : BankPlace). Fresh p held) (sym lies)
    (subst (λ (bytes : List ℕ). Fresh (progress_of layout) bytes) (sym (is ∙ ap (λ (s : Geometry). blank (size_of s)) (sym sizes)))
    (fresh_all (progress_of layout) (geometry_of layout) (progress_fits layout)))

-- a write to the first side leaves the second one erased
pub second_fresh : (place : BankPlace) (g : Geometry) (bytes old new : List ℕ) (n : ℕ) → Fits place g → Fresh place old → Holds place.first.at bytes old new → length bytes ≤ 4096 → n ≤ 4096
    → area place.second.at n new ≡ blank n
second_fresh place g bytes old new n fits fresh holds le m =
    let clear : Clear (spot place.first.at (length bytes)) place.second.at 4096 = (elim fits.apart [ inl before ↦ inr (omega arith) | inr after ↦ inl (omega arith) ], tt) in
    blank_first place.second.at 4096 n new m (holds.keeps.apart place.second.at 4096 clear ∙ fresh.second)

-- the progress bank's sides lie in the upload's regions
pub Covers-progress : (layout : Layout) → Covers (upload_spots layout) (sides (progress_of layout))
Covers-progress layout = Covers-two _ 4096 _ 4096 _ _ (omega arith) (omega arith) (omega arith) (omega arith)
