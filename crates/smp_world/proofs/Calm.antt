-- What came of a packet at which nothing struck.
use Rattle.std.proofs.Common.{◌≡◌, inl, inr, ℕ, Bool, true, false, Option, Some, None, Result, Ok, Err, refl, ap, ◌||◌, ◌≢◌}
use Rattle.smp_model.specs.declared.device.AbstractDevice.{AbstractDevice}
use Rattle.smp_model.specs.declared.device.Sizes.{Sizes}
use Rattle.smp_model.specs.Handled.{response_to, is_reset}
use Rattle.smp_model.specs.Meant.{Meant, reset}
use Rattle.smp_device.specs.Goings.{Armed, Went, Goes, Booted}
use Rattle.smp_world.specs.Comings.{BootsAfter}
use Rattle.smp_world.proofs.Durably.{means}
use Rattle.std.specs.Result.{result_ok}

pub left_false : (a b : Bool) → (a || b) ≡ false → a ≡ false
left_false false b e = refl
left_false true b e = cc

-- all steps were taken, and the reply is the device's
pub unstruck : (sizes : Sizes) (h : Option Armed) (d : AbstractDevice) (mm : Result Meant ℕ) (w : Went) → w.struck ≡ false → Goes sizes h d mm w
    → (w.taken ≡ (response_to sizes d mm).steps) × (w.reply ≡ Some (response_to sizes d mm).reply)
unstruck sizes h d mm w calm (inl p) = (p.taken, p.reply)
unstruck sizes h d mm w calm (inr p) = absurd (both calm p.strikes)
  where
    both : w.struck ≡ false → w.struck ≡ true → ⊥
    both a b = cc

abbrev some : Meant → Option Meant
some m = Some m

-- the request of a packet
pub meant : (mm : Result Meant ℕ) (r : Meant) → result_ok mm ≡ Some r → mm ≡ means r
meant (Ok m) r e = ap means (same m r e)
  where
    same : (m n : Meant) → some m ≡ some n → m ≡ n
    same m n e = cc
meant (Err n) r e = cc

-- no boot follows another request
pub not_reset : (r : Meant) → r ≢ reset → is_reset (means r) ≡ false
not_reset r n = by_test (is_reset (means r)) refl
  where
    is : (r : Meant) → is_reset (means r) ≡ true → r ≡ reset
    is reset e = refl
    is r e = cc

    by_test : (b : Bool) → is_reset (means r) ≡ b → b ≡ false
    by_test true e = absurd (n (is r e))
    by_test false e = refl

pub no_boot : (is : Bool) (h : Option Armed) (d : AbstractDevice) (b : Option Booted) → is ≡ false → BootsAfter is h d b → b ≡ None
no_boot false h d None e k = refl
no_boot false h d (Some b) e k = absurd k
no_boot true h d b e k = cc
