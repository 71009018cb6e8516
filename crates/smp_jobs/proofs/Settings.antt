-- The requests of a job that writes settings, by their numbers.
use Rattle.std.proofs.Common.{◌≡◌, ◌<◌, ℕ, zero, suc, List, [], ◌∷◌, length, get_or, refl, ap, arith}
use Rattle.smp_model.specs.declared.setting.Setting.{Setting}
use Rattle.smp_model.specs.Meant.{setting_write, save}
use Rattle.smp_jobs.specs.Jobs.{asks, ends, done, nth_of_set}

pub nth_write : (settings : List Setting) (n : ℕ) (s : Setting) → n < length settings → s ≡ get_or settings n s → asks (setting_write s.name s.val) ≡ nth_of_set settings n
nth_write [] n s h e = absurd (omega arith)
nth_write (first ∷ settings) zero s h e = ap (λ (s : Setting). asks (setting_write s.name s.val)) e
nth_write (first ∷ settings) (suc n) s h e = nth_write settings n s (omega arith) e

pub nth_save : (settings : List Setting) (n : ℕ) → n ≡ length settings → asks save ≡ nth_of_set settings n
nth_save [] zero e = refl
nth_save [] (suc n) e = absurd (omega arith)
nth_save (first ∷ settings) zero e = absurd (omega arith)
nth_save (first ∷ settings) (suc n) e = nth_save settings n (omega arith)

pub nth_done : (settings : List Setting) (n : ℕ) → length settings < n → ends done ≡ nth_of_set settings n
nth_done [] zero h = absurd (omega arith)
nth_done [] (suc n) h = refl
nth_done (first ∷ settings) zero h = absurd (omega arith)
nth_done (first ∷ settings) (suc n) h = nth_done settings n (omega arith)
