-- Results and tests: which way a test or a step of reading went.
use Rattle.std.proofs.Common.{◌≡◌, Bool, true, false, cond, ◌⊎◌, Result, Ok, Err, refl, inl, inr, ap}
use Rattle.smp_cbor.specs.Heads.{◌>>=◌}

pub tested : (b : Bool) → (b ≡ true) ⊎ (b ≡ false)
tested true = inl refl
tested false = inr refl

pub chosen : {A : Type 0} (b : Bool) (x y z : A) → cond b x y ≡ z → ((b ≡ true) × (x ≡ z)) ⊎ ((b ≡ false) × (y ≡ z))
chosen true x y z e = inl (refl, e)
chosen false x y z e = inr (refl, e)

abbrev pub done : {A E : Type 0} → A → Result A E
done x = Ok x

abbrev pub failed : {A E : Type 0} → E → Result A E
failed k = Err k

pub ok_is : {A E : Type 0} (x y : A) → ◌≡◌ {A = Result A E} (Ok x) (Ok y) → x ≡ y
ok_is x y e = cc

pub err_is : {A E : Type 0} (j k : E) → ◌≡◌ {A = Result A E} (Err j) (Err k) → k ≡ j
err_is j k e = cc

pub not_ok : {A E P : Type 0} (k : E) (x : A) → ◌≡◌ {A = Result A E} (Err k) (Ok x) → P
not_ok k x e = absurd cc

pub not_err : {A E P : Type 0} (x : A) (k : E) → ◌≡◌ {A = Result A E} (Ok x) (Err k) → P
not_err x k e = absurd cc

pub bind_ok : {A B E : Type 0} (r : Result A E) (f : A → Result B E) (y : B) → (r >>= f) ≡ Ok y → (x : A) × (r ≡ Ok x) × (f x ≡ Ok y)
bind_ok (Ok x) f y e = (x, refl, e)
bind_ok (Err d) f y e = absurd cc

pub bind_err : {A B E : Type 0} (r : Result A E) (f : A → Result B E) (s : E) → (r >>= f) ≡ Err s → (r ≡ Err s) ⊎ ((x : A) × (r ≡ Ok x) × (f x ≡ Err s))
bind_err (Ok x) f s e = inr (x, refl, e)
bind_err {A} {B} {E} (Err d) f s e = inl (ap (λ (z : E). failed z) (same e))
  where
    same : ◌≡◌ {A = Result B E} (Err d) (Err s) → d ≡ s
    same e = cc
