-- Facts of bytes that may not be told.
use Rattle.std.proofs.Common.{◌≡◌, Option, Some, None, List, ℕ, sym, subst}
use Rattle.std.specs.Prelude.{IfSome, IsSomeAnd}
use Rattle.smp_flash.specs.Area.{Told}

pub told_three : (P : List ℕ → Type 0) (Q : List ℕ → List ℕ → Type 0) (R : List ℕ → Type 0) (S : List ℕ → List ℕ → Type 0) (x y : Option (List ℕ)) → ((u v : List ℕ) → P u → Q u v → R v → S u v) → IfSome x P → Told Q x y → IfSome y R → Told S x y
told_three P Q R S None None h p q r = tt
told_three P Q R S None (Some v) h p q r = absurd q
told_three P Q R S (Some u) None h p q r = absurd q
told_three P Q R S (Some u) (Some v) h p q r = h u v p q r

pub new_three : (P : List ℕ → Type 0) (Q : List ℕ → List ℕ → Type 0) (R S : List ℕ → Type 0) (x y : Option (List ℕ)) → ((u v : List ℕ) → P u → Q u v → R v → S v) → IfSome x P → Told Q x y → IfSome y R → IfSome y S
new_three P Q R S x None h p q r = tt
new_three P Q R S None (Some v) h p q r = absurd q
new_three P Q R S (Some u) (Some v) h p q r = h u v p q r

pub old_three : (P : List ℕ → Type 0) (R : List ℕ → List ℕ → Type 0) (Q S : List ℕ → Type 0) (x y : Option (List ℕ)) → ((u v : List ℕ) → P u → R u v → Q v → S u) → IfSome x P → Told R x y → IfSome y Q → IfSome x S
old_three P R Q S None y f p r q = tt
old_three P R Q S (Some u) None f p r q = absurd r
old_three P R Q S (Some u) (Some v) f p r q = f u v p r q

pub if_both : (P Q : List ℕ → Type 0) (x : Option (List ℕ)) → IfSome x P → IfSome x Q → IfSome x (λ u. P u × Q u)
if_both P Q None p q = tt
if_both P Q (Some u) p q = (p, q)

-- a first change, and then another of which two facts are known
pub told_chain : (P : List ℕ → Type 0) (R K E S : List ℕ → List ℕ → Type 0) (x y z : Option (List ℕ)) → ((u v w : List ℕ) → P u → R u v → K v w → E v w → S u w) → IfSome x P → Told R x y → Told K y z → Told E y z → Told S x z
told_chain P R K E S None None None f p r k e = tt
told_chain P R K E S None None (Some w) f p r k e = absurd k
told_chain P R K E S None (Some v) z f p r k e = absurd r
told_chain P R K E S (Some u) None z f p r k e = absurd r
told_chain P R K E S (Some u) (Some v) None f p r k e = absurd k
told_chain P R K E S (Some u) (Some v) (Some w) f p r k e = f u v w p r k e

-- two changes
pub told_two : (P : List ℕ → Type 0) (R E S : List ℕ → List ℕ → Type 0) (x y z : Option (List ℕ)) → ((u v w : List ℕ) → P u → R u v → E v w → S u w) → IfSome x P → Told R x y → Told E y z → Told S x z
told_two P R E S None None None f p r e = tt
told_two P R E S None None (Some w) f p r e = absurd e
told_two P R E S None (Some v) z f p r e = absurd r
told_two P R E S (Some u) None z f p r e = absurd r
told_two P R E S (Some u) (Some v) None f p r e = absurd e
told_two P R E S (Some u) (Some v) (Some w) f p r e = f u v w p r e

-- what holds of the bytes after a change holds of the change
pub told_last : (K : List ℕ → List ℕ → Type 0) (H : List ℕ → Type 0) (y z : Option (List ℕ)) → Told K y z → IfSome z H → Told (λ v w. H w) y z
told_last K H None None k h = tt
told_last K H None (Some w) k h = absurd k
told_last K H (Some v) None k h = absurd k
told_last K H (Some v) (Some w) k h = h

-- nothing changed
pub same_if : (P : List ℕ → Type 0) (R : List ℕ → List ℕ → Type 0) (x y : Option (List ℕ)) → ((u : List ℕ) → P u → R u u) → IfSome x P → y ≡ x → Told R x y
same_if P R x y f p e = subst (λ (o : Option (List ℕ)). Told R x o) (sym e) (here x p)
  where
    here : (x : Option (List ℕ)) → IfSome x P → Told R x x
    here None p = tt
    here (Some u) p = f u p

pub all_told : (x : Option (List ℕ)) → IfSome x (λ u. Unit {0})
all_told None = tt
all_told (Some u) = tt

pub some_told : (P Q : List ℕ → Type 0) (x : Option (List ℕ)) (R : Type 0) → IfSome x P → IsSomeAnd x Q → ((u : List ℕ) → P u → Q u → R) → R
some_told P Q None R p q f = absurd q
some_told P Q (Some u) R p q f = f u p q
