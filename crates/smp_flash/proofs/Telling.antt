-- Facts about bytes that may not be told.
use Rattle.std.proofs.Common.{◌≡◌, Option, Some, None, List, ℕ, length, sym, ◌∙◌, subst}
use Rattle.std.specs.Prelude.{IfSome}
use Rattle.smp_flash.specs.Area.{area, blank, Told, Erased}
use Rattle.smp_flash.proofs.Areas.{Fades-refl}

-- a fact about the bytes before, and one about both
pub Told-with : (P : List ℕ → Type 0) (R S : List ℕ → List ℕ → Type 0) (x y : Option (List ℕ)) → ((u v : List ℕ) → P u → R u v → S u v) → IfSome x P → Told R x y → Told S x y
Told-with P R S None None step p f = tt
Told-with P R S None (Some v) step p f = absurd f
Told-with P R S (Some u) None step p f = absurd f
Told-with P R S (Some u) (Some v) step p f = step u v p f

-- and so about the bytes after
pub Told-after : (P : List ℕ → Type 0) (R : List ℕ → List ℕ → Type 0) (Q : List ℕ → Type 0) (x y : Option (List ℕ)) → ((u v : List ℕ) → P u → R u v → Q v) → IfSome x P → Told R x y → IfSome y Q
Told-after P R Q None None step p f = tt
Told-after P R Q None (Some v) step p f = absurd f
Told-after P R Q (Some u) None step p f = absurd f
Told-after P R Q (Some u) (Some v) step p f = step u v p f

-- what a change alone says of the bytes after it
pub Told-new : (R : List ℕ → List ℕ → Type 0) (Q : List ℕ → Type 0) (x y : Option (List ℕ)) → ((u v : List ℕ) → R u v → Q v) → Told R x y → IfSome y Q
Told-new R Q None None step f = tt
Told-new R Q None (Some v) step f = absurd f
Told-new R Q (Some u) None step f = absurd f
Told-new R Q (Some u) (Some v) step f = step u v f

pub Told-both : (P Q : List ℕ → List ℕ → Type 0) (x y : Option (List ℕ)) → Told P x y → Told Q x y → Told (λ u v. P u v × Q u v) x y
Told-both P Q None None f g = tt
Told-both P Q None (Some v) f g = absurd f
Told-both P Q (Some u) None f g = absurd f
Told-both P Q (Some u) (Some v) f g = (f, g)

pub IfSome-map : (P Q : List ℕ → Type 0) (x : Option (List ℕ)) → ((u : List ℕ) → P u → Q u) → IfSome x P → IfSome x Q
IfSome-map P Q None step p = tt
IfSome-map P Q (Some u) step p = step u p

pub Told-trans : (P Q R : List ℕ → List ℕ → Type 0) (x y z : Option (List ℕ)) → ((u v w : List ℕ) → P u v → Q v w → R u w) → Told P x y → Told Q y z → Told R x z
Told-trans P Q R None None None step f g = tt
Told-trans P Q R None None (Some w) step f g = absurd g
Told-trans P Q R None (Some v) z step f g = absurd f
Told-trans P Q R (Some u) None z step f g = absurd f
Told-trans P Q R (Some u) (Some v) None step f g = absurd g
Told-trans P Q R (Some u) (Some v) (Some w) step f g = step u v w f g

pub Told-map : (P Q : List ℕ → List ℕ → Type 0) (x y : Option (List ℕ)) → ((u v : List ℕ) → P u v → Q u v) → Told P x y → Told Q x y
Told-map P Q None None step f = tt
Told-map P Q None (Some v) step f = absurd f
Told-map P Q (Some u) None step f = absurd f
Told-map P Q (Some u) (Some v) step f = step u v f

pub Told-same : (P : List ℕ → List ℕ → Type 0) (x y : Option (List ℕ)) → ((u : List ℕ) → P u u) → y ≡ x → Told P x y
Told-same P None None step e = tt
Told-same P None (Some v) step e = absurd (cc e)
Told-same P (Some u) None step e = absurd (cc e)
Told-same P (Some u) (Some v) step e = let same : v ≡ u = cc e in subst (P u) (sym same) (step u)

pub Told-from : (P : List ℕ → List ℕ → Type 0) (x y z : Option (List ℕ)) → y ≡ x → Told P y z → Told P x z
Told-from P x y z e f = subst (λ (o : Option (List ℕ)). Told P o z) e f

-- a page is found erased
pub Erased-found : (at size : ℕ) (x y : Option (List ℕ)) → y ≡ x → IfSome x (λ held. area at size held ≡ blank size) → Told (Erased at size) x y
Erased-found at size None None same is = tt
Erased-found at size None (Some y) same is = absurd (cc same)
Erased-found at size (Some x) None same is = absurd (cc same)
Erased-found at size (Some x) (Some y) same is =
    let e : y ≡ x = cc same in
    subst (λ (v : List ℕ). Erased at size x v) (sym e) (record { fades = Fades-refl at size x; erased = is })

-- what was read is erased
pub found_erased : (at size : ℕ) (x : Option (List ℕ)) (found : List ℕ) → IfSome x (λ held. found ≡ area at (length found) held) → length found ≡ size → found ≡ blank (length found)
    → IfSome x (λ held. area at size held ≡ blank size)
found_erased at size None found read long is = tt
found_erased at size (Some x) found read long is =
    let P : ℕ → Type 0 = λ n. area at n x ≡ blank n in subst P long (sym read ∙ is)

-- a fact before, and two changes
pub Told-three : (A : List ℕ → Type 0) (P Q R : List ℕ → List ℕ → Type 0) (x y z : Option (List ℕ))
    → ((u v w : List ℕ) → A u → P u v → Q v w → R u w) → IfSome x A → Told P x y → Told Q y z → Told R x z
Told-three A P Q R None None None step a p q = tt
Told-three A P Q R None None (Some w) step a p q = absurd q
Told-three A P Q R None (Some v) z step a p q = absurd p
Told-three A P Q R (Some u) None z step a p q = absurd p
Told-three A P Q R (Some u) (Some v) None step a p q = absurd q
Told-three A P Q R (Some u) (Some v) (Some w) step a p q = step u v w a p q

-- a fact before, two changes, and a fact after
pub Told-four : (A : List ℕ → Type 0) (P Q : List ℕ → List ℕ → Type 0) (B : List ℕ → Type 0) (R : List ℕ → List ℕ → Type 0) (x y z : Option (List ℕ))
    → ((u v w : List ℕ) → A u → P u v → Q v w → B w → R u w) → IfSome x A → Told P x y → Told Q y z → IfSome z B → Told R x z
Told-four A P Q B R None None None step a p q b = tt
Told-four A P Q B R None None (Some w) step a p q b = absurd q
Told-four A P Q B R None (Some v) z step a p q b = absurd p
Told-four A P Q B R (Some u) None z step a p q b = absurd p
Told-four A P Q B R (Some u) (Some v) None step a p q b = absurd q
Told-four A P Q B R (Some u) (Some v) (Some w) step a p q b = step u v w a p q b

-- two changes and a fact after say something of the bytes after
pub Told-last : (P Q : List ℕ → List ℕ → Type 0) (B C : List ℕ → Type 0) (x y z : Option (List ℕ))
    → ((u v w : List ℕ) → P u v → Q v w → B w → C w) → Told P x y → Told Q y z → IfSome z B → IfSome z C
Told-last P Q B C None None None step p q b = tt
Told-last P Q B C None None (Some w) step p q b = absurd q
Told-last P Q B C None (Some v) z step p q b = absurd p
Told-last P Q B C (Some u) None z step p q b = absurd p
Told-last P Q B C (Some u) (Some v) None step p q b = absurd q
Told-last P Q B C (Some u) (Some v) (Some w) step p q b = step u v w p q b

-- a fact about bytes that stayed
pub IfSome-same : (P : List ℕ → Type 0) (x y : Option (List ℕ)) → y ≡ x → IfSome x P → IfSome y P
IfSome-same P x y same p = subst (λ (o : Option (List ℕ)). IfSome o P) (sym same) p
