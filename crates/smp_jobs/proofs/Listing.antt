-- The pairs of a map that is a value.
use Rattle.std.proofs.Common.{◌≡◌, ℕ, List, [], ◌∷◌, ap, refl}
use Rattle.smp_cbor.specs.Values.{Value, pairs}
use Rattle.smp_reply.specs.Told.{pairs_in}

pub pairs_again : (ps : List (List ℕ × Value)) → pairs_in (pairs ps) ≡ ps
pairs_again [] = refl
pairs_again (p ∷ ps) = ap (λ (ps : List (List ℕ × Value)). p ∷ ps) (pairs_again ps)
