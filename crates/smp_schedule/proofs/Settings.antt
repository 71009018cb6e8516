-- The settings that were read so far, and those of the words that are left.
use Rattle.std.proofs.Common.{◌≡◌, ℕ, List, [], ◌∷◌, ◌++◌, Option, Some, None, refl, sym, ap, ◌∙◌, append-nil, append_assoc}
use Rattle.smp_model.specs.declared.setting.Setting.{Setting}
use Rattle.smp_schedule.specs.Words.{name_in}
use Rattle.smp_schedule.specs.Jobs.{pairs_in, pair_in, value_in, with_pair}

abbrev pub behind : List Setting → Option (List Setting) → Option (List Setting)
behind pairs None = None
behind pairs (Some others) = Some (pairs ++ others)

behind_one : (pairs : List Setting) (pair : Setting) (others : Option (List Setting)) → behind pairs (with_pair (Some pair) others) ≡ behind (pairs ++ pair ∷ []) others
behind_one pairs pair None = refl
behind_one pairs pair (Some others) = ap Some (sym (append_assoc pairs (pair ∷ []) others))

pub one_more : (pairs : List Setting) (name val : List ℕ) (words : List (List ℕ)) (pair : Setting) → Some pair ≡ pair_in (name_in 32 name) (value_in val)
    → behind pairs (pairs_in (name ∷ val ∷ words)) ≡ behind (pairs ++ pair ∷ []) (pairs_in words)
one_more pairs name val words pair e =
    ap (λ (o : Option Setting). behind pairs (with_pair o (pairs_in words))) (sym e) ∙ behind_one pairs pair (pairs_in words)

pub no_pair : (pairs : List Setting) (name val : List ℕ) (words : List (List ℕ)) → None ≡ pair_in (name_in 32 name) (value_in val)
    → behind pairs (pairs_in (name ∷ val ∷ words)) ≡ None
no_pair pairs name val words e = ap (λ (o : Option Setting). behind pairs (with_pair o (pairs_in words))) (sym e)

pub no_more : (pairs : List Setting) → behind pairs (pairs_in []) ≡ Some pairs
no_more pairs = ap Some (append-nil pairs)
