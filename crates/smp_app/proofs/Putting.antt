-- What is put out and what is held while the lines of a transcript are gathered.
use Rattle.std.proofs.Common.{◌≡◌, ℕ, List, [], ◌++◌, Option, Some, None, refl, sym, ap, ◌∙◌, append_assoc, append-nil}
use Rattle.std.specs.Io.KnownBytes.{append_known}
use Rattle.smp_edge.specs.Sink.{AppendsFront}
use Rattle.smp_app.specs.Gathering.{PutOn}

-- nothing more
pub known_none : (old : Option (List ℕ)) → old ≡ append_known old []
known_none None = refl
known_none (Some xs) = ap Some (sym (append-nil xs))

-- two appends are one
pub known_twice : (old : Option (List ℕ)) (a b : List ℕ) → append_known (append_known old a) b ≡ append_known old (a ++ b)
known_twice None a b = refl
known_twice (Some xs) a b = ap Some (append_assoc xs a b)

pub then_known : (old mid new : Option (List ℕ)) (a b : List ℕ) → mid ≡ append_known old a → new ≡ append_known mid b
    → new ≡ append_known old (a ++ b)
then_known old mid new a b first second = second ∙ ap (λ (o : Option (List ℕ)). append_known o b) first ∙ known_twice old a b

-- all is still held
pub all_held : (old new : Option (List ℕ)) (bytes held : List ℕ) → new ≡ old → held ≡ bytes → PutOn old new bytes held
all_held old new bytes held same is = record { front = []; split = sym is; appended = same ∙ known_none old }

-- all was put out
pub all_put : (old new : Option (List ℕ)) (bytes held : List ℕ) → new ≡ append_known old bytes → held ≡ [] → PutOn old new bytes held
all_put old new bytes held put none =
    record { front = bytes; split = sym (append-nil bytes) ∙ ap (λ (xs : List ℕ). bytes ++ xs) (sym none); appended = put }

-- a sink that is left as it was has a front, the empty one
pub none_put : (old new : Option (List ℕ)) (bytes : List ℕ) → new ≡ old → AppendsFront old new bytes
none_put old new bytes same = record { front = []; rest = bytes; split = refl; appended = same ∙ known_none old }

-- all is a front
pub whole_put : (old new : Option (List ℕ)) (bytes : List ℕ) → new ≡ append_known old bytes → AppendsFront old new bytes
whole_put old new bytes put = record { front = bytes; rest = []; split = sym (append-nil bytes); appended = put }
