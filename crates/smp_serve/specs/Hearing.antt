-- What is heard and sent over a link, by what the link tells of itself.
use Rattle.std.specs.Prelude.{◌≡◌, ◌⊎◌, ℕ, zero, suc, List, [], ◌∷◌, ◌++◌, length, drop, Option, IfSome, option_map}
use Rattle.smp_edge.specs.Link.{next_item, without_next}
use Rattle.smp_edge.specs.declared.scripts.Scripted.{Scripted}
use Rattle.smp_edge.specs.declared.scripts.Sent.{Sent}

-- a link's script, and what was sent over it, where it tells them
pub record LinkState : Type 0 where
  pub script : Option (List Scripted)
  pub sent : Option (List Sent)

abbrev pub link_state : Option (List Scripted) → Option (List Sent) → LinkState
link_state script sent = record { script = script; sent = sent }

-- what is heard of a script in so many hearings: after its last item it is quiet
unfoldable pub heard_of : ℕ → List Scripted → List Scripted
heard_of zero items = []
heard_of (suc n) items = next_item items ∷ heard_of n (drop 1 items)

-- A script without the items of so many hearings.
abbrev pub without : ℕ → Option (List Scripted) → Option (List Scripted)
without n script = option_map (drop n) script

-- one item was heard
pub record HearsOne (a b : Option (List Scripted)) (item : Scripted) : Type 0 where
  pub told : IfSome a (λ items. item ≡ next_item items)
  pub left : b ≡ without_next a

-- These items were heard, and no other.
pub record HearsAll (a b : Option (List Scripted)) (heard : List Scripted) : Type 0 where
  pub told : IfSome a (λ items. heard ≡ heard_of (length heard) items)
  pub left : b ≡ without (length heard) a

-- These items were heard before a hearing that failed, which took one more or none.
pub record HearsBefore (a b : Option (List Scripted)) (heard : List Scripted) : Type 0 where
  pub middle : Option (List Scripted)
  pub hears : HearsAll a middle heard
  pub left : (b ≡ middle) ⊎ (b ≡ without_next middle)

-- what was sent, with these packets more
abbrev pub with_all : Option (List Sent) → List Sent → Option (List Sent)
with_all sent more = option_map (λ packets. packets ++ more) sent
