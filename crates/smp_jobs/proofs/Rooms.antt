-- How many more packets may be sent.
use Rattle.std.proofs.Common.{◌≡◌, ◌+◌, ◌-◌, ℕ, zero, suc, true, false, Option, Some, None, refl, sym, ap, ◌∙◌, arith}
use Rattle.std.specs.Option.{option_map}
use Rattle.std.specs.Prelude.{nat_lt}
use Rattle.std.proofs.lemmas.Bool.Decides.{nat_tests}
use Rattle.smp_jobs.specs.Jobs.{Job, most_packets, is_below, may_send}
use Rattle.smp_jobs.specs.States.{spend, room_of}

-- the room below a bound, after so many packets
abbrev pub below : Option ℕ → ℕ → Option ℕ
below most sent = option_map (λ most. most - sent) most

is_more : (most sent d : ℕ) (left : Option ℕ) → most - sent ≡ d → spend (Some d) ≡ Some left → nat_lt sent most ≡ true
is_more most sent zero left e h = absurd cc
is_more most sent (suc n) left e h = grind (arith, nat_tests)

one_less : (most sent d : ℕ) (left : Option ℕ) → most - sent ≡ d → spend (Some d) ≡ Some left → left ≡ Some (most - (sent + 1))
one_less most sent zero left e h = absurd cc
one_less most sent (suc n) left e h =
    let is : n ≡ most - (sent + 1) = omega arith in
    let told : Some n ≡ left = cc in
    sym told ∙ ap Some is

no_more : (most sent d : ℕ) → most - sent ≡ d → spend (Some d) ≡ None → nat_lt sent most ≡ false
no_more most sent zero e h = grind (arith, nat_tests)
no_more most sent (suc n) e h = absurd cc

pub goes_below : (most : Option ℕ) (sent : ℕ) (left : Option ℕ) → spend (below most sent) ≡ Some left → is_below sent most ≡ true
goes_below None sent left h = refl
goes_below (Some most) sent left h = is_more most sent (most - sent) left refl h

pub left_below : (most : Option ℕ) (sent : ℕ) (left : Option ℕ) → spend (below most sent) ≡ Some left → left ≡ below most (sent + 1)
left_below None sent left h = let told : None ≡ left = cc in sym told
left_below (Some most) sent left h = one_less most sent (most - sent) left refl h

pub ends_below : (most : Option ℕ) (sent : ℕ) → spend (below most sent) ≡ None → is_below sent most ≡ false
ends_below None sent h = absurd cc
ends_below (Some most) sent h = no_more most sent (most - sent) refl h

-- a packet that may be sent, and one that may not
pub may : (job : Job) (sent : ℕ) (room left : Option ℕ) → room ≡ room_of job sent → spend room ≡ Some left → may_send job sent ≡ true
may job sent room left e h = goes_below (most_packets job) sent left (sym (ap spend e) ∙ h)

pub left_after : (job : Job) (sent : ℕ) (room left : Option ℕ) → room ≡ room_of job sent → spend room ≡ Some left → left ≡ room_of job (sent + 1)
left_after job sent room left e h = left_below (most_packets job) sent left (sym (ap spend e) ∙ h)

pub may_not : (job : Job) (sent : ℕ) (room : Option ℕ) → room ≡ room_of job sent → spend room ≡ None → may_send job sent ≡ false
may_not job sent room e h = ends_below (most_packets job) sent (sym (ap spend e) ∙ h)
