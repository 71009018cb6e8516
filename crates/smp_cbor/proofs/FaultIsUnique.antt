-- A first fault is the only one, and stands in no map.
use Rattle.std.proofs.Common.{◌≡◌, ℕ, ◌-◌, ◌≤◌, List, length, sym, ap, ◌∙◌, arith}
use Rattle.smp_cbor.specs.declared.fault.Stop.{Stop}
use Rattle.smp_cbor.specs.Values.{Value}
use Rattle.smp_cbor.specs.Laws.{HasOneFault, HasNoFaultWhereMap}
use Rattle.smp_cbor.proofs.Results.{err_is, not_ok}
use Rattle.smp_cbor.proofs.HeadLaws.{IsBytes}
use Rattle.smp_cbor.proofs.Maps.{map_again}
use Rattle.smp_cbor.proofs.FaultIsRefused.{map_refused}

-- a place by what is left after it
left_at : (n at at' : ℕ) → at ≤ n → at' ≤ n → n - at ≡ n - at' → at ≡ at'
left_at n at at' a b e = omega arith

pub one_fault : (b : List ℕ) → IsBytes b → HasOneFault b
one_fault b fits at at' kind kind' one two =
    let same : record { left = length b - at; kind = kind } ≡ record { left = length b - at'; kind = kind' } =
    sym (err_is {A = List (List ℕ × Value)} (record { left = length b - at; kind = kind }) (record { left = length b - at'; kind = kind' }) (sym (map_refused fits one.1) ∙ map_refused fits two.1)) in
    (left_at (length b) at at' one.0 two.0 (ap (λ (s : Stop). s.left) same), ap (λ (s : Stop). s.kind) same)

pub no_fault : (b : List ℕ) → IsBytes b → HasNoFaultWhereMap b
no_fault b fits ps at kind is one = let m = map_again b ps is in not_ok (record { left = length b - at; kind = kind }) m.0 (sym (map_refused fits one.1) ∙ m.1)
