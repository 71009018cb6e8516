use Rattle.std.proofs.Common.{◌≡◌, ◌-◌, ℕ, List, length, ap, sym, subst, ◌∙◌, arith}
use Rattle.smp_cbor.specs.declared.fault.Stop.{Stop}
use Rattle.smp_cbor.specs.Values.{Value, pairs}
use Rattle.smp_cbor.specs.Views.{entries}
use Rattle.smp_cbor.proofs.Maps.{map_found, map_again}
use Rattle.smp_cbor.proofs.FaultIsRefused.{map_refused}
use Rattle.smp_cbor.specs.Faults.{StopsMap}
use Rattle.smp_cbor.proofs.Results.{ok_is, err_is, not_ok}
use Rattle.smp_cbor.proofs.RefusedMap.{map_stops, map_within}
use Rattle.smp_cbor.proofs.reading.read_map.Goals as goal

pub returns-in-Ok-clause-found : goal.returns-in-Ok-clause-found
returns-in-Ok-clause-found c = map_found c.args.bytes.now (entries c.in-Ok.map) (λ i. omega (arith, c.type_inv.bytes i)) c.in-Ok.ensures.map

pub returns-in-Ok-clause-only : goal.returns-in-Ok-clause-only
returns-in-Ok-clause-only c = λ ps spelled.
    let a = map_again c.args.bytes.now ps spelled in
    ap pairs (ok_is (entries c.in-Ok.map) a.0 (sym c.in-Ok.ensures.map ∙ a.1)) ∙ a.2

pub returns-in-Err-clause-only : goal.returns-in-Err-clause-only
returns-in-Err-clause-only c = λ ps spelled.
    let a = map_again c.args.bytes.now ps spelled in
    not_ok c.in-Err.stop a.0 (sym c.in-Err.ensures.map ∙ a.1)

pub returns-in-Err-clause-fault : goal.returns-in-Err-clause-fault
returns-in-Err-clause-fault c =
    let stops = map_stops c.args.bytes.now c.in-Err.stop (λ i. omega (arith, c.type_inv.bytes i)) c.in-Err.ensures.map in
    let within = map_within stops in
    let at : c.saturating_sub.result ≡ length c.args.bytes.now - c.in-Err.stop.left = c.saturating_sub.ensures in
    let back : c.in-Err.stop.left ≡ length c.args.bytes.now - c.saturating_sub.result = omega arith in
    (omega arith, subst (λ n. StopsMap c.args.bytes.now (record { left = n; kind = c.in-Err.stop.kind })) back stops)

pub returns-in-Ok-clause-refused : goal.returns-in-Ok-clause-refused
returns-in-Ok-clause-refused c = λ at kind first.
    not_ok (record { left = length c.args.bytes.now - at; kind = kind }) (entries c.in-Ok.map) (sym (map_refused (λ i. omega (arith, c.type_inv.bytes i)) first.1) ∙ c.in-Ok.ensures.map)

pub returns-in-Err-clause-refused : goal.returns-in-Err-clause-refused
returns-in-Err-clause-refused c = λ at kind first.
    let same : c.in-Err.stop ≡ record { left = length c.args.bytes.now - at; kind = kind } =
    err_is {A = List (List ℕ × Value)} (record { left = length c.args.bytes.now - at; kind = kind }) c.in-Err.stop (sym (map_refused (λ i. omega (arith, c.type_inv.bytes i)) first.1) ∙ c.in-Err.ensures.map) in
    let left : c.in-Err.stop.left ≡ length c.args.bytes.now - at = ap (λ (s : Stop). s.left) same in
    let within = first.0 in
    let sub = c.saturating_sub.ensures in
    (omega arith, ap (λ (s : Stop). s.kind) same)
