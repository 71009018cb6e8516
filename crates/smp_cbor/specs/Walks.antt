-- Walks over the pairs of a map that keep keys: what is still to be read where no more can be kept.
use Rattle.std.specs.Prelude.{ℕ, List, map, Bool, Result, Ok, Err}
use Rattle.std.specs.Borrow.{Bor}
use Rattle.smp_cbor.specs.declared.fault.Stop.{Stop}
use Rattle.smp_cbor.specs.declared.keys.Walk.{Walk}
use Rattle.smp_cbor.specs.declared.keys.Walk.TheVariants as walks
use Rattle.smp_cbor.specs.Skipping.{Skip}
use Rattle.smp_cbor.specs.Values.{distinct_pairs}

-- texts as lists of bytes
abbrev pub texts_of : List (Bor (List ℕ)) → List (List ℕ)
texts_of texts = map (λ text. text.now) texts

-- the bytes after all pairs, where a walk over the first of them kept these keys
abbrev pub after_walk : Bool → Skip → List (List ℕ) → Result Walk Stop → Result (List ℕ) Stop
after_walk ends skip kept (Ok (walks.Ended rest)) = Ok rest.now
after_walk ends skip kept (Ok (walks.Full turns rest)) = distinct_pairs ends skip kept turns rest.now
after_walk ends skip kept (Err stop) = Err stop
