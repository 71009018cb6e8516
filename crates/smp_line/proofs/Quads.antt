-- Symbols come in fours.
use Rattle.std.proofs.Common.{◌≡◌, ◌≢◌, ℕ, ◌%◌, List, length, replicate, None, Result, Ok, Err, refl, ap, ◌∙◌, arith, length-append}
use Rattle.std.proofs.lemmas.List.{length-replicate}
use Rattle.std.specs.Result.{result_ok}
use Rattle.base64.specs.Engines.{standard}
use Rattle.base64.specs.declared.decode.DecodeError.{DecodeError}
use Rattle.base64.specs.GeneralPurpose.{encode_of, decode_of, engine_symbols}
use Rattle.base64.specs.Rfc4648.{encode_symbols, padding_len}
use Rattle.base64.proofs.EngineFacts.{decode_of_strict}
use Rattle.base64.proofs.RoundTrip.{length-encode_symbols}
use Rattle.smp_line.specs.Line.{AreBytes}

in_fours : (bytes : List ℕ) → length (encode_of standard bytes) % 4 ≡ 0
in_fours bytes =
    let symbols : List ℕ = encode_symbols (engine_symbols standard) bytes in
    let padding : ℕ = padding_len (length bytes) in
    omega (arith, length-append symbols (replicate padding 61), length-encode_symbols (engine_symbols standard) bytes, length-replicate {A = ℕ} padding 61)

-- other texts spell nothing
pub not_in_fours : (s : List ℕ) → AreBytes s → length s % 4 ≢ 0 → result_ok (decode_of standard s) ≡ None
not_in_fours s bytes other = by_answer (decode_of standard s) refl where
  by_answer : (r : Result (List ℕ) DecodeError) → decode_of standard s ≡ r → result_ok r ≡ None
  by_answer (Ok b) e =
      let same : s ≡ encode_of standard b = decode_of_strict standard s b (refl, refl) bytes e in
      absurd (other (ap (λ (x : List ℕ). length x % 4) same ∙ in_fours b))
  by_answer (Err x) e = refl
