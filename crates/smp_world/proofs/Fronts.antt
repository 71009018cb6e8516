-- Fronts of a file.
use Rattle.std.proofs.Common.{◌≡◌, ◌≤◌, ◌+◌, ◌*◌, ◌/◌, ◌==◌, ℕ, List, [], ◌++◌, length, take, drop, sym, ap, ◌∙◌, arith, length-append, append_assoc, append-nil}
use Rattle.std.proofs.Math.Seq.{drop-append_seam}
use Rattle.std.proofs.lemmas.List.{take-append-drop, nil_from_length}
use Rattle.smp_model.specs.Uploads.{kept}
use Rattle.smp_world.specs.UploadJobs.{IsFront}
use Rattle.smp_world.proofs.Cases.{by_if}

pub front_more : (held x whole : List ℕ) → IsFront held whole → IsFront x (drop (length held) whole) → IsFront (held ++ x) whole
front_more held x whole f g =
    let seam : drop (length held) whole ≡ f.0 = ap (drop (length held)) f.1 ∙ drop-append_seam held f.0 in
    (g.0, f.1 ∙ ap (λ (r : List ℕ). held ++ r) (sym seam ∙ g.1) ∙ sym (append_assoc held x g.0))

pub front_append : (held a b whole : List ℕ) → IsFront a b → IsFront (held ++ b) whole → IsFront (held ++ a) whole
front_append held a b whole f g =
    (f.0 ++ g.0, g.1 ∙ ap (λ (x : List ℕ). (held ++ x) ++ g.0) f.1 ∙ ap (λ (x : List ℕ). x ++ g.0) (sym (append_assoc held a f.0)) ∙ append_assoc (held ++ a) f.0 g.0)

pub front_full : (a b : List ℕ) → IsFront a b → length b ≤ length a → a ≡ b
front_full a b f h =
    let none : f.0 ≡ [] = nil_from_length f.0 (omega (arith, length-append a f.0, ap length f.1)) in
    sym (f.1 ∙ ap (λ (r : List ℕ). a ++ r) none ∙ append-nil a)

pub front_short : (a b : List ℕ) → IsFront a b → length a ≤ length b
front_short a b f = omega (arith, length-append a f.0, ap length f.1)

pub kept_front : (unit size held : ℕ) (bytes : List ℕ) → IsFront (kept unit size held bytes) bytes
kept_front unit size held bytes = by_if (λ (k : List ℕ). IsFront k bytes) ((held + length bytes) == size) bytes (take (unit * (length bytes / unit)) bytes)
    (λ _. ([], sym (append-nil bytes))) (λ _. (drop (unit * (length bytes / unit)) bytes, sym (take-append-drop (unit * (length bytes / unit)) bytes)))
