-- What follows an answer: to a part that was accepted, and to the mark.
use Rattle.std.proofs.Common.{◌≡◌, ◌<◌, ◌==◌, if◌then◌else◌, Result, Ok, Err, ℕ, List, [], ◌∷◌, length, Bool, true, false, Option, Some, None, refl, ap, subst, ◌∙◌, arith, eq-eqb}
use Rattle.std.specs.Prelude.{IfSome}
use Rattle.std.proofs.lemmas.Bool.Decides.{nat_tests}
use Rattle.smp_cbor.specs.Shortest.{shortest}
use Rattle.smp_model.specs.declared.device.AbstractDevice.{AbstractDevice}
use Rattle.smp_model.specs.declared.device.Side.{Side}
use Rattle.smp_model.specs.ImageGroup.{confirms, marks, mark_of as group_mark, runs, holds, lists_with, confirms_on, marks_on, sets_hash, sets_image, refuses_image}
use Rattle.smp_model.specs.Response.{Response, settling}
use Rattle.smp_model.specs.Sides.{SideStep}
use Rattle.smp_model.specs.declared.device.Sizes.{Sizes}
use Rattle.smp_model.specs.Does.{does}
use Rattle.smp_model.specs.Meant.{Meant}
use Rattle.smp_model.specs.Said as said
use Rattle.smp_model.specs.Said.{Said, is_error, reply_value}
use Rattle.smp_model.specs.Steps.{side_at, settle}
use Rattle.smp_reply.specs.declared.answer.Asked.TheVariants as kinds
use Rattle.smp_reply.specs.Held.{CanSay}
use Rattle.smp_reply.specs.Told as told
use Rattle.smp_jobs.specs.Jobs.{UploadJob, confirms as job_confirms, Next, asks, start_of, part_of, mark_of, at_end, at_offset, from_offset, is_outside}
use Rattle.smp_world.specs.Runs.{Moment}
use Rattle.smp_world.specs.Deliveries.{IsAccepted}
use Rattle.smp_world.specs.Below.{LawsBelow}
use Rattle.smp_world.proofs.Cases.{if_true, if_false}

pub accepted_reply : (a : Moment) (r : Meant) (s : Said) → IfSome a.request (λ x. IsAccepted a.reply) → a.request ≡ Some r → a.reply ≡ Some s → (is_error s ≡ false) × CanSay s
accepted_reply a r s ok req rep =
    subst IsAccepted rep (subst (λ (o : Option Meant). IfSome o (λ x. IsAccepted a.reply)) req ok)

pub told_offset : LawsBelow → (s : Said) (n : ℕ) (m : Option Bool) → s ≡ said.offset n m → CanSay s → told.told kinds.Offset (shortest (reply_value 1 s)) ≡ Some (told.offset n m)
told_offset law s n m is can =
    ap (λ (x : Said). told.told kinds.Offset (shortest (reply_value 1 x))) is ∙ law.replies 1 kinds.Offset (said.offset n m) (subst CanSay is can) tt

-- what follows an offset that is right
pub from_right : (j : UploadJob) (n : ℕ) (m : Option Bool) → (m ≡ Some false → ⊥) → from_offset j n m ≡ at_offset j n
from_right j n None no_ = refl
from_right j n (Some true) no_ = refl
from_right j n (Some false) no_ = absurd (no_ refl)

pub at_full : (j : UploadJob) (n : ℕ) → n ≡ length j.file → at_offset j n ≡ at_end j j.ending
at_full j n e = if_true (λ (x : Next). x ≡ at_end j j.ending) (n == length j.file) (at_end j j.ending) (asks (if is_outside n j.file then start_of j else part_of j n)) (eq-eqb n (length j.file) e) refl

pub at_part : (j : UploadJob) (n : ℕ) → 0 < n → n < length j.file → at_offset j n ≡ asks (part_of j n)
at_part j n some within =
    if_false (λ (x : Next). x ≡ asks (part_of j n)) (n == length j.file) (at_end j j.ending) (asks (if is_outside n j.file then start_of j else part_of j n)) (grind (arith, nat_tests))
    (if_false (λ (x : Meant). asks x ≡ asks (part_of j n)) (is_outside n j.file) (start_of j) (part_of j n) (grind (arith, nat_tests)) refl)

-- The replies to a mark: a list, or an error of the group.
abbrev pub MarkShape : Said → Type 0
MarkShape (said.images a b) = Unit {0}
MarkShape (said.group_error g n) = Unit {0}
MarkShape s = ⊥

abbrev ShapeOf : Response → Type 0
ShapeOf r = MarkShape r.reply

listed_shape : (i : ℕ) (r : Result (List SideStep) ℕ) (d : AbstractDevice) → ShapeOf (lists_with i r d)
listed_shape i (Ok steps) d = tt
listed_shape i (Err n) d = tt

confirms_shape : (i : ℕ) (b : Bool) (o : Option Side) (d : AbstractDevice) → ShapeOf (confirms_on i b o d)
confirms_shape i b None d = tt
confirms_shape i b (Some s) d = listed_shape i (confirms b s.confirmed) d

marks_shape : (i : ℕ) (b : Bool) (o : Option Side) (d : AbstractDevice) → ShapeOf (marks_on i b o d)
marks_shape i b None d = tt
marks_shape i b (Some s) d = listed_shape i (marks (group_mark b) s.pending) d

ways : (b : Bool) (x y : Response) → ShapeOf x → ShapeOf y → ShapeOf (if b then x else y)
ways true x y p q = p
ways false x y p q = q

hash_shape : (hash : List ℕ) (b : Bool) (d : AbstractDevice) → ShapeOf (sets_hash hash b d)
hash_shape hash b d =
    ways (runs hash (side_at 0 d)) _ _ (confirms_shape 0 b (side_at 0 d) d) (ways (runs hash (side_at 1 d)) _ _ (confirms_shape 1 b (side_at 1 d) d)
    (ways (holds hash (side_at 0 d)) _ _ (marks_shape 0 b (side_at 0 d) d) (ways (holds hash (side_at 1 d)) _ (refuses_image 8) (marks_shape 1 b (side_at 1 d) d) tt)))

pub mark_shape : (sizes : Sizes) (j : UploadJob) (d : AbstractDevice) → 0 < length j.hash → MarkShape (does sizes d (mark_of j)).reply
mark_shape sizes j d some = by_hash j.hash refl
  where
    by_hash : (h : List ℕ) → j.hash ≡ h → ShapeOf (sets_image d (Some h) (job_confirms j.ending))
    by_hash [] e = let n = ap (λ (x : List ℕ). length x) e in absurd (omega (arith, n, some))
    by_hash (x ∷ xs) e = ways (length (x ∷ xs) == 32) (settling d (sets_hash (x ∷ xs) (job_confirms j.ending))) (refuses_image 24) (hash_shape (x ∷ xs) (job_confirms j.ending) (settle d)) tt

-- an answer to a mark that was accepted
pub told_done : LawsBelow → (s : Said) → MarkShape s → is_error s ≡ false → CanSay s → told.told kinds.Done (shortest (reply_value 1 s)) ≡ Some told.done
told_done law (said.images x y) m e can = law.replies 1 kinds.Done (said.images x y) can tt
told_done law (said.group_error group n) m e can = cc
told_done law (said.smp_error n) m e can = absurd m
told_done law said.empty m e can = absurd m
told_done law (said.echo x) m e can = absurd m
told_done law said.parameters m e can = absurd m
told_done law (said.stat_group x y z) m e can = absurd m
told_done law said.stat_list m e can = absurd m
told_done law (said.offset o g) m e can = absurd m
told_done law (said.setting v) m e can = absurd m
told_done law (said.file_part x y z) m e can = absurd m
told_done law (said.file_length l) m e can = absurd m
told_done law (said.file_hash x y z) m e can = absurd m
told_done law said.file_types m e can = absurd m
