-- What requests leave of the sides: offsets are held, `match` is true, settled sides stay settled; what is kept of a part; how
-- the target of parts moves.
use Rattle.std.proofs.Common.{◌≡◌, ◌≤◌, ◌<◌, ◌+◌, ◌==◌, ◌⊎◌, inl, inr, ℕ, List, [], ◌∷◌, ◌++◌, length, Bool, true, false, Option, Some, None, refl, sym, ap, subst, ◌∙◌, arith, append-nil, if◌then◌else◌}
use Rattle.std.specs.Prelude.{IfSome, option_map}
use Rattle.std.proofs.lemmas.Bool.Decides.{nat_tests}
use Rattle.smp_model.specs.declared.device.AbstractDevice.{AbstractDevice}
use Rattle.smp_model.specs.declared.device.Side.{Side}
use Rattle.smp_model.specs.declared.device.Sizes.{Sizes}
use Rattle.smp_model.specs.declared.device.Upload.{Upload}
use Rattle.smp_model.specs.Does.{does}
use Rattle.smp_model.specs.Due.{Announces, IsUpload, IsSideStepDue, IsStepDue}
use Rattle.smp_model.specs.ImageGroup.{part_at, side_of, is_offset, aims, has_wrong_size, start_of, uploads_to, uploads, refuses_image}
use Rattle.smp_model.specs.Laws.{EachStep, EachSide, ReplyHeld, MatchHolds, Reaches, StartsWith, is_foreign, IsOn, IsSound}
use Rattle.smp_model.specs.Meant as meant
use Rattle.smp_model.specs.Meant.{Meant}
use Rattle.smp_model.specs.Response.{Response, SideResponse, settling_side}
use Rattle.smp_model.specs.Said.{Said, if_some}
use Rattle.smp_model.specs.Sides.{SideStep, Choose, Append, Drop, MarkPending, Confirm, side_apply, side_applied, side_settle_steps, side_settle}
use Rattle.smp_model.specs.Steps.{Step, OnSide, Save, Run, with_side, side_at, apply, applied, on_side, settle, settle_steps, settle_steps_of, settle_of}
use Rattle.smp_model.specs.Uploads.{is_spoiled, is_tagged_by}
use Rattle.smp_model.proofs.Cases.{by_if, either_way}
use Rattle.smp_model.proofs.OnSides.{side_other, side_saved, side_changed, side_with, kept_along, same_or_other, at_each, each_of}
use Rattle.smp_model.proofs.DueSteps.{does_due}
use Rattle.smp_model.proofs.Marks.{only_one_side}
use Rattle.smp_model.proofs.Pending.{the_same, sides_part, settles_none, whole}
use Rattle.smp_model.proofs.Replies.{Sound, part_sound, start_sound, settles_once, foreign_stores_nothing, start_enough, part_enough}
use Rattle.smp_model.proofs.Requests.{upload_cases, starting, announced, left_by, aims_leave, settled_side, settled_side_of}
use Rattle.smp_model.specs.declared.error.TheConstants.{INVALID_DIGEST}
use Rattle.smp_model.proofs.RequestKinds.{by_upload}
use Rattle.smp_model.specs.declared.upload.Announcement.{Announcement}

-- what a reply says of the side that it leaves
abbrev pub Borne : Said → Side → Type 0
Borne reply s = ReplyHeld reply s.upload × MatchHolds reply s.upload

all_some : {A : Type 0} (P : A → Type 0) (o : Option A) → ((x : A) → P x) → IfSome o P
all_some P None f = tt
all_some P (Some x) f = f x

borne_by : (i : ℕ) (d : AbstractDevice) (s : Side) (between : List Step) (r : SideResponse) → side_at i d ≡ Some s → ((e : AbstractDevice) → side_at i (applied between e) ≡ side_at i e)
    → Sound (side_settle s) r → IfSome (side_at i (applied (settling_side i s between r).steps d)) (Borne r.reply)
borne_by i d s between r found same h = subst (λ o. IfSome o (Borne r.reply)) (sym (left_by i d s between r found same)) (h.held, h.tells)

settled_pending : (s : Side) → (side_settle s).pending ≡ s.pending
settled_pending s = either_way (λ (steps : List SideStep). (side_applied steps s).pending ≡ s.pending) (is_spoiled s.upload) (Drop ∷ []) [] refl refl

pub upload_borne : (sizes : Sizes) (d : AbstractDevice) (image len : Option ℕ) (off : ℕ) (sha : Option (List ℕ)) (part : List ℕ)
    → IfSome (side_at (side_of d.target image off sha) (applied (uploads sizes d image len off sha part).steps d)) (Borne (uploads sizes d image len off sha part).reply)
upload_borne sizes d image len off sha part =
    upload_cases (λ (r : Response). IfSome (side_at i (applied r.steps d)) (Borne r.reply)) sizes d image len off sha part
    (λ n. all_some (Borne (refuses_image n).reply) (side_at i d) (λ s. (tt, tt)))
    (λ s n found l z long. borne_by i d s (aims i (starting sizes s n sha part).reply) (starting sizes s n sha part) found (aims_leave i i (starting sizes s n sha part).reply)
    (start_sound sizes.unit (side_settle s) s.pending (announced n sha) part long))
    (λ s found z. borne_by i d s [] (part_at sizes.unit off sha part (side_settle s).upload) found (λ e. refl) (part_sound sizes.unit (side_settle s) off sha part))
  where
    i : ℕ
    i = side_of d.target image off sha

-- Sides that are settled stay so.
not_spoiled_of : (s : Side) → IsSound s → is_spoiled s.upload ≡ false
not_spoiled_of s h = go (is_spoiled s.upload) refl h
  where
    go : (b : Bool) → is_spoiled s.upload ≡ b → (if b then Drop ∷ [] else []) ≡ [] → is_spoiled s.upload ≡ false
    go true e k = cc
    go false e k = e

announces_uploads : (a : Announcement) (m : Meant) → Announces a m → IsUpload m
announces_uploads a = by_upload (λ m. Announces a m → IsUpload m) (λ image len off sha part h. tt) (λ m other h. absurd (other.none_announced a h))

-- a step of a request that is no upload
sound_step : (sizes : Sizes) (m : Meant) → (IsUpload m → ⊥) → (s : Side) (t : SideStep) → IsSound s → IsSideStepDue sizes m t s → IsSound (side_apply t s)
sound_step sizes m other s (Choose a) h k = absurd (other (announces_uploads a m k.1.1))
sound_step sizes m other s (Append x) h k = absurd (other k.1)
sound_step sizes m other s Drop h k = refl
sound_step sizes m other s (MarkPending n) h k = h
sound_step sizes m other s Confirm h k = h

pub others_stay : (i j : ℕ) (steps : List Step) (d : AbstractDevice) → EachStep (IsOn i) steps → (i ≡ j → ⊥) → side_at j (applied steps d) ≡ side_at j d
others_stay i j [] d h n = refl
others_stay i j (OnSide k t ∷ steps) d h n = others_stay i j steps (apply (OnSide k t) d) h.1 n ∙ side_other k j (side_apply t) d (λ e. n (sym h.0 ∙ e))
others_stay i j (Save ∷ steps) d h n = others_stay i j steps (apply Save d) h.1 n ∙ side_saved j d
others_stay i j (Run c ∷ steps) d h n = others_stay i j steps (apply (Run c) d) h.1 n ∙ side_changed j c d

sound_left : (i : ℕ) (d : AbstractDevice) (s : Side) (between : List Step) (r : SideResponse) → side_at i d ≡ Some s → ((e : AbstractDevice) → side_at i (applied between e) ≡ side_at i e)
    → Sound (side_settle s) r → IfSome (side_at i (applied (settling_side i s between r).steps d)) IsSound
sound_left i d s between r found same h =
    subst (λ o. IfSome o IsSound) (sym (left_by i d s between r found same)) (settles_none (side_applied r.steps (side_settle s)) (h.settled (settles_once s)))

upload_sound_at : (sizes : Sizes) (d : AbstractDevice) (image len : Option ℕ) (off : ℕ) (sha : Option (List ℕ)) (part : List ℕ) → IfSome (side_at (side_of d.target image off sha) d) IsSound
    → IfSome (side_at (side_of d.target image off sha) (applied (uploads sizes d image len off sha part).steps d)) IsSound
upload_sound_at sizes d image len off sha part h =
    upload_cases (λ (r : Response). IfSome (side_at i (applied r.steps d)) IsSound) sizes d image len off sha part
    (λ n. h)
    (λ s n found l z long. sound_left i d s (aims i (starting sizes s n sha part).reply) (starting sizes s n sha part) found (aims_leave i i (starting sizes s n sha part).reply)
    (start_sound sizes.unit (side_settle s) s.pending (announced n sha) part long))
    (λ s found z. sound_left i d s [] (part_at sizes.unit off sha part (side_settle s).upload) found (λ e. refl) (part_sound sizes.unit (side_settle s) off sha part))
  where
    i : ℕ
    i = side_of d.target image off sha

some_of : {A : Type 0} (P : A → Type 0) (o : Option A) (x : A) → o ≡ Some x → IfSome o P → P x
some_of P o x e h = subst (λ q. IfSome q P) e h

if_some_of : {A : Type 0} (P : A → Type 0) (o : Option A) → ((x : A) → o ≡ Some x → P x) → IfSome o P
if_some_of P None f = tt
if_some_of P (Some x) f = f x refl

upload_sound : (sizes : Sizes) (d : AbstractDevice) (image len : Option ℕ) (off : ℕ) (sha : Option (List ℕ)) (part : List ℕ) → EachSide IsSound d
    → EachSide IsSound (applied (uploads sizes d image len off sha part).steps d)
upload_sound sizes d image len off sha part h = each_of IsSound (applied steps d) one
  where
    i : ℕ
    i = side_of d.target image off sha

    steps : List Step
    steps = (uploads sizes d image len off sha part).steps

    one : (j : ℕ) (s : Side) → side_at j (applied steps d) ≡ Some s → IsSound s
    one j s e = elim (same_or_other i j) [
      | inl k ↦ some_of IsSound (side_at i (applied steps d)) s (subst (λ n. side_at n (applied steps d) ≡ Some s) (sym k) e)
          (upload_sound_at sizes d image len off sha part (if_some_of IsSound (side_at i d) (λ t f. at_each IsSound d h i t f)))
      | inr k ↦ at_each IsSound d h j s (sym (others_stay i j steps d (only_one_side sizes d (meant.upload image len off sha part) i refl) k) ∙ e)
    ]

sound_other : (sizes : Sizes) (d : AbstractDevice) (m : Meant) → (IsUpload m → ⊥) → EachSide IsSound d → EachSide IsSound (applied (does sizes d m).steps d)
sound_other sizes d m other h = sides_part IsSound sizes d.target m (sound_step sizes m other) d (applied (does sizes d m).steps d) (does sizes d m).steps (does_due sizes d m) h (whole d (does sizes d m).steps)

pub does_sound : (sizes : Sizes) (d : AbstractDevice) (m : Meant) → EachSide IsSound d → EachSide IsSound (applied (does sizes d m).steps d)
does_sound sizes d =
    by_upload (λ m. EachSide IsSound d → EachSide IsSound (applied (does sizes d m).steps d))
    (λ image len off sha part. upload_sound sizes d image len off sha part) (λ m other. sound_other sizes d m other.no_upload)

-- settling leaves each side settled, and nothing to settle
pub settle_sound : (d : AbstractDevice) → EachSide IsSound (settle d)
settle_sound d = each_of IsSound (settle d) (λ i s e. go i s (side_at i d) refl (sym (settled_side i d) ∙ e))
  where
    the : (s t : Side) → Some s ≡ Some t → s ≡ t
    the s t e = cc

    nothing : (s : Side) → None ≡ Some s → ⊥
    nothing s e = cc

    go : (i : ℕ) (s : Side) (o : Option Side) → side_at i d ≡ o → option_map side_settle o ≡ Some s → IsSound s
    go i s None k e = absurd (nothing s e)
    go i s (Some t) k e = subst IsSound (the (side_settle t) s e) (settles_none (side_settle t) (settles_once t))

none_at : (i : ℕ) (o : Option Side) → IfSome o IsSound → if_some o (λ s. on_side i (side_settle_steps s)) ≡ []
none_at i None h = refl
none_at i (Some s) h = ap (on_side i) h

pub nothing_to_settle : (d : AbstractDevice) → EachSide IsSound d → settle_steps d ≡ []
nothing_to_settle d h =
    ap (λ x. x ++ settle_steps_of 1 d) (none_at 0 (Some d.first) h.first) ∙ none_at 1 d.second h.second

pub settled_of : (i : ℕ) (d : AbstractDevice) → settle_steps_of i (settle_of i d) ≡ []
settled_of i d = none_at i (side_at i (settle_of i d)) (subst (λ o. IfSome o IsSound) (sym (settled_side_of i d)) (go (side_at i d)))
  where
    go : (o : Option Side) → IfSome (option_map side_settle o) IsSound
    go None = tt
    go (Some s) = settles_none (side_settle s) (settles_once s)

pub settled_again : (d : AbstractDevice) → settle_steps (settle d) ≡ []
settled_again d = nothing_to_settle (settle d) (settle_sound d)

-- What is kept of parts.
pub next_part : (sizes : Sizes) (d : AbstractDevice) (s : Side) (u : Upload) (image len : Option ℕ) (sha : Option (List ℕ)) (part : List ℕ) → 0 < sizes.unit → sizes.unit ≤ 8
    → side_at (side_of d.target image (length u.accepted) sha) d ≡ Some s → (side_settle s).upload ≡ Some u → 0 < length u.accepted
    → has_wrong_size sha ≡ false → is_tagged_by sha u.announcement.digest ≡ true → length u.accepted + length part ≤ u.announcement.length
    → Reaches u.announcement.length (length u.accepted + length part) (uploads sizes d image len (length u.accepted) sha part).reply
next_part sizes d s u image len sha part p q found up some size tagged fits =
    subst (λ o. Good (uploads_to sizes i o len off sha part)) (sym found)
    (by_if Good (off == 0) (start_of sizes i s len sha part) _ (λ z. absurd (not_zero (grind (arith, nat_tests, z))))
    (λ _. by_if Good (has_wrong_size sha) (refuses_image INVALID_DIGEST) _ (λ e. absurd (not_both (has_wrong_size sha) e size))
    (λ _. subst (λ o. Reaches u.announcement.length (off + length part) (part_at sizes.unit off sha part o).reply) (sym up) (part_enough sizes.unit u sha part p q tagged fits))))
  where
    i : ℕ
    i = side_of d.target image (length u.accepted) sha

    off : ℕ
    off = length u.accepted

    Good : Response → Type 0
    Good r = Reaches u.announcement.length (off + length part) r.reply

    not_zero : off ≡ 0 → ⊥
    not_zero e = omega (arith, e, some)

    not_both : (b : Bool) → b ≡ true → b ≡ false → ⊥
    not_both b e f = cc

pub first_part : (sizes : Sizes) (d : AbstractDevice) (image : Option ℕ) (n : ℕ) (sha : Option (List ℕ)) (part : List ℕ) → 0 < sizes.unit → sizes.unit ≤ 8
    → IfSome (side_at (side_of d.target image 0 sha) d) (λ s. StartsWith (announced n sha) (length part) (side_settle s).upload (uploads sizes d image (Some n) 0 sha part).reply)
first_part sizes d image n sha part p q = if_some_of Starts (side_at i d) one
  where
    i : ℕ
    i = side_of d.target image 0 sha

    Starts : Side → Type 0
    Starts s = StartsWith (announced n sha) (length part) (side_settle s).upload (uploads sizes d image (Some n) 0 sha part).reply

    same : (s t : Side) → side_at i d ≡ Some s → side_at i d ≡ Some t → t ≡ s
    same s t e f = cc

    same_number : (k : ℕ) → Some n ≡ Some k → k ≡ n
    same_number k e = cc

    one : (s : Side) → side_at i d ≡ Some s → Starts s
    one s e =
        upload_cases (λ (r : Response). StartsWith (announced n sha) (length part) (side_settle s).upload r.reply) sizes d image (Some n) 0 sha part
        (λ k. inl refl)
        (λ t k found l z long.
        subst (λ x. StartsWith (announced n sha) (length part) (side_settle s).upload (starting sizes t x sha part).reply) (sym (same_number k l))
        (subst (λ x. StartsWith (announced n sha) (length part) (side_settle s).upload (starting sizes x n sha part).reply) (sym (same s t e found))
        (start_enough sizes.unit s.pending (side_settle s).upload (announced n sha) part p q)))
        (λ t found z. absurd (z refl))

-- a part with a foreign tag
foreign_settled : (tag : List ℕ) (s : Side) → is_foreign tag s.upload ≡ true → is_foreign tag (side_settle s).upload ≡ true
foreign_settled tag s e = either_way (λ (steps : List SideStep). is_foreign tag (side_applied steps s).upload ≡ true) (is_spoiled s.upload) (Drop ∷ []) [] refl e

pub steps_at : (i : ℕ) (d : AbstractDevice) (s : Side) → side_at i d ≡ Some s → on_side i (side_settle_steps s) ≡ settle_steps_of i d
steps_at i d s found = sym (ap (λ o. if_some o (λ t. on_side i (side_settle_steps t))) found)

pub foreign_part : (sizes : Sizes) (d : AbstractDevice) (image len : Option ℕ) (off : ℕ) (tag part : List ℕ) → (off ≡ 0 → ⊥)
    → IfSome (side_at (side_of d.target image off (Some tag)) d) (λ s. is_foreign tag s.upload ≡ true)
    → ((uploads sizes d image len off (Some tag) part).steps ≡ []) ⊎ ((uploads sizes d image len off (Some tag) part).steps ≡ settle_steps_of (side_of d.target image off (Some tag)) d)
foreign_part sizes d image len off tag part later foreign =
    upload_cases (λ (r : Response). (r.steps ≡ []) ⊎ (r.steps ≡ settle_steps_of i d)) sizes d image len off (Some tag) part
    (λ n. inl refl) (λ s n found l z long. absurd (later z))
    (λ s found z. inr (
    ap (λ x. on_side i (side_settle_steps s) ++ on_side i x)
    (foreign_stores_nothing sizes.unit off tag part (side_settle s).upload (foreign_settled tag s (some_of (λ t. is_foreign tag t.upload ≡ true) (side_at i d) s found foreign)))
    ∙ (append-nil (on_side i (side_settle_steps s)) ∙ steps_at i d s found)
    ))
  where
    i : ℕ
    i = side_of d.target image off (Some tag)

pub right_size : (sha : Option (List ℕ)) → IfSome sha (λ tag. length tag ≡ 32) → has_wrong_size sha ≡ false
right_size None h = refl
right_size (Some tag) h = grind (arith, nat_tests, h)

pub above_zero : (n : ℕ) → 0 < n → n ≡ 0 → ⊥
above_zero n h e = omega (arith, h, e)

-- an upload that is answered with an offset leaves its side settled, however it was before
pub answered_sound : (sizes : Sizes) (d : AbstractDevice) (image len : Option ℕ) (off : ℕ) (sha : Option (List ℕ)) (part : List ℕ) → is_offset (uploads sizes d image len off sha part).reply ≡ true
    → IfSome (side_at (side_of d.target image off sha) (applied (uploads sizes d image len off sha part).steps d)) IsSound
answered_sound sizes d image len off sha part =
    upload_cases (λ (r : Response). is_offset r.reply ≡ true → IfSome (side_at i (applied r.steps d)) IsSound) sizes d image len off sha part
    (λ n e. nothing e)
    (λ s n found l z long e. sound_left i d s (aims i (starting sizes s n sha part).reply) (starting sizes s n sha part) found (aims_leave i i (starting sizes s n sha part).reply)
    (start_sound sizes.unit (side_settle s) s.pending (announced n sha) part long))
    (λ s found z e. sound_left i d s [] (part_at sizes.unit off sha part (side_settle s).upload) found (λ e. refl) (part_sound sizes.unit (side_settle s) off sha part))
  where
    i : ℕ
    i = side_of d.target image off sha

    nothing : false ≡ true → {A : Type 0} → A
    nothing h = cc

-- One side by itself.
kept_at : (P : Side → Type 0) (j i : ℕ) (f : Side → Side) (d : AbstractDevice) → ((s : Side) → side_at i d ≡ Some s → P s → P (f s)) → IfSome (side_at j d) P → IfSome (side_at j (with_side i f d)) P
kept_at P j i f d g h = elim (same_or_other i j) [
  | inl e ↦ subst (λ k. IfSome (side_at k (with_side i f d)) P) e
      (subst (λ o. IfSome o P) (sym (side_with i f d)) (go (side_at i d) refl (subst (λ k. IfSome (side_at k d) P) (sym e) h)))
  | inr e ↦ subst (λ o. IfSome o P) (sym (side_other i j f d e)) h
]
  where
    go : (o : Option Side) → side_at i d ≡ o → IfSome o P → IfSome (option_map f o) P
    go None e k = tt
    go (Some s) e k = g s e k

sound_at_step : (sizes : Sizes) (target : ℕ) (m : Meant) → (IsUpload m → ⊥) → (j : ℕ) (e : AbstractDevice) (t : Step) → IsStepDue sizes target m e t
    → IfSome (side_at j e) IsSound → IfSome (side_at j (apply t e)) IsSound
sound_at_step sizes target m other j e (OnSide i t) h q =
    kept_at IsSound j i (side_apply t) e (λ s g k. sound_step sizes m other s t k (subst (IsSideStepDue sizes m t) (the_same s h.1.side (side_at i e) g h.1.found) h.1.fact)) q
sound_at_step sizes target m other j e Save h q = subst (λ o. IfSome o IsSound) (sym (side_saved j e)) q
sound_at_step sizes target m other j e (Run c) h q = subst (λ o. IfSome o IsSound) (sym (side_changed j c e)) q

sound_other_at : (sizes : Sizes) (d : AbstractDevice) (m : Meant) (j : ℕ) → (IsUpload m → ⊥) → IfSome (side_at j d) IsSound → IfSome (side_at j (applied (does sizes d m).steps d)) IsSound
sound_other_at sizes d m j other h =
    kept_along (IsStepDue sizes d.target m) (λ e. IfSome (side_at j e) IsSound) (does sizes d m).steps d (sound_at_step sizes d.target m other j) (does_due sizes d m) h

sound_upload_at : (sizes : Sizes) (d : AbstractDevice) (j : ℕ) (image len : Option ℕ) (off : ℕ) (sha : Option (List ℕ)) (part : List ℕ) → IfSome (side_at j d) IsSound
    → IfSome (side_at j (applied (uploads sizes d image len off sha part).steps d)) IsSound
sound_upload_at sizes d j image len off sha part h = elim (same_or_other i j) [
  | inl e ↦ subst (λ k. IfSome (side_at k after) IsSound) e (upload_sound_at sizes d image len off sha part (subst (λ k. IfSome (side_at k d) IsSound) (sym e) h))
  | inr e ↦ subst (λ o. IfSome o IsSound) (sym (others_stay i j (uploads sizes d image len off sha part).steps d (only_one_side sizes d (meant.upload image len off sha part) i refl) e)) h
]
  where
    i : ℕ
    i = side_of d.target image off sha

    after : AbstractDevice
    after = applied (uploads sizes d image len off sha part).steps d

pub does_sound_at : (sizes : Sizes) (d : AbstractDevice) (m : Meant) (j : ℕ) → IfSome (side_at j d) IsSound → IfSome (side_at j (applied (does sizes d m).steps d)) IsSound
does_sound_at sizes d m j =
    by_upload (λ m. IfSome (side_at j d) IsSound → IfSome (side_at j (applied (does sizes d m).steps d)) IsSound)
    (λ image len off sha part. sound_upload_at sizes d j image len off sha part) (λ m other. sound_other_at sizes d m j other.no_upload) m
