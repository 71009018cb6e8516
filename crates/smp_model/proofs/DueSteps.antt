-- Each step of each request is due at the device that it finds.
use Rattle.std.proofs.Common.{◌≡◌, ◌≤◌, ◌+◌, ◌-◌, ◌*◌, ◌/◌, ◌==◌, ◌&&◌, not, ◌⊎◌, inl, inr, ℕ, zero, suc, List, [], ◌∷◌, ◌++◌, length, take, Bool, true, false, Option, Some, None, refl, sym, ap, subst, ◌∙◌, arith, length-append, if◌then◌else◌, nat_lt}
use Rattle.std.specs.Prelude.{IfSome, IsSome, Result, Ok, Err}
use Rattle.std.proofs.Math.Nat.{mul-div-le}
use Rattle.std.proofs.lemmas.Bool.Decides.{nat_tests}
use Rattle.std.proofs.lemmas.List.{length-take-le}
use Rattle.std.proofs.lemmas.Slice.Eq.{bytes_eq-Decides}
use Rattle.smp_model.specs.declared.device.AbstractDevice.{AbstractDevice}
use Rattle.smp_model.specs.declared.device.Side.{Side}
use Rattle.smp_model.specs.declared.device.Sizes.{Sizes}
use Rattle.smp_model.specs.declared.device.Upload.{Upload}
use Rattle.smp_model.specs.declared.image.ImageInfo.{ImageInfo}
use Rattle.smp_model.specs.declared.upload.Announcement.{Announcement}
use Rattle.smp_model.specs.declared.upload.Mark.{Mark}
use Rattle.smp_model.specs.Consistent.{FitsSlot}
use Rattle.smp_model.specs.Does.{does}
use Rattle.smp_model.specs.Due.{image_for, IsStart, Announces, IsUpload, IsErase, GoesOn, IsSideStepDue, IsChangeDue, IsStepDue}
use Rattle.smp_model.specs.ImageGroup.{completes, keeps, takes_part, part_at, begins, new_start, resumes, start_at, side_of, is_offset, aims, has_wrong_size, begins_with_magic, start_of, part_of, uploads_to, uploads, wants, refuses_image, refuses_part, lists_after, lists_with, mark_of, same_mark, marks, has_hash, confirms, runs, holds, confirms_on, marks_on, sets_hash, sets_no_hash, sets_image, erase_of, erases_on, erases}
use Rattle.smp_model.specs.Laws.{EachStep, Along, AsksFor}
use Rattle.smp_model.specs.Meant as meant
use Rattle.smp_model.specs.Meant.{Meant}
use Rattle.smp_model.specs.Response.{Response, SideResponse, settling, settling_side}
use Rattle.smp_model.specs.Said.{Said, if_some}
use Rattle.smp_model.specs.Sides.{SideStep, Drop, side_applied, side_settle_steps, side_settle}
use Rattle.smp_model.specs.Steps.{aim_at, Step, OnSide, Save, Run, side_at, apply, applied, on_side, settle, settle_steps, settle_steps_of}
use Rattle.smp_model.specs.Uploads.{differs, is_spoiled, is_tagged_by, kept, uploaded_image, is_resumed_by}
use Rattle.smp_model.proofs.Cases.{by_if, either_way}
use Rattle.smp_model.proofs.GoodUploads.{good_of_image}
use Rattle.smp_model.proofs.NamedThings.{both_of}
use Rattle.smp_model.proofs.OnSides.{SideAlong, lifted, along_more, found_after, found_other, side_changed}
use Rattle.smp_model.specs.declared.error.TheConstants.{INVALID_DIGEST, IMAGE_TOO_LARGE, INVALID_HEADER, WRONG_MAGIC, INVALID_SLOT, HASH_NOT_FOUND, PAST_UPLOAD_END, ALREADY_PENDING}
use Rattle.smp_model.proofs.RequestKinds.{IsRunOf, by_kind}

-- the kept bytes: at most those that came, and the rest of the upload or whole write units
pub kept_fewer : (unit size offset : ℕ) (bytes : List ℕ) → length (kept unit size offset bytes) ≤ length bytes
kept_fewer unit size offset bytes =
    by_if (λ (b : List ℕ). length b ≤ length bytes) (offset + length bytes == size) bytes (take (unit * (length bytes / unit)) bytes)
    (λ e. omega arith)
    (λ e. omega (arith, mul-div-le (length bytes) unit, length-take-le (unit * (length bytes / unit)) bytes (mul-div-le (length bytes) unit)))

pub kept_units : (unit size offset : ℕ) (bytes : List ℕ) → (offset + length (kept unit size offset bytes) ≡ size) ⊎ ((n : ℕ) × (length (kept unit size offset bytes) ≡ unit * n))
kept_units unit size offset bytes =
    by_if (λ (b : List ℕ). (offset + length b ≡ size) ⊎ ((n : ℕ) × (length b ≡ unit * n))) (offset + length bytes == size) bytes (take (unit * (length bytes / unit)) bytes)
    (λ e. inl (grind (arith, nat_tests, e)))
    (λ e. inr (length bytes / unit, length-take-le (unit * (length bytes / unit)) bytes (mul-div-le (length bytes) unit)))

-- One side.

-- the side with this upload
abbrev pub with_held : Side → Announcement → List ℕ → Side
with_held s a held = record s { upload = Some (record { announcement = a; accepted = held }) }

abbrev pub upload_of : Announcement → List ℕ → Upload
upload_of a held = record { announcement = a; accepted = held }

abbrev pub DueOn : Sizes → Meant → Side → List SideStep → Type 0
DueOn sizes m s steps = SideAlong (IsSideStepDue sizes m) s steps

side_settle_due : (sizes : Sizes) (m : Meant) (s : Side) → DueOn sizes m s (side_settle_steps s)
side_settle_due sizes m s = by_if (DueOn sizes m s) (is_spoiled s.upload) (Drop ∷ []) [] (λ e. (inl e, tt)) (λ e. tt)

spoiled_by : (a : Announcement) (held bytes digest : List ℕ) → a.digest ≡ Some digest → length held + length bytes ≡ a.length → differs (Some digest) (held ++ bytes) ≡ true
    → is_spoiled (Some (upload_of a (held ++ bytes))) ≡ true
spoiled_by a held bytes digest e full wrong =
    let complete : (length (held ++ bytes) == a.length) ≡ true = grind (arith, nat_tests, length-append held bytes, full) in
    both_of (length (held ++ bytes) == a.length) (differs a.digest (held ++ bytes)) complete (ap (λ d. differs d (held ++ bytes)) e ∙ wrong)

completes_due : (sizes : Sizes) (m : Meant) (s : Side) (a : Announcement) (held bytes : List ℕ) (digest : Option (List ℕ)) → a.digest ≡ digest → length held + length bytes ≡ a.length
    → GoesOn sizes.unit bytes (upload_of a held) → IsUpload m → DueOn sizes m (with_held s a held) (completes held bytes digest).steps
completes_due sizes m s a held bytes None e full g up = ((g, up), tt)
completes_due sizes m s a held bytes (Some d) e full g up =
    by_if (λ (r : SideResponse). DueOn sizes m (with_held s a held) r.steps) (differs (Some d) (held ++ bytes)) _ _
    (λ wrong. ((g, up), (inl (spoiled_by a held bytes d e full wrong), tt))) (λ _. ((g, up), tt))

keeps_due : (sizes : Sizes) (m : Meant) (s : Side) (a : Announcement) (held bytes : List ℕ) → length held + length bytes ≤ a.length
    → (length held + length bytes ≡ a.length) ⊎ ((n : ℕ) × (length bytes ≡ sizes.unit * n)) → IsUpload m → DueOn sizes m (with_held s a held) (keeps a held bytes).steps
keeps_due sizes m s a held [] fits units up = tt
keeps_due sizes m s a held (x ∷ xs) fits units up =
    let g : GoesOn sizes.unit (x ∷ xs) (upload_of a held) = record { some = omega arith; within = fits; units = units } in
    by_if (λ (r : SideResponse). DueOn sizes m (with_held s a held) r.steps) (length held + length (x ∷ xs) == a.length) (completes held (x ∷ xs) a.digest) _
    (λ e. completes_due sizes m s a held (x ∷ xs) a.digest refl (grind (arith, nat_tests, e)) g up) (λ _. ((g, up), tt))

takes_due : (sizes : Sizes) (m : Meant) (s : Side) (a : Announcement) (held bytes : List ℕ) → IsUpload m → DueOn sizes m (with_held s a held) (takes_part sizes.unit a held bytes).steps
takes_due sizes m s a held bytes up =
    by_if (λ (r : SideResponse). DueOn sizes m (with_held s a held) r.steps) (nat_lt a.length (length held + length bytes)) (refuses_part PAST_UPLOAD_END) (keeps a held (kept sizes.unit a.length (length held) bytes))
    (λ _. tt)
    (λ e.
    let fits : length held + length bytes ≤ a.length = grind (arith, nat_tests, e) in
    keeps_due sizes m s a held (kept sizes.unit a.length (length held) bytes) (omega (arith, fits, kept_fewer sizes.unit a.length (length held) bytes))
    (kept_units sizes.unit a.length (length held) bytes) up)

part_due : (sizes : Sizes) (m : Meant) (s : Side) (off : ℕ) (tag : Option (List ℕ)) (bytes : List ℕ) → IsUpload m → DueOn sizes m s (part_at sizes.unit off tag bytes s.upload).steps
part_due sizes m s off tag bytes up = go s.upload
  where
    go : (u : Option Upload) → DueOn sizes m (record s { upload = u }) (part_at sizes.unit off tag bytes u).steps
    go None = tt
    go (Some u) =
        either_way (λ (r : SideResponse). DueOn sizes m (with_held s u.announcement u.accepted) r.steps) ((off == length u.accepted) && is_tagged_by tag u.announcement.digest) _ (wants (length u.accepted))
        (takes_due sizes m s u.announcement u.accepted bytes up) tt

-- what a start needs to fit: the tests before it
abbrev pub Startable : Sizes → Announcement → List ℕ → Type 0
Startable sizes a bytes = IfSome a.digest (λ d. length d ≡ 32) × ((a.length ≤ sizes.slot - sizes.page) × (32 ≤ length bytes))

begins_due : (sizes : Sizes) (m : Meant) (s : Side) (a : Announcement) (bytes : List ℕ) → s.pending ≡ None → Startable sizes a bytes → Announces a m → IsUpload m
    → DueOn sizes m s (begins sizes.unit a bytes).steps
begins_due sizes m s a bytes free fit ann up =
    by_if (λ (r : SideResponse). DueOn sizes m s r.steps) (nat_lt a.length (length bytes)) (refuses_part PAST_UPLOAD_END) _
    (λ _. tt)
    (λ e.
    let long : length bytes ≤ a.length = grind (arith, nat_tests, e) in
    let slot : FitsSlot sizes a = record { digest = fit.0; header = omega (arith, long, fit.1.1); room = omega (arith, long, fit.1.0, fit.1.1) } in
    ((free, (slot, ann)), takes_due sizes m s a [] bytes up))

new_due : (sizes : Sizes) (m : Meant) (s : Side) (p : Option Mark) (a : Announcement) (bytes : List ℕ) → s.pending ≡ p → Startable sizes a bytes → Announces a m → IsUpload m
    → DueOn sizes m s (new_start sizes.unit a bytes p).steps
new_due sizes m s (Some k) a bytes e fit ann up = tt
new_due sizes m s None a bytes e fit ann up = begins_due sizes m s a bytes e fit ann up

resumed_due : (sizes : Sizes) (m : Meant) (s : Side) (a : Announcement) (held bytes : List ℕ) → IsUpload m → DueOn sizes m (with_held s a held) (resumes sizes.unit a held bytes).steps
resumed_due sizes m s a [] bytes up = takes_due sizes m s a [] bytes up
resumed_due sizes m s a (x ∷ xs) bytes up = tt

start_due : (sizes : Sizes) (m : Meant) (s : Side) (a : Announcement) (bytes : List ℕ) → Startable sizes a bytes → Announces a m → IsUpload m
    → DueOn sizes m s (start_at sizes.unit a bytes s.pending s.upload).steps
start_due sizes m s a bytes fit ann up = go s.upload
  where
    go : (u : Option Upload) → DueOn sizes m (record s { upload = u }) (start_at sizes.unit a bytes s.pending u).steps
    go None = new_due sizes m (record s { upload = None }) s.pending a bytes refl fit ann up
    go (Some u) =
        either_way (λ (r : SideResponse). DueOn sizes m (with_held s u.announcement u.accepted) r.steps) (is_resumed_by u.announcement a) _ _
        (resumed_due sizes m s u.announcement u.accepted bytes up) (new_due sizes m (record s { upload = Some u }) s.pending a bytes refl fit ann up)

erase_due : (sizes : Sizes) (m : Meant) (s : Side) (p : Option Mark) → s.pending ≡ p → IsErase m → DueOn sizes m s (erase_of p).steps
erase_due sizes m s None e h = (inr (h, e), tt)
erase_due sizes m s (Some k) e h = tt

-- The device.

abbrev pub AllDue : Sizes → ℕ → Meant → AbstractDevice → List Step → Type 0
AllDue sizes target m d steps = Along (IsStepDue sizes target m) d steps

on_side_due : (sizes : Sizes) (target : ℕ) (m : Meant) (i : ℕ) → IfSome (image_for target m) (λ k. i ≡ k)
    → (steps : List SideStep) (d : AbstractDevice) (s : Side) → side_at i d ≡ Some s → DueOn sizes m s steps → AllDue sizes target m d (on_side i steps)
on_side_due sizes target m i only = lifted (IsStepDue sizes target m) (IsSideStepDue sizes m) i (λ d s t found h. (only, record { side = s; found = found; fact = h }))

settling_side_due : (sizes : Sizes) (target : ℕ) (m : Meant) (i : ℕ) (d : AbstractDevice) (s : Side) (between : List Step) (r : SideResponse) → IfSome (image_for target m) (λ k. i ≡ k)
    → side_at i d ≡ Some s
    → ((e : AbstractDevice) → side_at i e ≡ Some (side_settle s) → AllDue sizes target m e between × (side_at i (applied between e) ≡ Some (side_settle s)))
    → DueOn sizes m (side_settle s) r.steps → AllDue sizes target m d (settling_side i s between r).steps
settling_side_due sizes target m i d s between r only found inner h =
    let settled = applied (on_side i (side_settle_steps s)) d in
    let k = inner settled (found_after i (side_settle_steps s) d s found) in
    along_more (IsStepDue sizes target m) (on_side i (side_settle_steps s)) (between ++ on_side i r.steps) d
    (on_side_due sizes target m i only (side_settle_steps s) d s found (side_settle_due sizes m s))
    (along_more (IsStepDue sizes target m) between (on_side i r.steps) settled k.0
    (on_side_due sizes target m i only r.steps (applied between settled) (side_settle s) k.1 h))

some_is : {A : Type 0} (o : Option A) (x : A) → o ≡ Some x → IsSome o
some_is o x e = subst IsSome (sym e) refl

aims_due : (sizes : Sizes) (target : ℕ) (m : Meant) (i : ℕ) (t : Side) (reply : Said) → IsStart m → image_for target m ≡ Some i
    → (e : AbstractDevice) → side_at i e ≡ Some t → AllDue sizes target m e (aims i reply) × (side_at i (applied (aims i reply) e) ≡ Some t)
aims_due sizes target m i t reply st im e found =
    either_way (λ (steps : List Step). AllDue sizes target m e steps × (side_at i (applied steps e) ≡ Some t)) (is_offset reply) (Run (aim_at i) ∷ []) []
    (((st, (im, some_is (side_at i e) t found)), tt), side_changed i (aim_at i) e ∙ found) (tt, found)

settled_pending : (s : Side) → (side_settle s).pending ≡ s.pending
settled_pending s = either_way (λ (steps : List SideStep). (side_applied steps s).pending ≡ s.pending) (is_spoiled s.upload) (Drop ∷ []) [] refl refl

-- a digest of another size is refused
whole_digest : (sha : Option (List ℕ)) → has_wrong_size sha ≡ false → IfSome sha (λ d. length d ≡ 32)
whole_digest None e = tt
whole_digest (Some d) e = go (length d == 32) refl e
  where
    go : (b : Bool) → (length d == 32) ≡ b → not b ≡ false → length d ≡ 32
    go true f g = grind (arith, nat_tests, f)
    go false f g = cc

start_of_due : (sizes : Sizes) (target : ℕ) (image : Option ℕ) (len : Option ℕ) (off : ℕ) (sha : Option (List ℕ)) (bytes : List ℕ) (i : ℕ) (d : AbstractDevice) (s : Side)
    → side_of target image off sha ≡ i → off ≡ 0 → side_at i d ≡ Some s → AllDue sizes target (meant.upload image len off sha bytes) d (start_of sizes i s len sha bytes).steps
start_of_due sizes target image None off sha bytes i d s to zero' found = tt
start_of_due sizes target image (Some n) off sha bytes i d s to zero' found =
    by_if Due' (has_wrong_size sha) (refuses_image INVALID_DIGEST) _ (λ e. tt)
    (λ size. by_if Due' (nat_lt (sizes.slot - sizes.page) n) (refuses_image IMAGE_TOO_LARGE) _ (λ e. tt)
    (λ room. by_if Due' (nat_lt (length bytes) 32) (refuses_image INVALID_HEADER) _ (λ e. tt)
    (λ long. either_way Due' (not (begins_with_magic bytes)) (refuses_image WRONG_MAGIC) _ tt
    (settling_side_due sizes target m i d s (aims i response.reply) response (sym to) found (aims_due sizes target m i (side_settle s) response.reply zero' (ap Some to))
    (subst (λ p. DueOn sizes m (side_settle s) (start_at sizes.unit a bytes p (side_settle s).upload).steps) (settled_pending s)
    (start_due sizes m (side_settle s) a bytes (whole_digest sha size, (grind (arith, nat_tests, room), grind (arith, nat_tests, long))) (zero', (refl, refl)) tt))))))
  where
    m : Meant
    m = meant.upload image (Some n) off sha bytes

    a : Announcement
    a = record { length = n; digest = sha }

    response : SideResponse
    response = start_at sizes.unit a bytes s.pending (side_settle s).upload

    Due' : Response → Type 0
    Due' r = AllDue sizes target m d r.steps

part_of_due : (sizes : Sizes) (target : ℕ) (image : Option ℕ) (len : Option ℕ) (off : ℕ) (sha : Option (List ℕ)) (bytes : List ℕ) (i : ℕ) (d : AbstractDevice) (s : Side)
    → side_of target image off sha ≡ i → side_at i d ≡ Some s → AllDue sizes target (meant.upload image len off sha bytes) d (part_of sizes i s off sha bytes).steps
part_of_due sizes target image len off sha bytes i d s to found =
    either_way (λ (r : Response). AllDue sizes target (meant.upload image len off sha bytes) d r.steps) (has_wrong_size sha) (refuses_image INVALID_DIGEST) _ tt
    (settling_side_due sizes target (meant.upload image len off sha bytes) i d s [] (part_at sizes.unit off sha bytes (side_settle s).upload) (sym to) found (λ e h. (tt, h))
    (part_due sizes (meant.upload image len off sha bytes) (side_settle s) off sha bytes tt))

uploads_due : (sizes : Sizes) (d : AbstractDevice) (image len : Option ℕ) (off : ℕ) (sha : Option (List ℕ)) (bytes : List ℕ)
    → AllDue sizes d.target (meant.upload image len off sha bytes) d (uploads sizes d image len off sha bytes).steps
uploads_due sizes d image len off sha bytes = go (side_at i d) refl
  where
    i : ℕ
    i = side_of d.target image off sha

    go : (o : Option Side) → side_at i d ≡ o → AllDue sizes d.target (meant.upload image len off sha bytes) d (uploads_to sizes i o len off sha bytes).steps
    go None e = tt
    go (Some s) e =
        by_if (λ (r : Response). AllDue sizes d.target (meant.upload image len off sha bytes) d r.steps) (off == 0) (start_of sizes i s len sha bytes) (part_of sizes i s off sha bytes)
        (λ h. start_of_due sizes d.target image len off sha bytes i d s refl (grind (arith, nat_tests, h)) e)
        (λ _. part_of_due sizes d.target image len off sha bytes i d s refl e)

erases_on_due : (sizes : Sizes) (d : AbstractDevice) (slot i : ℕ) → image_for d.target (meant.erase slot) ≡ Some i → (o : Option Side) → side_at i d ≡ o
    → AllDue sizes d.target (meant.erase slot) d (erases_on i o).steps
erases_on_due sizes d slot i im None e = tt
erases_on_due sizes d slot i im (Some s) e =
    settling_side_due sizes d.target (meant.erase slot) i d s [] (erase_of s.pending) (subst (λ o. IfSome o (λ k. i ≡ k)) (sym im) refl) e (λ e h. (tt, h))
    (erase_due sizes (meant.erase slot) (side_settle s) s.pending (settled_pending s) tt)

erases_due : (sizes : Sizes) (d : AbstractDevice) (slot : ℕ) → AllDue sizes d.target (meant.erase slot) d (erases d slot).steps
erases_due sizes d slot =
    by_if Due' (slot == 1) (erases_on 0 (side_at 0 d)) _
    (λ e. erases_on_due sizes d slot 0 (ap (λ b. if b then Some 0 else if slot == 3 then Some 1 else None) e) (side_at 0 d) refl)
    (λ e. by_if Due' (slot == 3) (erases_on 1 (side_at 1 d)) (refuses_image INVALID_SLOT)
    (λ f. erases_on_due sizes d slot 1 (ap (λ b. if b then Some 0 else if slot == 3 then Some 1 else None) e ∙ ap (λ b. if b then Some 1 else None) f) (side_at 1 d) refl)
    (λ _. tt))
  where
    Due' : Response → Type 0
    Due' r = AllDue sizes d.target (meant.erase slot) d r.steps

-- settling of all sides
zero_not_one : zero ≡ suc zero → ⊥
zero_not_one e = cc

pub settle_due : (sizes : Sizes) (target : ℕ) (m : Meant) → image_for target m ≡ None → (d : AbstractDevice) → AllDue sizes target m d (settle_steps d)
settle_due sizes target m all d =
    along_more (IsStepDue sizes target m) (settle_steps_of 0 d) (settle_steps_of 1 d) d
    (on_side_due sizes target m 0 (any 0) (side_settle_steps d.first) d d.first refl (side_settle_due sizes m d.first))
    (go (side_at 1 d) (found_other 0 1 (side_settle_steps d.first) d zero_not_one))
  where
    any : (i : ℕ) → IfSome (image_for target m) (λ k. i ≡ k)
    any i = subst (λ o. IfSome o (λ k. i ≡ k)) (sym all) tt

    go : (o : Option Side) → side_at 1 (applied (settle_steps_of 0 d) d) ≡ o → AllDue sizes target m (applied (settle_steps_of 0 d) d) (if_some o (λ s. on_side 1 (side_settle_steps s)))
    go None e = tt
    go (Some s) e = on_side_due sizes target m 1 (any 1) (side_settle_steps s) (applied (settle_steps_of 0 d) d) s e (side_settle_due sizes m s)

-- settling of one
pub settle_of_due : (sizes : Sizes) (target : ℕ) (m : Meant) → image_for target m ≡ None → (i : ℕ) (d : AbstractDevice) → AllDue sizes target m d (settle_steps_of i d)
settle_of_due sizes target m all i d = go (side_at i d) refl
  where
    go : (o : Option Side) → side_at i d ≡ o → AllDue sizes target m d (if_some o (λ s. on_side i (side_settle_steps s)))
    go None e = tt
    go (Some s) e = on_side_due sizes target m i (subst (λ o. IfSome o (λ k. i ≡ k)) (sym all) tt) (side_settle_steps s) d s e (side_settle_due sizes m s)

settling_due : (sizes : Sizes) (target : ℕ) (m : Meant) (d : AbstractDevice) (response : AbstractDevice → Response) → image_for target m ≡ None
    → AllDue sizes target m (settle d) (response (settle d)).steps → AllDue sizes target m d (settling d response).steps
settling_due sizes target m d response all h =
    along_more (IsStepDue sizes target m) (settle_steps d) (response (settle d)).steps d (settle_due sizes target m all d) h

-- marks
asks_of : (hash : List ℕ) (confirm : Bool) (u : Option Upload) → has_hash hash (uploaded_image u) ≡ true → AsksFor (meant.image_set (Some hash) confirm) (mark_of confirm) u
asks_of hash confirm u h = go (uploaded_image u) refl h
  where
    go : (i : Option ImageInfo) → uploaded_image u ≡ i → has_hash hash i ≡ true → AsksFor (meant.image_set (Some hash) confirm) (mark_of confirm) u
    go None e k = cc
    go (Some i) e k = record {
      confirm = confirm;
      info = i;
      image = e;
      request = ap (λ x. meant.image_set (Some x) confirm) (sym ((bytes_eq-Decides i.hash hash).0 k));
      mark = refl;
    }

confirms_on_due : (sizes : Sizes) (target : ℕ) (hash : Option (List ℕ)) (confirm : Bool) (i : ℕ) (e : AbstractDevice) (o : Option Side) → side_at i e ≡ o
    → AllDue sizes target (meant.image_set hash confirm) e (confirms_on i confirm o e).steps
confirms_on_due sizes target hash confirm i e None found = tt
confirms_on_due sizes target hash confirm i e (Some s) found = go confirm s.confirmed
  where
    go : (c confirmed : Bool) → AllDue sizes target (meant.image_set hash c) e (lists_with i (confirms c confirmed) e).steps
    go true true = tt
    go true false = ((tt, record { side = s; found = found; fact = refl }), tt)
    go false confirmed = tt

marks_on_due : (sizes : Sizes) (target : ℕ) (hash : List ℕ) (confirm : Bool) (i : ℕ) (e : AbstractDevice) (o : Option Side) → side_at i e ≡ o → holds hash o ≡ true
    → AllDue sizes target (meant.image_set (Some hash) confirm) e (marks_on i confirm o e).steps
marks_on_due sizes target hash confirm i e None found h = tt
marks_on_due sizes target hash confirm i e (Some s) found h = go s.pending refl
  where
    asks : AsksFor (meant.image_set (Some hash) confirm) (mark_of confirm) s.upload
    asks = asks_of hash confirm s.upload h

    go : (p : Option Mark) → s.pending ≡ p → AllDue sizes target (meant.image_set (Some hash) confirm) e (lists_with i (marks (mark_of confirm) p) e).steps
    go None free = ((tt, record { side = s; found = found; fact = record { free = free; good = good_of_image s.upload asks.info asks.image; asked = asks } }), tt)
    go (Some k) free =
        either_way (λ (r : Result (List SideStep) ℕ). AllDue sizes target (meant.image_set (Some hash) confirm) e (lists_with i r e).steps) (same_mark k (mark_of confirm)) (Ok []) (Err ALREADY_PENDING) tt tt

hash_due : (sizes : Sizes) (target : ℕ) (hash : List ℕ) (confirm : Bool) (e : AbstractDevice) → AllDue sizes target (meant.image_set (Some hash) confirm) e (sets_hash hash confirm e).steps
hash_due sizes target hash confirm e =
    either_way Due' (runs hash (side_at 0 e)) _ _ (confirms_on_due sizes target (Some hash) confirm 0 e (side_at 0 e) refl)
    (either_way Due' (runs hash (side_at 1 e)) _ _ (confirms_on_due sizes target (Some hash) confirm 1 e (side_at 1 e) refl)
    (by_if Due' (holds hash (side_at 0 e)) _ _ (λ h. marks_on_due sizes target hash confirm 0 e (side_at 0 e) refl h)
    (λ _. by_if Due' (holds hash (side_at 1 e)) _ (refuses_image HASH_NOT_FOUND) (λ h. marks_on_due sizes target hash confirm 1 e (side_at 1 e) refl h) (λ _. tt))))
  where
    Due' : Response → Type 0
    Due' r = AllDue sizes target (meant.image_set (Some hash) confirm) e r.steps

no_hash_due : (sizes : Sizes) (target : ℕ) (hash : Option (List ℕ)) (d : AbstractDevice) (confirm : Bool) → AllDue sizes target (meant.image_set hash confirm) d (sets_no_hash d confirm).steps
no_hash_due sizes target hash d true =
    settling_due sizes target (meant.image_set hash true) d (λ e. confirms_on 0 true (side_at 0 e) e) refl (confirms_on_due sizes target hash true 0 (settle d) (side_at 0 (settle d)) refl)
no_hash_due sizes target hash d false = tt

set_due : (sizes : Sizes) (target : ℕ) (d : AbstractDevice) (hash : Option (List ℕ)) (confirm : Bool) → AllDue sizes target (meant.image_set hash confirm) d (sets_image d hash confirm).steps
set_due sizes target d None confirm = no_hash_due sizes target None d confirm
set_due sizes target d (Some []) confirm = no_hash_due sizes target (Some []) d confirm
set_due sizes target d (Some (x ∷ xs)) confirm =
    either_way (λ (r : Response). AllDue sizes target (meant.image_set (Some (x ∷ xs)) confirm) d r.steps) (length (x ∷ xs) == 32) (settling d (sets_hash (x ∷ xs) confirm)) (refuses_image INVALID_DIGEST)
    (settling_due sizes target (meant.image_set (Some (x ∷ xs)) confirm) d (sets_hash (x ∷ xs) confirm) refl (hash_due sizes target (x ∷ xs) confirm (settle d))) tt

-- settings and files
runs_due : (sizes : Sizes) (target : ℕ) (m : Meant) (steps : List Step) (d : AbstractDevice) → EachStep (IsRunOf (λ c. (e : AbstractDevice) → IsChangeDue target m e c)) steps → AllDue sizes target m d steps
runs_due sizes target m [] d h = tt
runs_due sizes target m (OnSide i t ∷ steps) d h = absurd h.0
runs_due sizes target m (Save ∷ steps) d h = absurd h.0
runs_due sizes target m (Run c ∷ steps) d h = (h.0 d, runs_due sizes target m steps (apply (Run c) d) h.1)

pub does_due : (sizes : Sizes) (d : AbstractDevice) (m : Meant) → AllDue sizes d.target m d (does sizes d m).steps
does_due sizes d = by_kind sizes d (λ m. AllDue sizes d.target m d (does sizes d m).steps) (record {
  still = λ m e. subst (AllDue sizes d.target m d) (sym e) tt;
  runs = λ m r. runs_due sizes d.target m (does sizes d m).steps d r.changes;
  save = (refl, tt);
  image_list = settling_due sizes d.target meant.image_list d (lists_after []) refl tt;
  image_set = λ hash confirm. set_due sizes d.target d hash confirm;
  upload = λ image len off sha part. uploads_due sizes d image len off sha part;
  erase = λ slot. erases_due sizes d slot;
})
