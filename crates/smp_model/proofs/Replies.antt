-- What one side answers about uploads: the offset is held, `match` is true, a settled side stays settled, an error comes without
-- steps, what fits is kept, a foreign tag stores nothing.
use Rattle.std.proofs.Common.{◌≡◌, ◌≤◌, ◌<◌, ◌+◌, ◌*◌, ◌/◌, ◌==◌, ◌&&◌, not, ◌⊎◌, inl, inr, ℕ, zero, List, [], ◌∷◌, ◌++◌, length, take, Bool, true, false, Option, Some, None, refl, sym, ap, subst, ◌∙◌, arith, length-append, if◌then◌else◌, nat_lt}
use Rattle.std.specs.Str.{bytes_eq}
use Rattle.std.proofs.Math.Nat.{mul-div-le, div-add-mod, mod-lt}
use Rattle.std.proofs.lemmas.Bool.Decides.{nat_tests}
use Rattle.std.proofs.lemmas.List.{length-take-le}
use Rattle.std.proofs.lemmas.Slice.Eq.{bytes_eq-Decides}
use Rattle.sha2.specs.Sha256.{sha256}
use Rattle.smp_model.specs.declared.device.Side.{Side}
use Rattle.smp_model.specs.declared.device.Upload.{Upload}
use Rattle.smp_model.specs.declared.upload.Announcement.{Announcement}
use Rattle.smp_model.specs.declared.upload.Mark.{Mark}
use Rattle.smp_model.specs.ImageGroup.{completes, keeps, takes_part, part_at, begins, new_start, resumes, start_at, wants, refuses_part, erase_of}
use Rattle.smp_model.specs.Laws.{ReplyHeld, MatchHolds, Reaches, StartsWith, is_foreign}
use Rattle.smp_model.specs.Response.{SideResponse}
use Rattle.smp_model.specs.Said as said
use Rattle.smp_model.specs.Said.{Said, is_error}
use Rattle.smp_model.specs.Sides.{SideStep, Drop, side_applied, side_settle}
use Rattle.smp_model.specs.Uploads.{differs, is_spoiled, is_tagged_by, kept, is_resumed_by}
use Rattle.smp_model.proofs.Cases.{by_if, either_way}
use Rattle.smp_model.proofs.DueSteps.{with_held, upload_of}
use Rattle.smp_model.specs.declared.error.TheConstants.{PAST_UPLOAD_END}

-- the response of a side, as what it leaves bears it out
pub record Sound (s : Side) (r : SideResponse) : Type 0 where
  pub held : ReplyHeld r.reply (side_applied r.steps s).upload
  pub tells : MatchHolds r.reply (side_applied r.steps s).upload
  pub settled : is_spoiled s.upload ≡ false → is_spoiled (side_applied r.steps s).upload ≡ false

and_left_false : (b c : Bool) → b ≡ false → (b && c) ≡ false
and_left_false true c e = cc
and_left_false false c e = refl

and_right_false : (b c : Bool) → c ≡ false → (b && c) ≡ false
and_right_false true c e = e
and_right_false false c e = refl

not_false : (b : Bool) → not b ≡ false → b ≡ true
not_false true e = refl
not_false false e = cc

-- an upload with fewer bytes than were announced is not spoiled
pub open_not_spoiled : (a : Announcement) (held : List ℕ) → (length held == a.length) ≡ false → is_spoiled (Some (upload_of a held)) ≡ false
open_not_spoiled a held e = and_left_false (length held == a.length) (differs a.digest held) e

right_not_spoiled : (a : Announcement) (held : List ℕ) → differs a.digest held ≡ false → is_spoiled (Some (upload_of a held)) ≡ false
right_not_spoiled a held e = and_right_false (length held == a.length) (differs a.digest held) e

completes_sound : (s : Side) (a : Announcement) (held bytes : List ℕ) (digest : Option (List ℕ)) → a.digest ≡ digest → length held + length bytes ≡ a.length
    → Sound (with_held s a held) (completes held bytes digest)
completes_sound s a held bytes None e full = record {
  held = omega (arith, length-append held bytes);
  tells = tt;
  settled = λ _. right_not_spoiled a (held ++ bytes) (ap (λ d. differs d (held ++ bytes)) e);
}
completes_sound s a held bytes (Some d) e full =
    by_if (Sound (with_held s a held)) (differs (Some d) (held ++ bytes)) _ _
    (λ wrong. record { held = inr refl; tells = refl; settled = λ _. refl })
    (λ right.
    let same : sha256 (held ++ bytes) ≡ d = (bytes_eq-Decides (sha256 (held ++ bytes)) d).0 (not_false (bytes_eq (sha256 (held ++ bytes)) d) right) in
    record {
      held = omega (arith, length-append held bytes);
      tells = (omega (arith, length-append held bytes, full), e ∙ ap Some (sym same));
      settled = λ _. right_not_spoiled a (held ++ bytes) (ap (λ x. differs x (held ++ bytes)) e ∙ right);
    })

keeps_sound : (s : Side) (a : Announcement) (held bytes : List ℕ) → Sound (with_held s a held) (keeps a held bytes)
keeps_sound s a held [] = record { held = omega arith; tells = tt; settled = λ h. h }
keeps_sound s a held (x ∷ xs) =
    by_if (Sound (with_held s a held)) (length held + length (x ∷ xs) == a.length) (completes held (x ∷ xs) a.digest) _
    (λ e. completes_sound s a held (x ∷ xs) a.digest refl (grind (arith, nat_tests, e)))
    (λ e.
    let short : (length (held ++ x ∷ xs) == a.length) ≡ false = ap (λ n. n == a.length) (length-append held (x ∷ xs)) ∙ e in
    record { held = omega (arith, length-append held (x ∷ xs)); tells = tt; settled = λ _. open_not_spoiled a (held ++ x ∷ xs) short })

refused_sound : (s : Side) (n : ℕ) → Sound s (refuses_part n)
refused_sound s n = record { held = tt; tells = tt; settled = λ h. h }

takes_sound : (unit : ℕ) (s : Side) (a : Announcement) (held bytes : List ℕ) → Sound (with_held s a held) (takes_part unit a held bytes)
takes_sound unit s a held bytes =
    either_way (Sound (with_held s a held)) (nat_lt a.length (length held + length bytes)) (refuses_part PAST_UPLOAD_END) _ (refused_sound (with_held s a held) 31)
    (keeps_sound s a held (kept unit a.length (length held) bytes))

waits_sound : (s : Side) (u : Upload) → Sound (record s { upload = Some u }) (wants (length u.accepted))
waits_sound s u = record { held = omega arith; tells = tt; settled = λ h. h }

pub part_sound : (unit : ℕ) (s : Side) (off : ℕ) (tag : Option (List ℕ)) (bytes : List ℕ) → Sound s (part_at unit off tag bytes s.upload)
part_sound unit s off tag bytes = go s.upload
  where
    go : (u : Option Upload) → Sound (record s { upload = u }) (part_at unit off tag bytes u)
    go None = record { held = inl refl; tells = tt; settled = λ h. h }
    go (Some u) =
        either_way (Sound (record s { upload = Some u })) ((off == length u.accepted) && is_tagged_by tag u.announcement.digest) _ (wants (length u.accepted))
        (takes_sound unit s u.announcement u.accepted bytes) (waits_sound s u)

begins_sound : (unit : ℕ) (s : Side) (a : Announcement) (bytes : List ℕ) → nat_lt (length bytes) 32 ≡ false → Sound s (begins unit a bytes)
begins_sound unit s a bytes long =
    by_if (Sound s) (nat_lt a.length (length bytes)) (refuses_part PAST_UPLOAD_END) _ (λ _. refused_sound s 31)
    (λ fits.
    let t = takes_sound unit s a [] bytes in
    let none : (zero == a.length) ≡ false = grind (arith, nat_tests, long, fits) in
    record { held = t.held; tells = t.tells; settled = λ _. t.settled (open_not_spoiled a [] none) })

new_sound : (unit : ℕ) (s : Side) (p : Option Mark) (a : Announcement) (bytes : List ℕ) → nat_lt (length bytes) 32 ≡ false → Sound s (new_start unit a bytes p)
new_sound unit s (Some k) a bytes long = refused_sound s 9
new_sound unit s None a bytes long = begins_sound unit s a bytes long

resumed_sound : (unit : ℕ) (s : Side) (a : Announcement) (held bytes : List ℕ) → Sound (with_held s a held) (resumes unit a held bytes)
resumed_sound unit s a [] bytes = takes_sound unit s a [] bytes
resumed_sound unit s a (x ∷ xs) bytes = waits_sound s (upload_of a (x ∷ xs))

pub start_sound : (unit : ℕ) (s : Side) (p : Option Mark) (a : Announcement) (bytes : List ℕ) → nat_lt (length bytes) 32 ≡ false → Sound s (start_at unit a bytes p s.upload)
start_sound unit s p a bytes long = go s.upload
  where
    go : (u : Option Upload) → Sound (record s { upload = u }) (start_at unit a bytes p u)
    go None = new_sound unit (record s { upload = None }) p a bytes long
    go (Some u) =
        either_way (Sound (record s { upload = Some u })) (is_resumed_by u.announcement a) _ _ (resumed_sound unit s u.announcement u.accepted bytes)
        (new_sound unit (record s { upload = Some u }) p a bytes long)

pub erase_sound : (s : Side) (p : Option Mark) → Sound s (erase_of p)
erase_sound s None = record { held = tt; tells = tt; settled = λ _. refl }
erase_sound s (Some k) = refused_sound s 9

-- settling leaves nothing to settle
pub settles_once : (s : Side) → is_spoiled (side_settle s).upload ≡ false
settles_once s = by_if (λ (steps : List SideStep). is_spoiled (side_applied steps s).upload ≡ false) (is_spoiled s.upload) (Drop ∷ []) [] (λ _. refl) (λ e. e)

-- an error comes without steps
abbrev pub RefusesSide : SideResponse → Type 0
RefusesSide r = is_error r.reply ≡ true → r.steps ≡ []

no_error : false ≡ true → {A : Type 0} → A
no_error h = cc

completes_refuses : (held bytes : List ℕ) (digest : Option (List ℕ)) → is_error (completes held bytes digest).reply ≡ true → ⊥
completes_refuses held bytes None = λ h. no_error h
completes_refuses held bytes (Some d) = either_way (λ (r : SideResponse). is_error r.reply ≡ true → ⊥) (differs (Some d) (held ++ bytes)) _ _ (λ h. no_error h) (λ h. no_error h)

keeps_refuses : (a : Announcement) (held bytes : List ℕ) → is_error (keeps a held bytes).reply ≡ true → ⊥
keeps_refuses a held [] = λ h. no_error h
keeps_refuses a held (x ∷ xs) =
    either_way (λ (r : SideResponse). is_error r.reply ≡ true → ⊥) (length held + length (x ∷ xs) == a.length) (completes held (x ∷ xs) a.digest) _
    (completes_refuses held (x ∷ xs) a.digest) (λ h. no_error h)

part_refuses : (unit : ℕ) (a : Announcement) (held bytes : List ℕ) → RefusesSide (takes_part unit a held bytes)
part_refuses unit a held bytes =
    either_way RefusesSide (nat_lt a.length (length held + length bytes)) (refuses_part PAST_UPLOAD_END) (keeps a held (kept unit a.length (length held) bytes))
    (λ h. refl) (λ h. absurd (keeps_refuses a held (kept unit a.length (length held) bytes) h))

not_both : (b : Bool) → b ≡ true → b ≡ false → ⊥
not_both b e f = cc

-- a part that fits is not refused
fitting_part : (unit : ℕ) (a : Announcement) (bytes : List ℕ) → nat_lt a.length (length bytes) ≡ false → is_error (takes_part unit a [] bytes).reply ≡ true → ⊥
fitting_part unit a bytes fits =
    by_if (λ (r : SideResponse). is_error r.reply ≡ true → ⊥) (nat_lt a.length (0 + length bytes)) (refuses_part PAST_UPLOAD_END) (keeps a [] (kept unit a.length 0 bytes))
    (λ e. absurd (not_both (nat_lt a.length (0 + length bytes)) e (grind (arith, nat_tests, fits)))) (λ e. keeps_refuses a [] (kept unit a.length 0 bytes))

begins_refuses : (unit : ℕ) (a : Announcement) (bytes : List ℕ) → RefusesSide (begins unit a bytes)
begins_refuses unit a bytes =
    by_if RefusesSide (nat_lt a.length (length bytes)) (refuses_part PAST_UPLOAD_END) _ (λ e h. refl) (λ e h. absurd (fitting_part unit a bytes e h))

new_refuses : (unit : ℕ) (p : Option Mark) (a : Announcement) (bytes : List ℕ) → RefusesSide (new_start unit a bytes p)
new_refuses unit (Some m) a bytes h = refl
new_refuses unit None a bytes h = begins_refuses unit a bytes h

resumed_refuses : (unit : ℕ) (a : Announcement) (held bytes : List ℕ) → RefusesSide (resumes unit a held bytes)
resumed_refuses unit a [] bytes = part_refuses unit a [] bytes
resumed_refuses unit a (x ∷ xs) bytes = λ h. refl

pub start_refuses : (unit : ℕ) (p : Option Mark) (u : Option Upload) (a : Announcement) (bytes : List ℕ) → RefusesSide (start_at unit a bytes p u)
start_refuses unit p None a bytes = new_refuses unit p a bytes
start_refuses unit p (Some u) a bytes =
    either_way RefusesSide (is_resumed_by u.announcement a) _ _ (resumed_refuses unit u.announcement u.accepted bytes) (new_refuses unit p a bytes)

pub part_at_refuses : (unit : ℕ) (u : Option Upload) (off : ℕ) (tag : Option (List ℕ)) (bytes : List ℕ) → RefusesSide (part_at unit off tag bytes u)
part_at_refuses unit None off tag bytes = λ h. refl
part_at_refuses unit (Some u) off tag bytes =
    either_way RefusesSide ((off == length u.accepted) && is_tagged_by tag u.announcement.digest) _ (wants (length u.accepted)) (part_refuses unit u.announcement u.accepted bytes) (λ h. refl)

pub erase_refuses : (p : Option Mark) → RefusesSide (erase_of p)
erase_refuses None = λ h. no_error h
erase_refuses (Some k) = λ h. refl

-- what fits is kept but for at most seven bytes
units_left : (unit n : ℕ) → 0 < unit → unit ≤ 8 → n ≤ unit * (n / unit) + 7
units_left unit n p q = omega (arith, div-add-mod n unit, mod-lt n p)

kept_enough : (unit size offset : ℕ) (bytes : List ℕ) → 0 < unit → unit ≤ 8 → length bytes ≤ length (kept unit size offset bytes) + 7
kept_enough unit size offset bytes p q =
    by_if (λ (b : List ℕ). length bytes ≤ length b + 7) (offset + length bytes == size) bytes (take (unit * (length bytes / unit)) bytes)
    (λ e. omega arith)
    (λ e. omega (arith, units_left unit (length bytes) p q, length-take-le (unit * (length bytes / unit)) bytes (mul-div-le (length bytes) unit)))

completes_offset : (held bytes : List ℕ) (digest : Option (List ℕ)) (size n : ℕ) → n ≤ length held + length bytes + 7 → Reaches size n (completes held bytes digest).reply
completes_offset held bytes None size n h = inl h
completes_offset held bytes (Some d) size n h = either_way (λ (r : SideResponse). Reaches size n r.reply) (differs (Some d) (held ++ bytes)) _ _ (inl h) (inl h)

keeps_offset : (a : Announcement) (held bytes : List ℕ) (n : ℕ) → n ≤ length held + length bytes + 7 → Reaches a.length n (keeps a held bytes).reply
keeps_offset a held [] n h = inl (omega (arith, h))
keeps_offset a held (x ∷ xs) n h =
    either_way (λ (r : SideResponse). Reaches a.length n r.reply) (length held + length (x ∷ xs) == a.length) (completes held (x ∷ xs) a.digest) _
    (completes_offset held (x ∷ xs) a.digest a.length n h) (inl h)

pub takes_enough : (unit : ℕ) (a : Announcement) (held bytes : List ℕ) → 0 < unit → unit ≤ 8 → length held + length bytes ≤ a.length
    → Reaches a.length (length held + length bytes) (takes_part unit a held bytes).reply
takes_enough unit a held bytes p q fits =
    by_if (λ (r : SideResponse). Reaches a.length (length held + length bytes) r.reply) (nat_lt a.length (length held + length bytes)) (refuses_part PAST_UPLOAD_END) _
    (λ e. absurd (not_both (nat_lt a.length (length held + length bytes)) e (grind (arith, nat_tests, fits))))
    (λ e. keeps_offset a held (kept unit a.length (length held) bytes) (length held + length bytes) (omega (arith, kept_enough unit a.length (length held) bytes p q)))

pub part_enough : (unit : ℕ) (u : Upload) (tag : Option (List ℕ)) (bytes : List ℕ) → 0 < unit → unit ≤ 8 → is_tagged_by tag u.announcement.digest ≡ true
    → length u.accepted + length bytes ≤ u.announcement.length → Reaches u.announcement.length (length u.accepted + length bytes) (part_at unit (length u.accepted) tag bytes (Some u)).reply
part_enough unit u tag bytes p q tagged fits =
    by_if (λ (r : SideResponse). Reaches u.announcement.length (length u.accepted + length bytes) r.reply) ((length u.accepted == length u.accepted) && is_tagged_by tag u.announcement.digest) _ (wants (length u.accepted))
    (λ _. takes_enough unit u.announcement u.accepted bytes p q fits)
    (λ e. absurd (not_both ((length u.accepted == length u.accepted) && is_tagged_by tag u.announcement.digest) (both (length u.accepted == length u.accepted) (is_tagged_by tag u.announcement.digest) (grind (arith, nat_tests)) tagged) e))
  where
    both : (b c : Bool) → b ≡ true → c ≡ true → (b && c) ≡ true
    both true c e f = f
    both false c e f = cc

-- starts
takes_first : (unit : ℕ) (b : Announcement) (bytes : List ℕ) → 0 < unit → unit ≤ 8 → (is_error (takes_part unit b [] bytes).reply ≡ true) ⊎ Reaches b.length (length bytes) (takes_part unit b [] bytes).reply
takes_first unit b bytes p q =
    by_if (λ (r : SideResponse). (is_error r.reply ≡ true) ⊎ Reaches b.length (length bytes) r.reply) (nat_lt b.length (length {A = ℕ} [] + length bytes)) (refuses_part PAST_UPLOAD_END) (keeps b [] (kept unit b.length 0 bytes))
    (λ _. inl refl)
    (λ _. inr (keeps_offset b [] (kept unit b.length 0 bytes) (length bytes) (omega (arith, kept_enough unit b.length 0 bytes p q))))

begins_enough : (unit : ℕ) (a : Announcement) (bytes : List ℕ) (u : Option Upload) → 0 < unit → unit ≤ 8 → StartsWith a (length bytes) u (begins unit a bytes).reply
begins_enough unit a bytes u p q =
    by_if (λ (r : SideResponse). StartsWith a (length bytes) u r.reply) (nat_lt a.length (length bytes)) (refuses_part PAST_UPLOAD_END) _ (λ _. inl refl)
    (λ _. elim (takes_first unit a bytes p q) [
      | inl k ↦ inl k
      | inr k ↦ inr (inl k)
    ])

new_enough : (unit : ℕ) (k : Option Mark) (a : Announcement) (bytes : List ℕ) (u : Option Upload) → 0 < unit → unit ≤ 8 → StartsWith a (length bytes) u (new_start unit a bytes k).reply
new_enough unit (Some k) a bytes u p q = inl refl
new_enough unit None a bytes u p q = begins_enough unit a bytes u p q

same_size : (b a : Announcement) → is_resumed_by b a ≡ true → b.length ≡ a.length
same_size b a e = grind (arith, nat_tests, left (b.length == a.length) _ e)
  where
    left : (x y : Bool) → (x && y) ≡ true → x ≡ true
    left true y h = refl
    left false y h = cc

resumed_enough : (unit : ℕ) (u : Upload) (a : Announcement) (bytes : List ℕ) → 0 < unit → unit ≤ 8 → is_resumed_by u.announcement a ≡ true
    → StartsWith a (length bytes) (Some u) (resumes unit u.announcement u.accepted bytes).reply
resumed_enough unit u a bytes p q e = go u.accepted refl
  where
    go : (held : List ℕ) → u.accepted ≡ held → StartsWith a (length bytes) (Some u) (resumes unit u.announcement held bytes).reply
    go [] h = elim (takes_first unit u.announcement bytes p q) [
      | inl k ↦ inl k
      | inr k ↦ inr (inl (subst (λ n. Reaches n (length bytes) (takes_part unit u.announcement [] bytes).reply) (same_size u.announcement a e) k))
    ]
    go (x ∷ xs) h = inr (inr (e, (subst (λ l. 0 < length l) (sym h) (omega arith), ap (λ l. said.offset (length l) None) (sym h))))

pub start_enough : (unit : ℕ) (k : Option Mark) (u : Option Upload) (a : Announcement) (bytes : List ℕ) → 0 < unit → unit ≤ 8 → StartsWith a (length bytes) u (start_at unit a bytes k u).reply
start_enough unit k None a bytes p q = new_enough unit k a bytes None p q
start_enough unit k (Some u) a bytes p q =
    by_if (λ (r : SideResponse). StartsWith a (length bytes) (Some u) r.reply) (is_resumed_by u.announcement a) _ _ (λ e. resumed_enough unit u a bytes p q e) (λ _. new_enough unit k a bytes (Some u) p q)

-- a foreign tag
not_true : (b c : Bool) → not c ≡ true → (b && c) ≡ false
not_true true true e = cc
not_true true false e = refl
not_true false c e = refl

pub foreign_stores_nothing : (unit off : ℕ) (tag bytes : List ℕ) (u : Option Upload) → is_foreign tag u ≡ true → (part_at unit off (Some tag) bytes u).steps ≡ []
foreign_stores_nothing unit off tag bytes None e = refl
foreign_stores_nothing unit off tag bytes (Some u) e =
    ap (λ b. (if b then takes_part unit u.announcement u.accepted bytes else wants (length u.accepted)).steps) (not_true (off == length u.accepted) (is_tagged_by (Some tag) u.announcement.digest) e)
