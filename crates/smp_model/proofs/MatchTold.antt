-- Where the bytes of a request complete an upload that announced a digest, `match` is there.
use Rattle.std.proofs.Common.{◌≡◌, inl, inr, ◌+◌, ◌==◌, ◌&&◌, ◌||◌, ℕ, List, [], ◌∷◌, ◌++◌, length, Bool, true, false, Option, Some, None, refl, sym, ap, subst, ◌∙◌, length-append, nat_lt}
use Rattle.std.specs.Prelude.{IfSome}
use Rattle.smp_model.specs.declared.device.AbstractDevice.{AbstractDevice}
use Rattle.smp_model.specs.declared.device.Side.{Side}
use Rattle.smp_model.specs.declared.device.Sizes.{Sizes}
use Rattle.smp_model.specs.declared.device.Upload.{Upload}
use Rattle.smp_model.specs.declared.upload.Announcement.{Announcement}
use Rattle.smp_model.specs.declared.upload.Mark.{Mark}
use Rattle.smp_model.specs.ImageGroup.{completes, keeps, takes_part, part_at, new_start, resumes, start_at, side_of, is_offset, aims, uploads, wants, refuses_part}
use Rattle.smp_model.specs.Laws.{MatchTold}
use Rattle.smp_model.specs.Response.{Response, SideResponse, side_responds, settling_side}
use Rattle.smp_model.specs.Said as said
use Rattle.smp_model.specs.Said.{Said}
use Rattle.smp_model.specs.Sides.{SideStep, Choose, Append, Drop, MarkPending, Confirm, side_applied, side_settle}
use Rattle.smp_model.specs.Steps.{Step, OnSide, Save, Run, aim_at, side_at, applied, on_side}
use Rattle.smp_model.specs.Uploads.{differs, is_spoiled, is_tagged_by, kept, is_resumed_by}
use Rattle.smp_model.proofs.Cases.{by_if, either_way}
use Rattle.smp_model.proofs.DueSteps.{with_held}
use Rattle.smp_model.proofs.Requests.{upload_cases, starting, left_by, aims_leave}
use Rattle.smp_model.specs.declared.error.TheConstants.{PAST_UPLOAD_END}

-- bytes are accepted among the steps
abbrev side_appends : List SideStep → Bool
side_appends [] = false
side_appends (Choose a ∷ steps) = side_appends steps
side_appends (Append x ∷ steps) = true
side_appends (Drop ∷ steps) = side_appends steps
side_appends (MarkPending m ∷ steps) = side_appends steps
side_appends (Confirm ∷ steps) = side_appends steps

abbrev appends : List Step → Bool
appends [] = false
appends (OnSide i t ∷ steps) = side_appends (t ∷ []) || appends steps
appends (Save ∷ steps) = appends steps
appends (Run c ∷ steps) = appends steps

or_true : (b : Bool) → (b || true) ≡ true
or_true true = refl
or_true false = refl

appends_at : (front : List Step) (i : ℕ) (x : List ℕ) (rest : List Step) → appends (front ++ OnSide i (Append x) ∷ rest) ≡ true
appends_at [] i x rest = refl
appends_at (OnSide j t ∷ front) i x rest = ap (λ b. side_appends (t ∷ []) || b) (appends_at front i x rest) ∙ or_true (side_appends (t ∷ []))
appends_at (Save ∷ front) i x rest = appends_at front i x rest
appends_at (Run c ∷ front) i x rest = appends_at front i x rest

appends_on : (i : ℕ) (steps : List SideStep) → appends (on_side i steps) ≡ side_appends steps
appends_on i [] = refl
appends_on i (Choose a ∷ steps) = appends_on i steps
appends_on i (Append x ∷ steps) = refl
appends_on i (Drop ∷ steps) = appends_on i steps
appends_on i (MarkPending m ∷ steps) = appends_on i steps
appends_on i (Confirm ∷ steps) = appends_on i steps

-- settling accepts nothing, nor does a move of the target
appends_behind : (i : ℕ) (s : Side) (between : List Step) (r : SideResponse) → ((more : List Step) → appends (between ++ more) ≡ appends more) → appends (settling_side i s between r).steps ≡ side_appends r.steps
appends_behind i s between r same =
    either_way (λ (steps : List SideStep). appends (on_side i steps ++ (between ++ on_side i r.steps)) ≡ side_appends r.steps) (is_spoiled s.upload) (Drop ∷ []) []
    (same (on_side i r.steps) ∙ appends_on i r.steps) (same (on_side i r.steps) ∙ appends_on i r.steps)

appends_aims : (i : ℕ) (reply : Said) (more : List Step) → appends (aims i reply ++ more) ≡ appends more
appends_aims i reply more = either_way (λ (steps : List Step). appends (steps ++ more) ≡ appends more) (is_offset reply) (Run (aim_at i) ∷ []) [] refl refl

-- one side
abbrev Told : Side → SideResponse → Type 0
Told s r = side_appends r.steps ≡ true → MatchTold r.reply (side_applied r.steps s).upload

nothing : false ≡ true → {A : Type 0} → A
nothing h = cc

completes_told : (s : Side) (a : Announcement) (held bytes : List ℕ) (digest : Option (List ℕ)) → a.digest ≡ digest → Told (with_held s a held) (completes held bytes digest)
completes_told s a held bytes None e = λ h. inr e
completes_told s a held bytes (Some d) e =
    either_way (Told (with_held s a held)) (differs (Some d) (held ++ bytes))
    (side_responds (said.offset (length held + length bytes) (Some false)) (Append bytes ∷ Drop ∷ []))
    (side_responds (said.offset (length held + length bytes) (Some true)) (Append bytes ∷ [])) (λ h. tt) (λ h. tt)

keeps_told : (s : Side) (a : Announcement) (held bytes : List ℕ) → Told (with_held s a held) (keeps a held bytes)
keeps_told s a held [] = λ h. nothing h
keeps_told s a held (x ∷ xs) =
    by_if (Told (with_held s a held)) (length held + length (x ∷ xs) == a.length) (completes held (x ∷ xs) a.digest) _
    (λ _. completes_told s a held (x ∷ xs) a.digest refl)
    (λ e h. inl (ap (λ n. n == a.length) (length-append held (x ∷ xs)) ∙ e))

takes_told : (unit : ℕ) (s : Side) (a : Announcement) (held bytes : List ℕ) → Told (with_held s a held) (takes_part unit a held bytes)
takes_told unit s a held bytes =
    either_way (Told (with_held s a held)) (nat_lt a.length (length held + length bytes)) (refuses_part PAST_UPLOAD_END) (keeps a held (kept unit a.length (length held) bytes))
    (λ h. nothing h) (keeps_told s a held (kept unit a.length (length held) bytes))

part_told : (unit : ℕ) (s : Side) (off : ℕ) (tag : Option (List ℕ)) (bytes : List ℕ) → Told s (part_at unit off tag bytes s.upload)
part_told unit s off tag bytes = go s.upload
  where
    go : (u : Option Upload) → Told (record s { upload = u }) (part_at unit off tag bytes u)
    go None = λ h. nothing h
    go (Some u) =
        either_way (Told (record s { upload = Some u })) ((off == length u.accepted) && is_tagged_by tag u.announcement.digest) _ (wants (length u.accepted))
        (takes_told unit s u.announcement u.accepted bytes) (λ h. nothing h)

new_told : (unit : ℕ) (s : Side) (p : Option Mark) (a : Announcement) (bytes : List ℕ) → Told s (new_start unit a bytes p)
new_told unit s (Some k) a bytes = λ h. nothing h
new_told unit s None a bytes =
    either_way (Told s) (nat_lt a.length (length bytes)) (refuses_part PAST_UPLOAD_END) (side_responds (takes_part unit a [] bytes).reply (Choose a ∷ (takes_part unit a [] bytes).steps))
    (λ h. nothing h) (takes_told unit s a [] bytes)

start_told : (unit : ℕ) (s : Side) (p : Option Mark) (a : Announcement) (bytes : List ℕ) → Told s (start_at unit a bytes p s.upload)
start_told unit s p a bytes = go s.upload
  where
    resumed : (b : Announcement) (held : List ℕ) → Told (with_held s b held) (resumes unit b held bytes)
    resumed b [] = takes_told unit s b [] bytes
    resumed b (x ∷ xs) = λ h. nothing h

    go : (u : Option Upload) → Told (record s { upload = u }) (start_at unit a bytes p u)
    go None = new_told unit (record s { upload = None }) p a bytes
    go (Some u) =
        either_way (Told (record s { upload = Some u })) (is_resumed_by u.announcement a) _ _ (resumed u.announcement u.accepted) (new_told unit (record s { upload = Some u }) p a bytes)

-- the device
pub match_told : (sizes : Sizes) (d : AbstractDevice) (image len : Option ℕ) (off : ℕ) (sha : Option (List ℕ)) (part : List ℕ) (front : List Step) (i : ℕ) (x : List ℕ) (rest : List Step)
    → (uploads sizes d image len off sha part).steps ≡ front ++ OnSide i (Append x) ∷ rest
    → IfSome (side_at (side_of d.target image off sha) (applied (uploads sizes d image len off sha part).steps d)) (λ s. MatchTold (uploads sizes d image len off sha part).reply s.upload)
match_told sizes d image len off sha part front i x rest split = all (ap appends split ∙ appends_at front i x rest)
  where
    k : ℕ
    k = side_of d.target image off sha

    IsTold : Response → Type 0
    IsTold r = appends r.steps ≡ true → IfSome (side_at k (applied r.steps d)) (λ s. MatchTold r.reply s.upload)

    left : (s : Side) (between : List Step) (r : SideResponse) → side_at k d ≡ Some s → ((e : AbstractDevice) → side_at k (applied between e) ≡ side_at k e)
        → ((more : List Step) → appends (between ++ more) ≡ appends more) → Told (side_settle s) r → IsTold (settling_side k s between r)
    left s between r found same none told h =
        subst (λ o. IfSome o (λ t. MatchTold r.reply t.upload)) (sym (left_by k d s between r found same)) (told (sym (appends_behind k s between r none) ∙ h))

    all : IsTold (uploads sizes d image len off sha part)
    all =
        upload_cases IsTold sizes d image len off sha part (λ n h. nothing h)
        (λ s n found l z long. left s (aims k (starting sizes s n sha part).reply) (starting sizes s n sha part) found (aims_leave k k (starting sizes s n sha part).reply) (appends_aims k (starting sizes s n sha part).reply)
        (start_told sizes.unit (side_settle s) s.pending (record { length = n; digest = sha }) part))
        (λ s found z. left s [] (part_at sizes.unit off sha part (side_settle s).upload) found (λ e. refl) (λ more. refl) (part_told sizes.unit (side_settle s) off sha part))
