-- How far a part of a file takes an upload that is accepted.
use Rattle.std.proofs.Common.{◌≡◌, ◌⊎◌, inl, inr, ◌≤◌, ◌<◌, ◌+◌, ◌-◌, ◌*◌, ◌/◌, ◌==◌, ◌&&◌, not, nat_lt, if◌then◌else◌, ℕ, List, [], ◌∷◌, ◌++◌, length, take, drop, Bool, true, false, Option, Some, None, refl, sym, ap, subst, ◌∙◌, arith, eq-eqb, min, length-append, append-nil}
use Rattle.std.specs.Str.{bytes_eq}
use Rattle.std.proofs.lemmas.Bool.Decides.{nat_tests}
use Rattle.std.proofs.lemmas.Slice.Eq.{bytes_eq-Decides}
use Rattle.std.proofs.Math.Nat.{div-add-mod, mod-lt}
use Rattle.std.proofs.lemmas.List.{take-append-drop, length-take, length-take-le, length-drop}
use Rattle.sha2.specs.Sha256.{sha256}
use Rattle.smp_model.specs.declared.device.AbstractDevice.{AbstractDevice}
use Rattle.smp_model.specs.declared.device.Side.{Side}
use Rattle.smp_model.specs.declared.device.Sizes.{Sizes}
use Rattle.smp_model.specs.declared.device.Upload.{Upload}
use Rattle.smp_model.specs.declared.upload.Mark.{Mark}
use Rattle.smp_model.specs.Does.{does}
use Rattle.smp_model.specs.ImageGroup.{completes, keeps, takes_part, part_at, new_start, start_at, side_of, aims, refuses_part, wants}
use Rattle.smp_model.specs.Laws.{OnImage}
use Rattle.smp_model.specs.Response.{Response, SideResponse, settling_side}
use Rattle.smp_model.specs.Said as said
use Rattle.smp_model.specs.Said.{Said, is_error}
use Rattle.smp_model.specs.Sides.{Choose, Append, Drop, side_apply, side_applied, side_settle, appended}
use Rattle.smp_model.specs.Steps.{Step, side_at, applied}
use Rattle.smp_model.specs.Uploads.{differs, is_spoiled, is_tagged_by, kept}
use Rattle.smp_world.proofs.Sides.{the_same}
use Rattle.smp_world.proofs.UploadRequests.{upload_cases, starting, left_by, aims_leave}
use Rattle.smp_jobs.specs.Jobs.{UploadJob, image_key, start_of, part_of}
use Rattle.smp_world.specs.UploadJobs.{IsFront, announcement_of, upload_of}
use Rattle.smp_world.proofs.Cases.{by_if, if_true, if_false}
use Rattle.smp_world.proofs.Fronts.{front_more, front_append, front_full, kept_front}
use Rattle.smp_world.proofs.FairSteps.{side_is}

same_bytes : (a b : List ℕ) → a ≡ b → bytes_eq (sha256 a) (sha256 b) ≡ true
same_bytes a b e = (bytes_eq-Decides (sha256 a) (sha256 b)).1 (ap sha256 e)

not_true : (b : Bool) → b ≡ true → not b ≡ false
not_true true e = refl
not_true false e = cc

-- a part went on: these bytes came to those that were held
pub record SideWent (j : UploadJob) (s : Side) (held : List ℕ) (r : SideResponse) : Type 0 where
  pub more : List ℕ
  pub matched : Option Bool
  pub right : matched ≡ Some false → ⊥
  pub reply : r.reply ≡ said.offset (length (held ++ more)) matched
  pub upload : (side_applied r.steps s).upload ≡ upload_of j (held ++ more)
  pub front : IsFront (held ++ more) j.file
  pub further : (length (held ++ more) ≡ length j.file) ⊎ (length held + (j.chunk - 7) ≤ length (held ++ more))

abbrev SideGoes : UploadJob → Side → List ℕ → SideResponse → Type 0
SideGoes j s held r = is_error r.reply ≡ false → SideWent j s held r

-- whole write units: all but seven bytes
units : (unit n : ℕ) → 0 < unit → unit ≤ 8 → n ≤ unit * (n / unit) + 7
units unit n some few = let whole = div-add-mod n unit in let rest = mod-lt n some in omega (arith, whole, rest, few)

units_within : (unit n : ℕ) → unit * (n / unit) ≤ n
units_within unit n = let whole = div-add-mod n unit in omega (arith, whole)

-- a chunk of the file from an offset on
chunk_length : (j : UploadJob) (off : ℕ) → length (take j.chunk (drop off j.file)) ≡ min j.chunk (length j.file - off)
chunk_length j off = length-take j.chunk (drop off j.file) ∙ ap (min j.chunk) (length-drop off j.file)

abbrev Further : UploadJob → ℕ → ℕ → Type 0
Further j off now = (now ≡ length j.file) ⊎ (off + (j.chunk - 7) ≤ now)

kept_further : (unit : ℕ) (j : UploadJob) (held : List ℕ) → 0 < unit → unit ≤ 8 → length held < length j.file
    → Further j (length held) (length (held ++ kept unit (length j.file) (length held) (take j.chunk (drop (length held) j.file))))
kept_further unit j held some few within =
    by_if (λ (k : List ℕ). Further j (length held) (length (held ++ k))) ((length held + length (take j.chunk (drop (length held) j.file))) == length j.file)
    (take j.chunk (drop (length held) j.file)) (take (unit * (length (take j.chunk (drop (length held) j.file)) / unit)) (take j.chunk (drop (length held) j.file)))
    (λ e. let n : length held + length (take j.chunk (drop (length held) j.file)) ≡ length j.file = grind (arith, nat_tests) in
    inl (length-append held (take j.chunk (drop (length held) j.file)) ∙ n))
    (λ e. let size = chunk_length j (length held) in
    let all : length (take j.chunk (drop (length held) j.file)) ≡ j.chunk = grind (arith, nat_tests, size) in
    let fits = units_within unit (length (take j.chunk (drop (length held) j.file))) in
    let lost = units unit (length (take j.chunk (drop (length held) j.file))) some few in
    let kept_ = length-take-le (unit * (length (take j.chunk (drop (length held) j.file)) / unit)) (take j.chunk (drop (length held) j.file)) fits in
    let joined = length-append held (take (unit * (length (take j.chunk (drop (length held) j.file)) / unit)) (take j.chunk (drop (length held) j.file))) in
    inr (omega (arith, all, lost, kept_, joined)))

went_on : (j : UploadJob) (s : Side) (held more : List ℕ) (m : Option Bool) → s.upload ≡ upload_of j held → IsFront (held ++ more) j.file → Further j (length held) (length (held ++ more)) → (m ≡ Some false → ⊥)
    → SideWent j s held (record { reply = said.offset (length held + length more) m; steps = Append more ∷ [] })
went_on j s held more m is front further right = record {
  more = more;
  matched = m;
  right = right;
  reply = ap (λ (n : ℕ). said.offset n m) (sym (length-append held more));
  upload = ap (λ (u : Option Upload). appended u more) is;
  front = front;
  further = further;
}

keeps_on : (j : UploadJob) (s : Side) (held more : List ℕ) → 32 ≤ j.chunk → length held < length j.file → s.upload ≡ upload_of j held → IsFront (held ++ more) j.file
    → Further j (length held) (length (held ++ more)) → SideWent j s held (keeps (announcement_of j) held more)
keeps_on j s held [] big within is front further = absurd (no_further further)
  where
    no_further : Further j (length held) (length (held ++ [])) → ⊥
    no_further (inl e) = let n = ap length (append-nil held) in omega (arith, e, n, within)
    no_further (inr e) = let n = ap length (append-nil held) in omega (arith, e, n, big)
keeps_on j s held (x ∷ xs) big within is front further =
    by_if (SideWent j s held) ((length held + length (x ∷ xs)) == length j.file) (completes held (x ∷ xs) (Some (sha256 j.file)))
    (record { reply = said.offset (length held + length (x ∷ xs)) None; steps = Append (x ∷ xs) ∷ [] })
    (λ e. let n : length held + length (x ∷ xs) ≡ length j.file = grind (arith, nat_tests) in
    let whole = front_full (held ++ x ∷ xs) j.file front (omega (arith, n, length-append held (x ∷ xs))) in
    if_false (SideWent j s held) (differs (Some (sha256 j.file)) (held ++ x ∷ xs))
    (record { reply = said.offset (length held + length (x ∷ xs)) (Some false); steps = Append (x ∷ xs) ∷ Drop ∷ [] })
    (record { reply = said.offset (length held + length (x ∷ xs)) (Some true); steps = Append (x ∷ xs) ∷ [] })
    (not_true _ (same_bytes (held ++ x ∷ xs) j.file whole))
    (went_on j s held (x ∷ xs) (Some true) is front further (λ r. cc)))
    (λ _. went_on j s held (x ∷ xs) None is front further (λ r. cc))

-- a refusal is an error
refuses_all : (j : UploadJob) (s : Side) (held : List ℕ) (n : ℕ) → SideGoes j s held (refuses_part n)
refuses_all j s held n = λ e. absurd (true_false e)
  where
    true_false : true ≡ false → ⊥
    true_false e = cc

chunk_front : (j : UploadJob) (held : List ℕ) → IsFront held j.file → IsFront (held ++ take j.chunk (drop (length held) j.file)) j.file
chunk_front j held front = front_more held (take j.chunk (drop (length held) j.file)) j.file front (drop j.chunk (drop (length held) j.file), sym (take-append-drop j.chunk (drop (length held) j.file)))

takes_on : (unit : ℕ) (j : UploadJob) (s : Side) (held : List ℕ) → 0 < unit → unit ≤ 8 → 32 ≤ j.chunk → length held < length j.file → s.upload ≡ upload_of j held → IsFront held j.file
    → SideGoes j s held (takes_part unit (announcement_of j) held (take j.chunk (drop (length held) j.file)))
takes_on unit j s held some few big within is front =
    by_if (SideGoes j s held) (nat_lt (length j.file) (length held + length (take j.chunk (drop (length held) j.file)))) (refuses_part 31)
    (keeps (announcement_of j) held (kept unit (length j.file) (length held) (take j.chunk (drop (length held) j.file))))
    (λ _. refuses_all j s held 31)
    (λ _ _. keeps_on j s held (kept unit (length j.file) (length held) (take j.chunk (drop (length held) j.file))) big within is
    (front_append held (kept unit (length j.file) (length held) (take j.chunk (drop (length held) j.file))) (take j.chunk (drop (length held) j.file)) j.file
    (kept_front unit (length j.file) (length held) (take j.chunk (drop (length held) j.file))) (chunk_front j held front))
    (kept_further unit j held some few within))

-- the first part chooses the upload
new_on : (unit : ℕ) (j : UploadJob) (s : Side) (p : Option Mark) → 0 < unit → unit ≤ 8 → 32 ≤ j.chunk → 0 < length j.file → SideGoes j s [] (new_start unit (announcement_of j) (take j.chunk j.file) p)
new_on unit j s (Some m) some few big has = refuses_all j s [] 9
new_on unit j s None some few big has =
    by_if (SideGoes j s []) (nat_lt (length j.file) (length (take j.chunk j.file))) (refuses_part 31)
    (record { reply = (takes_part unit (announcement_of j) [] (take j.chunk j.file)).reply; steps = Choose (announcement_of j) ∷ (takes_part unit (announcement_of j) [] (take j.chunk j.file)).steps })
    (λ _. refuses_all j s [] 31)
    (λ _ ok. let w = takes_on unit j (side_apply (Choose (announcement_of j)) s) [] some few big has refl (j.file, refl) ok in
    record { more = w.more; matched = w.matched; right = w.right; reply = w.reply; upload = w.upload; front = w.front; further = w.further })

-- Settling leaves an upload of the file.
pub holds_not_spoiled : (j : UploadJob) (held : List ℕ) → IsFront held j.file → is_spoiled (upload_of j held) ≡ false
holds_not_spoiled j held front = by_length (length held == length j.file) refl
  where
    by_length : (b : Bool) → (length held == length j.file) ≡ b → (b && not (bytes_eq (sha256 held) (sha256 j.file))) ≡ false
    by_length false e = refl
    by_length true e = let n : length held ≡ length j.file = grind (arith, nat_tests, e) in not_true _ (same_bytes held j.file (front_full held j.file front (omega (arith, n))))

settle_kept : (s : Side) → is_spoiled s.upload ≡ false → side_settle s ≡ s
settle_kept s e = ap (λ (b : Bool). side_applied (if b then Drop ∷ [] else []) s) e

-- a part went on in the device
pub record WentOn (j : UploadJob) (d : AbstractDevice) (held : List ℕ) (r : Response) : Type 0 where
  pub more : List ℕ
  pub matched : Option Bool
  pub right : matched ≡ Some false → ⊥
  pub reply : r.reply ≡ said.offset (length (held ++ more)) matched
  pub upload : OnImage j.image (λ s. s.upload ≡ upload_of j (held ++ more)) (applied r.steps d)
  pub front : IsFront (held ++ more) j.file
  pub further : (length (held ++ more) ≡ length j.file) ⊎ (length held + (j.chunk - 7) ≤ length (held ++ more))

abbrev pub Goes : UploadJob → AbstractDevice → List ℕ → Response → Type 0
Goes j d held r = is_error r.reply ≡ false → WentOn j d held r

lift : (j : UploadJob) (i : ℕ) (d : AbstractDevice) (s : Side) (held : List ℕ) (between : List Step) (r : SideResponse) → j.image ≡ i → side_at i d ≡ Some s → ((e : AbstractDevice) → side_at i (applied between e) ≡ side_at i e)
    → SideGoes j (side_settle s) held r → Goes j d held (settling_side i s between r)
lift j i d s held between r on found same h = λ ok.
    let w = h ok in
    record {
      more = w.more;
      matched = w.matched;
      right = w.right;
      reply = w.reply;
      upload = subst (λ (n : ℕ). OnImage n (λ t. t.upload ≡ upload_of j (held ++ w.more)) (applied (settling_side i s between r).steps d)) (sym on)
          (record { side = side_applied r.steps (side_settle s); found = left_by i d s between r found same; fact = w.upload });
      front = w.front;
      further = w.further;
    }

refused_goes : (j : UploadJob) (d : AbstractDevice) (held : List ℕ) (r : Response) → is_error r.reply ≡ true → Goes j d held r
refused_goes j d held r e = λ ok. absurd (true_false (is_error r.reply) e ok)
  where
    true_false : (b : Bool) → b ≡ true → b ≡ false → ⊥
    true_false b p q = cc

no_length : (n : ℕ) → None ≡ Some n → ⊥
no_length n e = cc

the_number : (m n : ℕ) → Some m ≡ Some n → m ≡ n
the_number m n e = cc

tagged : (digest : List ℕ) → is_tagged_by (Some digest) (Some digest) ≡ true
tagged digest = (bytes_eq-Decides digest digest).1 refl

both_are : (b c : Bool) → b ≡ true → c ≡ true → (b && c) ≡ true
both_are true true p q = refl
both_are true false p q = cc
both_are false c p q = cc

-- a part of the file, where the bytes before it are held
at_on : (unit : ℕ) (j : UploadJob) (s : Side) (held : List ℕ) → 0 < unit → unit ≤ 8 → 32 ≤ j.chunk → length held < length j.file → s.upload ≡ upload_of j held → IsFront held j.file
    → SideGoes j s held (part_at unit (length held) (Some (sha256 j.file)) (take j.chunk (drop (length held) j.file)) s.upload)
at_on unit j s held some few big within is front =
    subst (λ (u : Option Upload). SideGoes j s held (part_at unit (length held) (Some (sha256 j.file)) (take j.chunk (drop (length held) j.file)) u)) (sym is)
    (if_true (SideGoes j s held) ((length held == length held) && is_tagged_by (Some (sha256 j.file)) (Some (sha256 j.file))) (takes_part unit (announcement_of j) held (take j.chunk (drop (length held) j.file))) (wants (length held))
    (both_are (length held == length held) (is_tagged_by (Some (sha256 j.file)) (Some (sha256 j.file))) (eq-eqb (length held) (length held) refl) (tagged (sha256 j.file))) (takes_on unit j s held some few big within is front))

pub part_on : (sizes : Sizes) (j : UploadJob) (d : AbstractDevice) (held : List ℕ) → 0 < sizes.unit → sizes.unit ≤ 8 → 32 ≤ j.chunk → 0 < length held → length held < length j.file → OnImage j.image (λ s. s.upload ≡ upload_of j held) d → IsFront held j.file
    → Goes j d held (does sizes d (part_of j (length held)))
part_on sizes j d held some few big begun within is front =
    upload_cases (Goes j d held) sizes d (image_key j.image) None (length held) (Some (sha256 j.file)) (take j.chunk (drop (length held) j.file))
    (λ n. refused_goes j d held _ refl)
    (λ s n found l z long. absurd (no_length n l))
    (λ s found z. lift j i d s held [] (part_at sizes.unit (length held) (Some (sha256 j.file)) (take j.chunk (drop (length held) j.file)) (side_settle s).upload) on found (λ e. refl)
    (at_on sizes.unit j (side_settle s) held some few big within (settled s (there s found)) front))
  where
    i : ℕ
    i = side_of d.target (image_key j.image) (length held) (Some (sha256 j.file))

    on : j.image ≡ i
    on = sym (side_is j.image d.target (length held) (sha256 j.file))

    there : (s : Side) → side_at i d ≡ Some s → s.upload ≡ upload_of j held
    there s found = ap (λ (t : Side). t.upload) (the_same is.side s (side_at j.image d) is.found (subst (λ (n : ℕ). side_at n d ≡ Some s) (sym on) found)) ∙ is.fact

    settled : (s : Side) → s.upload ≡ upload_of j held → (side_settle s).upload ≡ upload_of j held
    settled s e = ap (λ (t : Side). t.upload) (settle_kept s (subst (λ (u : Option Upload). is_spoiled u ≡ false) (sym e) (holds_not_spoiled j held front))) ∙ e

-- no upload is there
abbrev pub NoUploads : AbstractDevice → Type 0
NoUploads d = (i : ℕ) (s : Side) → side_at i d ≡ Some s → s.upload ≡ None

pub start_on : (sizes : Sizes) (j : UploadJob) (d : AbstractDevice) → 0 < sizes.unit → sizes.unit ≤ 8 → 32 ≤ j.chunk → 0 < length j.file → NoUploads d → Goes j d [] (does sizes d (start_of j))
start_on sizes j d some few big has none =
    upload_cases (Goes j d []) sizes d (image_key j.image) (Some (length j.file)) 0 (Some (sha256 j.file)) (take j.chunk j.file)
    (λ n. refused_goes j d [] _ refl)
    (λ s n found l z long. subst (λ (k : ℕ). Goes j d [] (settling_side i s (aims i (response s k).reply) (response s k))) (the_number (length j.file) n l)
    (lift j i d s [] (aims i (response s (length j.file)).reply) (response s (length j.file)) on found (aims_leave i i (response s (length j.file)).reply)
    (subst (λ (u : Option Upload). SideGoes j (side_settle s) [] (start_at sizes.unit (announcement_of j) (take j.chunk j.file) s.pending u)) (sym (settled s (none i s found))) (new_on sizes.unit j (side_settle s) s.pending some few big has))))
    (λ s found z. absurd (z refl))
  where
    i : ℕ
    i = side_of d.target (image_key j.image) 0 (Some (sha256 j.file))

    on : j.image ≡ i
    on = sym (side_is j.image d.target 0 (sha256 j.file))

    response : Side → ℕ → SideResponse
    response s k = starting sizes s k (Some (sha256 j.file)) (take j.chunk j.file)

    settled : (s : Side) → s.upload ≡ None → (side_settle s).upload ≡ None
    settled s e = ap (λ (t : Side). t.upload) (settle_kept s (ap is_spoiled e)) ∙ e
