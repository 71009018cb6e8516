-- What is answered to the only job's parts: an offset within its file, or an error of the group.
use Rattle.std.proofs.Common.{◌≡◌, ◌≤◌, ◌+◌, ◌==◌, ◌&&◌, nat_lt, ℕ, List, [], ◌∷◌, ◌++◌, length, take, drop, Bool, true, Option, Some, None, refl, sym, ap, subst, ◌∙◌, arith, length-append, append-nil}
use Rattle.std.specs.Prelude.{IsSome}
use Rattle.std.proofs.lemmas.List.{take-append-drop}
use Rattle.std.proofs.lemmas.Bool.Decides.{nat_tests}
use Rattle.sha2.specs.Sha256.{sha256}
use Rattle.smp_model.specs.declared.device.AbstractDevice.{AbstractDevice}
use Rattle.smp_model.specs.declared.device.Side.{Side}
use Rattle.smp_model.specs.declared.device.Sizes.{Sizes}
use Rattle.smp_model.specs.declared.device.Upload.{Upload}
use Rattle.smp_model.specs.declared.upload.Announcement.{Announcement}
use Rattle.smp_model.specs.declared.upload.Mark.{Mark}
use Rattle.smp_model.specs.Does.{does}
use Rattle.smp_model.specs.ImageGroup.{completes, keeps, takes_part, part_at, new_start, resumes, start_at, side_of, aims}
use Rattle.smp_model.specs.Response.{Response, SideResponse, settling_side}
use Rattle.smp_model.specs.Said as said
use Rattle.smp_model.specs.Said.{Said}
use Rattle.smp_model.specs.Sides.{SideStep, Drop, side_applied, side_settle}
use Rattle.smp_model.specs.Steps.{side_at, applied}
use Rattle.smp_model.specs.Uploads.{differs, is_spoiled, kept, is_resumed_by, is_tagged_by}
use Rattle.smp_world.proofs.UploadRequests.{upload_cases, starting, left_by, aims_leave}
use Rattle.smp_jobs.specs.Jobs.{UploadJob, image_key, start_of, part_of}
use Rattle.smp_world.specs.UploadJobs.{IsFront, announcement_of}
use Rattle.smp_world.proofs.Cases.{by_if, both}
use Rattle.smp_world.proofs.Fronts.{front_more, front_append, front_short, kept_front}
use Rattle.smp_world.proofs.FairSteps.{OfJob, OfSome, AllOfJobs}
use Rattle.smp_world.proofs.WholeUploads.{Only}

-- The replies of a side: an offset within the file, or an error of the group.
abbrev Shape : UploadJob → Said → Type 0
Shape j (said.offset o m) = o ≤ length j.file
Shape j (said.group_error g n) = g ≡ 1
Shape j s = ⊥

abbrev ShapeOf : UploadJob → SideResponse → Type 0
ShapeOf j r = Shape j r.reply

within : (j : UploadJob) (held x : List ℕ) → IsFront (held ++ x) j.file → length held + length x ≤ length j.file
within j held x f = let n = front_short (held ++ x) j.file f in omega (arith, n, length-append held x)

completes_shape : (j : UploadJob) (held x : List ℕ) (digest : Option (List ℕ)) → IsFront (held ++ x) j.file → ShapeOf j (completes held x digest)
completes_shape j held x None f = within j held x f
completes_shape j held x (Some d) f = by_if (ShapeOf j) (differs (Some d) (held ++ x)) _ _ (λ _. within j held x f) (λ _. within j held x f)

keeps_shape : (j : UploadJob) (a : Announcement) (held x : List ℕ) → IsFront (held ++ x) j.file → ShapeOf j (keeps a held x)
keeps_shape j a held [] f = front_short held j.file (f.0, f.1 ∙ ap (λ (x : List ℕ). x ++ f.0) (append-nil held))
keeps_shape j a held (x ∷ xs) f =
    by_if (ShapeOf j) ((length held + length (x ∷ xs)) == a.length) (completes held (x ∷ xs) a.digest) _ (λ _. completes_shape j held (x ∷ xs) a.digest f) (λ _. within j held (x ∷ xs) f)

part_shape : (j : UploadJob) (unit : ℕ) (a : Announcement) (held x : List ℕ) → IsFront (held ++ x) j.file → ShapeOf j (takes_part unit a held x)
part_shape j unit a held x f =
    by_if (ShapeOf j) (nat_lt a.length (length held + length x)) _ (keeps a held (kept unit a.length (length held) x)) (λ _. refl)
    (λ _. keeps_shape j a held (kept unit a.length (length held) x) (front_append held (kept unit a.length (length held) x) x j.file (kept_front unit a.length (length held) x) f))

chunk_front : (chunk : ℕ) (file : List ℕ) → IsFront (take chunk file) file
chunk_front chunk file = (drop chunk file, sym (take-append-drop chunk file))

new_shape : (j : UploadJob) (unit : ℕ) (p : Option Mark) → ShapeOf j (new_start unit (announcement_of j) (take j.chunk j.file) p)
new_shape j unit (Some m) = refl
new_shape j unit None =
    by_if (ShapeOf j) (nat_lt (length j.file) (length (take j.chunk j.file))) _ _ (λ _. refl) (λ _. part_shape j unit (announcement_of j) [] (take j.chunk j.file) (chunk_front j.chunk j.file))

resumes_shape : (j : UploadJob) (unit : ℕ) (a : Announcement) (held : List ℕ) → IsFront held j.file → ShapeOf j (resumes unit a held (take j.chunk j.file))
resumes_shape j unit a [] f = part_shape j unit a [] (take j.chunk j.file) (chunk_front j.chunk j.file)
resumes_shape j unit a (x ∷ xs) f = front_short (x ∷ xs) j.file f

pub own_front : (j : UploadJob) (i : ℕ) (u : Upload) → OfJob (Only j) i u → IsFront u.accepted j.file
own_front j i u f = subst (λ (k : UploadJob). IsFront u.accepted k.file) f.is f.front

start_shape : (j : UploadJob) (i unit : ℕ) (p : Option Mark) (u : Option Upload) → OfSome (Only j) i u → ShapeOf j (start_at unit (announcement_of j) (take j.chunk j.file) p u)
start_shape j i unit p None f = new_shape j unit p
start_shape j i unit p (Some u) f =
    by_if (ShapeOf j) (is_resumed_by u.announcement (announcement_of j)) (resumes unit u.announcement u.accepted (take j.chunk j.file)) _
    (λ _. resumes_shape j unit u.announcement u.accepted (own_front j i u f)) (λ _. new_shape j unit p)

at_shape : (j : UploadJob) (i unit off : ℕ) (tag : Option (List ℕ)) (u : Option Upload) → OfSome (Only j) i u → ShapeOf j (part_at unit off tag (take j.chunk (drop off j.file)) u)
at_shape j i unit off tag None f = omega arith
at_shape j i unit off tag (Some u) f =
    by_if (ShapeOf j) ((off == length u.accepted) && is_tagged_by tag u.announcement.digest) (takes_part unit u.announcement u.accepted (take j.chunk (drop off j.file))) _
    (λ e. let at : off ≡ length u.accepted = left_equal off (length u.accepted) (is_tagged_by tag u.announcement.digest) e in
    part_shape j unit u.announcement u.accepted (take j.chunk (drop off j.file))
    (front_more u.accepted (take j.chunk (drop off j.file)) j.file (own_front j i u f) (subst (λ (k : ℕ). IsFront (take j.chunk (drop off j.file)) (drop k j.file)) at (chunk_front j.chunk (drop off j.file)))))
    (λ _. front_short u.accepted j.file (own_front j i u f))
  where
    left_equal : (m n : ℕ) (b : Bool) → ((m == n) && b) ≡ true → m ≡ n
    left_equal m n b e = let s = both (m == n) b e in grind (arith, nat_tests, s.0)

-- and its side is there
abbrev pub There : UploadJob → Option Side → Said → Type 0
There j o (said.offset off m) = (off ≤ length j.file) × IsSome o
There j o (said.group_error g n) = g ≡ 1
There j o s = ⊥

shape_there : (j : UploadJob) (o : Option Side) (s : Said) → IsSome o → Shape j s → There j o s
shape_there j o (said.offset off m) i h = (h, i)
shape_there j o (said.group_error g n) i h = h
shape_there j o (said.smp_error n) i h = absurd h
shape_there j o said.empty i h = absurd h
shape_there j o (said.echo t) i h = absurd h
shape_there j o said.parameters i h = absurd h
shape_there j o (said.stat_group a b c) i h = absurd h
shape_there j o said.stat_list i h = absurd h
shape_there j o (said.images a b) i h = absurd h
shape_there j o (said.setting v) i h = absurd h
shape_there j o (said.file_part a b c) i h = absurd h
shape_there j o (said.file_length l) i h = absurd h
shape_there j o (said.file_hash a b c) i h = absurd h
shape_there j o said.file_types i h = absurd h

settled_of : (j : UploadJob) (i : ℕ) (s : Side) → OfSome (Only j) i s.upload → OfSome (Only j) i (side_settle s).upload
settled_of j i s f = by_if (λ (steps : List SideStep). OfSome (Only j) i (side_applied steps s).upload) (is_spoiled s.upload) (Drop ∷ []) [] (λ _. tt) (λ _. f)

abbrev ThereAfter : UploadJob → ℕ → AbstractDevice → Response → Type 0
ThereAfter j i d r = There j (side_at i (applied r.steps d)) r.reply

found_some : (o : Option Side) (s : Side) → o ≡ Some s → IsSome o
found_some o s e = subst IsSome (sym e) refl

the_number : (m n : ℕ) → Some m ≡ Some n → m ≡ n
the_number m n e = cc

pub start_there : (sizes : Sizes) (j : UploadJob) (d : AbstractDevice) → AllOfJobs (Only j) d → ThereAfter j (side_of d.target (image_key j.image) 0 (Some (sha256 j.file))) d (does sizes d (start_of j))
start_there sizes j d f =
    upload_cases (ThereAfter j i d) sizes d (image_key j.image) (Some (length j.file)) 0 (Some (sha256 j.file)) (take j.chunk j.file)
    (λ n. refl)
    (λ s n found l z long. subst (λ (k : ℕ). ThereAfter j i d (settling_side i s (aims i (response s k).reply) (response s k))) (the_number (length j.file) n l)
    (shape_there j (side_at i (applied (settling_side i s (aims i (response s (length j.file)).reply) (response s (length j.file))).steps d)) (response s (length j.file)).reply
    (found_some _ _ (left_by i d s (aims i (response s (length j.file)).reply) (response s (length j.file)) found (aims_leave i i (response s (length j.file)).reply)))
    (start_shape j i sizes.unit s.pending (side_settle s).upload (settled_of j i s (f i s found)))))
    (λ s found z. absurd (z refl))
  where
    i : ℕ
    i = side_of d.target (image_key j.image) 0 (Some (sha256 j.file))

    response : Side → ℕ → SideResponse
    response s k = starting sizes s k (Some (sha256 j.file)) (take j.chunk j.file)

no_length : (n : ℕ) → None ≡ Some n → ⊥
no_length n e = cc

pub part_there : (sizes : Sizes) (j : UploadJob) (off : ℕ) (d : AbstractDevice) → AllOfJobs (Only j) d → ThereAfter j (side_of d.target (image_key j.image) off (Some (sha256 j.file))) d (does sizes d (part_of j off))
part_there sizes j off d f =
    upload_cases (ThereAfter j i d) sizes d (image_key j.image) None off (Some (sha256 j.file)) (take j.chunk (drop off j.file))
    (λ n. refl)
    (λ s n found l z long. absurd (no_length n l))
    (λ s found z. shape_there j (side_at i (applied (settling_side i s [] (response s)).steps d)) (response s).reply
    (found_some _ _ (left_by i d s [] (response s) found (λ e. refl)))
    (at_shape j i sizes.unit off (Some (sha256 j.file)) (side_settle s).upload (settled_of j i s (f i s found))))
  where
    i : ℕ
    i = side_of d.target (image_key j.image) off (Some (sha256 j.file))

    response : Side → SideResponse
    response s = part_at sizes.unit off (Some (sha256 j.file)) (take j.chunk (drop off j.file)) (side_settle s).upload
