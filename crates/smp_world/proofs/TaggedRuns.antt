-- In every run without raw bytes, each upload is a front of the file of a job for its image.
use Rattle.std.proofs.Common.{◌≡◌, inl, inr, ◌+◌, ℕ, zero, suc, List, [], ◌∷◌, ◌++◌, length, Bool, true, false, Option, Some, None, Result, Ok, Err, refl, sym, ap, subst, ◌∙◌}
use Rattle.std.specs.Prelude.{All, Contains, get_or}
use Rattle.std.proofs.lemmas.Option.{slice_get_within, get_or_from_slice_get}
use Rattle.std.proofs.lemmas.List.Elements.{All-get_or, All-push, All-set, All-nil, All-head, All-tail, Contains-get_or, Contains-append_left}
use Rattle.sha2.specs.Sha256.{sha256}
use Rattle.smp_header.specs.Message.{Message}
use Rattle.smp_model.specs.declared.device.AbstractDevice.{AbstractDevice}
use Rattle.smp_model.specs.declared.device.Side.{Side}
use Rattle.smp_model.specs.declared.device.Sizes.{Sizes}
use Rattle.smp_model.specs.declared.device.Upload.{Upload}
use Rattle.smp_model.specs.declared.upload.Announcement.{Announcement}
use Rattle.smp_model.specs.Does.{does}
use Rattle.smp_model.specs.Laws.{Along}
use Rattle.smp_model.specs.Meaning.{meaning}
use Rattle.smp_model.specs.Meant.{Meant}
use Rattle.smp_model.specs.Steps.{Step, Part, side_at, settle_steps}
use Rattle.smp_world.specs.Below.{LawsBelow}
use Rattle.smp_world.proofs.Sides.{along_front}
use Rattle.smp_jobs.specs.Clients.{Client, Turn, begun, client_hears, client_waited}
use Rattle.smp_device.specs.Goings.{Armed, Went, Goes}
use Rattle.smp_world.specs.Comings.{Came, Comes, after_coming}
use Rattle.smp_jobs.specs.Jobs.{UploadJob, Job, uploads, lists, sets, puts, gets, echoes, End}
use Rattle.smp_world.specs.Lines as lines
use Rattle.smp_world.specs.Lines.{Line, Did}
use Rattle.smp_world.specs.Runs.{Event, begins, raw, up, down, quiet, arms, boot, Mail, State, Moment, nth, with_nth, number_of, Happens, Run as IsRun, UpComes, UpNamed, turned, unless_ended, moves, comes_down, client_begins, with_packet, state_at_end, first_state}
use Rattle.smp_device.specs.Formatting.{formatted_side}
use Rattle.smp_world.specs.UploadJobs.{IsFront, IsAmong, IsNotRaw, Begun, AreTagged, IsTagged}
use Rattle.smp_world.proofs.Durably.{side_alike, means}
use Rattle.smp_world.proofs.FairPackets.{FairMeans, FairMessage, FairKind, begun_kind, kind_fair}
use Rattle.smp_world.proofs.Pending.{LastsAtBoots, nothing_of_error, booting_lasts, coming_after}
use Rattle.smp_world.proofs.FairSteps.{Uploads, OfJob, OfSome, FairAt, AllOfJobs, fair_applied, settling_fair}
use Rattle.smp_world.proofs.ClientKinds.{HasKind, SendsKind, TurnKind, hears_kind, waited_kind}

pub nth_all : {X : Type 0} (P : X → Type 0) (xs : List X) (n : ℕ) (x : X) → All P xs → nth xs n ≡ Some x → P x
nth_all P xs zero x all is = cc
nth_all P xs (suc k) x all is = subst P (get_or_from_slice_get xs k x x is) (All-get_or P xs k x (slice_get_within xs k x is) all)

pub set_all : {X : Type 0} (P : X → Type 0) (xs : List X) (n : ℕ) (x : X) → All P xs → P x → All P (with_nth xs n x)
set_all P xs zero x all p = all
set_all P xs (suc k) x all p = All-set P xs k x p all

-- The device.
fair_part : (J : Uploads) (d e : AbstractDevice) (steps : List Step) → Along (FairAt J) d steps → AllOfJobs J d → Part d steps e → AllOfJobs J e
fair_part J d e steps h f p =
    subst (AllOfJobs J) (sym p.reached) (fair_applied J p.front d (along_front (FairAt J) p.front p.rest d (subst (Along (FairAt J) d) p.split h)) f)

pub jobs_at_boots : (J : Uploads) → LastsAtBoots (AllOfJobs J)
jobs_at_boots J = record {
  alike = λ d e h f i s g. f i s (sym (side_alike i d e h) ∙ g);
  settling = λ d e f p. fair_part J d e (settle_steps d) (settling_fair J d) f p;
}

-- the steps that were taken of a packet
pub going_along : (J : Uploads) (sizes : Sizes) (h : Option Armed) (d : AbstractDevice) (mm : Result Meant ℕ) (w : Went) → FairMeans J mm → Goes sizes h d mm w → AllOfJobs J d → Along (FairAt J) d w.taken
going_along J sizes h d (Ok m) w fair (inl p) f = subst (Along (FairAt J) d) (sym p.taken) (fair sizes d f)
going_along J sizes h d (Ok m) w fair (inr p) f =
    along_front (FairAt J) w.taken p.rest d (subst (Along (FairAt J) d) (ap (λ (x : Meant). (does sizes d x).steps) (same m p.request p.means) ∙ p.split) (fair sizes d f))
  where
    same : (m n : Meant) → means m ≡ means n → m ≡ n
    same m n e = cc
going_along J sizes h d (Err n) w fair g f = subst (Along (FairAt J) d) (sym (nothing_of_error sizes h d n w g)) tt

pub coming_fair : (J : Uploads) (sizes : Sizes) (h : Option Armed) (d : AbstractDevice) (m : Message) (c : Came) → FairMessage J m → Comes sizes h d (meaning m) c → AllOfJobs J d → AllOfJobs J (after_coming c d)
coming_fair J sizes h d m c fair k f =
    coming_after (AllOfJobs J) (jobs_at_boots J) (meaning m) c d k.boots (fair_applied J c.went.taken d (going_along J sizes h d (meaning m) c.went fair k.goes f) f)

-- Runs.
pub record Inv (J : Uploads) (s : State) : Type 0 where
  pub device : AllOfJobs J s.device
  pub sent : All (λ (p : Mail). FairMessage J p.message) s.packets
  pub known : All (HasKind (FairKind J)) s.clients

abbrev Fair : Uploads → Mail → Type 0
Fair J p = FairMessage J p.message

sent_more : (J : Uploads) (ps : List Mail) (k : ℕ) (m : Option Message) → SendsKind (FairKind J) m → All (Fair J) ps → All (Fair J) (with_packet ps k m)
sent_more J ps k None o all = all
sent_more J ps k (Some m) o all = All-push (Fair J) ps (record { client = k; message = m }) all (kind_fair J m o)

inv_turned : (J : Uploads) (line : Did → Line) (s : State) (k : ℕ) (t : Turn) → TurnKind (FairKind J) t → Inv J s → Inv J (turned line s k t).state
inv_turned J line s k t ok i = record {
  device = i.device;
  sent = sent_more J s.packets k t.packet ok.1 i.sent;
  known = set_all (HasKind (FairKind J)) s.clients k t.client i.known ok.0;
}

inv_unless : (J : Uploads) (line : Did → Line) (s : State) (k : ℕ) (e : Option End) (t : Turn) → TurnKind (FairKind J) t → Inv J s → Inv J (unless_ended line s k e t).state
inv_unless J line s k None t ok i = inv_turned J line s k t ok i
inv_unless J line s k (Some e) t ok i = i

inv_moves : (J : Uploads) (line : Did → Line) (s : State) (k : ℕ) (c : Option Client) (turn : Client → Turn) → nth s.clients k ≡ c
    → ((x : Client) → HasKind (FairKind J) x → TurnKind (FairKind J) (turn x)) → Inv J s → Inv J (moves line s k c turn).state
inv_moves J line s k None turn is ok i = i
inv_moves J line s k (Some c) turn is ok i = inv_unless J line s k c.ended (turn c) (ok c (nth_all (HasKind (FairKind J)) s.clients k c i.known is)) i

inv_down : (J : Uploads) (s : State) (n : ℕ) (r : Option Mail) → Inv J s → Inv J (comes_down s n r).state
inv_down J s n None i = i
inv_down J s n (Some r) i =
    inv_moves J (λ did. lines.down n did) s r.client (nth s.clients r.client) (λ c. client_hears c r.message) refl (λ c k. hears_kind (FairKind J) c r.message k) i

inv_up : (J : Uploads) (sizes : Sizes) (is : Bool) (s : State) (n : ℕ) (p : Mail) (out : Moment) → FairMessage J p.message → UpComes sizes is s n p out → Inv J s → Inv J out.state
inv_up J sizes false s n p out fair h i = subst (λ (o : Moment). Inv J o.state) (sym h) i
inv_up J sizes true s n p out fair h i =
    subst (λ (o : Moment). Inv J o.state) (sym h.2)
    (record { device = coming_fair J sizes s.armed s.device p.message h.0 fair h.1 i.device; sent = i.sent; known = i.known })

inv_named : (J : Uploads) (sizes : Sizes) (s : State) (n : ℕ) (p : Option Mail) (out : Moment) → nth s.packets n ≡ p → UpNamed sizes s n p out → Inv J s → Inv J out.state
inv_named J sizes s n None out e h i = subst (λ (o : Moment). Inv J o.state) (sym h) i
inv_named J sizes s n (Some p) out e h i = inv_up J sizes s.up s n p out (nth_all (Fair J) s.packets n p i.sent e) h i

inv_begins : LawsBelow → (J : Uploads) → AreTagged J → (s : State) (job : Job) → IsAmong J (begins job) → Inv J s → Inv J (client_begins s job).state
inv_begins law J tagged s job is i =
    let kind = begun_kind law J tagged job is in
    record {
      device = i.device;
      sent = All-push (Fair J) s.packets (record { client = length s.clients + 1; message = (begun job).request.packet }) i.sent (kind_fair J (begun job).request.packet kind.packet);
      known = All-push (HasKind (FairKind J)) s.clients (begun job) i.known kind;
    }

pub inv_event : LawsBelow → (J : Uploads) → AreTagged J → (sizes : Sizes) (s : State) (e : Event) (out : Moment) → IsAmong J e → Happens sizes s e out → Inv J s → Inv J out.state
inv_event law J tagged sizes s (begins job) out of_ h i = subst (λ (o : Moment). Inv J o.state) (sym h) (inv_begins law J tagged s job of_ i)
inv_event law J tagged sizes s (raw bytes) out of_ h i = absurd of_
inv_event law J tagged sizes s (up which) out of_ h i = inv_named J sizes s (number_of s.packets which) (nth s.packets (number_of s.packets which)) out refl h i
inv_event law J tagged sizes s (down which) out of_ h i = subst (λ (o : Moment). Inv J o.state) (sym h) (inv_down J s (number_of s.replies which) (nth s.replies (number_of s.replies which)) i)
inv_event law J tagged sizes s (quiet k) out of_ h i =
    subst (λ (o : Moment). Inv J o.state) (sym h) (inv_moves J (λ did. lines.quiet k did) s k (nth s.clients k) client_waited refl (λ c x. waited_kind (FairKind J) c x) i)
inv_event law J tagged sizes s (arms a) out of_ h i = subst (λ (o : Moment). Inv J o.state) (sym h) (record { device = i.device; sent = i.sent; known = i.known })
inv_event law J tagged sizes s boot out of_ h i =
    subst (λ (o : Moment). Inv J o.state) (sym h.2)
    (record { device = booting_lasts (AllOfJobs J) (jobs_at_boots J) s.armed s.device h.0 h.1 i.device; sent = i.sent; known = i.known })

run_inv : LawsBelow → (J : Uploads) → AreTagged J → (sizes : Sizes) (s : State) (events : List Event) (moments : List Moment) → All (IsAmong J) events → IsRun sizes s events moments → Inv J s
    → Inv J (state_at_end s moments)
run_inv law J tagged sizes s [] [] of_ r i = i
run_inv law J tagged sizes s (e ∷ events) (m ∷ moments) of_ r i =
    run_inv law J tagged sizes m.state events moments (All-tail (IsAmong J) e events of_) r.1 (inv_event law J tagged sizes s e m (All-head (IsAmong J) e events of_) r.0 i)
run_inv law J tagged sizes s [] (m ∷ moments) of_ r i = absurd r
run_inv law J tagged sizes s (e ∷ events) [] of_ r i = absurd r

-- no upload is there at first
pub no_upload : (sizes : Sizes) (image : List ℕ) (second : Option (List ℕ)) (i : ℕ) (s : Side) → side_at i (first_state sizes image second).device ≡ Some s → s.upload ≡ None
no_upload sizes image second zero s e = by_first (formatted_side sizes image) refl e
  where
    by_first : (t : Side) → t.upload ≡ None → Some t ≡ Some s → s.upload ≡ None
    by_first t u e = cc
no_upload sizes image None (suc zero) s e = cc
no_upload sizes image (Some x) (suc zero) s e = by_second (formatted_side sizes x) refl e
  where
    by_second : (t : Side) → t.upload ≡ None → Some t ≡ Some s → s.upload ≡ None
    by_second t u e = cc
no_upload sizes image second (suc (suc n)) s e = cc

pub first_inv : (J : Uploads) (sizes : Sizes) (image : List ℕ) (second : Option (List ℕ)) → Inv J (first_state sizes image second)
first_inv J sizes image second = record {
  device = λ i s e. subst (OfSome J i) (sym (no_upload sizes image second i s e)) tt;
  sent = All-nil (Fair J);
  known = All-nil (HasKind (FairKind J));
}

-- the file of each job with the digest
the_digest : (J : Uploads) (i : ℕ) (u : Upload) (digest : List ℕ) (f : OfJob J i u) → u.announcement.digest ≡ Some digest → sha256 f.job.file ≡ digest
the_digest J i u digest f e = same (sha256 f.job.file) digest (sym (ap (λ (a : Announcement). a.digest) f.announced) ∙ e)
  where
    same : (a b : List ℕ) → Some a ≡ Some b → a ≡ b
    same a b e = cc

of_digest : (J : Uploads) → AreTagged J → (i : ℕ) (o : Option Upload) (u : Upload) (digest : List ℕ) (j : UploadJob) → OfSome J i o → o ≡ Some u → u.announcement.digest ≡ Some digest → J j → sha256 j.file ≡ digest
    → IsFront u.accepted j.file
of_digest J tagged i o u digest j f e d is same =
    let of_ : OfJob J i u = subst (OfSome J i) e f in
    subst (IsFront u.accepted) (tagged.files of_.job j of_.is is (the_digest J i u digest of_ d ∙ sym same)) of_.front

pub tagged_runs : LawsBelow → (J : Uploads) (sizes : Sizes) (image : List ℕ) (second : Option (List ℕ)) (events : List Event) (moments : List Moment)
    → AreTagged J → All (IsAmong J) events → IsRun sizes (first_state sizes image second) events moments
    → IsTagged J (state_at_end (first_state sizes image second) moments).device
tagged_runs law J sizes image second events moments tagged of_ r = λ i s u digest j found has d is same.
    let inv = run_inv law J tagged sizes (first_state sizes image second) events moments of_ r (first_inv J sizes image second) in
    of_digest J tagged i s.upload u digest j (inv.device i s found) has d is same

-- a schedule without raw bytes begins its own jobs
one_among : (events later : List Event) (e : Event) → IsNotRaw e → Contains events e → IsAmong (Begun (events ++ later)) e
one_among events later (begins (uploads j)) n h = Contains-append_left events later (begins (uploads j)) h
one_among events later (begins lists) n h = tt
one_among events later (begins (sets settings)) n h = tt
one_among events later (begins (puts name file)) n h = tt
one_among events later (begins (gets name)) n h = tt
one_among events later (begins (echoes text)) n h = tt
one_among events later (raw bytes) n h = absurd n
one_among events later (up which) n h = tt
one_among events later (down which) n h = tt
one_among events later (quiet client) n h = tt
one_among events later (arms arm) n h = tt
one_among events later boot n h = tt

pub all_among : (events later : List Event) → All IsNotRaw events → All (IsAmong (Begun (events ++ later))) events
all_among events later none k d lt = one_among events later (get_or events k d) (none k d lt) (Contains-get_or events k d lt)

pub tagged_schedules : LawsBelow → (sizes : Sizes) (image : List ℕ) (second : Option (List ℕ)) (events later : List Event) (moments : List Moment)
    → All IsNotRaw events → AreTagged (Begun (events ++ later)) → IsRun sizes (first_state sizes image second) events moments
    → IsTagged (Begun (events ++ later)) (state_at_end (first_state sizes image second) moments).device
tagged_schedules law sizes image second events later moments none tagged r =
    tagged_runs law (Begun (events ++ later)) sizes image second events moments tagged (all_among events later none) r
