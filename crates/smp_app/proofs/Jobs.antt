-- The jobs of clients.
use Rattle.std.proofs.Common.{◌≡◌, ℕ, true, List, [], ◌∷◌, length, Option, Some, None, refl, sym, ap, ◌∙◌, arith, ◌++◌, append_assoc, append-nil, subst, ◌+◌, suc}
use Rattle.std.specs.Prelude.{nat_le, nat_lt}
use Rattle.std.specs.List.{list_all}
use Rattle.std.specs.Str.{is_utf8}
use Rattle.std.proofs.lemmas.Bool.Decides.{nat_tests}
use Rattle.smp_jobs.specs.Tasks.{can_set}
use Rattle.smp_model.specs.Settings.{is_setting}
use Rattle.smp_model.specs.declared.setting.Setting.{Setting}
use Rattle.smp_schedule.specs.Lawful.{IsBetween, IsPair, ArePairs}
use Rattle.smp_jobs.specs.Jobs.{Job}
use Rattle.smp_jobs.specs.States.{JobState}
use Rattle.smp_model.specs.declared.image.ImageFault.{ImageFault}
use Rattle.smp_schedule.specs.declared.job.JobWords.{JobWords}
use Rattle.smp_schedule.specs.declared.job.JobWords.TheVariants as jobs
use Rattle.smp_app.specs.Loading.{first_of}
use Rattle.smp_app.specs.Making.{BeginJobs, BeginsJob, IsJobWith, bad_file, bad_files}
use Rattle.smp_app.specs.declared.loading.Client.{Client}
use Rattle.smp_app.proofs.Images.{bad_none}
use Rattle.smp_app.proofs.Texts.{word_is_utf8, word_has_bytes}

-- settings that a schedule may name can be written
pair_can : (pair : Setting) → IsPair pair → is_setting pair ≡ true
pair_can pair h =
    let some : nat_lt 0 (length pair.name) ≡ true = grind (arith, nat_tests, word_has_bytes pair.name h.0.0.0) in
    let few : nat_le (length pair.name) 32 ≡ true = grind (arith, nat_tests, h.0.1) in
    let text : is_utf8 pair.name ≡ true = word_is_utf8 pair.name h.0.0.0 in
    let val : nat_le (length pair.val) 128 ≡ true = grind (arith, nat_tests, h.1.1.1) in
    rw (some, few, text, val) refl

pairs_can : (pairs : List Setting) → ArePairs pairs → list_all is_setting pairs ≡ true
pairs_can [] h = refl
pairs_can (pair ∷ pairs) h = let one : is_setting pair ≡ true = pair_can pair h.0 in rw (one, pairs_can pairs h.1) refl

pub can : (pairs : List Setting) → IsBetween 1 254 (length pairs) × ArePairs pairs → can_set pairs ≡ true
can pairs h =
    let some : nat_le 1 (length pairs) ≡ true = grind (arith, nat_tests, h.0.0) in
    let few : nat_le (length pairs) 254 ≡ true = grind (arith, nat_tests, h.0.1) in
    rw (pairs_can pairs h.1, some, few) refl

-- a job that was made has a good file
with_good : (words : JobWords) (bytes : List ℕ) (job : Job) → IsJobWith words bytes job → bad_file words bytes ≡ None
with_good (jobs.Upload image file chunk ending) bytes job h = bad_none bytes (rw h.1 refl)
with_good jobs.List bytes job h = refl
with_good (jobs.Set pairs) bytes job h = refl
with_good (jobs.Put file name) bytes job h = refl
with_good (jobs.Get name) bytes job h = refl
with_good (jobs.Echo text) bytes job h = refl

pub not_bad : (words : JobWords) (bytes : List ℕ) (state : JobState) → BeginsJob words bytes state → bad_file words bytes ≡ None
not_bad words bytes state h = with_good words bytes h.0 h.1

-- The jobs of all clients.

pub first_bad : (client : Client) (clients : List Client) (why : ImageFault) → bad_file client.words.now client.file ≡ Some why
    → bad_files (client ∷ clients) ≡ Some why
first_bad client clients why h = ap (λ (w : Option ImageFault). first_of w (bad_files clients)) h

pub later_bad : (client : Client) (clients : List Client) (state : JobState) → BeginsJob client.words.now client.file state
    → bad_files (client ∷ clients) ≡ bad_files clients
later_bad client clients state h =
    ap (λ (w : Option ImageFault). first_of w (bad_files clients)) (not_bad client.words.now client.file state h)

pub begin_more : (all rest clients : List Client) (client : Client) (state : JobState) (states pushed more : List JobState)
    → rest ≡ client ∷ clients → pushed ≡ states ++ state ∷ []
    → ((added : List JobState) → BeginJobs rest added → BeginJobs all (states ++ added))
    → BeginsJob client.words.now client.file state → BeginJobs clients more → BeginJobs all (pushed ++ more)
begin_more all rest clients client state states pushed more split push h one others =
    let these : BeginJobs (client ∷ clients) (state ∷ more) = (one.0 ∷ others.0, (one.1, others.1), (one.2, others.2)) in
    let joined : pushed ++ more ≡ states ++ state ∷ more = ap (λ (xs : List JobState). xs ++ more) push ∙ append_assoc states (state ∷ []) more in
    subst (BeginJobs all) (sym joined) (h (state ∷ more) (subst (λ (cs : List Client). BeginJobs cs (state ∷ more)) (sym split) these))

pub all_begin : (all rest : List Client) (states : List JobState) → rest ≡ []
    → ((added : List JobState) → BeginJobs rest added → BeginJobs all (states ++ added)) → BeginJobs all states
all_begin all rest states none h =
    let nothing : BeginJobs [] [] = ([], tt, tt) in
    subst (BeginJobs all) (append-nil states) (h [] (subst (λ (cs : List Client). BeginJobs cs []) (sym none) nothing))

-- as many are left as the list has
pub none_left : (rest : List Client) (size : ℕ) → size ≡ length rest → size ≡ 0 → rest ≡ []
none_left [] size h none = refl
none_left (client ∷ rest) size h none = absurd (omega (arith, h, none))

pub one_less : (rest later : List Client) (client : Client) (size less : ℕ) → rest ≡ client ∷ later → size ≡ length rest → less + 1 ≡ size
    → less ≡ length later
one_less rest later client size less split h one =
    let long : length rest ≡ suc (length later) = ap length split in omega (arith, long, h, one)
