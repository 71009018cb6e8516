-- Which settings of a job are among those that run and those that are saved, and what keeps them there.
use Rattle.std.proofs.Common.{◌≡◌, ◌⊎◌, inl, inr, ◌<◌, ◌≤◌, ◌^◌, not, ℕ, zero, suc, List, [], ◌∷◌, length, Option, Some, None, refl, sym, ap, subst, ◌∙◌, arith, append-nil}
use Rattle.smp_cbor.specs.Shortest.{IsText, shortest}
use Rattle.smp_model.specs.declared.device.AbstractDevice.{AbstractDevice}
use Rattle.smp_model.specs.declared.device.Sizes.{Sizes}
use Rattle.smp_model.specs.declared.setting.Setting.{Setting}
use Rattle.smp_model.specs.Does.{does}
use Rattle.smp_model.specs.Errors.{IsGroupError}
use Rattle.smp_model.specs.Meant as meant
use Rattle.smp_model.specs.Meant.{Meant}
use Rattle.smp_model.specs.Response.{Response}
use Rattle.smp_model.specs.Said as said
use Rattle.smp_model.specs.Said.{Said, reply_message, reply_value}
use Rattle.smp_model.specs.Settings.{value_of, written_setting, is_setting_name, is_setting_value, is_full}
use Rattle.smp_model.specs.SettingsGroup.{refuses_setting}
use Rattle.smp_model.specs.Steps.{Step, Run, write_setting, applied}
use Rattle.smp_reply.specs.declared.answer.Asked.TheVariants as kinds
use Rattle.smp_reply.specs.Told as told
use Rattle.smp_reply.specs.Told.{Told}
use Rattle.smp_device.specs.Goings.{counted_if}
use Rattle.smp_jobs.specs.Jobs.{Next, asks, ends, nth_of_set}
use Rattle.smp_world.specs.SetJobs.{LacksName, NamesDiffer, AreTexts, HasAll}
use Rattle.smp_world.specs.Below.{LawsBelow, OnlySaves, StepsAreDue}
use Rattle.smp_world.proofs.Cases.{by_if}
use Rattle.smp_world.proofs.SparingRequests.{IsNoWrite, Spares, running_same, else_same}
use Rattle.smp_world.proofs.WrittenSettings.{written_same, written_other}

-- the settings of a device
pub record Memory : Type 0 where
  pub running : List Setting
  pub saved : List Setting

abbrev pub memory : AbstractDevice → Memory
memory d = record { running = d.running; saved = d.saved }

pub memory_counted : (r : Option Said) (d : AbstractDevice) → memory (counted_if r d) ≡ memory d
memory_counted None d = refl
memory_counted (Some r) d = refl

-- the first so many are there, and the one of a number is
abbrev pub Has : List Setting → ℕ → List Setting → Type 0
Has [] n among = Unit {0}
Has (s ∷ settings) zero among = Unit {0}
Has (s ∷ settings) (suc n) among = (value_of s.name among ≡ Some s.val) × Has settings n among

abbrev pub At : List Setting → ℕ → List Setting → Type 0
At [] n among = Unit {0}
At (s ∷ settings) zero among = value_of s.name among ≡ Some s.val
At (s ∷ settings) (suc n) among = At settings n among

pub has_none : (settings among : List Setting) → Has settings zero among
has_none [] among = tt
has_none (s ∷ settings) among = tt

pub has_more : (settings : List Setting) (n : ℕ) (among : List Setting) → Has settings n among → At settings n among → Has settings (suc n) among
has_more [] n among h a = tt
has_more (s ∷ settings) zero among h a = (a, has_none settings among)
has_more (s ∷ settings) (suc n) among h a = (h.0, has_more settings n among h.1 a)

pub has_all : (settings : List Setting) (n : ℕ) (among : List Setting) → length settings ≤ n → Has settings n among → HasAll settings among
has_all [] n among le h = tt
has_all (s ∷ settings) zero among le h = absurd (omega (arith, le))
has_all (s ∷ settings) (suc n) among le h = (h.0, has_all settings n among (omega (arith, le)) h.1)

-- each is as it was, or as the job has it
abbrev pub KeptAmong : List Setting → List Setting → List Setting → Type 0
KeptAmong [] before after = Unit {0}
KeptAmong (s ∷ settings) before after =
    ((value_of s.name after ≡ value_of s.name before) ⊎ (value_of s.name after ≡ Some s.val)) × KeptAmong settings before after

kept_value : (s : Setting) (before after : List Setting) → ((value_of s.name after ≡ value_of s.name before) ⊎ (value_of s.name after ≡ Some s.val))
    → value_of s.name before ≡ Some s.val → value_of s.name after ≡ Some s.val
kept_value s before after (inl same) e = same ∙ e
kept_value s before after (inr is) e = is

pub kept_has : (settings : List Setting) (n : ℕ) (before after : List Setting) → KeptAmong settings before after → Has settings n before → Has settings n after
kept_has [] n before after k h = tt
kept_has (s ∷ settings) zero before after k h = tt
kept_has (s ∷ settings) (suc n) before after k h = (kept_value s before after k.0 h.0, kept_has settings n before after k.1 h.1)

pub kept_at : (settings : List Setting) (n : ℕ) (before after : List Setting) → KeptAmong settings before after → At settings n before → At settings n after
kept_at [] n before after k h = tt
kept_at (s ∷ settings) zero before after k h = kept_value s before after k.0 h
kept_at (s ∷ settings) (suc n) before after k h = kept_at settings n before after k.1 h

pub kept_all : (settings : List Setting) (before after : List Setting) → KeptAmong settings before after → HasAll settings before → HasAll settings after
kept_all [] before after k h = tt
kept_all (s ∷ settings) before after k h = (kept_value s before after k.0 h.0, kept_all settings before after k.1 h.1)

pub same_kept : (settings : List Setting) (before after : List Setting) → after ≡ before → KeptAmong settings before after
same_kept [] before after e = tt
same_kept (s ∷ settings) before after e = (inl (ap (value_of s.name) e), same_kept settings before after e)

-- a write of a name that is none of theirs
lacks_kept : (settings : List Setting) (n v : List ℕ) (r : List Setting) → LacksName n settings → KeptAmong settings r (written_setting n v r)
lacks_kept [] n v r h = tt
lacks_kept (s ∷ settings) n v r h = (inl (written_other s.name n v r h.0), lacks_kept settings n v r h.1)

-- the setting that a request writes
asks_write : (s : Setting) (n v : List ℕ) → asks (meant.setting_write s.name s.val) ≡ asks (meant.setting_write n v) → (s.name ≡ n) × (s.val ≡ v)
asks_write s n v e = (cc, cc)

ends_not : (m : Meant) (e : Rattle.smp_jobs.specs.Jobs.End) → ends e ≡ asks m → ⊥
ends_not m e k = cc

save_not_write : (n v : List ℕ) → asks meant.save ≡ asks (meant.setting_write n v) → ⊥
save_not_write n v e = cc

write_not_save : (n v : List ℕ) → asks (meant.setting_write n v) ≡ asks meant.save → ⊥
write_not_save n v e = cc

-- the name of one of them is not one that they lack
lacks_nth : (settings : List Setting) (i : ℕ) (n v name : List ℕ) → LacksName name settings → nth_of_set settings i ≡ asks (meant.setting_write n v) → n ≡ name → ⊥
lacks_nth [] zero n v name h e same = save_not_write n v e
lacks_nth [] (suc i) n v name h e same = ends_not (meant.setting_write n v) _ e
lacks_nth (s ∷ settings) zero n v name h e same = h.0 ((asks_write s n v e).0 ∙ same)
lacks_nth (s ∷ settings) (suc i) n v name h e same = lacks_nth settings i n v name h.1 e same

-- a write of one of them
own_kept : (settings : List Setting) (i : ℕ) (n v : List ℕ) (r : List Setting) → NamesDiffer settings → nth_of_set settings i ≡ asks (meant.setting_write n v)
    → KeptAmong settings r (written_setting n v r) × At settings i (written_setting n v r)
own_kept [] i n v r d e = (tt, tt)
own_kept (s ∷ settings) zero n v r d e =
    let is = asks_write s n v e in
    let here : value_of s.name (written_setting n v r) ≡ Some s.val = ap (λ (x : List ℕ). value_of x (written_setting n v r)) is.0 ∙ written_same n v r ∙ ap Some (sym is.1) in
    ((inr here, subst (λ (x : List ℕ). KeptAmong settings r (written_setting x v r)) is.0 (lacks_kept settings s.name v r d.0)), here)
own_kept (s ∷ settings) (suc i) n v r d e =
    let rest = own_kept settings i n v r d.1 e in
    ((inl (written_other s.name n v r (λ same. lacks_nth settings i n v s.name d.0 e (sym same))), rest.0), rest.1)

-- which request has a number
abbrev pub IsNth : List Setting → ℕ → Meant → Type 0
IsNth settings i m =
    ((n : List ℕ) × (v : List ℕ) × (m ≡ meant.setting_write n v) × (i < length settings) × IsText n × (length v < 2 ^ 64))
    ⊎ ((m ≡ meant.save) × (i ≡ length settings))

asks_same : (m n : Meant) → asks m ≡ asks n → m ≡ n
asks_same m n e = cc

pub is_nth : (settings : List Setting) (i : ℕ) (m : Meant) → AreTexts settings → nth_of_set settings i ≡ asks m → IsNth settings i m
is_nth [] zero m t e = inr (sym (asks_same meant.save m e), refl)
is_nth [] (suc i) m t e = absurd (ends_not m _ e)
is_nth (s ∷ settings) zero m t e = inl (s.name, s.val, sym (asks_same (meant.setting_write s.name s.val) m e), omega arith, t.0, t.1)
is_nth (s ∷ settings) (suc i) m t e = later (is_nth settings i m t.2 e)
  where
    later : IsNth settings i m → IsNth (s ∷ settings) (suc i) m
    later (inl k) = let lt = k.3 in inl (k.0, k.1, k.2, omega (arith, lt), k.4, k.5)
    later (inr k) = let eq = k.1 in inr (k.0, omega (arith, eq))

-- what is kept of a device's settings
pub record Kept (settings : List Setting) (before after : Memory) : Type 0 where
  pub running : KeptAmong settings before.running after.running
  pub saved : (after.saved ≡ before.saved) ⊎ (after.saved ≡ before.running)

abbrev pub AllSaved : List Setting → Memory → Type 0
AllSaved settings x = HasAll settings x.running × HasAll settings x.saved

pub kept_saved : (settings : List Setting) (before after : Memory) → Kept settings before after → AllSaved settings before → AllSaved settings after
kept_saved settings before after k h = (kept_all settings before.running after.running k.running h.0, by_saved k.saved)
  where
    by_saved : ((after.saved ≡ before.saved) ⊎ (after.saved ≡ before.running)) → HasAll settings after.saved
    by_saved (inl e) = subst (HasAll settings) (sym e) h.1
    by_saved (inr e) = subst (HasAll settings) (sym e) h.0

-- what is saved after a request
saved_by : OnlySaves → (sizes : Sizes) (d : AbstractDevice) (m : Meant)
    → ((applied (does sizes d m).steps d).saved ≡ d.saved) ⊎ ((applied (does sizes d m).steps d).saved ≡ d.running)
saved_by law sizes d m = by_law (law sizes d (applied (does sizes d m).steps d) m (record { front = (does sizes d m).steps; rest = []; split = sym (append-nil (does sizes d m).steps); reached = refl }))
  where
    by_law : (((applied (does sizes d m).steps d).saved ≡ d.saved) ⊎ ((m ≡ meant.save) × ((applied (does sizes d m).steps d).saved ≡ d.running)))
        → ((applied (does sizes d m).steps d).saved ≡ d.saved) ⊎ ((applied (does sizes d m).steps d).saved ≡ d.running)
    by_law (inl e) = inl e
    by_law (inr e) = inr e.1

-- a write of a setting changes the running ones to that, or is refused
abbrev pub Written : AbstractDevice → List ℕ → List ℕ → Response → Type 0
Written d n v r =
    ((number : ℕ) × (r.steps ≡ []) × (r.reply ≡ said.group_error 3 number) × (number < 256) × IsGroupError 3 number)
    ⊎ ((r.reply ≡ said.empty) × (r.steps ≡ Run (write_setting n v) ∷ []))

pub write_does : (sizes : Sizes) (d : AbstractDevice) (n v : List ℕ) → Written d n v (does sizes d (meant.setting_write n v))
write_does sizes d n v =
    by_if (Written d n v) (not (is_setting_name n)) (refuses_setting 2) _ (λ _. inl (2, refl, refl, omega arith, refl))
    (λ _. by_if (Written d n v) (not (is_setting_value v)) (refuses_setting 64) _ (λ _. inl (64, refl, refl, omega arith, refl))
    (λ _. by_if (Written d n v) (is_full n v d.running) (refuses_setting 65) (record { reply = said.empty; steps = Run (write_setting n v) ∷ [] }) (λ _. inl (65, refl, refl, omega arith, refl))
    (λ _. inr (refl, refl))))

-- the settings after requests of others
-- a request that writes no setting keeps those that run
unwritten : StepsAreDue → OnlySaves → (settings : List Setting) (sizes : Sizes) (d : AbstractDevice) (m : Meant) → Spares settings m → IsNoWrite m → Kept settings (memory d) (memory (applied (does sizes d m).steps d))
unwritten due law settings sizes d m s no_write = record {
  running = same_kept settings d.running (applied (does sizes d m).steps d).running (running_same (does sizes d m).steps d (else_same due settings sizes d m s no_write));
  saved = saved_by law sizes d m;
}

-- one that writes another's setting does too
written : OnlySaves → (settings : List Setting) (sizes : Sizes) (d : AbstractDevice) (n v : List ℕ) → LacksName n settings
    → Kept settings (memory d) (memory (applied (does sizes d (meant.setting_write n v)).steps d))
written law settings sizes d n v lacks = record { running = by_written (write_does sizes d n v); saved = saved_by law sizes d (meant.setting_write n v) }
  where
    by_written : Written d n v (does sizes d (meant.setting_write n v)) → KeptAmong settings d.running (applied (does sizes d (meant.setting_write n v)).steps d).running
    by_written (inl k) = same_kept settings d.running (applied (does sizes d (meant.setting_write n v)).steps d).running (ap (λ (t : List Step). (applied t d).running) k.1)
    by_written (inr k) = subst (λ (t : List Step). KeptAmong settings d.running (applied t d).running) (sym k.1) (lacks_kept settings n v d.running lacks)

pub else_kept : StepsAreDue → OnlySaves → (settings : List Setting) (sizes : Sizes) (d : AbstractDevice) (m : Meant) → Spares settings m → Kept settings (memory d) (memory (applied (does sizes d m).steps d))
else_kept due law settings sizes d (meant.setting_write n v) s = written law settings sizes d n v s
else_kept due law settings sizes d (meant.echo text) s = unwritten due law settings sizes d (meant.echo text) s tt
else_kept due law settings sizes d meant.image_list s = unwritten due law settings sizes d meant.image_list s tt
else_kept due law settings sizes d (meant.image_set hash confirm) s = unwritten due law settings sizes d (meant.image_set hash confirm) s tt
else_kept due law settings sizes d (meant.upload image len off sha part) s = unwritten due law settings sizes d (meant.upload image len off sha part) s tt
else_kept due law settings sizes d meant.save s = unwritten due law settings sizes d meant.save s tt
else_kept due law settings sizes d (meant.file_read off name) s = unwritten due law settings sizes d (meant.file_read off name) s tt
else_kept due law settings sizes d (meant.file_write off part len name) s = unwritten due law settings sizes d (meant.file_write off part len name) s tt
else_kept due law settings sizes d m s = absurd s

-- what a reply to the request of a number tells: that its setting runs, or that all are saved
pub record Fact (settings : List Setting) (i : ℕ) (x : Memory) : Type 0 where
  pub set : i < length settings → At settings i x.running
  pub saved : i ≡ length settings → AllSaved settings x

pub kept_fact : (settings : List Setting) (i : ℕ) (before after : Memory) → Kept settings before after → Fact settings i before → Fact settings i after
kept_fact settings i before after k f = record {
  set = λ lt. kept_at settings i before.running after.running k.running (f.set lt);
  saved = λ eq. kept_saved settings before after k (f.saved eq);
}

abbrev some_told : Told → Option Told
some_told t = Some t

differ : (group n : ℕ) → some_told (told.refused (Some group) n) ≡ some_told told.done → ⊥
differ group n e = cc

-- a refusal is not read as done
refused_not_done : LawsBelow → (n : ℕ) (reply : Said) → reply ≡ said.group_error 3 n → n < 256 → IsGroupError 3 n → told.told kinds.Done (shortest (reply_value 1 reply)) ≡ Some told.done → ⊥
refused_not_done law n reply is few e t =
    differ 3 n (sym (law.replies 1 kinds.Done (said.group_error 3 n) (omega arith, omega (arith, few)) e) ∙ ap (λ (r : Said). told.told kinds.Done (shortest (reply_value 1 r))) (sym is) ∙ t)

-- the request of a number was answered
pub record Did (settings : List Setting) (i : ℕ) (before after : Memory) (reply : Said) : Type 0 where
  pub kept : Kept settings before after
  pub fact : told.told kinds.Done (shortest (reply_value 1 reply)) ≡ Some told.done → Fact settings i after

pub mine_does : LawsBelow → OnlySaves → (settings : List Setting) (i : ℕ) (m : Meant) (sizes : Sizes) (d : AbstractDevice) → NamesDiffer settings → nth_of_set settings i ≡ asks m → IsNth settings i m
    → Has settings i d.running → Did settings i (memory d) (memory (applied (does sizes d m).steps d)) (does sizes d m).reply
mine_does law only settings i m sizes d differ_ e (inl k) has =
    subst (λ (x : Meant). Did settings i (memory d) (memory (applied (does sizes d x).steps d)) (does sizes d x).reply) (sym k.2) (by_written (write_does sizes d k.0 k.1))
  where
    by_written : Written d k.0 k.1 (does sizes d (meant.setting_write k.0 k.1))
        → Did settings i (memory d) (memory (applied (does sizes d (meant.setting_write k.0 k.1)).steps d)) (does sizes d (meant.setting_write k.0 k.1)).reply
    by_written (inl w) = record {
      kept = record {
        running = same_kept settings d.running _ (ap (λ (t : List Step). (applied t d).running) w.1);
        saved = saved_by only sizes d (meant.setting_write k.0 k.1);
      };
      fact = λ t. absurd (refused_not_done law w.0 (does sizes d (meant.setting_write k.0 k.1)).reply w.2 w.3 w.4 t);
    }
    by_written (inr w) =
        let own = own_kept settings i k.0 k.1 d.running differ_ (e ∙ ap asks k.2) in
        let lt = k.3 in
        record {
          kept = record {
            running = subst (λ (t : List Step). KeptAmong settings d.running (applied t d).running) (sym w.1) own.0;
            saved = saved_by only sizes d (meant.setting_write k.0 k.1);
          };
          fact = λ t. record {
            set = λ _. subst (λ (t : List Step). At settings i (applied t d).running) (sym w.1) own.1;
            saved = λ eq. absurd (omega (arith, lt, eq));
          };
        }
mine_does law only settings i m sizes d differ_ e (inr k) has =
    let all : HasAll settings d.running = has_all settings i d.running (omega (arith, k.1)) has in
    subst (λ (x : Meant). Did settings i (memory d) (memory (applied (does sizes d x).steps d)) (does sizes d x).reply) (sym k.0) (record {
      kept = record { running = same_kept settings d.running d.running refl; saved = inr refl };
      fact = λ t. record { set = λ lt. let eq = k.1 in absurd (omega (arith, lt, eq)); saved = λ _. (all, all) };
    })
