-- What is armed after an event, where nothing is armed by it: nothing, or the same with what may still pass.
use Rattle.std.proofs.Common.{◌≡◌, ◌⊎◌, inl, inr, ℕ, ◌≤◌, ◌<◌, ◌-◌, List, [], ◌∷◌, ◌++◌, Option, Some, None, Result, refl, sym, ap, subst, ◌∙◌, append-nil, arith}
use Rattle.std.specs.Prelude.{IsSome}
use Rattle.smp_flash.specs.declared.arm.Arm.{Arm}
use Rattle.smp_flash.specs.declared.arm.ArmKind.{ArmKind}
use Rattle.smp_flash.specs.declared.arm.ArmKind.TheVariants as kinds
use Rattle.smp_flash.specs.declared.region.Region.{Region}
use Rattle.smp_flash.specs.declared.region.Region.TheVariants as regions
use Rattle.smp_model.specs.declared.device.AbstractDevice.{AbstractDevice}
use Rattle.smp_model.specs.declared.device.Counters.{Counters}
use Rattle.smp_model.specs.declared.device.Sizes.{Sizes}
use Rattle.smp_model.specs.Meaning.{meaning}
use Rattle.smp_model.specs.Meant.{Meant}
use Rattle.smp_model.specs.Said.{Said}
use Rattle.smp_model.specs.Steps.{Step, OnSide, Save, apply, applied, counted}
use Rattle.smp_device.specs.Goings.{Armed, armed_by, passes_of, durable, IsCounted, AreCounted, BringNearer, IfOfChanges, StaysHeld, StaysArmed, Went, Goes, after_going, counted_if, Booted, Boots}
use Rattle.smp_world.specs.Comings.{Came, Comes, steps_of_boot, armed_after, BootsAfter}
use Rattle.smp_model.specs.Handled.{is_reset}
use Rattle.smp_world.specs.Laws.{IsNoArm, NoArms, IsOfChanges, Counts, Passed}
use Rattle.smp_world.specs.Runs.{Event, arms, State, Moment, Happens, Run as IsRun, state_at_end}
use Rattle.smp_world.proofs.Counting.{CountsSteps, Counting, counts_all, counts_saves, counts_sides, counting}
use Rattle.smp_world.proofs.Deeds.{Deed, deed, Holds, each_deed}
use Rattle.smp_world.proofs.Durably.{with_counters, step_apart, steps_apart, boot_durable, came_durable, boot_after_reset, reset_steps}

-- counters are not counted
is_counted_apart : (g : Region) (s : Step) (x : Counters) (d : AbstractDevice) → IsCounted g d s → IsCounted g (with_counters x d) s
is_counted_apart regions.Slot0 (OnSide i t) x d h = h
is_counted_apart regions.Slot1 (OnSide i t) x d h = h
is_counted_apart regions.Progress (OnSide i t) x d h = h
is_counted_apart regions.ProgressGate (OnSide i t) x d h = h
is_counted_apart regions.Slot2 (OnSide i t) x d h = h
is_counted_apart regions.Slot3 (OnSide i t) x d h = h
is_counted_apart regions.Progress2 (OnSide i t) x d h = h
is_counted_apart regions.Progress2Gate (OnSide i t) x d h = h
is_counted_apart regions.Settings Save x d h = h
is_counted_apart regions.SettingsGate Save x d h = h
is_counted_apart g s x d h = h

are_counted_apart : (g : Region) (steps : List Step) (x : Counters) (d : AbstractDevice) → AreCounted g d steps → AreCounted g (with_counters x d) steps
are_counted_apart g [] x d h = h
are_counted_apart g (s ∷ steps) x d (inl h) = inl (is_counted_apart g s x d h)
are_counted_apart g (s ∷ steps) x d (inr h) =
    inr (subst (λ (e : AbstractDevice). AreCounted g e steps) (sym (step_apart s x d)) (are_counted_apart g steps x (apply s d) h))

nearer_apart : (g : Region) (steps : List Step) (x : Counters) (d : AbstractDevice) → BringNearer g d steps → BringNearer g (with_counters x d) steps
nearer_apart g steps x d h = by_counting (counting g)
  where
    anywhere : BringNearer regions.Any d steps → BringNearer regions.Any (with_counters x d) steps
    anywhere far = λ same. far (sym (ap durable (steps_apart steps x d)) ∙ same)

    step_by_step : CountsSteps g → BringNearer g (with_counters x d) steps
    step_by_step k = k.by_steps (with_counters x d) steps (are_counted_apart g steps x d (k.of_steps d steps h))

    by_counting : Counting g → BringNearer g (with_counters x d) steps
    by_counting (counts_all is) = subst (λ (y : Region). BringNearer y (with_counters x d) steps) (sym is) (anywhere (subst (λ (y : Region). BringNearer y d steps) is h))
    by_counting (counts_saves k) = step_by_step k.steps
    by_counting (counts_sides k) = step_by_step k.steps

pub nearer_counted : (g : Region) (steps : List Step) (r : Option Said) (d : AbstractDevice) → BringNearer g d steps → BringNearer g (counted_if r d) steps
nearer_counted g steps None d h = h
nearer_counted g steps (Some r) d h = nearer_apart g steps (counted r d).counters d h

pub nothing_nearer : (g : Region) (d : AbstractDevice) → BringNearer g d [] → ⊥
nothing_nearer g d h = by_counting (counting g)
  where
    anywhere : BringNearer regions.Any d [] → ⊥
    anywhere far = far refl

    by_counting : Counting g → ⊥
    by_counting (counts_all is) = anywhere (subst (λ (y : Region). BringNearer y d []) is h)
    by_counting (counts_saves k) = k.steps.of_steps d [] h
    by_counting (counts_sides k) = k.steps.of_steps d [] h

pub if_of_changes : (k : ArmKind) (P Q : Type 0) → (P → Q) → IfOfChanges k P → IfOfChanges k Q
if_of_changes kinds.Cut P Q f p = f p
if_of_changes kinds.Fail P Q f p = f p
if_of_changes kinds.Read P Q f p = tt

pub of_changes : (k : ArmKind) (P : Type 0) → P → IfOfChanges k P
of_changes kinds.Cut P p = p
of_changes kinds.Fail P p = p
of_changes kinds.Read P p = tt

-- nothing happened
pub stays_same : (d : AbstractDevice) (h : Option Armed) → StaysArmed d [] h h
stays_same d None = tt
stays_same d (Some h) = record {
  kind = refl;
  region = refl;
  passes = omega arith;
  fewer = of_changes h.kind (BringNearer h.region d [] → h.passes < h.passes) (λ n. absurd (nothing_nearer h.region d n));
}

-- nothing was taken of a packet, and then a boot came
held_then : (d : AbstractDevice) (r : Option Said) (steps : List Step) (a b c : Armed) → StaysHeld d [] a b → StaysHeld (counted_if r d) steps b c → StaysHeld d steps a c
held_then d r steps a b c one two = record {
  kind = two.kind ∙ one.kind;
  region = two.region ∙ one.region;
  passes = omega (arith, one.passes, two.passes);
  fewer = if_of_changes a.kind (BringNearer a.region (counted_if r d) steps → c.passes < b.passes) (BringNearer a.region d steps → c.passes < a.passes)
      (λ f n. let less = f (nearer_counted a.region steps r d n) in omega (arith, less, one.passes))
      (subst (λ (k : ArmKind). IfOfChanges k (BringNearer a.region (counted_if r d) steps → c.passes < b.passes)) one.kind
      (subst (λ (g : Region). IfOfChanges b.kind (BringNearer g (counted_if r d) steps → c.passes < b.passes)) one.region two.fewer));
}

armed_then : (d : AbstractDevice) (r : Option Said) (steps : List Step) (a b c : Option Armed) → StaysArmed d [] a b → StaysArmed (counted_if r d) steps b c → StaysArmed d steps a c
armed_then d r steps None None None one two = tt
armed_then d r steps (Some a) (Some b) (Some c) one two = held_then d r steps a b c one two
armed_then d r steps None None (Some c) one two = absurd two
armed_then d r steps (Some a) (Some b) None one two = absurd two
armed_then d r steps None (Some b) c one two = absurd one
armed_then d r steps (Some a) None c one two = absurd one

-- what an event leaves armed
abbrev pub Leaves : Option Armed → AbstractDevice → List Step → Option Armed → Type 0
Leaves before d taken after = (after ≡ None) ⊎ StaysArmed d taken before after

none_stays : (d : AbstractDevice) (steps : List Step) (a c : Option Armed) → a ≡ None → StaysArmed d steps a c → c ≡ None
none_stays d steps None None e s = refl
none_stays d steps None (Some c) e s = absurd s
none_stays d steps (Some a) c e s = cc

pub none_left : (d : AbstractDevice) (steps : List Step) (a c : Option Armed) → a ≡ None → Leaves a d steps c → c ≡ None
none_left d steps a c e (inl n) = n
none_left d steps a c e (inr s) = none_stays d steps a c e s

leaves_then : (d : AbstractDevice) (r : Option Said) (steps : List Step) (a b c : Option Armed) → Leaves a d [] b → Leaves b (counted_if r d) steps c → Leaves a d steps c
leaves_then d r steps a b c (inl n) two = inl (none_left (counted_if r d) steps b c n two)
leaves_then d r steps a b c (inr one) (inl n) = inl n
leaves_then d r steps a b c (inr one) (inr two) = inr (armed_then d r steps a b c one two)

pub going_leaves : (sizes : Sizes) (h : Option Armed) (d : AbstractDevice) (mm : Result Meant ℕ) (w : Went) → Goes sizes h d mm w → Leaves h d w.taken w.armed
going_leaves sizes h d mm w (inl p) = inr p.stays
going_leaves sizes h d mm w (inr p) = inl p.gone

pub boot_leaves : (h : Option Armed) (d : AbstractDevice) (b : Booted) → Boots h d b → Leaves h d b.taken b.armed
boot_leaves h d b (inl p) = inr p.stays
boot_leaves h d b (inr p) = inl p.gone

pub coming_leaves : (sizes : Sizes) (h : Option Armed) (d : AbstractDevice) (mm : Result Meant ℕ) (c : Came) → Comes sizes h d mm c
    → Leaves h d (c.went.taken ++ steps_of_boot c.boot) (armed_after c.boot c.went.armed)
coming_leaves sizes h d mm c k = by_boot c.boot k.boots
  where
    by_boot : (b : Option Booted) → BootsAfter (is_reset mm) c.went.armed (after_going c.went d) b
        → Leaves h d (c.went.taken ++ steps_of_boot b) (armed_after b c.went.armed)
    by_boot None e = subst (λ (t : List Step). Leaves h d t c.went.armed) (sym (append-nil c.went.taken)) (going_leaves sizes h d mm c.went k.goes)
    by_boot (Some b) e =
        let after_reset = boot_after_reset mm c.went.armed (after_going c.went d) b e in
        let none : c.went.taken ≡ [] = reset_steps sizes h d c.went (subst (λ (x : Result Meant ℕ). Goes sizes h d x c.went) after_reset.0 k.goes) in
        subst (λ (t : List Step). Leaves h d (t ++ b.taken) b.armed) (sym none)
        (leaves_then d c.went.reply b.taken h c.went.armed b.armed
        (subst (λ (t : List Step). Leaves h d t c.went.armed) none (going_leaves sizes h d mm c.went k.goes))
        (subst (λ (t : List Step). Leaves c.went.armed (counted_if c.went.reply (applied t d)) b.taken b.armed) none
        (boot_leaves c.went.armed (after_going c.went d) b after_reset.1)))

-- each event that arms nothing leaves what was armed, or nothing; and what is durable moved by the steps that were taken
pub record Passes (h : Option Armed) (d : AbstractDevice) (x : Deed) : Type 0 where
  pub leaves : Leaves h d x.taken x.armed
  pub moves : durable x.device ≡ durable (applied x.taken d)

no_arm : (e : Event) (a : Arm) → IsNoArm e → e ≡ arms a → ⊥
no_arm e a n is = subst IsNoArm is n

passes_holds : (sizes : Sizes) (e : Event) → IsNoArm e → Holds sizes (λ d h x. Passes h d x) e
passes_holds sizes e n = record {
  stays = λ d h. record { leaves = inr (stays_same d h); moves = refl };
  unread = λ d h. record { leaves = inr (stays_same d h); moves = refl };
  arming = λ d h a is. absurd (no_arm e a n is);
  packet_comes = λ d h m c k. record { leaves = coming_leaves sizes h d (meaning m) c k; moves = came_durable sizes h d (meaning m) c k };
  starts = λ d h b k. record { leaves = boot_leaves h d b k; moves = boot_durable h d b k };
}

pub event_passes : (sizes : Sizes) (s : State) (e : Event) (m : Moment) → IsNoArm e → Happens sizes s e m → Passes s.armed s.device (deed m)
event_passes sizes s e m n h = each_deed sizes (λ d h x. Passes h d x) s e m (passes_holds sizes e n) h

-- a moment that counts brings the trouble nearer
counts_nearer : (g : Region) (d : AbstractDevice) (m : Moment) → durable m.state.device ≡ durable (applied m.taken d) → Counts g d m → BringNearer g d m.taken
counts_nearer g d m e h = by_counting (counting g)
  where
    anywhere : Counts regions.Any d m → BringNearer regions.Any d m.taken
    anywhere far = λ same. far (e ∙ same)

    by_counting : Counting g → BringNearer g d m.taken
    by_counting (counts_all is) = subst (λ (y : Region). BringNearer y d m.taken) (sym is) (anywhere (subst (λ (y : Region). Counts y d m) is h))
    by_counting (counts_saves k) = k.steps.by_steps d m.taken (k.steps.of_moments d m h)
    by_counting (counts_sides k) = k.steps.by_steps d m.taken (k.steps.of_moments d m h)

changes_hold : (k : ArmKind) (P : Type 0) → IsOfChanges k → IfOfChanges k P → P
changes_hold kinds.Cut P is p = p
changes_hold kinds.Fail P is p = p
changes_hold kinds.Read P is p = absurd is

abbrev some : Armed → Option Armed
some h = Some h

-- nothing armed stays so
pub unarmed_run : (sizes : Sizes) (s : State) (events : List Event) (moments : List Moment) → IsRun sizes s events moments → NoArms events → s.armed ≡ None → (state_at_end s moments).armed ≡ None
unarmed_run sizes s [] [] r n e = e
unarmed_run sizes s (v ∷ events) (m ∷ moments) r n e =
    unarmed_run sizes m.state events moments r.1 n.1 (none_left s.device m.taken s.armed m.state.armed e (event_passes sizes s v m n.0 r.0).leaves)
unarmed_run sizes s [] (m ∷ moments) r n e = absurd r
unarmed_run sizes s (v ∷ events) [] r n e = absurd r

none_some : (h : Option Armed) → h ≡ None → IsSome h → ⊥
none_some None e i = cc
none_some (Some h) e i = cc

-- what was armed and is not gone is the same, with what may still pass
still_held : (d : AbstractDevice) (steps : List Step) (h : Armed) (a c : Option Armed) → a ≡ Some h → Leaves a d steps c → (c ≡ None → ⊥) → (k : Armed) × (c ≡ Some k) × StaysHeld d steps h k
still_held d steps h a None e l n = absurd (n refl)
still_held d steps h a (Some k) e (inl gone) n = absurd (n gone)
still_held d steps h None (Some k) e (inr s) n = cc
still_held d steps h (Some b) (Some k) e (inr s) n = (k, refl, subst (λ (x : Armed). StaysHeld d steps x k) (same b h e) s)
  where
    same : (b h : Armed) → some b ≡ some h → b ≡ h
    same b h e = cc

-- one more that counted
one_less : (d : AbstractDevice) (g : Region) (m : Moment) (h k : Armed) → IsOfChanges h.kind → StaysHeld d m.taken h k → durable m.state.device ≡ durable (applied m.taken d)
    → Counts h.region d m → k.passes < h.passes
one_less d g m h k is s e c = changes_hold h.kind (BringNearer h.region d m.taken → k.passes < h.passes) is s.fewer (counts_nearer h.region d m e c)

pub strikes : (sizes : Sizes) (h : Armed) (n : ℕ) (s : State) (events : List Event) (moments : List Moment) → IsOfChanges h.kind → s.armed ≡ Some h → NoArms events
    → IsRun sizes s events moments → IsSome (state_at_end s moments).armed → Passed h.region n s.device moments → n ≤ h.passes
strikes sizes h n s [] [] is armed none r left p = omega (arith, p)
strikes sizes h n s (e ∷ events) (m ∷ moments) is armed none r left (inl p) =
    let passes = event_passes sizes s e m none.0 r.0 in
    let k = still_held s.device m.taken h s.armed m.state.armed armed passes.leaves
    (λ gone. none_some (state_at_end m.state moments).armed (unarmed_run sizes m.state events moments r.1 none.1 gone) left) in
    let rest = strikes sizes k.0 n m.state events moments (subst IsOfChanges (sym k.2.kind) is) k.1 none.1 r.1 left
    (subst (λ (g : Region). Passed g n m.state.device moments) (sym k.2.region) p) in
    omega (arith, rest, k.2.passes)
strikes sizes h n s (e ∷ events) (m ∷ moments) is armed none r left (inr p) =
    let passes = event_passes sizes s e m none.0 r.0 in
    let k = still_held s.device m.taken h s.armed m.state.armed armed passes.leaves
    (λ gone. none_some (state_at_end m.state moments).armed (unarmed_run sizes m.state events moments r.1 none.1 gone) left) in
    let rest = strikes sizes k.0 p.0 m.state events moments (subst IsOfChanges (sym k.2.kind) is) k.1 none.1 r.1 left
    (subst (λ (g : Region). Passed g p.0 m.state.device moments) (sym k.2.region) p.3) in
    let less = one_less s.device h.region m h k.0 is k.2 passes.moves p.2 in
    omega (arith, rest, less, p.1)
strikes sizes h n s [] (m ∷ moments) is armed none r left p = absurd r
strikes sizes h n s (e ∷ events) [] is armed none r left p = absurd r

passes_less : (k : ArmKind) (after : ℕ) → IsOfChanges k → passes_of k after ≡ after - 1
passes_less kinds.Cut after is = refl
passes_less kinds.Fail after is = refl
passes_less kinds.Read after is = absurd is

-- from the line that armed it on
pub armed_line_strikes : (sizes : Sizes) (a : Arm) (n : ℕ) (s : State) (events : List Event) (m : Moment) (moments : List Moment) → IsOfChanges a.kind → 1 ≤ a.after → NoArms events
    → IsRun sizes s (arms a ∷ events) (m ∷ moments) → IsSome (state_at_end m.state moments).armed → Passed a.region n m.state.device moments → n < a.after
armed_line_strikes sizes a n s events m moments is some_after none r left p =
    let armed : m.state.armed ≡ Some (armed_by a) = ap (λ (x : Moment). x.state.armed) r.0 in
    let most = strikes sizes (armed_by a) n m.state events moments is armed none r.1 left p in
    let passes = passes_less a.kind a.after is in
    omega (arith, most, passes, some_after)
