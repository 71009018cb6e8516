-- Where nothing struck, the device does all that its definition says: it takes all steps of a request, a reset starts it, and so
-- does a boot.
use Rattle.std.proofs.Common.{◌≡◌, ◌≢◌, inl, inr, ◌||◌, not, ◌++◌, ℕ, List, [], Bool, true, false, Option, Some, None, Result, Ok, refl, sym, ap, subst, ◌∙◌, append-nil}
use Rattle.smp_flash.specs.declared.arm.ArmKind.{ArmKind}
use Rattle.smp_flash.specs.declared.arm.ArmKind.TheVariants as kinds
use Rattle.smp_model.specs.declared.device.AbstractDevice.{AbstractDevice}
use Rattle.smp_model.specs.declared.device.Counters.{Counters}
use Rattle.smp_model.specs.declared.device.Sizes.{Sizes}
use Rattle.smp_model.specs.Counters.{no_counters}
use Rattle.smp_model.specs.Does.{does}
use Rattle.smp_model.specs.Handled.{is_reset}
use Rattle.smp_model.specs.Meaning.{meaning}
use Rattle.smp_model.specs.Meant.{Meant, reset}
use Rattle.smp_model.specs.Response.{after}
use Rattle.smp_model.specs.Said.{Said}
use Rattle.smp_model.specs.Steps.{Step, applied, counted, settle_steps, start}
use Rattle.smp_world.specs.Comings.{Came, Comes, BootsAfter, booted_if, after_coming, steps_of_boot, is_up, is_boot_struck}
use Rattle.smp_device.specs.Goings.{Armed, counted_if, after_going, Booted, BootEnd, Boots, ended_by, booted_by, after_boot}
use Rattle.smp_world.specs.Runs.{Event, boot, State, Moment, Happens}
use Rattle.smp_world.proofs.Calm.{left_false, unstruck, meant, not_reset, no_boot}
use Rattle.smp_world.proofs.Deeds.{Says, Holds, each_deed}
use Rattle.smp_world.proofs.Durably.{means, with_counters, steps_apart}

-- a boot
cut_or_fault : (k : ArmKind) → is_up (ended_by k) ≡ false
cut_or_fault kinds.Cut = refl
cut_or_fault kinds.Fail = refl
cut_or_fault kinds.Read = refl

is_not : (b : Bool) → not b ≡ false → b ≡ false → ⊥
is_not true e f = cc
is_not false e f = cc

boot_starts : (a : Option Armed) (d : AbstractDevice) (b : Booted) → Boots a d b → not (is_up b.ended) ≡ false → after_boot b d ≡ start d
boot_starts a d b (inl p) calm = ap (λ (e : BootEnd). booted_by e b.taken d) p.ended
boot_starts a d b (inr p) calm = absurd (is_not (is_up b.ended) calm (ap is_up p.ended ∙ cut_or_fault p.arm.kind))

-- a start does not look at the counters
start_apart : (x : Counters) (d : AbstractDevice) → start (with_counters x d) ≡ start d
start_apart x d = ap (λ (e : AbstractDevice). record e { running = d.saved; files = []; counters = no_counters; target = 0 }) (steps_apart (settle_steps d) x d)

-- a request that is no reset
abbrev Whole : Sizes → Meant → Says
Whole sizes r d h x = x.request ≡ Some r → x.struck ≡ false → (x.taken ≡ (does sizes d r).steps) × (x.device ≡ after (does sizes d r) d)

coming_whole : (sizes : Sizes) (a : Option Armed) (d : AbstractDevice) (r : Meant) (c : Came) → r ≢ reset → Comes sizes a d (Ok r) c → c.went.struck ≡ false
    → (c.went.taken ++ steps_of_boot c.boot ≡ (does sizes d r).steps) × (after_coming c d ≡ after (does sizes d r) d)
coming_whole sizes a d r c n k calm =
    let none : c.boot ≡ None = no_boot (is_reset (means r)) c.went.armed (after_going c.went d) c.boot (not_reset r n) k.boots in
    let went = unstruck sizes a d (means r) c.went calm k.goes in (
      ap (λ (b : Option Booted). c.went.taken ++ steps_of_boot b) none ∙ append-nil c.went.taken ∙ went.0,
      ap (λ (b : Option Booted). booted_if b (after_going c.went d)) none
          ∙ ap (λ (o : Option Said). counted_if o (applied c.went.taken d)) went.1
          ∙ ap (λ (t : List Step). counted (does sizes d r).reply (applied t d)) went.0,
    )

whole_holds : (sizes : Sizes) (r : Meant) (e : Event) → r ≢ reset → Holds sizes (Whole sizes r) e
whole_holds sizes r e n = record {
  stays = λ d h q s. cc;
  unread = λ d h q s. cc;
  arming = λ d h a is q s. cc;
  packet_comes = λ d h m c k q s. coming_whole sizes h d r c n (subst (λ (x : Result Meant ℕ). Comes sizes h d x c) (meant (meaning m) r q) k) (left_false c.went.struck (is_boot_struck c.boot) s);
  starts = λ d h b k q s. cc;
}

pub event_whole : (sizes : Sizes) (s : State) (e : Event) (m : Moment) (r : Meant) → r ≢ reset → Happens sizes s e m → m.request ≡ Some r → m.struck ≡ false
    → (m.taken ≡ (does sizes s.device r).steps) × (m.state.device ≡ after (does sizes s.device r) s.device)
event_whole sizes s e m r n h = each_deed sizes (Whole sizes r) s e m (whole_holds sizes r e n) h

-- a reset
right_false : (a b : Bool) → (a || b) ≡ false → b ≡ false
right_false true b e = cc
right_false false b e = e

abbrev Restarts : Says
Restarts d h x = x.request ≡ Some reset → x.struck ≡ false → x.device ≡ start d

coming_restarts : (sizes : Sizes) (a : Option Armed) (d : AbstractDevice) (c : Came) → Comes sizes a d (Ok reset) c → (c.went.struck || is_boot_struck c.boot) ≡ false → after_coming c d ≡ start d
coming_restarts sizes a d c k calm = by_boot c.boot k.boots calm
  where
    gone : c.went.struck ≡ false → (x : Counters) × (after_going c.went d ≡ with_counters x d)
    gone e =
        let went = unstruck sizes a d (means reset) c.went e k.goes in (
          (counted (does sizes d reset).reply d).counters,
          ap (λ (o : Option Said). counted_if o (applied c.went.taken d)) went.1 ∙ ap (λ (t : List Step). counted (does sizes d reset).reply (applied t d)) went.0,
        )

    by_boot : (b : Option Booted) → BootsAfter true c.went.armed (after_going c.went d) b → (c.went.struck || is_boot_struck b) ≡ false → booted_if b (after_going c.went d) ≡ start d
    by_boot None h e = absurd h
    by_boot (Some b) h e =
        let x = gone (left_false c.went.struck (is_boot_struck (Some b)) e) in
        boot_starts c.went.armed (after_going c.went d) b h (right_false c.went.struck (not (is_up b.ended)) e)
        ∙ ap start x.1 ∙ start_apart x.0 d

restarts_holds : (sizes : Sizes) (e : Event) → Holds sizes Restarts e
restarts_holds sizes e = record {
  stays = λ d h q s. cc;
  unread = λ d h q s. cc;
  arming = λ d h a is q s. cc;
  packet_comes = λ d h m c k q s. coming_restarts sizes h d c (subst (λ (x : Result Meant ℕ). Comes sizes h d x c) (meant (meaning m) reset q) k) s;
  starts = λ d h b k q s. cc;
}

pub event_restarts : (sizes : Sizes) (s : State) (e : Event) (m : Moment) → Happens sizes s e m → m.request ≡ Some reset → m.struck ≡ false → m.state.device ≡ start s.device
event_restarts sizes s e m h = each_deed sizes Restarts s e m (restarts_holds sizes e) h

pub boot_whole : (sizes : Sizes) (s : State) (m : Moment) → Happens sizes s boot m → m.struck ≡ false → m.state.device ≡ start s.device
boot_whole sizes s m h calm =
    ap (λ (o : Moment). o.state.device) h.2 ∙ boot_starts s.armed s.device h.0 h.1 (sym (ap (λ (o : Moment). o.struck) h.2) ∙ calm)
