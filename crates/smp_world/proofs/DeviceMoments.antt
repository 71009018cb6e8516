-- Each reply is the abstract device's, but for those of a trouble.
use Rattle.std.proofs.Common.{◌≡◌, ◌≢◌, inl, inr, ◌||◌, ℕ, List, [], ◌++◌, Bool, true, false, Option, Some, Result, Ok, refl, sym, ap, subst, ◌∙◌, append-nil}
use Rattle.smp_flash.specs.declared.arm.ArmKind.{ArmKind}
use Rattle.smp_flash.specs.declared.arm.ArmKind.TheVariants as kinds
use Rattle.smp_model.specs.declared.device.AbstractDevice.{AbstractDevice}
use Rattle.smp_model.specs.declared.device.Sizes.{Sizes}
use Rattle.smp_model.specs.Does.{does}
use Rattle.smp_model.specs.Meaning.{meaning}
use Rattle.smp_model.specs.Meant.{Meant, reset}
use Rattle.smp_model.specs.Said.{Said}
use Rattle.smp_model.specs.Steps.{Step, applied}
use Rattle.smp_device.specs.Goings.{Armed, durable, Went, Goes, IsToldBy, after_going, Booted}
use Rattle.smp_world.specs.Comings.{Came, Comes, steps_of_boot, is_boot_struck}
use Rattle.smp_model.specs.Handled.{is_reset}
use Rattle.smp_world.specs.Laws.{TellsTrouble, IsFrontOf}
use Rattle.smp_world.specs.Runs.{Event, State, Moment, Happens}
use Rattle.smp_world.proofs.Deeds.{Says, Holds, each_deed}
use Rattle.smp_world.proofs.Durably.{means, boot_durable, came_durable}
use Rattle.smp_world.proofs.Calm.{no_boot, left_false, meant, not_reset}

-- What is durable moves by the steps that were taken.
moves_holds : (sizes : Sizes) (e : Event) → Holds sizes (λ d h x. durable x.device ≡ durable (applied x.taken d)) e
moves_holds sizes e = record {
  stays = λ d h. refl;
  unread = λ d h. refl;
  arming = λ d h a is. refl;
  packet_comes = λ d h m c k. came_durable sizes h d (meaning m) c k;
  starts = λ d h b k. boot_durable h d b k;
}

pub event_moves : (sizes : Sizes) (s : State) (e : Event) (m : Moment) → Happens sizes s e m → durable m.state.device ≡ durable (applied m.taken s.device)
event_moves sizes s e m h = each_deed sizes (λ d h x. durable x.device ≡ durable (applied x.taken d)) s e m (moves_holds sizes e) h

-- The request of a packet.
abbrev some : Meant → Option Meant
some m = Some m

going_reply : (sizes : Sizes) (h : Option Armed) (d : AbstractDevice) (r : Meant) (w : Went) → Goes sizes h d (Ok r) w → w.struck ≡ false → w.reply ≡ Some (does sizes d r).reply
going_reply sizes h d r w (inl p) e = p.reply
going_reply sizes h d r w (inr p) e = absurd (both w.struck e p.strikes)
  where
    both : (b : Bool) → b ≡ false → b ≡ true → ⊥
    both b e f = cc

abbrev Replies : Sizes → Meant → Says
Replies sizes r d h x = x.request ≡ Some r → x.struck ≡ false → x.reply ≡ Some (does sizes d r).reply

replies_holds : (sizes : Sizes) (r : Meant) (e : Event) → Holds sizes (Replies sizes r) e
replies_holds sizes r e = record {
  stays = λ d h q s. cc;
  unread = λ d h q s. cc;
  arming = λ d h a is q s. cc;
  packet_comes = λ d h m c k q s. going_reply sizes h d r c.went (subst (λ (x : Result Meant ℕ). Goes sizes h d x c.went) (meant (meaning m) r q) k.goes) (left_false c.went.struck (is_boot_struck c.boot) s);
  starts = λ d h b k q s. cc;
}

pub event_replies : (sizes : Sizes) (s : State) (e : Event) (m : Moment) (r : Meant) → Happens sizes s e m → m.request ≡ Some r → m.struck ≡ false → m.reply ≡ Some (does sizes s.device r).reply
event_replies sizes s e m r h = each_deed sizes (Replies sizes r) s e m (replies_holds sizes r e) h

going_front : (sizes : Sizes) (h : Option Armed) (d : AbstractDevice) (r : Meant) (w : Went) → Goes sizes h d (Ok r) w → IsFrontOf (does sizes d r).steps w.taken
going_front sizes h d r w (inl p) = record { rest = []; split = sym (append-nil (does sizes d r).steps) ∙ ap (λ (t : List Step). t ++ []) (sym p.taken) }
going_front sizes h d r w (inr p) = record { rest = p.rest; split = ap (λ (x : Meant). (does sizes d x).steps) (same r p.request p.means) ∙ p.split }
  where
    same : (m n : Meant) → means m ≡ means n → m ≡ n
    same m n e = cc

coming_front : (sizes : Sizes) (h : Option Armed) (d : AbstractDevice) (r : Meant) (c : Came) → r ≢ reset → Comes sizes h d (Ok r) c → IsFrontOf (does sizes d r).steps (c.went.taken ++ steps_of_boot c.boot)
coming_front sizes h d r c n k =
    subst (IsFrontOf (does sizes d r).steps)
    (sym (append-nil c.went.taken) ∙ ap (λ (b : Option Booted). c.went.taken ++ steps_of_boot b) (sym (no_boot (is_reset (means r)) c.went.armed (after_going c.went d) c.boot (not_reset r n) k.boots)))
    (going_front sizes h d r c.went k.goes)

abbrev Fronts : Sizes → Meant → Says
Fronts sizes r d h x = x.request ≡ Some r → IsFrontOf (does sizes d r).steps x.taken

fronts_holds : (sizes : Sizes) (r : Meant) (e : Event) → r ≢ reset → Holds sizes (Fronts sizes r) e
fronts_holds sizes r e n = record {
  stays = λ d h q. cc;
  unread = λ d h q. cc;
  arming = λ d h a is q. cc;
  packet_comes = λ d h m c k q. coming_front sizes h d r c n (subst (λ (x : Result Meant ℕ). Comes sizes h d x c) (meant (meaning m) r q) k);
  starts = λ d h b k q. cc;
}

pub event_fronts : (sizes : Sizes) (s : State) (e : Event) (m : Moment) (r : Meant) → r ≢ reset → Happens sizes s e m → m.request ≡ Some r → IsFrontOf (does sizes s.device r).steps m.taken
event_fronts sizes s e m r n h = each_deed sizes (Fronts sizes r) s e m (fronts_holds sizes r e n) h

-- Troubles.
told_trouble : (k : ArmKind) (group : ℕ) (reply : Option Said) → IsToldBy k group reply → TellsTrouble reply
told_trouble kinds.Cut group reply t = subst TellsTrouble (sym t) tt
told_trouble kinds.Fail group reply (inl t) = subst TellsTrouble (sym t) (inr (inl refl))
told_trouble kinds.Fail group reply (inr t) = subst TellsTrouble (sym t) (inr (inr refl))
told_trouble kinds.Read group reply t = subst TellsTrouble (sym t) (inl refl)

going_trouble : (sizes : Sizes) (h : Option Armed) (d : AbstractDevice) (mm : Result Meant ℕ) (w : Went) → Goes sizes h d mm w → w.struck ≡ true → TellsTrouble w.reply
going_trouble sizes h d mm w (inl p) e = absurd (both w.struck p.calm e)
  where
    both : (b : Bool) → b ≡ false → b ≡ true → ⊥
    both b e f = cc
going_trouble sizes h d mm w (inr p) e = told_trouble p.arm.kind _ w.reply p.reply

or_false : (a : Bool) → (a || false) ≡ true → a ≡ true
or_false true e = refl
or_false false e = cc

coming_trouble : (sizes : Sizes) (h : Option Armed) (d : AbstractDevice) (r : Meant) (c : Came) → r ≢ reset → Comes sizes h d (Ok r) c → (c.went.struck || is_boot_struck c.boot) ≡ true → TellsTrouble c.went.reply
coming_trouble sizes h d r c n k e =
    let none = no_boot (is_reset (means r)) c.went.armed (after_going c.went d) c.boot (not_reset r n) k.boots in
    going_trouble sizes h d (Ok r) c.went k.goes (or_false c.went.struck (subst (λ (b : Option Booted). (c.went.struck || is_boot_struck b) ≡ true) none e))

abbrev Troubles : Meant → Says
Troubles r d h x = x.request ≡ Some r → x.struck ≡ true → TellsTrouble x.reply

troubles_holds : (sizes : Sizes) (r : Meant) (e : Event) → r ≢ reset → Holds sizes (Troubles r) e
troubles_holds sizes r e n = record {
  stays = λ d h q s. cc;
  unread = λ d h q s. cc;
  arming = λ d h a is q s. cc;
  packet_comes = λ d h m c k q s. coming_trouble sizes h d r c n (subst (λ (x : Result Meant ℕ). Comes sizes h d x c) (meant (meaning m) r q) k) s;
  starts = λ d h b k q s. cc;
}

pub event_troubles : (sizes : Sizes) (s : State) (e : Event) (m : Moment) (r : Meant) → r ≢ reset → Happens sizes s e m → m.request ≡ Some r → m.struck ≡ true → TellsTrouble m.reply
event_troubles sizes s e m r n h = each_deed sizes (Troubles r) s e m (troubles_holds sizes r e n) h
