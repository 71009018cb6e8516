-- What was acknowledged of an upload is held by it at each place of a run.
use Rattle.std.proofs.Common.{◌≡◌, inl, inr, ℕ, List, [], ◌∷◌, ◌++◌, Bool, true, false, Option, Some, None, Result, Ok, Err, refl, sym, subst, arith, max, append-nil, if◌then◌else◌}
use Rattle.std.specs.Prelude.{IfSome}
use Rattle.std.specs.Result.{result_ok}
use Rattle.smp_model.specs.Counters.{after_drop}
use Rattle.smp_model.specs.declared.device.Side.{Side}
use Rattle.smp_model.specs.declared.device.AbstractDevice.{AbstractDevice}
use Rattle.smp_model.specs.declared.device.Sizes.{Sizes}
use Rattle.smp_model.specs.Acknowledged.{acknowledged, chosen_since, is_upload_to, CoversAt, CoversOn}
use Rattle.smp_model.specs.Does.{does}
use Rattle.smp_model.specs.Handled.{response_to, is_reset}
use Rattle.smp_model.specs.Meaning.{meaning}
use Rattle.smp_model.specs.Meant.{Meant, reset}
use Rattle.smp_model.specs.Said.{Said, group_error}
use Rattle.smp_model.specs.Steps.{Step, applied}
use Rattle.smp_device.specs.Goings.{Armed, durable, Went, Goes, IsToldBy, read_failed, write_failed, erase_failed, group_of, after_going, Booted, after_boot}
use Rattle.smp_world.specs.Comings.{Came, Comes, after_coming, steps_of_boot, BootsAfter}
use Rattle.smp_flash.specs.declared.arm.ArmKind.{ArmKind}
use Rattle.smp_flash.specs.declared.arm.ArmKind.TheVariants as arms
use Rattle.smp_world.proofs.Durably.{boot_durable, came_durable, boot_after_reset, side_alike}
use Rattle.smp_world.specs.Laws.{after_reply, acknowledged_after}
use Rattle.smp_world.specs.Runs.{Event, State, Moment, Run as IsRun, state_at_end}
use Rattle.smp_world.proofs.Deeds.{Says, Holds, each_deed}

abbrev pub RequestsCover : Type 0
RequestsCover = (sizes : Sizes) (d : AbstractDevice) (m : Meant) (image n : ℕ) → CoversOn image d n
    → CoversOn image (applied (does sizes d m).steps d) (acknowledged image d.target m (does sizes d m).steps (does sizes d m).reply n)

abbrev pub FrontsCover : Type 0
FrontsCover = (image : ℕ) (d : AbstractDevice) (front : List Step) (n : ℕ) → CoversOn image d n → CoversOn image (applied front d) (chosen_since image front n)

-- nothing but an answer about an upload acknowledges more
unacknowledged : (i t : ℕ) (m : Meant) (taken : List Step) (group number n : ℕ) → acknowledged i t m taken (group_error group number) n ≡ chosen_since i taken n
unacknowledged i t m taken group number n = by_kind (is_upload_to i t m)
  where
    by_kind : (b : Bool) → max (chosen_since i taken n) (if b then 0 else 0) ≡ chosen_since i taken n
    by_kind true = omega arith
    by_kind false = omega arith

abbrev Same : ℕ → ℕ → Option Meant → List Step → ℕ → Option Said → Type 0
Same i t m taken n reply = after_reply i t m taken reply n ≡ chosen_since i taken n

struck_same : (kind : ArmKind) (i t group : ℕ) (m : Meant) (taken : List Step) (reply : Option Said) (n : ℕ) → IsToldBy kind group reply → Same i t (Some m) taken n reply
struck_same arms.Cut i t group m taken reply n e = subst (Same i t (Some m) taken n) (sym e) refl
struck_same arms.Fail i t group m taken reply n (inl e) = subst (Same i t (Some m) taken n) (sym e) (unacknowledged i t m taken group write_failed n)
struck_same arms.Fail i t group m taken reply n (inr e) = subst (Same i t (Some m) taken n) (sym e) (unacknowledged i t m taken group erase_failed n)
struck_same arms.Read i t group m taken reply n e = subst (Same i t (Some m) taken n) (sym e) (unacknowledged i t m taken group read_failed n)

reset_same : (i t : ℕ) (taken : List Step) (reply : Option Said) (n : ℕ) → Same i t (Some reset) taken n reply
reset_same i t taken None n = refl
reset_same i t taken (Some reply) n = no_more (chosen_since i taken n)
  where
    no_more : (k : ℕ) → max k 0 ≡ k
    no_more k = omega arith

abbrev CoversAfter : ℕ → AbstractDevice → Option Meant → List Step → Option Said → ℕ → Type 0
CoversAfter i d m taken reply n = CoversOn i (applied taken d) (after_reply i d.target m taken reply n)

-- where no more is acknowledged than before
by_steps : FrontsCover → (i : ℕ) (d : AbstractDevice) (m : Option Meant) (taken : List Step) (reply : Option Said) (n : ℕ)
    → Same i d.target m taken n reply → CoversOn i d n → CoversAfter i d m taken reply n
by_steps fronts i d m taken reply n e c = subst (CoversOn i (applied taken d)) (sym e) (fronts i d taken n c)

plain_covers : RequestsCover → FrontsCover → (sizes : Sizes) (i : ℕ) (d : AbstractDevice) (mm : Result Meant ℕ) (n : ℕ) → CoversOn i d n
    → CoversAfter i d (result_ok mm) (response_to sizes d mm).steps (Some (response_to sizes d mm).reply) n
plain_covers requests fronts sizes i d (Ok m) n c = requests sizes d m i n c
plain_covers requests fronts sizes i d (Err e) n c = c

going_covers : RequestsCover → FrontsCover → (sizes : Sizes) (i : ℕ) (h : Option Armed) (d : AbstractDevice) (mm : Result Meant ℕ) (w : Went) (n : ℕ)
    → Goes sizes h d mm w → CoversOn i d n → CoversAfter i d (result_ok mm) w.taken w.reply n
going_covers requests fronts sizes i h d mm w n (inl p) c =
    subst (λ (t : List Step). CoversAfter i d (result_ok mm) t w.reply n) (sym p.taken)
    (subst (λ (r : Option Said). CoversAfter i d (result_ok mm) (response_to sizes d mm).steps r n) (sym p.reply) (plain_covers requests fronts sizes i d mm n c))
going_covers requests fronts sizes i h d mm w n (inr p) c =
    subst (λ (x : Result Meant ℕ). CoversAfter i d (result_ok x) w.taken w.reply n) (sym p.means)
    (by_steps fronts i d (Some p.request) w.taken w.reply n (struck_same p.arm.kind i d.target (group_of p.request) p.request w.taken w.reply n p.reply) c)

covers_alike : (i : ℕ) (d e : AbstractDevice) (n : ℕ) → durable e ≡ durable d → CoversOn i d n → CoversOn i e n
covers_alike i d e n h c = subst (λ (o : Option Side). IfSome o (λ s. CoversAt s.upload n)) (sym (side_alike i d e h)) c

coming_covers : RequestsCover → FrontsCover → (sizes : Sizes) (i : ℕ) (h : Option Armed) (d : AbstractDevice) (mm : Result Meant ℕ) (c : Came) (n : ℕ)
    → Comes sizes h d mm c → CoversOn i d n
    → CoversOn i (after_coming c d) (after_reply i d.target (result_ok mm) (c.went.taken ++ steps_of_boot c.boot) c.went.reply n)
coming_covers requests fronts sizes i h d mm c n k v =
    covers_alike i (applied (c.went.taken ++ steps_of_boot c.boot) d) (after_coming c d) (after_reply i d.target (result_ok mm) (c.went.taken ++ steps_of_boot c.boot) c.went.reply n) (came_durable sizes h d mm c k) (by_boot c.boot k.boots)
  where
    by_boot : (b : Option Booted) → BootsAfter (is_reset mm) c.went.armed (after_going c.went d) b
        → CoversAfter i d (result_ok mm) (c.went.taken ++ steps_of_boot b) c.went.reply n
    by_boot None e =
        subst (λ (t : List Step). CoversAfter i d (result_ok mm) t c.went.reply n) (sym (append-nil c.went.taken)) (going_covers requests fronts sizes i h d mm c.went n k.goes v)
    by_boot (Some b) e =
        by_steps fronts i d (result_ok mm) (c.went.taken ++ b.taken) c.went.reply n
        (subst (λ (x : Result Meant ℕ). Same i d.target (result_ok x) (c.went.taken ++ b.taken) n c.went.reply)
        (sym (boot_after_reset mm c.went.armed (after_going c.went d) b e).0) (reset_same i d.target (c.went.taken ++ b.taken) c.went.reply n)) v

abbrev KeepsCovered : ℕ → Says
KeepsCovered i d h x = (n : ℕ) → CoversOn i d n → CoversOn i x.device (after_reply i d.target x.request x.taken x.reply n)

covered_holds : RequestsCover → FrontsCover → (sizes : Sizes) (i : ℕ) (e : Event) → Holds sizes (KeepsCovered i) e
covered_holds requests fronts sizes i e = record {
  stays = λ d h n c. c;
  unread = λ d h n c. covers_alike i d (record d { counters = after_drop d.counters }) n refl c;
  arming = λ d h a is n c. c;
  packet_comes = λ d h m c k n v. coming_covers requests fronts sizes i h d (meaning m) c n k v;
  starts = λ d h b k n v. covers_alike i (applied b.taken d) (after_boot b d) (chosen_since i b.taken n) (boot_durable h d b k) (fronts i d b.taken n v);
}

pub run_covers : RequestsCover → FrontsCover → (sizes : Sizes) (i : ℕ) (s : State) (events : List Event) (moments : List Moment) (n : ℕ)
    → IsRun sizes s events moments → CoversOn i s.device n → CoversOn i (state_at_end s moments).device (acknowledged_after i s.device.target moments n)
run_covers requests fronts sizes i s [] [] n r c = c
run_covers requests fronts sizes i s (e ∷ events) (m ∷ moments) n r c =
    run_covers requests fronts sizes i m.state events moments (after_reply i s.device.target m.request m.taken m.reply n) r.1
    (each_deed sizes (KeepsCovered i) s e m (covered_holds requests fronts sizes i e) r.0 n c)
run_covers requests fronts sizes i s [] (m ∷ moments) n r c = absurd r
run_covers requests fronts sizes i s (e ∷ events) [] n r c = absurd r
