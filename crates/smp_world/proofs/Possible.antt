-- From each state something may come of each event.
use Rattle.std.proofs.Common.{◌≡◌, inl, inr, ℕ, ◌<◌, List, [], ◌∷◌, Bool, true, false, Option, Some, None, Result, Ok, Err, refl, arith}
use Rattle.std.specs.Prelude.{IsTrue}
use Rattle.smp_flash.specs.declared.arm.ArmKind.{ArmKind}
use Rattle.smp_flash.specs.declared.arm.ArmKind.TheVariants as kinds
use Rattle.smp_header.specs.Message.{Message, packet}
use Rattle.smp_model.specs.declared.device.AbstractDevice.{AbstractDevice}
use Rattle.smp_model.specs.declared.device.Sizes.{Sizes}
use Rattle.smp_model.specs.Does.{does}
use Rattle.smp_model.specs.Handled.{is_request, response_to, is_reset}
use Rattle.smp_model.specs.Meaning.{meaning}
use Rattle.smp_model.specs.Meant.{Meant}
use Rattle.smp_model.specs.Said.{Said, group_error}
use Rattle.smp_model.specs.Steps.{settle_steps}
use Rattle.smp_device.specs.Goings.{Armed, BringNearer, Went, Goes, IsToldBy, read_failed, write_failed, group_of, reaches, after_going, Booted, Boots, up as is_up, ended_by}
use Rattle.smp_world.specs.Comings.{Came, Comes, BootsAfter}
use Rattle.smp_world.specs.Runs.{Event, begins, raw, up, down, quiet, arms, boot, Mail, State, Moment, nth, number_of, Happens, Run as IsRun, RawMessage, RawPacket, RawComes, UpComes, UpNamed}
use Rattle.smp_world.specs.Below.{StepsNeedFlash}
use Rattle.smp_world.proofs.Arming.{of_changes, nothing_nearer}
use Rattle.smp_world.proofs.Unreached.{unreached}

-- a trouble strikes before any step was taken
abbrev struck_reply : ArmKind → ℕ → Option Said
struck_reply kinds.Cut group = None
struck_reply kinds.Fail group = Some (group_error group write_failed)
struck_reply kinds.Read group = Some (group_error group read_failed)

pub told_so : (k : ArmKind) (group : ℕ) → IsToldBy k group (struck_reply k group)
told_so kinds.Cut group = refl
told_so kinds.Fail group = inl refl
told_so kinds.Read group = refl

abbrev struck_at_once : (sizes : Sizes) (h : Armed) (d : AbstractDevice) (m : Meant) → IsTrue (reaches sizes d h.region m) → (w : Went) × Goes sizes (Some h) d (Ok m) w
struck_at_once sizes h d m r = (
  record { struck = true; taken = []; reply = struck_reply h.kind (group_of m); armed = None },
  inr (record {
    strikes = refl;
    arm = h;
    was = refl;
    request = m;
    means = refl;
    reached = r;
    rest = (does sizes d m).steps;
    split = refl;
    reply = told_so h.kind (group_of m);
    gone = refl;
  }),
)

-- all goes as without the trouble, which is no nearer then
abbrev by_without : (sizes : Sizes) (h : Armed) (d : AbstractDevice) (mm : Result Meant ℕ) → (BringNearer h.region d (response_to sizes d mm).steps → ⊥) → (w : Went) × Goes sizes (Some h) d mm w
by_without sizes h d mm n = (
  record { struck = false; taken = (response_to sizes d mm).steps; reply = Some (response_to sizes d mm).reply; armed = Some h },
  inl (record {
    calm = refl;
    taken = refl;
    reply = refl;
    stays = record {
      kind = refl;
      region = refl;
      passes = omega arith;
      fewer = of_changes h.kind (BringNearer h.region d (response_to sizes d mm).steps → h.passes < h.passes) (λ b. absurd (n b));
    };
  }),
)

abbrev by_reach : StepsNeedFlash → (sizes : Sizes) (h : Armed) (d : AbstractDevice) (m : Meant) (b : Bool) → reaches sizes d h.region m ≡ b → (w : Went) × Goes sizes (Some h) d (Ok m) w
by_reach law sizes h d m true e = struck_at_once sizes h d m e
by_reach law sizes h d m false e = by_without sizes h d (Ok m) (unreached law sizes h.region d m e)

abbrev going : StepsNeedFlash → (sizes : Sizes) (h : Option Armed) (d : AbstractDevice) (mm : Result Meant ℕ) → (w : Went) × Goes sizes h d mm w
going law sizes None d mm = (
  record { struck = false; taken = (response_to sizes d mm).steps; reply = Some (response_to sizes d mm).reply; armed = None },
  inl (record { calm = refl; taken = refl; reply = refl; stays = tt }),
)
going law sizes (Some h) d (Err number) = by_without sizes h d (Err number) (nothing_nearer h.region d)
going law sizes (Some h) d (Ok m) = by_reach law sizes h d m (reaches sizes d h.region m) refl

abbrev booting : (h : Option Armed) (d : AbstractDevice) → (b : Booted) × Boots h d b
booting None d = (record { ended = is_up; taken = settle_steps d; armed = None }, inl (record { ended = refl; taken = refl; stays = tt }))
booting (Some h) d = (record { ended = ended_by h.kind; taken = []; armed = None }, inr (record { arm = h; was = refl; ended = refl; rest = settle_steps d; split = refl; gone = refl }))

abbrev boots_after : (is : Bool) (h : Option Armed) (d : AbstractDevice) → (b : Option Booted) × BootsAfter is h d b
boots_after true h d = let b = booting h d in (Some b.0, b.1)
boots_after false h d = (None, tt)

abbrev coming : StepsNeedFlash → (sizes : Sizes) (h : Option Armed) (d : AbstractDevice) (mm : Result Meant ℕ) → (c : Came) × Comes sizes h d mm c
coming law sizes h d mm =
    let w = going law sizes h d mm in
    let b = boots_after (is_reset mm) w.0.armed (after_going w.0 d) in
    (record { went = w.0; boot = b.0 }, record { goes = w.1; boots = b.1 })

abbrev message_possible : StepsNeedFlash → (sizes : Sizes) (is : Bool) (s : State) (m : Message) → (out : Moment) × RawMessage sizes is s m out
message_possible law sizes true s m = let c = coming law sizes s.armed s.device (meaning m) in (_, (c.0, c.1, refl))
message_possible law sizes false s m = (_, refl)

abbrev packet_possible : StepsNeedFlash → (sizes : Sizes) (s : State) (m : Option Message) → (out : Moment) × RawPacket sizes s m out
packet_possible law sizes s None = (_, refl)
packet_possible law sizes s (Some m) = message_possible law sizes (is_request m) s m

abbrev raw_possible : StepsNeedFlash → (sizes : Sizes) (is : Bool) (s : State) (bytes : List ℕ) → (out : Moment) × RawComes sizes is s bytes out
raw_possible law sizes true s bytes = packet_possible law sizes s (packet bytes)
raw_possible law sizes false s bytes = (_, refl)

abbrev up_possible : StepsNeedFlash → (sizes : Sizes) (is : Bool) (s : State) (n : ℕ) (p : Mail) → (out : Moment) × UpComes sizes is s n p out
up_possible law sizes true s n p = let c = coming law sizes s.armed s.device (meaning p.message) in (_, (c.0, c.1, refl))
up_possible law sizes false s n p = (_, refl)

abbrev named_possible : StepsNeedFlash → (sizes : Sizes) (s : State) (n : ℕ) (p : Option Mail) → (out : Moment) × UpNamed sizes s n p out
named_possible law sizes s n None = (_, refl)
named_possible law sizes s n (Some p) = up_possible law sizes s.up s n p

abbrev pub possible : StepsNeedFlash → (sizes : Sizes) (s : State) (e : Event) → (out : Moment) × Happens sizes s e out
possible law sizes s (begins job) = (_, refl)
possible law sizes s (raw bytes) = raw_possible law sizes s.up s bytes
possible law sizes s (up which) = named_possible law sizes s (number_of s.packets which) (nth s.packets (number_of s.packets which))
possible law sizes s (down which) = (_, refl)
possible law sizes s (quiet client) = (_, refl)
possible law sizes s (arms arm) = (_, refl)
possible law sizes s boot = let b = booting s.armed s.device in (_, (b.0, b.1, refl))

-- every run goes on to the end of its events
abbrev pub some_run : StepsNeedFlash → (sizes : Sizes) (s : State) (events : List Event) → (moments : List Moment) × IsRun sizes s events moments
some_run law sizes s [] = ([], tt)
some_run law sizes s (e ∷ events) =
    let p = possible law sizes s e in
    let rest = some_run law sizes p.0.state events in
    (p.0 ∷ rest.0, (p.1, rest.1))
