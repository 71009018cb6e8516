-- What each event makes of a world.
use Rattle.std.proofs.Common.{◌≡◌, ◌+◌, ◌≤◌, ℕ, List, [], ◌∷◌, ◌++◌, Option, Some, None, Bool, true, false, cond, refl, sym, ◌∙◌, ap, subst, arith}
use Rattle.smp_flash.specs.declared.arm.Arm.{Arm}
use Rattle.smp_header.specs.Message.{Message, packet}
use Rattle.smp_model.specs.declared.device.Sizes.{Sizes}
use Rattle.smp_model.specs.Handled.{is_request, is_reset}
use Rattle.smp_model.specs.Meaning.{meaning}
use Rattle.smp_model.specs.Said.{Said}
use Rattle.smp_jobs.specs.Jobs.{Job}
use Rattle.smp_device.specs.Arming.{sent_to}
use Rattle.std.specs.Prelude.{count_by, option_map}
use Rattle.smp_model.specs.declared.device.AbstractDevice.{AbstractDevice}
use Rattle.smp_device.specs.Goings as goings
use Rattle.smp_device.specs.Goings.{Armed, Booted, Boots, armed_by}
use Rattle.smp_device.specs.Places.{Places}
use Rattle.smp_device.specs.Uploads.{sizes_of}
use Rattle.smp_flash.specs.Layout.{geometry_of}
use Rattle.smp_world.specs.Comings.{Came, Comes}
use Rattle.smp_world.specs.Lines as lines
use Rattle.std.proofs.lemmas.List.Sums.{sum_by-cons}
use Rattle.smp_world.specs.Lines.{Line, boot_line_by, is_booted, is_cut, lines_text}
use Rattle.smp_world.specs.Machines.{BootsMachine, DropTakes, MachineState, MessageTakes, PacketTakes, RequestTakes, TakesBy, TakesBytes, armed_of, end_by, fate_by, sizes_in}
use Rattle.smp_world.specs.Runs.{Event, Happens, Moment, RawComes, RawMessage, RawPacket, RawRequest, State, boot, arms, boot_lines, drops, moment_booted, moment_of, raw, raw_fate, state_after, state_booted, still}
use Rattle.smp_world.specs.Worlds.{boot_cuts, boot_ups, fate_cuts, DoesEvent, PutsBoot, PutsLine, Stepped, WorldStands, WorldState, raw_told}
use Rattle.smp_world.specs.declared.machine.BootEnd.{BootEnd}
use Rattle.smp_world.specs.declared.machine.Fate.{Fate}
use Rattle.smp_world.specs.declared.machine.Fate.TheVariants as fates
use Rattle.smp_world.proofs.PutLines.{boot_lines_put, boot_put, one_line, then_lines}
use Rattle.smp_world.proofs.Standing.{ages_more}
use Rattle.smp_world.proofs.Taking.{stands_later}

-- A moment, of which this holds, with so many cuts and boots.
pub record Results (H : Moment → Type 0) (cuts boots : ℕ) (age : ℕ) (sizes : Sizes) (jobs : List Job) (new : WorldState) (before after : List ℕ) : Type 0 where
  pub moment : Moment
  pub happens : H moment
  pub stands : WorldStands age sizes jobs new moment.state
  pub spelled : after ≡ before ++ lines_text moment.lines
  pub cuts_are : count_by is_cut moment.lines ≡ cuts
  pub boots_are : count_by is_booted moment.lines ≡ boots

-- it stands for the same, whatever it made and counted
pub counted : (age : ℕ) (sizes : Sizes) (jobs : List Job) (w : WorldState) (s : State) (steps cuts boots : ℕ) → WorldStands age sizes jobs w s → WorldStands age sizes jobs (record w { steps = steps; cuts = cuts; boots = boots }) s
counted age sizes jobs w s steps cuts boots h = record { machine = h.machine; sizes_are = h.sizes_are; up = h.up; armed = h.armed; clients = h.clients; packets = h.packets; replies = h.replies }

pub stepped : (cuts boots : ℕ) (age : ℕ) (sizes : Sizes) (jobs : List Job) (s : State) (e : Event) (old new : WorldState) (before after : List ℕ) → new.cuts ≡ old.cuts → new.boots ≡ old.boots
    → Results (Happens sizes s e) cuts boots age sizes jobs new before after
    → Stepped age sizes jobs s e old (record new { steps = new.steps; cuts = new.cuts + cuts; boots = new.boots + boots }) before after
stepped cuts boots age sizes jobs s e old new before after same_cuts same_boots r =
    let cut = r.cuts_are in
    let up = r.boots_are in
    record {
      moment = r.moment;
      happens = r.happens;
      stands = counted age sizes jobs new r.moment.state new.steps (new.cuts + cuts) (new.boots + boots) r.stands;
      spelled = r.spelled;
      cuts = omega (arith, cut, same_cuts);
      boots = omega (arith, up, same_boots);
    }

-- the same where nothing is counted
pub stepped_still : (age : ℕ) (sizes : Sizes) (jobs : List Job) (s : State) (e : Event) (old new : WorldState) (before after : List ℕ) → new.cuts ≡ old.cuts → new.boots ≡ old.boots
    → Results (Happens sizes s e) 0 0 age sizes jobs new before after → Stepped age sizes jobs s e old new before after
stepped_still age sizes jobs s e old new before after same_cuts same_boots r =
    let cut = r.cuts_are in
    let up = r.boots_are in
    record {
      moment = r.moment;
      happens = r.happens;
      stands = r.stands;
      spelled = r.spelled;
      cuts = omega (arith, cut, same_cuts);
      boots = omega (arith, up, same_boots);
    }

-- What is counted of lines.

sum_so : (a b m n : ℕ) → a ≡ b → m ≡ n → a + m ≡ b + n
sum_so a b m n e f = omega (arith, e, f)

none_more : (n : ℕ) → 0 + n ≡ n
none_more n = omega arith

boot_cuts_in : (e : goings.BootEnd) (d : AbstractDevice) → count_by is_cut (boot_line_by e d ∷ []) ≡ boot_cuts (Some (end_by e))
boot_cuts_in goings.up d = refl
boot_cuts_in goings.cut d = refl
boot_cuts_in goings.fault d = refl

boot_ups_in : (e : goings.BootEnd) (d : AbstractDevice) → count_by is_booted (boot_line_by e d ∷ []) ≡ boot_ups (Some (end_by e))
boot_ups_in goings.up d = refl
boot_ups_in goings.cut d = refl
boot_ups_in goings.fault d = refl

cuts_after : (o : Option Booted) (d : AbstractDevice) → count_by is_cut (boot_lines o d) ≡ boot_cuts (option_map (λ b. end_by b.ended) o)
cuts_after None d = refl
cuts_after (Some b) d = boot_cuts_in b.ended d

ups_after : (o : Option Booted) (d : AbstractDevice) → count_by is_booted (boot_lines o d) ≡ boot_ups (option_map (λ b. end_by b.ended) o)
ups_after None d = refl
ups_after (Some b) d = boot_ups_in b.ended d

-- a line of a packet, with the boot behind it
pub cuts_with : (line : Line) (n : ℕ) (o : Option Booted) (end : Option BootEnd) (d : AbstractDevice) → cond (is_cut line) 1 0 ≡ n → end ≡ option_map (λ b. end_by b.ended) o → count_by is_cut (line ∷ boot_lines o d) ≡ n + boot_cuts end
cuts_with line n o end d e f =
    let first = sum_by-cons (λ (l : Line). cond (is_cut l) 1 0) line (boot_lines o d) in
    let rest : count_by is_cut (boot_lines o d) ≡ boot_cuts end = cuts_after o d ∙ ap boot_cuts (sym f) in
    first ∙ sum_so (cond (is_cut line) 1 0) n (count_by is_cut (boot_lines o d)) (boot_cuts end) e rest

pub ups_with : (line : Line) (o : Option Booted) (end : Option BootEnd) (d : AbstractDevice) → is_booted line ≡ false → end ≡ option_map (λ b. end_by b.ended) o → count_by is_booted (line ∷ boot_lines o d) ≡ boot_ups end
ups_with line o end d e f =
    let first = sum_by-cons (λ (l : Line). cond (is_booted l) 1 0) line (boot_lines o d) in
    let rest : count_by is_booted (boot_lines o d) ≡ boot_ups end = ups_after o d ∙ ap boot_ups (sym f) in
    first ∙ sum_so (cond (is_booted line) 1 0) 0 (count_by is_booted (boot_lines o d)) (boot_ups end) (ap (λ (b : Bool). cond b 1 0) e) rest ∙ none_more (boot_ups end)

-- one line that is no cut and no boot
pub none_cut : (line : Line) → is_cut line ≡ false → count_by is_cut (line ∷ []) ≡ 0
none_cut line e = ap (λ (b : Bool). 0 + cond b 1 0) e

pub none_up : (line : Line) → is_booted line ≡ false → count_by is_booted (line ∷ []) ≡ 0
none_up line e = ap (λ (b : Bool). 0 + cond b 1 0) e

raw_cuts : (m : Message) (o : Option Said) (resets : Bool) → cond (is_cut (lines.raw (raw_fate m o))) 1 0 ≡ fate_cuts (fate_by o resets)
raw_cuts m None resets = refl
raw_cuts m (Some reply) true = refl
raw_cuts m (Some reply) false = refl

-- it stands for the same with a greater age
pub world_later : (age more : ℕ) (sizes : Sizes) (jobs : List Job) (w : WorldState) (s : State) → age ≤ more → WorldStands age sizes jobs w s → WorldStands more sizes jobs w s
world_later age more sizes jobs w s below h = record {
  machine = stands_later age more w.machine s.device below h.machine;
  sizes_are = h.sizes_are;
  up = h.up;
  armed = h.armed;
  clients = h.clients;
  packets = h.packets;
  replies = h.replies;
}

-- what may come of a request, by the state's own
pub own_comes : (age : ℕ) (sizes : Sizes) (jobs : List Job) (w : WorldState) (s : State) (m : Message) (c : Came) → WorldStands age sizes jobs w s → Comes (sizes_in w.machine) (armed_of w.machine) s.device (meaning m) c → Comes sizes s.armed s.device (meaning m) c
own_comes age sizes jobs w s m c h comes =
    subst (λ (x : Sizes). Comes x s.armed s.device (meaning m) c) h.sizes_are (subst (λ (x : Option Armed). Comes (sizes_in w.machine) x s.device (meaning m) c) h.armed comes)

-- Raw bytes.

raw_fates : (m : Message) (o : Option Said) (resets : Bool) → raw_told (fate_by o resets) (sent_to m o) ≡ raw_fate m o
raw_fates m None resets = refl
raw_fates m (Some reply) true = refl
raw_fates m (Some reply) false = refl

raw_told_so : (m : Message) (c : Came) (fate : Fate) (reply : List ℕ) → fate ≡ fate_by c.went.reply (is_reset (meaning m)) → reply ≡ sent_to m c.went.reply → raw_told fate reply ≡ raw_fate m c.went.reply
raw_told_so m c fate reply e f = ap (λ (x : Fate). raw_told x reply) e ∙ ap (raw_told (fate_by c.went.reply (is_reset (meaning m)))) f ∙ raw_fates m c.went.reply (is_reset (meaning m))

raw_request : (age more : ℕ) (sizes : Sizes) (jobs : List Job) (w : WorldState) (machine : MachineState) (s : State) (m : Message) (fate : Fate) (end : Option BootEnd) (before mid after : List ℕ) → WorldStands age sizes jobs w s
    → RequestTakes more m s.device fate end w.machine machine → PutsLine (lines.raw (raw_told fate machine.reply)) before mid → PutsBoot end machine mid after
    → Results (RawRequest sizes s m) (fate_cuts fate + boot_cuts end) (boot_ups end) more sizes jobs (record w { machine = machine }) before after
raw_request age more sizes jobs w machine s m fate end before mid after h t put puts =
    let c = t.came in
    let next = state_after s c in
    record {
      moment = moment_of (lines.raw (raw_fate m c.went.reply)) m c next;
      happens = (c, own_comes age sizes jobs w s m c h t.comes, refl);
      stands = record {
        machine = t.stands;
        sizes_are = ap (λ (p : Places). sizes_of (geometry_of p.first)) t.places ∙ h.sizes_are;
        up = t.up;
        armed = t.armed;
        clients = h.clients;
        packets = h.packets;
        replies = h.replies;
      };
      spelled = then_lines (lines.raw (raw_fate m c.went.reply)) (boot_lines c.boot next.device) before mid after
          (subst (λ (x : lines.Fate). PutsLine (lines.raw x) before mid) (raw_told_so m c fate machine.reply t.fate_is t.reply) put)
          (boot_lines_put c.boot end machine next.device mid after t.boot_is t.shows puts);
      cuts_are = cuts_with (lines.raw (raw_fate m c.went.reply)) (fate_cuts fate) c.boot end next.device
          (raw_cuts m c.went.reply (is_reset (meaning m)) ∙ ap fate_cuts (sym t.fate_is)) t.boot_is;
      boots_are = ups_with (lines.raw (raw_fate m c.went.reply)) c.boot end next.device refl t.boot_is;
    }

-- bytes that are no request
dropped : (age more : ℕ) (sizes : Sizes) (jobs : List Job) (w : WorldState) (machine : MachineState) (s : State) (fate : Fate) (end : Option BootEnd) → WorldStands age sizes jobs w s → DropTakes more s.device fate end w.machine machine
    → WorldStands more sizes jobs (record w { machine = machine }) (drops s)
dropped age more sizes jobs w machine s fate end h t = record {
  machine = t.stands;
  sizes_are = ap (λ (p : Places). sizes_of (geometry_of p.first)) t.places ∙ h.sizes_are;
  up = t.up ∙ h.up;
  armed = t.armed ∙ h.armed;
  clients = h.clients;
  packets = h.packets;
  replies = h.replies;
}

-- no boot follows
pub alone : (line told : Line) (end : Option BootEnd) (machine : MachineState) (before mid after : List ℕ) → told ≡ line → end ≡ None → PutsLine told before mid → PutsBoot end machine mid after → after ≡ before ++ lines_text (line ∷ [])
alone line told end machine before mid after e none put puts =
    one_line line before after (subst (λ (x : Line). PutsLine x before after) e (subst (λ (x : List ℕ). PutsLine told before x) (sym (subst (λ (o : Option BootEnd). PutsBoot o machine mid after) none puts)) put))

raw_dropped : (age more : ℕ) (sizes : Sizes) (jobs : List Job) (w : WorldState) (machine : MachineState) (s : State) (fate : Fate) (end : Option BootEnd) (before mid after : List ℕ) → WorldStands age sizes jobs w s
    → DropTakes more s.device fate end w.machine machine → PutsLine (lines.raw (raw_told fate machine.reply)) before mid → PutsBoot end machine mid after
    → Results (λ out. out ≡ still (lines.raw lines.dropped) (drops s)) (fate_cuts fate + boot_cuts end) (boot_ups end) more sizes jobs (record w { machine = machine }) before after
raw_dropped age more sizes jobs w machine s fate end before mid after h t put puts = record {
  moment = still (lines.raw lines.dropped) (drops s);
  happens = refl;
  stands = dropped age more sizes jobs w machine s fate end h t;
  spelled = alone (lines.raw lines.dropped) (lines.raw (raw_told fate machine.reply)) end machine before mid after (ap (λ (x : Fate). lines.raw (raw_told x machine.reply)) t.fate_is) t.boot_is put puts;
  cuts_are = sym (ap (λ (x : Fate). fate_cuts x + boot_cuts end) t.fate_is ∙ ap (λ (x : Option BootEnd). 0 + boot_cuts x) t.boot_is);
  boots_are = sym (ap boot_ups t.boot_is);
}

raw_message : (request : Bool) (age more : ℕ) (sizes : Sizes) (jobs : List Job) (w : WorldState) (machine : MachineState) (s : State) (m : Message) (fate : Fate) (end : Option BootEnd) (before mid after : List ℕ) → WorldStands age sizes jobs w s
    → MessageTakes request more m s.device fate end w.machine machine → PutsLine (lines.raw (raw_told fate machine.reply)) before mid → PutsBoot end machine mid after
    → Results (RawMessage sizes request s m) (fate_cuts fate + boot_cuts end) (boot_ups end) more sizes jobs (record w { machine = machine }) before after
raw_message true age more sizes jobs w machine s m fate end before mid after h t put puts = raw_request age more sizes jobs w machine s m fate end before mid after h t put puts
raw_message false age more sizes jobs w machine s m fate end before mid after h t put puts = raw_dropped age more sizes jobs w machine s fate end before mid after h t put puts

raw_packet : (p : Option Message) (age more : ℕ) (sizes : Sizes) (jobs : List Job) (w : WorldState) (machine : MachineState) (s : State) (fate : Fate) (end : Option BootEnd) (before mid after : List ℕ) → WorldStands age sizes jobs w s
    → PacketTakes p more s.device fate end w.machine machine → PutsLine (lines.raw (raw_told fate machine.reply)) before mid → PutsBoot end machine mid after
    → Results (RawPacket sizes s p) (fate_cuts fate + boot_cuts end) (boot_ups end) more sizes jobs (record w { machine = machine }) before after
raw_packet None age more sizes jobs w machine s fate end before mid after h t put puts = raw_dropped age more sizes jobs w machine s fate end before mid after h t put puts
raw_packet (Some m) age more sizes jobs w machine s fate end before mid after h t put puts = raw_message (is_request m) age more sizes jobs w machine s m fate end before mid after h t put puts

-- the world with a machine that is as it was
pub same_world : (age more : ℕ) (sizes : Sizes) (jobs : List Job) (w : WorldState) (machine : MachineState) (s : State) → machine ≡ w.machine → age ≤ more → WorldStands age sizes jobs w s → WorldStands more sizes jobs (record w { machine = machine }) s
same_world age more sizes jobs w machine s e below h = subst (λ (m : MachineState). WorldStands more sizes jobs (record w { machine = m }) s) (sym e) (world_later age more sizes jobs w s below h)

raw_by : (up : Bool) (bytes : List ℕ) (age more : ℕ) (sizes : Sizes) (jobs : List Job) (w : WorldState) (machine : MachineState) (s : State) (fate : Fate) (end : Option BootEnd) (before mid after : List ℕ) → age ≤ more → WorldStands age sizes jobs w s
    → TakesBy up more bytes s.device fate end w.machine machine → PutsLine (lines.raw (raw_told fate machine.reply)) before mid → PutsBoot end machine mid after
    → Results (RawComes sizes up s bytes) (fate_cuts fate + boot_cuts end) (boot_ups end) more sizes jobs (record w { machine = machine }) before after
raw_by true bytes age more sizes jobs w machine s fate end before mid after below h t put puts = raw_packet (packet bytes) age more sizes jobs w machine s fate end before mid after h t put puts
raw_by false bytes age more sizes jobs w machine s fate end before mid after below h t put puts = record {
  moment = still (lines.raw lines.is_down) s;
  happens = refl;
  stands = same_world age more sizes jobs w machine s t.2 below h;
  spelled = alone (lines.raw lines.is_down) (lines.raw (raw_told fate machine.reply)) end machine before mid after (ap (λ (x : Fate). lines.raw (raw_told x machine.reply)) t.0) t.1 put puts;
  cuts_are = sym (ap (λ (x : Fate). fate_cuts x + boot_cuts end) t.0 ∙ ap (λ (x : Option BootEnd). 0 + boot_cuts x) t.1);
  boots_are = sym (ap boot_ups t.1);
}

pub raw_does : (bytes : List ℕ) (w : WorldState) (machine : MachineState) (fate : Fate) (end : Option BootEnd) (before mid after : List ℕ) → TakesBytes bytes fate end w.machine machine
    → PutsLine (lines.raw (raw_told fate machine.reply)) before mid → PutsBoot end machine mid after → DoesEvent (raw bytes) w (record w { machine = machine; cuts = w.cuts + (fate_cuts fate + boot_cuts end); boots = w.boots + boot_ups end }) before after
raw_does bytes w machine fate end before mid after takes put puts age sizes jobs s h room =
    stepped (fate_cuts fate + boot_cuts end) (boot_ups end) (age + 7) sizes jobs s (raw bytes) w (record w { machine = machine }) before after refl refl
    (raw_by s.up bytes age (age + 7) sizes jobs w machine s fate end before mid after (omega arith) h
    (subst (λ (u : Bool). TakesBy u (age + 7) bytes s.device fate end w.machine machine) h.up (takes age s.device h.machine room)) put puts)

-- A boot.

pub boot_does : (w : WorldState) (machine : MachineState) (ended : BootEnd) (before after : List ℕ) → BootsMachine ended w.machine machine → PutsBoot (Some ended) machine before after → DoesEvent boot w (record w { machine = machine; cuts = w.cuts + (fate_cuts fates.Replied + boot_cuts (Some ended)); boots = w.boots + boot_ups (Some ended) }) before after
boot_does w machine ended before after boots puts age sizes jobs s h room =
    let t = boots age s.device h.machine (omega (arith, room)) in
    let next = state_booted s t.booted in
    let same = ap (λ (x : BootEnd). Some x) t.ended_so in
    stepped (fate_cuts fates.Replied + boot_cuts (Some ended)) (boot_ups (Some ended)) (age + 7) sizes jobs s boot w (record w { machine = machine }) before after refl refl (record {
      moment = moment_booted t.booted next;
      happens = (t.booted, subst (λ (x : Option Armed). Boots x s.device t.booted) h.armed t.boots, refl);
      stands = record {
        machine = stands_later (age + 2) (age + 7) machine next.device (omega arith) t.stands;
        sizes_are = ap (λ (p : Places). sizes_of (geometry_of p.first)) t.places ∙ h.sizes_are;
        up = t.up;
        armed = t.armed;
        clients = h.clients;
        packets = h.packets;
        replies = h.replies;
      };
      spelled = boot_put t.booted ended machine next.device before after t.ended_so t.shows puts;
      cuts_are = boot_cuts_in t.booted.ended next.device ∙ ap boot_cuts (sym same) ∙ sym (none_more (boot_cuts (Some ended)));
      boots_are = boot_ups_in t.booted.ended next.device ∙ ap boot_ups (sym same);
    })

-- An arm.

none_more_on : (n : ℕ) → n ≡ n + 0
none_more_on n = omega arith

pub arm_does : (w : WorldState) (arm : Arm) (before after : List ℕ) → PutsLine lines.armed before after
    → DoesEvent (arms arm) w (record w { machine = record w.machine { flash = record w.machine.flash { arm = Some arm } } }) before after
arm_does w arm before after put age sizes jobs s h room = record {
  moment = still lines.armed (record s { armed = Some (armed_by arm) });
  happens = refl;
  stands = record {
    machine = record { whole = h.machine.whole; sizes = h.machine.sizes; stands = h.machine.stands; aged = ages_more age (age + 7) w.machine.device.places w.machine.flash.bytes (omega arith) h.machine.aged; on = h.machine.on };
    sizes_are = h.sizes_are;
    up = h.up;
    armed = refl;
    clients = h.clients;
    packets = h.packets;
    replies = h.replies;
  };
  spelled = one_line lines.armed before after put;
  cuts = none_more_on w.cuts;
  boots = none_more_on w.boots;
}
