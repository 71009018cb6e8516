-- What packets, replies and waits make of a world.
use Rattle.std.proofs.Common.{◌≡◌, ◌⊎◌, ◌+◌, ◌-◌, ◌≤◌, ◌<◌, ℕ, zero, suc, ◌==◌, ◌||◌, List, [], ◌∷◌, ◌++◌, length, Option, Some, None, Bool, true, false, cond, refl, sym, ◌∙◌, ap, subst, arith}
use Rattle.std.proofs.lemmas.Bool.Decides.{nat_tests}
use Rattle.std.specs.Prelude.{count_by, drop, option_map, min, slice_get, slice_index_or}
use Rattle.smp_header.specs.Message.{Message, packet}
use Rattle.smp_header.specs.declared.TheConstants.{HEADER, LARGEST_PACKET}
use Rattle.smp_model.specs.declared.device.Sizes.{Sizes}
use Rattle.smp_model.specs.Handled.{is_request, is_reset}
use Rattle.smp_model.specs.Meaning.{meaning}
use Rattle.smp_model.specs.Packets.{PacketsAreReadBack, packet_bytes}
use Rattle.smp_model.specs.Said.{Said, reply_message}
use Rattle.smp_jobs.specs.Jobs as jobs
use Rattle.smp_jobs.specs.Jobs.{Job, End}
use Rattle.smp_jobs.specs.Clients.{Client, Turn, begun, client_hears, client_hears_bytes, client_waited}
use Rattle.smp_jobs.specs.States.{JobState, StandsBy, packet_in, told_as, told_by}
use Rattle.smp_jobs.specs.declared.moves.JobMove.{JobMove}
use Rattle.smp_jobs.specs.declared.moves.JobMove.TheVariants as moves
use Rattle.smp_jobs.specs.declared.moves.JobEnd.TheVariants as job_ends
use Rattle.smp_schedule.specs.declared.event.Event.{Event as ScheduleEvent}
use Rattle.smp_schedule.specs.declared.event.Event.TheVariants as said
use Rattle.smp_schedule.specs.declared.job.JobWords.{JobWords}
use Rattle.smp_schedule.specs.declared.event.Which.{Which as SaidWhich}
use Rattle.smp_schedule.specs.declared.event.Which.TheVariants as whiches
use Rattle.smp_device.specs.Arming.{sent_to}
use Rattle.smp_device.specs.Places.{Places}
use Rattle.smp_device.specs.Uploads.{sizes_of}
use Rattle.smp_flash.specs.Layout.{geometry_of}
use Rattle.smp_world.specs.Clients.{Asking, ClientsState, ClientsStand, MovesBy, MovesClient, MovesUnlessEnded, MovesWhere, Pairs, SeatStands}
use Rattle.smp_world.specs.Lines as lines
use Rattle.smp_world.specs.Lines.{Did, Line, is_booted, is_cut, last_text, lines_text}
use Rattle.smp_world.specs.Machines.{MachineState, MessageTakes, PacketTakes, RequestTakes, TakesBy, TakesBytes, fate_by, named}
use Rattle.smp_world.specs.Runs.{Event, Mail as Sent, State, UpComes, UpNamed, begins, boot_lines, client_begins, comes_down, did_by, did_in, down, moment_of, moves as moves_client, nth, number_of, quiet, state_after_up, still, turned, unless_ended, up, up_fate, with_nth, with_packet, with_reply}
use Rattle.smp_world.specs.Schedules.{which_of}
use Rattle.smp_world.specs.Worlds.{boot_cuts, boot_ups, fate_cuts, EndsWorld, DoesBegin, DoesEvent, DoesSaid, Steps, age_of, IsPacketOf, KeepsPacket, KeepsReply, KeepsSent, MailStands, PacketStands, PutsBoot, PutsLine, PutsMove, Stepped, WorldStands, WorldState, did_of, move_told, up_told, with_mail}
use Rattle.smp_world.specs.declared.clients.Seat.{Seat}
use Rattle.smp_world.specs.declared.machine.BootEnd.{BootEnd}
use Rattle.smp_world.specs.declared.machine.Fate.{Fate}
use Rattle.smp_world.specs.declared.machine.Fate.TheVariants as fates
use Rattle.smp_world.specs.declared.mail.Mail.{Mail}
use Rattle.smp_world.proofs.Numbered.{some_same}
use Rattle.smp_world.proofs.Pairing.{none_at, pair_at, pair_of, pairs_length, pairs_push, set_there}
use Rattle.smp_world.proofs.PutLines.{boot_lines_put, one_line, then_lines}
use Rattle.smp_world.proofs.SeatLists.{client_begins_so, length_push, seats_done}
use Rattle.smp_world.proofs.Seats.{hears_own, hears_packet, waits_own}
use Rattle.smp_world.proofs.WorldSteps.{Results, alone, counted, cuts_with, none_cut, none_up, own_comes, same_world, stepped, stepped_still, ups_with, world_later}

-- Packets that there are, and numbers.

named_so : (which : SaidWhich) (xs : List Sent) (n : ℕ) → length xs ≡ n → number_of xs (which_of which) ≡ named which n
named_so whiches.New xs n e = e
named_so (whiches.Number k) xs n e = refl

-- A packet that is not there.

pub up_missing_does : (which : SaidWhich) (w : WorldState) (before after : List ℕ) → (named which (length w.packets) ≡ 0) ⊎ (length w.packets < named which (length w.packets))
    → PutsLine (lines.up (named which (length w.packets)) lines.missing) before after → DoesEvent (up (which_of which)) w w before after
up_missing_does which w before after past put age sizes js s h room =
    let n = named which (length w.packets) in
    let e : number_of s.packets (which_of which) ≡ n = named_so which s.packets (length w.packets) (pairs_length PacketStands w.packets s.packets h.packets) in
    stepped_still (age + 7) sizes js s (up (which_of which)) w w before after refl refl (record {
      moment = still (lines.up n lines.missing) s;
      happens = subst (λ (k : ℕ). UpNamed sizes s k (nth s.packets k) (still (lines.up n lines.missing) s)) (sym e)
          (subst (λ (o : Option Sent). UpNamed sizes s n o (still (lines.up n lines.missing) s)) (sym (none_at PacketStands n w.packets s.packets h.packets past)) refl);
      stands = world_later age (age + 7) sizes js w s (omega arith) h;
      spelled = one_line (lines.up n lines.missing) before after put;
      cuts_are = refl;
      boots_are = refl;
    })

-- The reply to a packet.

up_fates : (s : State) (m : Message) (n : ℕ) (o : Option Said) (resets : Bool) → n ≡ length s.replies + 1 → up_told (fate_by o resets) n (sent_to m o) ≡ up_fate s m o
up_fates s m n None resets e = refl
up_fates s m n (Some reply) true e = ap (λ (k : ℕ). lines.replied (Some k) (packet_bytes (reply_message m reply))) e
up_fates s m n (Some reply) false e = ap (λ (k : ℕ). lines.replied (Some k) (packet_bytes (reply_message m reply))) e

request_op : (a b : Bool) (n : ℕ) → (n == 0) ≡ a → (n == 2) ≡ b → (a || b) ≡ true → n + 1 ≤ 7
request_op true b n e f h = grind (arith, nat_tests, e)
request_op false true n e f h = grind (arith, nat_tests, f)
request_op false false n e f h = cc h

version_small : (n : ℕ) → min n 1 ≤ 3
version_small n = omega arith

bytes_long : (m : Message) → length (packet_bytes m) ≡ length m.bytes + HEADER
bytes_long m = omega arith

reply_read : PacketsAreReadBack → (m : Message) (reply : Said) → Asking m → length (packet_bytes (reply_message m reply)) ≤ LARGEST_PACKET → packet (packet_bytes (reply_message m reply)) ≡ Some (reply_message m reply)
reply_read law m reply asks fits =
    let long = bytes_long (reply_message m reply) in
    law (reply_message m reply) (version_small m.version) (request_op (m.op == 0) (m.op == 2) m.op refl refl asks.request) asks.group (omega (arith, long, fits))

reply_stands : PacketsAreReadBack → (client : ℕ) (m : Message) (reply : Said) (bytes : List ℕ) (sent : Sent) → Asking m → bytes ≡ packet_bytes (reply_message m reply) → length bytes ≤ LARGEST_PACKET → client ≡ sent.client
    → MailStands (record { client = client; packet = bytes }) (record { client = sent.client; message = reply_message m reply })
reply_stands law client m reply bytes sent asks e fits same = record {
  client = same;
  bytes = e;
  is_packet = subst (λ (x : List ℕ). packet x ≡ Some (reply_message m reply)) (sym e) (reply_read law m reply asks (subst (λ (x : List ℕ). length x ≤ LARGEST_PACKET) e fits));
}

-- what is kept of it
pub record Kept (w mid next : WorldState) (s : State) (p : Sent) (o : Option Said) (fate : Fate) : Type 0 where
  pub replies : List Mail
  pub same : next ≡ record mid { replies = replies }
  pub stand : Pairs MailStands replies (with_reply s.replies p o)
  pub told : up_told fate (length next.replies) mid.machine.reply ≡ up_fate s p.message o

kept_sent : PacketsAreReadBack → (w mid next : WorldState) (s : State) (p : Sent) (said : Said) (fate : Fate) (client : ℕ) → mid.replies ≡ w.replies → Pairs MailStands w.replies s.replies → Asking p.message → client ≡ p.client
    → mid.machine.reply ≡ packet_bytes (reply_message p.message said) → length mid.machine.reply ≤ LARGEST_PACKET → next ≡ record mid { replies = with_mail mid.replies client mid.machine.reply }
    → ((n : ℕ) → n ≡ length s.replies + 1 → up_told fate n mid.machine.reply ≡ up_fate s p.message (Some said)) → Kept w mid next s p (Some said) fate
kept_sent law w mid next s p said fate client was stand asks same reply fits k told =
    let stood : Pairs MailStands mid.replies s.replies = subst (λ (x : List Mail). Pairs MailStands x s.replies) (sym was) stand in
    let long : length next.replies ≡ length mid.replies + 1 = ap (λ (x : WorldState). length x.replies) k ∙ length_push mid.replies (record { client = client; packet = mid.machine.reply }) in
    let few = pairs_length MailStands mid.replies s.replies stood in
    record {
      replies = with_mail mid.replies client mid.machine.reply;
      same = k;
      stand = pairs_push MailStands mid.replies s.replies stood (record { client = client; packet = mid.machine.reply }) (record { client = p.client; message = reply_message p.message said })
          (reply_stands law client p.message said mid.machine.reply p asks reply fits same);
      told = told (length next.replies) (omega (arith, long, few));
    }

kept_reply : PacketsAreReadBack → (w mid next : WorldState) (s : State) (p : Sent) (o : Option Said) (resets : Bool) (client : ℕ) → mid.replies ≡ w.replies → Pairs MailStands w.replies s.replies → Asking p.message → client ≡ p.client
    → mid.machine.reply ≡ sent_to p.message o → length mid.machine.reply ≤ LARGEST_PACKET → KeepsReply (fate_by o resets) client mid next → Kept w mid next s p o (fate_by o resets)
kept_reply law w mid next s p None resets client was stand asks same reply fits k = record {
  replies = mid.replies;
  same = k;
  stand = subst (λ (x : List Mail). Pairs MailStands x s.replies) (sym was) stand;
  told = refl;
}
kept_reply law w mid next s p (Some said) true client was stand asks same reply fits k =
    kept_sent law w mid next s p said fates.Reset client was stand asks same reply fits k (λ n e. ap (λ (x : List ℕ). up_told fates.Reset n x) reply ∙ up_fates s p.message n (Some said) true e)
kept_reply law w mid next s p (Some said) false client was stand asks same reply fits k =
    kept_sent law w mid next s p said fates.Replied client was stand asks same reply fits k (λ n e. ap (λ (x : List ℕ). up_told fates.Replied n x) reply ∙ up_fates s p.message n (Some said) false e)

-- A client's packet comes to the device.

up_cuts : (s : State) (m : Message) (n : ℕ) (o : Option Said) (resets : Bool) → cond (is_cut (lines.up n (up_fate s m o))) 1 0 ≡ fate_cuts (fate_by o resets)
up_cuts s m n None resets = refl
up_cuts s m n (Some reply) true = refl
up_cuts s m n (Some reply) false = refl

up_request : PacketsAreReadBack → (age more : ℕ) (sizes : Sizes) (js : List Job) (w next : WorldState) (machine : MachineState) (s : State) (p : Sent) (n client : ℕ) (fate : Fate) (boot : Option BootEnd) (before mid after : List ℕ)
    → WorldStands age sizes js w s → Asking p.message → client ≡ p.client → length machine.reply ≤ LARGEST_PACKET → RequestTakes more p.message s.device fate boot w.machine machine
    → KeepsReply fate client (record w { machine = machine }) next → PutsLine (lines.up n (up_told fate (length next.replies) machine.reply)) before mid → PutsBoot boot machine mid after
    → Results (UpComes sizes true s n p) (fate_cuts fate + boot_cuts boot) (boot_ups boot) more sizes js next before after
up_request law age more sizes js w next machine s p n client fate boot before mid after h asks same fits t keeps put puts =
    let c = t.came in
    let m = p.message in
    let resets = is_reset (meaning m) in
    let k = kept_reply law w (record w { machine = machine }) next s p c.went.reply resets client refl h.replies asks same t.reply fits
    (subst (λ (x : Fate). KeepsReply x client (record w { machine = machine }) next) t.fate_is keeps) in
    let told : up_told fate (length next.replies) machine.reply ≡ up_fate s m c.went.reply = ap (λ (x : Fate). up_told x (length next.replies) machine.reply) t.fate_is ∙ k.told in
    let reached = state_after_up s p c in
    record {
      moment = moment_of (lines.up n (up_fate s m c.went.reply)) m c reached;
      happens = (c, own_comes age sizes js w s m c h t.comes, refl);
      stands = subst (λ (x : WorldState). WorldStands more sizes js x reached) (sym k.same) (record {
        machine = t.stands;
        sizes_are = ap (λ (q : Places). sizes_of (geometry_of q.first)) t.places ∙ h.sizes_are;
        up = t.up;
        armed = t.armed;
        clients = h.clients;
        packets = h.packets;
        replies = k.stand;
      });
      spelled = then_lines (lines.up n (up_fate s m c.went.reply)) (boot_lines c.boot reached.device) before mid after
          (subst (λ (x : lines.Fate). PutsLine (lines.up n x) before mid) told put)
          (boot_lines_put c.boot boot machine reached.device mid after t.boot_is t.shows puts);
      cuts_are = cuts_with (lines.up n (up_fate s m c.went.reply)) (fate_cuts fate) c.boot boot reached.device
          (up_cuts s m n c.went.reply resets ∙ ap fate_cuts (sym t.fate_is)) t.boot_is;
      boots_are = ups_with (lines.up n (up_fate s m c.went.reply)) c.boot boot reached.device refl t.boot_is;
    }

up_message : PacketsAreReadBack → (request : Bool) (age more : ℕ) (sizes : Sizes) (js : List Job) (w next : WorldState) (machine : MachineState) (s : State) (p : Sent) (n client : ℕ) (fate : Fate) (boot : Option BootEnd) (before mid after : List ℕ)
    → request ≡ true → WorldStands age sizes js w s → Asking p.message → client ≡ p.client → length machine.reply ≤ LARGEST_PACKET → MessageTakes request more p.message s.device fate boot w.machine machine
    → KeepsReply fate client (record w { machine = machine }) next → PutsLine (lines.up n (up_told fate (length next.replies) machine.reply)) before mid → PutsBoot boot machine mid after
    → Results (UpComes sizes true s n p) (fate_cuts fate + boot_cuts boot) (boot_ups boot) more sizes js next before after
up_message law true age more sizes js w next machine s p n client fate boot before mid after e h asks same fits t keeps put puts =
    up_request law age more sizes js w next machine s p n client fate boot before mid after h asks same fits t keeps put puts
up_message law false age more sizes js w next machine s p n client fate boot before mid after e h asks same fits t keeps put puts = cc e

up_by : PacketsAreReadBack → (up : Bool) (age more : ℕ) (sizes : Sizes) (js : List Job) (w next : WorldState) (machine : MachineState) (s : State) (mail : Mail) (p : Sent) (n : ℕ) (fate : Fate) (boot : Option BootEnd) (before mid after : List ℕ)
    → age ≤ more → WorldStands age sizes js w s → PacketStands mail p → length machine.reply ≤ LARGEST_PACKET → TakesBy up more mail.packet s.device fate boot w.machine machine
    → KeepsReply fate mail.client (record w { machine = machine }) next → PutsLine (lines.up n (up_told fate (length next.replies) machine.reply)) before mid → PutsBoot boot machine mid after
    → Results (UpComes sizes up s n p) (fate_cuts fate + boot_cuts boot) (boot_ups boot) more sizes js next before after
up_by law true age more sizes js w next machine s mail p n fate boot before mid after below h stands fits t keeps put puts =
    up_message law (is_request p.message) age more sizes js w next machine s p n mail.client fate boot before mid after stands.asks.request h stands.asks stands.stands.client fits
    (subst (λ (o : Option Message). PacketTakes o more s.device fate boot w.machine machine) stands.stands.is_packet t) keeps put puts
up_by law false age more sizes js w next machine s mail p n fate boot before mid after below h stands fits t keeps put puts =
    let same : next ≡ record w { machine = machine } = subst (λ (x : Fate). KeepsReply x mail.client (record w { machine = machine }) next) t.0 keeps in
    record {
      moment = still (lines.up n lines.is_down) s;
      happens = refl;
      stands = subst (λ (x : WorldState). WorldStands more sizes js x s) (sym same) (same_world age more sizes js w machine s t.2 below h);
      spelled = alone (lines.up n lines.is_down) (lines.up n (up_told fate (length next.replies) machine.reply)) boot machine before mid after
          (ap (λ (x : Fate). lines.up n (up_told x (length next.replies) machine.reply)) t.0) t.1 put puts;
      cuts_are = sym (ap (λ (x : Fate). fate_cuts x + boot_cuts boot) t.0 ∙ ap (λ (x : Option BootEnd). 0 + boot_cuts x) t.1);
      boots_are = sym (ap boot_ups t.1);
    }

pub up_does : PacketsAreReadBack → (which : SaidWhich) (place : ℕ) (w next : WorldState) (machine : MachineState) (fate : Fate) (boot : Option BootEnd) (mail : Mail) (before mid after : List ℕ)
    → suc place ≡ named which (length w.packets) → place < length w.packets → mail ≡ slice_index_or w.packets place mail → length machine.reply ≤ LARGEST_PACKET → TakesBytes mail.packet fate boot w.machine machine
    → KeepsReply fate mail.client (record w { machine = machine }) next → PutsLine (lines.up (named which (length w.packets)) (up_told fate (length next.replies) machine.reply)) before mid → PutsBoot boot machine mid after
    → next.cuts ≡ w.cuts → next.boots ≡ w.boots → DoesEvent (up (which_of which)) w (record next { steps = next.steps; cuts = next.cuts + (fate_cuts fate + boot_cuts boot); boots = next.boots + boot_ups boot }) before after
up_does law which place w next machine fate boot mail before mid after number few is fits takes keeps put puts same_cuts same_boots age sizes js s h room =
    let n = named which (length w.packets) in
    let at = pair_at PacketStands w.packets s.packets h.packets place few mail in
    let p = at.0 in
    let stands : PacketStands mail p = subst (λ (x : Mail). PacketStands x p) (sym is) at.1.1 in
    let e : number_of s.packets (which_of which) ≡ n = named_so which s.packets (length w.packets) (pairs_length PacketStands w.packets s.packets h.packets) in
    let there : nth s.packets n ≡ Some p = ap (nth s.packets) (sym number) ∙ at.1.0 in
    let r = up_by law s.up age (age + 7) sizes js w next machine s mail p n fate boot before mid after (omega arith) h stands fits
    (subst (λ (u : Bool). TakesBy u (age + 7) mail.packet s.device fate boot w.machine machine) h.up (takes age s.device h.machine room)) keeps put puts in
    stepped (fate_cuts fate + boot_cuts boot) (boot_ups boot) (age + 7) sizes js s (up (which_of which)) w next before after same_cuts same_boots (record {
      moment = r.moment;
      happens = subst (λ (k : ℕ). UpNamed sizes s k (nth s.packets k) r.moment) (sym e) (subst (λ (o : Option Sent). UpNamed sizes s n o r.moment) (sym there) r.happens);
      stands = r.stands;
      spelled = r.spelled;
      cuts_are = r.cuts_are;
      boots_are = r.boots_are;
    })

-- Moves of clients.

-- a line that tells of no cut and no boot
abbrev pub IsPlain : (Did → Line) → Type 0
IsPlain line = (did : Did) → (is_cut (line did) ≡ false) × (is_booted (line did) ≡ false)

abbrev pub SendsOwn : Turn → Type 0
SendsOwn t = (m : Message) → t.packet ≡ Some m → (m ≡ t.client.request.packet) × (t.client.ended ≡ None)

-- a move that is told is the turn's
move_told_so : (k : ℕ) (t : Turn) (made : JobMove) (js : List Job) (clients : List Client) (new : ClientsState) (line : Did → Line) (n : ℕ) (before after : List ℕ) → MovesBy k t made js clients new → PutsMove line (did_of made n) before after
    → (made ≡ told_as t) × ClientsStand js new (with_nth clients k t.client)
move_told_so k t moves.Send js clients new line n before after m put = m
move_told_so k t moves.Wait js clients new line n before after m put = m
move_told_so k t moves.Done js clients new line n before after m put = m
move_told_so k t moves.Over js clients new line n before after m put = m
move_told_so k t (moves.Failed job_ends.OutOfMemory) js clients new line n before after m put = elim put [ ]
move_told_so k t (moves.Failed job_ends.NoAnswer) js clients new line n before after m put = m
move_told_so k t (moves.Failed (job_ends.Refused group number)) js clients new line n before after m put = m
move_told_so k t (moves.Failed job_ends.Mismatch) js clients new line n before after m put = m
move_told_so k t (moves.Failed job_ends.Stalled) js clients new line n before after m put = m

-- without a packet, nothing is kept
did_still : (o : Option End) (n j : ℕ) → did_of (told_by o None) n ≡ Some (did_by j None o)
did_still None n j = refl
did_still (Some jobs.done) n j = refl
did_still (Some jobs.no_answer) n j = refl
did_still (Some (jobs.refused group number)) n j = refl
did_still (Some jobs.mismatch) n j = refl
did_still (Some jobs.stalled) n j = refl

keeps_still : (o : Option End) (client : ℕ) (old new : WorldState) → KeepsSent (Some (told_by o None)) client old new → new ≡ old
keeps_still None client old new k = k
keeps_still (Some jobs.done) client old new k = k
keeps_still (Some jobs.no_answer) client old new k = k
keeps_still (Some (jobs.refused group number)) client old new k = k
keeps_still (Some jobs.mismatch) client old new k = k
keeps_still (Some jobs.stalled) client old new k = k

-- the world with other clients
with_clients : (age more : ℕ) (sizes : Sizes) (js : List Job) (w : WorldState) (clients : ClientsState) (s : State) (now : List Client) → age ≤ more → WorldStands age sizes js w s → ClientsStand js clients now
    → WorldStands more sizes js (record w { clients = clients }) (record s { clients = now })
with_clients age more sizes js w clients s now below h stand =
    let g = world_later age more sizes js w s below h in
    record { machine = g.machine; sizes_are = g.sizes_are; up = g.up; armed = g.armed; clients = stand; packets = g.packets; replies = g.replies }

put_told : (line : Did → Line) (o : Option Did) (did : Did) (before after : List ℕ) → o ≡ Some did → PutsMove line o before after → PutsLine (line did) before after
put_told line o did before after e put = subst (λ (x : Option Did). PutsMove line x before after) e put

-- the bytes that a client sends
seat_sends : (js : List Job) (clients : ClientsState) (now : List Client) (k : ℕ) (c : Client) (bytes : List ℕ) → ClientsStand js clients now → nth now k ≡ Some c → c.ended ≡ None → IsPacketOf k clients bytes → PacketStands (record { client = k; packet = bytes }) (record { client = k; message = c.request.packet })
seat_sends js clients now zero c bytes h at goes is = cc at
seat_sends js clients now (suc i) c bytes h at goes is =
    let seat = pair_of SeatStands clients.begun now h.seats i c at in
    let runs = (subst (λ (o : Option End). StandsBy o seat.0.job c) goes seat.1.1.stands).2 in
    let same : bytes ≡ packet_in seat.0.job = is seat.0 ∙ ap (λ (n : ℕ). packet_in (slice_index_or clients.begun n seat.0).job) (less i) ∙ ap (λ (x : Seat). packet_in x.job) (seat.1.0 seat.0) in
    record {
      stands = record { client = refl; bytes = same ∙ runs.held.bytes; is_packet = ap packet same ∙ runs.held.is_packet };
      asks = seat.1.1.asks;
    }
  where
    less : (i : ℕ) → suc i - 1 ≡ i
    less i = omega arith

turn_sends : (age more : ℕ) (sizes : Sizes) (js : List Job) (w next : WorldState) (clients : ClientsState) (s : State) (k : ℕ) (c : Client) (t : Turn) (m : Message) (line : Did → Line) (before after : List ℕ) → IsPlain line → age ≤ more → WorldStands age sizes js w s
    → nth s.clients k ≡ Some c → t.packet ≡ Some m → m ≡ t.client.request.packet → t.client.ended ≡ None → ClientsStand js clients (with_nth s.clients k t.client)
    → KeepsPacket k (record w { clients = clients }) next → PutsLine (line (lines.sent (length next.packets))) before after
    → Results (λ out. out ≡ turned line s k t) 0 0 more sizes js next before after
turn_sends age more sizes js w next clients s k c t m line before after plain below h at sent is goes stand keeps put =
    let now = with_nth s.clients k t.client in
    let g = with_clients age more sizes js w clients s now below h stand in
    let own : PacketStands (record { client = k; packet = keeps.0 }) (record { client = k; message = m }) =
    subst (λ (x : Message). PacketStands (record { client = k; packet = keeps.0 }) (record { client = k; message = x })) (sym is)
    (seat_sends js clients now k t.client keeps.0 stand (set_there s.clients k t.client c at) goes keeps.1.0) in
    let long : length next.packets ≡ length w.packets + 1 = ap (λ (x : WorldState). length x.packets) keeps.1.1 ∙ length_push w.packets (record { client = k; packet = keeps.0 }) in
    let few = pairs_length PacketStands w.packets s.packets h.packets in
    let count : length next.packets ≡ length s.packets + 1 = omega (arith, long, few) in
    record {
      moment = turned line s k t;
      happens = refl;
      stands = subst (λ (x : WorldState). WorldStands more sizes js x (turned line s k t).state) (sym keeps.1.1) (record {
        machine = g.machine;
        sizes_are = g.sizes_are;
        up = g.up;
        armed = g.armed;
        clients = g.clients;
        packets = subst (λ (o : Option Message). Pairs PacketStands (with_mail w.packets k keeps.0) (with_packet s.packets k o)) (sym sent)
            (pairs_push PacketStands w.packets s.packets h.packets (record { client = k; packet = keeps.0 }) (record { client = k; message = m }) own);
        replies = g.replies;
      });
      spelled = subst (λ (o : Option Message). after ≡ before ++ lines_text (line (did_by (length s.packets + 1) o t.client.ended) ∷ [])) (sym sent)
          (one_line (line (lines.sent (length s.packets + 1))) before after (subst (λ (n : ℕ). PutsLine (line (lines.sent n)) before after) count put));
      cuts_are = none_cut (line (did_in (length s.packets + 1) t)) (plain (did_in (length s.packets + 1) t)).0;
      boots_are = none_up (line (did_in (length s.packets + 1) t)) (plain (did_in (length s.packets + 1) t)).1;
    }

turn_stays : (age more : ℕ) (sizes : Sizes) (js : List Job) (w next : WorldState) (clients : ClientsState) (s : State) (k : ℕ) (t : Turn) (line : Did → Line) (before after : List ℕ) → IsPlain line → age ≤ more → WorldStands age sizes js w s
    → t.packet ≡ None → ClientsStand js clients (with_nth s.clients k t.client) → next ≡ record w { clients = clients } → PutsLine (line (did_by (length s.packets + 1) None t.client.ended)) before after
    → Results (λ out. out ≡ turned line s k t) 0 0 more sizes js next before after
turn_stays age more sizes js w next clients s k t line before after plain below h none stand same put =
    let now = with_nth s.clients k t.client in
    let g = with_clients age more sizes js w clients s now below h stand in
    record {
      moment = turned line s k t;
      happens = refl;
      stands = subst (λ (x : WorldState). WorldStands more sizes js x (turned line s k t).state) (sym same) (record {
        machine = g.machine;
        sizes_are = g.sizes_are;
        up = g.up;
        armed = g.armed;
        clients = g.clients;
        packets = subst (λ (o : Option Message). Pairs PacketStands w.packets (with_packet s.packets k o)) (sym none) h.packets;
        replies = g.replies;
      });
      spelled = subst (λ (o : Option Message). after ≡ before ++ lines_text (line (did_by (length s.packets + 1) o t.client.ended) ∷ [])) (sym none)
          (one_line (line (did_by (length s.packets + 1) None t.client.ended)) before after put);
      cuts_are = none_cut (line (did_in (length s.packets + 1) t)) (plain (did_in (length s.packets + 1) t)).0;
      boots_are = none_up (line (did_in (length s.packets + 1) t)) (plain (did_in (length s.packets + 1) t)).1;
    }

turn_by : (o : Option Message) (age more : ℕ) (sizes : Sizes) (js : List Job) (w next : WorldState) (clients : ClientsState) (s : State) (k : ℕ) (c : Client) (t : Turn) (made : JobMove) (line : Did → Line) (before after : List ℕ) → IsPlain line → age ≤ more → WorldStands age sizes js w s
    → nth s.clients k ≡ Some c → t.packet ≡ o → SendsOwn t → made ≡ told_by t.client.ended o → ClientsStand js clients (with_nth s.clients k t.client)
    → KeepsSent (Some made) k (record w { clients = clients }) next → PutsMove line (did_of made (length next.packets)) before after
    → Results (λ out. out ≡ turned line s k t) 0 0 more sizes js next before after
turn_by None age more sizes js w next clients s k c t made line before after plain below h at e own told stand keeps put =
    turn_stays age more sizes js w next clients s k t line before after plain below h e stand
    (keeps_still t.client.ended k (record w { clients = clients }) next (subst (λ (x : JobMove). KeepsSent (Some x) k (record w { clients = clients }) next) told keeps))
    (put_told line (did_of made (length next.packets)) (did_by (length s.packets + 1) None t.client.ended) before after
    (ap (λ (x : JobMove). did_of x (length next.packets)) told ∙ did_still t.client.ended (length next.packets) (length s.packets + 1)) put)
turn_by (Some m) age more sizes js w next clients s k c t made line before after plain below h at e own told stand keeps put =
    let mine = own m e in
    let sends : made ≡ moves.Send = told ∙ ap (λ (x : Option End). told_by x (Some m)) mine.1 in
    turn_sends age more sizes js w next clients s k c t m line before after plain below h at e mine.0 mine.1 stand
    (subst (λ (x : JobMove). KeepsSent (Some x) k (record w { clients = clients }) next) sends keeps)
    (put_told line (did_of made (length next.packets)) (lines.sent (length next.packets)) before after (ap (λ (x : JobMove). did_of x (length next.packets)) sends) put)

-- nothing moved
stays : (age more : ℕ) (sizes : Sizes) (js : List Job) (w next : WorldState) (clients : ClientsState) (s : State) (line : Line) (before after : List ℕ) → (is_cut line ≡ false) × (is_booted line ≡ false) → age ≤ more → WorldStands age sizes js w s → clients ≡ w.clients → next ≡ record w { clients = clients }
    → PutsLine line before after → Results (λ out. out ≡ still line s) 0 0 more sizes js next before after
stays age more sizes js w next clients s line before after plain below h same is put = record {
  moment = still line s;
  happens = refl;
  stands = subst (λ (x : WorldState). WorldStands more sizes js x s) (sym is) (subst (λ (x : ClientsState). WorldStands more sizes js (record w { clients = x }) s) (sym same) (world_later age more sizes js w s below h));
  spelled = one_line line before after put;
  cuts_are = none_cut line plain.0;
  boots_are = none_up line plain.1;
}

unless_by : (o : Option End) (age more : ℕ) (sizes : Sizes) (js : List Job) (w next : WorldState) (clients : ClientsState) (s : State) (k : ℕ) (c : Client) (t : Turn) (made : JobMove) (line : Did → Line) (before after : List ℕ) → IsPlain line → age ≤ more → WorldStands age sizes js w s
    → nth s.clients k ≡ Some c → c.ended ≡ o → (c.ended ≡ None → SendsOwn t) → MovesUnlessEnded k o t made js s.clients w.clients clients
    → KeepsSent (Some made) k (record w { clients = clients }) next → PutsMove line (did_of made (length next.packets)) before after
    → Results (λ out. out ≡ unless_ended line s k o t) 0 0 more sizes js next before after
unless_by None age more sizes js w next clients s k c t made line before after plain below h at e own m keeps put =
    let told = move_told_so k t made js s.clients clients line (length next.packets) before after m put in
    turn_by t.packet age more sizes js w next clients s k c t made line before after plain below h at refl (own e) told.0 told.1 keeps put
unless_by (Some x) age more sizes js w next clients s k c t made line before after plain below h at e own m keeps put =
    stays age more sizes js w next clients s (line lines.over) before after (plain lines.over) below h m.1
    (subst (λ (y : JobMove). KeepsSent (Some y) k (record w { clients = clients }) next) m.0 keeps)
    (put_told line (did_of made (length next.packets)) lines.over before after (ap (λ (y : JobMove). did_of y (length next.packets)) m.0) put)

moves_by : (o : Option Client) (age more : ℕ) (sizes : Sizes) (js : List Job) (w next : WorldState) (clients : ClientsState) (s : State) (k : ℕ) (turn : Client → Turn) (made : Option JobMove) (line : Did → Line) (before after : List ℕ) → IsPlain line → age ≤ more → WorldStands age sizes js w s
    → nth s.clients k ≡ o → ((c : Client) → c.ended ≡ None → SendsOwn (turn c)) → MovesWhere k o turn made js s.clients w.clients clients
    → KeepsSent made k (record w { clients = clients }) next → PutsMove line (move_told made (length next.packets)) before after
    → Results (λ out. out ≡ moves_client line s k o turn) 0 0 more sizes js next before after
moves_by None age more sizes js w next clients s k turn made line before after plain below h at own m keeps put =
    stays age more sizes js w next clients s (line lines.none) before after (plain lines.none) below h m.1
    (subst (λ (y : Option JobMove). KeepsSent y k (record w { clients = clients }) next) m.0 keeps)
    (put_told line (move_told made (length next.packets)) lines.none before after (ap (λ (y : Option JobMove). move_told y (length next.packets)) m.0) put)
moves_by (Some c) age more sizes js w next clients s k turn made line before after plain below h at own m keeps put =
    unless_by c.ended age more sizes js w next clients s k c (turn c) m.0 line before after plain below h at refl (own c) m.1.1
    (subst (λ (y : Option JobMove). KeepsSent y k (record w { clients = clients }) next) m.1.0 keeps)
    (subst (λ (y : Option JobMove). PutsMove line (move_told y (length next.packets)) before after) m.1.0 put)

pub quiet_does : (k : ℕ) (w next : WorldState) (clients : ClientsState) (made : Option JobMove) (before after : List ℕ) → MovesClient k client_waited made w.clients clients → KeepsSent made k (record w { clients = clients }) next → next.cuts ≡ w.cuts → next.boots ≡ w.boots
    → PutsMove (lines.quiet k) (move_told made (length next.packets)) before after → DoesEvent (quiet k) w next before after
quiet_does k w next clients made before after m keeps same_cuts same_boots put age sizes js s h room =
    stepped_still (age + 7) sizes js s (quiet k) w next before after same_cuts same_boots
    (moves_by (nth s.clients k) age (age + 7) sizes js w next clients s k client_waited made (lines.quiet k) before after (λ did. (refl, refl)) (omega arith) h refl (λ c goes. waits_own c goes) (m js s.clients h.clients) keeps put)

-- A reply comes to its client.

hears_so : (bytes : List ℕ) (m : Message) → packet bytes ≡ Some m → (k : ℕ) (o : Option Client) (line : Did → Line) (s : State) → moves_client line s k o (λ c. client_hears_bytes c bytes) ≡ moves_client line s k o (λ c. client_hears c m)
hears_so bytes m e k None line s = refl
hears_so bytes m e k (Some c) line s = ap (unless_ended line s k c.ended) (hears_packet c bytes m e)

pub down_does : (which : SaidWhich) (place : ℕ) (w next : WorldState) (clients : ClientsState) (made : Option JobMove) (mail : Mail) (before after : List ℕ) → suc place ≡ named which (length w.replies) → place < length w.replies
    → mail ≡ slice_index_or w.replies place mail → MovesClient mail.client (λ c. client_hears_bytes c mail.packet) made w.clients clients → KeepsSent made mail.client (record w { clients = clients }) next → next.cuts ≡ w.cuts → next.boots ≡ w.boots
    → PutsMove (lines.down (named which (length w.replies))) (move_told made (length next.packets)) before after → DoesEvent (down (which_of which)) w next before after
down_does which place w next clients made mail before after number few is m keeps same_cuts same_boots put age sizes js s h room =
    let n = named which (length w.replies) in
    let at = pair_at MailStands w.replies s.replies h.replies place few mail in
    let r = at.0 in
    let stands : MailStands mail r = subst (λ (x : Mail). MailStands x r) (sym is) at.1.1 in
    let e : number_of s.replies (which_of which) ≡ n = named_so which s.replies (length w.replies) (pairs_length MailStands w.replies s.replies h.replies) in
    let there : nth s.replies n ≡ Some r = ap (nth s.replies) (sym number) ∙ at.1.0 in
    let out = moves_by (nth s.clients mail.client) age (age + 7) sizes js w next clients s mail.client (λ c. client_hears_bytes c mail.packet) made (lines.down n) before after (λ did. (refl, refl)) (omega arith) h refl
    (λ c goes. hears_own c mail.packet goes) (m js s.clients h.clients) keeps put in
    stepped_still (age + 7) sizes js s (down (which_of which)) w next before after same_cuts same_boots (record {
      moment = out.moment;
      happens = out.happens ∙ hears_so mail.packet r.message stands.is_packet mail.client (nth s.clients mail.client) (lines.down n) s
          ∙ ap (λ (k : ℕ). moves_client (lines.down n) s k (nth s.clients k) (λ c. client_hears c r.message)) stands.client
          ∙ sym (ap (λ (k : ℕ). comes_down s k (nth s.replies k)) e ∙ ap (comes_down s n) there);
      stands = out.stands;
      spelled = out.spelled;
      cuts_are = out.cuts_are;
      boots_are = out.boots_are;
    })

pub down_missing_does : (which : SaidWhich) (w : WorldState) (before after : List ℕ) → (named which (length w.replies) ≡ 0) ⊎ (length w.replies < named which (length w.replies))
    → PutsMove (lines.down (named which (length w.replies))) (move_told None 0) before after → DoesEvent (down (which_of which)) w w before after
down_missing_does which w before after past put age sizes js s h room =
    let n = named which (length w.replies) in
    let e : number_of s.replies (which_of which) ≡ n = named_so which s.replies (length w.replies) (pairs_length MailStands w.replies s.replies h.replies) in
    stepped_still (age + 7) sizes js s (down (which_of which)) w w before after refl refl (record {
      moment = still (lines.down n lines.none) s;
      happens = sym (ap (λ (k : ℕ). comes_down s k (nth s.replies k)) e ∙ ap (comes_down s n) (none_at MailStands n w.replies s.replies h.replies past));
      stands = world_later age (age + 7) sizes js w s (omega arith) h;
      spelled = one_line (lines.down n lines.none) before after put;
      cuts_are = refl;
      boots_are = refl;
    })

-- A client begins.

pub begin_does : (w next : WorldState) (clients : ClientsState) (d : JobState) (before after : List ℕ) → 1 ≤ length w.clients.waiting → clients.waiting ≡ drop 1 w.clients.waiting
    → clients.begun ≡ w.clients.begun ++ (record { job = slice_index_or w.clients.waiting 0 d; is_done = false } ∷ [])
    → KeepsPacket (length clients.begun) (record w { clients = clients }) next → next.cuts ≡ w.cuts → next.boots ≡ w.boots → PutsLine (lines.client_sends (length clients.begun) (length next.packets)) before after → DoesBegin w next before after
begin_does w next clients d before after some waiting grows keeps same_cuts same_boots put age sizes js s job is h room =
    let b = client_begins_so js w.clients clients s.clients h.clients some d waiting grows in
    let same : b.0 ≡ job = some_same b.0 job (sym b.1.0 ∙ is) in
    let stand : ClientsStand js clients (s.clients ++ begun job ∷ []) = subst (λ (x : Job). ClientsStand js clients (s.clients ++ begun x ∷ [])) same b.1.1 in
    let now = s.clients ++ begun job ∷ [] in
    let g = with_clients age (age + 7) sizes js w clients s now (omega arith) h stand in
    let many : length clients.begun ≡ length s.clients + 1 = sym (pairs_length SeatStands clients.begun now stand.seats) ∙ length_push s.clients (begun job) in
    let keep : KeepsPacket (length s.clients + 1) (record w { clients = clients }) next = subst (λ (k : ℕ). KeepsPacket k (record w { clients = clients }) next) many keeps in
    let own = seat_sends js clients now (length s.clients + 1) (begun job) keep.0 stand (last_there s.clients (begun job)) refl keep.1.0 in
    let long : length next.packets ≡ length w.packets + 1 = ap (λ (x : WorldState). length x.packets) keep.1.1 ∙ length_push w.packets (record { client = length s.clients + 1; packet = keep.0 }) in
    let few = pairs_length PacketStands w.packets s.packets h.packets in
    let count : length next.packets ≡ length s.packets + 1 = omega (arith, long, few) in
    let line = lines.client_sends (length s.clients + 1) (length s.packets + 1) in
    stepped_still (age + 7) sizes js s (begins job) w next before after same_cuts same_boots (record {
      moment = client_begins s job;
      happens = refl;
      stands = subst (λ (x : WorldState). WorldStands (age + 7) sizes js x (client_begins s job).state) (sym keep.1.1) (record {
        machine = g.machine;
        sizes_are = g.sizes_are;
        up = g.up;
        armed = g.armed;
        clients = g.clients;
        packets = pairs_push PacketStands w.packets s.packets h.packets (record { client = length s.clients + 1; packet = keep.0 }) (record { client = length s.clients + 1; message = (begun job).request.packet }) own;
        replies = g.replies;
      });
      spelled = one_line line before after (subst (λ (n : ℕ). PutsLine (lines.client_sends (length s.clients + 1) n) before after) count (subst (λ (k : ℕ). PutsLine (lines.client_sends k (length next.packets)) before after) many put));
      cuts_are = refl;
      boots_are = refl;
    })
  where
    last_there : {X : Type 0} (xs : List X) (x : X) → nth (xs ++ x ∷ []) (length xs + 1) ≡ Some x
    last_there xs x = subst (λ (n : ℕ). nth (xs ++ x ∷ []) n ≡ Some x) (more (length xs)) (by_list xs x)
      where
        more : (n : ℕ) → suc n ≡ n + 1
        more n = omega arith

        by_list : {X : Type 0} (xs : List X) (x : X) → slice_get (xs ++ x ∷ []) (length xs) ≡ Some x
        by_list [] x = refl
        by_list (y ∷ xs) x = by_list xs x

pub first_job : (states : List JobState) → 1 ≤ length states → JobState
first_job [] some = absurd (none some) where
  none : 1 ≤ 0 → ⊥
  none l = omega (arith, l)
first_job (s ∷ states) some = s

-- The machine stays as it is where a reply is kept.
pub kept_machine : (fate : Fate) (client : ℕ) (old new : WorldState) → KeepsReply fate client old new → new.machine ≡ old.machine
kept_machine fates.Replied client old new k = ap (λ (x : WorldState). x.machine) k
kept_machine fates.Reset client old new k = ap (λ (x : WorldState). x.machine) k
kept_machine fates.Dropped client old new k = ap (λ (x : WorldState). x.machine) k
kept_machine fates.Down client old new k = ap (λ (x : WorldState). x.machine) k
kept_machine fates.Cut client old new k = ap (λ (x : WorldState). x.machine) k

-- The line of a client that begins.

job_said : (o : Option Job) (e : Event) → option_map begins o ≡ Some e → (job : Job) × ((o ≡ Some job) × (begins job ≡ e))
job_said None e h = cc h
job_said (Some job) e h = (job, (refl, some_same (begins job) e h))

pub said_begins : (number : ℕ) (words : JobWords) (old new : WorldState) (before after : List ℕ) → number ≡ length old.clients.begun + 1 → DoesBegin old new before after → DoesSaid (said.Client number words) old new before after
said_begins number words old new before after own does age sizes js s e is h room =
    let few = pairs_length SeatStands old.clients.begun s.clients h.clients.seats in
    let next : number ≡ suc (length s.clients) = omega (arith, own, few) in
    let job = job_said (slice_get js (length s.clients)) e (subst (λ (k : ℕ). option_map begins (nth js k) ≡ Some e) next is) in
    subst (λ (x : Event). Stepped (age + 7) sizes js s x old new before after) job.1.1 (does age sizes js s job.0 job.1.0 h room)

-- A step.

pub step_does : (event : ScheduleEvent) (old new : WorldState) (before after : List ℕ) → new.steps ≡ old.steps + 1 → old.steps < 500000000 → DoesSaid event (record old { steps = old.steps + 1 }) new before after → Steps event old new before after
step_does event old new before after same few does sizes js s e is h =
    let r = does (age_of old.steps) sizes js s e is (counted (age_of old.steps) sizes js old s (old.steps + 1) old.cuts old.boots h) (omega (arith, few)) in
    record {
      moment = r.moment;
      happens = r.happens;
      stands = world_later (age_of old.steps + 7) (age_of new.steps) sizes js new r.moment.state (omega (arith, same)) r.stands;
      spelled = r.spelled;
      cuts = r.cuts;
      boots = r.boots;
    }

-- The last line.

pub ends_so : (w : WorldState) (before after : List ℕ) → after ≡ before ++ last_text (length w.packets) (length w.replies) (count_by (λ seat. seat.is_done) w.clients.begun) → EndsWorld w before after
ends_so w before after e age sizes js s h = e
    ∙ ap (λ (n : ℕ). before ++ last_text n (length w.replies) (count_by (λ seat. seat.is_done) w.clients.begun)) (sym (pairs_length PacketStands w.packets s.packets h.packets))
    ∙ ap (λ (n : ℕ). before ++ last_text (length s.packets) n (count_by (λ seat. seat.is_done) w.clients.begun)) (sym (pairs_length MailStands w.replies s.replies h.replies))
    ∙ ap (λ (n : ℕ). before ++ last_text (length s.packets) (length s.replies) n) (seats_done w.clients.begun s.clients h.clients.seats)
