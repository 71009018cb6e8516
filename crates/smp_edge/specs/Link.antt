-- What a link answers, where it tells its names and its script, and what a link in memory holds.
use Rattle.std.specs.Prelude.{◌≡◌, ◌≤◌, ℕ, List, [], ◌∷◌, ◌++◌, length, take, drop, min, Option, find, nat_eq, unwrap_or}
use Rattle.std.specs.Option.{option_map}
use Rattle.std.specs.Cmp.Lexicographic.{pointwise}
use Rattle.smp_edge.specs.Faults.{next_call, raised}
use Rattle.smp_edge.specs.declared.link.Peer.{Peer}
use Rattle.smp_edge.specs.declared.link.Role.{Role}
use Rattle.smp_edge.specs.declared.link.Role.TheVariants.{Serve, Reach}
use Rattle.smp_edge.specs.declared.link.Heard.{Heard}
use Rattle.smp_edge.specs.declared.scripts.Scripted.{Scripted}
use Rattle.smp_edge.specs.declared.scripts.Sent.{Sent}
use Rattle.smp_edge.specs.declared.scripts.Named.{Named}

-- The names of a link: its own address, and peers by name, the last one given first.
pub record Names : Type 0 where
  pub own : Peer
  pub named : List Named

-- The last peer given to the name, or the own address where there is none.
abbrev pub peer_of : Names → List ℕ → Peer
peer_of names name =
    unwrap_or (option_map (λ n. n.peer) (find (λ n. pointwise nat_eq n.name name) names.named)) names.own

-- What attaching answers.
abbrev pub attached_peer : Names → Role → List ℕ → Peer
attached_peer names Serve name = names.own
attached_peer names Reach name = peer_of names name

-- The next item of a script. After the last one it is quiet.
abbrev pub next_item : List Scripted → Scripted
next_item [] = Scripted.Quiet
next_item (item ∷ items) = item

-- A packet that was heard fits the buffer.
abbrev pub FitsIn : ℕ → Heard → Type 0
FitsIn room Heard.Quiet = Unit {0}
FitsIn room (Heard.Packet from n) = n ≤ room

-- What is heard of an item into a buffer, which then holds this.
abbrev pub Hears : Scripted → List ℕ → Heard → Type 0
Hears Scripted.Quiet into Heard.Quiet = Unit {0}
Hears Scripted.Quiet into (Heard.Packet from n) = ⊥
Hears (Scripted.Packet from held) into Heard.Quiet = ⊥
Hears (Scripted.Packet from held) into (Heard.Packet peer n) =
    (peer ≡ from) × (n ≡ min (length held) (length into)) × (take n into ≡ take n held)

-- A script without its next item, where it is told.
abbrev pub without_next : Option (List Scripted) → Option (List Scripted)
without_next script = option_map (drop 1) script

-- What was sent with one packet more, where it is told.
abbrev pub with_sent : Option (List Sent) → Peer → List ℕ → Option (List Sent)
with_sent sent to packet = option_map (λ packets. packets ++ record { to = to; held = packet } ∷ []) sent

-- A link in memory that fails at chosen calls.
pub record KeptLink : Type 0 where
  pub names : Names
  pub script : List Scripted
  pub sent : List Sent
  pub fails : List ℕ
  pub calls : ℕ
  pub faults : ℕ

-- One that was just made.
abbrev pub new_link : Peer → List ℕ → KeptLink
new_link own fails =
    record { names = record { own = own; named = [] }; script = []; sent = []; fails = fails; calls = 0; faults = 0 }

-- The same with a name more, and with an item more.
abbrev pub with_name : KeptLink → List ℕ → Peer → KeptLink
with_name link name peer =
    record link { names = record { own = link.names.own; named = record { name = name; peer = peer } ∷ link.names.named } }

abbrev pub with_item : KeptLink → Scripted → KeptLink
with_item link item = record link { script = link.script ++ item ∷ [] }

-- The same with one packet more that was sent.
abbrev pub with_packet : KeptLink → Peer → List ℕ → KeptLink
with_packet link to packet = record link { sent = link.sent ++ record { to = to; held = packet } ∷ [] }

-- The same after a call that went through, and after one that failed.
abbrev pub after_call : KeptLink → KeptLink
after_call link = record link { calls = next_call link.calls }

abbrev pub after_failed_call : KeptLink → KeptLink
after_failed_call link = record link { calls = next_call link.calls; faults = raised link.faults }

-- The same after a hearing.
abbrev pub after_hearing : KeptLink → KeptLink
after_hearing link = record link { calls = next_call link.calls; script = drop 1 link.script }
