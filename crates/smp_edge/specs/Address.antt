-- Addresses of the internet protocols: as numbers, and as they are spelled.
use Rattle.std.specs.Prelude.{◌≡◌, ℕ, ◌+◌, ◌*◌, ◌/◌, ◌%◌, ◌^◌, ◌⊎◌, List, ◌++◌, codes}
use Rattle.std.specs.Net.Addr.{ipv4_bits, ipv6_bits, IsIpv4OfBits, IsIpv6OfBits}
use Rattle.std.specs.Net.Socket.{socket_ip, socket_port, v4_ip, v4_port, v6_ip, v6_port, v6_flowinfo, v6_scope_id, IsPlainSocket}
use Rattle.std.specs.Net.Grammar.{IsIpText, IsIpv6Text, IsSocketText}
use Rattle.std.specs.declared.net.ipv6_addr.Ipv6Addr.{Ipv6Addr}
use Rattle.std.specs.declared.net.ip_addr.IpAddr.{IpAddr}
use Rattle.std.specs.declared.net.ip_addr.IpAddr.TheVariants as Ip
use Rattle.std.specs.declared.net.socket_addr.SocketAddr.{SocketAddr}
use Rattle.std.specs.declared.net.socket_addr.SocketAddr.TheVariants.{V4, V6}
use Rattle.smp_edge.specs.declared.link.Peer.{Peer}

-- The port of a name that gives none.
abbrev pub default_port : ℕ
default_port = 1337

-- An IPv6 address as a number, and an IPv4 address as that of the IPv6 address ::ffff:a.b.c.d.
abbrev pub number_of : IpAddr → ℕ
number_of (Ip.V4 ip) = 0xffff * 2 ^ 32 + ipv4_bits ip
number_of (Ip.V6 ip) = ipv6_bits ip

-- An address and port as a peer.
abbrev pub peer_at : SocketAddr → Peer
peer_at a = record { address = number_of (socket_ip a); port = socket_port a }

-- The peer stands for an IPv4 address.
abbrev pub IsMapped : Peer → Type 0
IsMapped peer = peer.address / 2 ^ 32 ≡ 0xffff

-- This is the peer's address and port, with no scope and no flow information.
abbrev pub IsAddressOf : Peer → SocketAddr → Type 0
IsAddressOf peer (V4 a) =
    IsMapped peer × IsIpv4OfBits (v4_ip a) (peer.address % 2 ^ 32) × (v4_port a ≡ peer.port)
IsAddressOf peer (V6 a) =
    IsIpv6OfBits (v6_ip a) peer.address × (v6_port a ≡ peer.port) × (v6_flowinfo a ≡ 0) × (v6_scope_id a ≡ 0)

-- The text spells an address of IPv6 in brackets.
pub record IsBracketed (text : List ℕ) (ip : Ipv6Addr) : Type 0 where
  pub inside : List ℕ
  pub spelled : text ≡ codes "[" ++ inside ++ codes "]"
  pub ip_text : IsIpv6Text inside ip

-- The text spells an address with no port: of IPv4, or of IPv6 with or without brackets.
abbrev pub IsIpName : List ℕ → IpAddr → Type 0
IsIpName text ip = IsIpText text ip ⊎ ((a : Ipv6Addr) × IsBracketed text a × (ip ≡ Ip.V6 a))

-- The text spells an address, and its port where it isn't the default.
abbrev pub IsAddressName : List ℕ → SocketAddr → Type 0
IsAddressName text a = IsSocketText text a ⊎ (IsIpName text (socket_ip a) × IsPlainSocket a default_port)
