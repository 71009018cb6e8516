-- Texts that spell no address.
use Rattle.std.proofs.Common.{◌≡◌, ℕ, List, [], ◌∷◌, ◌++◌, inl, inr, sym, ap, ◌∙◌, subst, drop, codes}
use Rattle.std.proofs.lemmas.List.{append_cancel_right}
use Rattle.std.specs.Net.Grammar.{IsIpText, IsIpv6Text, IsSocketText}
use Rattle.std.specs.Net.Socket.{socket_ip}
use Rattle.std.specs.declared.net.ipv6_addr.Ipv6Addr.{Ipv6Addr}
use Rattle.std.specs.declared.net.ip_addr.IpAddr.{IpAddr}
use Rattle.std.specs.declared.net.socket_addr.SocketAddr.{SocketAddr}
use Rattle.smp_edge.specs.Address.{IsBracketed, IsIpName, IsAddressName}

-- no address stands between the brackets
pub other_inside : (text inside : List ℕ) (ip : Ipv6Addr) → text ≡ codes "[" ++ inside ++ codes "]"
    → ((a : Ipv6Addr) → IsIpv6Text inside a → ⊥) → IsBracketed text ip → ⊥
other_inside text inside ip e none b =
    let same : b.inside ≡ inside = append_cancel_right _ _ _ (ap (λ (xs : List ℕ). drop 1 xs) (sym b.spelled ∙ e)) in
    none ip (subst (λ (xs : List ℕ). IsIpv6Text xs ip) same b.ip_text)

-- neither by itself nor in brackets
pub no_ip_name : (text : List ℕ) (ip : IpAddr) → ((a : IpAddr) → IsIpText text a → ⊥)
    → ((a : Ipv6Addr) → IsBracketed text a → ⊥) → IsIpName text ip → ⊥
no_ip_name text ip plain brackets (inl h) = plain ip h
no_ip_name text ip plain brackets (inr h) = brackets h.0 h.1

-- neither with a port nor without
pub no_address_name : (text : List ℕ) (a : SocketAddr) → ((b : SocketAddr) → IsSocketText text b → ⊥)
    → ((ip : IpAddr) → IsIpName text ip → ⊥) → IsAddressName text a → ⊥
no_address_name text a sockets names (inl h) = sockets a h
no_address_name text a sockets names (inr h) = names (socket_ip a) h.0
