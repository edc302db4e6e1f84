-- By which names a server is asked.
use Rattle.std.specs.Prelude.{◌≡◌, ◌⊎◌, ℕ, Bool, List, [], ◌∷◌, ◌++◌, codes, true}
use Rattle.std.specs.Char.{is_ascii_digit}
use Rattle.std.specs.List.{list_all, list_any}
use Rattle.std.specs.Net.Grammar.{IsIpv4Text, IsIpv6Text}
use Rattle.std.specs.declared.net.ipv4_addr.Ipv4Addr.{Ipv4Addr}
use Rattle.std.specs.declared.net.ipv6_addr.Ipv6Addr.{Ipv6Addr}
use denote.Ref.{Bor}
use Rattle.request_head.specs.Fields.{is_same}

-- IPv4address (RFC 3986, section 3.2.2)
abbrev pub IsIpv4 : List ℕ → Type 0
IsIpv4 name = (address : Ipv4Addr) × IsIpv4Text name address

-- "[" IPv6address "]"
abbrev pub IsIpv6 : List ℕ → Type 0
IsIpv6 name = (text : List ℕ) × (name ≡ codes "[" ++ text ++ codes "]") × ((address : Ipv6Addr) × IsIpv6Text text address)

-- one of these names
abbrev pub is_among : List (Bor (List ℕ)) → List ℕ → Bool
is_among names name = list_any (λ other. is_same other.now name) names

-- a name that leads here for nobody else: none, `localhost`, one of the server's, or an address
abbrev pub IsOwn : List (Bor (List ℕ)) → List ℕ → Type 0
IsOwn names name = (name ≡ []) ⊎ ((is_same name (codes "localhost") ≡ true) ⊎ ((is_among names name ≡ true) ⊎ (IsIpv4 name ⊎ IsIpv6 name)))

-- ":" port, which is digits (RFC 3986, section 3.2.3)
abbrev pub IsWithPort : List ℕ → List ℕ → Type 0
IsWithPort name host = (digits : List ℕ) × (host ≡ name ++ 58 ∷ digits) × (list_all is_ascii_digit digits ≡ true)

-- the value of a Host field that names the server, with a port or without (RFC 9112, section 3.2)
abbrev pub IsAllowed : List (Bor (List ℕ)) → List ℕ → Type 0
IsAllowed names host = IsOwn names host ⊎ ((name : List ℕ) × IsWithPort name host × IsOwn names name)
