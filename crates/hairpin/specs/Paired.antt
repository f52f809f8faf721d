-- A host keeps one external address while it has a mapping (RFC 4787, REQ-2).
use Rattle.std.specs.Prelude.{◌≡◌, ◌≢◌, ℕ, Bool, List, Some}
use Rattle.std.specs.List.{Contains}
use Rattle.packet.specs.Config.{Pool}
use Rattle.packet.specs.declared.endpoint.Endpoint.{Endpoint}
use Rattle.portpick.specs.Pool.{near_choice, pool_choice}
use Rattle.sessions.specs.Listing.{In, put}
use Rattle.sessions.specs.declared.session.Session.{Session}
use Rattle.hairpin.specs.Legs.{uses_in}

-- the session is of a mapping of an inside endpoint of the host
abbrev pub Translates : ℕ → Session → Type 0
Translates host s = (s.inside ≢ s.outside) × (s.inside.addr ≡ host)

-- some mapping of the host is at this external address
abbrev pub IsAt : List Session → ℕ → ℕ → Type 0
IsAt sessions host addr =
    (s : Session) × In s sessions × Translates host s × (s.outside.addr ≡ addr)

-- all mappings of the host are at one external address, whatever their protocols
abbrev pub IsAtOne : List Session → ℕ → Type 0
IsAtOne sessions host =
    (addr other : ℕ) → IsAt sessions host addr → IsAt sessions host other → addr ≡ other

-- masquerade gives a host that is at an address of the pool one at which it is
abbrev pub MasqueradeStays : Type 0
MasqueradeStays =
    (pool : Pool) (sessions : List Session) (taken : ℕ → ℕ → Bool) (host port addr : ℕ) (e : Endpoint)
    → IsAt sessions host addr → Contains pool addr
    → pool_choice (uses_in sessions host) taken pool port ≡ Some e → IsAt sessions host e.addr

-- so does a hairpin, to whatever address it goes
abbrev pub HairpinStays : Type 0
HairpinStays =
    (pool : Pool) (sessions : List Session) (taken : ℕ → ℕ → Bool) (host far port addr : ℕ)
    (e : Endpoint) → IsAt sessions host addr → Contains pool addr
    → near_choice (uses_in sessions host) taken pool far port ≡ Some e → IsAt sessions host e.addr

-- a session that is put in leaves the host at one address, if it is there where it is the host's
abbrev pub PutStays : Type 0
PutStays =
    (host : ℕ) (t : Session) (sessions : List Session) → IsAtOne sessions host
    → (Translates host t → (addr : ℕ) → IsAt sessions host addr → addr ≡ t.outside.addr)
    → IsAtOne (put t sessions) host

pub record HostsKeepOneAddress : Type 0 where
  pub masquerade : MasqueradeStays
  pub hairpin : HairpinStays
  pub put_in : PutStays
