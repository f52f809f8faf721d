-- What gives a host an external address (RFC 4787, REQ-2).
use Rattle.std.specs.Prelude.{◌≡◌, ◌≢◌, ◌==◌, ℕ, Bool, true, false, List, [], ◌∷◌}
use Rattle.packet.specs.Config.{Config}
use Rattle.packet.specs.declared.endpoint.Endpoint.{Endpoint}
use Rattle.packet.specs.declared.endpoint.Proto.{Proto}
use Rattle.portpick.specs.Pool.{endpoint}
use Rattle.ruletree.specs.declared.tree.End.{End}
use Rattle.ruletree.specs.declared.tree.End.TheVariants as ends
use Rattle.ruletree.specs.declared.tree.Spelled.{Spelled}
use Rattle.sessions.specs.Listing.{In}
use Rattle.sessions.specs.declared.session.Session.{Session}
use Rattle.verdict.specs.Hooks.{prerouting_verdict, postrouting_verdict}
use Rattle.verdict.specs.declared.facts.Facts.{Facts}
use Rattle.verdict.specs.declared.hook.Destination.TheVariants.{To}
use Rattle.verdict.specs.declared.hook.Source.TheVariants.{From}
use Rattle.machine.specs.Judged.{Judged}
use Rattle.machine.specs.Machine.{State, step}

-- some session of the protocol has this outside endpoint
abbrev pub IsOccupied : List Session → Proto → ℕ → ℕ → Type 0
IsOccupied sessions proto addr port =
    (s : Session) × In s sessions × (s.proto ≡ proto) × (s.outside ≡ endpoint addr port)

-- the rules leave it to the pool at which address the host is: none of them takes its packets to an address of their
-- own, or packets to it
pub record LeaveToPool (config : Config) (rules : Spelled) (host : ℕ) : Type 0 where
  pub source : (facts : Facts) (addr : ℕ) → facts.src.addr ≡ host
      → postrouting_verdict config facts rules ≢ From addr
  pub destination : (facts : Facts) (inside : Endpoint) → inside.addr ≡ host
      → prerouting_verdict config facts rules ≢ To inside

-- and so do those that are in force before each of these events
abbrev pub IsLeftToPool : Config → ℕ → State → List Judged → Type 0
IsLeftToPool config host s [] = Unit {0}
IsLeftToPool config host s (judged ∷ more) = LeaveToPool config s.rules host
    × IsLeftToPool config host (step config s judged).0 more

-- source translation to an address that the rule names, or destination translation to the host
abbrev pub is_of_rule : ℕ → End → Bool
is_of_rule host (ends.Snat snat) = true
is_of_rule host (ends.Dnat dnat) = dnat.address == host
is_of_rule host _ = false
