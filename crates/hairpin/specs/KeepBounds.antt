-- What rules keep that have loaded.
use Rattle.std.specs.Prelude.{◌≡◌, ℕ, ◌<◌, IsTrue}
use Rattle.std.specs.List.{Contains}
use Rattle.packet.specs.Config.{Config, is_inside}
use Rattle.packet.specs.declared.endpoint.Endpoint.{Endpoint}
use Rattle.ruletree.specs.declared.tree.Spelled.{Spelled}
use Rattle.verdict.specs.Hooks.{prerouting_verdict, postrouting_verdict}
use Rattle.verdict.specs.declared.facts.Facts.{Facts}
use Rattle.verdict.specs.declared.hook.Destination.TheVariants.{To}
use Rattle.verdict.specs.declared.hook.Source.TheVariants.{From}

-- the rules send packets to inside endpoints alone, and let them come from external addresses alone
pub record KeepBounds (config : Config) (rules : Spelled) : Type 0 where
  pub to : (facts : Facts) (inside : Endpoint) → prerouting_verdict config facts rules ≡ To inside
      → IsTrue (is_inside config inside.addr)
  pub port : (facts : Facts) (inside : Endpoint) → prerouting_verdict config facts rules ≡ To inside
      → 0 < facts.dst.port → 0 < inside.port
  pub from : (facts : Facts) (addr : ℕ) → postrouting_verdict config facts rules ≡ From addr
      → Contains config.external addr
