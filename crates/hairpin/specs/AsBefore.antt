-- One external address and filtering by endpoint give the former legs.
use Rattle.std.specs.Prelude.{◌≡◌, ℕ, List, [], ◌∷◌}
use Rattle.packet.specs.Config.{Config}
use Rattle.packet.specs.declared.bounds.Filtering.TheVariants as filtering
use Rattle.packet.specs.declared.view.View.{View}
use Rattle.ruletree.specs.declared.tree.Spelled.{Spelled}
use Rattle.sessions.specs.declared.session.Session.{Session}
use Rattle.hairpin.specs.Legs.{hairpin_leg, in_leg, out_leg}
use Rattle.hairpin.specs.Former.{hairpin_leg as former_hairpin, in_leg as former_in, out_leg as former_out}

-- of any rules, sessions, moment and packet; a packet hairpins only to an external address
pub record OneAddressIsAsBefore : Type 0 where
  pub out : (only : ℕ) (config : Config) (rules : Spelled) (sessions : List Session) (now : ℕ) (view : View)
      → config.external ≡ only ∷ []
      → out_leg config rules sessions now view ≡ former_out only config rules sessions now view
  pub inward : (only : ℕ) (config : Config) (rules : Spelled) (sessions : List Session) (now : ℕ) (view : View)
      → config.filtering ≡ filtering.Endpoint
      → in_leg config rules sessions now view ≡ former_in only config rules sessions now view
  pub hairpin : (only : ℕ) (config : Config) (rules : Spelled) (sessions : List Session) (now : ℕ) (view : View)
      → config.external ≡ only ∷ [] → config.filtering ≡ filtering.Endpoint → view.dst.addr ≡ only
      → hairpin_leg config rules sessions now view
      ≡ former_hairpin only config rules sessions now view
