-- That hairpins come in (RFC 4787, REQ-9; RFC 5382, REQ-8). From where such a packet leaves is in `Requirements`,
-- "hairpins".
use Rattle.std.specs.Prelude.{◌≡◌, ◌≢◌, ℕ, ◌+◌, ◌<◌, ◌^◌, List, length, IsTrue, IsFalse}
use Rattle.packet.specs.Config.{Config, is_config}
use Rattle.packet.specs.Translated.{translated}
use Rattle.packet.specs.declared.endpoint.Endpoint.{Endpoint}
use Rattle.packet.specs.declared.endpoint.Iface.TheVariants.{Lan}
use Rattle.packet.specs.declared.route.Route.TheVariants.{Hairpin}
use Rattle.packet.specs.declared.view.View.{View}
use Rattle.sessions.specs.Laws.{IsMapping}
use Rattle.sessions.specs.Listing.{In}
use Rattle.sessions.specs.Table.{HasInside, HasOutside, most_sessions}
use Rattle.sessions.specs.declared.session.Opener.TheVariants.{Inside}
use Rattle.sessions.specs.declared.session.Session.{Session}
use Rattle.verdict.specs.declared.facts.State.TheVariants.{New}
use Rattle.verdict.specs.declared.hook.Destination.TheVariants as destination
use Rattle.hairpin.specs.Legs.{connection_of, needs_session}
use Rattle.machine.specs.Judged.{Judged}
use Rattle.machine.specs.Laws.{Came, LetsPass, living}
use Rattle.machine.specs.Machine.{State, step}
use Rattle.machine.specs.Order.{IsSource}
use Rattle.machine.specs.Requirements.{DecideDestination, LetsIn, NoneInside}
use Rattle.machine.specs.Sound.{IsSoundState}
use Rattle.machine.specs.declared.event.Answer.TheVariants.{Forward}

-- a packet from lan to the outside endpoint of a living mapping, which no living session takes out; before each
-- premise, the cause of the drop if it fails
pub record HairpinsToMapping (config : Config) (s : State) (judged : Judged) (bytes : List ℕ)
    (view : View) (source inside : Endpoint) : Type 0 where
  -- it is read, and has a route: else the causes 1 to 12
  pub came : Came config judged Lan bytes view Hairpin
  pub port : view.src.port < 2 ^ 16
  pub new : NoneInside (living s judged).sessions view.proto view.src view.dst
  -- it is UDP, or a SYN alone: else NoSession
  pub begins : IsFalse (needs_session view)
  -- its sender's outside endpoint is that of its mapping, or the nearest free one: else NoPort
  pub from : IsSource config (living s judged) view source
  -- it isn't sent to that one: else SelfMapped
  pub away : source ≢ view.dst
  -- no prerouting chain takes it elsewhere, or drops it: else Rule
  pub alone : DecideDestination config s view Lan destination.None
  -- else NoMapping
  pub mapping : IsMapping (living s judged).sessions view.proto inside view.dst
  -- else Filtered
  pub let_in : LetsIn config.filtering (living s judged).sessions view.proto inside view.dst source.addr
  -- the sender's outside endpoint has no session with the inside endpoint by another way: else Clash
  pub apart : NoneInside (living s judged).sessions view.proto inside source
  -- the forward chains let it pass: else Rule
  pub passes : LetsPass config s view Lan Lan view.src inside New
  -- two sessions more aren't too many: else TableFull
  pub room : length (living s judged).sessions + 1 < most_sessions

-- a packet from lan that the first session takes out to the second one's outside endpoint, and the second in from the
-- first one's
pub record GoesByBoth (config : Config) (s : State) (judged : Judged) (bytes : List ℕ)
    (view : View) (first far : Session) : Type 0 where
  pub came : Came config judged Lan bytes view Hairpin
  pub first_held : In first (living s judged).sessions
  pub goes_out : HasInside view.proto view.src view.dst first
  pub far_held : In far (living s judged).sessions
  pub comes_in : HasOutside view.proto view.dst first.outside far
  -- else SelfMapped
  pub away : first.outside ≢ view.dst
  -- the forward chains let it pass: else Rule
  pub passes : LetsPass config s view Lan Lan view.src far.inside
      (connection_of first Inside view.flags)

-- It comes to the inside endpoint, from its sender's outside one.
pub record HairpinsComeIn : Type 0 where
  pub begins : (config : Config) (s : State) (judged : Judged) (bytes : List ℕ) (view : View)
      (source inside : Endpoint) → IsTrue (is_config config) → IsSoundState config s
      → HairpinsToMapping config s judged bytes view source inside
      → (step config s judged).1 ≡ Forward Lan (translated bytes source inside)
  pub goes_on : (config : Config) (s : State) (judged : Judged) (bytes : List ℕ) (view : View)
      (first far : Session) → IsSoundState config s
      → GoesByBoth config s judged bytes view first far
      → (step config s judged).1 ≡ Forward Lan (translated bytes first.outside far.inside)
