-- What holds where a packet from an inside endpoint goes out or hairpins. No public clause cites this module.
use Rattle.std.specs.Prelude.{◌≡◌, ◌≢◌, ◌<◌, List, Option, None, IfSome, IfNone, IsTrue, true, find}
use Rattle.std.specs.List.{Contains}
use Rattle.packet.specs.Config.{Config, is_inside}
use Rattle.packet.specs.declared.endpoint.Endpoint.{Endpoint}
use Rattle.packet.specs.declared.endpoint.Proto.{Proto}
use Rattle.packet.specs.declared.view.View.{View}
use Rattle.ruletree.specs.declared.tree.Spelled.{Spelled}
use Rattle.sessions.specs.Laws.{IsMapping}
use Rattle.sessions.specs.Listing.{In, has_inside, listing, same_flow}
use Rattle.sessions.specs.declared.session.Session.{Session}
use Rattle.hairpin.specs.KeepBounds.{KeepBounds}
use Rattle.hairpin.specs.Tallies.{AreOf}
use Rattle.hairpin.specs.Translations.{Translations}

-- it is the outside endpoint of the inside endpoint's mapping, or there is no such mapping
pub record TellsMapping (sessions : List Session) (proto : Proto) (inside : Endpoint)
    (it : Option Endpoint) : Type 0 where
  pub mapped : IfSome it (IsMapping sessions proto inside)
  pub unmapped : IfNone it ((outside : Endpoint) → ¬ IsMapping sessions proto inside outside)

-- a packet goes out from an inside endpoint, not from port 0; the translations are those of the sessions, and the rules
-- keep the bounds
pub record GoesOut (config : Config) (rules : Spelled) (held : List (Option Session))
    (t : Translations) (view : View) : Type 0 where
  pub translations : AreOf config held t
  pub bounded : KeepBounds config rules
  pub inside : IsTrue (is_inside config view.src.addr)
  pub port : 0 < view.src.port

-- a packet goes out, no session is held for it, and this tells the mapping of its source
pub record GoesOutNew (config : Config) (rules : Spelled) (held : List (Option Session))
    (t : Translations) (mapped : Option Endpoint) (view : View) : Type 0 where
  pub goes_out : GoesOut config rules held t view
  pub mapping : TellsMapping (listing held) view.proto view.src mapped
  pub none : find (has_inside view.proto view.src view.dst) (listing held) ≡ None

-- a packet goes from an inside endpoint to an external address, neither from port 0 nor to it, and the translations
-- are those of the sessions
pub record Hairpins (config : Config) (held : List (Option Session)) (t : Translations)
    (view : View) : Type 0 where
  pub translations : AreOf config held t
  pub ports : (0 < view.src.port) × (0 < view.dst.port)
  pub inside : IsTrue (is_inside config view.src.addr)
  pub external_destination : Contains config.external view.dst.addr

-- a packet hairpins, and this tells the mapping of its source
pub record HairpinsNew (config : Config) (held : List (Option Session)) (t : Translations)
    (mapped : Option Endpoint) (view : View) : Type 0 where
  pub hairpins : Hairpins config held t view
  pub mapping : TellsMapping (listing held) view.proto view.src mapped

-- the packet goes out by this session first: the session's remote endpoint is the packet's destination, which isn't its
-- own outside endpoint; and that is the outside endpoint of the session of its flow that is held, if there is one
pub record GoesOutFirst (held : List (Option Session)) (view : View)
    (first : Session) : Type 0 where
  pub remote : first.remote ≡ view.dst
  pub away : first.outside ≢ view.dst
  pub keeps : (u : Session) → In u (listing held) → same_flow first u ≡ true
      → u.outside ≡ first.outside

-- the packet goes out by this session first, and the translations are those of the sessions
pub record IsBehindFirst (config : Config) (held : List (Option Session)) (t : Translations)
    (view : View) (first : Session) : Type 0 where
  pub translations : AreOf config held t
  pub goes_out : GoesOutFirst held view first
