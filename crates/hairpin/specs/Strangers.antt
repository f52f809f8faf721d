-- Filtering by address keeps strangers out (RFC 4787, REQ-8).
use Rattle.std.specs.Prelude.{◌≡◌, ℕ, false, List, None, Some, Err, find}
use Rattle.packet.specs.Config.{Config, is_inside}
use Rattle.packet.specs.declared.bounds.Filtering.TheVariants as filtering
use Rattle.packet.specs.declared.endpoint.Iface.TheVariants.{Wan}
use Rattle.packet.specs.declared.view.View.{View}
use Rattle.ruletree.specs.declared.tree.Spelled.{Spelled}
use Rattle.sessions.specs.Listing.{has_outside, has_peer}
use Rattle.sessions.specs.declared.session.Session.{Session}
use Rattle.verdict.specs.Hooks.{prerouting_verdict}
use Rattle.verdict.specs.declared.facts.State.TheVariants.{New}
use Rattle.verdict.specs.declared.hook.Destination.TheVariants as destination
use Rattle.hairpin.specs.Legs.{facts_of, in_leg, maps_outside, needs_session}
use Rattle.hairpin.specs.declared.cause.Cause.TheVariants.{Filtered}

-- filtering by address drops a packet to a mapping whose sessions know no endpoint at the packet's source address, where
-- no session and no rule takes it on
abbrev pub StrangersAreFiltered : Type 0
StrangersAreFiltered = (config : Config) (rules : Spelled) (sessions : List Session) (now : ℕ) (view : View) (m : Session)
    → config.filtering ≡ filtering.Address
    → find (has_outside view.proto view.dst view.src) sessions ≡ None → needs_session view ≡ false
    → is_inside config view.dst.addr ≡ false
    → prerouting_verdict config
    (facts_of config rules sessions now view Wan None view.src view.dst New) rules ≡ destination.None
    → find (maps_outside view.proto view.dst) sessions ≡ Some m
    → find (has_peer m.proto m.inside m.outside view.src.addr) sessions ≡ None
    → in_leg config rules sessions now view ≡ Err Filtered
