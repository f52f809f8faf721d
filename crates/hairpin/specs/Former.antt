-- The legs as they were with one external address, and a mapping open to every remote endpoint. They stand here to say
-- that one address and filtering by endpoint give them still (`AsBefore`), so that what a gateway has stored before means
-- the same. No code cites them.
use Rattle.std.specs.Prelude.{ℕ, List, Option, Some, None, Result, Ok, Err, if◌then◌else◌, find}
use Rattle.packet.specs.Config.{Config, is_inside}
use Rattle.packet.specs.Same.{same_endpoint}
use Rattle.packet.specs.declared.endpoint.Endpoint.{Endpoint}
use Rattle.packet.specs.declared.endpoint.Iface.TheVariants.{Lan, Wan}
use Rattle.packet.specs.declared.view.View.{View}
use Rattle.ruletree.specs.declared.tree.Spelled.{Spelled}
use Rattle.sessions.specs.Listing.{has_inside, has_outside, put}
use Rattle.sessions.specs.declared.session.Opener.TheVariants.{Inside, Remote}
use Rattle.sessions.specs.declared.session.Session.{Session}
use Rattle.verdict.specs.Hooks.{prerouting_verdict, postrouting_verdict}
use Rattle.verdict.specs.declared.facts.State.TheVariants.{New}
use Rattle.verdict.specs.declared.hook.Destination.{Destination}
use Rattle.verdict.specs.declared.hook.Destination.TheVariants as destination
use Rattle.verdict.specs.declared.hook.Source.{Source}
use Rattle.verdict.specs.declared.hook.Source.TheVariants as source
use Rattle.hairpin.specs.Legs.{Passage, begun_in, begun_second, chosen, connection_of, counted, facts_of, first_state, forwarded, inward, maps_inside, maps_outside, needs_session, new_session, outward, passed_by, then_with, through}
use Rattle.hairpin.specs.declared.cause.Cause.{Cause}
use Rattle.hairpin.specs.declared.cause.Cause.TheVariants.{NoMapping, NoSession, Rule, SelfMapped}

abbrev pub or_no_mapping : Option Session → Result Endpoint Cause
or_no_mapping None = Err NoMapping
or_no_mapping (Some m) = Ok m.inside

module _ (only : ℕ) (config : Config) (rules : Spelled) (sessions : List Session) (now : ℕ) (view : View) where
  -- ---- out: what masquerades is at the one address
  abbrev pub outside_by_rules : Source → Result Endpoint Cause
  outside_by_rules source.None = Ok view.src
  outside_by_rules (source.From addr) = chosen config rules sessions now view addr view.src
  outside_by_rules source.Masquerade = chosen config rules sessions now view only view.src
  outside_by_rules source.Drop = Err Rule

  abbrev pub outside_for : Option Session → Result Endpoint Cause
  outside_for (Some m) = Ok m.outside
  outside_for None =
      outside_by_rules (postrouting_verdict config
      (facts_of config rules sessions now view Lan (Some Wan) view.src view.dst New) rules)

  abbrev pub begun_out : Result Passage Cause
  begun_out = then_with (outside_for (find (maps_inside view.proto view.src) sessions))
      (λ outside. counted config rules sessions now view
      (outward (new_session config rules sessions now view Inside view.src outside view.dst)))

  abbrev pub out_by : Option Session → Result Passage Cause
  out_by (Some s) = forwarded config rules sessions now view Lan Wan view.src view.dst
      (connection_of s Inside view.flags) (Ok (outward (passed_by s Inside view.flags now)))
  out_by None =
      if needs_session view then Err NoSession
      else forwarded config rules sessions now view Lan Wan view.src view.dst New begun_out

  abbrev pub out_leg : Result Passage Cause
  out_leg = out_by (find (has_inside view.proto view.src view.dst) sessions)

  -- ---- in: a mapping lets everyone in
  abbrev pub inside_by_rules : Option Session → Destination → Result Endpoint Cause
  inside_by_rules found destination.None = or_no_mapping found
  inside_by_rules found (destination.To inside) = Ok inside
  inside_by_rules found destination.Drop = Err Rule

  abbrev pub inside_for : Result Endpoint Cause
  inside_for = if is_inside config view.dst.addr then Ok view.dst
      else inside_by_rules (find (maps_outside view.proto view.dst) sessions)
      (prerouting_verdict config
      (facts_of config rules sessions now view Wan None view.src view.dst New) rules)

  abbrev pub in_by : Option Session → Result Passage Cause
  in_by (Some s) = forwarded config rules sessions now view Wan Lan view.src s.inside
      (connection_of s Remote view.flags) (Ok (inward (passed_by s Remote view.flags now)))
  in_by None = if needs_session view then Err NoSession
      else then_with inside_for (begun_in config rules sessions now view)

  abbrev pub in_leg : Result Passage Cause
  in_leg = in_by (find (has_outside view.proto view.dst view.src) sessions)

  -- ---- hairpin: the port is chosen at the destination's address
  abbrev pub outside_near : Option Session → Result Endpoint Cause
  outside_near (Some m) = Ok m.outside
  outside_near None = chosen config rules sessions now view view.dst.addr view.src

  abbrev pub first_by : Option Session → Result Session Cause
  first_by (Some s) = Ok (passed_by s Inside view.flags now)
  first_by None = if needs_session view then Err NoSession
      else then_with (outside_near (find (maps_inside view.proto view.src) sessions))
      (λ outside. Ok (new_session config rules sessions now view Inside view.src outside view.dst))

  module _ (first : Session) (with_first : List Session) where
    abbrev pub inside_far : Result Endpoint Cause
    inside_far = inside_by_rules (find (maps_outside view.proto view.dst) with_first)
        (prerouting_verdict config
        (facts_of config rules sessions now view Lan None view.src view.dst New) rules)

    abbrev pub second_by : Option Session → Result Session Cause
    second_by (Some s) = Ok (passed_by s Remote view.flags now)
    second_by None = if needs_session view then Err NoSession
        else then_with inside_far (begun_second config rules sessions now view first with_first)

    abbrev pub second : Result Session Cause
    second = if same_endpoint first.outside view.dst then Err SelfMapped
        else second_by (find (has_outside view.proto view.dst first.outside) with_first)

  abbrev pub hairpin_by : Option Session → Result Passage Cause
  hairpin_by found =
      then_with (first_by found) (λ first. then_with (second first (put first sessions))
      (λ t. forwarded config rules sessions now view Lan Lan view.src t.inside
      (first_state config rules sessions now view found)
      (counted config rules sessions now view (through first t))))

  abbrev pub hairpin_leg : Result Passage Cause
  hairpin_leg = hairpin_by (find (has_inside view.proto view.src view.dst) sessions)
