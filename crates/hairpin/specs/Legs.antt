-- The legs: how a packet passes and by which sessions, or the cause of its drop.
use Rattle.std.specs.Prelude.{ℕ, nat_lt, Bool, true, not, ◌&&◌, ◌||◌, ◌==◌, List, [], ◌∷◌, length, Option, Some, None, is_some, Result, Ok, Err, if◌then◌else◌, find}
use Rattle.packet.specs.Config.{Config, is_inside}
use Rattle.packet.specs.Same.{same_proto, same_endpoint}
use Rattle.packet.specs.declared.bounds.Filtering.{Filtering}
use Rattle.packet.specs.declared.bounds.Filtering.TheVariants as filtering
use Rattle.packet.specs.declared.endpoint.Endpoint.{Endpoint}
use Rattle.packet.specs.declared.endpoint.Flags.{Flags}
use Rattle.packet.specs.declared.endpoint.Iface.{Iface}
use Rattle.packet.specs.declared.endpoint.Iface.TheVariants.{Lan, Wan}
use Rattle.packet.specs.declared.endpoint.Proto.{Proto}
use Rattle.packet.specs.declared.endpoint.Proto.TheVariants.{Tcp}
use Rattle.packet.specs.declared.route.Route.{Route}
use Rattle.packet.specs.declared.route.Route.TheVariants.{Out, In}
use Rattle.packet.specs.declared.route.Route.TheVariants as route
use Rattle.packet.specs.declared.view.View.{View}
use Rattle.portpick.specs.Pool.{endpoint, near_choice, pool_choice, port_at}
use Rattle.ruletree.specs.declared.tree.Spelled.{Spelled}
use Rattle.sessions.specs.Life.{awaits_reply, is_syn_alone, restarts, shown}
use Rattle.sessions.specs.Listing.{clashes, has_inside, has_outside, has_peer, is_translated, put}
use Rattle.sessions.specs.Table.{most_sessions, restarted, seen}
use Rattle.sessions.specs.declared.session.Opener.{Opener}
use Rattle.sessions.specs.declared.session.Opener.TheVariants.{Inside, Remote}
use Rattle.sessions.specs.declared.session.Session.{Session}
use Rattle.verdict.specs.Hooks.{forward_verdict, prerouting_verdict, postrouting_verdict}
use Rattle.verdict.specs.declared.facts.Facts.{Facts}
use Rattle.verdict.specs.declared.facts.State.{State}
use Rattle.verdict.specs.declared.facts.State.TheVariants.{New, Established}
use Rattle.verdict.specs.declared.hook.Destination.{Destination}
use Rattle.verdict.specs.declared.hook.Destination.TheVariants as destination
use Rattle.verdict.specs.declared.hook.Forwarding.{Forwarding}
use Rattle.verdict.specs.declared.hook.Forwarding.TheVariants as forwarding
use Rattle.verdict.specs.declared.hook.Source.{Source}
use Rattle.verdict.specs.declared.hook.Source.TheVariants as source
use Rattle.hairpin.specs.declared.cause.Cause.{Cause}
use Rattle.hairpin.specs.declared.cause.Cause.TheVariants.{NoMapping, Filtered, NoSession, Rule, Clash, SelfMapped, NoPort, TableFull}

-- how a packet passes: the sessions that it makes, or passes by as they are then, in turn; the endpoints that it leaves
-- with, and the interface that it leaves on
pub record Passage : Type 0 where
  pub sessions : List Session
  pub src : Endpoint
  pub dst : Endpoint
  pub iface : Iface

-- out by a session, in by one, and out by one and in by another
abbrev pub outward : Session → Passage
outward t = record { sessions = t ∷ []; src = t.outside; dst = t.remote; iface = Wan }

abbrev pub inward : Session → Passage
inward t = record { sessions = t ∷ []; src = t.remote; dst = t.inside; iface = Lan }

abbrev pub through : Session → Session → Passage
through first t =
    record { sessions = first ∷ t ∷ []; src = first.outside; dst = t.inside; iface = Lan }

-- ---- sessions and mappings

-- this protocol's inside endpoint has the session's mapping
unfoldable pub maps_inside : Proto → Endpoint → Session → Bool
maps_inside proto inside s =
    is_translated s && same_proto s.proto proto && same_endpoint s.inside inside

-- this protocol's outside endpoint has the session's mapping
unfoldable pub maps_outside : Proto → Endpoint → Session → Bool
maps_outside proto outside s =
    is_translated s && same_proto s.proto proto && same_endpoint s.outside outside

-- the session has this outside endpoint of the protocol
unfoldable pub is_at : Proto → Endpoint → Session → Bool
is_at proto outside s = same_proto s.proto proto && same_endpoint s.outside outside

-- the port is taken: some session of the protocol has it outside, at this address
abbrev pub is_taken : List Session → Proto → ℕ → ℕ → Bool
is_taken sessions proto addr port = is_some (find (is_at proto (endpoint addr port)) sessions)

-- the session's mapping is of an inside endpoint of this host, and at this external address
unfoldable pub uses : ℕ → ℕ → Session → Bool
uses host external s = is_translated s && (s.inside.addr == host && s.outside.addr == external)

-- the host uses the external address: some session's mapping is so
abbrev pub uses_in : List Session → ℕ → ℕ → Bool
uses_in sessions host external = is_some (find (uses host external) sessions)

-- a mapping lets a remote address in: any, or one at which a session of it has its remote endpoint (RFC 4787, REQ-8)
abbrev pub lets_in : Filtering → List Session → Session → ℕ → Bool
lets_in filtering.Endpoint sessions m remote = true
lets_in filtering.Address sessions m remote =
    is_some (find (has_peer m.proto m.inside m.outside remote) sessions)

-- the session once a packet of it from this side has passed: a SYN alone begins a closing one anew
abbrev pub passed_by : Session → Opener → Flags → ℕ → Session
passed_by s sender flags now =
    if restarts s flags then restarted s sender now
    else seen s (shown s.proto s.opener sender flags) now

-- only a session lets the packet pass: it is TCP, and not a SYN alone (RFC 5382, section 4)
abbrev pub needs_session : View → Bool
needs_session view = same_proto view.proto Tcp && not (is_syn_alone view.flags)

-- the state of a packet of this session from this side: one that begins it anew is new too
abbrev pub connection_of : Session → Opener → Flags → State
connection_of s sender flags =
    if restarts s flags || awaits_reply s sender then New else Established

-- the sessions with these, each in place of the one of its protocol, inside and remote endpoint
abbrev pub put_all : List Session → List Session → List Session
put_all [] sessions = sessions
put_all (t ∷ ts) sessions = put_all ts (put t sessions)

-- ---- what the rules are asked

abbrev pub unless_dropped : {A : Type 0} → Forwarding → Result A Cause → Result A Cause
unless_dropped forwarding.Drop way = Err Rule
unless_dropped forwarding.Pass way = way

abbrev pub or_no_port : Option Endpoint → Result Endpoint Cause
or_no_port None = Err NoPort
or_no_port (Some outside) = Ok outside

-- what a mapping gives a packet from this remote address
abbrev pub by_mapping : Filtering → List Session → ℕ → Option Session → Result Endpoint Cause
by_mapping filter sessions remote None = Err NoMapping
by_mapping filter sessions remote (Some m) =
    if lets_in filter sessions m remote then Ok m.inside else Err Filtered

abbrev pub then_with : {A B : Type 0} → Result A Cause → (A → Result B Cause) → Result B Cause
then_with (Err cause) next = Err cause
then_with (Ok a) next = next a

module _ (config : Config) (rules : Spelled) (sessions : List Session) (now : ℕ) (view : View) where
  -- what the rules may ask about the packet between these interfaces and endpoints
  abbrev pub facts_of : Iface → Option Iface → Endpoint → Endpoint → State → Facts
  facts_of iif oif src dst state =
      record { iif = iif; oif = oif; src = src; dst = dst; proto = view.proto; state = state }

  -- the forward chains let the packet pass, or drop it
  abbrev pub forwarded : {A : Type 0} → Iface → Iface → Endpoint → Endpoint → State → Result A Cause
      → Result A Cause
  forwarded iif oif src dst state way =
      unless_dropped (forward_verdict config (facts_of iif (Some oif) src dst state) rules) way

  -- last, there are not too many sessions
  abbrev pub counted : Passage → Result Passage Cause
  counted passage =
      if nat_lt most_sessions (length (put_all passage.sessions sessions)) then Err TableFull
      else Ok passage

  -- the outside endpoint at this address that the port of the inside endpoint is given
  abbrev pub chosen : ℕ → Endpoint → Result Endpoint Cause
  chosen addr inside = or_no_port (port_at (is_taken sessions view.proto) inside.port addr)

  abbrev pub new_session : Opener → Endpoint → Endpoint → Endpoint → Session
  new_session opener inside outside remote =
      record {
        proto = view.proto;
        inside = inside;
        outside = outside;
        remote = remote;
        opener = opener;
        seen = 0;
        last = now;
      }

  -- ---- out: from an inside endpoint to a remote one

  -- what the postrouting chains decide about the outside endpoint: to masquerade is to be at the first address of the
  -- pool that the host uses, or else at the first that has a port (RFC 4787, REQ-2)
  abbrev pub outside_by_rules : Source → Result Endpoint Cause
  outside_by_rules source.None = Ok view.src
  outside_by_rules (source.From addr) = chosen addr view.src
  outside_by_rules source.Masquerade =
      or_no_port (pool_choice (uses_in sessions view.src.addr)
      (is_taken sessions view.proto) config.external view.src.port)
  outside_by_rules source.Drop = Err Rule

  -- a mapping of the inside endpoint gives its outside endpoint, and no nat chain is asked; without one the rules
  -- decide
  abbrev pub outside_for : Option Session → Result Endpoint Cause
  outside_for (Some m) = Ok m.outside
  outside_for None =
      outside_by_rules (postrouting_verdict config
      (facts_of Lan (Some Wan) view.src view.dst New) rules)

  abbrev pub begun_out : Result Passage Cause
  begun_out = then_with (outside_for (find (maps_inside view.proto view.src) sessions))
      (λ outside. counted (outward (new_session Inside view.src outside view.dst)))

  abbrev pub out_by : Option Session → Result Passage Cause
  out_by (Some s) = forwarded Lan Wan view.src view.dst (connection_of s Inside view.flags)
      (Ok (outward (passed_by s Inside view.flags now)))
  out_by None =
      if needs_session view then Err NoSession
      else forwarded Lan Wan view.src view.dst New begun_out

  -- the packet's session goes on, or a new one begins
  abbrev pub out_leg : Result Passage Cause
  out_leg = out_by (find (has_inside view.proto view.src view.dst) sessions)

  -- ---- in: from a remote endpoint to an outside one

  -- what the prerouting chains decide about the inside endpoint; without a translation, the mapping of the outside
  -- endpoint gives it
  abbrev pub inside_by_rules : List Session → ℕ → Option Session → Destination
      → Result Endpoint Cause
  inside_by_rules held remote found destination.None =
      by_mapping config.filtering held remote found
  inside_by_rules held remote found (destination.To inside) = Ok inside
  inside_by_rules held remote found destination.Drop = Err Rule

  -- an inside destination is the inside endpoint itself; for an external address the rules are asked first
  abbrev pub inside_for : Result Endpoint Cause
  inside_for = if is_inside config view.dst.addr then Ok view.dst
      else inside_by_rules sessions view.src.addr
      (find (maps_outside view.proto view.dst) sessions)
      (prerouting_verdict config (facts_of Wan None view.src view.dst New) rules)

  abbrev pub begun_in : Endpoint → Result Passage Cause
  begun_in inside = let t = new_session Remote inside view.dst view.src in
      if is_some (find (clashes t) sessions) then Err Clash
      else forwarded Wan Lan view.src inside New (counted (inward t))

  abbrev pub in_by : Option Session → Result Passage Cause
  in_by (Some s) = forwarded Wan Lan view.src s.inside (connection_of s Remote view.flags)
      (Ok (inward (passed_by s Remote view.flags now)))
  in_by None = if needs_session view then Err NoSession else then_with inside_for begun_in

  abbrev pub in_leg : Result Passage Cause
  in_leg = in_by (find (has_outside view.proto view.dst view.src) sessions)

  -- ---- hairpin: from an inside endpoint to an outside endpoint of the gateway (RFC 4787, REQ-9)

  -- the first session's outside endpoint: that of the mapping, or one that is chosen at the first address that the
  -- host uses, or else at the destination's, whatever the rules say of translations
  abbrev pub outside_near : Option Session → Result Endpoint Cause
  outside_near (Some m) = Ok m.outside
  outside_near None = or_no_port (near_choice (uses_in sessions view.src.addr)
      (is_taken sessions view.proto) config.external view.dst.addr view.src.port)

  abbrev pub first_by : Option Session → Result Session Cause
  first_by (Some s) = Ok (passed_by s Inside view.flags now)
  first_by None = if needs_session view then Err NoSession
      else then_with (outside_near (find (maps_inside view.proto view.src) sessions))
      (λ outside. Ok (new_session Inside view.src outside view.dst))

  -- the first leg's packet is new, or of a session
  abbrev pub first_state : Option Session → State
  first_state (Some s) = connection_of s Inside view.flags
  first_state None = New

  -- the second session, among the sessions with the first one put in
  module _ (first : Session) (with_first : List Session) where
    abbrev pub inside_far : Result Endpoint Cause
    inside_far = inside_by_rules with_first first.outside.addr
        (find (maps_outside view.proto view.dst) with_first)
        (prerouting_verdict config (facts_of Lan None view.src view.dst New) rules)

    abbrev pub begun_second : Endpoint → Result Session Cause
    begun_second inside = let t = new_session Remote inside view.dst first.outside in
        if is_some (find (clashes t) with_first) then Err Clash else Ok t

    abbrev pub second_by : Option Session → Result Session Cause
    second_by (Some s) = Ok (passed_by s Remote view.flags now)
    second_by None = if needs_session view then Err NoSession else then_with inside_far begun_second

    abbrev pub second : Result Session Cause
    second = if same_endpoint first.outside view.dst then Err SelfMapped
        else second_by (find (has_outside view.proto view.dst first.outside) with_first)

  -- out by the first session, and in by the second; the rules see the packet once, between its inside endpoints
  abbrev pub hairpin_by : Option Session → Result Passage Cause
  hairpin_by found =
      then_with (first_by found) (λ first. then_with (second first (put first sessions))
      (λ t. forwarded Lan Lan view.src t.inside (first_state found) (counted (through first t))))

  abbrev pub hairpin_leg : Result Passage Cause
  hairpin_leg = hairpin_by (find (has_inside view.proto view.src view.dst) sessions)

  -- ---- the leg of a route
  abbrev pub leg : Route → Result Passage Cause
  leg Out = out_leg
  leg In = in_leg
  leg route.Hairpin = hairpin_leg
