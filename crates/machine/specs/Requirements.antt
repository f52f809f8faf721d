-- What RFC 4787 (UDP) and RFC 5382 (TCP) ask of a translator, said of a step of every sound state and of every packet.
use Rattle.std.specs.Prelude.{◌≡◌, ◌≢◌, ◌⊎◌, ℕ, ◌+◌, ◌<◌, ◌≤◌, ◌^◌, List, [], ◌∷◌, length, Some, None, IsTrue, IsFalse}
use Rattle.std.specs.List.{Contains}
use Rattle.packet.specs.Config.{Config, is_config, is_inside}
use Rattle.packet.specs.Translated.{translated}
use Rattle.packet.specs.declared.bounds.Filtering.{Filtering}
use Rattle.packet.specs.declared.bounds.Filtering.TheVariants as filtering
use Rattle.packet.specs.declared.endpoint.Endpoint.{Endpoint}
use Rattle.packet.specs.declared.endpoint.Flags.{Flags}
use Rattle.packet.specs.declared.endpoint.Iface.{Iface}
use Rattle.packet.specs.declared.endpoint.Iface.TheVariants.{Lan, Wan}
use Rattle.packet.specs.declared.endpoint.Proto.{Proto}
use Rattle.packet.specs.declared.endpoint.Proto.TheVariants.{Tcp, Udp}
use Rattle.packet.specs.declared.route.Route.{Route}
use Rattle.packet.specs.declared.route.Route.TheVariants.{Out, Hairpin}
use Rattle.packet.specs.declared.route.Route.TheVariants.{In as InRoute}
use Rattle.packet.specs.declared.view.View.{View}
use Rattle.portpick.specs.Choice.{IsAlike}
use Rattle.sessions.specs.Laws.{IsMapping}
use Rattle.sessions.specs.Life.{phase_of, restarts, shown}
use Rattle.sessions.specs.Listing.{In}
use Rattle.sessions.specs.Table.{HasInside, HasOutside, HasPeer, most_sessions, restarted, seen}
use Rattle.sessions.specs.declared.life.Phase.TheVariants.{Closing, Established, Partial}
use Rattle.sessions.specs.declared.session.Opener.{Opener}
use Rattle.sessions.specs.declared.session.Opener.TheVariants.{Inside, Remote}
use Rattle.sessions.specs.declared.session.Session.{Session}
use Rattle.verdict.specs.Hooks.{postrouting_verdict, prerouting_verdict}
use Rattle.verdict.specs.declared.facts.State.{State as Connection}
use Rattle.verdict.specs.declared.facts.State.TheVariants.{New}
use Rattle.verdict.specs.declared.hook.Destination.{Destination}
use Rattle.verdict.specs.declared.hook.Destination.TheVariants as destination
use Rattle.verdict.specs.declared.hook.Source.{Source}
use Rattle.verdict.specs.declared.hook.Source.TheVariants as source
use Rattle.hairpin.specs.Legs.{connection_of, needs_session}
use Rattle.machine.specs.Hosts.{IsOccupied}
use Rattle.machine.specs.Judged.{AreJudged, IsJudged, Judged}
use Rattle.machine.specs.Laws.{Came, IsLeftAlone, LetsPass, living}
use Rattle.machine.specs.Machine.{State, after, empty_at, later, step}
use Rattle.machine.specs.Noted.{IsResumed, lasting}
use Rattle.machine.specs.Sound.{IsSoundState}
use Rattle.machine.specs.declared.event.Answer.TheVariants.{Forward}
use Rattle.machine.specs.declared.event.Event.{Event}
use Rattle.machine.specs.declared.event.What.TheVariants as what

-- no session is of this protocol, inside and remote endpoint
abbrev pub NoneInside : List Session → Proto → Endpoint → Endpoint → Type 0
NoneInside sessions proto inside remote =
    (u : Session) → In u sessions → ¬ HasInside proto inside remote u

-- none is of this protocol, outside and remote endpoint
abbrev pub NoneOutside : List Session → Proto → Endpoint → Endpoint → Type 0
NoneOutside sessions proto outside remote =
    (u : Session) → In u sessions → ¬ HasOutside proto outside remote u

-- ---- filtering (RFC 4787, REQ-8; RFC 5382, REQ-3)

-- whom a mapping lets in: endpoint-independent filtering lets in everyone, address-dependent filtering whoever sends
-- from an address at which a session of the mapping has its remote endpoint
abbrev pub LetsIn : Filtering → List Session → Proto → Endpoint → Endpoint → ℕ → Type 0
LetsIn filtering.Endpoint sessions proto inside outside remote = Unit {0}
LetsIn filtering.Address sessions proto inside outside remote =
    (u : Session) × In u sessions × HasPeer proto inside outside remote u

-- a packet from wan to the outside endpoint of a living mapping, which no living session takes in; before each premise,
-- the cause of the drop if it fails
pub record ComesToMapping (config : Config) (s : State) (judged : Judged) (bytes : List ℕ)
    (view : View) (inside : Endpoint) : Type 0 where
  -- it is read, and has a route: else the causes 1 to 12
  pub came : Came config judged Wan bytes view InRoute
  pub new : NoneOutside (living s judged).sessions view.proto view.dst view.src
  -- it is UDP, or a SYN alone: else NoSession
  pub begins : IsFalse (needs_session view)
  -- no prerouting chain takes it elsewhere, or drops it: else Rule
  pub alone : IsLeftAlone config s.rules view
  -- else NoMapping
  pub mapping : IsMapping (living s judged).sessions view.proto inside view.dst
  -- else Filtered
  pub let_in : LetsIn config.filtering (living s judged).sessions view.proto inside view.dst
      view.src.addr
  -- its sender has no session with the inside endpoint by another way: else Clash
  pub apart : NoneInside (living s judged).sessions view.proto inside view.src
  -- the forward chains let it pass: else Rule
  pub passes : LetsPass config s view Wan Lan view.src inside New
  -- else TableFull
  pub room : length (living s judged).sessions < most_sessions

-- it comes to the inside endpoint, whoever has sent it
abbrev pub MappingsLetIn : Type 0
MappingsLetIn =
    (config : Config) (s : State) (judged : Judged) (bytes : List ℕ) (view : View)
    (inside : Endpoint) → IsTrue (is_config config) → IsSoundState config s
    → ComesToMapping config s judged bytes view inside
    → (step config s judged).1 ≡ Forward Lan (translated bytes view.src inside)

-- ---- hairpins (RFC 4787, REQ-9 and REQ-9 a; RFC 5382, REQ-8)

-- each session with an external address for its remote one, as hairpins make, is translated
abbrev pub AreTranslatedNear : Config → List Session → Type 0
AreTranslatedNear config sessions =
    (u : Session) → In u sessions → Contains config.external u.remote.addr → u.inside ≢ u.outside

-- what leaves is a packet on lan: from an outside endpoint of its sender, at an external address, to the inside
-- endpoint that is mapped to the one it was sent to
pub record LeavesByMappings (config : Config) (s : State) (view : View) (bytes : List ℕ)
    (out : Iface) (packet : List ℕ) : Type 0 where
  pub on_lan : out ≡ Lan
  pub source : Endpoint
  pub inside : Endpoint
  pub is : packet ≡ translated bytes source inside
  pub external : Contains config.external source.addr
  pub from : IsMapping s.sessions view.proto view.src source
  pub to : IsMapping s.sessions view.proto inside view.dst

-- so does each hairpin that passes, in every state that a gateway reaches: from the first on, and once it has begun
-- again from its files. The mappings are those after the step; one that was alive is as it was (`LivingMappingsStay`)
pub record HairpinsHaveExternalSources : Type 0 where
  pub leaves : (config : Config) (s : State) (judged : Judged) (bytes : List ℕ) (view : View)
      (out : Iface) (packet : List ℕ) → IsTrue (is_config config) → IsSoundState config s
      → AreTranslatedNear config s.sessions → Came config judged Lan bytes view Hairpin
      → (step config s judged).1 ≡ Forward out packet
      → LeavesByMappings config (step config s judged).0 view bytes out packet
  pub start : (config : Config) (moment : ℕ)
      → AreTranslatedNear config (empty_at moment).sessions
  pub runs : (config : Config) (s : State) (events : List Event) (judged : List Judged)
      → IsTrue (is_config config) → AreJudged config events judged → IsSoundState config s
      → AreTranslatedNear config s.sessions
      → AreTranslatedNear config (after config s judged).sessions
  pub resumed : (config : Config) (s again : State) (moment : ℕ)
      → IsResumed config (lasting s) moment again → AreTranslatedNear config s.sessions
      → AreTranslatedNear config again.sessions

-- ---- ports (RFC 4787, REQ-3, REQ-3 a) and REQ-4)

-- the step makes a mapping for the inside endpoint that a packet came from
pub record MakesMapping (config : Config) (s : State) (judged : Judged) (bytes : List ℕ)
    (view : View) (r : Route) (outside : Endpoint) : Type 0 where
  pub came : Came config judged Lan bytes view r
  pub port : view.src.port < 2 ^ 16
  pub new : NoneInside (living s judged).sessions view.proto view.src view.dst
  pub unmapped : (other : Endpoint)
      → ¬ IsMapping (living s judged).sessions view.proto view.src other
  pub mapped : IsMapping (step config s judged).0.sessions view.proto view.src outside

-- then its outside port is of the class and parity of the inside port, and was free at its address; and it is the
-- inside port, if that was free there
pub record KeepsPort (sessions : List Session) (proto : Proto) (port : ℕ)
    (outside : Endpoint) : Type 0 where
  pub alike : IsAlike port outside.port
  pub free : ¬ IsOccupied sessions proto outside.addr outside.port
  pub own : ¬ IsOccupied sessions proto outside.addr port → outside.port ≡ port

abbrev pub NewMappingsKeepPorts : Type 0
NewMappingsKeepPorts =
    (config : Config) (s : State) (judged : Judged) (bytes : List ℕ) (view : View) (r : Route)
    (outside : Endpoint) → IsTrue (is_config config) → MakesMapping config s judged bytes view r outside
    → KeepsPort (living s judged).sessions view.proto view.src.port outside

-- ---- a packet that passes, and its session (RFC 4787, REQ-6)

-- the session is held, and its last packet passed now
abbrev pub IsUsedNow : State → Session → Type 0
IsUsedNow s u = In u s.sessions × (u.last ≡ s.clock)

-- the packet leaves on this interface, from and to endpoints of its session, which was used now: out from the outside
-- endpoint to the remote one, in from the remote endpoint to the inside one. A hairpin has two sessions, and leaves from
-- the outside endpoint of the first to the inside endpoint of the second, whose remote one that outside endpoint is
abbrev pub LeavesBySession : State → View → Route → List ℕ → Iface → List ℕ → Type 0
LeavesBySession s view Out bytes out packet =
    (u : Session) × HasInside view.proto view.src view.dst u × IsUsedNow s u
    × (out ≡ Wan) × (packet ≡ translated bytes u.outside u.remote)
LeavesBySession s view InRoute bytes out packet =
    (u : Session) × HasOutside view.proto view.dst view.src u × IsUsedNow s u
    × (out ≡ Lan) × (packet ≡ translated bytes u.remote u.inside)
LeavesBySession s view Hairpin bytes out packet =
    (u : Session) × HasInside view.proto view.src view.dst u × IsUsedNow s u
    × ((t : Session) × HasOutside view.proto view.dst u.outside t × IsUsedNow s t
    × (out ≡ Lan) × (packet ≡ translated bytes u.outside t.inside))

-- so does each packet that passes, whichever way it goes
abbrev pub PacketsLeaveBySessions : Type 0
PacketsLeaveBySessions =
    (config : Config) (s : State) (judged : Judged) (iface : Iface) (bytes : List ℕ) (view : View)
    (r : Route) (out : Iface) (packet : List ℕ) → Came config judged iface bytes view r
    → (step config s judged).1 ≡ Forward out packet
    → LeavesBySession (step config s judged).0 view r bytes out packet

-- ---- how long a session is held (RFC 4787, REQ-5 and REQ-6; RFC 5382, REQ-5)

-- the packet is one of the session, from this side of it: from its inside endpoint to its remote one, or from its remote
-- endpoint to its outside one. A hairpin comes in from the outside endpoint of the session that it goes out by
abbrev pub IsOf : List Session → View → Route → Opener → Session → Type 0
IsOf held view Out Inside t = HasInside view.proto view.src view.dst t
IsOf held view Out Remote t = ⊥
IsOf held view InRoute Inside t = ⊥
IsOf held view InRoute Remote t = HasOutside view.proto view.dst view.src t
IsOf held view Hairpin Inside t = HasInside view.proto view.src view.dst t
IsOf held view Hairpin Remote t =
    (first : Session) × In first held × HasInside view.proto view.src view.dst first
    × HasOutside view.proto view.dst first.outside t

-- what a packet from this side makes of a session, at this moment: more was seen of it; but if it was closing, and the
-- packet is a SYN alone, the sender has begun it anew
abbrev pub WentOn : Session → Opener → Flags → ℕ → Session → Type 0
WentOn t sender flags now session =
    (IsFalse (restarts t flags) × (session ≡ seen t (shown t.proto t.opener sender flags) now))
    ⊎ (IsTrue (restarts t flags) × (session ≡ restarted t sender now))

-- a packet of the session has passed, and the session is held as the packet has made it
pub record HasPassed (config : Config) (s : State) (judged : Judged) (t : Session) : Type 0 where
  pub iface : Iface
  pub bytes : List ℕ
  pub view : View
  pub way : Route
  pub came : Came config judged iface bytes view way
  pub out : Iface
  pub packet : List ℕ
  pub passes : (step config s judged).1 ≡ Forward out packet
  pub sender : Opener
  pub is_of : IsOf (step config s judged).0.sessions view way sender t
  pub session : Session
  pub is_held : In session (step config s judged).0.sessions
  pub went_on : WentOn t sender view.flags (living s judged).clock session

-- no step ends a session that is alive: it is held as it was, unless a packet of it passes
abbrev pub LivingSessionsStay : Type 0
LivingSessionsStay =
    (config : Config) (s : State) (judged : Judged) (t : Session) → IsSoundState config s
    → In t (living s judged).sessions
    → In t (step config s judged).0.sessions ⊎ HasPassed config s judged t

-- ---- who begins a session (RFC 5382, REQ-4 and section 4)

-- the step has made this session: none of its protocol, inside and remote endpoint was alive
pub record Began (config : Config) (s : State) (judged : Judged) (session : Session) : Type 0 where
  pub is_held : In session (step config s judged).0.sessions
  pub new : NoneInside (living s judged).sessions session.proto session.inside session.remote

-- the postrouting chains decide so about a packet that goes out
abbrev pub DecideSource : Config → State → View → Source → Type 0
DecideSource config s view how =
    postrouting_verdict config (record {
      iif = Lan;
      oif = Some Wan;
      src = view.src;
      dst = view.dst;
      proto = view.proto;
      state = New;
    }) s.rules
    ≡ how

-- the prerouting chains decide so about a packet from this interface
abbrev pub DecideDestination : Config → State → View → Iface → Destination → Type 0
DecideDestination config s view iif where_to =
    prerouting_verdict config (record {
      iif = iif;
      oif = None;
      src = view.src;
      dst = view.dst;
      proto = view.proto;
      state = New;
    }) s.rules
    ≡ where_to

-- no mapping gives the packet's source an outside endpoint
abbrev pub HasNoMapping : State → View → Type 0
HasNoMapping s view = (other : Endpoint) → ¬ IsMapping s.sessions view.proto view.src other

-- a packet that goes out has this outside endpoint: its source's mapping has it; or the source has no mapping, and the
-- postrouting chains leave it as it is, name the address, or masquerade it at one of the pool
abbrev pub IsCalled : Config → State → View → Endpoint → Type 0
IsCalled config s view outside = IsMapping s.sessions view.proto view.src outside
    ⊎ (HasNoMapping s view
    × ((DecideSource config s view source.None × (outside ≡ view.src))
    ⊎ DecideSource config s view (source.From outside.addr)
    ⊎ (DecideSource config s view source.Masquerade × Contains config.external outside.addr)))

-- a hairpin has this one: its source's mapping has it; or the source has no mapping, and it is at an external address
abbrev pub IsCalledNear : Config → State → View → Endpoint → Type 0
IsCalledNear config s view outside = IsMapping s.sessions view.proto view.src outside
    ⊎ (HasNoMapping s view × Contains config.external outside.addr)

-- a packet from this interface, which comes in from this remote endpoint, reaches this inside endpoint: it was sent to
-- it, dnat sends it there, or its destination's mapping lets it in
abbrev pub Reaches : Config → State → View → Iface → Endpoint → Endpoint → Type 0
Reaches config s view iif remote inside =
    (IsTrue (is_inside config view.dst.addr) × (inside ≡ view.dst))
    ⊎ DecideDestination config s view iif (destination.To inside)
    ⊎ (DecideDestination config s view iif destination.None
    × IsMapping s.sessions view.proto inside view.dst
    × LetsIn config.filtering s.sessions view.proto inside view.dst remote.addr)

-- the state of a packet from lan: of the session that takes it out, or new
abbrev pub IsStateOut : State → View → Connection → Type 0
IsStateOut s view state =
    (NoneInside s.sessions view.proto view.src view.dst × (state ≡ New))
    ⊎ ((u : Session) × In u s.sessions × HasInside view.proto view.src view.dst u
    × (state ≡ connection_of u Inside view.flags))

-- a hairpin that finds the gateway in this state, and leaves these sessions held, goes out by the one session, and comes
-- in by the other from the outside endpoint of the one; and the forward chains let it pass between its inside endpoints
pub record PassesByBoth (config : Config) (s : State) (held : List Session) (view : View)
    (first far : Session) : Type 0 where
  pub first_held : In first held
  pub goes_out : HasInside view.proto view.src view.dst first
  pub far_held : In far held
  pub comes_in : HasOutside view.proto view.dst first.outside far
  pub passes : (state : Connection) × IsStateOut s view state
      × LetsPass config s view Lan Lan view.src far.inside state

-- Only a packet makes a session, one that needs none, and that the chains let pass. A packet that goes out makes the
-- session of its source and its destination, and one that comes in makes one of the inside endpoint that it reaches. A
-- hairpin makes the one that it goes out by, or the one that it comes in by, or both.
pub record SessionsBeginByPackets : Type 0 where
  pub any : (config : Config) (s : State) (judged : Judged) (u : Session)
      → Began config s judged u
      → (iface : Iface) × (bytes : List ℕ) × (view : View) × (r : Route)
      × Came config judged iface bytes view r × IsFalse (needs_session view)
  pub outbound : (config : Config) (s : State) (judged : Judged) (bytes : List ℕ) (view : View)
      (u : Session) → Began config s judged u → Came config judged Lan bytes view Out
      → HasInside view.proto view.src view.dst u × (u.opener ≡ Inside)
      × IsCalled config (living s judged) view u.outside
      × LetsPass config s view Lan Wan view.src view.dst New
  pub inbound : (config : Config) (s : State) (judged : Judged) (bytes : List ℕ) (view : View)
      (u : Session) → Began config s judged u → Came config judged Wan bytes view InRoute
      → HasOutside view.proto view.dst view.src u × (u.opener ≡ Remote)
      × Reaches config (living s judged) view Wan view.src u.inside
      × LetsPass config s view Wan Lan view.src u.inside New
  pub hairpin : (config : Config) (s : State) (judged : Judged) (bytes : List ℕ) (view : View)
      (u : Session) → Began config s judged u → Came config judged Lan bytes view Hairpin
      → (first : Session) × (far : Session)
      × PassesByBoth config (living s judged) (step config s judged).0.sessions view first far
      × (((u ≡ first) × (u.opener ≡ Inside)
      × IsCalledNear config (living s judged) view u.outside)
      ⊎ ((u ≡ far) × (u.opener ≡ Remote)
      × Reaches config (living s judged) view Lan first.outside u.inside))

-- what leaves is the packet that the event brought, translated: none is ever made by the gateway itself, neither an
-- answer to a SYN nor a refusal of one
abbrev pub PacketsOutCameIn : Type 0
PacketsOutCameIn =
    (config : Config) (s : State) (event : Event) (judged : Judged) (out : Iface)
    (packet : List ℕ) → IsJudged config event judged
    → (step config s judged).1 ≡ Forward out packet
    → (iface : Iface) × (bytes : List ℕ) × (source : Endpoint) × (destination : Endpoint)
    × (event.what ≡ what.Packet iface bytes) × (packet ≡ translated bytes source destination)

-- ---- how long a session may be idle (RFC 4787, REQ-5; RFC 5382, REQ-5)

-- it may be idle for so many seconds
abbrev pub MayBeIdle : Session → ℕ → Type 0
MayBeIdle t seconds = ((t.proto ≡ Udp) × (seconds ≡ 300))
    ⊎ ((t.proto ≡ Tcp) × (phase_of t.seen ≡ Partial) × (seconds ≡ 240))
    ⊎ ((t.proto ≡ Tcp) × (phase_of t.seen ≡ Established) × (seconds ≡ 7440))
    ⊎ ((t.proto ≡ Tcp) × (phase_of t.seen ≡ Closing) × (seconds ≡ 240))

-- whatever its phase, it may be idle for at least so many
abbrev pub MayAlwaysBeIdle : Proto → ℕ → Type 0
MayAlwaysBeIdle Udp seconds = seconds ≡ 300
MayAlwaysBeIdle Tcp seconds = seconds ≡ 240

-- it is held between the endpoints that it had, and its last packet is the same or a later one
pub record GoesOn (s : State) (t : Session) : Type 0 where
  pub session : Session
  pub is_held : In session s.sessions
  pub flow : HasInside t.proto t.inside t.remote session
  pub outside : session.outside ≡ t.outside
  pub last : t.last ≤ session.last

-- no packet of the session, from either side of it, shows a FIN or a RST in this step
abbrev pub IsLeftOpen : Config → State → Judged → Session → Type 0
IsLeftOpen config s judged t =
    (iface : Iface) (bytes : List ℕ) (view : View) (way : Route) (sender : Opener)
    → Came config judged iface bytes view way
    → IsOf (step config s judged).0.sessions view way sender t
    → IsFalse view.flags.fin × IsFalse view.flags.rst

-- nor in any step of a run
abbrev pub StaysOpen : Config → State → List Judged → Session → Type 0
StaysOpen config s [] t = Unit {0}
StaysOpen config s (judged ∷ more) t =
    IsLeftOpen config s judged t × StaysOpen config (step config s judged).0 more t

-- it goes on, it is established, and the side that opened it is the same: it wasn't begun anew
pub record GoesOnEstablished (s : State) (t : Session) : Type 0 where
  pub goes_on : GoesOn s t
  pub phase : phase_of goes_on.session.seen ≡ Established
  pub opener : goes_on.session.opener ≡ t.opener

-- Whatever an event brings, a session goes on that has been idle for less than its time, and one whose time has passed
-- has ended: only by beginning anew there is one of its protocol, inside and remote endpoint. And whatever a run of
-- events brings, each session goes on that has been idle for less than the least such time at its end; and of TCP, if
-- it is established at the start, and no packet of it shows a FIN or a RST, for less than 7,440 seconds.
pub record SessionsLiveTheirTime : Type 0 where
  pub lives : (config : Config) (s : State) (judged : Judged) (t : Session) (seconds : ℕ)
      → IsSoundState config s → In t s.sessions → MayBeIdle t seconds
      → later s.clock judged.moment < t.last + seconds → GoesOn (step config s judged).0 t
  pub ends : (config : Config) (s : State) (judged : Judged) (t u : Session) (seconds : ℕ)
      → IsSoundState config s → In t s.sessions → MayBeIdle t seconds
      → t.last + seconds ≤ later s.clock judged.moment
      → In u (step config s judged).0.sessions → HasInside t.proto t.inside t.remote u
      → Began config s judged u
  pub runs : (config : Config) (s : State) (events : List Event) (judged : List Judged)
      (t : Session) (seconds : ℕ) → IsTrue (is_config config) → AreJudged config events judged
      → IsSoundState config s → In t s.sessions → MayAlwaysBeIdle t.proto seconds
      → (after config s judged).clock < t.last + seconds → GoesOn (after config s judged) t
  pub established : (config : Config) (s : State) (events : List Event) (judged : List Judged)
      (t : Session) → IsTrue (is_config config) → AreJudged config events judged
      → IsSoundState config s → In t s.sessions → t.proto ≡ Tcp → phase_of t.seen ≡ Established
      → StaysOpen config s judged t → (after config s judged).clock < t.last + 7440
      → GoesOnEstablished (after config s judged) t
