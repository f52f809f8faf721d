-- What holds of every state that is reached, and of the rules of every text that loads.
use Rattle.std.specs.Prelude.{◌≡◌, ◌≢◌, ◌↔◌, ℕ, ◌<◌, ◌≤◌, ◌^◌, List, [], ◌∷◌, ◌++◌, length, nat_lt, IsTrue, IsFalse, Ok, Some, None}
use Rattle.std.specs.List.{AllByRecursion}
use Rattle.packet.specs.Config.{Config, Pool, is_config, is_external, is_inside}
use Rattle.packet.specs.Fields.{fields}
use Rattle.packet.specs.Route.{route}
use Rattle.packet.specs.Translated.{translated}
use Rattle.packet.specs.declared.bounds.Filtering.TheVariants as filtering
use Rattle.packet.specs.declared.endpoint.Endpoint.{Endpoint}
use Rattle.packet.specs.declared.endpoint.Iface.{Iface}
use Rattle.packet.specs.declared.endpoint.Iface.TheVariants.{Lan, Wan}
use Rattle.packet.specs.declared.endpoint.Proto.{Proto}
use Rattle.packet.specs.declared.route.Route.{Route}
use Rattle.packet.specs.declared.route.Route.TheVariants.{Out, Hairpin}
use Rattle.packet.specs.declared.route.Route.TheVariants.{In as InRoute}
use Rattle.packet.specs.declared.view.View.{View}
use Rattle.portpick.specs.Choice.{AllTaken, IsAlike}
use Rattle.ruletree.specs.declared.tree.Spelled.{Spelled}
use Rattle.rulesets.specs.Places.{some_end_in}
use Rattle.ruletext.specs.Texts.{Loads}
use Rattle.sessions.specs.Laws.{IsMapping}
use Rattle.sessions.specs.Life.{IsAlive}
use Rattle.sessions.specs.Listing.{In}
use Rattle.sessions.specs.Table.{HasInside, HasOutside, HasPeer, most_sessions}
use Rattle.sessions.specs.declared.session.Session.{Session}
use Rattle.sessions.specs.declared.session.Opener.TheVariants.{Inside, Remote}
use Rattle.verdict.specs.Hooks.{forward_verdict, postrouting_verdict, prerouting_verdict}
use Rattle.verdict.specs.declared.facts.State.{State as Connection}
use Rattle.verdict.specs.declared.facts.State.TheVariants.{New}
use Rattle.verdict.specs.declared.hook.Destination.TheVariants as destination
use Rattle.verdict.specs.declared.hook.Forwarding.TheVariants.{Pass}
use Rattle.verdict.specs.declared.hook.Source.TheVariants.{Masquerade}
use Rattle.hairpin.specs.Causes.{cause_number}
use Rattle.hairpin.specs.KeepBounds.{KeepBounds}
use Rattle.hairpin.specs.Legs.{Passage, needs_session, put_all, connection_of}
use Rattle.hairpin.specs.Paired.{IsAt, IsAtOne}
use Rattle.hairpin.specs.declared.cause.Cause.TheVariants.{Filtered}
use Rattle.machine.specs.Former.{former_answers, former_leg}
use Rattle.machine.specs.Hosts.{IsLeftToPool, IsOccupied, LeaveToPool, is_of_rule}
use Rattle.machine.specs.Judged.{Judged, AreJudged, IsJudged, IsNoLoad}
use Rattle.machine.specs.Machine.{State, aged, answers, empty_at, later, leg, step, after}
use Rattle.machine.specs.Noted.{IsResumed, lasting}
use Rattle.machine.specs.Sound.{IsSoundState}
use Rattle.machine.specs.declared.event.Answer.TheVariants.{Dropped, Forward, Loaded, Refused}
use Rattle.machine.specs.declared.event.Event.{Event}
use Rattle.machine.specs.declared.deed.Deed.TheVariants.{Packet, Refuse, Take}

-- a gateway begins sound
abbrev pub StartIsSound : Type 0
StartIsSound = (config : Config) (moment : ℕ) → IsSoundState config (empty_at moment)

-- and each step keeps it so
abbrev pub StepsKeepSound : Type 0
StepsKeepSound =
    (config : Config) (s : State) (event : Event) (judged : Judged) → IsTrue (is_config config)
    → IsJudged config event judged → IsSoundState config s
    → IsSoundState config (step config s judged).0

abbrev pub RunsKeepSound : Type 0
RunsKeepSound =
    (config : Config) (s : State) (events : List Event) (judged : List Judged)
    → IsTrue (is_config config) → AreJudged config events judged → IsSoundState config s
    → IsSoundState config (after config s judged)

-- the clock never falls
abbrev pub ClockNeverFalls : Type 0
ClockNeverFalls = (config : Config) (s : State) (judged : Judged) → IsTrue (is_config config)
    → IsSoundState config s → s.clock ≤ (step config s judged).0.clock

-- no session outlives its timeout
abbrev pub SessionsAreAlive : Type 0
SessionsAreAlive =
    (config : Config) (s : State) (judged : Judged) (t : Session) → IsTrue (is_config config)
    → IsSoundState config s
    → In t (step config s judged).0.sessions → IsAlive (step config s judged).0.clock t

-- a packet that is dropped changes nothing: only the clock rises, and sessions that are no longer alive end
abbrev pub DropsChangeNothing : Type 0
DropsChangeNothing =
    (config : Config) (s : State) (judged : Judged) (number : ℕ) → IsTrue (is_config config)
    → IsSoundState config s
    → (step config s judged).1 ≡ Dropped number
    → (step config s judged).0 ≡ aged (later s.clock judged.moment) s

-- no two mappings of a protocol share an outside endpoint
abbrev pub OutsideIsNotShared : Type 0
OutsideIsNotShared =
    (config : Config) (s : State) (proto : Proto) (inside inside' outside : Endpoint)
    → IsSoundState config s
    → IsMapping s.sessions proto inside outside → IsMapping s.sessions proto inside' outside
    → inside ≡ inside'

-- an inside endpoint has one mapping of a protocol
abbrev pub InsideMapsOnce : Type 0
InsideMapsOnce =
    (config : Config) (s : State) (proto : Proto) (inside outside outside' : Endpoint)
    → IsSoundState config s
    → IsMapping s.sessions proto inside outside → IsMapping s.sessions proto inside outside'
    → outside ≡ outside'

-- a mapping stays while a session of it is alive
abbrev pub LivingMappingsStay : Type 0
LivingMappingsStay =
    (config : Config) (s : State) (judged : Judged) (proto : Proto) (inside outside : Endpoint)
    (mapping : IsMapping s.sessions proto inside outside)
    → IsTrue (is_config config) → IsSoundState config s
    → IsAlive (later s.clock judged.moment) mapping.session
    → IsMapping (step config s judged).0.sessions proto inside outside

-- the state in which an event finds the gateway: the clock has risen, and the sessions are those that are alive
abbrev pub living : State → Judged → State
living s judged = aged (later s.clock judged.moment) s

-- a packet with these fields came in here, and has this route
pub record Came (config : Config) (judged : Judged) (iface : Iface) (bytes : List ℕ) (view : View)
    (r : Route) : Type 0 where
  pub deed_is : judged.deed ≡ Packet iface bytes
  pub fields_are : fields bytes ≡ Ok view
  pub route_is : route config iface view ≡ Ok r

-- the forward chains let a packet pass between these interfaces and endpoints, in this state of its connection
abbrev pub LetsPass : Config → State → View → Iface → Iface → Endpoint → Endpoint
    → Connection → Type 0
LetsPass config s view iif oif src dst connection =
    forward_verdict config (record {
      iif = iif;
      oif = Some oif;
      src = src;
      dst = dst;
      proto = view.proto;
      state = connection;
    }) s.rules
    ≡ Pass

-- while a session is alive, a packet from wan with the route in, from its remote endpoint to its outside one, comes to
-- its inside endpoint, if the forward chains let it
abbrev pub AnswersComeIn : Type 0
AnswersComeIn =
    (config : Config) (s : State) (judged : Judged) (bytes : List ℕ) (view : View) (t : Session)
    → IsSoundState config s
    → In t s.sessions → IsAlive (later s.clock judged.moment) t
    → Came config judged Wan bytes view InRoute
    → HasOutside view.proto view.dst view.src t
    → LetsPass config s view Wan Lan view.src t.inside (connection_of t Remote view.flags)
    → (step config s judged).1 ≡ Forward Lan (translated bytes t.remote t.inside)

-- and a packet from lan with the route out, from its inside endpoint to its remote one, goes out from its outside one
abbrev pub SessionsGoOut : Type 0
SessionsGoOut =
    (config : Config) (s : State) (judged : Judged) (bytes : List ℕ) (view : View) (t : Session)
    → IsSoundState config s
    → In t s.sessions → IsAlive (later s.clock judged.moment) t
    → Came config judged Lan bytes view Out
    → HasInside view.proto view.src view.dst t
    → LetsPass config s view Lan Wan view.src view.dst (connection_of t Inside view.flags)
    → (step config s judged).1 ≡ Forward Wan (translated bytes t.outside t.remote)

-- a new session of an inside endpoint whose mapping lives has the mapping's outside endpoint, whatever its remote
-- endpoint and the nat chains: unless it is TCP that may begin none, the forward chains drop it, or there are too many
abbrev pub MappingsAreReused : Type 0
MappingsAreReused =
    (config : Config) (s : State) (judged : Judged) (bytes : List ℕ) (view : View)
    (outside : Endpoint) (mapping : IsMapping s.sessions view.proto view.src outside)
    → IsSoundState config s → IsAlive (later s.clock judged.moment) mapping.session
    → Came config judged Lan bytes view Out
    → ((u : Session) → In u s.sessions → IsAlive (later s.clock judged.moment) u
    → ¬ HasInside view.proto view.src view.dst u)
    → IsFalse (needs_session view) → LetsPass config s view Lan Wan view.src view.dst New
    → IsTrue (nat_lt (length (aged (later s.clock judged.moment) s).sessions) most_sessions)
    → (step config s judged).1 ≡ Forward Wan (translated bytes outside view.dst)

-- only what a leg planned is forwarded: a packet that was read and has a route, between the leg's endpoints
abbrev pub ForwardsArePlanned : Type 0
ForwardsArePlanned =
    (config : Config) (s : State) (judged : Judged) (out : Iface) (packet : List ℕ)
    → (step config s judged).1 ≡ Forward out packet
    → (iface : Iface) × (bytes : List ℕ) × (view : View) × (r : Route) × (passage : Passage)
    × Came config judged iface bytes view r
    × (leg config (aged (later s.clock judged.moment) s) view r ≡ Ok passage)
    × (out ≡ passage.iface) × (packet ≡ translated bytes passage.src passage.dst)
    × ((step config s judged).0.sessions
    ≡ put_all passage.sessions (aged (later s.clock judged.moment) s).sessions)

-- ---- one address of several

-- a packet from lan with this route passes so, and none of the sessions that are alive has its endpoints
pub record Begins (config : Config) (s : State) (judged : Judged) (bytes : List ℕ) (view : View)
    (r : Route) (passage : Passage) : Type 0 where
  pub came : Came config judged Lan bytes view r
  pub passes : leg config (living s judged) view r ≡ Ok passage
  pub new : (u : Session) → In u (living s judged).sessions
      → ¬ HasInside view.proto view.src view.dst u

-- the postrouting chains masquerade a packet that goes out
abbrev pub Masquerades : Config → Spelled → View → Type 0
Masquerades config rules view =
    postrouting_verdict config (record {
      iif = Lan;
      oif = Some Wan;
      src = view.src;
      dst = view.dst;
      proto = view.proto;
      state = New;
    }) rules
    ≡ Masquerade

-- the prerouting chains leave the destination of a packet that comes in as it is
abbrev pub IsLeftAlone : Config → Spelled → View → Type 0
IsLeftAlone config rules view =
    prerouting_verdict config (record {
      iif = Wan;
      oif = None;
      src = view.src;
      dst = view.dst;
      proto = view.proto;
      state = New;
    }) rules
    ≡ destination.None

-- a host that is at an external address leaves from one at which it is: where its new session is masqueraded, and
-- where it hairpins, whatever the rules
pub record NewMappingsArePaired : Type 0 where
  pub out : (config : Config) (s : State) (judged : Judged) (bytes : List ℕ) (view : View)
      (passage : Passage) (addr : ℕ) → IsSoundState config s
      → Begins config s judged bytes view Out passage → Masquerades config s.rules view
      → IsAt (living s judged).sessions view.src.addr addr
      → IsAt (living s judged).sessions view.src.addr passage.src.addr
  pub hairpin : (config : Config) (s : State) (judged : Judged) (bytes : List ℕ) (view : View)
      (passage : Passage) (addr : ℕ) → IsSoundState config s
      → Begins config s judged bytes view Hairpin passage
      → IsAt (living s judged).sessions view.src.addr addr
      → IsAt (living s judged).sessions view.src.addr passage.src.addr

-- a host that the rules leave to the pool is at one external address at a time: first it has none, each run of events
-- keeps it so, and so does a beginning from what survives
pub record HostsKeepOneAddress : Type 0 where
  pub start : (moment host : ℕ) → IsAtOne (empty_at moment).sessions host
  pub runs : (config : Config) (s : State) (events : List Event) (judged : List Judged) (host : ℕ)
      → IsTrue (is_config config) → AreJudged config events judged → IsSoundState config s
      → IsLeftToPool config host s judged → IsAtOne s.sessions host
      → IsAtOne (after config s judged).sessions host
  pub resumed : (config : Config) (s again : State) (moment host : ℕ)
      → IsResumed config (lasting s) moment again → IsAtOne s.sessions host
      → IsAtOne again.sessions host

-- rules leave a host to the pool that have neither snat nor dnat to the host
abbrev pub OnlyTranslationsMoveHosts : Type 0
OnlyTranslationsMoveHosts =
    (config : Config) (rules : Spelled) (host : ℕ)
    → IsFalse (some_end_in (is_of_rule host) rules.tables) → LeaveToPool config rules host

-- a new mapping's outside port is of the class and parity of its inside port, at whatever address, and was free there
abbrev pub NewPortsKeepClass : Type 0
NewPortsKeepClass =
    (config : Config) (s : State) (judged : Judged) (bytes : List ℕ) (view : View) (r : Route)
    (passage : Passage) → Begins config s judged bytes view r passage → view.src.port < 2 ^ 16
    → ((outside : Endpoint)
    → ¬ IsMapping (living s judged).sessions view.proto view.src outside)
    → passage.src ≢ view.src
    → IsAlike view.src.port passage.src.port
    × ¬ IsOccupied (living s judged).sessions view.proto passage.src.addr passage.src.port

-- where a host that is at no address is masqueraded, the addresses before the one that it is given have no port of
-- the class and parity free
abbrev pub FullAddressesArePassedOver : Type 0
FullAddressesArePassedOver =
    (config : Config) (s : State) (judged : Judged) (bytes : List ℕ) (view : View)
    (passage : Passage) → Begins config s judged bytes view Out passage
    → view.src.port < 2 ^ 16 → Masquerades config s.rules view
    → ((addr : ℕ) → ¬ IsAt (living s judged).sessions view.src.addr addr)
    → (before behind : Pool) × (config.external ≡ before ++ passage.src.addr ∷ behind)
    × AllByRecursion (λ addr. AllTaken (IsOccupied (living s judged).sessions view.proto addr)
    view.src.port) before

-- ---- filtering

-- filtering by address, a packet comes in without a session of its own, and by no rule, only from an address at
-- which a session of the mapping that is alive has its remote endpoint
abbrev pub OnlyKnownAddressesComeIn : Type 0
OnlyKnownAddressesComeIn =
    (config : Config) (s : State) (judged : Judged) (bytes : List ℕ) (view : View)
    (passage : Passage) → config.filtering ≡ filtering.Address
    → Came config judged Wan bytes view InRoute
    → leg config (living s judged) view InRoute ≡ Ok passage
    → ((u : Session) → In u (living s judged).sessions
    → ¬ HasOutside view.proto view.dst view.src u)
    → IsFalse (is_inside config view.dst.addr) → IsLeftAlone config s.rules view
    → (u : Session) × In u (living s judged).sessions
    × HasPeer view.proto passage.dst view.dst view.src.addr u

-- and what comes from another address is dropped as Filtered
abbrev pub StrangersAreFiltered : Type 0
StrangersAreFiltered =
    (config : Config) (s : State) (judged : Judged) (bytes : List ℕ) (view : View)
    (inside : Endpoint) → IsSoundState config s → config.filtering ≡ filtering.Address
    → Came config judged Wan bytes view InRoute
    → ((u : Session) → In u (living s judged).sessions
    → ¬ HasOutside view.proto view.dst view.src u)
    → IsFalse (needs_session view) → IsFalse (is_inside config view.dst.addr)
    → IsLeftAlone config s.rules view
    → IsMapping (living s judged).sessions view.proto inside view.dst
    → ((u : Session) → In u (living s judged).sessions
    → ¬ HasPeer view.proto inside view.dst view.src.addr u)
    → (step config s judged).1 ≡ Dropped (cause_number Filtered)

-- whom a session that is alive sends to may answer from each of its ports: it isn't dropped as Filtered
abbrev pub KnownAddressesAreLetIn : Type 0
KnownAddressesAreLetIn =
    (config : Config) (s : State) (judged : Judged) (bytes : List ℕ) (view : View) (t : Session)
    → IsSoundState config s → In t (living s judged).sessions
    → Came config judged Wan bytes view InRoute
    → HasPeer view.proto t.inside view.dst view.src.addr t
    → (step config s judged).1 ≢ Dropped (cause_number Filtered)

-- filtering by endpoint, nothing is dropped as Filtered
abbrev pub FilteredByAddressAlone : Type 0
FilteredByAddressAlone =
    (config : Config) (s : State) (judged : Judged)
    → (step config s judged).1 ≡ Dropped (cause_number Filtered)
    → config.filtering ≡ filtering.Address

-- ---- one address

-- with one external address, and filtering by endpoint, all is as it was before there was a choice of either: which
-- address is external, what each leg comes to, and every answer
pub record OneAddressIsAsBefore : Type 0 where
  pub external : (config : Config) (only addr : ℕ) → config.external ≡ only ∷ []
      → IsTrue (is_external config addr) ↔ (addr ≡ only)
  pub legs : (config : Config) (only : ℕ) (s : State) (view : View) (r : Route)
      → config.external ≡ only ∷ [] → config.filtering ≡ filtering.Endpoint
      → (r ≡ Hairpin → view.dst.addr ≡ only)
      → leg config s view r ≡ former_leg only config s view r
  pub answers : (config : Config) (only : ℕ) (s : State) (judged : List Judged)
      → config.external ≡ only ∷ [] → config.filtering ≡ filtering.Endpoint
      → answers config s judged ≡ former_answers only config s judged

-- ---- loads

-- an event is judged in one way only
abbrev pub EventsAreJudgedOnce : Type 0
EventsAreJudgedOnce = (config : Config) (event : Event) (a b : Judged) → IsJudged config event a
    → IsJudged config event b → a ≡ b

-- a load that is refused changes nothing: only the clock rises, and sessions that are no longer alive end
abbrev pub RefusalsChangeNothing : Type 0
RefusalsChangeNothing =
    (config : Config) (s : State) (judged : Judged) (text : List ℕ) → judged.deed ≡ Refuse text
    → step config s judged ≡ (aged (later s.clock judged.moment) s, Refused)

-- a text that loads is in force from then on with its rules, and the sessions that are alive go on
abbrev pub LoadsTakeForce : Type 0
LoadsTakeForce =
    (config : Config) (s : State) (judged : Judged) (text : List ℕ) (rules : Spelled)
    → judged.deed ≡ Take text rules
    → step config s judged
    ≡ (record (aged (later s.clock judged.moment) s) { text = text; rules = rules }, Loaded)

-- nothing but a load changes the text and its rules
abbrev pub OnlyLoadsChangeRules : Type 0
OnlyLoadsChangeRules =
    (config : Config) (s : State) (event : Event) (judged : Judged) → IsTrue (is_config config)
    → IsSoundState config s → IsJudged config event judged → IsNoLoad event.what
    → ((step config s judged).0.text ≡ s.text) × ((step config s judged).0.rules ≡ s.rules)

-- the rules of a text that loads send packets to inside addresses alone, never from a port above 0 to port 0, and let
-- them come from external addresses alone
abbrev pub TranslationsStayInBounds : Type 0
TranslationsStayInBounds =
    (config : Config) (text : List ℕ) (rules : Spelled) → Loads config text rules
    → KeepBounds config rules
