-- In which order the reasons for a drop are looked for, once a packet has a route. Each reason says by itself when it
-- holds; the first that holds is answered by its cause, and if none holds the packet passes.
use Rattle.std.specs.Prelude.{◌≡◌, ◌⊎◌, ℕ, ◌<◌, ◌≤◌, ◌^◌, List, [], ◌∷◌, ◌++◌, length, Option, Some, None, Ok, Err, IsTrue, IsFalse}
use Rattle.std.specs.List.{AllByRecursion}
use Rattle.packet.specs.Config.{Config, Pool, is_config, is_inside}
use Rattle.packet.specs.Fields.{fields}
use Rattle.packet.specs.Route.{route}
use Rattle.packet.specs.declared.endpoint.Endpoint.{Endpoint}
use Rattle.packet.specs.declared.endpoint.Iface.{Iface}
use Rattle.packet.specs.declared.endpoint.Iface.TheVariants.{Lan, Wan}
use Rattle.packet.specs.declared.fault.Fault.{Fault}
use Rattle.packet.specs.declared.route.Route.{Route}
use Rattle.packet.specs.declared.route.Route.TheVariants.{Out, Hairpin}
use Rattle.packet.specs.declared.route.Route.TheVariants.{In as InRoute}
use Rattle.packet.specs.declared.route.RouteFault.{RouteFault}
use Rattle.packet.specs.declared.view.View.{View}
use Rattle.portpick.specs.Choice.{AllTaken, IsNearest}
use Rattle.sessions.specs.Laws.{IsMapping}
use Rattle.sessions.specs.Listing.{In, put}
use Rattle.sessions.specs.Table.{Clash, HasInside, HasOutside, most_sessions}
use Rattle.sessions.specs.declared.session.Opener.TheVariants.{Inside, Remote}
use Rattle.sessions.specs.declared.session.Session.{Session}
use Rattle.verdict.specs.Hooks.{forward_verdict, prerouting_verdict, postrouting_verdict}
use Rattle.verdict.specs.declared.facts.Facts.{Facts}
use Rattle.verdict.specs.declared.facts.State.{State as Connection}
use Rattle.verdict.specs.declared.facts.State.TheVariants.{New}
use Rattle.verdict.specs.declared.hook.Destination.{Destination}
use Rattle.verdict.specs.declared.hook.Destination.TheVariants as destination
use Rattle.verdict.specs.declared.hook.Forwarding.TheVariants as forwarding
use Rattle.verdict.specs.declared.hook.Source.TheVariants as source
use Rattle.hairpin.specs.Causes.{cause_number}
use Rattle.hairpin.specs.Legs.{connection_of, needs_session, passed_by}
use Rattle.hairpin.specs.Paired.{IsAt}
use Rattle.hairpin.specs.declared.cause.Cause.{Cause}
use Rattle.hairpin.specs.declared.cause.Cause.TheVariants as cause
use Rattle.machine.specs.Hosts.{IsOccupied}
use Rattle.machine.specs.Judged.{Judged}
use Rattle.machine.specs.Laws.{Came, living}
use Rattle.machine.specs.Machine.{State, step}
use Rattle.machine.specs.Requirements.{HasNoMapping, IsStateOut, LetsIn, NoneInside, NoneOutside}
use Rattle.machine.specs.Sound.{IsSoundState}
use Rattle.machine.specs.declared.deed.Deed.TheVariants.{Packet}
use Rattle.machine.specs.declared.event.Answer.TheVariants.{Dropped, Forward}

-- why a packet that has a route is dropped: only a session would let it pass, and it has none (a hairpin none to go
-- out by, or none to come in by); the chains of a hook drop it; no port is left for a mapping of its source; its
-- destination has no mapping, or one that keeps it out; its session would clash; it goes to its sender's own outside
-- endpoint; or there would be too many sessions
pub data Reason : Type 0 where
  NeedsSession : Reason
  NeedsFarSession : Reason
  PreroutingDrops : Reason
  ForwardDrops : Reason
  PostroutingDrops : Reason
  NoPortLeft : Reason
  Unmapped : Reason
  KeptOut : Reason
  Clashes : Reason
  OwnEndpoint : Reason
  NoRoom : Reason

-- the cause that names it
abbrev pub cause_of : Reason → Cause
cause_of NeedsSession = cause.NoSession
cause_of ForwardDrops = cause.Rule
cause_of PostroutingDrops = cause.Rule
cause_of PreroutingDrops = cause.Rule
cause_of NoPortLeft = cause.NoPort
cause_of Unmapped = cause.NoMapping
cause_of KeptOut = cause.Filtered
cause_of Clashes = cause.Clash
cause_of OwnEndpoint = cause.SelfMapped
cause_of NeedsFarSession = cause.NoSession
cause_of NoRoom = cause.TableFull

-- the reasons of each route, in the order in which they are looked for
abbrev pub reasons : Route → List Reason
reasons Out = NeedsSession ∷ ForwardDrops ∷ PostroutingDrops ∷ NoPortLeft ∷ NoRoom ∷ []
reasons InRoute = NeedsSession ∷ PreroutingDrops ∷ Unmapped ∷ KeptOut ∷ Clashes ∷ ForwardDrops
    ∷ NoRoom ∷ []
reasons Hairpin = NeedsSession ∷ NoPortLeft ∷ OwnEndpoint ∷ NeedsFarSession ∷ PreroutingDrops
    ∷ Unmapped ∷ KeptOut ∷ Clashes ∷ ForwardDrops ∷ NoRoom ∷ []

-- the first reason that holds drops; if none does, it passes
abbrev pub FirstDrops : (Reason → Type 0) → (Reason → Type 0) → Type 0 → List Reason → Type 0
FirstDrops Holds Drops Passes [] = Passes
FirstDrops Holds Drops Passes (why ∷ more) =
    (Holds why → Drops why) × (¬ Holds why → FirstDrops Holds Drops Passes more)

-- of a packet with these fields, among the sessions that are alive
module _ (config : Config) (s : State) (view : View) where
  -- what a hook is asked
  abbrev pub asked : Iface → Option Iface → Endpoint → Endpoint → Connection → Facts
  asked iif oif src dst state =
      record { iif = iif; oif = oif; src = src; dst = dst; proto = view.proto; state = state }

  -- only a session lets it pass: it is TCP, and not a SYN alone
  abbrev pub NeedsOne : Type 0
  NeedsOne = IsTrue (needs_session view)

  -- ---- from an inside endpoint

  -- no session takes the packet out
  abbrev pub IsNewOut : Type 0
  IsNewOut = NoneInside s.sessions view.proto view.src view.dst

  -- no port of its class and parity is free at the address
  abbrev pub IsFull : ℕ → Type 0
  IsFull addr = AllTaken (IsOccupied s.sessions view.proto addr) view.src.port

  -- the first address of the pool at which the packet's host is
  abbrev pub IsHostsFirst : ℕ → Type 0
  IsHostsFirst addr = (before : Pool) × (behind : Pool) × (config.external ≡ before ++ addr ∷ behind)
      × AllByRecursion (λ a. ¬ IsAt s.sessions view.src.addr a) before
      × IsAt s.sessions view.src.addr addr

  -- its host is at no address
  abbrev pub IsNowhere : Type 0
  IsNowhere = (addr : ℕ) → ¬ IsAt s.sessions view.src.addr addr

  -- masquerading finds no port: at the host's address, or, for a host that has none, at each
  abbrev pub IsPoolFull : Type 0
  IsPoolFull = ((addr : ℕ) × IsHostsFirst addr × IsFull addr)
      ⊎ (IsNowhere × AllByRecursion IsFull config.external)

  -- when each reason holds of a packet that goes out
  abbrev pub HoldsOut : Reason → Type 0
  HoldsOut NeedsSession = IsNewOut × NeedsOne
  HoldsOut ForwardDrops = (state : Connection) × IsStateOut s view state
      × (forward_verdict config (asked Lan (Some Wan) view.src view.dst state) s.rules
      ≡ forwarding.Drop)
  HoldsOut PostroutingDrops = IsNewOut × HasNoMapping s view
      × (postrouting_verdict config (asked Lan (Some Wan) view.src view.dst New) s.rules
      ≡ source.Drop)
  HoldsOut NoPortLeft = IsNewOut × HasNoMapping s view
      × (((addr : ℕ)
      × (postrouting_verdict config (asked Lan (Some Wan) view.src view.dst New) s.rules
      ≡ source.From addr) × IsFull addr)
      ⊎ ((postrouting_verdict config (asked Lan (Some Wan) view.src view.dst New) s.rules
      ≡ source.Masquerade) × IsPoolFull))
  HoldsOut NoRoom = IsNewOut × (most_sessions ≤ length s.sessions)
  HoldsOut _ = ⊥

  -- ---- to an inside endpoint, from this interface and remote endpoint, among these sessions

  module _ (iif : Iface) (remote : Endpoint) (held : List Session) where
    -- no session takes the packet in
    abbrev pub IsNewIn : Type 0
    IsNewIn = NoneOutside held view.proto view.dst remote

    -- the prerouting chains decide so, about a destination that isn't inside
    abbrev pub Decide : Destination → Type 0
    Decide d = IsFalse (is_inside config view.dst.addr)
        × (prerouting_verdict config (asked iif None view.src view.dst New) s.rules ≡ d)

    -- the inside endpoint that a new session would have: an inside destination is its own, dnat gives it, or a mapping
    abbrev pub LeadsTo : Endpoint → Type 0
    LeadsTo inside = (IsTrue (is_inside config view.dst.addr) × (inside ≡ view.dst))
        ⊎ Decide (destination.To inside)
        ⊎ (Decide destination.None × IsMapping held view.proto inside view.dst)

    -- that endpoint for a new packet, or the one of the packet's session with the state that it has by it
    abbrev pub IsWayIn : Endpoint → Connection → Type 0
    IsWayIn inside state = (IsNewIn × LeadsTo inside × (state ≡ New))
        ⊎ ((u : Session) × In u held × HasOutside view.proto view.dst remote u
        × (inside ≡ u.inside) × (state ≡ connection_of u Remote view.flags))

    -- that session
    abbrev pub new_to : Endpoint → Session
    new_to inside = record {
      proto = view.proto;
      inside = inside;
      outside = view.dst;
      remote = remote;
      opener = Remote;
      seen = 0;
      last = s.clock;
    }

    -- when each reason holds of a packet that comes in
    abbrev pub HoldsIn : Reason → Type 0
    HoldsIn NeedsSession = IsNewIn × NeedsOne
    HoldsIn PreroutingDrops = IsNewIn × Decide destination.Drop
    HoldsIn Unmapped = IsNewIn × Decide destination.None
        × ((inside : Endpoint) → ¬ IsMapping held view.proto inside view.dst)
    HoldsIn KeptOut = IsNewIn × Decide destination.None
        × ((inside : Endpoint) × IsMapping held view.proto inside view.dst
        × ¬ LetsIn config.filtering held view.proto inside view.dst remote.addr)
    HoldsIn Clashes = IsNewIn
        × ((inside : Endpoint) × (u : Session) × LeadsTo inside × In u held
        × Clash (new_to inside) u)
    HoldsIn ForwardDrops = (inside : Endpoint) × (state : Connection) × IsWayIn inside state
        × (forward_verdict config (asked iif (Some Lan) view.src inside state) s.rules
        ≡ forwarding.Drop)
    HoldsIn NoRoom = IsNewIn × (most_sessions ≤ length held)
    HoldsIn _ = ⊥

  -- ---- a hairpin: out by a first session, and in by a second

  -- the address at which the source of the packet is given an outside endpoint
  abbrev pub IsNear : ℕ → Type 0
  IsNear addr = IsHostsFirst addr ⊎ (IsNowhere × (addr ≡ view.dst.addr))

  -- the outside endpoint of the packet's source: its mapping's, or the nearest free one at that address
  abbrev pub IsSource : Endpoint → Type 0
  IsSource e = IsMapping s.sessions view.proto view.src e
      ⊎ (HasNoMapping s view × IsNear e.addr
      × IsNearest (IsOccupied s.sessions view.proto e.addr) view.src.port e.port)

  -- the first session, once the packet has passed: it goes on, or begins
  abbrev pub IsFirst : Session → Type 0
  IsFirst first = ((u : Session) × In u s.sessions × HasInside view.proto view.src view.dst u
      × (first ≡ passed_by u Inside view.flags s.clock))
      ⊎ (IsNewOut × ((e : Endpoint) × IsSource e
      × (first ≡ record {
        proto = view.proto;
        inside = view.src;
        outside = e;
        remote = view.dst;
        opener = Inside;
        seen = 0;
        last = s.clock;
      })))

  module _ (first : Session) where
    -- the sessions with the first one
    abbrev pub with_first : List Session
    with_first = put first s.sessions

    -- the second, once the packet has passed
    abbrev pub IsSecond : Session → Type 0
    IsSecond far = ((u : Session) × In u with_first
        × HasOutside view.proto view.dst first.outside u
        × (far ≡ passed_by u Remote view.flags s.clock))
        ⊎ (IsNewIn Lan first.outside with_first
        × ((inside : Endpoint) × LeadsTo Lan first.outside with_first inside
        × (far ≡ new_to Lan first.outside with_first inside)))

    -- when each reason holds that is looked for behind the first session: as of a packet from its outside endpoint
    abbrev pub HoldsFar : Reason → Type 0
    HoldsFar OwnEndpoint = first.outside ≡ view.dst
    HoldsFar NeedsFarSession = HoldsIn Lan first.outside with_first NeedsSession
    HoldsFar ForwardDrops = (far : Session) × (state : Connection) × IsSecond far × IsStateOut s view state
        × (forward_verdict config (asked Lan (Some Lan) view.src far.inside state) s.rules
        ≡ forwarding.Drop)
    HoldsFar NoRoom = (far : Session) × IsSecond far
        × (most_sessions < length (put far with_first))
    HoldsFar PreroutingDrops = HoldsIn Lan first.outside with_first PreroutingDrops
    HoldsFar Unmapped = HoldsIn Lan first.outside with_first Unmapped
    HoldsFar KeptOut = HoldsIn Lan first.outside with_first KeptOut
    HoldsFar Clashes = HoldsIn Lan first.outside with_first Clashes
    HoldsFar _ = ⊥

  -- when each reason holds of a hairpin
  abbrev pub AfterFirst : Reason → Type 0
  AfterFirst why = (first : Session) × IsFirst first × HoldsFar first why

  abbrev pub HoldsHairpin : Reason → Type 0
  HoldsHairpin NeedsSession = IsNewOut × NeedsOne
  HoldsHairpin NoPortLeft = IsNewOut × HasNoMapping s view × ((addr : ℕ) × IsNear addr × IsFull addr)
  HoldsHairpin why = AfterFirst why

-- what each reason says, on each route
abbrev pub Holds : Config → State → View → Route → Reason → Type 0
Holds config s view Out why = HoldsOut config s view why
Holds config s view InRoute why = HoldsIn config s view Wan view.src s.sessions why
Holds config s view Hairpin why = HoldsHairpin config s view why

-- a packet is dropped for its first fault (1 to 9), or because it has no route (10 to 12), or for the first of the
-- reasons that holds; if none does, it is forwarded
pub record CausesComeInOrder : Type 0 where
  pub unread : (config : Config) (s : State) (judged : Judged) (iface : Iface) (bytes : List ℕ)
      (fault : Fault) → judged.deed ≡ Packet iface bytes → fields bytes ≡ Err fault
      → (step config s judged).1 ≡ Dropped (cause_number (cause.Packet fault))
  pub unrouted : (config : Config) (s : State) (judged : Judged) (iface : Iface) (bytes : List ℕ)
      (view : View) (fault : RouteFault) → judged.deed ≡ Packet iface bytes
      → fields bytes ≡ Ok view → route config iface view ≡ Err fault
      → (step config s judged).1 ≡ Dropped (cause_number (cause.Route fault))
  pub routed : (config : Config) (s : State) (judged : Judged) (iface : Iface) (bytes : List ℕ)
      (view : View) (r : Route) → IsTrue (is_config config) → IsSoundState config s
      → Came config judged iface bytes view r → view.src.port < 2 ^ 16
      → FirstDrops (Holds config (living s judged) view r)
      (λ why. (step config s judged).1 ≡ Dropped (cause_number (cause_of why)))
      ((out : Iface) × (packet : List ℕ) × ((step config s judged).1 ≡ Forward out packet))
      (reasons r)
