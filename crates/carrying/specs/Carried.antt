-- What goes out.
use Rattle.std.specs.Prelude.{◌≡◌, ◌≢◌, ℕ, ◌==◌, List, [], ◌∷◌, ◌++◌, drop, get_or, if◌then◌else◌, Result, Ok, Err}
use Rattle.disk_model.specs.Disk.{Files}
use Rattle.packet.specs.declared.endpoint.Iface.{Iface}
use Rattle.packet.specs.declared.endpoint.Iface.TheVariants.{Lan, Wan}
use Rattle.devices.specs.Handing.{Frames, Hands}
use Rattle.frames.specs.Answers.{frames, iface_byte}
use Rattle.gateway.specs.Kept.{Kept}
use Rattle.gateway.specs.Told.{TookAll}
use Rattle.gateway.specs.declared.fault.GatewayFault.TheVariants.{Full, HeldFull, Reopen}
use Rattle.machine.specs.declared.event.Answer.{Answer}
use Rattle.machine.specs.declared.event.Answer.TheVariants as answer
use Rattle.machine.specs.declared.event.Event.{Event}
use Rattle.socket_edge.specs.declared.fault.EdgeFault.{EdgeFault}
use Rattle.socket_edge.specs.declared.fault.EdgeFault.TheVariants.{BadKind, BadInterface, TooLong, Truncated, Input, Output, Gateway}
use Rattle.socket_edge.specs.Running.{Fares}
use Rattle.to_devices.specs.Leaving.{released}
use Rattle.carrying.specs.Turns.{no_header}

-- what an answer hands to the device of a side: its packet, if it leaves there, by the header of the event's packet
abbrev pub handed_by : Iface → List ℕ → Answer → List (List ℕ)
handed_by side header (answer.Forward iface packet) =
    if iface_byte iface == iface_byte side then released header packet ∷ [] else []
handed_by side header (answer.Dropped cause) = []
handed_by side header answer.Loaded = []
handed_by side header answer.Refused = []
handed_by side header answer.Ticked = []

-- what numbered answers hand to it, in their order, each once
abbrev pub handed_to : Iface → List (List ℕ) → List (ℕ × Answer) → List (List ℕ)
handed_to side headers [] = []
handed_to side headers (a ∷ answers) =
    handed_by side (get_or headers 0 no_header) a.1 ++ handed_to side (drop 1 headers) answers

module _ {D : Type 0} (honest : D → Type 0) (moment : D → ℕ) (left : D → ℕ → Files → Type 0)
    (old new : Kept D) where
  -- The gateway took these events, and nothing is held. The devices were handed what its answers say, and nothing else.
  -- Whatever a crash leaves at the exit, it holds every one of the events.
  pub record Carries (events : List Event) (headers : List (List ℕ))
      (lan lan' wan wan' : Frames) : Type 0 where
    pub answered : List (ℕ × Answer)
    pub took : TookAll old.told new.told events answered
    pub none : new.told.held ≡ []
    pub to_lan : Hands lan lan' (handed_to Lan headers answered)
    pub to_wan : Hands wan wan' (handed_to Wan headers answered)
    pub fares : Fares honest moment left old new events (frames answered)

  -- The gateway failed within these events, and nothing was handed on.
  pub record Fails (events : List Event) (lan lan' wan wan' : Frames) : Type 0 where
    pub to_lan : lan' ≡ lan
    pub to_wan : wan' ≡ wan
    pub sent : List ℕ
    pub fares : Fares honest moment left old new events sent

  abbrev pub Turned : Result (Unit {0}) EdgeFault → List Event → List (List ℕ)
      → Frames → Frames → Frames → Frames → Type 0
  Turned (Ok done) events headers lan lan' wan wan' = Carries events headers lan lan' wan wan'
  Turned (Err fault) events headers lan lan' wan wan' = Fails events lan lan' wan wan'

-- By such a fault a turn may fail: never by one of a frame, as its requests are whole and none is faulty, or of a read,
-- as they are at hand; and of the gateway's by none that says that it had fallen before, or that it has no room.
abbrev pub IsOfTurn : EdgeFault → Type 0
IsOfTurn BadKind = ⊥
IsOfTurn BadInterface = ⊥
IsOfTurn TooLong = ⊥
IsOfTurn Truncated = ⊥
IsOfTurn Input = ⊥
IsOfTurn Output = Unit {0}
IsOfTurn (Gateway fault) = (fault ≢ Reopen) × (fault ≢ HeldFull) × (fault ≢ Full)
