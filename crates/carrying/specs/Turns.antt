-- What comes in: turns, and the events that they are.
use Rattle.std.specs.Prelude.{◌≡◌, ◌⊎◌, ℕ, ◌+◌, ◌<◌, ◌≤◌, List, [], ◌∷◌, ◌++◌, length, map, take, drop, replicate, Option, None, Some, nat_lt, if◌then◌else◌}
use Rattle.std.specs.List.{AllByRecursion}
use Rattle.packet.specs.declared.endpoint.Iface.{Iface}
use Rattle.packet.specs.declared.endpoint.Iface.TheVariants.{Lan, Wan}
use Rattle.devices.specs.Handing.{Frames, Gives}
use Rattle.from_devices.specs.Requests.{Gathered, IsPacket, begun, with_load, with_packets}
use Rattle.machine.specs.Machine.{later}
use Rattle.machine.specs.declared.event.Event.{Event}
use Rattle.machine.specs.declared.event.What.TheVariants as what

-- the moment in seconds, the ruleset that is to be loaded, and what each device gave: each time a header and a packet
pub record Turn : Type 0 where
  pub moment : ℕ
  pub text : Option (List ℕ)
  pub lan : List (List ℕ)
  pub wan : List (List ℕ)

abbrev pub no_header : List ℕ
no_header = replicate 10 0

-- a moment alone is an event only if it is later than the last one
abbrev pub tick : ℕ → ℕ → List Event
tick last moment =
    if nat_lt last moment then record { moment = moment; what = what.Moment } ∷ [] else []

abbrev pub load : ℕ → Option (List ℕ) → List Event
load moment None = []
load moment (Some text) = record { moment = moment; what = what.Load text } ∷ []

-- the packet behind its header of ten bytes
abbrev pub packet_at : ℕ → Iface → List ℕ → Event
packet_at moment iface given = record { moment = moment; what = what.Packet iface (drop 10 given) }

-- what comes at a moment: of each packet one event, in the order of its device
abbrev pub brought : ℕ → Turn → List Event
brought moment turn = load moment turn.text
    ++ (map (packet_at moment Lan) turn.lan ++ map (packet_at moment Wan) turn.wan)

-- the events of a turn behind the last moment; moments never fall
abbrev pub events_of : ℕ → Turn → List Event
events_of last turn = tick last turn.moment ++ brought (later last turn.moment) turn

abbrev pub tick_headers : ℕ → ℕ → List (List ℕ)
tick_headers last moment = if nat_lt last moment then no_header ∷ [] else []

abbrev pub load_headers : Option (List ℕ) → List (List ℕ)
load_headers None = []
load_headers (Some text) = no_header ∷ []

-- the header of each event's packet
abbrev pub headers_of : ℕ → Turn → List (List ℕ)
headers_of last turn = tick_headers last turn.moment
    ++ (load_headers turn.text ++ (map (take 10) turn.lan ++ map (take 10) turn.wan))

-- this is what the devices gave
pub record Gave (turn : Turn) (lan lan' wan wan' : Frames) : Type 0 where
  pub from_lan : Gives lan lan' turn.lan
  pub from_wan : Gives wan wan' turn.wan
  pub lan_packets : AllByRecursion IsPacket turn.lan
  pub wan_packets : AllByRecursion IsPacket turn.wan

abbrev pub with_text : Option (List ℕ) → Gathered → Gathered
with_text None g = g
with_text (Some text) g = with_load text g

-- the requests of a turn up to those of lan's packets
abbrev pub gathered_to_lan : Turn → Gathered → Gathered
gathered_to_lan turn g = with_packets Lan turn.lan (with_text turn.text (begun turn.moment g))

-- the requests of a turn
abbrev pub gathered : Turn → Gathered → Gathered
gathered turn g = with_packets Wan turn.wan (gathered_to_lan turn g)

-- no requests, behind the last moment
abbrev pub ungathered : ℕ → Gathered
ungathered last = record { requests = []; headers = []; told = last }

-- Enough packets of a device for a turn: 64, or so many that behind these requests one more might have no room within
-- so many bytes.
abbrev pub Suffices : ℕ → List (List ℕ) → Gathered → Type 0
Suffices most given behind = (length given ≡ 64) ⊎ (most < length behind.requests + 65549)

-- A turn behind the last moment takes at most 64 packets of a device, and fewer only if that gave all that it had, or
-- if they suffice.
pub record TakesAll (last : ℕ) (turn : Turn) (lan_gave_all wan_gave_all : Type 0) : Type 0 where
  pub of_lan : lan_gave_all ⊎ Suffices 163840 turn.lan (gathered_to_lan turn (ungathered last))
  pub of_wan : wan_gave_all ⊎ Suffices 262144 turn.wan (gathered turn (ungathered last))
  pub few_of_lan : length turn.lan ≤ 64
  pub few_of_wan : length turn.wan ≤ 64
