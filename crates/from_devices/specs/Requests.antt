-- The requests of a turn. Each is a header of 14 bytes (kind, interface, length of the body, moment) and the body.
use Rattle.std.specs.Prelude.{◌≡◌, ◌⊎◌, ℕ, ◌+◌, ◌≤◌, ◌<◌, min, List, [], ◌∷◌, ◌++◌, length, map, take, drop, replicate, nat_lt, if◌then◌else◌}
use Rattle.std.specs.List.{flat_map}
use Rattle.byteorder.specs.Endian.{big_bytes}
use Rattle.packet.specs.Laws.{AreBytes}
use Rattle.packet.specs.declared.endpoint.Iface.{Iface}
use Rattle.packet.specs.declared.endpoint.Iface.TheVariants.{Lan, Wan}

-- what a device gives: ten bytes of header, and a packet of at most 65,535, all of them below 256
pub record IsPacket (given : List ℕ) : Type 0 where
  pub header : 10 ≤ length given
  pub longest : length given ≤ 65545
  pub bytes : AreBytes given

abbrev pub interface_byte : Iface → ℕ
interface_byte Lan = 0
interface_byte Wan = 1

-- the frame of a request: kind, interface, length of the body, moment, body
unfoldable pub request : ℕ → ℕ → ℕ → List ℕ → List ℕ
request kind iface moment body =
    (kind ∷ iface ∷ big_bytes 4 (length body) ++ big_bytes 8 moment) ++ body

-- of the packet behind the header
abbrev pub packet_request : ℕ → Iface → List ℕ → List ℕ
packet_request moment iface given = request 1 (interface_byte iface) moment (drop 10 given)

-- the frames of requests, the header of each one's packet, and the latest moment, in seconds
pub record Gathered : Type 0 where
  pub requests : List ℕ
  pub headers : List (List ℕ)
  pub told : ℕ

abbrev pub no_header : List ℕ
no_header = replicate 10 0

-- a turn at a moment begins: it is told, if it is later than all before
abbrev pub begun : ℕ → Gathered → Gathered
begun moment g =
    if nat_lt g.told moment
    then record { requests = request 3 0 moment []; headers = no_header ∷ []; told = moment }
    else record { requests = []; headers = []; told = g.told }

-- and then the text of a ruleset is loaded
abbrev pub with_load : List ℕ → Gathered → Gathered
with_load text g = record g {
  requests = g.requests ++ request 2 0 g.told text;
  headers = g.headers ++ no_header ∷ [];
}

-- and then the packets that the device of an interface gave
abbrev pub with_packets : Iface → List (List ℕ) → Gathered → Gathered
with_packets iface given g = record g {
  requests = g.requests ++ flat_map (packet_request g.told iface) given;
  headers = g.headers ++ map (take 10) given;
}

-- Enough packets of a device for a turn: 64, or so many that there may be no room for one more, within 256 requests,
-- and within `most` bytes and 1,048,576 bytes of them.
abbrev pub IsEnough : ℕ → Gathered → Gathered → Type 0
IsEnough most before behind = (length behind.headers ≡ length before.headers + 64)
    ⊎ ((256 ≤ length behind.headers) ⊎ (min most 1048576 < length behind.requests + 65549))
