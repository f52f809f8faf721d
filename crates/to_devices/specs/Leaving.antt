-- What leaves on an interface by answers: packets, each with the header of its request in front. The header is that of
-- the device (Linux's struct virtio_net_hdr, its numbers with the lowest byte first).
use Rattle.std.specs.Prelude.{ℕ, ◌+◌, ◌%◌, ◌==◌, ◌&&◌, Bool, false, List, [], ◌∷◌, ◌++◌, length, drop, get_or, replicate, slice_index, slice_set, nat_le, nat_lt, if◌then◌else◌}
use Rattle.byteorder.specs.Endian.{little_number}
use Rattle.packet.specs.Sum.{total}
use Rattle.packet.specs.Fields.{header_length}
use Rattle.packet.specs.Translated.{checksum_at, pseudo_header, put_u16}
use Rattle.to_devices.specs.Replies.{Reply}

abbrev pub no_header : List ℕ
no_header = replicate 10 0

-- from where on an open checksum sums up, and how far behind that it stands
abbrev pub sum_start : List ℕ → ℕ
sum_start header = little_number 2 (drop 6 header)

abbrev pub sum_offset : List ℕ → ℕ
sum_offset header = little_number 2 (drop 8 header)

-- the checksum that the header speaks of is that of the transport part (RFC 768; RFC 9293, section 3.1)
unfoldable pub names_checksum : List ℕ → List ℕ → Bool
names_checksum header packet = nat_le 20 (header_length packet)
    && sum_start header == header_length packet
    && sum_start header + sum_offset header == checksum_at packet
    && nat_le (checksum_at packet + 2) (length packet)

-- the checksum of the transport part is left to whoever sends the packet on
unfoldable pub leaves_open : List ℕ → List ℕ → Bool
leaves_open header packet =
    if slice_index header 0 % 2 == 0 then false
    else if nat_lt (length packet) 20 then false
    else if nat_lt 65535 (length packet) then false
    else names_checksum header packet

-- an open checksum holds the pseudo header's sum, which isn't complemented
unfoldable pub with_open_sum : List ℕ → List ℕ → List ℕ
with_open_sum header packet =
    if leaves_open header packet then put_u16 (checksum_at packet) (total (pseudo_header packet)) packet
    else packet

-- of the flags, only the one of an open checksum stays
abbrev pub outgoing : List ℕ → List ℕ
outgoing header = slice_set header 0 (slice_index header 0 % 2)

-- what is handed to the device for a packet, by the header of its request
unfoldable pub released : List ℕ → List ℕ → List ℕ
released header packet = outgoing header ++ with_open_sum header packet

-- by a body: the interface (0 lan, 1 wan), and the packet
abbrev pub leaving_on : ℕ → List ℕ → List ℕ → List (List ℕ)
leaving_on side header [] = []
leaving_on side header (iface ∷ packet) = if iface == side then released header packet ∷ [] else []

-- by an answer: 1 is a packet that leaves
abbrev pub leaving_by : ℕ → List ℕ → Reply → List (List ℕ)
leaving_by side header r = if r.kind == 1 then leaving_on side header r.body else []

-- by answers, each with its header
abbrev pub leaving : ℕ → List (List ℕ) → List Reply → List (List ℕ)
leaving side headers [] = []
leaving side headers (r ∷ rs) = leaving_by side (get_or headers 0 no_header) r ++ leaving side (drop 1 headers) rs
