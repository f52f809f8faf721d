-- How many packets there were, by the answers. At the greatest u64 a count stays.
use Rattle.std.specs.Prelude.{◌≡◌, ℕ, ◌+◌, ◌-◌, ◌^◌, ◌==◌, min, Bool, true, false, List, [], ◌∷◌, length, nat_le, nat_lt, replicate, slice_index, slice_set, if◌then◌else◌}
use Rattle.to_devices.specs.Replies.{Reply}
use Rattle.to_devices.specs.declared.counts.Counts.{Counts}
use Rattle.to_devices.specs.declared.counts.Side.{Side}

-- nothing yet
abbrev pub no_packets : Side
no_packets = record { left = 0; left_bytes = 0; lost = 0; dropped = replicate 21 0 }

abbrev pub no_counts : Counts
no_counts = record { lan = no_packets; wan = no_packets; loaded = 0; refused = 0 }

-- so many more
abbrev pub with_more : ℕ → ℕ → ℕ
with_more more count = min (count + more) (2 ^ 64 - 1)

-- A packet of so many bytes was handed to the device, which let it out or didn't.
abbrev pub handed_on : Bool → ℕ → Side → Side
handed_on true bytes s = record s {
  left = with_more 1 s.left;
  left_bytes = with_more bytes s.left_bytes;
}
handed_on false bytes s = record s { lost = with_more 1 s.lost }

-- A packet that came from the device was dropped, for the cause with the number that begins the answer's body.
abbrev pub drops_one : List ℕ → Side → Side
drops_one [] s = s
drops_one (cause ∷ body) s =
    if nat_lt cause 21
    then record s { dropped = slice_set s.dropped cause (with_more 1 (slice_index s.dropped cause)) }
    else s

-- A packet leaves by the answer's body: its interface, 0 lan and 1 wan, and the packet.
abbrev pub leaves_one : Bool → List ℕ → Counts → Counts
leaves_one out [] c = c
leaves_one out (side ∷ packet) c =
    if side == 0 then record c { lan = handed_on out (length packet) c.lan }
    else if side == 1 then record c { wan = handed_on out (length packet) c.wan }
    else c

-- One more answer, to a request from wan or from lan: 1 is a packet that leaves, 2 one that is dropped, 3 a ruleset
-- that is loaded, and 4 one that is refused.
abbrev pub counted : Bool → Bool → ℕ → List ℕ → Counts → Counts
counted from_wan out kind body c =
    if kind == 1 then leaves_one out body c
    else if kind == 2 then (if from_wan then record c { wan = drops_one body c.wan }
    else record c { lan = drops_one body c.lan })
    else if kind == 3 then record c { loaded = with_more 1 c.loaded }
    else if kind == 4 then record c { refused = with_more 1 c.refused }
    else c

-- These answers, in order, each once; the first has this number, and the requests from `wan_from` on came from wan.
abbrev pub AreCounted : ℕ → ℕ → List Reply → Counts → Counts → Type 0
AreCounted wan_from number [] old new = new ≡ old
AreCounted wan_from number (r ∷ rs) old new = (out : Bool)
    × AreCounted wan_from (number + 1) rs (counted (nat_le wan_from number) out r.kind r.body old) new
