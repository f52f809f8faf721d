-- Reading values from the front of bytes, from left to right. Private contracts cite these, and what contracts see of
-- `Pending` (`gateway/specs/HeldAnswers`); public ones cite `Coding`.
use Rattle.std.specs.Prelude.{◌≡◌, ℕ, zero, suc, List, [], ◌∷◌, length, take, drop, Option, Some, None, Result, Ok, Err, nat_lt, nat_le, ◌==◌, if◌then◌else◌}
use Rattle.byteorder.specs.Endian.{big_number}
use Rattle.packet.specs.declared.endpoint.Proto.{Proto}
use Rattle.packet.specs.declared.endpoint.Proto.TheVariants.{Tcp, Udp}
use Rattle.packet.specs.declared.endpoint.Endpoint.{Endpoint}
use Rattle.packet.specs.declared.endpoint.Prefix.{Prefix}
use Rattle.packet.specs.declared.bounds.Filtering.{Filtering}
use Rattle.packet.specs.declared.bounds.Filtering.TheVariants as filtering
use Rattle.packet.specs.Config.{Config, Pool}
use Rattle.sessions.specs.declared.session.Session.{Session}
use Rattle.sessions.specs.declared.session.Opener.{Opener}
use Rattle.sessions.specs.declared.session.Opener.TheVariants.{Inside, Remote}
use Rattle.sessions.specs.Life.{most_seen}
use Rattle.durable.specs.declared.entry.Flow.{Flow}
use Rattle.durable.specs.declared.version.Version.{Version}
use Rattle.durable.specs.declared.version.Version.TheVariants.{First, Second}
use Rattle.durable.specs.declared.fault.DurableFault.{DurableFault}
use Rattle.durable.specs.declared.fault.DurableFault.TheVariants.{Damaged, NoMemory}
use Rattle.durable.specs.Coding.{Entry, Load, Begin, Seen, Restart, End, Snapshot, Heading}

infixl 10 ◌>>=◌
abbrev pub ◌>>=◌ : {A B : Type 0} → Option A → (A → Option B) → Option B
(Some x) >>= f = f x
None >>= f = None

-- a value and the bytes behind it, or none
abbrev pub Reader : Type 0 → Type 0
Reader X = List ℕ → Option (X × List ℕ)

-- what a function returned, seen by view, is what reading gives
abbrev pub Gives : {X Y : Type 0} → (X → Y) → Option X → Option Y → Type 0
Gives view (Some x) read = read ≡ Some (view x)
Gives view None read = read ≡ None

-- a function failed because reading gives none, unless memory was refused
abbrev pub Fails : {Y : Type 0} → DurableFault → Option Y → Type 0
Fails NoMemory read = Unit {0}
Fails Damaged read = read ≡ None

abbrev pub Yields : {X Y : Type 0} → (X → Y) → Result X DurableFault → Option Y → Type 0
Yields view (Ok x) read = read ≡ Some (view x)
Yields view (Err e) read = Fails e read

-- a value, and then one that may depend on it
abbrev pub both : {X Y : Type 0} → Reader X → (X → Reader Y) → Reader (X × Y)
both r s bytes = r bytes >>= λ x. s x.0 x.1 >>= λ y. Some ((x.0, y.0), y.1)

-- the values that are something else too
abbrev pub chosen : {X Y : Type 0} → (X → Option Y) → Reader X → Reader Y
chosen f r bytes = r bytes >>= λ x. f x.0 >>= λ y. Some (y, x.1)

unfoldable pub items_at : {X : Type 0} → Reader X → ℕ → Reader (List X)
items_at read zero bytes = Some ([], bytes)
items_at read (suc n) bytes =
    read bytes >>= λ x. items_at read n x.1 >>= λ xs. Some (x.0 ∷ xs.0, xs.1)

abbrev pub byte_at : Reader ℕ
byte_at [] = None
byte_at (b ∷ rest) = Some (b, rest)

unfoldable pub number_at : ℕ → Reader ℕ
number_at n bytes =
    if nat_lt (length bytes) n then None
    else Some (big_number n bytes, drop n bytes)

unfoldable pub front_at : ℕ → Reader (List ℕ)
front_at n bytes = if nat_lt (length bytes) n then None else Some (take n bytes, drop n bytes)

unfoldable pub text_at : ℕ → Reader (List ℕ)
text_at width = chosen (λ p. Some p.1) (both (number_at width) (λ n. front_at n))

-- `proto_number` and `opener_code`, the other way round
abbrev pub proto_of : ℕ → Option Proto
proto_of n = if n == 6 then Some Tcp else (if n == 17 then Some Udp else None)

abbrev pub opener_of : ℕ → Option Opener
opener_of n = if n == 0 then Some Inside else (if n == 1 then Some Remote else None)

unfoldable pub proto_at : Reader Proto
proto_at = chosen proto_of byte_at

unfoldable pub opener_at : Reader Opener
opener_at = chosen opener_of byte_at

abbrev pub endpoint_from : ℕ × ℕ → Option Endpoint
endpoint_from p = Some (record { addr = p.0; port = p.1 })

unfoldable pub endpoint_at : Reader Endpoint
endpoint_at = chosen endpoint_from (both (number_at 4) (λ _. number_at 2))

abbrev pub SessionParts : Type 0
SessionParts = Proto × (Endpoint × (Endpoint × (Endpoint × (Opener × ℕ))))

abbrev pub session_from : SessionParts → Option Session
session_from p =
    if nat_le p.1.1.1.1.1 (most_seen p.0)
    then Some (record {
      proto = p.0;
      inside = p.1.0;
      outside = p.1.1.0;
      remote = p.1.1.1.0;
      opener = p.1.1.1.1.0;
      seen = p.1.1.1.1.1;
      last = 0;
    })
    else None

unfoldable pub session_at : Reader Session
session_at =
    chosen session_from (both proto_at (λ _. both endpoint_at
    (λ _. both endpoint_at (λ _. both endpoint_at (λ _. both opener_at (λ _. byte_at))))))

abbrev pub flow_from : Proto × (Endpoint × Endpoint) → Option Flow
flow_from p = Some (record { proto = p.0; inside = p.1.0; remote = p.1.1 })

unfoldable pub flow_at : Reader Flow
flow_at = chosen flow_from (both proto_at (λ _. both endpoint_at (λ _. endpoint_at)))

abbrev pub seen_from : Flow × ℕ → Option Entry
seen_from p = if nat_le p.1 (most_seen p.0.proto) then Some (Seen p.0 p.1) else None

abbrev pub restart_from : Flow × (Opener × ℕ) → Option Entry
restart_from p = if nat_le p.1.1 (most_seen p.0.proto) then Some (Restart p.0 p.1.0 p.1.1) else None

unfoldable pub seen_at : Reader Entry
seen_at = chosen seen_from (both flow_at (λ _. byte_at))

unfoldable pub restart_at : Reader Entry
restart_at = chosen restart_from (both flow_at (λ _. both opener_at (λ _. byte_at)))

-- what stands behind a tag
abbrev pub tagged_at : ℕ → Reader Entry
tagged_at tag bytes =
    if tag == 1 then chosen (λ t. Some (Load t)) (text_at 4) bytes
    else (if tag == 2 then chosen (λ s. Some (Begin s)) session_at bytes
    else (if tag == 3 then seen_at bytes
    else (if tag == 4 then restart_at bytes
    else (if tag == 5 then chosen (λ f. Some (End f)) flow_at bytes
    else None))))

unfoldable pub entry_at : Reader Entry
entry_at = chosen (λ p. Some p.1) (both byte_at tagged_at)

-- so many, behind their count
abbrev pub list_at : {X : Type 0} → ℕ → Reader X → Reader (List X)
list_at {X = X} width read = chosen (λ (p : ℕ × List X). Some p.1)
    (both (number_at width) (λ n. items_at read n))

abbrev pub prefix_from : ℕ × ℕ → Option Prefix
prefix_from p = Some (record { addr = p.0; len = p.1 })

unfoldable pub prefix_at : Reader Prefix
prefix_at = chosen prefix_from (both (number_at 4) (λ _. byte_at))

unfoldable pub prefixes_at : Reader (List Prefix)
prefixes_at = list_at 1 prefix_at

unfoldable pub sessions_at : Reader (List Session)
sessions_at = list_at 4 session_at

-- `filtering_code`, the other way round
abbrev pub filtering_of : ℕ → Option Filtering
filtering_of n = if n == 0 then Some filtering.Endpoint
    else (if n == 1 then Some filtering.Address else None)

unfoldable pub filtering_at : Reader Filtering
filtering_at = chosen filtering_of byte_at

unfoldable pub addresses_at : Reader Pool
addresses_at = list_at 1 (number_at 4)

abbrev pub alone_from : ℕ → Option (Pool × Filtering)
alone_from addr = Some (addr ∷ [], filtering.Endpoint)

-- what is outside
unfoldable pub outside_at : Version → Reader (Pool × Filtering)
outside_at First = chosen alone_from (number_at 4)
outside_at Second = both addresses_at (λ _. filtering_at)

abbrev pub ConfigParts : Type 0
ConfigParts = List ℕ × (List ℕ × (List Prefix × (Pool × Filtering)))

abbrev pub config_from : ConfigParts → Option Config
config_from p =
    Some (record {
      lan = p.0;
      wan = p.1.0;
      inside = p.1.1.0;
      external = p.1.1.1.0;
      filtering = p.1.1.1.1;
    })

unfoldable pub config_at : Version → Reader Config
config_at version =
    chosen config_from (both (text_at 1) (λ _. both (text_at 1)
    (λ _. both prefixes_at (λ _. outside_at version))))

abbrev pub snapshot_from : List ℕ × List Session → Option Snapshot
snapshot_from p = Some (record { text = p.0; sessions = p.1 })

unfoldable pub snapshot_at : Reader Snapshot
snapshot_at = chosen snapshot_from (both (text_at 4) (λ _. sessions_at))

-- `mark_of`, the other way round
abbrev pub version_of : ℕ → Option Version
version_of n =
    if n == 0x4e475731 then Some First else (if n == 0x4e475732 then Some Second else None)

unfoldable pub version_at : Reader Version
version_at = chosen version_of (number_at 4)

abbrev pub HeadingParts : Type 0
HeadingParts = Version × (ℕ × (Config × Snapshot))

abbrev pub heading_from : HeadingParts → Option Heading
heading_from p =
    Some (record { version = p.0; generation = p.1.0; config = p.1.1.0; snapshot = p.1.1.1 })

-- the mark says how the configuration is read
unfoldable pub heading_at : Reader Heading
heading_at =
    chosen heading_from (both version_at (λ version. both (number_at 8)
    (λ _. both (config_at version) (λ _. snapshot_at))))
