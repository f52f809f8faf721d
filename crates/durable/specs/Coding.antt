-- Values as bytes, in the words of the format. Numbers are big-endian.
use Rattle.std.specs.Prelude.{◌≡◌, ℕ, ◌<◌, ◌≤◌, ◌^◌, List, [], ◌∷◌, ◌++◌, length, get_or}
use Rattle.std.specs.List.{flat_map, AllByRecursion}
use Rattle.byteorder.specs.Endian.{big_bytes}
use Rattle.packet.specs.declared.endpoint.Endpoint.{Endpoint}
use Rattle.packet.specs.declared.endpoint.Prefix.{Prefix}
use Rattle.packet.specs.declared.bounds.Filtering.{Filtering}
use Rattle.packet.specs.Config.{Config, Pool, filtering_code}
use Rattle.packet.specs.Numbers.{IsEndpoint, proto_number}
use Rattle.sessions.specs.declared.session.Session.{Session}
use Rattle.sessions.specs.declared.session.Opener.{Opener}
use Rattle.sessions.specs.Life.{most_seen, opener_code}
use Rattle.durable.specs.declared.entry.Flow.{Flow}
use Rattle.durable.specs.declared.version.Version.{Version}
use Rattle.durable.specs.declared.version.Version.TheVariants.{First, Second}
use Rattle.durable.specs.Versions.{IsOf, mark_of}

-- a text behind its length, a number of so many bytes
abbrev pub text_bytes : ℕ → List ℕ → List ℕ
text_bytes width text = big_bytes width (length text) ++ text

-- a list behind its count, a number of so many bytes
abbrev pub list_bytes : {X : Type 0} → ℕ → (X → List ℕ) → List X → List ℕ
list_bytes width code xs = big_bytes width (length xs) ++ flat_map code xs

-- address, port
unfoldable pub endpoint_bytes : Endpoint → List ℕ
endpoint_bytes e = big_bytes 4 e.addr ++ big_bytes 2 e.port

-- protocol, inside, outside, remote, opener, what was seen
unfoldable pub session_bytes : Session → List ℕ
session_bytes s =
    proto_number s.proto
    ∷ (endpoint_bytes s.inside
    ++ (endpoint_bytes s.outside
    ++ (endpoint_bytes s.remote ++ opener_code s.opener ∷ s.seen ∷ [])))

-- protocol, inside, remote
unfoldable pub flow_bytes : Flow → List ℕ
flow_bytes f = proto_number f.proto ∷ (endpoint_bytes f.inside ++ endpoint_bytes f.remote)

-- what changes the durable state
pub data Entry : Type 0 where
  Load : List ℕ → Entry
  Begin : Session → Entry
  Seen : Flow → ℕ → Entry
  Restart : Flow → Opener → ℕ → Entry
  End : Flow → Entry

unfoldable pub entry_bytes : Entry → List ℕ
entry_bytes (Load text) = 1 ∷ text_bytes 4 text
entry_bytes (Begin s) = 2 ∷ session_bytes s
entry_bytes (Seen f seen) = 3 ∷ (flow_bytes f ++ seen ∷ [])
entry_bytes (Restart f opener seen) = 4 ∷ (flow_bytes f ++ opener_code opener ∷ seen ∷ [])
entry_bytes (End f) = 5 ∷ flow_bytes f

-- a body is its entries, one behind the other
abbrev pub body_bytes : List Entry → List ℕ
body_bytes entries = flat_map entry_bytes entries

-- address, length
unfoldable pub prefix_bytes : Prefix → List ℕ
prefix_bytes p = big_bytes 4 p.addr ++ p.len ∷ []

-- what is stored behind the inside prefixes: by the first version the one address, by the second one all of them behind
-- their count, and the filtering
abbrev pub outside_bytes : Version → Pool → Filtering → List ℕ
outside_bytes First external filtering = big_bytes 4 (get_or external 0 0)
outside_bytes Second external filtering =
    list_bytes 1 (big_bytes 4) external ++ filtering_code filtering ∷ []

-- lan name, wan name, inside prefixes, and what is outside
unfoldable pub config_bytes : Version → Config → List ℕ
config_bytes version c = text_bytes 1 c.lan
    ++ (text_bytes 1 c.wan
    ++ (list_bytes 1 prefix_bytes c.inside ++ outside_bytes version c.external c.filtering))

-- a text, and sessions in some order
pub record Snapshot : Type 0 where
  pub text : List ℕ
  pub sessions : List Session

unfoldable pub snapshot_bytes : Snapshot → List ℕ
snapshot_bytes k = text_bytes 4 k.text ++ list_bytes 4 session_bytes k.sessions

-- what stands behind an open file gate
pub record Heading : Type 0 where
  pub version : Version
  pub generation : ℕ
  pub config : Config
  pub snapshot : Snapshot

unfoldable pub heading_bytes : Heading → List ℕ
heading_bytes h = mark_of h.version
    ++ (big_bytes 8 h.generation ++ (config_bytes h.version h.config ++ snapshot_bytes h.snapshot))

-- Which values have a code: an endpoint by `IsEndpoint`, and these.

-- A session without the moment of its last packet: that one is 0.
pub record IsSession (s : Session) : Type 0 where
  pub inside : IsEndpoint s.inside
  pub outside : IsEndpoint s.outside
  pub remote : IsEndpoint s.remote
  pub seen : s.seen ≤ most_seen s.proto
  pub last : s.last ≡ 0

pub record IsFlow (f : Flow) : Type 0 where
  pub inside : IsEndpoint f.inside
  pub remote : IsEndpoint f.remote

abbrev pub IsEntry : Entry → Type 0
IsEntry (Load text) = length text < 2 ^ 32
IsEntry (Begin s) = IsSession s
IsEntry (Seen f seen) = IsFlow f × (seen ≤ most_seen f.proto)
IsEntry (Restart f opener seen) = IsFlow f × (seen ≤ most_seen f.proto)
IsEntry (End f) = IsFlow f

abbrev pub AreEntries : List Entry → Type 0
AreEntries entries = AllByRecursion IsEntry entries

unfoldable pub IsPrefix : Prefix → Type 0
IsPrefix p = (p.addr < 2 ^ 32) × (p.len < 2 ^ 8)

pub record IsCodedConfig (c : Config) : Type 0 where
  pub lan : length c.lan < 2 ^ 8
  pub wan : length c.wan < 2 ^ 8
  pub count : length c.inside < 2 ^ 8
  pub inside : AllByRecursion IsPrefix c.inside
  pub addresses : length c.external < 2 ^ 8
  pub external : AllByRecursion (λ addr. addr < 2 ^ 32) c.external

pub record IsSnapshot (k : Snapshot) : Type 0 where
  pub text : length k.text < 2 ^ 32
  pub count : length k.sessions < 2 ^ 32
  pub sessions : AllByRecursion IsSession k.sessions

pub record IsHeading (h : Heading) : Type 0 where
  pub generation : h.generation < 2 ^ 64
  pub config : IsCodedConfig h.config
  pub stored : IsOf h.version h.config
  pub snapshot : IsSnapshot h.snapshot

module _ {X : Type 0} (Is : X → Type 0) (code : X → List ℕ) where
  -- the front of the bytes is the code of this value, and behind it stands this rest
  abbrev pub Begins : List ℕ → X → List ℕ → Type 0
  Begins bytes x rest = Is x × (bytes ≡ code x ++ rest)

  -- no value has a code that is a front of these bytes
  abbrev pub NoneBegins : List ℕ → Type 0
  NoneBegins bytes = (x : X) (rest : List ℕ) → Begins bytes x rest → ⊥
