-- Prefixes, configurations, snapshots and headings.
use Rattle.std.proofs.Common.{◌≡◌, ℕ, ◌^◌, ◌<◌, List, [], ◌∷◌, ◌++◌, length, Some, refl, subst}
use Rattle.std.specs.List.{AllByRecursion}
use Rattle.byteorder.specs.Endian.{big_bytes}
use Rattle.packet.specs.declared.endpoint.Prefix.{Prefix}
use Rattle.packet.specs.Config.{Config}
use Rattle.sessions.specs.declared.session.Session.{Session}
use Rattle.durable.specs.declared.version.Version.{Version}
use Rattle.durable.specs.Versions.{mark_of}
use Rattle.durable.specs.Coding.{Snapshot, Heading, text_bytes, list_bytes, session_bytes, prefix_bytes, outside_bytes, config_bytes, snapshot_bytes, heading_bytes, IsSession, IsPrefix, IsSnapshot, IsHeading}
use Rattle.durable.specs.Reading.{both, byte_at, number_at, text_at, session_at, prefix_from, prefix_at, prefixes_at, sessions_at, outside_at, ConfigParts, config_from, config_at, snapshot_from, snapshot_at, version_at, HeadingParts, heading_from, heading_at}
use Rattle.durable.proofs.Coded.{Coded, some_is, coded-both, coded-chosen}
use Rattle.durable.proofs.Widths.{coded-byte, coded-number, coded-text, coded-list, width1, width4, width8}
use Rattle.durable.proofs.Values.{Any, coded-pair, coded-session}
use Rattle.durable.proofs.Versioned.{OutsideFits, IsStored, fits_of, stored_of, coded-version, coded-outside}

prefix_back : (p : ℕ × ℕ) (x : Prefix) → (p.0 < 256 ^ 4) × (p.1 < 256) → prefix_from p ≡ Some x → (p ≡ (x.addr, x.len)) × IsPrefix x
unfolding IsPrefix
prefix_back p x is h =
    let made : Prefix = record { addr = p.0; len = p.1 } in
    subst (λ (y : Prefix). (p ≡ (y.addr, y.len)) × IsPrefix y) (some_is made x h) (refl, is)

pub coded-prefix : Coded IsPrefix prefix_bytes prefix_at
unfolding prefix_at prefix_bytes IsPrefix
coded-prefix =
    coded-chosen (λ (p : ℕ × ℕ). (p.0 < 256 ^ 4) × (p.1 < 256)) (λ p. big_bytes 4 p.0 ++ p.1 ∷ []) (both (number_at 4) (λ _. byte_at))
    IsPrefix prefix_from (λ x. (x.addr, x.len)) (λ x is. (refl, is)) (λ p x is h. prefix_back p x is h)
    (coded-pair (coded-number 4 width4) coded-byte)

coded-prefixes : Coded (λ xs. (length xs < 256 ^ 1) × AllByRecursion IsPrefix xs) (list_bytes 1 prefix_bytes) prefixes_at
unfolding prefixes_at
coded-prefixes = coded-list 1 IsPrefix prefix_bytes prefix_at width1 coded-prefix

coded-sessions : Coded (λ xs. (length xs < 256 ^ 4) × AllByRecursion IsSession xs) (list_bytes 4 session_bytes) sessions_at
unfolding sessions_at
coded-sessions = coded-list 4 IsSession session_bytes session_at width4 coded-session

-- ---- configurations

abbrev ConfigFits : Version → ConfigParts → Type 0
ConfigFits version p = (length p.0 < 256 ^ 1) × ((length p.1.0 < 256 ^ 1) × (((length p.1.1.0 < 256 ^ 1) × AllByRecursion IsPrefix p.1.1.0) × OutsideFits version p.1.1.1))

config_back : (version : Version) (p : ConfigParts) (c : Config) → ConfigFits version p → config_from p ≡ Some c → (p ≡ (c.lan, (c.wan, (c.inside, (c.external, c.filtering))))) × IsStored version c
config_back version p c is h =
    let made : Config = record { lan = p.0; wan = p.1.0; inside = p.1.1.0; external = p.1.1.1.0; filtering = p.1.1.1.1 } in
    subst (λ (y : Config). (p ≡ (y.lan, (y.wan, (y.inside, (y.external, y.filtering))))) × IsStored version y) (some_is made c h)
    (refl, stored_of version made is.0 is.1.0 is.1.1.0.0 is.1.1.0.1 is.1.1.1)

pub coded-config : (version : Version) → Coded (IsStored version) (config_bytes version) (config_at version)
unfolding config_at config_bytes
coded-config version =
    coded-chosen (ConfigFits version) (λ p. text_bytes 1 p.0 ++ (text_bytes 1 p.1.0 ++ (list_bytes 1 prefix_bytes p.1.1.0 ++ outside_bytes version p.1.1.1.0 p.1.1.1.1)))
    (both (text_at 1) (λ _. both (text_at 1) (λ _. both prefixes_at (λ _. outside_at version))))
    (IsStored version) config_from (λ c. (c.lan, (c.wan, (c.inside, (c.external, c.filtering)))))
    (λ c is. (refl, (is.0.lan, (is.0.wan, ((is.0.count, is.0.inside), fits_of version c is))))) (λ p c is h. config_back version p c is h)
    (coded-pair (coded-text 1 width1) (coded-pair (coded-text 1 width1) (coded-pair coded-prefixes (coded-outside version))))

-- ---- snapshots

abbrev KeptFits : List ℕ × List Session → Type 0
KeptFits p = (length p.0 < 256 ^ 4) × ((length p.1 < 256 ^ 4) × AllByRecursion IsSession p.1)

kept_back : (p : List ℕ × List Session) (k : Snapshot) → KeptFits p → snapshot_from p ≡ Some k → (p ≡ (k.text, k.sessions)) × IsSnapshot k
kept_back p k is h =
    let made : Snapshot = record { text = p.0; sessions = p.1 } in
    subst (λ (y : Snapshot). (p ≡ (y.text, y.sessions)) × IsSnapshot y) (some_is made k h) (refl, record { text = is.0; count = is.1.0; sessions = is.1.1 })

pub coded-snapshot : Coded IsSnapshot snapshot_bytes snapshot_at
unfolding snapshot_at snapshot_bytes
coded-snapshot =
    coded-chosen KeptFits (λ p. text_bytes 4 p.0 ++ list_bytes 4 session_bytes p.1) (both (text_at 4) (λ _. sessions_at))
    IsSnapshot snapshot_from (λ k. (k.text, k.sessions)) (λ k is. (refl, (is.text, (is.count, is.sessions)))) (λ p k is h. kept_back p k is h)
    (coded-pair (coded-text 4 width4) coded-sessions)

-- ---- headings

abbrev Behind : Version → ℕ × (Config × Snapshot) → Type 0
Behind version p = (p.0 < 256 ^ 8) × (IsStored version p.1.0 × IsSnapshot p.1.1)

abbrev HeadingFits : HeadingParts → Type 0
HeadingFits p = Any p.0 × Behind p.0 p.1

heading_back : (p : HeadingParts) (x : Heading) → HeadingFits p → heading_from p ≡ Some x → (p ≡ (x.version, (x.generation, (x.config, x.snapshot)))) × IsHeading x
heading_back p x is h =
    let made : Heading = record { version = p.0; generation = p.1.0; config = p.1.1.0; snapshot = p.1.1.1 } in
    subst (λ (y : Heading). (p ≡ (y.version, (y.generation, (y.config, y.snapshot)))) × IsHeading y) (some_is made x h) (refl, record { generation = is.1.0; config = is.1.1.0.0; stored = is.1.1.0.1; snapshot = is.1.1.1 })

pub coded-heading : Coded IsHeading heading_bytes heading_at
unfolding heading_at heading_bytes
coded-heading =
    coded-chosen HeadingFits (λ p. mark_of p.0 ++ (big_bytes 8 p.1.0 ++ (config_bytes p.0 p.1.1.0 ++ snapshot_bytes p.1.1.1)))
    (both version_at (λ version. both (number_at 8) (λ _. both (config_at version) (λ _. snapshot_at))))
    IsHeading heading_from (λ x. (x.version, (x.generation, (x.config, x.snapshot)))) (λ x is. (refl, (tt, (is.generation, ((is.config, is.stored), is.snapshot))))) (λ p x is h. heading_back p x is h)
    (coded-both Any mark_of version_at Behind (λ version p. big_bytes 8 p.0 ++ (config_bytes version p.1.0 ++ snapshot_bytes p.1.1))
    (λ version. both (number_at 8) (λ _. both (config_at version) (λ _. snapshot_at))) coded-version
    (λ version _. coded-pair (coded-number 8 width8) (coded-pair (coded-config version) coded-snapshot)))
