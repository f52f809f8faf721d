-- How long a heading is.
use Rattle.std.proofs.Common.{◌≡◌, ℕ, ◌+◌, ◌*◌, ◌≤◌, List, [], ◌∷◌, ◌++◌, length, refl, ◌∙◌, ap, arith, length-append}
use Rattle.std.specs.List.{flat_map}
use Rattle.byteorder.specs.Endian.{big_bytes}
use Rattle.byteorder.specs.Numbers.{length-bytes_high_first}
use Rattle.packet.specs.Config.{Config, Pool, IsChecked, filtering_code}
use Rattle.packet.specs.declared.endpoint.Endpoint.{Endpoint}
use Rattle.packet.specs.declared.endpoint.Prefix.{Prefix}
use Rattle.packet.specs.Numbers.{proto_number}
use Rattle.sessions.specs.Life.{opener_code}
use Rattle.sessions.specs.declared.session.Session.{Session}
use Rattle.durable.specs.Versions.{latest, mark_of}
use Rattle.durable.specs.Entering.{Durable}
use Rattle.durable.specs.Laws.{anew}
use Rattle.durable.specs.Coding.{Snapshot, endpoint_bytes, session_bytes, prefix_bytes, text_bytes, list_bytes, config_bytes, snapshot_bytes, heading_bytes}

length-endpoint : (e : Endpoint) → length (endpoint_bytes e) ≡ 6
unfolding endpoint_bytes
length-endpoint e = length-append (big_bytes 4 e.addr) (big_bytes 2 e.port)

length-session : (s : Session) → length (session_bytes s) ≡ 21
unfolding session_bytes
length-session s =
    let last = opener_code s.opener ∷ s.seen ∷ [] in
    let third = length-append (endpoint_bytes s.remote) last in
    let second = length-append (endpoint_bytes s.outside) (endpoint_bytes s.remote ++ last) in
    let first = length-append (endpoint_bytes s.inside) (endpoint_bytes s.outside ++ (endpoint_bytes s.remote ++ last)) in
    omega (arith, first, second, third, length-endpoint s.inside, length-endpoint s.outside, length-endpoint s.remote)

length-prefix : (p : Prefix) → length (prefix_bytes p) ≡ 5
unfolding prefix_bytes
length-prefix p = length-append (big_bytes 4 p.addr) (p.len ∷ [])

length-sessions : (ss : List Session) → length (flat_map session_bytes ss) ≡ 21 * length ss
length-sessions [] = refl
length-sessions (s ∷ ss) = omega (arith, length-append (session_bytes s) (flat_map session_bytes ss), length-session s, length-sessions ss)

length-prefixes : (ps : List Prefix) → length (flat_map prefix_bytes ps) ≡ 5 * length ps
length-prefixes [] = refl
length-prefixes (p ∷ ps) = omega (arith, length-append (prefix_bytes p) (flat_map prefix_bytes ps), length-prefix p, length-prefixes ps)

length-text : (width : ℕ) (text : List ℕ) → length (text_bytes width text) ≡ width + length text
length-text width text = omega (arith, length-append (big_bytes width (length text)) text, length-bytes_high_first width (length text))

length-addresses : (pool : Pool) → length (flat_map (big_bytes 4) pool) ≡ 4 * length pool
length-addresses [] = refl
length-addresses (addr ∷ pool) = omega (arith, length-append (big_bytes 4 addr) (flat_map (big_bytes 4) pool), length-bytes_high_first 4 addr, length-addresses pool)

config_short : (c : Config) → IsChecked c → length (config_bytes latest c) ≤ 131
unfolding config_bytes
config_short c is =
    let prefixes = list_bytes 1 prefix_bytes c.inside in
    let addresses = list_bytes 1 (big_bytes 4) c.external in
    let outside = addresses ++ filtering_code c.filtering ∷ [] in
    let wan = text_bytes 1 c.wan in
    let one = length-append (text_bytes 1 c.lan) (wan ++ (prefixes ++ outside)) in
    let two = length-append wan (prefixes ++ outside) in
    let three = length-append prefixes outside in
    let four = length-append (big_bytes 1 (length c.inside)) (flat_map prefix_bytes c.inside) in
    let five = length-append addresses (filtering_code c.filtering ∷ []) in
    let six = length-append (big_bytes 1 (length c.external)) (flat_map (big_bytes 4) c.external) in
    omega (arith, one, two, three, four, five, six, length-text 1 c.lan, length-text 1 c.wan, length-prefixes c.inside, length-addresses c.external, length-bytes_high_first 1 (length c.inside), length-bytes_high_first 1 (length c.external), is.lan.1, is.wan.1, is.count.1, is.addresses.1)

snapshot_short : (k : Snapshot) → length k.text ≤ 262144 → length k.sessions ≤ 65536 → length (snapshot_bytes k) ≤ 1638408
unfolding snapshot_bytes
snapshot_short k text count =
    let sessions = list_bytes 4 session_bytes k.sessions in
    let one = length-append (text_bytes 4 k.text) sessions in
    let two = length-append (big_bytes 4 (length k.sessions)) (flat_map session_bytes k.sessions) in
    omega (arith, one, two, length-text 4 k.text, length-sessions k.sessions, length-bytes_high_first 4 (length k.sessions), text, count)

pub heading_short : (generation : ℕ) (config : Config) (d : Durable) → IsChecked config → length d.text ≤ 262144 → length d.sessions ≤ 65536
    → length (heading_bytes (anew generation config d)) ≤ 1638551
unfolding heading_bytes
heading_short generation config d is text count =
    let snapshot : Snapshot = record { text = d.text; sessions = d.sessions } in
    let behind = config_bytes latest config ++ snapshot_bytes snapshot in
    let one = length-append (mark_of latest) (big_bytes 8 generation ++ behind) in
    let two = length-append (big_bytes 8 generation) behind in
    let three = length-append (config_bytes latest config) (snapshot_bytes snapshot) in
    omega (arith, one, two, three, config_short config is, snapshot_short snapshot text count, length-bytes_high_first 8 generation)
