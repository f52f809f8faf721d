-- The pseudo header's sum, and what an open checksum comes to.
use Rattle.std.proofs.Common.{◌≡◌, ℕ, ◌+◌, ◌-◌, ◌%◌, ◌<◌, ◌≤◌, List, ◌∷◌, length, take, refl, arith, length-drop}
use Rattle.std.specs.Prelude.{slice_range}
use Rattle.std.proofs.lemmas.Grind.{common_steps}
use Rattle.std.proofs.lemmas.List.{take_all}
use Rattle.byteorder.specs.Endian.{big_bytes}
use Rattle.packet.specs.Sum.{word_sum, total}
use Rattle.packet.specs.Fields.{header_length, protocol, transport, u16_at}
use Rattle.packet.specs.Translated.{checksum_at, pseudo_header, put_u16, transport_total}
use Rattle.packet.proofs.Sums.{word_sum-append}
use Rattle.packet.proofs.Windows.{window, window-put_above, window-put_in, far, even_place, transport_total-window}
use Rattle.packet.proofs.Parts.{window-cut, window-word}
use Rattle.packet.proofs.Puts.{length-put_u16, header_length-put_u16, protocol-put_u16}
use Rattle.packet.proofs.Bytes.{u16_at-put_u16}

protocol_words : (p n : ℕ) → n < 65536 → word_sum (0 ∷ p ∷ big_bytes 2 n) ≡ p + n
protocol_words p n small = omega arith

pub pseudo_total : (p : List ℕ) → 20 ≤ length p → header_length p ≤ length p → length p < 65536
    → total (pseudo_header p) ≡ (window 12 8 p + protocol p + (length p - header_length p)) % 65535
unfolding total pseudo_header
pseudo_total p long whole short =
    let addresses : length (slice_range p 12 20) ≡ 8 = grind (arith, common_steps) in
    let n : length (transport p) ≡ length p - header_length p = length-drop (header_length p) p in
    let small : length (transport p) < 65536 = omega (arith, n) in
    let one = word_sum-append (slice_range p 12 20) (0 ∷ protocol p ∷ big_bytes 2 (length (transport p))) (rw addresses refl) in
    let two = protocol_words (protocol p) (length (transport p)) small in
    omega (arith, one, two, n)

pub address_words : (p : List ℕ) → window 12 8 p ≡ u16_at 12 p + u16_at 14 p + u16_at 16 p + u16_at 18 p
address_words p =
    let one = window-cut 12 2 8 14 6 p refl refl refl in
    let two = window-cut 14 2 6 16 4 p refl refl refl in
    let three = window-cut 16 2 4 18 2 p refl refl refl in
    let at_12 = window-word 12 p in
    let at_14 = window-word 14 p in
    let at_16 = window-word 16 p in
    let at_18 = window-word 18 p in
    omega (arith, one, two, three, at_12, at_14, at_16, at_18)

part_total : (h k : ℕ) (q : List ℕ) → header_length q ≡ h → take k (transport q) ≡ transport q → total (transport q) ≡ window h k q % 65535
unfolding total
part_total h k q e all = rw (← e, all) refl

settled : (t addresses proto k old new sum part whole : ℕ) → t ≡ (addresses + proto + k) % 65535 → new + t ≡ old + sum → part ≡ old % 65535
    → (sum + part) % 65535 ≡ 0 → whole ≡ (addresses + proto + k + new) % 65535 → whole ≡ 0
settled t addresses proto k old new sum part whole one two three four five = omega arith

-- what makes the sum of the transport part 0 makes the whole right
pub comes_right : (p : List ℕ) (sum : ℕ) → 20 ≤ header_length p → checksum_at p + 2 ≤ length p → length p < 65536 → sum < 65536
    → (sum + total (transport (put_u16 (checksum_at p) (total (pseudo_header p)) p))) % 65535 ≡ 0
    → transport_total (put_u16 (checksum_at p) sum (put_u16 (checksum_at p) (total (pseudo_header p)) p)) ≡ 0
comes_right p sum header room short small zero =
    let h = header_length p in
    let k = length p - h in
    let at = checksum_at p in
    let behind = far p in
    let t = total (pseudo_header p) in
    let pseudo = pseudo_total p (omega arith) (omega arith) short in
    let t_small : t < 65536 = omega (arith, pseudo) in
    let q = put_u16 at t p in
    let q_long : length q ≡ length p = length-put_u16 at t p room in
    let q_room : at + 2 ≤ length q = omega (arith, q_long, room) in
    let q_header : header_length q ≡ h = header_length-put_u16 at t p (omega arith) room in
    let q_proto : protocol q ≡ protocol p = protocol-put_u16 at t p (omega arith) room in
    let q_addresses = window-put_above 12 8 at t p (omega arith) room in
    let q_field = u16_at-put_u16 at t p room t_small in
    let z = put_u16 at sum q in
    let z_long : length z ≡ length q = length-put_u16 at sum q q_room in
    let z_header : header_length z ≡ header_length q = header_length-put_u16 at sum q (omega arith) q_room in
    let z_proto : protocol z ≡ protocol q = protocol-put_u16 at sum q (omega arith) q_room in
    let z_addresses = window-put_above 12 8 at sum q (omega arith) q_room in
    let z_part = window-put_in h k at sum q (omega arith) (omega (arith, room)) (even_place p) (omega (arith, q_long)) small in
    let z_total = transport_total-window z (omega (arith, z_long, q_long)) (omega (arith, z_header, z_long, q_header, q_long)) (omega (arith, z_long, q_long)) in
    let z_is : transport_total z ≡ (window 12 8 z + protocol p + k + window h k z) % 65535 = rw (z_header, z_proto, z_long, q_header, q_proto, q_long) at z_total in
    let all : take k (transport q) ≡ transport q = take_all k (transport q) (omega (arith, length-drop (header_length q) q, q_header, q_long)) in
    let q_total : total (transport q) ≡ window h k q % 65535 = part_total h k q q_header all in
    settled t (window 12 8 p) (protocol p) k (window h k q) (window h k z) sum (total (transport q)) (transport_total z)
    pseudo (omega (arith, z_part, q_field)) q_total zero (omega (arith, z_is, z_addresses, q_addresses))
