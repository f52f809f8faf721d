-- What an open checksum tells of its packet.
use Rattle.std.proofs.Common.{◌≡◌, ℕ, ◌+◌, ◌%◌, ◌<◌, ◌≤◌, ◌==◌, ◌&&◌, Bool, true, false, if◌then◌else◌, List, length, refl, arith}
use Rattle.std.specs.Prelude.{slice_index, nat_lt, nat_le}
use Rattle.std.proofs.lemmas.Bool.{leb-true, ltb-false}
use Rattle.packet.specs.Fields.{header_length}
use Rattle.packet.specs.Translated.{checksum_at}
use Rattle.packet.proofs.Windows.{far}
use Rattle.to_devices.specs.Leaving.{leaves_open, names_checksum, with_open_sum, sum_start, sum_offset}
use Rattle.to_devices.specs.Laws.{OpenComesRight}
use Rattle.to_devices.proofs.Sums.{comes_right}

past : (t r : Bool) → (if t then false else r) ≡ true → (t ≡ false) × (r ≡ true)
past true r e = absurd cc
past false r e = (refl, e)

both : (a b : Bool) → (a && b) ≡ true → (a ≡ true) × (b ≡ true)
both true b e = (refl, e)
both false b e = absurd cc

pub record Opened (packet : List ℕ) : Type 0 where
  pub header : 20 ≤ header_length packet
  pub whole : header_length packet ≤ length packet
  pub room : checksum_at packet + 2 ≤ length packet
  pub short : length packet < 65536

named : (header packet : List ℕ) → names_checksum header packet ≡ true → (20 ≤ header_length packet) × (checksum_at packet + 2 ≤ length packet)
unfolding names_checksum
named header packet e =
    let long = nat_le 20 (header_length packet) in
    let starts = sum_start header == header_length packet in
    let stands = sum_start header + sum_offset header == checksum_at packet in
    let fits = nat_le (checksum_at packet + 2) (length packet) in
    let one = both (long && starts && stands) fits e in
    let two = both (long && starts) stands one.0 in
    let three = both long starts two.0 in
    (leb-true _ _ three.0, leb-true _ _ one.1)

pub opened : (header packet : List ℕ) → leaves_open header packet ≡ true → Opened packet
unfolding leaves_open
opened header packet e =
    let one = past (slice_index header 0 % 2 == 0) _ e in
    let two = past (nat_lt (length packet) 20) _ one.1 in
    let three = past (nat_lt 65535 (length packet)) _ two.1 in
    let it = named header packet three.1 in
    let most : length packet ≤ 65535 = ltb-false _ _ three.0 in
    let room : checksum_at packet + 2 ≤ length packet = it.1 in
    record { header = it.0; whole = omega (arith, far packet, room); room = room; short = omega (arith, most) }

pub open_comes_right : OpenComesRight
unfolding with_open_sum
open_comes_right header packet sum is_open small zero =
    let o = opened header packet is_open in
    rw is_open (comes_right packet sum o.header o.room o.short small (rw is_open at zero))
