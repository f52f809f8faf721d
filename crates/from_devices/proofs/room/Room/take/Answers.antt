use Rattle.std.proofs.Common.{◌≡◌, ◌+◌, ◌-◌, ◌≤◌, ◌++◌, ℕ, List, length, take, drop, sym, ap, ◌∙◌, arith, length-take, length-drop}
use Rattle.std.proofs.lemmas.List.{length-take-le, with_items_is}
use Rattle.from_devices.specs.Requests.{packet_request}
use Rattle.from_devices.proofs.Gathering.{put_behind}
use Rattle.from_devices.proofs.room.Room.take.Goals as goal
use borrow.Rule.Slice.PartMut.{put_mid, same_len_mid}

pub returns-in-Some-clause-some : goal.returns-in-Some-clause-some
returns-in-Some-clause-some g c =
    let room = c.self.inside in
    let xs = c.as_mut_slice.result.now in
    let ys = c.take_packet.new.bytes in
    let k = room.end + 65549 - room.end in
    let n = c.in-Some.got.1 in
    let it = c.in-Some.ensures.some in
    let same = c.as_mut_slice.ensures.value in
    let was : take room.end xs ≡ c.args.self.now = ap (λ (zs : List ℕ). take room.end zs) same ∙ c.self.view_is in
    let within : room.end ≤ length xs = omega (arith, c.self.invariant, ap length same) in
    let full : length xs ≡ 1048576 = omega (arith, c.self.invariant, ap length same) in
    let size : length c.args.self.now ≡ room.end = ap length (sym was) ∙ length-take-le room.end xs within in
    let long : length ys ≡ 65549 = omega (arith, c.in-Some.ensures.len, length-take k (drop room.end xs), length-drop room.end xs, full, size, c.requires) in
    let whole = with_items_is room.bytes (put_mid room.end k xs ys) (same_len_mid room.end k xs ys c.in-Some.ensures.len ∙ c.as_mut_slice.ensures.len) in
    let view : take (room.end + n) (put_mid room.end k xs ys) ≡ c.args.self.now ++ packet_request c.args.moment c.args.iface it.0 =
    put_behind room.end n xs ys within (omega (arith, c.in-Some.ensures.size, long)) k
    ∙ ap (λ (zs : List ℕ). zs ++ take n ys) was ∙ ap (λ (zs : List ℕ). c.args.self.now ++ zs) it.3 in
    (it.0, it.1, it.2, ap (λ (zs : List ℕ). take (room.end + n) zs) whole ∙ view, it.4)
