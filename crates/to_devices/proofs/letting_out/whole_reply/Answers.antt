use Rattle.std.proofs.Common.{◌≡◌, ◌+◌, ◌-◌, ◌≤◌, ℕ, List, length, drop, take, ap, ◌∙◌, arith}
use Rattle.byteorder.specs.Endian.{big_number}
use Rattle.packet.specs.Laws.{AreBytes}
use Rattle.to_devices.proofs.Replying.{reply_at, reply_fits, reply_is, rest_whole, too_few, too_short}
use Rattle.to_devices.proofs.letting_out.whole_reply.Goals as goal

pub returns-then-bytes-lt-REPLY_HEAD-clause-none : goal.returns-then-bytes-lt-REPLY_HEAD-clause-none
returns-then-bytes-lt-REPLY_HEAD-clause-none c = too_few c.args.bytes.now (omega (arith, c.if-bytes-lt-REPLY_HEAD.true))

pub returns-then-bytes-len-clause-none : goal.returns-then-bytes-len-clause-none
returns-then-bytes-len-clause-none c =
    let b = c.args.bytes.now in
    let read : c.read_u32-len.result ≡ big_number 4 (take (length b - 9) (drop 9 b)) = c.read_u32-len.ensures in
    let len : c.read_u32-len.result ≡ big_number 4 (drop 9 b) = read ∙ ap (λ (x : List ℕ). big_number 4 x) (rest_whole 9 b) in
    too_short c.args.bytes.now (omega (arith, c.if-bytes-len.true, len))

pub returns-clause-some : goal.returns-clause-some
returns-clause-some c =
    let b = c.args.bytes.now in
    let read : c.read_u32-len.result ≡ big_number 4 (take (length b - 9) (drop 9 b)) = c.read_u32-len.ensures in
    let len : c.read_u32-len.result ≡ big_number 4 (drop 9 b) = read ∙ ap (λ (x : List ℕ). big_number 4 x) (rest_whole 9 b) in
    let whole : 13 + big_number 4 (drop 9 b) ≤ length b = omega (arith, c.if-bytes-len.false, c.if-bytes-lt-REPLY_HEAD.false, len) in
    let bytes : AreBytes b = λ k. (let h = c.type_inv.bytes k in omega (arith, h)) in
    (reply_at b, reply_fits b bytes whole, ap (λ (n : ℕ). take (13 + n) b) len ∙ reply_is b bytes whole)
