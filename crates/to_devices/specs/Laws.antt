-- What holds of every packet that leaves.
use Rattle.std.specs.Prelude.{◌≡◌, ℕ, ◌+◌, ◌%◌, ◌<◌, ◌^◌, true, List, ◌++◌}
use Rattle.std.specs.List.{flat_map, AllByRecursion}
use Rattle.packet.specs.Sum.{total}
use Rattle.packet.specs.Fields.{transport}
use Rattle.packet.specs.Translated.{IsRightTransport, checksum_at, put_u16}
use Rattle.to_devices.specs.Replies.{Reply, FitsReply, HasNoReply, reply_frame}
use Rattle.to_devices.specs.Leaving.{leaves_open, leaving, with_open_sum}

-- Whoever sends it on puts in a sum that makes that of the transport part 0: then the whole is right.
abbrev pub OpenComesRight : Type 0
OpenComesRight = (header packet : List ℕ) (sum : ℕ) → leaves_open header packet ≡ true → sum < 2 ^ 16
    → (sum + total (transport (with_open_sum header packet))) % 65535 ≡ 0
    → IsRightTransport (put_u16 (checksum_at packet) sum (with_open_sum header packet))

abbrev pub LeavesAlike : Type 0
LeavesAlike = (side : ℕ) (headers : List (List ℕ)) (one two : List Reply) (rest more : List ℕ)
    → AllByRecursion FitsReply one → AllByRecursion FitsReply two → HasNoReply rest → HasNoReply more
    → flat_map reply_frame one ++ rest ≡ flat_map reply_frame two ++ more
    → leaving side headers one ≡ leaving side headers two
