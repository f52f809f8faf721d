-- What the next gateway finds of two files that an opening has prepared, or has left, as `gateway/specs/Lives` asks.
use Rattle.std.specs.Prelude.{ℕ, List, []}
use Rattle.packet.specs.Config.{Config}
use Rattle.disk_model.specs.Disk.{Files, LeavesNow}
use Rattle.durable.specs.Entering.{Durable}
use Rattle.durable.specs.Recovery.{IsConfigured, Recovers}
use Rattle.file_disk.specs.Filed.{Filed, LeavesBoth, LeftSince, OfBoth, both_hold, moment_of}
use Rattle.file_disk.specs.Prepared.{IsLeft, IsPrepared, IsWhole}
use Rattle.gateway.specs.Lives.{Life, NextFinds}

module _ {F : Type 0} (honest : F → Type 0) (holds : F → List ℕ) (leaves : F → List ℕ → Type 0)
    (config : Config) where
  -- what the next gateway over two such files may find after these lives
  abbrev pub MayBeFound : Durable → List (Life (Filed F)) → Files → Type 0
  MayBeFound = NextFinds (OfBoth honest) moment_of (LeftSince leaves) (both_hold holds) config

  -- a crash leaves only such of these two
  abbrev pub LeaveFound : Durable → List (Life (Filed F)) → F × F → Type 0
  LeaveFound first earlier both = (files : Files) → LeavesBoth leaves both files
      → MayBeFound first earlier files

  pub record OpeningsFind (lacks_space : F → Type 0) : Type 0 where
    -- of two files that were prepared, as a disk
    pub prepared : (first : Durable) (earlier : List (Life (Filed F))) (room : ℕ) (found : F × F)
        (disk : Filed F) → honest found.0 → honest found.1
        → IsPrepared honest holds leaves lacks_space room found.0 disk.files.a
        → IsPrepared honest holds leaves lacks_space room found.1 disk.files.b
        → LeaveFound first earlier found
        → LeavesNow moment_of (LeftSince leaves) disk (MayBeFound first earlier)
    -- and of two that an opening left which failed
    pub left : (first : Durable) (earlier : List (Life (Filed F))) (found now : F × F)
        → honest found.0 → honest found.1
        → IsLeft honest holds leaves found.0 now.0 → IsLeft honest holds leaves found.1 now.1
        → LeaveFound first earlier found → LeaveFound first earlier now
    -- If no earlier life is known, but both files are whole and synced, `first` is what they read as. So a gateway of a
    -- former version may have been stopped within a call.
    pub read : (room : ℕ) (found : F × F) (disk : Filed F) (first : Durable)
        → IsWhole honest holds leaves room found.0 disk.files.a
        → IsWhole honest holds leaves room found.1 disk.files.b
        → Recovers (both_hold holds disk) first → IsConfigured config (both_hold holds disk)
        → LeavesNow moment_of (LeftSince leaves) disk (MayBeFound first [])
