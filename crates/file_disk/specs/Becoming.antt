-- What becomes of the bytes of two files that an opening has prepared, or has left.
use Rattle.std.specs.Prelude.{◌⊎◌, ℕ, List}
use Rattle.disk_model.specs.Disk.{Files, LeavesNow}
use Rattle.disk_model.specs.declared.disk.FileId.{FileId}
use Rattle.file_disk.specs.Filed.{Filed, LeavesBoth, LeftSince, moment_of}
use Rattle.file_disk.specs.Prepared.{IsLeft, IsLonger, IsOpen, IsPrepared}

-- What may become of a file's bytes: they are closed, and stay closed, whatever they are then; or they are open, and
-- stay, perhaps with more behind them. `gateway/specs/Lives` has the same words.
abbrev pub MayBecome : List ℕ → List ℕ → Type 0
MayBecome old new = ((¬ IsOpen old) × (¬ IsOpen new)) ⊎ (IsOpen old × IsLonger old new)

-- the same of each of two files
abbrev pub BothMayBecome : Files → Files → Type 0
BothMayBecome old new = (file : FileId) → MayBecome (old file) (new file)

module _ {F : Type 0} (honest : F → Type 0) (holds : F → List ℕ) (leaves : F → List ℕ → Type 0) where
  -- what a crash leaves now may have become of what it could leave before
  abbrev pub Becomes : F → F → Type 0
  Becomes old new = (bytes : List ℕ) → leaves new bytes
      → (before : List ℕ) × leaves old before × MayBecome before bytes

  pub record OpeningsKeepFiles (lacks_space : F → Type 0) : Type 0 where
    -- a file that was prepared
    pub prepared : (room : ℕ) (found file : F) → honest found
        → IsPrepared honest holds leaves lacks_space room found file → Becomes found file
    -- a file that an opening left which failed
    pub left : (found file : F) → honest found → IsLeft honest holds leaves found file
        → Becomes found file
    -- both files of a disk that was opened: each pair that a crash may leave may have become of one that it could leave
    -- of them as they were found
    pub both : (room : ℕ) (found : F × F) (disk : Filed F) → honest found.0 → honest found.1
        → IsPrepared honest holds leaves lacks_space room found.0 disk.files.a
        → IsPrepared honest holds leaves lacks_space room found.1 disk.files.b
        → LeavesNow moment_of (LeftSince leaves) disk (λ files. (before : Files)
        × LeavesBoth leaves found before × BothMayBecome before files)
    -- one opening after another
    pub further : (a b c : Files) → BothMayBecome a b → BothMayBecome b c → BothMayBecome a c
