-- What contracts see of the disk in memory.
use Rattle.std.specs.Prelude.{◌≡◌, ◌⊎◌, ℕ, ◌/◌, ◌<◌, List, length, take}
use Rattle.disk_model.specs.declared.disk.FileId.{FileId}
use Rattle.trial_disk.specs.declared.meter.Turn.TheVariants.{Cut}
use Rattle.disk_model.specs.Disk.{Files, Synced as IsSynced}
use Rattle.trial_disk.specs.Recorded.{Wrote, History, LeftSince, did, reads}
use Rattle.trial_disk.specs.Metered.{Metered, ticked, failed, turn_of}

-- what was done to the two files, and what the calls count
pub record Simulated : Type 0 where
  pub history : History
  pub meter : Metered

-- what a read gives
abbrev pub seen_of : Simulated → Files
seen_of d = reads d.history

-- how many writes and syncs were done
abbrev pub moment_of : Simulated → ℕ
moment_of d = length d.history.done

abbrev pub MayBeLeft : Simulated → ℕ → Files → Type 0
MayBeLeft d t files = LeftSince d.history t files

-- of each file a crash leaves what a read gives
abbrev pub IsRested : Simulated → Type 0
IsRested d = (file : FileId) → IsSynced moment_of MayBeLeft seen_of d file

-- the call did this and is counted
abbrev pub passed : History → Simulated → Simulated
passed history old = record { history = history; meter = ticked old.meter }

-- the call has failed and is counted
abbrev pub failing : History → Simulated → Simulated
failing history old = record { history = history; meter = failed (ticked old.meter) }

-- the first half, rounded down
abbrev pub half : List ℕ → List ℕ
half bytes = take (length bytes / 2) bytes

-- A write that fails touches nothing. One that is cut puts its first half, where that is a byte or more and memory is
-- there.
abbrev pub FailsToWrite : FileId → ℕ → List ℕ → Simulated → Simulated → Type 0
FailsToWrite file at bytes old new =
    (new ≡ failing old.history old)
    ⊎ ((turn_of old.meter ≡ Cut) × (1 < length bytes)
    × (new ≡ failing (did (Wrote file at (half bytes)) old.history) old))
