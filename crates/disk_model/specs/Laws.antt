-- What holds of every disk.
use Rattle.std.specs.Prelude.{◌≡◌, ◌≢◌, ◌⊎◌, ℕ, zero, suc, ◌≤◌, List}
use Rattle.disk_model.specs.declared.disk.FileId.{FileId}
use Rattle.disk_model.specs.Disk.{Files, Same, TornIn, Elsewhere, Goes, Leaves, LeftNow, Looks, Synced}

module _ {D : Type 0} (honest : D → Type 0) (moment : D → ℕ) (left : D → ℕ → Files → Type 0) where
  -- one call: it looks or syncs, or it writes
  abbrev pub IsCall : D → D → Type 0
  IsCall old new = Goes moment left old new Same
      ⊎ ((file : FileId) × (at : ℕ) × (bytes : List ℕ)
      × Goes moment left old new (TornIn file at bytes))

  -- so many calls, one after the other
  abbrev pub AreCalls : ℕ → D → D → Type 0
  AreCalls zero old new = old ≡ new
  AreCalls (suc n) old new = (mid : D) × AreCalls n old mid × IsCall mid new

  -- A call keeps what might have been left since a moment, and of two moments the earlier has all that the later has.
  pub record OnlyWidens : Type 0 where
    pub with_calls : (old new : D) (t : ℕ) (files : Files) → IsCall old new → t ≤ moment old
        → left old t files → left new t files
    pub with_moments : (disk : D) (s t : ℕ) (files : Files) → s ≤ t
        → left disk t files → left disk s files
    -- so what a crash leaves between two of several calls, it might have left since the first of them began
    pub between : (m n : ℕ) (old mid new : D) (files : Files) → AreCalls m old mid
        → AreCalls n mid new → LeftNow moment left mid files → left new (moment old) files
    -- and so of one within a call: at a moment since the first began, by the disk as that call ends
    pub within : (m n : ℕ) (old mid new : D) (t : ℕ) (files : Files) → AreCalls m old mid
        → AreCalls n mid new → moment old ≤ t → left mid t files → left new (moment old) files

  module _ (seen : D → Files) where
    -- after calls that only look
    abbrev pub StaysSynced : Type 0
    StaysSynced = (old new : D) (file : FileId) → honest new → Looks moment left seen old new
        → Synced moment left seen old file → Synced moment left seen new file

    -- after calls that leave each file but another as it was, on the disk and as it reads
    abbrev pub StaysSyncedElsewhere : Type 0
    StaysSyncedElsewhere = (old new : D) (file written : FileId) → honest new → file ≢ written
        → Leaves moment left old new (Elsewhere written) → Elsewhere written (seen old) (seen new)
        → Synced moment left seen old file → Synced moment left seen new file
