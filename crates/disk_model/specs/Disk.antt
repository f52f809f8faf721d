-- What the calls of a disk do to its two files, and what a crash may do between two syncs.
use Rattle.std.specs.Prelude.{◌<◌, ◌≡◌, ◌≢◌, ◌⊎◌, ℕ, ◌+◌, ◌-◌, ◌≤◌, ◌^◌, min, List, [], ◌∷◌, ◌++◌, length, take, drop, get_or}
use Rattle.disk_model.specs.declared.disk.FileId.{FileId}
use Rattle.disk_model.specs.declared.disk.FileId.TheVariants.{A, B}

-- the bytes of each file
abbrev pub Files : Type 0
Files = FileId → List ℕ

-- two files by their bytes
abbrev pub pair : List ℕ → List ℕ → Files
pair a b A = a
pair a b B = b

-- the other one of the two
abbrev pub other : FileId → FileId
other A = B
other B = A

abbrev pub Same : Files → Files → Type 0
Same old new = (file : FileId) → new file ≡ old file

-- each file but this one stays
abbrev pub Elsewhere : FileId → Files → Files → Type 0
Elsewhere file old new = (another : FileId) → another ≢ file → new another ≡ old another

-- the old bytes with these at this place
abbrev pub put : ℕ → List ℕ → List ℕ → List ℕ
put at bytes old = take at old ++ bytes ++ drop (at + length bytes) old

-- one file has these bytes at this place
pub record Put (file : FileId) (at : ℕ) (bytes : List ℕ) (old new : Files) : Type 0 where
  pub here : new file ≡ put at bytes (old file)
  pub elsewhere : Elsewhere file old new

-- A write that a crash cuts short: any bytes in its range and past the end, the others stay, and no file gets shorter.
pub record Torn (at : ℕ) (bytes old new : List ℕ) : Type 0 where
  pub no_shorter : length old ≤ length new
  pub outside : (k : ℕ) → k < length old → (k < at) ⊎ (at + length bytes ≤ k)
      → get_or new k 0 ≡ get_or old k 0
  -- the closing byte: a write of the one byte 0 makes no 1
  pub closing : bytes ≡ 0 ∷ [] → get_or new at 0 ≡ 1 → get_or old at 0 ≡ 1

-- what a write, whole, failed or cut short, may make of a pair of files: as they read, or as a crash leaves them
pub record TornIn (file : FileId) (at : ℕ) (bytes : List ℕ) (old new : Files) : Type 0 where
  pub here : Torn at bytes (old file) (new file)
  pub elsewhere : Elsewhere file old new

-- the count of calls has grown by this many; at the greatest u64 it stays
abbrev pub Called : ℕ → ℕ → ℕ → Type 0
Called calls before now = now ≡ min (before + calls) (2 ^ 64 - 1)

-- the count of failures has grown; at the greatest u64 it stays, and counts as grown
abbrev pub Grew : ℕ → ℕ → Type 0
Grew before now = (before < now) ⊎ (2 ^ 64 ≤ now + 1)

-- If a call of the disk has failed, the count of failures grows, by one; if none has, it stays.
pub record HasCause (before now : ℕ) (HasFailed : Type 0) : Type 0 where
  pub later : before ≤ now
  pub by_one : now ≤ before + 1
  pub failed : HasFailed → Grew before now
  pub others : ¬ HasFailed → now ≡ before

module _ {D : Type 0} (moment : D → ℕ) (left : D → ℕ → Files → Type 0) where
  -- what a crash may leave now
  abbrev pub LeftNow : D → Files → Type 0
  LeftNow disk files = left disk (moment disk) files

  -- it comes by this step from what could be left at the entry
  abbrev pub FromLeft : D → (Files → Files → Type 0) → Files → Type 0
  FromLeft old Step files = (before : Files) × LeftNow old before × Step before files

  -- One call: what may be left now comes by this step from what could be left before, and the past stays as it was.
  pub record Goes (old new : D) (Step : Files → Files → Type 0) : Type 0 where
    pub later : moment old ≤ moment new
    pub now : (files : Files) → LeftNow new files → FromLeft old Step files
    pub nothing_else : (t : ℕ) (files : Files) → t ≤ moment old → left new t files
        → left old t files ⊎ LeftNow new files
    pub keeps : (t : ℕ) (files : Files) → t ≤ moment old → left old t files → left new t files

  -- A run of calls: what a crash at any moment since the entry leaves comes by this step from what could be left at it.
  pub record Leaves (old new : D) (Step : Files → Files → Type 0) : Type 0 where
    pub later : moment old ≤ moment new
    pub each : (files : Files) → left new (moment old) files → FromLeft old Step files
    -- for a run that began earlier
    pub before : (t : ℕ) (files : Files) → t ≤ moment old → left new t files
        → left old t files ⊎ FromLeft old Step files

  -- a crash at any moment since the entry leaves only such files
  abbrev pub LeavesOnly : D → D → (Files → Type 0) → Type 0
  LeavesOnly old new P = Leaves old new (λ before files. P files)

  -- a crash now leaves only such files
  abbrev pub LeavesNow : D → (Files → Type 0) → Type 0
  LeavesNow disk P = (files : Files) → LeftNow disk files → P files

  -- of this file a crash leaves now what a read returns
  abbrev pub Synced : (D → Files) → D → FileId → Type 0
  Synced seen disk file = (files : Files) → LeftNow disk files → files file ≡ seen disk file

  -- A run of calls that only look: the files stay as they read, and a crash leaves nothing that it couldn't leave
  -- before.
  pub record Looks (seen : D → Files) (old new : D) : Type 0 where
    pub stays : Same (seen old) (seen new)
    pub leaves : Leaves old new Same
