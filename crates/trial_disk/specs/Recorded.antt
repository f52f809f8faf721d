-- What a record of writes and syncs says of two files: what a read gives, and what a crash may leave.
use Rattle.std.specs.Prelude.{◌≡◌, ℕ, ◌≤◌, Bool, true, false, if◌then◌else◌, List, [], ◌∷◌, ◌++◌, length, take}
use Rattle.disk_model.specs.declared.disk.FileId.{FileId}
use Rattle.disk_model.specs.declared.disk.FileId.TheVariants.{A, B}
use Rattle.disk_model.specs.Disk.{Files, Torn, pair, put}

-- a write or a sync that was done
pub data Done : Type 0 where
  Wrote : FileId → ℕ → List ℕ → Done
  Synced : FileId → Done

abbrev pub is_same : FileId → FileId → Bool
is_same A A = true
is_same A B = false
is_same B A = false
is_same B B = true

-- the bytes of a write, and their place
pub record Patch : Type 0 where
  pub at : ℕ
  pub bytes : List ℕ

-- one file since its last sync: its bytes then, and the writes from then on, the latest first
pub record Since : Type 0 where
  pub base : List ℕ
  pub writes : List Patch

-- what a read gives after these writes
abbrev pub read_after : List Patch → List ℕ → List ℕ
read_after [] base = base
read_after (w ∷ earlier) base = put w.at w.bytes (read_after earlier base)

-- what a crash may leave after these writes: each may be torn
abbrev pub MayLeave : List Patch → List ℕ → List ℕ → Type 0
MayLeave [] base left = left ≡ base
MayLeave (w ∷ earlier) base left = (before : List ℕ) × MayLeave earlier base before
    × Torn w.at w.bytes before left

-- one call more
abbrev pub heard : FileId → Done → Since → Since
heard file (Wrote of at bytes) since =
    if is_same file of
    then record { base = since.base; writes = record { at = at; bytes = bytes } ∷ since.writes }
    else since
heard file (Synced of) since =
    if is_same file of then record { base = read_after since.writes since.base; writes = [] }
    else since

abbrev pub heard_all : FileId → List Done → Since → Since
heard_all file [] since = since
heard_all file (d ∷ more) since = heard_all file more (heard file d since)

-- two files that were synced, and what was done from then on
pub record History : Type 0 where
  pub first_a : List ℕ
  pub first_b : List ℕ
  pub done : List Done

abbrev pub first_of : History → Files
first_of h = pair h.first_a h.first_b

abbrev pub since : History → List Done → FileId → Since
since h done file = heard_all file done (record { base = first_of h file; writes = [] })

-- what a read gives
abbrev pub reads : History → Files
reads h file = read_after (since h h.done file).writes (since h h.done file).base

-- these are both files as they read
abbrev pub Kept : History → List ℕ → List ℕ → Type 0
Kept h a b = (a ≡ reads h A) × (b ≡ reads h B)

-- what a crash may leave after these calls; the files are independent
abbrev pub LeftAfter : History → List Done → Files → Type 0
LeftAfter h done files = (file : FileId)
    → MayLeave (since h done file).writes (since h done file).base (files file)

-- What a crash might have left since this moment. A moment is a number of calls that were done.
abbrev pub LeftSince : History → ℕ → Files → Type 0
LeftSince h t files = (k : ℕ) × (t ≤ k) × (k ≤ length h.done) × LeftAfter h (take k h.done) files

-- a history goes on
abbrev pub did : Done → History → History
did d h = record { first_a = h.first_a; first_b = h.first_b; done = h.done ++ d ∷ [] }
