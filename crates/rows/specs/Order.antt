-- How the entries lie in runs. No public clause cites this module.
use Rattle.std.specs.Prelude.{◌≡◌, ⊤, ℕ, ◌+◌, ◌*◌, ◌<◌, ◌≤◌, List, [], ◌∷◌, ◌++◌, map, length, take, vec_capacity, slice_index_or, Some}
use Rattle.std.specs.List.{flat_map, All, AllWithin}
use Rattle.std.specs.declared.vec.Vec.{Vec}
use Rattle.std.specs.declared.alloc.Global.{Global}
use Rattle.rows.specs.declared.Entry.{Entry}
use Rattle.rows.specs.Held.{value_at}
use Rattle.rows.specs.declared.runs.Run.{Run}

-- the entries of the runs, one run after another
abbrev pub held_in : List Run → List Entry
held_in runs = flat_map (λ (r : Run). r.entries.items) runs

-- A run as numbers: twice its low bound, and for each entry one more than twice its key. So a key that
-- is the bound of its run stands above it, and a key below the bound of the next run stands below that.
abbrev pub odd : Entry → ℕ
odd entry = 2 * entry.key + 1

abbrev pub even : Run → ℕ
even run = 2 * run.low

abbrev pub numbers : Run → List ℕ
numbers run = even run ∷ map odd run.entries.items

abbrev pub numbers_in : List Run → List ℕ
numbers_in runs = flat_map numbers runs

abbrev pub Above : ℕ → List ℕ → Type 0
Above x [] = ⊤
Above x (y ∷ ys) = (x < y) × Above x ys

abbrev pub Below : List ℕ → ℕ → Type 0
Below [] x = ⊤
Below (y ∷ ys) x = (y < x) × Below ys x

abbrev pub Rising : List ℕ → Type 0
Rising [] = ⊤
Rising (x ∷ xs) = Above x xs × Rising xs

-- the runs lie in order
abbrev pub AreOrdered : List Run → Type 0
AreOrdered runs = Rising (numbers_in runs)

abbrev pub AreKeysRising : List Entry → Type 0
AreKeysRising entries = Rising (map odd entries)

-- the most entries of a run
abbrev pub most : ℕ
most = 64

-- half of them
abbrev pub half : ℕ
half = 32

-- a run can hold as many entries as a run may, and has no more
pub record IsWide (run : Run) : Type 0 where
  pub few : length run.entries.items ≤ most
  pub wide : most ≤ vec_capacity run.entries

pub record IsSpare (run : Vec Entry Global) : Type 0 where
  pub empty : run.items ≡ []
  pub wide : most ≤ vec_capacity run

-- the runs lie in order, and each spare run has its place among the runs, and each run among the spare ones
pub record AreSound (runs : Vec Run Global) (spare : Vec (Vec Entry Global) Global) : Type 0 where
  pub ordered : AreOrdered runs.items
  pub wide : All IsWide runs.items
  pub spares : All IsSpare spare.items
  pub runs_fit : length runs.items + length spare.items ≤ vec_capacity runs
  pub spares_fit : length runs.items + length spare.items ≤ vec_capacity spare

-- a change of the runs that leaves them sound with the same spare ones
abbrev pub KeepsSound : Vec Run Global → Vec Run Global → Type 0
KeepsSound old new = (spare : Vec (Vec Entry Global) Global) → AreSound old spare
    → AreSound new spare

-- the run of this number is cut in two, with its higher half behind it
pub record IsCut (old new : List Run) (number : ℕ) : Type 0 where
  pub front : List Run
  pub back : List Run
  pub run : Run
  pub lower : Run
  pub higher : Run
  pub at : length front ≡ number
  pub old_is : old ≡ front ++ run ∷ back
  pub new_is : new ≡ front ++ lower ∷ higher ∷ back
  pub same : run.entries.items ≡ lower.entries.items ++ higher.entries.items
  pub low : lower.low ≡ run.low
  pub lower_few : length lower.entries.items < most
  pub higher_few : length higher.entries.items < most

-- the run of this number is the one that has the key, if any has
pub record IsRunFor (runs : List Run) (key : ℕ) (number : ℕ) : Type 0 where
  pub in_range : number < length runs
  pub low : (d : Run) → (slice_index_or runs number d).low ≤ key
  pub next : (d : Run) → number + 1 < length runs → key < (slice_index_or runs (number + 1) d).low

-- the key stands behind all runs before this number, and before all others
pub record IsGap (runs : List Run) (key : ℕ) (number : ℕ) : Type 0 where
  pub in_range : number ≤ length runs
  pub below : Below (numbers_in (take number runs)) (2 * key)
  pub above : AllWithin (λ (r : Run). key < r.low) runs number (length runs)

-- the smaller keys of the run stand before this place, and no other
pub record IsPlaceFor (entries : List Entry) (key : ℕ) (place : ℕ) : Type 0 where
  pub in_range : place ≤ length entries
  pub before : AllWithin (λ (e : Entry). e.key < key) entries 0 place
  pub after : AllWithin (λ (e : Entry). key ≤ e.key) entries place (length entries)

-- the entry at this place has the key
pub record IsEntryAt (entries : List Entry) (key : ℕ) (place : ℕ) : Type 0 where
  pub in_range : place < length entries
  pub has_key : (d : Entry) → (slice_index_or entries place d).key ≡ key

-- this entry stands at the place
abbrev pub IsEntryOf : List Entry → ℕ → Entry → Type 0
IsEntryOf entries place entry = (d : Entry) → slice_index_or entries place d ≡ entry

-- the entry that has the key stands at this place of the run of this number
pub record IsFoundAt (runs : List Run) (key number place : ℕ) : Type 0 where
  pub in_range : number < length runs
  pub in_run : (d : Run) → place < length (slice_index_or runs number d).entries.items
  pub has_key : (d : Run) (e : Entry)
      → (slice_index_or (slice_index_or runs number d).entries.items place e).key ≡ key
  pub has_value : (d : Run) (e : Entry) → value_at (held_in runs) key
      ≡ Some (slice_index_or (slice_index_or runs number d).entries.items place e).value
