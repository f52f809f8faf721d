-- What a call of one file does to it, and what a crash may leave of it.
use Rattle.std.specs.Prelude.{◌≡◌, ℕ, ◌+◌, ◌≤◌, List, length, take, drop, Result, OnOk, IfOk}
use Rattle.disk_model.specs.Disk.{put, Torn}

-- A file by three members: it behaves as the model says, the bytes that a read gives, and what a crash now may leave.
module _ {F : Type 0} (honest : F → Type 0) (holds : F → List ℕ) (leaves : F → List ℕ → Type 0) where
  -- a crash may leave nothing that it couldn't leave before
  abbrev pub NoMore : F → F → Type 0
  NoMore old new = (bytes : List ℕ) → leaves new bytes → leaves old bytes

  -- what may be left comes by this step from what could be left before
  abbrev pub LeavesBy : (List ℕ → List ℕ → Type 0) → F → F → Type 0
  LeavesBy Step old new = (now : List ℕ) → leaves new now
      → (before : List ℕ) × leaves old before × Step before now

  module _ {T E : Type 0} (result : Result T E) where
    -- a file that wasn't honest isn't later, and one that was is still so after a call that passed
    pub record KeepsHonest (old new : F) : Type 0 where
      pub was : honest new → honest old
      pub stays : OnOk result (honest old → honest new)

    -- a call that only looks
    pub record Looks (old new : F) : Type 0 where
      pub keeps : KeepsHonest old new
      pub stays : honest old → holds new ≡ holds old
      pub crash : honest old → NoMore old new

  -- the length was asked for
  pub record Measures {E : Type 0} (result : Result ℕ E) (old new : F) : Type 0 where
    pub looks : Looks result old new
    pub measured : honest old → IfOk result (λ n. n ≡ length (holds old))

  -- a read at this place into these bytes left those; the range lies within the file
  pub record Fills {E : Type 0} (at : ℕ) (into now : List ℕ) (result : Result (Unit {0}) E)
      (old new : F) : Type 0 where
    pub looks : Looks result old new
    pub filled : honest old → at + length into ≤ length (holds old)
        → OnOk result (now ≡ take (length into) (drop at (holds old)))

  -- a write of these bytes; the place is at most the file's length
  pub record Puts {E : Type 0} (at : ℕ) (bytes : List ℕ) (result : Result (Unit {0}) E)
      (old new : F) : Type 0 where
    pub keeps : KeepsHonest result old new
    pub written : honest old → at ≤ length (holds old)
        → OnOk result (holds new ≡ put at bytes (holds old))
    pub torn : honest old → at ≤ length (holds old) → Torn at bytes (holds old) (holds new)
    pub crash : honest old → at ≤ length (holds old) → LeavesBy (Torn at bytes) old new

  -- A sync: what a crash leaves then is what a read gives, and nothing else changes. Of one that failed, what a read
  -- gives could have been left before.
  pub record Syncs {E : Type 0} (result : Result (Unit {0}) E) (old new : F) : Type 0 where
    pub keeps : KeepsHonest result old new
    pub synced : honest old → OnOk result ((bytes : List ℕ) → leaves new bytes → bytes ≡ holds new)
    pub stays : honest old → OnOk result (holds new ≡ holds old)
    pub outcome : honest old → leaves old (holds new)
    pub crash : honest old → NoMore old new
