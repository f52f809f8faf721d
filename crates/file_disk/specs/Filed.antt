-- Two files as a disk: what a call asks of them, and what a crash at a moment may leave of both.
use Rattle.std.specs.Prelude.{◌≡◌, ℕ, ◌≤◌, List, ◌∷◌, [], ◌++◌, length, get_or, Option}
use Rattle.disk_model.specs.Disk.{Files, other}
use Rattle.disk_model.specs.declared.disk.FileId.{FileId}
use Rattle.disk_model.specs.declared.disk.FileId.TheVariants.{A, B}

-- two files, and both as they were before each call
pub record TwoFiles (F : Type 0) : Type 0 where
  pub a : F
  pub b : F
  pub past : List (F × F)

-- Two files, how many calls there were and how many have failed, and which file was last found away from its name.
pub record Filed (F : Type 0) : Type 0 where
  pub files : TwoFiles F
  pub calls : ℕ
  pub failures : ℕ
  pub strayed : Option FileId

module _ {F : Type 0} where
  abbrev pub file_of : TwoFiles F → FileId → F
  file_of files A = files.a
  file_of files B = files.b

  -- This file was asked so, and the other wasn't touched. The past has one moment more.
  pub record Asks (Asked : F → F → Type 0) (file : FileId) (old new : TwoFiles F) : Type 0 where
    pub here : Asked (file_of old file) (file_of new file)
    pub elsewhere : file_of new (other file) ≡ file_of old (other file)
    pub past : new.past ≡ old.past ++ (old.a, old.b) ∷ []

  -- both files at a moment; from the last one on, as they are
  abbrev pub at_moment : TwoFiles F → ℕ → F × F
  at_moment files k = get_or files.past k (files.a, files.b)

  -- the moment of now
  abbrev pub moment_of : Filed F → ℕ
  moment_of disk = length disk.files.past

-- this holds of both files
abbrev pub OfBoth : {F : Type 0} → (F → Type 0) → Filed F → Type 0
OfBoth P disk = P disk.files.a × P disk.files.b

-- what a read of each gives
abbrev pub both_hold : {F : Type 0} → (F → List ℕ) → Filed F → Files
both_hold holds disk A = holds disk.files.a
both_hold holds disk B = holds disk.files.b

module _ {F : Type 0} (leaves : F → List ℕ → Type 0) where
  -- what a crash may leave of two files; at one moment they are independent
  abbrev pub LeavesBoth : F × F → Files → Type 0
  LeavesBoth both files = leaves both.0 (files A) × leaves both.1 (files B)

  -- what a crash at any moment from that one on might have left of both
  abbrev pub LeftSince : Filed F → ℕ → Files → Type 0
  LeftSince disk t files = (k : ℕ) × (t ≤ k) × LeavesBoth (at_moment disk.files k) files
