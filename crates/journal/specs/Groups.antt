-- Groups of entries in a file.
use Rattle.std.specs.Prelude.{◌<◌, ◌≤◌, ◌≡◌, ◌≢◌, ◌⊎◌, ℕ, ◌+◌, ◌-◌, ◌^◌, List, [], ◌∷◌, ◌++◌, length, take, drop, get_or, map, Option, Some, None, Vec}
use Rattle.std.specs.List.{All}
use Rattle.std.specs.declared.alloc.Global.{Global}
use Rattle.byteorder.specs.Endian.{big_bytes}
use Rattle.disk_model.specs.declared.disk.FileId.{FileId}
use Rattle.disk_model.specs.Disk.{Files, Elsewhere, Synced}

-- a body with its length before it and a closed gate behind it
abbrev pub sealed : List ℕ → List ℕ
sealed body = big_bytes 4 (length body) ++ (body ++ 0 ∷ [])

-- a body that grows, and how many bytes can be put behind it without memory
pub record Growing : Type 0 where
  pub body : List ℕ
  pub room : ℕ

-- the body in a buffer: behind the four bytes of its length, up to where it ends
abbrev pub body_in : ℕ → List ℕ → List ℕ
body_in end bytes = drop 4 (take end bytes)

-- up to the byte where its body ends the buffer holds this body sealed
pub record IsSealed (end : ℕ) (bytes : List ℕ) : Type 0 where
  pub sealed_is : take (end + 1) bytes ≡ sealed (body_in end bytes)
  pub long : 4 ≤ end
  pub within : end < length bytes
  pub fits : end < 2 ^ 32 + 4

-- open groups of these bodies: each an open gate, its length and its body
abbrev pub open_groups : List (List ℕ) → List ℕ
open_groups [] = []
open_groups (body ∷ bodies) = 1 ∷ (big_bytes 4 (length body) ++ (body ++ open_groups bodies))

-- From this place of the file stand open groups of these bodies, and behind the last of them, at the end, a closed
-- gate.
pub record Groups (file : List ℕ) (at : ℕ) (bodies : List (List ℕ)) (end : ℕ) : Type 0 where
  pub gate : ℕ
  pub rest : List ℕ
  pub split : drop at file ≡ open_groups bodies ++ gate ∷ rest
  pub closed : gate ≢ 1
  pub fit : All (λ body. length body < 2 ^ 32) bodies
  pub end_is : end ≡ at + length (open_groups bodies)

-- At this place stands an open group of this body, with a gate behind it.
pub record GroupAt (file : List ℕ) (at : ℕ) (body : List ℕ) : Type 0 where
  pub split : drop at file
      ≡ 1 ∷ (big_bytes 4 (length body) ++ (body ++ drop (at + 5 + length body) file))
  pub within : at + 5 + length body < length file
  pub fits : length body < 2 ^ 32

-- what reading one group gives: none at a closed gate
abbrev pub IsRead : List ℕ → ℕ → Option (Vec ℕ Global) → Type 0
IsRead file at None = (at < length file) × (get_or file at 0 ≢ 1)
IsRead file at (Some body) = GroupAt file at body.items

-- an open gate, and behind it no whole group
pub record IsBrokenAt (file : List ℕ) (at : ℕ) : Type 0 where
  pub open_gate : get_or file at 0 ≡ 1
  pub no_group : (body : List ℕ) → GroupAt file at body → ⊥

abbrev pub bodies_of : List (Vec ℕ Global) → List (List ℕ)
bodies_of bodies = map (λ (v : Vec ℕ Global). v.items) bodies

-- Before the place all stays. The groups that ended there still do, or they go on with the new one, whole.
pub record Extended (at : ℕ) (body old new : List ℕ) : Type 0 where
  pub before : take at new ≡ take at old
  pub groups : (start : ℕ) (bodies : List (List ℕ)) → Groups old start bodies at
      → Groups new start bodies at ⊎ Groups new start (bodies ++ body ∷ []) (at + length body + 5)

pub record Appended (file : FileId) (at : ℕ) (body : List ℕ) (old new : Files) : Type 0 where
  pub here : Extended at body (old file) (new file)
  pub elsewhere : Elsewhere file old new

module _ {D : Type 0} (moment : D → ℕ) (left : D → ℕ → Files → Type 0) (seen : D → Files) where
  -- a file is synced, with a closed gate at this place
  pub record Resting (disk : D) (file : FileId) (at : ℕ) : Type 0 where
    pub synced : Synced moment left seen disk file
    pub within : at < length (seen disk file)
    pub closed : get_or (seen disk file) at 0 ≢ 1

  -- a group stands behind the others, and the file rests at the gate behind it
  pub record GroupStands (old new : D) (file : FileId) (at : ℕ) (body : List ℕ)
      (next : ℕ) : Type 0 where
    pub next_is : next ≡ at + length body + 5
    pub resting : Resting new file next
    pub before : take at (seen new file) ≡ take at (seen old file)
    pub groups : (start : ℕ) (bodies : List (List ℕ)) → Groups (seen old file) start bodies at
        → Groups (seen new file) start (bodies ++ body ∷ []) next
    pub elsewhere : Elsewhere file (seen old) (seen new)

-- A file has one reading from a place on as open groups with a closed gate behind them.
abbrev pub GroupsOnce : Type 0
GroupsOnce = (file : List ℕ) (at end other : ℕ) (bodies others : List (List ℕ))
    → Groups file at bodies end → Groups file at others other
    → (bodies ≡ others) × (end ≡ other)
