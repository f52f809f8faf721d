-- The outcomes that a crash of the disk in memory chooses from.
use Rattle.std.specs.Prelude.{ℕ, ◌-◌, ◌/◌, ◌%◌, ◌^◌, Bool, false, not, ◌&&◌, if◌then◌else◌, nat_eq, List, [], ◌∷◌, ◌++◌, length, get_or, replicate, Option, Some, None}
use Rattle.disk_model.specs.Disk.{Files, put}
use Rattle.trial_disk.specs.Recorded.{Patch, History, since}
use Rattle.disk_model.specs.declared.disk.FileId.TheVariants.{A, B}

-- the single byte 0
abbrev pub is_closing : List ℕ → Bool
is_closing [] = false
is_closing (byte ∷ []) = nat_eq byte 0
is_closing (byte ∷ second ∷ rest) = false

-- 1 at every byte, but 0 where a closing byte finds no 1
abbrev pub ones : Patch → List ℕ → List ℕ
ones w before =
    if is_closing w.bytes && not (nat_eq (get_or before w.at 0) 1) then 0 ∷ []
    else replicate (length w.bytes) 1

-- What comes of a write under a choice, none or as many bytes. The number is the write's since the sync, from 0.
abbrev pub comes : ℕ → ℕ → Patch → List ℕ → Option (List ℕ)
comes choice number w before =
    if nat_eq choice 0 then None
    else if nat_eq choice 1 then Some w.bytes
    else if nat_eq choice 2 then Some (ones w before)
    else if nat_eq choice 3 then Some (replicate (length w.bytes) 255)
    else if nat_eq (choice / 2 ^ (number % 64) % 2) 1 then Some w.bytes
    else None

-- bytes at a place that may lie past the end; what lies between is 0
abbrev pub placed : ℕ → List ℕ → List ℕ → List ℕ
placed at bytes old = put at bytes (old ++ replicate (at - length old) 0)

abbrev pub laid : ℕ → Option (List ℕ) → List ℕ → List ℕ
laid at None before = before
laid at (Some bytes) before = placed at bytes before

-- what a crash leaves of a file under a choice
abbrev pub chosen : ℕ → List Patch → List ℕ → List ℕ
chosen choice [] base = base
chosen choice (w ∷ earlier) base =
    laid w.at (comes choice (length earlier) w (chosen choice earlier base))
    (chosen choice earlier base)

abbrev pub crashed : ℕ → History → Files
crashed choice h file = chosen choice (since h h.done file).writes (since h h.done file).base

-- two files that a crash left, and nothing done since
abbrev pub restarted : ℕ → History → History
restarted choice h =
    record { first_a = crashed choice h A; first_b = crashed choice h B; done = [] }
