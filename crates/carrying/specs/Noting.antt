-- How many dropped packets are told of.
use Rattle.std.specs.Prelude.{◌≡◌, ℕ, ◌+◌, ◌≤◌, ◌==◌, if◌then◌else◌}

-- the most of a moment, the latest moment in seconds, how many of it were noted, and how many of those in the last turn
pub record Noted : Type 0 where
  pub most : ℕ
  pub moment : ℕ
  pub count : ℕ
  pub fresh : ℕ

-- how many of a moment were noted before
abbrev pub noted_at : ℕ → Noted → ℕ
noted_at moment noted = if moment == noted.moment then noted.count else 0

-- a turn at a moment, behind which no more of that moment are noted than there may be
pub record Notes (at : ℕ) (old new : Noted) : Type 0 where
  pub most_stays : new.most ≡ old.most
  pub moment_is : new.moment ≡ at
  pub counted : new.count ≡ noted_at at old + new.fresh
  pub bounded : new.count ≤ new.most

-- some more, or none
abbrev pub NotesMore : Noted → Noted → Type 0
NotesMore old new = (more : ℕ) × (new ≡ record old { count = old.count + more; fresh = old.fresh + more })
