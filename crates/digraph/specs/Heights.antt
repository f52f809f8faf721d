-- The lengths of longest paths, counted round by round. No public clause cites this module.
use Rattle.std.specs.Prelude.{◌≡◌, ◌↔◌, ℕ, ◌+◌, ◌<◌, ◌≤◌}
use Rattle.digraph.specs.Paths.{HasPath}

-- the length of the longest path from each, counted up to a bound
abbrev pub AreHeights : (ℕ → ℕ → Type 0) → ℕ → (ℕ → ℕ) → Type 0
AreHeights E bound f = (a n : ℕ) → (n ≤ f a) ↔ ((n ≤ bound) × HasPath E n a)

-- each new height is one more than the greatest old one that a step leads to, or 0
pub record IsRaised (E : ℕ → ℕ → Type 0) (old new : ℕ → ℕ) : Type 0 where
  pub upper : (a b : ℕ) → E a b → old b < new a
  pub reached : (a : ℕ) → 0 < new a → (b : ℕ) × E a b × (new a ≡ old b + 1)
