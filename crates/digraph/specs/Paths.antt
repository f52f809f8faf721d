-- Paths in a directed graph: a relation of numbers, its places, that holds where a step leads from the one to the
-- other.
use Rattle.std.specs.Prelude.{◌≡◌, ℕ, zero, suc, ◌<◌}

-- a path of so many steps from the one to the other
abbrev pub Path : (ℕ → ℕ → Type 0) → ℕ → ℕ → ℕ → Type 0
Path E zero a b = a ≡ b
Path E (suc n) a b = (c : ℕ) × E a c × Path E n c b

abbrev pub HasPath : (ℕ → ℕ → Type 0) → ℕ → ℕ → Type 0
HasPath E n a = (b : ℕ) × Path E n a b

-- some number reaches itself
abbrev pub HasLoop : (ℕ → ℕ → Type 0) → Type 0
HasLoop E = (a : ℕ) × (n : ℕ) × Path E (suc n) a a

-- some path has more than so many steps
abbrev pub IsDeeper : (ℕ → ℕ → Type 0) → ℕ → Type 0
IsDeeper E most = (n : ℕ) × (a : ℕ) × (most < n) × HasPath E n a

-- some number of these reaches it, by steps or by none
abbrev pub IsReachedFrom : (ℕ → ℕ → Type 0) → (ℕ → Type 0) → ℕ → Type 0
IsReachedFrom E From b = (a : ℕ) × From a × (n : ℕ) × Path E n a b
