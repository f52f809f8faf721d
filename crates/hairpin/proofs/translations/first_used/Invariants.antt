use Rattle.std.proofs.Common.{◌≡◌, ℕ, Bool, Contains, length}
use Rattle.std.specs.Prelude.{find}
use Rattle.portpick.specs.Choice.{IsTestOf}
use Rattle.mappings.specs.Map.{Uses}
use Rattle.hairpin.proofs.translations.first_used.Given as goal

-- none so far is used, and what is left is of the addresses
abbrev pub invariant-loop-rest : goal.invariant-loop-rest
invariant-loop-rest l = ((uses : ℕ → Bool) → IsTestOf uses (Uses l.map l.host) → find uses l.addresses ≡ find uses l.rest) × ((x : ℕ) → Contains l.rest x → Contains l.addresses x)

abbrev pub decreases-loop-rest : goal.decreases-loop-rest
decreases-loop-rest l = length l.rest
