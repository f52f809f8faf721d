use Rattle.std.proofs.Common.{◌≡◌, ℕ, Bool, Contains, length}
use Rattle.portpick.specs.Pool.{first_port}
use Rattle.hairpin.specs.Translations.{TellsTaken}
use Rattle.hairpin.proofs.translations.Translations.choose_first.Given as goal

-- none so far gives the port one, and what is left is of the addresses
abbrev pub invariant-loop-rest : goal.invariant-loop-rest
invariant-loop-rest l =
    ((taken : ℕ → ℕ → Bool) → TellsTaken l.self l.proto taken → first_port taken l.port l.self.external ≡ first_port taken l.port l.rest)
    × ((x : ℕ) → Contains l.rest x → Contains l.self.external x)

abbrev pub decreases-loop-rest : goal.decreases-loop-rest
decreases-loop-rest l = length l.rest
