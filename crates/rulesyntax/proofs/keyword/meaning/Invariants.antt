use Rattle.std.proofs.Common.{◌≡◌, length}
use Rattle.std.specs.Prelude.{map}
use Rattle.rulesyntax.specs.Words.{lookup}
use Rattle.rulesyntax.proofs.keyword.meaning.Given as goal

abbrev pub invariant-loop-rest : goal.invariant-loop-rest
invariant-loop-rest g l = lookup (map (λ entry. (entry.0.now, entry.1)) l.rest) l.word ≡ lookup g.K.Keyword.words l.word

abbrev pub decreases-loop-rest : goal.decreases-loop-rest
decreases-loop-rest g l = length l.rest
