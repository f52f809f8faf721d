use Rattle.std.proofs.Common.{length}
use denote.Shadow.{shadow}
use denote.Text.{Utf8}
use Rattle.checking.specs.Spelling.{SpellsAddress}
use Rattle.checking.proofs.Listed.{GoesOn}
use Rattle.checking.proofs.config.addresses.Given as goal

abbrev pub invariant-loop-front : goal.invariant-loop-front
invariant-loop-front l = shadow (Utf8 l.rest) × GoesOn SpellsAddress l.list l.found.items l.rest

abbrev pub decreases-loop-front : goal.decreases-loop-front
decreases-loop-front l = length l.rest
