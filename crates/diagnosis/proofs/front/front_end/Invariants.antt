use Rattle.std.proofs.Common.{◌-◌}
use Rattle.diagnosis.specs.Probing.{Brackets}
use Rattle.diagnosis.proofs.front.front_end.Given as goal

abbrev pub invariant-loop-high : goal.invariant-loop-high
invariant-loop-high l = Brackets l.file l.low l.high

abbrev pub decreases-loop-high : goal.decreases-loop-high
decreases-loop-high l = l.high - l.low
