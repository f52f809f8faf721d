use Rattle.std.proofs.Common.{◌≡◌, ◌++◌, map, take}
use Rattle.text_marks.specs.Lines.{visible}
use Rattle.text_marks.proofs.mark.put_visible.Given as goal

-- the bytes before this one are there
abbrev pub invariant-loop-b : goal.invariant-loop-b
invariant-loop-b l = l.out.items ≡ l.initial.out.items ++ map visible (take l.b-index l.bytes)
