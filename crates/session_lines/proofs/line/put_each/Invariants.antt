use Rattle.std.proofs.Common.{◌≡◌, ◌++◌, take}
use Rattle.std.specs.List.{flat_map}
use Rattle.session_lines.specs.Lines.{line}
use Rattle.session_lines.proofs.line.put_each.Given as goal

-- the lines of the sessions before this one are there
abbrev pub invariant-loop-session : goal.invariant-loop-session
invariant-loop-session l = l.out.items ≡ l.initial.out.items ++ flat_map line (take l.session-index l.sessions)
