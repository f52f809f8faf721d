use Rattle.std.proofs.Common.{◌≡◌, ◌++◌, take}
use Rattle.std.specs.List.{flat_map}
use Rattle.session_lines.specs.Objects.{object}
use Rattle.session_lines.proofs.object.put_each.Given as goal

-- the objects of the sessions before this one are there
abbrev pub invariant-loop-session : goal.invariant-loop-session
invariant-loop-session l = l.out.items ≡ l.initial.out.items ++ flat_map object (take l.session-index l.sessions)
