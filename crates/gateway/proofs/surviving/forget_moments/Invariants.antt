use Rattle.std.proofs.Common.{◌≡◌, ◌++◌, map, take, drop}
use Rattle.sessions.specs.Stilled.{stilled}
use Rattle.gateway.proofs.surviving.forget_moments.Given as goal

-- those before this one are stilled
abbrev pub invariant-loop-session : goal.invariant-loop-session
invariant-loop-session l = l.sessions ≡ map stilled (take l.session-index l.initial.sessions) ++ drop l.session-index l.initial.sessions
