use Rattle.std.proofs.Common.{◌≡◌, drop}
use Rattle.machine.proofs.Resuming.{ArePlaced}
use Rattle.machine.proofs.flows.Flows.of.Given as goal

-- the sessions before this one are held
abbrev pub invariant-loop-session : goal.invariant-loop-session
invariant-loop-session l = record {
  placed : ArePlaced l.moment l.sessions l.flows.table.held (drop l.session-index l.sessions);
  external : l.flows.translations.external ≡ l.bounds.external;
}
