use Rattle.std.proofs.Common.{◌≡◌, ◌+◌, ◌≤◌, ◌++◌, ℕ, List, false, length, vec_len, vec_capacity}
use Rattle.machine.specs.declared.event.Answer.{Answer}
use Rattle.gateway.specs.Running.{CarriesOn, SafeThrough}
use Rattle.gateway.proofs.running.take_all.Given as goal

abbrev pub invariant-loop-event : goal.invariant-loop-event
invariant-loop-event g l = record {
  can : (goal.iterator-loop-event g).can_next l.event-iterator;
  ends : (goal.iterator-loop-event g).is_finite l.event-iterator;
  split : l.fn.events.items ≡ l.yielded ++ l.event-iterator.rest.items;
  room : vec_len l.answers + length l.gateway.told.held + length l.event-iterator.rest.items ≤ vec_capacity l.answers;
  stands : l.gateway.fallen ≡ false;
  carries : (before : List (ℕ × Answer)) → CarriesOn g.D.Disk.honest g.D.Disk.moment g.D.Disk.left g.D.Disk.failed l.fn.gateway l.gateway l.yielded before (before ++ l.answers.items);
  through : (before : List (ℕ × Answer)) → SafeThrough g.D.Disk.honest g.D.Disk.moment g.D.Disk.left g.D.Disk.failed l.fn.gateway l.gateway l.yielded before;
}
