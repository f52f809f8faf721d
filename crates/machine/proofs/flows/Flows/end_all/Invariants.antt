use Rattle.std.proofs.Common.{◌≡◌, ◌≢◌, ◌<◌, ◌≤◌, ◌+◌, ◌*◌, ℕ, None, slice_index, take}
use Rattle.sessions.specs.Table.{at}
use Rattle.machine.specs.Flows.{TakesMore}
use Rattle.machine.specs.Noted.{ends, sessions_at}
use Rattle.machine.specs.Outcomes.{Noted}
use Rattle.machine.proofs.flows.Flows.end_all.Given as goal

-- the slots before this one hold none, and the others what they held
abbrev pub invariant-loop-slot : goal.invariant-loop-slot
invariant-loop-slot g l = record {
  ended : (k : ℕ) → k < l.slot-index → at l.self.table (slice_index l.slots k) ≡ None;
  others : (place : ℕ) → ((k : ℕ) → k < l.slot-index → slice_index l.slots k ≢ place) → at l.self.table place ≡ at l.initial.self.table place;
  external : l.self.translations.external ≡ l.initial.self.translations.external;
  ready : (n : ℕ) → TakesMore n l.initial.self → TakesMore n l.self;
  noted : Noted g.N.Notes.keeps g.N.Notes.beside g.N.Notes.noted l.initial.notes l.notes (ends (sessions_at l.initial.self.table.held (take l.slot-index l.slots)));
  room : g.N.Notes.keeps l.initial.notes → g.N.Notes.room l.initial.notes ≤ g.N.Notes.room l.notes + 14 * l.slot-index;
}
