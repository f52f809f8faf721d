use Rattle.std.proofs.Common.{arith}
use Rattle.std.specs.Prelude.{find}
use Rattle.sessions.specs.Listing.{listing, same_flow}
use Rattle.machine.specs.Noted.{entries_for}
use Rattle.machine.proofs.Costs.{noted-few}
use Rattle.machine.proofs.Keepings.{noted-behind}
use Rattle.machine.proofs.flows.Flows.see_noted.Goals as goal

pub apply_noted-requires-clause-gives : goal.apply_noted-requires-clause-gives
apply_noted-requires-clause-gives g c =
    let give = c.requires.gives in
    let sessions = listing c.args.self.now.table.held in
    (give.0, give.1, λ keeps. omega (arith, noted-few (find (same_flow give.0) sessions) give.0, c.in_ok-make_room_for_packet.ensures.room (c.make_room_for_packet.ensures.noted.kept.1 keeps)))

pub returns-clause-noted : goal.returns-clause-noted
returns-clause-noted g c = λ t gives.
    noted-behind g.N.Notes.keeps g.N.Notes.beside g.N.Notes.noted c.args.notes.now c.make_room_for_packet.new.notes c.apply_noted.new.notes (entries_for (listing c.args.self.now.table.held) t) c.make_room_for_packet.ensures.noted (c.apply_noted.ensures.noted t gives)
