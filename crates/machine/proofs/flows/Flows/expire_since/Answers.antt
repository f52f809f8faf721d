use Rattle.std.proofs.Common.{◌≡◌, [], true, sym, subst}
use Rattle.sessions.specs.Life.{alive}
use Rattle.sessions.specs.Listing.{listing}
use Rattle.hairpin.proofs.Soundness.{filter-all}
use Rattle.machine.proofs.Keepings.{noted-nothing}
use Rattle.machine.proofs.Stepping.{none-ended}
use Rattle.machine.proofs.flows.Flows.expire_since.Goals as goal

-- before the clock rises all are alive, and the filter keeps them
pub returns-then-now-clock-clause-ok : goal.returns-then-now-clock-clause-ok
returns-then-now-clock-clause-ok g c =
    sym (filter-all (alive c.args.now) (listing c.args.self.now.table.held) (λ s is. subst (λ n. alive n s ≡ true) (sym c.if-now-clock.true) (c.requires.live s is)))

pub returns-then-now-clock-clause-noted : goal.returns-then-now-clock-clause-noted
returns-then-now-clock-clause-noted g c =
    let sessions = listing c.args.self.now.table.held in
    let stay = filter-all (alive c.args.now) sessions (λ s is. subst (λ n. alive n s ≡ true) (sym c.if-now-clock.true) (c.requires.live s is)) in
    ([], none-ended c.args.now sessions (sym stay), noted-nothing g.N.Notes.keeps g.N.Notes.beside g.N.Notes.noted c.args.notes.now)
