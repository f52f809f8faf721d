use Rattle.machine.proofs.Changed.{restart_became, seen_became}
use Rattle.machine.proofs.Resuming.{begun-joins}
use Rattle.machine.proofs.flows.Flows.apply.Goals as goal

pub begin-requires-clause-may : goal.begin-requires-clause-may
begin-requires-clause-may c =
    let gives = rw c.in-Begin.is at c.requires.gives.1 in
    begun-joins c.args.self.now.translations.external c.args.self.now.table.held c.args.now c.in-Begin.session gives.1

pub returns-in-Seen-clause-became : goal.returns-in-Seen-clause-became
returns-in-Seen-clause-became c = rw c.in-Seen.is (seen_became c.args.self.now.translations.external c.args.self.now.table.held c.see.new.self.table.held c.args.now c.in-Seen.slot c.in-Seen.bits c.see.ensures.became)

pub returns-in-Restart-clause-became : goal.returns-in-Restart-clause-became
returns-in-Restart-clause-became c = rw c.in-Restart.is (restart_became c.args.self.now.translations.external c.args.self.now.table.held c.restart.new.self.table.held c.args.now c.in-Restart.slot c.in-Restart.opener c.restart.ensures.became)
