use Rattle.sessions.proofs.Found.{found_outside}
use Rattle.hairpin.proofs.going.glanced_in.Goals as goal

pub returns-clause-session : goal.returns-clause-session
returns-clause-session c =
    let view = c.args.view.now in
    let it = c.in_ok-slot in
    found_outside c.args.table.now.held c.facts.ensures view.proto view.dst view.src it.slot it.session it.ensures.held it.ensures.session
