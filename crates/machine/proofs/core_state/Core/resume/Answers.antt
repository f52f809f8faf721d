use Rattle.std.proofs.Common.{sym, subst}
use Rattle.machine.specs.Sound.{IsInForce}
use Rattle.machine.proofs.Resuming.{resumed}
use Rattle.machine.proofs.core_state.Core.resume.Goals as goal

pub invariant_of-state : goal.invariant_of-state
invariant_of-state c =
    let again = c.in_ok-in_force.in_force in
    resumed c.args.bounds again.text again.rules c.in-Ok.flows c.args.moment c.args.sessions.now c.requires.sessions c.in-Ok.ensures.external c.in-Ok.ensures.sessions
    (subst (λ text. IsInForce c.args.bounds text again.rules) (sym c.in_ok-in_force.ensures.text) c.in_ok-in_force.ensures.rules)
