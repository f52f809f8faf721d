use Rattle.std.proofs.Common.{sym, ap, ◌∙◌}
use Rattle.sessions.specs.Listing.{listing}
use Rattle.hairpin.specs.Legs.{first_by}
use Rattle.hairpin.proofs.hairpinning.first_leg.Goals as goal

pub returns-in-Ok-first_session-clause-session : goal.returns-in-Ok-first_session-clause-session
returns-in-Ok-first_session-clause-session c = λ rules.
    ap (first_by c.args.asking.now.bounds.now rules (listing c.args.asking.now.table.now.held) c.args.asking.now.moment c.args.asking.now.view.now) c.in-Err.ensures.none ∙ sym (c.in-Ok-first_session.ensures rules)

pub returns-in-Err-first_session-clause-cause : goal.returns-in-Err-first_session-clause-cause
returns-in-Err-first_session-clause-cause c = λ rules.
    ap (first_by c.args.asking.now.bounds.now rules (listing c.args.asking.now.table.now.held) c.args.asking.now.moment c.args.asking.now.view.now) c.in-Err.ensures.none ∙ sym (c.in-Err-first_session.ensures rules)
