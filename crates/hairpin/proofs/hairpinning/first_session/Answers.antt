use Rattle.std.proofs.Common.{◌≡◌, None, Ok, Err, sym, subst, ◌∙◌}
use Rattle.sessions.specs.Listing.{listing}
use Rattle.sessions.specs.declared.session.Session.{Session}
use Rattle.hairpin.specs.Legs.{first_by}
use Rattle.hairpin.proofs.Planned.{first-none}
use Rattle.hairpin.proofs.hairpinning.first_session.Goals as goal

pub returns-in-Ok : goal.returns-in-Ok
returns-in-Ok c = λ rules.
    subst (λ (s : Session). Ok s ≡ first_by c.args.asking.now.bounds.now rules (listing c.args.asking.now.table.now.held) c.args.asking.now.moment c.args.asking.now.view.now None) (sym c.new_session.ensures)
    (first-none c.args.asking.now.bounds.now rules (listing c.args.asking.now.table.now.held) c.args.asking.now.moment c.args.asking.now.view.now (sym c.needs_session.ensures ∙ c.if-needs_session.false) (Ok c.in-Ok.outside) (c.in-Ok.ensures rules c.args.asking.now.moment))

pub returns-in-Err : goal.returns-in-Err
returns-in-Err c = λ rules.
    first-none c.args.asking.now.bounds.now rules (listing c.args.asking.now.table.now.held) c.args.asking.now.moment c.args.asking.now.view.now (sym c.needs_session.ensures ∙ c.if-needs_session.false) (Err c.in-Err.cause) (c.in-Err.ensures rules c.args.asking.now.moment)
