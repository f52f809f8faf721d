use Rattle.std.proofs.Common.{Ok, Err, sym, ◌∙◌}
use Rattle.sessions.specs.Listing.{listing}
use Rattle.hairpin.proofs.Planned.{second-none}
use Rattle.hairpin.proofs.hairpinning.second_session.Goals as goal

pub returns-in-Ok : goal.returns-in-Ok
returns-in-Ok c =
    let sessions = listing c.args.asking.now.table.now.held in
    c.begun_second.ensures c.args.asking.now.bounds.now c.args.asking.now.rules.now sessions
    ∙ second-none c.args.asking.now.bounds.now c.args.asking.now.rules.now sessions c.args.asking.now.moment c.args.asking.now.view.now c.args.first.now c.requires.goes_out.keeps c.requires.goes_out.away (sym c.needs_session.ensures ∙ c.if-needs_session.false) (Ok c.in-Ok.inside) (c.in-Ok.ensures c.args.asking.now.moment)

pub returns-in-Err : goal.returns-in-Err
returns-in-Err c =
    second-none c.args.asking.now.bounds.now c.args.asking.now.rules.now (listing c.args.asking.now.table.now.held) c.args.asking.now.moment c.args.asking.now.view.now c.args.first.now c.requires.goes_out.keeps c.requires.goes_out.away (sym c.needs_session.ensures ∙ c.if-needs_session.false) (Err c.in-Err.cause) (c.in-Err.ensures c.args.asking.now.moment)
