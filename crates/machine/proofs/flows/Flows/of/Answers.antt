use Rattle.std.proofs.Common.{◌++◌, ◌+◌, drop, get_or, map, ap, ◌∙◌, subst}
use Rattle.std.proofs.lemmas.List.{drop_more}
use Rattle.sessions.specs.Stilled.{at_moment}
use Rattle.hairpin.proofs.Beginning.{listing-none}
use Rattle.machine.proofs.Resuming.{ArePlaced, joins-placed, latest-placed, nobody, placed-all, placed-next}
use Rattle.machine.proofs.flows.Flows.of.Goals as goal

pub loop-session-init : goal.loop-session-init
loop-session-init c = record {
  placed = ap (λ held. held ++ map (at_moment c.args.moment) c.args.sessions.now) (listing-none c.in_ok-flows.flows.table.held c.in_ok-flows.ensures.none);
  external = c.in_ok-flows.ensures.external ∙ c.external.ensures;
}

pub place-requires-clause-may : goal.place-requires-clause-may
place-requires-clause-may c =
    let all = c.args.sessions.now in
    let i = c.loop-session.session-index in
    let held = c.loop-session.flows.table.held in
    let before = c.loop-session.invariant in
    let are = subst (ArePlaced c.args.moment all held) (drop_more all i nobody c.loop-session-test.true) before.placed in
    joins-placed c.args.bounds.now c.args.moment all c.requires held (get_or all i nobody) (drop (i + 1) all) are c.loop-session.flows.translations.external before.external

pub place-requires-clause-latest : goal.place-requires-clause-latest
place-requires-clause-latest c =
    latest-placed c.args.moment c.args.sessions.now c.loop-session.flows.table.held (drop c.loop-session.session-index c.args.sessions.now) c.loop-session.invariant.placed

pub loop-session-preserved : goal.loop-session-preserved
loop-session-preserved c =
    let all = c.args.sessions.now in
    let i = c.loop-session.session-index in
    let held = c.loop-session.flows.table.held in
    let before = c.loop-session.invariant in
    let are = subst (ArePlaced c.args.moment all held) (drop_more all i nobody c.loop-session-test.true) before.placed in
    record {
      placed = placed-next c.args.bounds.now c.args.moment all c.requires held (get_or all i nobody) (drop (i + 1) all) are c.place.new.self.table.held c.in-Ok.ensures.placed;
      external = c.in-Ok.ensures.external ∙ before.external;
    }

pub returns-clause-sessions : goal.returns-clause-sessions
returns-clause-sessions c =
    placed-all c.args.moment c.args.sessions.now c.loop-session.flows.table.held c.loop-session.session-index c.loop-session-test.false c.loop-session.invariant.placed

pub returns-clause-external : goal.returns-clause-external
returns-clause-external c = c.loop-session.invariant.external
