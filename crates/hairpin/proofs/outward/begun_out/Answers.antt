use Rattle.std.proofs.Common.{Ok, refl, sym, subst, ◌∙◌}
use Rattle.sessions.specs.Listing.{listing}
use Rattle.hairpin.specs.Legs.{begun_out}
use Rattle.hairpin.specs.Plans.{Plans}
use Rattle.hairpin.proofs.Opening.{no_room, room_left}
use Rattle.hairpin.proofs.outward.begun_out.Goals as goal

pub returns-then-count-eq-MOST_SESSIONS : goal.returns-then-count-eq-MOST_SESSIONS
returns-then-count-eq-MOST_SESSIONS c =
    let a = c.args.asking.now in
    let out = c.requires.goes_out in
    no_room a.bounds.now a.rules.now out.bounded (listing a.table.now.held) a.moment a.view.now c.facts.ensures.valid out.translations.sound out.inside out.port c.requires.none a.table.now.held refl
    c.in-Ok.outside (sym (c.in-Ok.ensures a.moment)) (sym c.count.ensures ∙ c.if-count-eq-MOST_SESSIONS.true)

pub returns-else-count-eq-MOST_SESSIONS : goal.returns-else-count-eq-MOST_SESSIONS
returns-else-count-eq-MOST_SESSIONS c =
    let a = c.args.asking.now in
    let out = c.requires.goes_out in
    let plans = room_left a.bounds.now a.rules.now out.bounded (listing a.table.now.held) a.moment a.view.now c.facts.ensures.valid out.translations.sound out.inside out.port c.requires.none a.table.now.held refl
    c.in-Ok.outside (sym (c.in-Ok.ensures a.moment)) (λ e. c.if-count-eq-MOST_SESSIONS.false (c.count.ensures ∙ e)) c.new_session-session.result c.new_session-session.ensures in
    subst (λ p. Plans a.bounds.now.external a.table.now.held a.moment (Ok p) (begun_out a.bounds.now a.rules.now (listing a.table.now.held) a.moment a.view.now)) (sym c.plan_of_new.ensures) plans
