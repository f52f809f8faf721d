use Rattle.std.proofs.Common.{◌≢◌, sym, ◌∙◌, arith}
use Rattle.std.proofs.lemmas.Bool.{false≢true}
use Rattle.sessions.specs.Listing.{listing}
use Rattle.sessions.proofs.Clashing.{same_endpoint-from}
use Rattle.hairpin.proofs.Planned.{drops_full, drops_rule, is-first, plans}
use Rattle.hairpin.proofs.hairpinning.after_first.Goals as goal

pub second_leg-requires : goal.second_leg-requires
second_leg-requires c =
    let is = is-first c.args.asking.now.bounds.now c.args.asking.now.rules.now c.args.asking.now.table.now.held c.args.asking.now.moment c.args.asking.now.view.now c.facts.ensures.valid c.requires.hairpins.translations.sound c.requires.hairpins.inside c.requires.hairpins.external_destination c.requires.hairpins.ports c.args.first.now.session c.args.first.now.before c.requires.before c.requires.session in
    record {
      translations = c.requires.hairpins.translations;
      goes_out = record {
        remote = is.remote;
        away = λ e. false≢true (sym c.if-eq.false ∙ c.eq.ensures ∙ same_endpoint-from c.args.first.now.session.outside c.args.asking.now.view.now.dst e);
        keeps = is.keeps;
      };
    }

pub returns-then-not-is_forwarded : goal.returns-then-not-is_forwarded
returns-then-not-is_forwarded c =
    let away : c.args.first.now.session.outside ≢ c.args.asking.now.view.now.dst = λ e. false≢true (sym c.if-eq.false ∙ c.eq.ensures ∙ same_endpoint-from c.args.first.now.session.outside c.args.asking.now.view.now.dst e) in
    let state = c.state_of_first-state.ensures c.args.asking.now.bounds.now c.args.asking.now.rules.now (listing c.args.asking.now.table.now.held) c.args.asking.now.moment in
    drops_rule c.args.asking.now.bounds.now c.args.asking.now.rules.now c.args.asking.now.table.now.held c.args.asking.now.moment c.args.asking.now.view.now c.facts.ensures.valid c.requires.hairpins.translations.sound c.requires.hairpins.inside c.requires.hairpins.external_destination c.requires.hairpins.ports c.args.first.now.session c.args.first.now.before c.requires.before c.requires.session away c.state_of_first-state.result state c.in-Ok.leg.session c.in-Ok.ensures.session (λ p. false≢true (sym c.if-not-is_forwarded.true ∙ c.is_forwarded.ensures.1 p))

pub returns-then-sessions_after-gt-MOST_SESSIONS : goal.returns-then-sessions_after-gt-MOST_SESSIONS
returns-then-sessions_after-gt-MOST_SESSIONS c =
    let away : c.args.first.now.session.outside ≢ c.args.asking.now.view.now.dst = λ e. false≢true (sym c.if-eq.false ∙ c.eq.ensures ∙ same_endpoint-from c.args.first.now.session.outside c.args.asking.now.view.now.dst e) in
    let state = c.state_of_first-state.ensures c.args.asking.now.bounds.now c.args.asking.now.rules.now (listing c.args.asking.now.table.now.held) c.args.asking.now.moment in
    drops_full c.args.asking.now.bounds.now c.args.asking.now.rules.now c.args.asking.now.table.now.held c.args.asking.now.moment c.args.asking.now.view.now c.facts.ensures.valid c.requires.hairpins.translations.sound c.requires.hairpins.inside c.requires.hairpins.external_destination c.requires.hairpins.ports c.args.first.now.session c.args.first.now.before c.requires.before c.requires.session away c.state_of_first-state.result state c.in-Ok.leg.session c.in-Ok.ensures.session (c.is_forwarded.ensures.0 c.if-not-is_forwarded.false) c.in-Ok.leg.before c.in-Ok.ensures.before
    (omega (arith, c.if-sessions_after-gt-MOST_SESSIONS.true, c.sessions_after.ensures))

pub returns : goal.returns
returns c =
    let away : c.args.first.now.session.outside ≢ c.args.asking.now.view.now.dst = λ e. false≢true (sym c.if-eq.false ∙ c.eq.ensures ∙ same_endpoint-from c.args.first.now.session.outside c.args.asking.now.view.now.dst e) in
    let state = c.state_of_first-state.ensures c.args.asking.now.bounds.now c.args.asking.now.rules.now (listing c.args.asking.now.table.now.held) c.args.asking.now.moment in
    plans c.args.asking.now.bounds.now c.args.asking.now.rules.now c.args.asking.now.table.now.held c.args.asking.now.moment c.args.asking.now.view.now c.facts.ensures.valid c.requires.hairpins.translations.sound c.requires.hairpins.inside c.requires.hairpins.external_destination c.requires.hairpins.ports c.args.first.now.session c.args.first.now.before c.requires.before c.requires.session away c.state_of_first-state.result state c.in-Ok.leg.session c.in-Ok.ensures.session (c.is_forwarded.ensures.0 c.if-not-is_forwarded.false) c.in-Ok.leg.before c.in-Ok.ensures.before
    c.change_of_leg.result c.change_of_leg-2.result c.requires.slot c.in-Ok.ensures.slot c.change_of_leg.ensures.held c.change_of_leg.ensures.new c.change_of_leg-2.ensures.held c.change_of_leg-2.ensures.slot c.change_of_leg-2.ensures.new
    (omega (arith, c.if-sessions_after-gt-MOST_SESSIONS.false, c.sessions_after.ensures))
