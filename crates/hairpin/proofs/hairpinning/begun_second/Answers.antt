use Rattle.std.proofs.Common.{true, false, sym, ap, ◌∙◌}
use Rattle.std.proofs.lemmas.Bool.{false≢true}
use Rattle.sessions.specs.Listing.{listing, put}
use Rattle.sessions.specs.declared.session.Session.{Session}
use Rattle.hairpin.proofs.Planned.{begun-as, clash-any, clash-first, clash-none}
use Rattle.hairpin.proofs.hairpinning.begun_second.Goals as goal

pub returns-then-breaks_mapping : goal.returns-then-breaks_mapping
returns-then-breaks_mapping c = λ config rules sessions.
    let t = c.new_session-session in
    begun-as config rules sessions c.args.now c.args.view.now c.args.first.now (put c.args.first.now (listing c.args.table.now.held)) c.args.inside t.result t.ensures true
    (clash-first c.args.table.now.held c.args.first.now t.result (sym c.breaks_mapping.ensures ∙ c.if-breaks_mapping.true))

pub returns-then-clashes_with : goal.returns-then-clashes_with
returns-then-clashes_with c = λ config rules sessions.
    let t = c.new_session-session in
    begun-as config rules sessions c.args.now c.args.view.now c.args.first.now (put c.args.first.now (listing c.args.table.now.held)) c.args.inside t.result t.ensures true
    (clash-any c.args.table.now.held c.args.first.now t.result c.requires.keeps (c.clashes_with.ensures.0 c.if-clashes_with.true))

pub returns : goal.returns
returns c = λ config rules sessions.
    let t = c.new_session-session in
    begun-as config rules sessions c.args.now c.args.view.now c.args.first.now (put c.args.first.now (listing c.args.table.now.held)) c.args.inside t.result t.ensures false
    (clash-none c.args.table.now.held c.args.first.now t.result (λ e. c.requires.away (sym (e ∙ ap (λ (s : Session). s.remote) t.ensures) ∙ c.requires.remote))
    (sym c.breaks_mapping.ensures ∙ c.if-breaks_mapping.false) (λ any. false≢true (sym c.if-clashes_with.false ∙ c.clashes_with.ensures.1 any)))
