use Rattle.std.proofs.Common.{◌≡◌, Ok, Err, inl, inr, sym, ap, subst, ◌∙◌}
use Rattle.std.specs.Option.{option_map}
use Rattle.std.proofs.lemmas.Result.{err_from_is_err_and}
use Rattle.sessions.specs.Listing.{listing}
use Rattle.hairpin.specs.Legs.{in_leg}
use Rattle.hairpin.specs.Plans.{Plans}
use Rattle.hairpin.specs.declared.held.Held.{Held}
use Rattle.hairpin.proofs.Incoming.{in-new, is-near}
use Rattle.hairpin.proofs.inward.in_leg.Goals as goal

pub returns-in_err-inside-in-None : goal.returns-in_err-inside-in-None
returns-in_err-inside-in-None c =
    let held = c.args.table.now.held in
    let config = c.args.bounds.now in
    let view = c.args.view.now in
    let p = err_from_is_err_and c.from_residual.result c.from_residual.ensures.1 in
    let cause = c.in_err-inside-in-None.field-0.0 in
    let same : p.0 ≡ cause = cc p.2 in
    let none = sym c.held_outside.ensures.session ∙ ap (λ b. option_map (λ (h : Held). h.session) b) c.in-None.is in
    let is = in-new config c.args.rules.now (listing held) c.args.now view none (sym c.if-needs_session.ensures) (Err cause)
    (sym (c.in_err-inside-in-None.ensures c.args.now)) in
    let way = in_leg config c.args.rules.now (listing held) c.args.now view in
    subst (λ r. Plans config.external held c.args.now r way) (sym p.1) (subst (Plans config.external held c.args.now (Err p.0)) (sym is) same)

pub begun_in-requires-clause-placed : goal.begun_in-requires-clause-placed
begun_in-requires-clause-placed c = elim c.requires.routed [
  | inl near ↦ inl (is-near c.args.bounds.now c.args.rules.now (listing c.args.table.now.held) c.args.now c.args.view.now c.in_ok-inside-in-None.inside near
      (c.in_ok-inside-in-None.ensures c.args.now))
  | inr away ↦ inr (away, c.requires.ports.1)
]

pub returns-in_ok-inside-in-None : goal.returns-in_ok-inside-in-None
returns-in_ok-inside-in-None c =
    let held = c.args.table.now.held in
    let config = c.args.bounds.now in
    let view = c.args.view.now in
    let none = sym c.held_outside.ensures.session ∙ ap (λ b. option_map (λ (h : Held). h.session) b) c.in-None.is in
    let is = in-new config c.args.rules.now (listing held) c.args.now view none (sym c.if-needs_session.ensures) (Ok c.in_ok-inside-in-None.inside)
    (sym (c.in_ok-inside-in-None.ensures c.args.now)) in
    subst (Plans config.external held c.args.now c.begun_in.result) (sym is) c.begun_in.ensures
