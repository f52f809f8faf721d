use Rattle.std.proofs.Common.{get_or, sym, ◌∙◌}
use Rattle.hairpin.proofs.Choosing.{first-given, first-listed, first-passed, left-listed}
use Rattle.hairpin.proofs.translations.Translations.choose_first.Goals as goal

pub returns-in-Some : goal.returns-in-Some
returns-in-Some c = λ taken tests.
    let rest = c.loop-rest.rest.now in
    let listed = c.loop-rest.invariant.1 (get_or rest 0 0) (first-listed rest c.in-len1-up.len_at_least) in
    let given = sym c.in-Some.is ∙ c.choose_at.ensures taken (tests (get_or rest 0 0) listed) in
    sym (c.loop-rest.invariant.0 taken tests ∙ first-given taken c.args.port rest c.in-Some.outside c.in-len1-up.len_at_least given)

pub loop-rest-preserved : goal.loop-rest-preserved
loop-rest-preserved c = (
  (λ taken tests.
      let rest = c.loop-rest.rest.now in
      let listed = c.loop-rest.invariant.1 (get_or rest 0 0) (first-listed rest c.in-len1-up.len_at_least) in
      let none = sym c.in_default-choose_at.is ∙ c.choose_at.ensures taken (tests (get_or rest 0 0) listed) in
      c.loop-rest.invariant.0 taken tests ∙ first-passed taken c.args.port rest c.in-len1-up.len_at_least none),
  (λ x is. c.loop-rest.invariant.1 x (left-listed c.loop-rest.rest.now x c.in-len1-up.len_at_least is)),
)
