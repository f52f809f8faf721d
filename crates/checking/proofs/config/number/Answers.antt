use Rattle.std.proofs.Common.{rules, arith, ◌≡◌, ◌∙◌, ap, sym}
use Rattle.std.specs.Fmt.{decimal}
use Rattle.std.proofs.lemmas.Bool.Decides.{not_from_Decides}
use Rattle.std.proofs.lemmas.Fmt.{parse-decimal}
use Rattle.std.proofs.lemmas.Slice.Eq.{bytes_eq-Decides}
use Rattle.checking.proofs.config.number.Goals as goal

pub returns-in_default-clause-none : goal.returns-in_default-clause-none
returns-in_default-clause-none c = λ n h.
    c.in_default.not-Ok n (parse-decimal 8 n _ _ h.0 (omega arith) h.1 c.parse.ensures.value.0)

pub returns-else-eq-clause-none : goal.returns-else-eq-clause-none
returns-else-eq-clause-none c = λ n h.
    let parsed = parse-decimal 8 n _ _ h.0 (omega arith) h.1 c.parse.ensures.value.0 in
    let same : c.in-Ok.number ≡ n = search (rules, parsed) in
    let printed : c.format.result.now ≡ c.args.text.now = c.format.ensures.text ∙ ap decimal same ∙ sym h.1 in
    not_from_Decides _ (bytes_eq-Decides _ _) (sym c.if-eq.ensures) printed
