use Rattle.std.proofs.Common.{◌≡◌, ◌≤◌, ℕ, List, [], ◌∷◌, Option, Some, None, sym, ap, subst, ◌∙◌}
use Rattle.std.specs.Prelude.{IfSome, IfNone}
use Rattle.ruletokens.specs.Tokens.{octets, decimal, GoesOn}
use Rattle.ruletokens.proofs.Pieces.{octets_dot, octets_end, goes_on}
use Rattle.ruletokens.proofs.lex.last_octet.Goals as goal

last_some : (os : List (Option ℕ)) (d r : Option ℕ) → os ≡ d ∷ [] → r ≡ d → IfSome r (λ n. n ≤ 255) → IfSome r (λ x. (os ≡ Some x ∷ []) × (x ≤ 255))
last_some os d (Some n) e f s = (e ∙ ap (λ (o : Option ℕ). o ∷ []) (sym f), s)
last_some os d None e f s = tt

last_none : (os : List (Option ℕ)) (d r : Option ℕ) → os ≡ d ∷ [] → r ≡ d → IfNone r (GoesOn os)
last_none os d (Some n) e f = tt
last_none os d None e f = subst (λ (u : List (Option ℕ)). GoesOn u) (sym (e ∙ ap (λ (o : Option ℕ). o ∷ []) (sym f))) tt

pub returns-in-Some-clause-none : goal.returns-in-Some-clause-none
returns-in-Some-clause-none c =
    rw (octets_dot c.args.bytes.now c.run.result.0.now c.run.result.1.now c.in-Some.field-0.now c.run.ensures.parts c.run.ensures.all c.in-Some.ensures.some) (goes_on _ c.in-Some.field-0.now)

pub returns-in-None-clause-some : goal.returns-in-None-clause-some
returns-in-None-clause-some c =
    last_some (octets c.args.bytes.now) (decimal 255 c.run.result.0.now) c.decimal.result (octets_end c.args.bytes.now c.run.result.0.now c.run.result.1.now c.run.ensures.parts c.run.ensures.all c.run.ensures.stops c.in-None.ensures.none) c.decimal.ensures.value c.decimal.ensures.small

pub returns-in-None-clause-none : goal.returns-in-None-clause-none
returns-in-None-clause-none c =
    last_none (octets c.args.bytes.now) (decimal 255 c.run.result.0.now) c.decimal.result (octets_end c.args.bytes.now c.run.result.0.now c.run.result.1.now c.run.ensures.parts c.run.ensures.all c.run.ensures.stops c.in-None.ensures.none) c.decimal.ensures.value
