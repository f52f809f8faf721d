use Rattle.std.proofs.Common.{refl, subst}
use Rattle.sets.specs.Joining.{Joins}
use Rattle.sets.proofs.joining.takes_in.Goals as goal

pub returns-in-Apart : goal.returns-in-Apart
unfolding Joins
returns-in-Apart c = λ h. (subst (λ j. Joins j c.args.last.now c.args.next.now) c.in-Apart.is (c.beside.ensures h), refl)

pub returns-in-Same : goal.returns-in-Same
unfolding Joins
returns-in-Same c = λ h. subst (λ j. Joins j c.args.last.now c.args.next.now) c.in-Same.is (c.beside.ensures h)

pub returns-in-Spans : goal.returns-in-Spans
unfolding Joins
returns-in-Spans c = λ h. subst (λ j. Joins j c.args.last.now c.args.next.now) c.in-Spans.is (c.beside.ensures h)
