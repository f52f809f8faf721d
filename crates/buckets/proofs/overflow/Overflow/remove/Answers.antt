use Rattle.std.proofs.Common.{None, sym, ap, ◌∙◌, subst, arith}
use Rattle.rows.specs.Held.{value_at, at, Entries, Puts}
use Rattle.buckets.specs.Places.{plain_in}
use Rattle.buckets.proofs.Numbers.{plain-value, plain-puts}
use Rattle.buckets.proofs.overflow.Overflow.remove.Goals as goal

pub returns-clause-value : goal.returns-clause-value
returns-clause-value c =
    let rows = c.self.inside.rows.held in
    c.remove.ensures.value ∙ ap (value_at rows) c.number.ensures.same ∙ sym (plain-value rows c.self.invariant c.args.key (omega arith)) ∙ ap (λ (o : Entries). at o c.args.key) c.self.view_is

pub returns-clause-gone : goal.returns-clause-gone
returns-clause-gone c =
    let rows = c.self.inside.rows.held in
    subst (λ (o : Entries). Puts o.held (plain_in c.remove.new.self.held) c.args.key None) c.self.view_is (plain-puts rows c.remove.new.self.held c.self.invariant c.args.key (omega arith) None (subst (λ n. Puts rows c.remove.new.self.held n None) c.number.ensures.same c.remove.ensures.gone))
