use Rattle.std.proofs.Common.{sym, ap, ◌∙◌, arith}
use Rattle.rows.specs.Held.{value_at, at, Entries}
use Rattle.buckets.proofs.Numbers.{plain-value}
use Rattle.buckets.proofs.overflow.Overflow.get.Goals as goal

pub returns : goal.returns
returns c =
    let rows = c.self.inside.rows.held in
    c.get.ensures ∙ ap (value_at rows) c.number.ensures.same ∙ sym (plain-value rows c.self.invariant c.args.key (omega arith)) ∙ ap (λ (o : Entries). at o c.args.key) c.self.view_is
