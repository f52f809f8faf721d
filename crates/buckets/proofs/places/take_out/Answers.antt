use Rattle.std.proofs.Common.{None, sym, ◌∙◌}
use Rattle.buckets.proofs.Values.{nowhere-all, overflow-puts}
use Rattle.buckets.proofs.places.take_out.Goals as goal

pub returns-in-None-clause-value : goal.returns-in-None-clause-value
returns-in-None-clause-value c =
    c.remove.ensures.value ∙ sym (nowhere-all c.args.places.now c.args.overflow.now.held c.args.key c.in-None.ensures.absent)

pub returns-in-None-clause-gone : goal.returns-in-None-clause-gone
returns-in-None-clause-gone c =
    overflow-puts c.args.places.now c.args.overflow.now.held c.remove.new.self.held c.args.key None c.in-None.ensures.absent c.remove.ensures.gone
