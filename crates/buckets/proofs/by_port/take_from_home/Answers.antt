use Rattle.std.proofs.Common.{sym, ◌∙◌}
use Rattle.buckets.proofs.Values.{nowhere-none}
use Rattle.buckets.proofs.Placed.{has-value}
use Rattle.buckets.proofs.by_port.take_from_home.Goals as goal

pub returns-in_err-home-clause-value : goal.returns-in_err-home-clause-value
returns-in_err-home-clause-value c = c.from_residual.ensures ∙ sym (nowhere-none c.args.places.now c.args.key c.in_err-home.ensures.absent)

pub returns-clause-value : goal.returns-clause-value
returns-clause-value c = c.value-value.ensures ∙ has-value c.args.places.now c.args.key c.in_ok-home.home c.index-places-home.result c.requires c.in_ok-home.ensures.found
