use Rattle.std.proofs.Common.{sym, ◌∙◌}
use Rattle.buckets.proofs.Values.{all-some, all-none}
use Rattle.buckets.proofs.by_port.find.Goals as goal

pub returns-in-Some : goal.returns-in-Some
returns-in-Some c = sym (all-some c.args.places.now c.args.others.now.held c.args.key c.in-Some.value (sym c.find_at_home.ensures ∙ c.in-Some.is))

pub returns-in-None : goal.returns-in-None
returns-in-None c = c.find_other.ensures ∙ sym (all-none c.args.places.now c.args.others.now.held c.args.key (sym c.find_at_home.ensures ∙ c.in-None.is))
