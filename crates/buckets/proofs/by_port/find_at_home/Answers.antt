use Rattle.std.proofs.Common.{sym, ◌∙◌, ap}
use Rattle.std.specs.Option.{option_map}
use Rattle.rows.specs.declared.Entry.{Entry}
use Rattle.buckets.proofs.Values.{nowhere-none}
use Rattle.buckets.proofs.Placed.{has-value}
use Rattle.buckets.proofs.by_port.find_at_home.Goals as goal

pub returns-in_err-home : goal.returns-in_err-home
returns-in_err-home c = c.from_residual.ensures ∙ sym (nowhere-none c.args.places.now c.args.key c.in_err-home.ensures.absent)

pub returns : goal.returns
returns c = c.value.ensures ∙ ap (option_map (λ (e : Entry). e.value)) c.index-places-home.is ∙ has-value c.args.places.now c.args.key c.in_ok-home.home c.index-places-home.result c.requires c.in_ok-home.ensures.found
