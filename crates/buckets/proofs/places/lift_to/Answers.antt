use Rattle.std.proofs.Common.{◌≡◌, Some, set, sym, ◌∙◌}
use Rattle.rows.specs.Held.{value_at}
use Rattle.buckets.specs.Places.{IsSetTo}
use Rattle.rows.specs.declared.Entry.{Entry}
use Rattle.buckets.proofs.Values.{lift-same, set-to}
use Rattle.buckets.proofs.places.lift_to.Goals as goal

pub returns-clause-same : goal.returns-clause-same
returns-clause-same c =
    let places = c.args.places.now in
    let over = c.args.overflow.now.held in
    let entry : Entry = record { key = c.args.key; value = c.in-Some.value } in
    let there : value_at over c.args.key ≡ Some c.in-Some.value = sym c.get.ensures ∙ c.in-Some.is in
    let to : IsSetTo places (set places c.args.place c.in-Some-of.lifted) c.args.place (Some entry) = set-to places c.args.place c.in-Some-of.lifted entry c.requires.free.vacant.in_range c.in-Some-of.ensures.filled in
    lift-same places _ c.args.place c.args.key c.in-Some.value over c.remove.new.self.held c.requires.free to there c.remove.ensures.gone c.requires.sound
