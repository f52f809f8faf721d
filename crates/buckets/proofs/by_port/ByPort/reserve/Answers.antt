use Rattle.std.proofs.Common.{refl, ap, ◌∙◌}
use Rattle.rows.specs.Held.{Entries, value_at}
use Rattle.buckets.proofs.Placed.{others-same}
use Rattle.buckets.proofs.by_port.ByPort.reserve.Goals as goal

pub returns-in_err-reserve-clause-same : goal.returns-in_err-reserve-clause-same
returns-in_err-reserve-clause-same c key = others-same c.self.inside.places.items c.self.inside.places.items c.self.inside.others.held c.reserve.new.self.held key refl (c.reserve.ensures.same key) ∙ ap (λ (v : Entries). value_at v.held key) c.self.view_is

pub returns-clause-same : goal.returns-clause-same
returns-clause-same c key = others-same c.self.inside.places.items c.ask_for_places.new.places.items c.self.inside.others.held c.reserve.new.self.held key c.ask_for_places.ensures (c.reserve.ensures.same key) ∙ ap (λ (v : Entries). value_at v.held key) c.self.view_is
