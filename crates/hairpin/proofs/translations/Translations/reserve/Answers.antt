use Rattle.std.proofs.Common.{refl}
use Rattle.hairpin.proofs.Following.{follows-same}
use Rattle.hairpin.proofs.translations.Translations.reserve.Goals as goal

pub invariant_of-self : goal.invariant_of-self
invariant_of-self c = follows-same c.self.inside.map c.reserve.new.self c.self.inside.ports c.self.inside.ports c.self.invariant c.reserve.ensures.same (λ q a r. (λ h. h, λ h. h)) refl

pub invariant_of-self-2 : goal.invariant_of-self-2
invariant_of-self-2 c = follows-same c.self.inside.map c.reserve.new.self c.self.inside.ports c.reserve-2.new.self c.self.invariant c.reserve.ensures.same c.reserve-2.ensures.same c.reserve-2.ensures.addresses
