use Rattle.hairpin.proofs.Following.{after_hold}
use Rattle.hairpin.proofs.translations.Translations.hold_mapping.Goals as goal

pub invariant_of-self : goal.invariant_of-self
invariant_of-self c =
    let at = rw (← c.self.view_is) at c.requires.placed in
    after_hold c.self.inside.map c.hold_reserved.new.self c.args.mapping c.self.inside.ports c.take_port.new.ports c.self.invariant at c.hold_reserved.ensures.gains c.take_port.ensures.addresses c.take_port.ensures.taken
