use Rattle.std.proofs.Common.{sym, ap, ◌∙◌}
use Rattle.std.specs.Option.{option_map}
use Rattle.portpick.specs.Pool.{endpoint}
use Rattle.hairpin.proofs.Following.{chosen}
use Rattle.hairpin.proofs.translations.Translations.choose_at.Goals as goal

pub returns-in-Some : goal.returns-in-Some
returns-in-Some c = rw (← c.self.view_is) (λ taken says. ap (option_map (endpoint c.args.addr)) (sym c.in-Some.is ∙ c.pick.ensures.choice (taken c.args.addr) (chosen c.self.inside.map c.self.inside.ports c.self.invariant c.args.proto c.args.addr (taken c.args.addr) says)))

pub returns-in-None : goal.returns-in-None
returns-in-None c = rw (← c.self.view_is) (λ taken says. ap (option_map (endpoint c.args.addr)) (sym c.in-None.is ∙ c.pick.ensures.choice (taken c.args.addr) (chosen c.self.inside.map c.self.inside.ports c.self.invariant c.args.proto c.args.addr (taken c.args.addr) says)))
