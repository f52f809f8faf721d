use Rattle.std.proofs.Common.{sym, ap, ◌∙◌}
use Rattle.sessions.specs.Listing.{listing}
use Rattle.hairpin.specs.Going.{Tells}
use Rattle.hairpin.specs.Legs.{put_all}
use Rattle.machine.proofs.Changed.{became_again, seen_became}
use Rattle.machine.proofs.flows.Flows.see_again.Goals as goal

pub returns-then-going-now-clause-listing : goal.returns-then-going-now-clause-listing
returns-then-going-now-clause-listing c = rw (← c.self.view_is) (λ ts all.
    let own = c.self.inside in
    let g = c.args.going.now in
    let became = seen_became own.translations.external own.table.held own.table.held c.args.now g.slot g.bits
    (λ s is. let told : Tells s g = rw is at (rw (← c.self.view_is) at c.requires.told) in
    became_again own.table g.slot s g.bits c.args.now c.facts.ensures is (told.quiet c.requires.quiet, sym told.last ∙ c.if-going-now.true)) all.0 all.1 in
    became.listing ∙ ap (λ us. put_all us (listing own.table.held)) (sym all.2))

pub returns-clause-listing : goal.returns-clause-listing
returns-clause-listing c = λ ts all.
    let held = c.args.self.now.table.held in
    let became = seen_became c.args.self.now.translations.external held c.see.new.self.table.held c.args.now c.args.going.now.slot c.args.going.now.bits c.see.ensures.became all.0 all.1 in
    became.listing ∙ ap (λ us. put_all us (listing held)) (sym all.2)
