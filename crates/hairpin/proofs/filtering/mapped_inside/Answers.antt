use Rattle.std.proofs.Common.{sym, ap, ◌∙◌}
use Rattle.sessions.specs.Listing.{listing}
use Rattle.hairpin.specs.Legs.{by_mapping, maps_outside}
use Rattle.hairpin.proofs.Apart.{find-In, maps_outside-parts}
use Rattle.hairpin.proofs.Mapped.{mapped_in, not_mapped_in}
use Rattle.hairpin.proofs.filtering.mapped_inside.Goals as goal

pub returns-in-Some : goal.returns-in-Some
returns-in-Some c =
    let view = c.args.view.now in
    let config = c.args.bounds.now in
    let sessions = listing c.args.table.now.held in
    let m = mapped_in c.args.table.now.held c.args.translations.now.mappings c.requires.counts config c.facts.ensures.valid c.requires.sound view.proto c.in-Some.inside view.dst c.in-Some.ensures.found in
    let parts = maps_outside-parts view.proto view.dst m.0 (find-In (maps_outside view.proto view.dst) sessions m.0 m.1).1 in
    c.admit.ensures m.0 parts.1 m.2 parts.2 ∙ sym (ap (by_mapping config.filtering sessions c.args.remote) m.1)

pub returns-in-None : goal.returns-in-None
returns-in-None c =
    let view = c.args.view.now in
    let config = c.args.bounds.now in
    sym (ap (by_mapping config.filtering (listing c.args.table.now.held) c.args.remote)
    (not_mapped_in c.args.table.now.held c.args.translations.now.mappings c.requires.counts config c.facts.ensures.valid c.requires.sound view.proto view.dst c.in-None.ensures.absent))
