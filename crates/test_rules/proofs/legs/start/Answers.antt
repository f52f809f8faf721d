use Rattle.hairpin.proofs.Beginning.{counts_none, sound_none}
use Rattle.test_rules.proofs.legs.start.Goals as goal

pub returns-clause-sound : goal.returns-clause-sound
returns-clause-sound c = sound_none c.in_ok-bounds.bounds c.new.result.held c.new.ensures.empty

pub returns-clause-counts : goal.returns-clause-counts
returns-clause-counts c =
    counts_none c.in_ok-bounds.translations.mappings c.new.result.held c.in_ok-bounds.ensures.none c.new.ensures.empty
