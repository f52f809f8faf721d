use Rattle.hairpin.proofs.Following.{follows-none}
use Rattle.hairpin.proofs.translations.Translations.new.Goals as goal

pub invariant_of-result : goal.invariant_of-result
invariant_of-result c = follows-none c.map_for.result c.new.result c.map_for.ensures c.new.ensures.none
