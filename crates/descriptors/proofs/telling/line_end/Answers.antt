use Rattle.std.proofs.Common.{◌≡◌, ◌==◌, ℕ, List, Option, rules, tests}
use Rattle.std.specs.List.{position}
use Rattle.std.proofs.lemmas.Iterator.{YieldsList-from_slice}
use Rattle.std.proofs.lemmas.Iterator.Search.{position_from_yields_List}
use Rattle.descriptors.proofs.telling.line_end.Goals as goal

pub returns : goal.returns
returns c = position_from_yields_List (λ x. x == 10) _ _ c.position.result c.position.ensures.ran (YieldsList-from_slice c.args.text.now c.iter.ensures.rest) (λ x b q k. search (rules, tests))
