-- What holds of each end of a text.
use Rattle.std.specs.Prelude.{List, Option, Some, None}
use Rattle.std.specs.List.{AllByRecursion}
use Rattle.ruletree.specs.declared.tree.End.{End}
use Rattle.ruletree.specs.declared.tree.Rule.{Rule}
use Rattle.ruletree.specs.declared.tree.Chain.{Chain}
use Rattle.ruletree.specs.declared.tree.Table.{Table}

-- what holds of an end holds of the rules, chains and tables that have it
abbrev pub OfEnd : (End → Type 0) → Option End → Type 0
OfEnd Q None = Unit {0}
OfEnd Q (Some end) = Q end

abbrev pub OfRules : (End → Type 0) → List Rule → Type 0
OfRules Q rules = AllByRecursion (λ rule. OfEnd Q rule.end) rules

abbrev pub OfChains : (End → Type 0) → List Chain → Type 0
OfChains Q chains = AllByRecursion (λ chain. OfRules Q chain.rules) chains

abbrev pub OfTables : (End → Type 0) → List Table → Type 0
OfTables Q tables = AllByRecursion (λ table. OfChains Q table.chains) tables
