use Rattle.std.proofs.Common.{sym, ap, ◌∙◌, subst, arith, length, slice_get}
use Rattle.std.proofs.lemmas.Option.{slice_get_within, get_or_from_slice_get}
use Rattle.rulesets.specs.Counts.{rules_of_table}
use Rattle.verdict.specs.Costs.{matches_of_table}
use Rattle.verdict.specs.Lines.{IsLaid}
use Rattle.verdict.specs.Noted.{IsLoneIn}
use Rattle.verdict.specs.Hooks.{bases_among}
use Rattle.verdict.proofs.Spending.{few_of}
use Rattle.verdict.proofs.Alone.{own_tables, own_tables_matches, lone_hook}
use Rattle.verdict.proofs.hook.lone_counted.Goals as goal

pub bounds-as_slice-spot : goal.bounds-as_slice-spot
bounds-as_slice-spot c =
    let lt = slice_get_within c.args.rules.now.tables c.args.spot.table c.requires.lone.table c.requires.lone.at in
    omega (arith, lt, ap length (c.as_slice.ensures ∙ ap (λ spelled. spelled.tables) c.spelled.ensures))

pub bounds-rows-spot : goal.bounds-rows-spot
bounds-rows-spot c =
    let laid = c.rows.ensures c.args.spot.table c.requires.lone.table c.requires.lone.at in
    slice_get_within c.rows.result.now c.args.spot.table laid.0 laid.1

pub lone_in_table-requires-clause-laid : goal.lone_in_table-requires-clause-laid
lone_in_table-requires-clause-laid c =
    let there = ap (λ tables. slice_get tables c.args.spot.table) (c.as_slice.ensures ∙ ap (λ spelled. spelled.tables) c.spelled.ensures) ∙ c.requires.lone.at in
    let same = c.index-as_slice-spot.is ∙ get_or_from_slice_get c.as_slice.result.now c.args.spot.table c.requires.lone.table _ there in
    let laid = c.rows.ensures c.args.spot.table c.requires.lone.table c.requires.lone.at in
    let here = c.index-rows-spot.is ∙ get_or_from_slice_get c.rows.result.now c.args.spot.table laid.0 _ laid.1 in
    subst (λ row. IsLaid c.index-as_slice-spot.result row) (sym here) (subst (λ table. IsLaid table laid.0) (sym same) laid.2)

pub lone_in_table-requires-clause-lone : goal.lone_in_table-requires-clause-lone
lone_in_table-requires-clause-lone c =
    let there = ap (λ tables. slice_get tables c.args.spot.table) (c.as_slice.ensures ∙ ap (λ spelled. spelled.tables) c.spelled.ensures) ∙ c.requires.lone.at in
    let same = c.index-as_slice-spot.is ∙ get_or_from_slice_get c.as_slice.result.now c.args.spot.table c.requires.lone.table _ there in
    subst (λ table. IsLoneIn c.args.hook table.chains c.args.spot.place) (sym same) c.requires.lone.inside

pub lone_in_table-requires-clause-room : goal.lone_in_table-requires-clause-room
lone_in_table-requires-clause-room c =
    let there = ap (λ tables. slice_get tables c.args.spot.table) (c.as_slice.ensures ∙ ap (λ spelled. spelled.tables) c.spelled.ensures) ∙ c.requires.lone.at in
    let same = c.index-as_slice-spot.is ∙ get_or_from_slice_get c.as_slice.result.now c.args.spot.table c.requires.lone.table _ there in
    let own = own_tables c.args.rules.now.tables c.args.spot.table c.requires.lone.table c.requires.lone.at in
    let few = (few_of c.args.rules.now.tables c.facts.ensures.few).1 in
    omega (arith, own, few, ap rules_of_table same)

pub returns-clause-outcome : goal.returns-clause-outcome
returns-clause-outcome c =
    let there = ap (λ tables. slice_get tables c.args.spot.table) (c.as_slice.ensures ∙ ap (λ spelled. spelled.tables) c.spelled.ensures) ∙ c.requires.lone.at in
    let same = c.index-as_slice-spot.is ∙ get_or_from_slice_get c.as_slice.result.now c.args.spot.table c.requires.lone.table _ there in
    c.lone_in_table.ensures.outcome ∙ lone_hook c.args.bounds.now c.args.facts.now c.args.hook c.args.rules.now c.index-as_slice-spot.result
    (c.requires.lone.alone ∙ ap (λ table. bases_among c.args.hook table table.chains) (sym same))

pub returns-clause-steps : goal.returns-clause-steps
returns-clause-steps c =
    let there = ap (λ tables. slice_get tables c.args.spot.table) (c.as_slice.ensures ∙ ap (λ spelled. spelled.tables) c.spelled.ensures) ∙ c.requires.lone.at in
    let same = c.index-as_slice-spot.is ∙ get_or_from_slice_get c.as_slice.result.now c.args.spot.table c.requires.lone.table _ there in
    let own = own_tables c.args.rules.now.tables c.args.spot.table c.requires.lone.table c.requires.lone.at in
    omega (arith, own, c.lone_in_table.ensures.steps, ap rules_of_table same)

pub returns-clause-matches : goal.returns-clause-matches
returns-clause-matches c =
    let there = ap (λ tables. slice_get tables c.args.spot.table) (c.as_slice.ensures ∙ ap (λ spelled. spelled.tables) c.spelled.ensures) ∙ c.requires.lone.at in
    let same = c.index-as_slice-spot.is ∙ get_or_from_slice_get c.as_slice.result.now c.args.spot.table c.requires.lone.table _ there in
    let own = own_tables_matches c.args.rules.now.tables c.args.spot.table c.requires.lone.table c.requires.lone.at in
    omega (arith, own, c.lone_in_table.ensures.matches, ap matches_of_table same)
