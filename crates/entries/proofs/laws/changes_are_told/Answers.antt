use Rattle.entries.proofs.Pinned.{told-emptied, told-nothing, told-seen, told-turned}
use Rattle.entries.proofs.laws.changes_are_told.Goals as goal

pub returns : goal.returns
returns c = λ s t. record { nothing = told-nothing s t; seen = told-seen s t; emptied = told-emptied s t; turned = told-turned s t }
