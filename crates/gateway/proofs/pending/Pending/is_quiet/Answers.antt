use Rattle.std.proofs.Common.{sym, ap, ◌∙◌, ℕ, List, length, nat_eq}
use Rattle.std.proofs.lemmas.Bool.{eqb-true}
use Rattle.std.proofs.lemmas.List.{nil_from_length}
use Rattle.gateway.specs.HeldAnswers.{entries_in}
use Rattle.gateway.proofs.Bodies.{empty_where_none}
use Rattle.gateway.proofs.pending.Pending.is_quiet.Goals as goal

pub returns-clause-value : goal.returns-clause-value
returns-clause-value c = rw (← c.self.view_is) (
  λ yes. ap entries_in (nil_from_length c.self.inside.group.body (eqb-true (length c.self.inside.group.body) 0 (sym c.is_empty.ensures ∙ yes))),
  λ none. c.is_empty.ensures ∙ ap (λ (l : List ℕ). nat_eq (length l) 0)
      (empty_where_none c.self.inside.group.body c.self.invariant.0.entries c.self.invariant.0.coded c.self.invariant.0.are none),
)
