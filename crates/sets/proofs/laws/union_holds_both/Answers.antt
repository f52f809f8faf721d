use Rattle.std.proofs.Common.{inl, inr}
use Rattle.sets.specs.Members.{IsIn}
use Rattle.sets.proofs.Unions.{either_of, whole_of_first, whole_of_second}
use Rattle.sets.proofs.laws.union_holds_both.Goals as goal

pub returns : goal.returns
returns c = λ fact some more. (
  λ a. either_of (IsIn fact) some more a,
  elim [ inl a ↦ whole_of_first (IsIn fact) some more a | inr a ↦ whole_of_second (IsIn fact) some more a ],
)
