use Rattle.std.proofs.Common.{◌≡◌, true, false, refl, sym, subst}
use Rattle.std.specs.List.{AllPairs}
use Rattle.sets.specs.Intervals.{IsBelow}
use Rattle.sets.specs.Members.{fact_of, IsMember}
use Rattle.sets.proofs.Places.{below_where_apart}
use Rattle.sets.proofs.set.Set.contains_counted.Goals as goal

pub search-steps-requires : goal.search-steps-requires
search-steps-requires c =
    subst (AllPairs (λ one next. IsBelow one next)) (sym c.deref.ensures.value) (λ i j d lt lj. below_where_apart _ _ (c.self.invariant i j d lt lj))

pub returns-in-Some-clause-found : goal.returns-in-Some-clause-found
returns-in-Some-clause-found c =
    let found = rw c.in-Some.is at c.search-steps.ensures.found in
    let (k, lt, is) = found.0 in
    let there : IsMember (fact_of c.args.value) c.deref.result.now = (k, _, lt, is, found.1) in
    let e : c.deref.result.now ≡ c.args.self.now = cc in
    (λ t. subst (IsMember (fact_of c.args.value)) e there, λ m. refl)

pub returns-in-None-clause-found : goal.returns-in-None-clause-found
returns-in-None-clause-found c =
    let absent = rw c.in-None.is at c.search-steps.ensures.absent in
    let e : c.deref.result.now ≡ c.args.self.now = cc in
    (λ (t : false ≡ true). cc, λ m. absurd (absent (subst (IsMember (fact_of c.args.value)) (sym e) m)))
