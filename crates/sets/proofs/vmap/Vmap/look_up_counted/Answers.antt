use Rattle.std.proofs.Common.{◌≡◌, ◌↔◌, ◌<◌, ◌∙◌, length, slice_index_or, sym, subst}
use Rattle.std.specs.List.{AllPairs}
use Rattle.sets.specs.Intervals.{IsBelow}
use Rattle.sets.specs.Members.{fact_of, MapsTo}
use Rattle.sets.proofs.Halving.{keys_rise}
use Rattle.sets.proofs.Keys.{only_verdict}
use Rattle.sets.proofs.vmap.Vmap.look_up_counted.Goals as goal

pub search-steps-requires : goal.search-steps-requires
search-steps-requires g c =
    let held = c.deref.ensures.value in
    subst (AllPairs (λ one next. IsBelow one.key next.key)) (sym held) (keys_rise c.self.inside.pairs.items c.self.invariant.0 c.self.invariant.1)

pub returns-in-Some-clause-found : goal.returns-in-Some-clause-found
returns-in-Some-clause-found g c = λ other.
    let found = rw c.in-Some.is at c.search-steps.ensures.found in
    let (k, lt, is) = found.0 in
    let held : c.deref.result.now ≡ c.self.inside.pairs.items = c.deref.ensures.value in
    let within : k < length c.self.inside.pairs.items = subst (λ xs. k < length xs) held lt in
    let at : slice_index_or c.self.inside.pairs.items k c.in-Some.pair.now ≡ c.in-Some.pair.now = subst (λ xs. slice_index_or xs k c.in-Some.pair.now ≡ c.in-Some.pair.now) held is in
    let only = only_verdict (fact_of c.args.value) c.self.inside.pairs.items c.self.invariant.0 k c.in-Some.pair.now within at found.1 other in
    subst (λ pairs. MapsTo (fact_of c.args.value) other pairs ↔ (other ≡ c.in-Some.pair.now.verdict)) c.self.view_is only

pub returns-in-None-clause-absent : goal.returns-in-None-clause-absent
returns-in-None-clause-absent g c = λ verdict leads.
    let absent = rw c.in-None.is at c.search-steps.ensures.absent in
    let held : c.deref.result.now ≡ c.args.self.now = c.deref.ensures.value ∙ c.self.view_is in
    let (k, pair, lt, is, of) = subst (MapsTo (fact_of c.args.value) verdict) (sym held) leads in
    absent (k, pair, lt, is, of.0)
