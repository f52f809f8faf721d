use Rattle.std.proofs.Common.{rules, ◌≡◌, ◌≤◌, true, length, sym, ◌∙◌, subst, refl}
use Rattle.std.proofs.lemmas.Bool.{false≢true}
use Rattle.std.proofs.lemmas.Fn.{always_returns_same}
use Rattle.std.specs.List.Sorted.{IsSortedBy}
use Rattle.sets.specs.Members.{Overlaps, limit}
use Rattle.sets.specs.Order.{is_key_before}
use Rattle.sets.proofs.Sorted.{keys_ordered, overlaps_permuted, leads_permuted}
use Rattle.sets.proofs.vmap.Vmap.of.Goals as goal

pub overlap-requires : goal.overlap-requires
overlap-requires g c =
    let sorted : IsSortedBy is_key_before c.sort_unstable_by.new.self.items = c.sort_unstable_by.ensures.sorted is_key_before keys_ordered (always_returns_same _ _ _ (λ a r f called. search rules)) in
    subst (IsSortedBy is_key_before) (sym c.deref.ensures.value) sorted

pub returns-then-overlap-clause-overlap : goal.returns-then-overlap-clause-overlap
returns-then-overlap-clause-overlap g c =
    let within : length c.args.pairs.items ≤ limit = search rules in
    let found : Overlaps c.sort_unstable_by.new.self.items = subst Overlaps c.deref.ensures.value (c.overlap.ensures.0 c.if-overlap.true) in
    (λ e. (within, (overlaps_permuted c.args.pairs.items c.sort_unstable_by.new.self.items c.sort_unstable_by.ensures.permutation).1 found), λ o. refl)

pub returns-clause-ok : goal.returns-clause-ok
returns-clause-ok g c = λ fact verdict. leads_permuted fact verdict c.args.pairs.items c.sort_unstable_by.new.self.items c.sort_unstable_by.ensures.permutation

pub invariant_of-result : goal.invariant_of-result
invariant_of-result g c =
    let sorted : IsSortedBy is_key_before c.sort_unstable_by.new.self.items = c.sort_unstable_by.ensures.sorted is_key_before keys_ordered (always_returns_same _ _ _ (λ a r f called. search rules)) in
    (λ o. absurd (false≢true (sym c.if-overlap.false ∙ c.overlap.ensures.1 (subst Overlaps (sym c.deref.ensures.value) o))), sorted)

pub returns-clause-apart : goal.returns-clause-apart
returns-clause-apart g c = λ o.
    let there : Overlaps c.sort_unstable_by.new.self.items = (overlaps_permuted c.args.pairs.items c.sort_unstable_by.new.self.items c.sort_unstable_by.ensures.permutation).0 o in
    let t : c.overlap.result ≡ true = c.overlap.ensures.1 (subst Overlaps (sym c.deref.ensures.value) there) in
    absurd (false≢true (sym c.if-overlap.false ∙ t))

pub returns-clause-overlap : goal.returns-clause-overlap
returns-clause-overlap g c = (λ e. cc, λ (few, o). absurd (returns-clause-apart g c o))
