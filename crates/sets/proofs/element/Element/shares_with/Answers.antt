use Rattle.std.proofs.Common.{◌≡◌, true, false, sym, ◌∙◌}
use Rattle.sets.proofs.Keys.{ranges_share, share_ranges, names_share, share_names, kinds_differ, kinds_differ_too}
use Rattle.sets.proofs.element.Element.shares_with.Goals as goal

pub returns-in-Numbers-Numbers : goal.returns-in-Numbers-Numbers
returns-in-Numbers-Numbers c =
    let a = c.in-Numbers-Numbers.range in
    let b = c.in-Numbers-Numbers.later in
    let is = c.meet.ensures in
    rw (c.in-Numbers-Numbers.is-0, c.in-Numbers-Numbers.is-1) (λ t. let h = is.0 t in ranges_share a b h.0 h.1, λ s. is.1 (share_ranges a b s))

pub returns-in-Name-Name : goal.returns-in-Name-Name
returns-in-Name-Name c =
    let is = c.are_same.ensures in
    let e : c.deref.result.now ≡ c.in-Name-Name.name.items = c.deref.ensures.value in
    let f : c.deref-in-Name-Name.result.now ≡ c.in-Name-Name.later.items = c.deref-in-Name-Name.ensures.value in
    rw (c.in-Name-Name.is-0, c.in-Name-Name.is-1) (
      λ t. names_share _ _ (sym e ∙ is.0 t ∙ f),
      λ s. is.1 (e ∙ share_names _ _ s ∙ sym f),
    )

pub returns-in-Numbers-Name : goal.returns-in-Numbers-Name
returns-in-Numbers-Name c = rw (c.in-Numbers-Name.is-0, c.in-Numbers-Name.is-1) (λ (t : false ≡ true). cc, λ s. absurd (kinds_differ _ _ s))

pub returns-in-Name-Numbers : goal.returns-in-Name-Numbers
returns-in-Name-Numbers c = rw (c.in-Name-Numbers.is-0, c.in-Name-Numbers.is-1) (λ (t : false ≡ true). cc, λ s. absurd (kinds_differ_too _ _ s))
