use Rattle.std.proofs.Common.{◌+◌, Some, Result, Ok, Err, OnErr, refl, ap, ◌∙◌, arith}
use Rattle.std.specs.Option.{option_map}
use Rattle.timers.specs.declared.links.Link.{Link}
use Rattle.timers.specs.Links.{idle_in, idle_by, last_by}
use Rattle.timers.proofs.Held.{IsPut-before}
use Rattle.timers.proofs.Shown.{free_watch, latest_places, Updates-idle, IsRow-same, idles-same}
use Rattle.timers.proofs.due.Due.add.Goals as goal

-- a fact holds also where there is an error
on_err_from : {T E P : Type 0} (r : Result T E) → P → OnErr r P
on_err_from (Ok x) p = tt
on_err_from (Err e) p = p

pub invariant_of-self : goal.invariant_of-self
invariant_of-self c = IsRow-same _ _ c.grow_past.ensures.same c.grow_past.ensures.few c.self.invariant

pub returns-in_err-grow_past-clause-err : goal.returns-in_err-grow_past-clause-err
returns-in_err-grow_past-clause-err c = rw (← c.self.view_is) (on_err_from _ (idles-same _ _ c.grow_past.ensures.same))

pub append-requires-clause-row : goal.append-requires-clause-row
append-requires-clause-row c = IsRow-same _ _ c.grow_past.ensures.same c.grow_past.ensures.few c.self.invariant

pub append-requires-clause-free : goal.append-requires-clause-free
append-requires-clause-free c =
    ap (λ (l : Link). l.watch) (c.grow_past.ensures.same (c.args.slot + 3)) ∙ free_watch c.self.inside.links.items c.args.slot (rw (← c.self.view_is) at c.requires.free)

pub append-requires-clause-latest : goal.append-requires-clause-latest
append-requires-clause-latest c = λ k.
    let was = latest_places c.self.inside.links.items c.args.last c.self.invariant (rw (← c.self.view_is) at c.requires.latest) k in
    omega (arith, was, ap (λ (l : Link). last_by l.watch) (c.grow_past.ensures.same k))

pub returns-clause-ok : goal.returns-clause-ok
returns-clause-ok c =
    let put = IsPut-before (idle_in c.self.inside.links.items) (idle_in c.grow_past.new.links.items) (idle_in c.append.new.links.items) c.args.slot (Some _)
    (λ k. ap (λ (l : Link). option_map idle_by l.watch) (c.grow_past.ensures.same (k + 3))) c.append.ensures.idle in
    rw (← c.self.view_is) (Updates-idle _ _ c.self.inside.links.items c.append.new.links.items c.args.slot (Some _) refl refl put)
