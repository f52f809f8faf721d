use Rattle.std.proofs.Common.{◌≡◌, ◌-◌, suc, ◌++◌, drop, get_or, ap, ◌∙◌, sym, subst, arith}
use Rattle.rows.specs.Order.{held_in, IsPlaceFor}
use Rattle.rows.proofs.Pieces.{above_next, next_above, is_run_for, rises_at}
use Rattle.rows.proofs.Froms.{from_first, from_run}
use Rattle.rows.proofs.runs.walk_from.Goals as goal

pub returns-then-count-eq0 : goal.returns-then-count-eq0
returns-then-count-eq0 c =
    let runs = c.args.runs.now in
    let key = c.args.key in
    sym (from_first key runs (above_next key runs c.requires (next_above runs 0 key (λ d lt. c.runs_up_to-count.ensures.after 0 d (omega arith) lt))))

pub place_of-requires : goal.place_of-requires
place_of-requires c =
    rw c.deref-2.ensures.value (rises_at c.args.runs.now (c.runs_up_to-count.result - 1) c.requires c.index-runs-count.result (omega (arith, c.if-count-eq0.false, c.runs_up_to-count.ensures.in_range)))

pub returns : goal.returns
returns c =
    let runs = c.args.runs.now in
    let key = c.args.key in
    let count = c.runs_up_to-count.result in
    let run = c.index-runs-count.result in
    let place = c.place_of.result in
    let is_run = is_run_for runs key count c.if-count-eq0.false c.runs_up_to-count.ensures.in_range c.runs_up_to-count.ensures.before c.runs_up_to-count.ensures.after in
    let is_place : IsPlaceFor (get_or runs (count - 1) run).entries.items key place = subst (λ k. IsPlaceFor k key place) c.deref-2.ensures.value c.place_of.ensures in
    let next : suc (count - 1) ≡ count = omega (arith, c.if-count-eq0.false) in
    ap (λ k. k ++ held_in c.split_at.result.1.now) (c.split_at-2.ensures.back ∙ ap (drop place) c.deref.ensures.value)
    ∙ ap (λ k. drop place (get_or runs (count - 1) run).entries.items ++ held_in k) (c.split_at.ensures.back ∙ ap (λ k. drop k runs) (sym next))
    ∙ sym (from_run runs (count - 1) key place run c.requires is_run is_place)
