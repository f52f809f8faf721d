use Rattle.std.proofs.Common.{◌≡◌, ◌<◌, ◌≤◌, ◌+◌, length, get_or, ◌∙◌, sym, subst, arith}
use Rattle.rows.specs.declared.runs.Run.{Run}
use Rattle.rows.specs.Order.{most}
use Rattle.rows.proofs.Cuts.{cut_run, cut_lower, cut_higher, cut_next, cut_length}
use Rattle.rows.proofs.runs.cut_for.Goals as goal

pub returns-then-index-key-clause-run : goal.returns-then-index-key-clause-run
returns-then-index-key-clause-run c =
    let old = c.args.runs.now.items in
    let new = c.cut.new.runs.items in
    let number = c.args.number in
    let cut = c.cut.ensures.cut in
    let long = cut_length old new number cut in
    let here = cut_higher old new number cut in
    record {
      in_range = omega (arith, long, c.requires.run.in_range);
      low = λ d. subst (λ (r : Run). r.low ≤ c.args.key) (c.index.ensures ∙ here c.index.result.now ∙ sym (here d)) c.if-index-key.true;
      next = λ d lt.
          let behind : get_or new (number + 1 + 1) d ≡ get_or old (number + 1) d = subst (λ k. get_or new k d ≡ get_or old (number + 1) d) (omega arith) (cut_next old new number cut d) in
          subst (λ (r : Run). c.args.key < r.low) (sym behind) (c.requires.run.next d (omega (arith, lt, long)));
    }

pub returns-then-index-key-clause-few : goal.returns-then-index-key-clause-few
returns-then-index-key-clause-few c =
    let cut = c.cut.ensures.cut in
    λ d. subst (λ (r : Run). length r.entries.items < most) (sym (cut_higher c.args.runs.now.items c.cut.new.runs.items c.args.number cut d)) cut.higher_few

pub returns-clause-run : goal.returns-clause-run
returns-clause-run c =
    let old = c.args.runs.now.items in
    let new = c.cut.new.runs.items in
    let number = c.args.number in
    let cut = c.cut.ensures.cut in
    let same : cut.run.low ≡ cut.lower.low = sym cut.low in
    record {
      in_range = omega (arith, cut_length old new number cut, c.requires.run.in_range);
      low = λ d.
          let bound = subst (λ (r : Run). r.low ≤ c.args.key) (cut_run old new number cut d) (c.requires.run.low d) in
          subst (λ (r : Run). r.low ≤ c.args.key) (sym (cut_lower old new number cut d)) (subst (λ n. n ≤ c.args.key) same bound);
      next = λ d _. subst (λ (r : Run). c.args.key < r.low) (c.index.ensures ∙ cut_higher old new number cut c.index.result.now ∙ sym (cut_higher old new number cut d)) c.if-index-key.false;
    }

pub returns-clause-few : goal.returns-clause-few
returns-clause-few c =
    let cut = c.cut.ensures.cut in
    λ d. subst (λ (r : Run). length r.entries.items < most) (sym (cut_lower c.args.runs.now.items c.cut.new.runs.items c.args.number cut d)) cut.lower_few
