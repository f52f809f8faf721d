use Rattle.std.proofs.Common.{◌≡◌, ◌<◌, ◌≤◌, ◌+◌, suc, length, vec_capacity, set, take, drop, refl, ap, ◌∙◌, sym, subst, Some, arith}
use Rattle.std.proofs.lemmas.List.{length_push, length-take, length-take-le, length-drop, length-set, take-append-drop, get_or_default}
use Rattle.std.proofs.lemmas.List.Edits.{length-insert}
use Rattle.std.proofs.lemmas.List.Elements.{All-pop, All-set, All-get_or}
use Rattle.rows.specs.declared.Entry.{Entry}
use Rattle.rows.specs.declared.runs.Run.{Run}
use Rattle.rows.specs.Order.{IsWide, IsSpare, most, half}
use Rattle.rows.proofs.Changes.{split_of}
use Rattle.rows.proofs.Cuts.{cut_is, cut_ordered, All-insert}
use Rattle.rows.proofs.runs.cut.Goals as goal

pub index-requires : goal.index-requires
index-requires c =
    let items = c.index_mut.result.now.entries.items in
    let full : most ≤ length items = subst (λ (r : Run). most ≤ length r.entries.items) (sym c.index_mut.ensures.value) (c.requires.full c.index_mut.result.now) in
    let long : length c.move_high.new.high.items ≡ length (drop half items) = ap length c.move_high.ensures.high in
    omega (arith, full, long, length-drop half items)

pub returns-clause-cut : goal.returns-clause-cut
returns-clause-cut c =
    let runs = c.args.runs.now.items in
    let number = c.args.number in
    let run = c.index_mut.result.now in
    let items = run.entries.items in
    let lower : Run = record { low = run.low; entries = c.move_high.new.entries } in
    let higher : Run = record { low = c.key-low.result; entries = c.move_high.new.high } in
    let sized : IsWide run = subst IsWide (sym c.index_mut.ensures.value) (All-get_or IsWide runs number run c.requires.in_range c.requires.sound.wide) in
    record {
      front = take number runs;
      back = drop (suc number) runs;
      run = run;
      lower = lower;
      higher = higher;
      at = length-take-le number runs (omega (arith, c.requires.in_range));
      old_is = split_of runs number run c.requires.in_range c.index_mut.ensures.value;
      new_is = c.insert_run.ensures.items ∙ cut_is runs number lower higher c.requires.in_range;
      same = rw (c.move_high.ensures.low, c.move_high.ensures.high) (sym (take-append-drop half items));
      low = refl;
      lower_few = rw c.move_high.ensures.low (omega (arith, length-take half items));
      higher_few = rw c.move_high.ensures.high (omega (arith, length-drop half items, sized.few));
    }

pub returns-clause-sound : goal.returns-clause-sound
unfolding returns-clause-cut
returns-clause-sound c =
    let runs = c.args.runs.now.items in
    let number = c.args.number in
    let run = c.index_mut.result.now in
    let items = run.entries.items in
    let cut = returns-clause-cut c in
    let full : most ≤ length items = subst (λ (r : Run). most ≤ length r.entries.items) (sym c.index_mut.ensures.value) (c.requires.full run) in
    let popped = All-pop IsSpare c.args.spare.now.items c.pop.new.self.items (Some c.in-Some.high) c.in-Some.ensures.items c.requires.sound.spares in
    let some_low : 0 < length c.move_high.new.entries.items = rw c.move_high.ensures.low (omega (arith, full, length-take half items)) in
    let some_high : 0 < length c.move_high.new.high.items = rw c.move_high.ensures.high (omega (arith, full, length-drop half items)) in
    let wide_low : IsWide cut.lower = record { few = omega (arith, cut.lower_few); wide = c.move_high.ensures.wide } in
    let wide_high : IsWide cut.higher = record { few = omega (arith, cut.higher_few); wide = c.move_high.ensures.high_wide } in
    let long : length c.insert_run.new.runs.items ≡ length runs + 1 = ap length c.insert_run.ensures.items ∙ length-insert (set runs number cut.lower) (number + 1) cut.higher (rw (length-set runs number cut.lower) (omega (arith, c.requires.in_range))) ∙ ap (λ k. k + 1) (length-set runs number cut.lower) in
    let fewer : length c.args.spare.now.items ≡ length c.pop.new.self.items + 1 = ap length c.in-Some.ensures.items ∙ length_push c.pop.new.self.items c.in-Some.high in
    let runs_fit : length c.insert_run.new.runs.items + length c.pop.new.self.items ≤ vec_capacity c.insert_run.new.runs = omega (arith, long, fewer, c.requires.sound.runs_fit, c.insert_run.ensures.capacity) in
    let spares_fit : length c.insert_run.new.runs.items + length c.pop.new.self.items ≤ vec_capacity c.pop.new.self = omega (arith, long, fewer, c.requires.sound.spares_fit, c.pop.ensures.capacity) in
    record {
      ordered = cut_ordered runs c.insert_run.new.runs.items number cut c.requires.sound.ordered some_low some_high (λ d. c.key-low.ensures ∙ ap (λ (e : Entry). e.key) (c.index.ensures ∙ get_or_default c.move_high.new.high.items 0 c.index.result.now d some_high));
      wide = rw c.insert_run.ensures.items (All-insert IsWide (set runs number cut.lower) (number + 1) cut.higher wide_high (All-set IsWide runs number cut.lower wide_low c.requires.sound.wide));
      spares = popped.0;
      runs_fit = runs_fit;
      spares_fit = spares_fit;
    }
