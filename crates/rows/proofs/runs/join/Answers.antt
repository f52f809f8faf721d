use Rattle.std.proofs.Common.{◌≡◌, ◌≤◌, ◌+◌, length, vec_capacity, get_or, set, refl, ap, ◌∙◌, sym, subst, arith}
use Rattle.std.proofs.lemmas.List.{length_push, length-set, length-append, get_or_default}
use Rattle.std.proofs.lemmas.List.Edits.{length-remove}
use Rattle.std.proofs.lemmas.List.Elements.{All-push, All-set, All-get_or}
use Rattle.std.specs.List.{All}
use Rattle.rows.specs.declared.runs.Run.{Run}
use Rattle.rows.specs.Order.{IsWide, IsSpare, IsCut, half}
use Rattle.rows.proofs.Cuts.{All-remove, join_is, read_lower, uncut_ordered, cut_held}
use Rattle.rows.proofs.runs.join.Goals as goal

-- the two, and that they are few
few : (c : goal.After-push_reserved) → length c.index_mut.result.now.entries.items + length c.remove-higher.result.entries.items ≤ half
few c =
    let runs = c.args.runs.now.items in
    let run = c.index_mut.result.now in
    let higher = c.remove-higher.result in
    let read = subst (λ k. run ≡ get_or k c.args.number run) c.remove-higher.ensures.items c.index_mut.ensures.value in
    let lower = read_lower runs c.args.number c.requires.in_range run higher run read c.remove-higher.ensures.value in
    let next : higher ≡ get_or runs (c.args.number + 1) run = c.remove-higher.ensures.value ∙ get_or_default runs (c.args.number + 1) higher run c.requires.in_range in
    subst (λ (r : Run). length r.entries.items + length higher.entries.items ≤ half) (sym lower) (subst (λ (r : Run). length (get_or runs c.args.number run).entries.items + length r.entries.items ≤ half) (sym next) (c.requires.few run))

joined : (c : goal.After-push_reserved) → IsCut (set c.remove-higher.new.self.items c.args.number (record { low = c.index_mut.result.now.low; entries = c.append.new.entries })) c.args.runs.now.items c.args.number
joined c =
    let runs = c.args.runs.now.items in
    let run = c.index_mut.result.now in
    let both : Run = record { low = run.low; entries = c.append.new.entries } in
    let read = subst (λ k. run ≡ get_or k c.args.number run) c.remove-higher.ensures.items c.index_mut.ensures.value in
    subst (λ k. IsCut (set k c.args.number both) runs c.args.number) (sym c.remove-higher.ensures.items) (join_is runs c.args.number c.requires.in_range run c.remove-higher.result both read c.remove-higher.ensures.value c.append.ensures.items refl (omega (arith, few c)))

pub returns-clause-sound : goal.returns-clause-sound
returns-clause-sound c =
    let runs = c.args.runs.now.items in
    let number = c.args.number in
    let run = c.index_mut.result.now in
    let both : Run = record { low = run.low; entries = c.append.new.entries } in
    let removed : All IsWide c.remove-higher.new.self.items = rw c.remove-higher.ensures.items (All-remove IsWide runs (number + 1) c.requires.sound.wide) in
    let shorter : length c.remove-higher.new.self.items + 1 ≡ length runs = ap (λ k. k + 1) (ap length c.remove-higher.ensures.items) ∙ length-remove runs (number + 1) c.requires.in_range in
    let wide_run : IsWide run = subst IsWide (sym c.index_mut.ensures.value) (All-get_or IsWide c.remove-higher.new.self.items number run (omega (arith, shorter, c.requires.in_range)) removed) in
    let wide_higher : IsWide c.remove-higher.result = subst IsWide (sym c.remove-higher.ensures.value) (All-get_or IsWide runs (number + 1) c.remove-higher.result c.requires.in_range c.requires.sound.wide) in
    let long : length c.append.new.entries.items ≡ length run.entries.items + length c.remove-higher.result.entries.items = ap length c.append.ensures.items ∙ length-append run.entries.items c.remove-higher.result.entries.items in
    let wide : IsWide both = record { few = omega (arith, long, few c); wide = omega (arith, wide_run.wide, c.append.ensures.capacity) } in
    let spared : IsSpare c.append.new.more = record { empty = c.append.ensures.empty; wide = omega (arith, wide_higher.wide, c.append.ensures.more_capacity) } in
    let more : length c.push_reserved.new.self.items ≡ length c.args.spare.now.items + 1 = ap length c.push_reserved.ensures.items ∙ length_push c.args.spare.now.items c.append.new.more in
    let same : length (set c.remove-higher.new.self.items number both) ≡ length c.remove-higher.new.self.items = length-set c.remove-higher.new.self.items number both in
    let runs_fit : length (set c.remove-higher.new.self.items number both) + length c.push_reserved.new.self.items ≤ vec_capacity c.remove-higher.new.self = omega (arith, same, shorter, more, c.requires.sound.runs_fit, c.remove-higher.ensures.capacity) in
    let spares_fit : length (set c.remove-higher.new.self.items number both) + length c.push_reserved.new.self.items ≤ vec_capacity c.push_reserved.new.self = omega (arith, same, shorter, more, c.requires.sound.spares_fit, c.push_reserved.ensures.capacity) in
    record {
      ordered = uncut_ordered (set c.remove-higher.new.self.items number both) runs number (joined c) c.requires.sound.ordered;
      wide = All-set IsWide c.remove-higher.new.self.items number both wide removed;
      spares = rw c.push_reserved.ensures.items (All-push IsSpare c.args.spare.now.items c.append.new.more c.requires.sound.spares spared);
      runs_fit = runs_fit;
      spares_fit = spares_fit;
    }

pub returns-clause-held : goal.returns-clause-held
returns-clause-held c = sym (cut_held (set c.remove-higher.new.self.items c.args.number (record { low = c.index_mut.result.now.low; entries = c.append.new.entries })) c.args.runs.now.items c.args.number (joined c))
