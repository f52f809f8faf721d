use Rattle.std.proofs.Common.{◌≡◌, ◌<◌, length, sym, subst, refl, None, arith}
use Rattle.std.proofs.lemmas.List.{length-set}
use Rattle.std.proofs.lemmas.List.Elements.{All-set}
use Rattle.std.proofs.lemmas.List.Edits.{length-insert}
use Rattle.rows.specs.declared.runs.Run.{Run}
use Rattle.rows.specs.Held.{value_at}
use Rattle.rows.specs.Order.{IsWide, most}
use Rattle.rows.proofs.Changes.{rises_of, put_ordered, put_puts, put_counted}
use Rattle.rows.proofs.runs.add.Goals as goal

pub put-requires-clause-rising : goal.put-requires-clause-rising
put-requires-clause-rising c =
    let ready = c.run_with_room-number.ensures in
    rises_of c.run_with_room-number.new.runs.items c.run_with_room-number.result c.index_mut.result.now ready.run.in_range c.index_mut.ensures.value ready.sound.ordered

pub returns-clause-sound : goal.returns-clause-sound
returns-clause-sound c =
    let ready = c.run_with_room-number.ensures in
    let runs = c.run_with_room-number.new.runs.items in
    let number = c.run_with_room-number.result in
    let run = c.index_mut.result.now in
    let changed : Run = record { low = run.low; entries = c.put.new.entries } in
    let place = c.put.ensures.place in
    let absent = subst (λ k. value_at k c.args.entry.key ≡ None) (sym ready.held) c.requires.absent in
    let few : length run.entries.items < most = subst (λ (r : Run). length r.entries.items < most) (sym c.index_mut.ensures.value) (ready.few run) in
    let wide : IsWide changed = record { few = rw place.2 (omega (arith, few, length-insert run.entries.items place.0 c.args.entry place.1.in_range)); wide = c.put.ensures.wide } in
    record {
      ordered = put_ordered runs number run ready.run.in_range c.index_mut.ensures.value ready.sound.ordered changed refl c.args.entry place.0 ready.run place.1 place.2 absent;
      wide = All-set IsWide runs number changed wide ready.sound.wide;
      spares = ready.sound.spares;
      runs_fit = rw (length-set runs number changed) ready.sound.runs_fit;
      spares_fit = rw (length-set runs number changed) ready.sound.spares_fit;
    }

pub returns-clause-puts : goal.returns-clause-puts
returns-clause-puts c =
    let ready = c.run_with_room-number.ensures in
    let runs = c.run_with_room-number.new.runs.items in
    let run = c.index_mut.result.now in
    let changed : Run = record { low = run.low; entries = c.put.new.entries } in
    let place = c.put.ensures.place in
    let absent = subst (λ k. value_at k c.args.entry.key ≡ None) (sym ready.held) c.requires.absent in
    rw (← ready.held) (put_puts runs c.run_with_room-number.result run ready.run.in_range c.index_mut.ensures.value ready.sound.ordered changed refl c.args.entry place.0 ready.run place.1 place.2 absent)

pub returns-clause-counted : goal.returns-clause-counted
returns-clause-counted c =
    let ready = c.run_with_room-number.ensures in
    let runs = c.run_with_room-number.new.runs.items in
    let run = c.index_mut.result.now in
    let changed : Run = record { low = run.low; entries = c.put.new.entries } in
    let place = c.put.ensures.place in
    let absent = subst (λ k. value_at k c.args.entry.key ≡ None) (sym ready.held) c.requires.absent in
    rw (← ready.held) (put_counted runs c.run_with_room-number.result run ready.run.in_range c.index_mut.ensures.value ready.sound.ordered changed refl c.args.entry place.0 ready.run place.1 place.2 absent)
