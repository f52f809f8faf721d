use Rattle.std.proofs.Common.{◌≡◌, length, sym, subst, ◌∙◌, ap, arith}
use Rattle.std.proofs.lemmas.List.{length-set}
use Rattle.std.proofs.lemmas.List.Elements.{All-set, All-get_or}
use Rattle.rows.specs.Order.{IsWide, held_in}
use Rattle.rows.proofs.Gaps.{lowered, lowered_ordered, lowered_held, opened_held}
use Rattle.rows.proofs.runs.begin.Goals as goal

pub returns-then-len-lt-MOST-clause-sound : goal.returns-then-len-lt-MOST-clause-sound
returns-then-len-lt-MOST-clause-sound c =
    let runs = c.args.runs.now.items in
    let number = c.args.number in
    let read = c.lower.ensures.runs in
    let sound = c.requires.sound in
    let changed = lowered runs number c.args.low c.requires.gap (omega (arith, c.if-number-len.true, c.len.ensures)) read.0 read.1 in
    let sized : IsWide read.0 = subst IsWide (sym read.1) (All-get_or IsWide runs number read.0 (omega (arith, c.if-number-len.true, c.len.ensures)) sound.wide) in
    let long : length c.lower.new.runs.items ≡ length runs = ap length read.2 ∙ length-set runs number changed in
    record {
      ordered = rw read.2 (lowered_ordered runs number c.args.low c.requires.gap (omega (arith, c.if-number-len.true, c.len.ensures)) read.0 read.1 sound.ordered);
      wide = rw read.2 (All-set IsWide runs number changed (record { few = sized.few; wide = sized.wide }) sound.wide);
      spares = sound.spares;
      runs_fit = omega (arith, long, sound.runs_fit, c.lower.ensures.capacity);
      spares_fit = omega (arith, long, sound.spares_fit);
    }

pub returns-then-len-lt-MOST-clause-held : goal.returns-then-len-lt-MOST-clause-held
returns-then-len-lt-MOST-clause-held c =
    let read = c.lower.ensures.runs in
    ap held_in read.2 ∙ lowered_held c.args.runs.now.items c.args.number c.args.low c.requires.gap (omega (arith, c.if-number-len.true, c.len.ensures)) read.0 read.1

pub returns-else-number-len-clause-held : goal.returns-else-number-len-clause-held
returns-else-number-len-clause-held c =
    let run = c.open.ensures.runs in
    ap held_in run.1 ∙ opened_held c.args.runs.now.items c.args.number c.args.low c.requires.gap run.0 run.2 run.3
