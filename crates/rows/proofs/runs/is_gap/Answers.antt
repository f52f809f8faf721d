use Rattle.std.proofs.Common.{◌≡◌, ◌<◌, ◌≤◌, ◌+◌, ◌-◌, length, ◌∙◌, sym, ap, subst, eqb-true, arith}
use Rattle.std.specs.List.{AllWithin}
use Rattle.rows.specs.declared.Entry.{Entry}
use Rattle.rows.specs.declared.runs.Run.{Run}
use Rattle.rows.specs.Order.{AreKeysRising, IsGap}
use Rattle.rows.proofs.Changes.{rises_of}
use Rattle.rows.proofs.Gaps.{gap_behind}
use Rattle.rows.proofs.runs.is_gap.Goals as goal

pub place_of-requires : goal.place_of-requires
place_of-requires c =
    let inside : c.args.count - 1 < length c.args.runs.now = omega (arith, c.requires.in_range, c.if-count-eq0.false) in
    let run = c.index-runs-count.result in
    subst AreKeysRising (ap (λ (r : Run). r.entries.items) c.index-runs-count.is ∙ sym c.deref.ensures.value) (rises_of c.args.runs.now (c.args.count - 1) run inside c.index-runs-count.is c.requires.ordered)

pub returns-then-len-ge-MOST-clause-gap : goal.returns-then-len-ge-MOST-clause-gap
returns-then-len-ge-MOST-clause-gap c = λ is.
    let runs = c.args.runs.now in
    let number = c.args.count - 1 in
    let run = c.index-runs-count.result in
    let e : number + 1 ≡ c.args.count = omega (arith, c.if-count-eq0.false) in
    let inside : number < length runs = omega (arith, c.requires.in_range, c.if-count-eq0.false) in
    let items : c.deref.result.now ≡ run.entries.items = c.deref.ensures.value ∙ ap (λ (r : Run). r.entries.items) (sym c.index-runs-count.is) in
    let low : run.low ≤ c.args.key = subst (λ (r : Run). r.low ≤ c.args.key) (sym c.index-runs-count.is) (c.requires.before number run (omega arith) (omega (arith, c.if-count-eq0.false))) in
    let some : 0 < length run.entries.items = subst (λ k. 0 < length k) items (omega (arith, c.if-len-ge-MOST.true, c.len.ensures, c.deref.ensures.len)) in
    let smaller : AllWithin (λ (e : Entry). e.key < c.args.key) run.entries.items 0 (length run.entries.items) = subst (λ k. AllWithin (λ (e : Entry). e.key < c.args.key) k 0 (length k)) items (subst (λ n. AllWithin (λ (e : Entry). e.key < c.args.key) c.deref.result.now 0 n) (eqb-true _ _ is ∙ c.len-then-len-ge-MOST.ensures ∙ sym c.deref.ensures.len) c.place_of.ensures.before) in
    subst (IsGap runs c.args.key) e (gap_behind runs c.args.key number run c.requires.ordered inside c.index-runs-count.is low some smaller (subst (λ k. AllWithin (λ (r : Run). c.args.key < r.low) runs k (length runs)) (sym e) c.requires.after))
