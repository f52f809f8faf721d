use Rattle.std.proofs.Common.{◌≤◌, length, sym, ap, subst, arith}
use Rattle.durable.specs.Coding.{Load, entry_bytes}
use Rattle.machine.proofs.Costs.{cost-load}
use Rattle.machine.proofs.in_force.note_load.Goals.{then-not-ready+in_ok-reserve, else-not-ready}
use Rattle.machine.proofs.in_force.note_load.Goals as goal

pub note-requires-clause-room : goal.note-requires-clause-room
note-requires-clause-room g c = λ keeps.
    let text = c.as_slice-bytes.result.now in
    let cost = cost-load text in
    let same = ap length c.as_slice-bytes.ensures.value in
    elim c.if-not-ready.branch [
      | then-not-ready+in_ok-reserve w ↦
          let made = w.in_ok-reserve.ensures.ok (w.reserve.ensures.keeps.1 (subst g.N.Notes.keeps w.notes-is keeps)) in
          subst (λ notes. length (entry_bytes (Load text)) ≤ g.N.Notes.room notes) (sym w.notes-is) (omega (arith, cost, same, made))
      | else-not-ready w ↦
          let had = c.requires w.if-not-ready.false (subst g.N.Notes.keeps w.notes-is keeps) in
          subst (λ notes. length (entry_bytes (Load text)) ≤ g.N.Notes.room notes) (sym w.notes-is) (omega (arith, cost, same, had))
    ]
