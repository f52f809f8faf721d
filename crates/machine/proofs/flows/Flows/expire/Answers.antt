use Rattle.std.proofs.Common.{◌≡◌, ◌<◌, ◌+◌, ◌*◌, [], length, Err, refl, sym, ap, subst, ◌∙◌, arith}
use Rattle.std.proofs.lemmas.Grind.{common_steps}
use Rattle.std.proofs.lemmas.Result.{err_from_is_err_and}
use Rattle.durable.proofs.Errors.{same_error}
use Rattle.machine.specs.Flows.{Flows}
use Rattle.machine.specs.Noted.{ends, sessions_at}
use Rattle.machine.proofs.Expiry.{expired, first_of}
use Rattle.machine.proofs.Keepings.{noted-behind, noted-nothing}
use Rattle.machine.proofs.Slots.{length-at, none-over, slots-over, some-at}
use Rattle.machine.proofs.flows.Flows.expire.Goals as goal

pub returns-then-is_empty-clause-ok : goal.returns-then-is_empty-clause-ok
returns-then-is_empty-clause-ok g c =
    let held = c.args.self.now.table.held in
    let items = c.in-Ok.slots.items in
    let a = c.if-is_empty.true in
    let b = c.is_empty.ensures in
    let empty : length items ≡ 0 = grind (arith, common_steps) in
    expired held held items c.args.now c.slots_due.ensures.sound c.slots_due.ensures.sound c.in-Ok.ensures.exactly (λ k lt. absurd (omega arith)) (λ slot not_in. refl)

pub returns-then-is_empty-clause-noted : goal.returns-then-is_empty-clause-noted
returns-then-is_empty-clause-noted g c =
    let held = c.args.self.now.table.held in
    let items = c.in-Ok.slots.items in
    let a = c.if-is_empty.true in
    let b = c.is_empty.ensures in
    let empty : length items ≡ 0 = grind (arith, common_steps) in
    ([], none-over held c.slots_due.ensures.sound c.args.now items c.in-Ok.ensures.exactly c.in-Ok.ensures.once empty, noted-nothing g.N.Notes.keeps g.N.Notes.beside g.N.Notes.noted c.args.notes.now)

pub returns-then-is_err-clause-succeeds : goal.returns-then-is_err-clause-succeeds
returns-then-is_err-clause-succeeds g c = λ none.
    let items = c.in-Ok.slots.items in
    let a = c.if-is_empty.false in
    let b = c.is_empty.ensures in
    let some : 0 < length items = grind (arith, common_steps) in
    let first = first_of items some in
    absurd (none first.0 ((c.in-Ok.ensures.exactly first.0).0 first.1))

pub returns-in_err-reserve-clause-full : goal.returns-in_err-reserve-clause-full
returns-in_err-reserve-clause-full g c = λ full.
    let p = err_from_is_err_and c.from_residual.result c.from_residual.ensures.1 in
    let held = c.args.self.now.table.held in
    let items = c.in-Ok.slots.items in
    let b = c.len.ensures in
    let count : c.len.result ≡ length items = grind (arith, common_steps) in
    let many = length-at held items (some-at held c.args.now items c.in-Ok.ensures.exactly) in (
      sessions_at held items,
      slots-over held c.slots_due.ensures.sound c.args.now items c.in-Ok.ensures.exactly c.in-Ok.ensures.once,
      subst (λ n. g.N.Notes.too_many c.args.notes.now (14 * n + c.args.others)) (count ∙ sym many) (c.in_err-reserve.ensures.full (ap Err (sym p.2 ∙ same_error _ _ _ p.1 full))),
    )

pub returns-in_err-reserve-clause-succeeds : goal.returns-in_err-reserve-clause-succeeds
returns-in_err-reserve-clause-succeeds g c = λ none.
    let items = c.in-Ok.slots.items in
    let a = c.if-is_empty.false in
    let b = c.is_empty.ensures in
    let some : 0 < length items = grind (arith, common_steps) in
    let first = first_of items some in
    absurd (none first.0 ((c.in-Ok.ensures.exactly first.0).0 first.1))

pub returns-clause-ok : goal.returns-clause-ok
returns-clause-ok g c =
    let held = c.args.self.now.table.held in
    let same : c.look_over.new.self.table.held ≡ held = ap (λ (flows : Flows). flows.table.held) c.look_over.ensures ∙ c.reserve.ensures.held in
    let items = c.in-Ok.slots.items in
    let ended = rw c.deref-2.ensures.value at c.end_all.ensures.ended in
    let others = rw (c.deref-2.ensures.value, same) at c.end_all.ensures.others in
    expired held c.end_all.new.self.table.held items c.args.now c.slots_due.ensures.sound c.end_all.ensures.sound c.in-Ok.ensures.exactly ended others

pub returns-clause-noted : goal.returns-clause-noted
returns-clause-noted g c =
    let held = c.args.self.now.table.held in
    let same : c.look_over.new.self.table.held ≡ held = ap (λ (flows : Flows). flows.table.held) c.look_over.ensures ∙ c.reserve.ensures.held in
    let items = c.in-Ok.slots.items in
    let told = rw (c.deref-2.ensures.value, same) at c.end_all.ensures.noted in
    let made = c.reserve-2.ensures in (
      sessions_at held items,
      slots-over held c.slots_due.ensures.sound c.args.now items c.in-Ok.ensures.exactly c.in-Ok.ensures.once,
      noted-behind g.N.Notes.keeps g.N.Notes.beside g.N.Notes.noted c.args.notes.now c.reserve-2.new.self c.end_all.new.notes (ends (sessions_at held items))
          (record { kept = made.keeps; stays = made.beside; same = made.noted }) told,
    )
