use Rattle.std.proofs.Common.{◌≡◌, ◌+◌, ◌-◌, ◌<◌, ◌≤◌, length, length-append, ap, ◌∙◌, arith}
use Rattle.timers.proofs.Held.{head_below}
use Rattle.timers.proofs.Walks.{slot_at, step, ends, at_most}
use Rattle.timers.proofs.walk.push_over.Goals as goal

pub loop-slot-preserved : goal.loop-slot-preserved
loop-slot-preserved c =
    let at = slot_at c.args.links.now c.args.now c.loop-slot.place c.in-Some.slot c.requires.row c.in-Some.ensures.over in
    rw (c.in_ok-push.ensures.items, c.next-place-in-Some.ensures) (step _ _ _ _ _ (head_below c.args.queue) c.requires.row c.loop-slot.invariant c.in-Some.slot at.0 at.1)

pub loop-slot-smaller : goal.loop-slot-smaller
loop-slot-smaller c =
    let fits : length c.push.new.self.items ≤ length c.args.links.now = at_most _ _ _ _ _ (head_below c.args.queue) c.requires.row (loop-slot-preserved c) in
    let more : length c.push.new.self.items ≡ length c.loop-slot.slots.items + 1 = ap length c.in_ok-push.ensures.items ∙ simp length-append (omega arith) in
    let less : length c.args.links.now - length c.push.new.self.items < length c.args.links.now - length c.loop-slot.slots.items = omega arith in
    less

pub returns-clause-ok : goal.returns-clause-ok
returns-clause-ok c = ends _ _ _ _ _ (head_below c.args.queue) c.requires.row c.loop-slot.invariant c.in_default.ensures.alive
