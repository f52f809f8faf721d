use Rattle.std.proofs.Common.{◌∙◌, ◌++◌, ◌∷◌, [], ap, length, length-append, arith, ◌≤◌}
use Rattle.durable.specs.Coding.{entry_bytes}
use Rattle.durable.specs.Viewing.{view}
use Rattle.durable.proofs.Bodies.{length-entry}
use Rattle.gateway.specs.HeldAnswers.{HeldAnswers}
use Rattle.gateway.proofs.Bodies.{one_more, one_more_noted}
use Rattle.gateway.proofs.pending.PendingNotes.note.Goals as goal

pub invariant_of-self : goal.invariant_of-self
invariant_of-self c =
    let own = c.self.inside in
    let slots = c.self.invariant.1 in
    let e = view c.args.item in
    let room = ap (λ (h : HeldAnswers). h.room) c.self.view_is in
    let enough = c.requires.room tt in
    let le : length (entry_bytes e) ≤ own.room = omega (arith, room, enough) in
    let some = length-entry e in
    let long = ap length c.put.ensures.body ∙ length-append own.group.body (entry_bytes e) in (
      one_more own.group.body c.put.new.group.body own.group.room c.put.new.group.room own.place own.room _ e
          c.self.invariant.0 (c.requires.coded tt) le c.put.ensures.body c.put.ensures.room
          (let before = c.len-before.ensures in let after = c.len.ensures in omega (arith, before, after, long, le)),
      record {
        within = slots.within;
        most = slots.most;
        quiet = λ none. let is_none = ap length none in absurd (omega (arith, is_none, long, some));
        enough = λ _. slots.enough (omega (arith, le, some));
        none = slots.none;
      },
    )

pub returns-clause-noted : goal.returns-clause-noted
returns-clause-noted c = λ _.
    let own = c.self.inside in
    one_more_noted own.group.body c.put.new.group.body own.group.room own.place own.room (view c.args.item) c.self.invariant.0 (c.requires.coded tt) c.put.ensures.body
    ∙ ap (λ (h : HeldAnswers). h.entries ++ view c.args.item ∷ []) c.self.view_is
