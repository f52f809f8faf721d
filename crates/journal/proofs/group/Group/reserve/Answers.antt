use Rattle.std.proofs.Common.{◌+◌, ◌∙◌, ap, sym, arith}
use Rattle.journal.specs.Groups.{Growing, sealed}
use Rattle.journal.proofs.Sealing.{body-kept, is_sealed}
use Rattle.journal.proofs.group.Group.reserve.Goals as goal

pub invariant_of-self : goal.invariant_of-self
invariant_of-self c =
    let i = c.self.invariant in
    let e = c.make_room.ensures in
    is_sealed c.self.inside.end c.make_room.new.bytes.items _ i.long (omega (arith, e.longer, i.within)) i.fits (e.front ∙ i.sealed_is)
    (body-kept c.self.inside.end 1 c.self.inside.bytes.items c.make_room.new.bytes.items e.front)

pub returns-clause-body : goal.returns-clause-body
returns-clause-body c =
    body-kept c.self.inside.end 1 c.self.inside.bytes.items c.make_room.new.bytes.items c.make_room.ensures.front ∙ ap (λ (v : Growing). v.body) c.self.view_is
