use Rattle.std.proofs.Common.{◌+◌, ◌∙◌, length, subst, sym, ap, List, ℕ, arith}
use Rattle.std.proofs.lemmas.List.{with_items_is}
use Rattle.journal.specs.Groups.{IsSealed, body_in, sealed}
use Rattle.journal.proofs.Sealing.{is_sealed, room-in}
use Rattle.journal.proofs.group.Group.put.Goals as goal

pub put_behind-requires-clause-fits : goal.put_behind-requires-clause-fits
put_behind-requires-clause-fits c =
    let own = c.self.inside in
    let i = c.self.invariant in
    omega (arith, c.requires.fits, (room-in own.end own.bytes.items c.args.self.now i c.self.view_is).0, i.long)

pub invariant_of-self : goal.invariant_of-self
invariant_of-self c =
    let own = c.self.inside in
    let i = c.self.invariant in
    let e = c.put_behind.ensures in
    let size = e.size ∙ c.deref_mut.ensures.len in
    let is = room-in own.end own.bytes.items c.args.self.now i c.self.view_is in
    let end = own.end + length c.args.entry.now in
    subst (IsSealed end) (sym (with_items_is own.bytes c.put_behind.new.bytes size))
    (is_sealed end c.put_behind.new.bytes _ (omega (arith, i.long)) (omega (arith, is.1, c.requires.room, i.within, size)) (omega (arith, is.0, c.requires.fits, i.long)) e.sealed e.body)
