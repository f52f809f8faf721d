use Rattle.std.proofs.Common.{◌+◌, ◌∙◌, length, subst, sym, ap, List, ℕ, take, arith}
use Rattle.std.proofs.lemmas.List.{with_items_is}
use Rattle.journal.specs.Groups.{Growing, IsSealed, body_in}
use Rattle.journal.proofs.Sealing.{cut, is_sealed, room-in}
use Rattle.journal.proofs.group.Group.truncate.Goals as goal

pub overflow_add-len : goal.overflow_add-len
overflow_add-len c =
    let own = c.self.inside in
    let i = c.self.invariant in
    omega (arith, c.requires, (room-in own.end own.bytes.items c.args.self.now i c.self.view_is).0, i.long, i.fits)

pub seal-requires-clause-within : goal.seal-requires-clause-within
seal-requires-clause-within c =
    let own = c.self.inside in
    let i = c.self.invariant in
    omega (arith, c.requires, (room-in own.end own.bytes.items c.args.self.now i c.self.view_is).0, i.long, i.within, ap length c.deref_mut.ensures.value)

pub seal-requires-clause-fits : goal.seal-requires-clause-fits
seal-requires-clause-fits c =
    let own = c.self.inside in
    let i = c.self.invariant in
    omega (arith, c.requires, (room-in own.end own.bytes.items c.args.self.now i c.self.view_is).0, i.long, i.fits)

pub invariant_of-self : goal.invariant_of-self
invariant_of-self c =
    let own = c.self.inside in
    let i = c.self.invariant in
    let e = c.seal.ensures in
    let size = e.size ∙ c.deref_mut.ensures.len in
    let is = room-in own.end own.bytes.items c.args.self.now i c.self.view_is in
    let end = c.args.len + 4 in
    subst (IsSealed end) (sym (with_items_is own.bytes c.seal.new.bytes size))
    (is_sealed end c.seal.new.bytes _ (omega arith) (omega (arith, is.0, c.requires, i.long, i.within, size)) (omega (arith, is.0, c.requires, i.long, i.fits)) e.sealed e.body)

pub returns-clause-body : goal.returns-clause-body
returns-clause-body c =
    let own = c.self.inside in
    let i = c.self.invariant in
    let e = c.seal.ensures in
    let size = e.size ∙ c.deref_mut.ensures.len in
    let is = room-in own.end own.bytes.items c.args.self.now i c.self.view_is in
    ap (body_in (c.args.len + 4)) (with_items_is own.bytes c.seal.new.bytes size) ∙ e.body ∙ ap (body_in (c.args.len + 4)) c.deref_mut.ensures.value
    ∙ cut own.end c.args.len own.bytes.items (omega (arith, is.0, c.requires, i.long)) ∙ ap (λ (v : Growing). take c.args.len v.body) c.self.view_is

pub returns-clause-room : goal.returns-clause-room
returns-clause-room c =
    let own = c.self.inside in
    let i = c.self.invariant in
    let size = c.seal.ensures.size ∙ c.deref_mut.ensures.len in
    let is = room-in own.end own.bytes.items c.args.self.now i c.self.view_is in
    let all = ap length (with_items_is own.bytes c.seal.new.bytes size) in
    omega (arith, is.0, is.1, c.requires, i.long, i.within, size, all)
