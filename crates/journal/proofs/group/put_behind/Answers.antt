use Rattle.std.proofs.Common.{◌∙◌, ◌+◌, length, drop, ap, arith}
use Rattle.journal.specs.Groups.{body_in, sealed}
use Rattle.journal.proofs.Sealing.{grown}
use Rattle.journal.proofs.group.put_behind.Goals as goal

pub returns-clause-sealed : goal.returns-clause-sealed
returns-clause-sealed c =
    let end = c.args.end + length c.args.entry.now in
    c.seal.ensures.sealed
    ∙ ap sealed (ap (body_in end) c.put_at.ensures ∙ grown c.args.end c.args.bytes.now c.args.entry.now c.requires.long (omega (arith, c.requires.room)) (drop end c.args.bytes.now))

pub returns-clause-body : goal.returns-clause-body
returns-clause-body c =
    let end = c.args.end + length c.args.entry.now in
    c.seal.ensures.body
    ∙ ap (body_in end) c.put_at.ensures ∙ grown c.args.end c.args.bytes.now c.args.entry.now c.requires.long (omega (arith, c.requires.room)) (drop end c.args.bytes.now)
