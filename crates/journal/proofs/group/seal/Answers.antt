use Rattle.std.proofs.Common.{take, drop, ◌+◌, ◌++◌, List, ℕ, ap, ◌∙◌, arith}
use Rattle.byteorder.specs.Endian.{big_bytes}
use Rattle.journal.specs.Groups.{body_in}
use Rattle.journal.proofs.Sealing.{closed_has_body, closed_is_sealed}
use Rattle.journal.proofs.group.seal.Goals as goal

pub returns-clause-sealed : goal.returns-clause-sealed
returns-clause-sealed c =
    let new = rw c.close.ensures at c.write_size.ensures in
    ap (take (c.args.end + 1)) new ∙ closed_is_sealed c.args.end _ c.args.bytes.now c.requires.long c.requires.within (omega (arith, c.requires.fits))

pub returns-clause-body : goal.returns-clause-body
returns-clause-body c =
    let new = rw c.close.ensures at c.write_size.ensures in
    ap (body_in c.args.end) new ∙ closed_has_body c.args.end _ c.args.bytes.now c.requires.long c.requires.within (omega (arith, c.requires.fits))
