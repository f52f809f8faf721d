use Rattle.std.proofs.Common.{arith}
use Rattle.to_devices.proofs.Sums.{address_words, pseudo_total}
use Rattle.to_devices.proofs.releasing.pseudo_sum.Goals as goal

pub returns : goal.returns
returns c =
    let p = c.args.packet.now in
    omega (arith, pseudo_total p (omega arith) c.requires.whole c.requires.short, address_words p)
