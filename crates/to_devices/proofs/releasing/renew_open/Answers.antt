use Rattle.std.proofs.Common.{sym, ◌∙◌, arith}
use Rattle.to_devices.proofs.Opened.{opened}
use Rattle.to_devices.proofs.releasing.renew_open.Goals as goal

pub pseudo_sum-sum-requires-clause-header : goal.pseudo_sum-sum-requires-clause-header
pseudo_sum-sum-requires-clause-header c = (opened c.args.header.now c.args.packet.now (sym c.leaves_open.ensures ∙ c.if-leaves_open.true)).header

pub pseudo_sum-sum-requires-clause-whole : goal.pseudo_sum-sum-requires-clause-whole
pseudo_sum-sum-requires-clause-whole c = (opened c.args.header.now c.args.packet.now (sym c.leaves_open.ensures ∙ c.if-leaves_open.true)).whole

pub pseudo_sum-sum-requires-clause-short : goal.pseudo_sum-sum-requires-clause-short
pseudo_sum-sum-requires-clause-short c = (opened c.args.header.now c.args.packet.now (sym c.leaves_open.ensures ∙ c.if-leaves_open.true)).short

pub checksum_place-place-requires : goal.checksum_place-place-requires
checksum_place-place-requires c =
    let o = opened c.args.header.now c.args.packet.now (sym c.leaves_open.ensures ∙ c.if-leaves_open.true) in
    omega (arith, o.header, o.whole)

pub put_word-requires : goal.put_word-requires
put_word-requires c =
    let o = opened c.args.header.now c.args.packet.now (sym c.leaves_open.ensures ∙ c.if-leaves_open.true) in
    omega (arith, o.room, c.checksum_place-place.ensures.value)
