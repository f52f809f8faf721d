use Rattle.std.proofs.Common.{◌≡◌, ◌+◌, ◌-◌, ◌≤◌, length, take, sym, ◌∙◌, arith}
use Rattle.std.proofs.lemmas.List.{length-take-le}
use Rattle.std.proofs.lemmas.Grind.{common_steps}
use Rattle.from_devices.proofs.Gathering.{packet_taken, header_taken, take_fits}
use Rattle.from_devices.proofs.framing.take_packet.Goals as goal

pub returns-clause-some : goal.returns-clause-some
returns-clause-some g c =
    let room = c.receive.new.room in
    let count = c.in-Some.count in
    let size : length room ≡ 65545 = grind (arith, common_steps) in
    let least : 10 ≤ count = c.in-Some.ensures.header in
    let most : count ≤ 65545 = c.in-Some.ensures.longest in
    let few : count ≤ length room = omega (arith, size, most) in (
      take count room,
      c.in-Some.ensures.gave,
      c.header_at-header.ensures ∙ sym (header_taken count room least),
      rw (← c.byte_of.ensures) (packet_taken c.args.bytes.now room c.put_head.new.frame count (count + 14 - 10) _ 1 c.byte_of.result c.args.moment (omega arith) (omega (arith, c.requires)) least few c.put_head.ensures _),
      record {
        header = omega (arith, length-take-le count room few, least);
        longest = omega (arith, length-take-le count room few, most);
        bytes = take_fits count room c.bytes_fit.ensures;
      },
    )
