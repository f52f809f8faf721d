use Rattle.std.proofs.Common.{◌≡◌, ◌<◌, ◌+◌, arith}
use Rattle.packet.specs.declared.endpoint.Proto.TheVariants.{Udp}
use Rattle.mappings.specs.declared.map.Mapping.{Mapping}
use Rattle.mappings.specs.Map.{times, mapping, one_at}
use Rattle.mappings.proofs.Times.{keeps-held, one_at-itself}
use Rattle.test_tables.proofs.mapped.goes_with_its_last_hold.Goals as goal

pub hold-requires-2-clause-one_to_one : goal.hold-requires-2-clause-one_to_one
hold-requires-2-clause-one_to_one g c =
    let udp : Mapping = mapping Udp (record { addr = 3232235778; port = 5000 }) (record { addr = 3405803777; port = 5002 }) in
    let times_is : times c.hold.new.map udp ≡ times c.args.map.now udp + one_at udp udp = c.in_ok-hold.ensures udp in
    let held : 0 < times c.hold.new.map udp = omega (arith, times_is, one_at-itself udp) in
    keeps-held (times c.hold.new.map) c.facts.ensures udp held
