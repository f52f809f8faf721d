use Rattle.std.proofs.Common.{ap}
use Rattle.machine.specs.declared.event.Event.{Event}
use Rattle.machine.specs.declared.event.What.TheVariants.{Packet}
use Rattle.gateway.specs.Kept.{Kept}
use Rattle.gateway.proofs.Proceeding.{err-both, fails-refused, none-taken, proceeds-taken}
use Rattle.gateway.proofs.Runs.{few-fit, still}
use Rattle.gateway.proofs.in_place.offer_packet.Goals as goal

pub returns-clause-ok : goal.returns-clause-ok
returns-clause-ok g c =
    let event : Event = record { moment = c.args.moment; what = Packet c.args.iface c.args.packet.now } in
    let e = c.take_packet.ensures in
    proceeds-taken g.D.Disk.honest g.D.Disk.moment g.D.Disk.left g.D.Disk.failed c.args.gateway.now c.take_packet.new.self event c.take_packet.result c.take_packet.new.packet c.facts.ensures.config c.facts.ensures.sound e.beside e.ok

pub returns-clause-now : goal.returns-clause-now
returns-clause-now g c =
    let event : Event = record { moment = c.args.moment; what = Packet c.args.iface c.args.packet.now } in
    none-taken c.args.gateway.now c.take_packet.new.self event c.take_packet.result c.take_packet.new.packet c.take_packet.ensures.ok

pub returns-clause-err : goal.returns-clause-err
returns-clause-err g c =
    let event : Event = record { moment = c.args.moment; what = Packet c.args.iface c.args.packet.now } in
    let e = c.take_packet.ensures in
    err-both _ _ _ c.take_packet.result e.err e.why (λ why still refused. (
      still.0,
      still.1,
      (λ full some. fails-refused g.D.Disk.honest g.D.Disk.moment g.D.Disk.left g.D.Disk.failed c.args.gateway.now c.take_packet.new.self event why some still.0 refused full),
      refused.roomy,
      (λ few. few-fit c.args.gateway.now why few refused.held_full),
    ))

pub returns-clause-any_moment : goal.returns-clause-any_moment
returns-clause-any_moment g c = still _ _ _ _ g.met.D.Disk.earlier _ c.take_packet.new.self (ap (λ (n : Kept _). n.disk) c.take_packet.ensures.beside)
