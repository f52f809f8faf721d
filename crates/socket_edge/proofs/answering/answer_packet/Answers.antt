use Rattle.std.proofs.Common.{[], ◌∷◌, List, ℕ, subst, refl}
use Rattle.gateway.specs.Given.{answer_given}
use Rattle.gateway.specs.Running.{Proceeds, Fails}
use Rattle.machine.specs.declared.event.Answer.{Answer}
use Rattle.machine.specs.declared.event.What.TheVariants.{Packet}
use Rattle.socket_edge.proofs.answering.answer_packet.Goals as goal

pub returns-in-Ok-clause-ok : goal.returns-in-Ok-clause-ok
returns-in-Ok-clause-ok g c =
    let packet = c.take_packet.new.packet in
    let answer : ℕ × Answer = answer_given c.in-Ok.taken packet in (
      answer,
      c.write_given.ensures.frame packet refl,
      subst (λ (was : List ℕ). Proceeds g.D.Disk.honest g.D.Disk.moment g.D.Disk.left g.D.Disk.failed c.args.gateway.now c.take_packet.new.gateway (record { moment = c.args.moment; what = Packet c.args.iface was } ∷ []) (answer ∷ []))
          c.split_at_mut-front.ensures.back c.in-Ok.ensures.ok,
    )

pub returns-in-Err-clause-err : goal.returns-in-Err-clause-err
returns-in-Err-clause-err g c =
    subst (λ (was : List ℕ). Fails g.D.Disk.honest g.D.Disk.moment g.D.Disk.left g.D.Disk.failed c.args.gateway.now c.take_packet.new.gateway (record { moment = c.args.moment; what = Packet c.args.iface was } ∷ []) c.in-Err.fault)
    c.split_at_mut-front.ensures.back c.in-Err.ensures.err
