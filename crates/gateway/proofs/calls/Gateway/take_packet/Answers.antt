use Rattle.std.proofs.Common.{◌+◌, ◌∙◌, refl, sym, ap}
use Rattle.std.proofs.lemmas.Bool.{false≢true}
use Rattle.machine.specs.Besides.{Besides}
use Rattle.machine.specs.Fates.{answer_of}
use Rattle.machine.specs.declared.event.Event.{Event}
use Rattle.machine.specs.declared.event.What.TheVariants.{Packet}
use Rattle.gateway.specs.Given.{given_by}
use Rattle.gateway.proofs.Offering.{takes_in, held_before}
use Rattle.gateway.proofs.Outcomes.{refuses_step, takes_step}
use Rattle.gateway.proofs.calls.Gateway.take_packet.Goals as goal

pub invariant_of-self : goal.invariant_of-self
invariant_of-self g c =
    let own = c.self.inside in
    let event : Event = record { moment = c.args.moment; what = Packet c.args.iface c.args.packet.now } in
    let done = c.in-Ok.ensures.ok in
    let noted = done.3 tt in
    let gives = c.give.ensures.gives in
    let answer = answer_of c.in-Ok.fate c.take_packet.new.packet in (
      c.self.invariant.0 ∙ sym c.take_packet.ensures.config,
      gives.none,
      λ stands. gives.place ∙ ap (λ (b : Besides). b.place) c.take_packet.ensures.beside ∙ c.self.invariant.2 stands,
      λ stands honest. takes_in own.core.config c.take_packet.new.self.config (g.D.Disk.seen own.store.disk) own.pending.entries c.give.new.pending.entries noted.0 own.core.state
          c.take_packet.new.self.state event done.0 answer c.take_packet.ensures.config c.facts.ensures.config c.facts.ensures.sound
          (c.self.invariant.3 stands honest) done.1 done.2 noted.1 (gives.entries ∙ noted.2),
      λ held. c.self.invariant.4 (sym (ap (λ (b : Besides). b.held) c.take_packet.ensures.beside)
          ∙ held_before (given_by c.give.result c.take_packet.new.packet) c.take_packet.new.notes.held c.give.new.pending.held (own.last + 1, answer) gives.order held),
    )

pub returns-in-Ok-clause-ok : goal.returns-in-Ok-clause-ok
returns-in-Ok-clause-ok g c =
    let none = rw (← c.self.view_is) at c.in_default.ensures.none in
    rw (← c.self.view_is) (
    let own = c.self.inside in
    let event : Event = record { moment = c.args.moment; what = Packet c.args.iface c.args.packet.now } in
    let done = c.in-Ok.ensures.ok in
    let noted = done.3 tt in
    let answer = answer_of c.in-Ok.fate c.take_packet.new.packet in
    let beside = c.take_packet.ensures.beside in
    takes_step _ _ event done.0 noted.0 answer c.give.result _ own.pending c.take_packet.new.notes c.give.new.pending c.facts.ensures.config c.facts.ensures.sound
    done.1 done.2 noted.1 noted.2 (ap (λ (b : Besides). b.place) beside) (ap (λ (b : Besides). b.held) beside) c.give.ensures.gives c.give.ensures.answer c.self.invariant.1
    (λ other is. c.events_are_judged_once.ensures own.core.config event done.0 other done.1 is) refl refl refl refl c.take_packet.ensures.config refl
    none.0 none.1 none.2)

pub returns-in-Err-clause-why : goal.returns-in-Err-clause-why
returns-in-Err-clause-why g c =
    let none = rw (← c.self.view_is) at c.in_default.ensures.none in
    rw (← c.self.view_is) (
    let e = c.in-Err.ensures in
    let why = c.why_refused.ensures in
    refuses_step _ _ c.why_refused.result none.0 none.1 none.2 c.facts.ensures.config c.facts.ensures.sound why.either
    (λ is. let full = e.full (why.full.0 is) in record { judged = full.0; is_judged = full.1; gone = full.2; are_over = full.3; over = full.4 })
    (λ no_load judged is_judged ends keeps is. e.no_memory judged is_judged ends keeps (why.no_memory.0 is))
    (λ no_load judged is_judged of. false≢true (e.quiet judged is_judged of)))
