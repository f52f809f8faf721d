use Rattle.std.proofs.Common.{◌+◌, ◌∙◌, refl, sym, ap}
use Rattle.std.proofs.lemmas.Bool.{false≢true}
use Rattle.machine.specs.Besides.{Besides}
use Rattle.machine.specs.Fates.{answer_of}
use Rattle.gateway.specs.Given.{given_by}
use Rattle.gateway.proofs.Leaving.{none_leaves, short_leaves}
use Rattle.gateway.proofs.Offering.{takes_in, held_before}
use Rattle.gateway.proofs.Outcomes.{refuses_step, takes_step}
use Rattle.gateway.proofs.calls.Gateway.take_whole.Goals as goal

pub give-taken-requires-clause-short : goal.give-taken-requires-clause-short
give-taken-requires-clause-short g c =
    let own = c.self.inside in
    let done = c.in-Ok.ensures.ok in
    rw c.parts_of-fate.ensures.packet (short_leaves own.core.config own.core.state c.step_noted.new.self.state c.args.event done.0 c.in-Ok.answer done.1 done.2 c.facts-2.ensures.bytes)

pub returns-in-Ok-clause-bodiless : goal.returns-in-Ok-clause-bodiless
returns-in-Ok-clause-bodiless g c =
    let own = c.self.inside in
    let done = c.in-Ok.ensures.ok in
    none_leaves own.core.config own.core.state c.step_noted.new.self.state c.args.event done.0 c.in-Ok.answer done.1 done.2

pub invariant_of-self : goal.invariant_of-self
invariant_of-self g c =
    let own = c.self.inside in
    let done = c.in-Ok.ensures.ok in
    let noted = done.3 tt in
    let gives = c.give-taken.ensures.gives in
    let parts = c.parts_of-fate.result in (
      c.self.invariant.0 ∙ sym c.step_noted.ensures.config,
      gives.none,
      λ stands. gives.place ∙ ap (λ (b : Besides). b.place) c.step_noted.ensures.beside ∙ c.self.invariant.2 stands,
      λ stands honest. takes_in own.core.config c.step_noted.new.self.config (g.D.Disk.seen own.store.disk) own.pending.entries c.give-taken.new.pending.entries noted.0 own.core.state
          c.step_noted.new.self.state c.args.event done.0 c.in-Ok.answer c.step_noted.ensures.config c.facts.ensures.config c.facts.ensures.sound
          (c.self.invariant.3 stands honest) done.1 done.2 noted.1 (gives.entries ∙ noted.2),
      λ held. c.self.invariant.4 (sym (ap (λ (b : Besides). b.held) c.step_noted.ensures.beside)
          ∙ held_before (given_by c.give-taken.result parts.1.now) c.step_noted.new.notes.held c.give-taken.new.pending.held (own.last + 1, answer_of parts.0 parts.1.now) gives.order held),
    )

pub returns-in-Ok-clause-ok : goal.returns-in-Ok-clause-ok
returns-in-Ok-clause-ok g c =
    let none = rw (← c.self.view_is) at c.in_default.ensures.none in
    rw (← c.self.view_is) (
    let own = c.self.inside in
    let done = c.in-Ok.ensures.ok in
    let noted = done.3 tt in
    let parts = c.parts_of-fate.ensures in
    let gives = rw (parts.whole, parts.packet) at c.give-taken.ensures.gives in
    let answer = rw (parts.whole, parts.packet) at c.give-taken.ensures.answer in
    let beside = c.step_noted.ensures.beside in
    takes_step _ _ c.args.event done.0 noted.0 c.in-Ok.answer c.give-taken.result _ own.pending c.step_noted.new.notes c.give-taken.new.pending c.facts.ensures.config
    c.facts.ensures.sound done.1 done.2 noted.1 noted.2 (ap (λ (b : Besides). b.place) beside) (ap (λ (b : Besides). b.held) beside) gives answer c.self.invariant.1
    (λ other is. c.events_are_judged_once.ensures own.core.config c.args.event done.0 other done.1 is) refl refl refl refl c.step_noted.ensures.config refl
    none.0 none.1 none.2)

pub returns-in-Err-clause-why : goal.returns-in-Err-clause-why
returns-in-Err-clause-why g c =
    let none = rw (← c.self.view_is) at c.in_default.ensures.none in
    rw (← c.self.view_is) (
    let e = c.in-Err.ensures in
    let why = c.why_refused.ensures in
    refuses_step _ _ c.why_refused.result none.0 none.1 none.2 c.facts.ensures.config c.facts.ensures.sound why.either
    (λ is. let full = e.full (why.full.0 is) in record { judged = full.0; is_judged = full.1; gone = full.2; are_over = full.3; over = full.4 })
    (λ no_load judged is_judged ends keeps is. e.no_memory no_load judged is_judged ends keeps (why.no_memory.0 is))
    (λ no_load judged is_judged of. false≢true (e.quiet no_load judged is_judged of)))
