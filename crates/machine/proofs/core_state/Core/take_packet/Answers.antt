use Rattle.std.proofs.Common.{◌≡◌, [], Err, refl, sym, ap, subst, ◌∙◌}
use Rattle.std.proofs.lemmas.Bool.{false_from_ne_true, false≢true}
use Rattle.machine.specs.Core.{state_in}
use Rattle.machine.specs.Judged.{Judged}
use Rattle.machine.specs.Machine.{later}
use Rattle.machine.specs.Sizes.{most_bytes}
use Rattle.machine.specs.declared.deed.Deed.TheVariants as deed
use Rattle.machine.specs.declared.event.Event.{Event}
use Rattle.machine.specs.declared.event.What.TheVariants.{Packet}
use Rattle.machine.specs.declared.fault.StepFault.TheVariants.{NoMemory}
use Rattle.machine.proofs.Refused.{core-before, few-risen, live-before, none-over, quiet-risen, same-deed, sound-before}
use Rattle.machine.proofs.Rising.{noted-from, step-from}
use Rattle.machine.proofs.Stepping.{quiet-ends}
use Rattle.machine.proofs.core_state.Core.take_packet.Goals as goal

pub put_back-requires : goal.put_back-requires
put_back-requires g c =
    let own = c.self.inside.state in
    let clock = c.clock-clock in
    let none = c.in-Ok.ensures.none (false_from_ne_true _ (λ is. false≢true (c.in-Err-answer_packet.ensures.ready is))) in
    let left = c.answer_packet.new.self in
    record {
      sound = sound-before own c.age.new.self c.args.moment c.age.ensures.config c.in-Ok.ensures.ok none.0 left clock.result clock.ensures.value c.answer_packet.ensures.config c.in-Err-answer_packet.ensures.err.1 clock.ensures.sound;
      live = live-before own c.age.new.self c.args.moment c.age.ensures.config c.in-Ok.ensures.ok none.0 left clock.result clock.ensures.value c.answer_packet.ensures.config c.in-Err-answer_packet.ensures.err.1 clock.ensures.live;
    }

pub returns-in-Ok-answer_packet-clause-ok : goal.returns-in-Ok-answer_packet-clause-ok
returns-in-Ok-answer_packet-clause-ok g c = rw (← c.self.view_is) (
    let own = c.self.inside.state in
    let mid = state_in c.age.new.self in
    let judged : Judged = record { moment = c.args.moment; deed = deed.Packet c.args.iface c.args.packet.now } in
    let told = c.in-Ok.ensures.noted in (
      judged,
      record { at = refl; what = refl; right = tt },
      step-from own.config (state_in own) mid judged c.in-Ok.ensures.ok _ (rw c.age.ensures.config at c.in-Ok-answer_packet.ensures.ok),
      noted-from own.config (state_in own) mid judged c.in-Ok.ensures.ok g.N.Notes.keeps g.N.Notes.beside g.N.Notes.noted c.args.notes.now c.age.new.notes c.answer_packet.new.notes told.0 told.1 told.2
          (rw c.age.ensures.config at c.in-Ok-answer_packet.ensures.noted),
    ))

pub returns-in-Err-answer_packet-clause-err : goal.returns-in-Err-answer_packet-clause-err
returns-in-Err-answer_packet-clause-err g c = rw (← c.self.view_is) (
    let own = c.self.inside.state in
    let clock = c.clock-clock in
    let none = c.in-Ok.ensures.none (false_from_ne_true _ (λ is. false≢true (c.in-Err-answer_packet.ensures.ready is))) in (
      core-before own c.age.new.self c.args.moment c.age.ensures.config c.in-Ok.ensures.ok none.0 c.answer_packet.new.self clock.result clock.ensures.value c.answer_packet.ensures.config c.in-Err-answer_packet.ensures.err.1 c.put_back.new.self c.put_back.ensures,
      c.in-Err-answer_packet.ensures.err.0,
      c.in-Err-answer_packet.ensures.noted.same ∙ ap g.N.Notes.noted none.1,
    ))

pub returns-in-Err-answer_packet-clause-full : goal.returns-in-Err-answer_packet-clause-full
returns-in-Err-answer_packet-clause-full g c = rw (← c.self.view_is) (λ full.
    let own = c.self.inside.state in
    let none = c.in-Ok.ensures.none (false_from_ne_true _ (λ is. false≢true (c.in-Err-answer_packet.ensures.ready is))) in (
      record { moment = c.args.moment; deed = deed.Packet c.args.iface c.args.packet.now },
      record { at = refl; what = refl; right = tt },
      [],
      none-over own c.age.new.self c.args.moment c.age.ensures.config c.in-Ok.ensures.ok none.0,
      rw none.1 at (c.in-Err-answer_packet.ensures.full full),
    ))

pub returns-in-Err-clause-full : goal.returns-in-Err-clause-full
returns-in-Err-clause-full g c = rw (← c.self.view_is) (λ full.
    let told = c.in-Err.ensures.full (ap Err full) in (
      record { moment = c.args.moment; deed = deed.Packet c.args.iface c.args.packet.now },
      record { at = refl; what = refl; right = tt },
      told.0,
      told.1,
      told.2,
    ))

pub returns-in-Err-clause-no_memory : goal.returns-in-Err-clause-no_memory
returns-in-Err-clause-no_memory g c = rw (← c.self.view_is) (λ judged is ends few. absurd (false≢true (c.in-Err.ensures.succeeds ends)))

pub returns-in-Err-clause-succeeds : goal.returns-in-Err-clause-succeeds
returns-in-Err-clause-succeeds g c = rw (← c.self.view_is) (λ judged is ends few granted. c.in-Err.ensures.succeeds ends)

pub returns-in-Err-clause-quiet : goal.returns-in-Err-clause-quiet
returns-in-Err-clause-quiet g c = rw (← c.self.view_is) (λ judged is entries.
    let own = c.self.inside.state in
    c.in-Err.ensures.succeeds (quiet-ends own.config (state_in own) judged (later own.clock c.args.moment) (ap (later own.clock) is.at) entries))

pub returns-in-Err-answer_packet-clause-succeeds : goal.returns-in-Err-answer_packet-clause-succeeds
returns-in-Err-answer_packet-clause-succeeds g c = rw (← c.self.view_is) (λ judged is ends few granted.
    let event : Event = record { moment = c.args.moment; what = Packet c.args.iface c.args.packet.now } in
    let none = c.in-Ok.ensures.none (false_from_ne_true _ (λ is. false≢true (c.in-Err-answer_packet.ensures.ready is))) in
    c.in-Err-answer_packet.ensures.adds_none
    (few-risen c.self.inside.state c.age.new.self c.args.moment c.age.ensures.config c.in-Ok.ensures.ok ends event refl (deed.Packet c.args.iface c.args.packet.now) refl (λ text no. absurd cc) judged is few)
    (subst g.N.Notes.grants (sym none.1) granted))

pub returns-in-Err-answer_packet-clause-no_memory : goal.returns-in-Err-answer_packet-clause-no_memory
returns-in-Err-answer_packet-clause-no_memory g c = rw (← c.self.view_is) (λ judged is ends few.
    let own = c.self.inside.state in
    let event : Event = record { moment = c.args.moment; what = Packet c.args.iface c.args.packet.now } in
    let d = deed.Packet c.args.iface c.args.packet.now in
    let none = c.in-Ok.ensures.none (false_from_ne_true _ (λ is. false≢true (c.in-Err-answer_packet.ensures.ready is))) in
    let same = same-deed own c.age.new.self c.args.moment c.age.ensures.config c.in-Ok.ensures.ok ends event refl d refl (λ text no. absurd cc) judged is in
    subst (λ x. c.in-Err-answer_packet.fault ≡ NoMemory → ¬ g.N.Notes.too_many c.args.notes.now (most_bytes x)) (sym same)
    (subst (λ n. c.in-Err-answer_packet.fault ≡ NoMemory → ¬ g.N.Notes.too_many n 44) none.1
    (c.in-Err-answer_packet.ensures.no_memory
    (few-risen own c.age.new.self c.args.moment c.age.ensures.config c.in-Ok.ensures.ok ends event refl d refl (λ text no. absurd cc) judged is few))))

pub returns-in-Err-answer_packet-clause-quiet : goal.returns-in-Err-answer_packet-clause-quiet
returns-in-Err-answer_packet-clause-quiet g c = rw (← c.self.view_is) (λ judged is entries.
    let own = c.self.inside.state in
    let event : Event = record { moment = c.args.moment; what = Packet c.args.iface c.args.packet.now } in
    let none = c.in-Ok.ensures.none (false_from_ne_true _ (λ is. false≢true (c.in-Err-answer_packet.ensures.ready is))) in
    c.in-Err-answer_packet.ensures.quiet
    (quiet-risen own c.age.new.self c.args.moment c.age.ensures.config c.in-Ok.ensures.ok none.0 event refl (deed.Packet c.args.iface c.args.packet.now) refl (λ text no. absurd cc) judged is entries))
