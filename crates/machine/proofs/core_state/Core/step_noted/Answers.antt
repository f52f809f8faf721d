use Rattle.std.proofs.Common.{◌≡◌, ◌+◌, ◌*◌, [], Err, length, refl, sym, ap, subst, ◌∙◌, arith}
use Rattle.std.proofs.lemmas.Bool.{false_from_ne_true, false≢true}
use Rattle.packet.specs.Config.{Config}
use Rattle.machine.specs.Core.{state_in}
use Rattle.machine.specs.Judged.{Judged, IsRight}
use Rattle.machine.specs.Machine.{later}
use Rattle.machine.specs.Sizes.{most_bytes}
use Rattle.machine.specs.declared.event.Event.{Event}
use Rattle.machine.specs.declared.event.What.{What}
use Rattle.machine.specs.declared.fault.StepFault.TheVariants.{NoMemory}
use Rattle.machine.proofs.Refused.{core-before, few-risen, live-before, none-over, quiet-risen, same-deed, sound-before}
use Rattle.machine.proofs.Rising.{noted-from, step-from}
use Rattle.machine.proofs.Stepping.{quiet-ends}
use Rattle.machine.proofs.core_state.Core.step_noted.Goals as goal

pub answer_deed-requires-clause-right : goal.answer_deed-requires-clause-right
answer_deed-requires-clause-right g c = subst (λ (config : Config). IsRight config c.in-Ok.deed) (c.bounds.ensures ∙ sym c.age.ensures.config) c.in-Ok.ensures.right

pub put_back-requires : goal.put_back-requires
put_back-requires g c =
    let own = c.self.inside.state in
    let clock = c.clock-clock in
    let none = c.in-Ok-age.ensures.none (false_from_ne_true _ (λ is. false≢true (c.in-Err-answer_deed.ensures.ready is))) in
    let left = c.answer_deed.new.self in
    record {
      sound = sound-before own c.age.new.self c.args.event.moment c.age.ensures.config c.in-Ok-age.ensures.ok none.0 left clock.result clock.ensures.value c.answer_deed.ensures.config c.in-Err-answer_deed.ensures.err.1 clock.ensures.sound;
      live = live-before own c.age.new.self c.args.event.moment c.age.ensures.config c.in-Ok-age.ensures.ok none.0 left clock.result clock.ensures.value c.answer_deed.ensures.config c.in-Err-answer_deed.ensures.err.1 clock.ensures.live;
    }

pub returns-in-Ok-answer_deed-clause-ok : goal.returns-in-Ok-answer_deed-clause-ok
returns-in-Ok-answer_deed-clause-ok g c = rw (← c.self.view_is) (
    let own = c.self.inside.state in
    let mid = state_in c.age.new.self in
    let judged : Judged = record { moment = c.args.event.moment; deed = c.in-Ok.deed } in
    let told = c.in-Ok-age.ensures.noted in (
      judged,
      record { at = refl; what = c.in-Ok.ensures.brings; right = rw c.bounds.ensures at c.in-Ok.ensures.right },
      step-from own.config (state_in own) mid judged c.in-Ok-age.ensures.ok _ (rw c.age.ensures.config at c.in-Ok-answer_deed.ensures.ok),
      noted-from own.config (state_in own) mid judged c.in-Ok-age.ensures.ok g.N.Notes.keeps g.N.Notes.beside g.N.Notes.noted c.args.notes.now c.age.new.notes c.answer_deed.new.notes told.0 told.1 told.2
          (rw c.age.ensures.config at c.in-Ok-answer_deed.ensures.noted),
    ))

pub returns-in-Err-answer_deed-clause-err : goal.returns-in-Err-answer_deed-clause-err
returns-in-Err-answer_deed-clause-err g c = rw (← c.self.view_is) (
    let own = c.self.inside.state in
    let clock = c.clock-clock in
    let none = c.in-Ok-age.ensures.none (false_from_ne_true _ (λ is. false≢true (c.in-Err-answer_deed.ensures.ready is))) in
    let event : What → Event = λ what. record { moment = c.args.event.moment; what = what } in (
      ap event (c.in-Err-answer_deed.ensures.err.0 ∙ sym c.in-Ok.ensures.brings),
      core-before own c.age.new.self c.args.event.moment c.age.ensures.config c.in-Ok-age.ensures.ok none.0 c.answer_deed.new.self clock.result clock.ensures.value c.answer_deed.ensures.config c.in-Err-answer_deed.ensures.err.1 c.put_back.new.self c.put_back.ensures,
    ))

pub returns-in-Err-answer_deed-clause-err_noted : goal.returns-in-Err-answer_deed-clause-err_noted
returns-in-Err-answer_deed-clause-err_noted g c =
    let none = c.in-Ok-age.ensures.none (false_from_ne_true _ (λ is. false≢true (c.in-Err-answer_deed.ensures.ready is))) in
    c.in-Err-answer_deed.ensures.noted.same ∙ ap g.N.Notes.noted none.1

pub returns-in-Err-answer_deed-clause-full : goal.returns-in-Err-answer_deed-clause-full
returns-in-Err-answer_deed-clause-full g c = rw (← c.self.view_is) (λ full.
    let own = c.self.inside.state in
    let none = c.in-Ok-age.ensures.none (false_from_ne_true _ (λ is. false≢true (c.in-Err-answer_deed.ensures.ready is))) in
    let most = most_bytes c.in-Ok.deed in
    let many : most ≡ 14 * 0 + most = omega arith in (
      record { moment = c.args.event.moment; deed = c.in-Ok.deed },
      record { at = refl; what = c.in-Ok.ensures.brings; right = rw c.bounds.ensures at c.in-Ok.ensures.right },
      [],
      none-over own c.age.new.self c.args.event.moment c.age.ensures.config c.in-Ok-age.ensures.ok none.0,
      subst (g.N.Notes.too_many c.args.notes.now) many (rw none.1 at (c.in-Err-answer_deed.ensures.full full)),
    ))

pub returns-in-Err-age-clause-full : goal.returns-in-Err-age-clause-full
returns-in-Err-age-clause-full g c = rw (← c.self.view_is) (λ full.
    let told = c.in-Err-age.ensures.full (ap Err full) in (
      record { moment = c.args.event.moment; deed = c.in-Ok.deed },
      record { at = refl; what = c.in-Ok.ensures.brings; right = rw c.bounds.ensures at c.in-Ok.ensures.right },
      told.0,
      told.1,
      subst (λ n. g.N.Notes.too_many c.args.notes.now (14 * length told.0 + n)) c.most_bytes.ensures told.2,
    ))

pub returns-in-Err-age-clause-no_memory : goal.returns-in-Err-age-clause-no_memory
returns-in-Err-age-clause-no_memory g c = rw (← c.self.view_is) (λ none judged is ends few. absurd (false≢true (c.in-Err-age.ensures.succeeds ends)))

pub returns-in-Err-age-clause-succeeds : goal.returns-in-Err-age-clause-succeeds
returns-in-Err-age-clause-succeeds g c = rw (← c.self.view_is) (λ none judged is ends few granted. c.in-Err-age.ensures.succeeds ends)

pub returns-in-Err-age-clause-quiet : goal.returns-in-Err-age-clause-quiet
returns-in-Err-age-clause-quiet g c = rw (← c.self.view_is) (λ none judged is entries.
    let own = c.self.inside.state in
    c.in-Err-age.ensures.succeeds (quiet-ends own.config (state_in own) judged (later own.clock c.args.event.moment) (ap (later own.clock) is.at) entries))

pub returns-in-Err-answer_deed-clause-succeeds : goal.returns-in-Err-answer_deed-clause-succeeds
returns-in-Err-answer_deed-clause-succeeds g c = rw (← c.self.view_is) (λ unread judged is ends few granted.
    let none = c.in-Ok-age.ensures.none (false_from_ne_true _ (λ is. false≢true (c.in-Err-answer_deed.ensures.ready is))) in
    c.in-Err-answer_deed.ensures.adds_none
    (few-risen c.self.inside.state c.age.new.self c.args.event.moment c.age.ensures.config c.in-Ok-age.ensures.ok ends c.args.event refl c.in-Ok.deed c.in-Ok.ensures.brings unread judged is few)
    (subst g.N.Notes.grants (sym none.1) granted))

pub returns-in-Err-answer_deed-clause-no_memory : goal.returns-in-Err-answer_deed-clause-no_memory
returns-in-Err-answer_deed-clause-no_memory g c = rw (← c.self.view_is) (λ unread judged is ends few.
    let own = c.self.inside.state in
    let none = c.in-Ok-age.ensures.none (false_from_ne_true _ (λ is. false≢true (c.in-Err-answer_deed.ensures.ready is))) in
    let same = same-deed own c.age.new.self c.args.event.moment c.age.ensures.config c.in-Ok-age.ensures.ok ends c.args.event refl c.in-Ok.deed c.in-Ok.ensures.brings unread judged is in
    subst (λ d. c.in-Err-answer_deed.fault ≡ NoMemory → ¬ g.N.Notes.too_many c.args.notes.now (most_bytes d)) (sym same)
    (subst (λ n. c.in-Err-answer_deed.fault ≡ NoMemory → ¬ g.N.Notes.too_many n (most_bytes c.in-Ok.deed)) none.1
    (c.in-Err-answer_deed.ensures.no_memory
    (few-risen own c.age.new.self c.args.event.moment c.age.ensures.config c.in-Ok-age.ensures.ok ends c.args.event refl c.in-Ok.deed c.in-Ok.ensures.brings unread judged is few))))

pub returns-in-Err-answer_deed-clause-quiet : goal.returns-in-Err-answer_deed-clause-quiet
returns-in-Err-answer_deed-clause-quiet g c = rw (← c.self.view_is) (λ unread judged is entries.
    let none = c.in-Ok-age.ensures.none (false_from_ne_true _ (λ is. false≢true (c.in-Err-answer_deed.ensures.ready is))) in
    c.in-Err-answer_deed.ensures.quiet
    (quiet-risen c.self.inside.state c.age.new.self c.args.event.moment c.age.ensures.config c.in-Ok-age.ensures.ok none.0 c.args.event refl c.in-Ok.deed c.in-Ok.ensures.brings unread judged is entries))
