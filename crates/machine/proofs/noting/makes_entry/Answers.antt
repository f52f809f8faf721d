use Rattle.std.proofs.Common.{[], refl, sym, ◌∙◌}
use Rattle.durable.specs.Coding.{Begin}
use Rattle.sessions.specs.Stilled.{stilled}
use Rattle.sessions.specs.Table.{restarted, seen}
use Rattle.sessions.proofs.Sets.{Apart-sound}
use Rattle.machine.proofs.Telling.{begin-told, cons≢nil, made-told}
use Rattle.machine.proofs.noting.makes_entry.Goals as goal

pub returns-in-Begin : goal.returns-in-Begin
returns-in-Begin c = λ external now t gives.
    let held = c.args.table.now.held in
    let told = begin-told held (Apart-sound held c.facts.ensures) external now c.in-Begin.field-0 t (rw c.in-Begin.is at gives) in
    ((λ _ none. cons≢nil (Begin (stilled c.in-Begin.field-0)) [] (told ∙ none)), (λ _. refl))

pub returns-in-Some : goal.returns-in-Some
returns-in-Some c = λ external now t gives.
    let held = c.args.table.now.held in
    let g = rw c.in-Seen.is at gives in
    let told = made-told held (Apart-sound held c.facts.ensures) (λ s. seen s c.in-Seen.bits now) (λ s. refl) c.in-Seen.slot c.in-Some.session t (sym c.get.ensures.value ∙ c.in-Some.is) g.0 g.1 g.3 in
    let tells = c.shows_more.ensures now in rw told at tells

pub returns-in-Some-get : goal.returns-in-Some-get
returns-in-Some-get c = λ external now t gives.
    let held = c.args.table.now.held in
    let g = rw c.in-Restart.is at gives in
    let told = made-told held (Apart-sound held c.facts.ensures) (λ s. restarted s c.in-Restart.opener now) (λ s. refl) c.in-Restart.slot c.in-Some-get.session t (sym c.get-in-Restart.ensures.value ∙ c.in-Some-get.is) g.0 g.1 g.2 in
    let tells = c.restart_changes.ensures now in rw told at tells
