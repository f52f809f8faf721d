use Rattle.std.proofs.Common.{[], ◌∷◌, ap, refl, sym, ◌∙◌, arith}
use Rattle.durable.specs.Coding.{Begin}
use Rattle.sessions.proofs.Sets.{Apart-sound}
use Rattle.sessions.specs.Table.{restarted, seen}
use Rattle.machine.proofs.Telling.{begin-told, made-told, seen-fits}
use Rattle.machine.proofs.noting.entry_for.Goals as goal

pub returns-in-Begin-clause-entry : goal.returns-in-Begin-clause-entry
returns-in-Begin-clause-entry c = λ external now t gives.
    ap (λ u. Begin u ∷ []) c.stilled.ensures.value
    ∙ begin-told c.args.table.now.held (Apart-sound c.args.table.now.held c.facts.ensures) external now c.in-Begin.session t (rw c.in-Begin.is at gives)

pub returns-in-Begin-clause-coded : goal.returns-in-Begin-clause-coded
returns-in-Begin-clause-coded c =
    let gives = rw c.in-Begin.is at c.requires.3 in
    (c.stilled.ensures.coded (omega (arith, gives.1.unseen)), tt)

pub between-requires : goal.between-requires
between-requires c =
    let gives = rw c.in-Seen.is at c.requires.3 in
    seen-fits c.requires.0 c.args.table.now.held c.requires.1 c.in-Seen.slot c.in-Seen.bits c.in_ok-session-in-Seen.session c.requires.2 c.facts.ensures (sym c.in_ok-session-in-Seen.ensures.value) gives

pub returns-in_ok-session-in-Seen-clause-entry : goal.returns-in_ok-session-in-Seen-clause-entry
returns-in_ok-session-in-Seen-clause-entry c = λ external now t gives.
    let g = rw c.in-Seen.is at gives in
    c.between.ensures.entry ∙ made-told c.args.table.now.held (Apart-sound c.args.table.now.held c.facts.ensures) (λ s. seen s c.in-Seen.bits now) (λ s. refl) c.in-Seen.slot c.in_ok-session-in-Seen.session t (sym c.in_ok-session-in-Seen.ensures.value) g.0 g.1 g.3

pub returns-in_ok-session-in-Restart-clause-entry : goal.returns-in_ok-session-in-Restart-clause-entry
returns-in_ok-session-in-Restart-clause-entry c = λ external now t gives.
    let g = rw c.in-Restart.is at gives in
    c.between-in-Restart.ensures.entry ∙ made-told c.args.table.now.held (Apart-sound c.args.table.now.held c.facts.ensures) (λ s. restarted s c.in-Restart.opener now) (λ s. refl) c.in-Restart.slot c.in_ok-session-in-Restart.session t (sym c.in_ok-session-in-Restart.ensures.value) g.0 g.1 g.2
