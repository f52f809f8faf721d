use Rattle.std.proofs.Common.{◌≡◌, ◌≤◌, ℕ, ◌+◌, ◌++◌, List, Option, Some, None, sym, ap, subst, ◌∙◌, append-nil, arith}
use Rattle.packet.specs.Config.{Pool}
use Rattle.sessions.specs.Listing.{listing}
use Rattle.sessions.specs.declared.session.Change.{Change}
use Rattle.sessions.specs.declared.session.Session.{Session}
use Rattle.durable.specs.Coding.{Entry}
use Rattle.hairpin.specs.Plans.{Became, GiveAll, Gives}
use Rattle.machine.specs.Flows.{adds, adds_second}
use Rattle.machine.specs.Besides.{Besides}
use Rattle.machine.specs.Noted.{entries_for, entries_for_all}
use Rattle.machine.specs.Outcomes.{Noted}
use Rattle.machine.specs.Sizes.{bytes_of}
use Rattle.machine.proofs.Changed.{adds-few, ready-fewer}
use Rattle.machine.proofs.Costs.{bytes_of-one, bytes_of-two}
use Rattle.machine.proofs.Keepings.{noted-both}
use Rattle.machine.proofs.flows.Flows.apply_all.Goals as goal

module _ (external : Pool) (held : List (Option Session)) (now : ℕ) (first : Change) where
  -- the first change gives a session, for whose entry there is room
  first-gives : (second : Option Change) (ts : List Session) (room : ℕ) (Keeps : Type 0) → GiveAll external held now first second ts → (Keeps → bytes_of (entries_for_all ts (listing held)) ≤ room)
      → (t : Session) × Gives external held now first t × (Keeps → bytes_of (entries_for (listing held) t) ≤ room)
  first-gives None ts room Keeps give fits =
      (give.0, give.1, λ keeps. omega (arith, fits keeps, ap (λ us. bytes_of (entries_for_all us (listing held))) give.2, bytes_of-one give.0 (listing held)))
  first-gives (Some second) ts room Keeps give fits =
      (give.0, give.2, λ keeps. omega (arith, fits keeps, ap (λ us. bytes_of (entries_for_all us (listing held))) give.5, bytes_of-two give.0 give.1 (listing held)))

  module _ (second : Change) (later : List (Option Session)) (became : (t : Session) → Gives external held now first t → Became held first t later) where
    -- the second change then gives one, for whose entry there still is
    second-gives : (ts : List Session) (room less : ℕ) (Keeps : Type 0) → GiveAll external held now first (Some second) ts → (Keeps → bytes_of (entries_for_all ts (listing held)) ≤ room)
        → ((t : Session) → Gives external held now first t → Keeps → room ≤ less + bytes_of (entries_for (listing held) t))
        → (u : Session) × Gives external later now second u × (Keeps → bytes_of (entries_for (listing later) u) ≤ less)
    second-gives ts room less Keeps give fits left =
        let is = became give.0 give.2 in (
          give.1,
          give.4 later is,
          λ keeps. omega (
            arith,
            fits keeps,
            left give.0 give.2 keeps,
            ap (λ us. bytes_of (entries_for_all us (listing held))) give.5,
            bytes_of-two give.0 give.1 (listing held),
            ap (λ ss. bytes_of (entries_for ss give.1)) is.listing,
          ),
        )

    module _ {N : Type 0} (keeps : N → Type 0) (beside : N → Besides) (noted : N → List Entry) (old mid new : N) where
      -- both are noted
      both-noted : (ts : List Session) → GiveAll external held now first (Some second) ts
          → ((t : Session) → Gives external held now first t → Noted keeps beside noted old mid (entries_for (listing held) t))
          → ((u : Session) → Gives external later now second u → Noted keeps beside noted mid new (entries_for (listing later) u))
          → Noted keeps beside noted old new (entries_for_all ts (listing held))
      both-noted ts give one other =
          let is = became give.0 give.2 in
          let es : List Entry = entries_for (listing held) give.0 in
          subst (Noted keeps beside noted old new)
          (ap (λ ss. es ++ entries_for ss give.1) is.listing ∙ ap (λ xs. es ++ xs) (sym (append-nil (entries_for _ give.1))) ∙ ap (λ us. entries_for_all us (listing held)) (sym give.5))
          (noted-both keeps beside noted old mid new es (entries_for (listing later) give.1) (one give.0 give.2) (other give.1 (give.4 later is)))

pub apply_noted-requires-clause-gives : goal.apply_noted-requires-clause-gives
apply_noted-requires-clause-gives g c =
    let give = c.requires.give in
    first-gives c.args.self.now.translations.external c.args.self.now.table.held c.args.now c.args.plan.now.first c.args.plan.now.second give.0 _ _ give.1 give.2

pub apply_noted-requires-in-Some-clause-gives : goal.apply_noted-requires-in-Some-clause-gives
apply_noted-requires-in-Some-clause-gives g c =
    let give = c.requires.give in
    let e = c.apply_noted.ensures in
    let held = c.args.self.now.table.held in
    let give-first = subst (λ s. GiveAll c.args.self.now.translations.external held c.args.now c.args.plan.now.first s give.0) c.in-Some.is give.1 in
    let given = second-gives c.args.self.now.translations.external held c.args.now c.args.plan.now.first c.in-Some.second c.apply_noted.new.self.table.held e.became give.0 _ _ _
    give-first give.2 e.room in
    rw (e.external) (given.0, given.1, λ keeps. given.2 ((e.noted give-first.0 give-first.2).kept.1 keeps))

pub returns-in-Some-clause-noted : goal.returns-in-Some-clause-noted
returns-in-Some-clause-noted g c = λ ts give.
    let e = c.apply_noted.ensures in
    let held = c.args.self.now.table.held in
    both-noted c.args.self.now.translations.external held c.args.now c.args.plan.now.first c.in-Some.second c.apply_noted.new.self.table.held e.became
    g.N.Notes.keeps g.N.Notes.beside g.N.Notes.noted c.args.notes.now c.apply_noted.new.notes c.apply_noted-in-Some.new.notes ts
    (subst (λ s. GiveAll c.args.self.now.translations.external held c.args.now c.args.plan.now.first s ts) c.in-Some.is give)
    e.noted (λ u gives. c.apply_noted-in-Some.ensures.noted u (rw (e.external) gives))

pub apply_noted-requires-in-Some-clause-ready : goal.apply_noted-requires-in-Some-clause-ready
apply_noted-requires-in-Some-clause-ready g c = λ some.
    let second : adds_second c.args.plan.now.second ≡ adds c.in-Some.second = ap adds_second c.in-Some.is in
    let ready = c.requires.ready (omega (arith, some, second)) in
    c.apply_noted.ensures.ready 1 (ready-fewer (1 + adds c.args.plan.now.first) 2 c.args.self.now (omega (arith, adds-few c.args.plan.now.first)) ready)
