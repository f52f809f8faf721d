use Rattle.std.proofs.Common.{◌++◌, List, ℕ, ap, refl, sym, ◌∙◌, subst}
use Rattle.std.proofs.lemmas.List.{append-nil}
use Rattle.machine.specs.declared.event.Answer.{Answer}
use Rattle.gateway.specs.Running.{BreaksOff}
use Rattle.gateway.specs.declared.fault.GatewayFault.TheVariants as fault
use Rattle.gateway.proofs.Runs.{begun, breaks-same, memory-why, refused, still, true-false, within-took, within-any_moment, within-at_exit, within-through}
use Rattle.gateway.proofs.calls.Gateway.run.Goals as goal

pub take_all-requires-clause-begun : goal.take_all-requires-clause-begun
take_all-requires-clause-begun g c =
    let f = c.has_fallen.ensures in
    let up = c.if-has_fallen.false in
    begun g.D.Disk.honest g.D.Disk.moment g.D.Disk.left g.D.Disk.seen g.D.Disk.failed g.met.D.Disk.reads g.met.D.Disk.earlier c.args.self.now (sym f.value ∙ up) (f.stands up) (f.present up) (f.configured up)

pub returns-in_default-clause-within : goal.returns-in_default-clause-within
returns-in_default-clause-within g c = λ stood.
    let f = c.has_fallen.ensures in
    let up = c.if-has_fallen.false in
    refused c.args.events.items c.new-in_default.result.items (begun g.D.Disk.honest g.D.Disk.moment g.D.Disk.left g.D.Disk.seen g.D.Disk.failed g.met.D.Disk.reads g.met.D.Disk.earlier c.args.self.now stood (f.stands up) (f.present up) (f.configured up)) c.new-in_default.ensures.items

pub returns-in_default-clause-any_moment : goal.returns-in_default-clause-any_moment
returns-in_default-clause-any_moment g c = λ ready. within-any_moment (returns-in_default-clause-within g c ready.stands) ready

pub returns-in_default-clause-at_exit : goal.returns-in_default-clause-at_exit
returns-in_default-clause-at_exit g c = λ ready. within-at_exit (returns-in_default-clause-within g c ready.stands) ready

pub returns-in_default-clause-configured : goal.returns-in_default-clause-configured
returns-in_default-clause-configured g c = λ stood. (returns-in_default-clause-within g c stood).stops.ends.ran.configured

pub returns-in-Ok-take_all-clause-honest : goal.returns-in-Ok-take_all-clause-honest
returns-in-Ok-take_all-clause-honest g c = c.in-Ok-take_all.ensures.ok.ran.was_honest

pub returns-in-Ok-take_all-clause-stays_honest : goal.returns-in-Ok-take_all-clause-stays_honest
returns-in-Ok-take_all-clause-stays_honest g c = c.in-Ok-take_all.ensures.ok.ran.stays_honest

pub returns-in-Ok-take_all-clause-ok : goal.returns-in-Ok-take_all-clause-ok
returns-in-Ok-take_all-clause-ok g c = c.in-Ok-take_all.ensures.ok.ran.took

pub returns-in-Ok-take_all-clause-any_moment : goal.returns-in-Ok-take_all-clause-any_moment
returns-in-Ok-take_all-clause-any_moment g c = c.in-Ok-take_all.ensures.ok.ran.any_moment

pub returns-in-Ok-take_all-clause-at_exit : goal.returns-in-Ok-take_all-clause-at_exit
returns-in-Ok-take_all-clause-at_exit g c = c.in-Ok-take_all.ensures.ok.at_exit

pub returns-in-Ok-take_all-clause-configured : goal.returns-in-Ok-take_all-clause-configured
returns-in-Ok-take_all-clause-configured g c = λ stood. c.in-Ok-take_all.ensures.ok.ran.configured

pub returns-in-Err : goal.returns-in-Err
returns-in-Err g c =
    let up = sym c.has_fallen.ensures.value ∙ c.if-has_fallen.false in
    let err = c.in-Err.ensures.err in
    let why = err.stops.is_why in
    record {
      honest = err.stops.ends.ran.was_honest;
      stays_honest = err.stops.ends.ran.stays_honest;
      ok = tt;
      none = tt;
      err = within-took err;
      any_moment = within-any_moment err;
      at_exit = within-at_exit err;
      within = λ stood. err;
      carries = tt;
      breaks = λ stood. c.in-Err.ensures.breaks;
      through = c.take_all.ensures.through;
      through_front = λ stood. c.in-Err.ensures.through_front;
      configured = λ stood. err.stops.ends.ran.configured;
      reopen = (λ is. absurd (why.stood is), λ fallen. absurd (true-false c.args.self.now.fallen fallen up));
      reopen_stays = λ fallen. absurd (true-false c.args.self.now.fallen fallen up);
      stood = tt;
      stands = tt;
      no_failure = tt;
      causes = why.made_room;
      numbers_out = why.numbers_out;
      fell = (λ is. (up, why.fell.0 is), λ both. why.fell.1 both.1);
      device = why.device;
      by_one = why.by_one;
    }

-- whatever is held

pub returns-in_default-clause-through_front : goal.returns-in_default-clause-through_front
returns-in_default-clause-through_front g c = λ stood.
    let self = c.args.self.now in
    let stops = returns-in_default-clause-within g c stood in
    (stops, λ before. within-through g.D.Disk.honest g.D.Disk.moment g.D.Disk.left g.D.Disk.failed self self stops.front before (still g.D.Disk.honest g.D.Disk.moment g.D.Disk.left g.D.Disk.failed g.met.D.Disk.earlier self self refl before))

pub returns-then-has_fallen-clause-through : goal.returns-then-has_fallen-clause-through
returns-then-has_fallen-clause-through g c = λ before.
    within-through g.D.Disk.honest g.D.Disk.moment g.D.Disk.left g.D.Disk.failed c.args.self.now c.args.self.now c.args.events.items before (still g.D.Disk.honest g.D.Disk.moment g.D.Disk.left g.D.Disk.failed g.met.D.Disk.earlier c.args.self.now c.args.self.now refl before)

pub returns-in_default-clause-through : goal.returns-in_default-clause-through
returns-in_default-clause-through g c = λ before.
    within-through g.D.Disk.honest g.D.Disk.moment g.D.Disk.left g.D.Disk.failed c.args.self.now c.args.self.now c.args.events.items before (still g.D.Disk.honest g.D.Disk.moment g.D.Disk.left g.D.Disk.failed g.met.D.Disk.earlier c.args.self.now c.args.self.now refl before)

pub returns-in_default-clause-breaks : goal.returns-in_default-clause-breaks
returns-in_default-clause-breaks g c = λ stood before.
    let self = c.args.self.now in
    let none = ap (λ (l : List (ℕ × Answer)). before ++ l) c.new-in_default.ensures.items ∙ append-nil before in
    subst (λ (l : List (ℕ × Answer)). BreaksOff g.D.Disk.honest g.D.Disk.moment g.D.Disk.left g.D.Disk.failed self self c.args.events.items before l fault.NoMemory) (sym none)
    (breaks-same g.D.Disk.honest g.D.Disk.moment g.D.Disk.left g.D.Disk.failed self self c.args.events.items fault.NoMemory refl (λ start events out s. memory-why g.D.Disk.honest g.D.Disk.moment g.D.Disk.left g.D.Disk.failed start self s.stands s.no_failure) before)
