use Rattle.std.proofs.Common.{[], sym, ◌∙◌}
use Rattle.std.proofs.lemmas.List.{append-nil}
use Rattle.gateway.proofs.Runs.{begun}
use Rattle.gateway.proofs.laws.rests_in_lives.Goals as goal

pub returns : goal.returns
returns g c = λ config entry at opened events given rests.
    let f = c.has_fallen.ensures in
    let now = c.args.gateway.now in
    let up = f.value ∙ rests.rests.stands in
    let stands = begun g.D.Disk.honest g.D.Disk.moment g.D.Disk.left g.D.Disk.seen g.D.Disk.failed g.met.D.Disk.reads g.met.D.Disk.earlier now rests.rests.stands (f.stands up) (f.present up) (f.configured up) in
    record { earlier = events; answered = given; rested = now; rests = rests; more = []; out = []; stands = stands; events_are = sym (append-nil events); given_are = sym (append-nil given) }
