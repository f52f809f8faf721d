use Rattle.std.proofs.Common.{◌≡◌, ◌⊎◌, false, inl, inr}
use Rattle.std.proofs.lemmas.Result.{IfErr-weaker}
use Rattle.refusals.specs.declared.stop.Stop.{Stop}
use Rattle.commands.specs.Faults.{IsOfLooping, IsOfServing}
use Rattle.commands.specs.Visits.{SomeUnseenVisits, UnseenVisits}
use Rattle.commands.proofs.Joined.{error_of_both, error_of_one, first_is_well}
use Rattle.commands.proofs.sockets.loop_back.Goals as goal

pub returns-clause-stands : goal.returns-clause-stands
returns-clause-stands g c =
    let stands = c.args.gateway.now.fallen ≡ false → c.serve_clients-served.new.gateway.fallen ≡ false in
    first_is_well c.serve_clients-served.result c.print_answers-printed.result c.and.result c.and.ensures stands c.serve_clients-served.ensures.stands

pub returns-clause-causes : goal.returns-clause-causes
returns-clause-causes g c =
    let causes = IfErr-weaker c.serve_clients-served.result (λ (stop : Stop). IsOfServing stop.refusal) (λ (stop : Stop). IsOfLooping stop.refusal) (λ stop is. inl is) c.serve_clients-served.ensures.causes in
    error_of_both c.serve_clients-served.result c.print_answers-printed.result c.and.result c.and.ensures (λ (stop : Stop). IsOfLooping stop.refusal) causes c.print_answers-printed.ensures

pub returns-clause-ended : goal.returns-clause-ended
returns-clause-ended g c =
    let served = UnseenVisits g.D.Disk.honest g.D.Disk.moment g.D.Disk.left g.D.Disk.failed 1 c.args.gateway.now c.serve_clients-served.new.gateway in
    let unserved = λ (stop : Stop). SomeUnseenVisits g.D.Disk.honest g.D.Disk.moment g.D.Disk.left g.D.Disk.failed 1 stop.refusal c.args.gateway.now c.serve_clients-served.new.gateway in
    let either = error_of_one c.serve_clients-served.result c.print_answers-printed.result c.and.result c.and.ensures unserved served c.serve_clients-served.ensures.err c.serve_clients-served.ensures.ok in
    IfErr-weaker c.and.result (λ (stop : Stop). served ⊎ unserved stop) (λ (stop : Stop). (c.serve_clients-served.new.gateway ≡ c.args.gateway.now) ⊎ served ⊎ unserved stop) (λ stop is. inr is) either
