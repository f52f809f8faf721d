use Rattle.std.proofs.Common.{refl, arith}
use Rattle.std.proofs.lemmas.Result.{err_from_is_err_and}
use Rattle.commands.proofs.Visited.{visits-next}
use Rattle.commands.proofs.clients.serve_each.Goals as goal

pub loop-init : goal.loop-init
loop-init g c = ((λ none. (refl, refl)), (λ stands. stands), (refl, refl))

pub returns-in_err-serve_next-clause-err : goal.returns-in_err-serve_next-clause-err
returns-in_err-serve_next-clause-err g c =
    let p = err_from_is_err_and c.from_residual.result c.from_residual.ensures.1 in
    rw (p.1, p.2) (record {
      count = c.loop.counter;
      few = c.loop-test.true;
      last = c.loop.clients;
      now = c.loop.gateway;
      visits = c.loop.invariant.2;
      ends = c.in_err-serve_next.ensures.err;
    })

pub loop-preserved : goal.loop-preserved
loop-preserved g c = (
  (λ none. absurd (omega (arith, none, c.loop-test.true))),
  (λ stands. c.in_ok-serve_next.ensures.ok.2.1),
  visits-next g.D.Disk.honest g.D.Disk.moment g.D.Disk.left g.D.Disk.failed g.C.Clients.came g.C.Peer.went g.C.Peer.ended g.C.Clients.left c.loop.counter c.args.clients.now c.loop.clients c.serve_next.new.clients c.args.gateway.now c.loop.gateway c.serve_next.new.gateway c.loop.invariant.2 c.in_ok-serve_next.ensures.ok,
)
