use Rattle.commands.proofs.Visited.{unseen-err, unseen-ok}
use Rattle.commands.proofs.clients.serve_clients.Goals as goal

pub returns-clause-ok : goal.returns-clause-ok
returns-clause-ok g c = unseen-ok g.D.Disk.honest g.D.Disk.moment g.D.Disk.left g.D.Disk.failed _ _ _ _ c.serve_each.result c.args.connections _ _ c.args.gateway.now c.serve_each.new.gateway c.serve_each.ensures.ok

pub returns-clause-err : goal.returns-clause-err
returns-clause-err g c = unseen-err g.D.Disk.honest g.D.Disk.moment g.D.Disk.left g.D.Disk.failed _ _ _ _ _ c.serve_each.result c.args.connections _ _ c.args.gateway.now c.serve_each.new.gateway c.serve_each.ensures.err
