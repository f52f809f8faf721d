use Rattle.std.proofs.Common.{refl}
use Rattle.gateway.proofs.Putting.{puts-none}
use Rattle.gateway.proofs.Runs.{still}
use Rattle.gateway.proofs.running.flush_held_full.Goals as goal

pub returns-then-held-lt-MOST_HELD-clause-ok : goal.returns-then-held-lt-MOST_HELD-clause-ok
returns-then-held-lt-MOST_HELD-clause-ok g c = puts-none c.args.gateway.now c.args.answers.now.items

pub returns-then-held-lt-MOST_HELD-clause-any_moment : goal.returns-then-held-lt-MOST_HELD-clause-any_moment
returns-then-held-lt-MOST_HELD-clause-any_moment g c = still _ _ _ _ g.met.D.Disk.earlier _ c.args.gateway.now refl
