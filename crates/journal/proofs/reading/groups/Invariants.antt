use Rattle.std.proofs.Common.{◌≡◌, ◌-◌, ◌↔◌, length}
use Rattle.disk_model.specs.Disk.{Looks}
use Rattle.journal.specs.Groups.{bodies_of}
use Rattle.journal.proofs.Leading.{Read}
use Rattle.journal.proofs.reading.groups.Given as goal

abbrev pub invariant-loop-bodies : goal.invariant-loop-bodies
invariant-loop-bodies g l = record {
  honest : g.D.Disk.honest l.fn.disk ↔ g.D.Disk.honest l.disk;
  looks : g.D.Disk.honest l.fn.disk → Looks g.D.Disk.moment g.D.Disk.left g.D.Disk.seen l.fn.disk l.disk;
  read : g.D.Disk.honest l.fn.disk → Read (g.D.Disk.seen l.fn.disk l.file) l.at (bodies_of l.bodies.items) l.place;
  size : g.D.Disk.honest l.fn.disk → l.end ≡ length (g.D.Disk.seen l.fn.disk l.file);
  failures : g.D.Disk.failed l.disk ≡ g.D.Disk.failed l.fn.disk;
}

abbrev pub decreases-loop-bodies : goal.decreases-loop-bodies
decreases-loop-bodies g l = l.end - l.place
