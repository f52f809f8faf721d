use Rattle.disk_model.specs.Disk.{pair}
use Rattle.diagnosis.proofs.Whys.{why}
use Rattle.diagnosis.proofs.finding.damage_of.Goals as goal

pub returns : goal.returns
returns c = record {
  nothing = c.requires;
  a = c.in_ok-a.ensures;
  b = c.in_ok-b.ensures;
  why = why c.args.bounds.now (pair c.args.a.now c.args.b.now) c.in_ok-a.a c.in_ok-b.b c.in_ok-a.ensures c.in_ok-b.ensures c.requires;
}
