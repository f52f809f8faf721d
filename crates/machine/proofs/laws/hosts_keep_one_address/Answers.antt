use Rattle.machine.proofs.Staying.{resumed-one, run-one}
use Rattle.machine.proofs.laws.hosts_keep_one_address.Goals as goal

pub returns : goal.returns
returns c = record {
  start = λ moment host addr other at at_other. absurd at.1;
  runs = λ config s events judged host is_one are sound free one. run-one config is_one host s events judged are sound free one;
  resumed = resumed-one;
}
