use Rattle.machine.proofs.Before.{answers-same, leg-same, only-external}
use Rattle.machine.proofs.laws.one_address_is_as_before.Goals as goal

pub returns : goal.returns
returns c = record {
  external = λ config only addr one. only-external config only one addr;
  legs = λ config only s view r one by at. leg-same config only one by s view r at;
  answers = λ config only s judged one by. answers-same config only one by s judged;
}
