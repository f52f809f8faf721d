use Rattle.entries.proofs.Needed.{one-none}
use Rattle.entries.proofs.laws.entries_agree_on_none.Goals as goal

pub returns : goal.returns
returns c = λ config s judged entries others are same. (one-none config s judged entries others are same, one-none config s judged others entries same are)
