use Rattle.gateway.proofs.Restarting.{kept}
use Rattle.gateway.proofs.laws.restarts_keep_the_state.Goals as goal

pub returns : goal.returns
returns c = kept c.one_ruleset.ensures.text c.runs_keep_sound.ensures
