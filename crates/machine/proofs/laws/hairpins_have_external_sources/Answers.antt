use Rattle.machine.proofs.Sources.{external-sources}
use Rattle.machine.proofs.laws.hairpins_have_external_sources.Goals as goal

pub returns : goal.returns
returns c = external-sources
