use Rattle.durable.specs.Coding.{IsHeading, heading_bytes, config_bytes, IsSnapshot, snapshot_bytes}
use Rattle.durable.specs.Reading.{heading_at, config_at, snapshot_at}
use Rattle.durable.proofs.Coded.{once}
use Rattle.durable.proofs.Versioned.{IsStored}
use Rattle.durable.proofs.StoredValues.{coded-heading, coded-config, coded-snapshot}
use Rattle.durable.proofs.laws.heading_once.Goals as goal

pub returns-clause-headings : goal.returns-clause-headings
returns-clause-headings c = once IsHeading heading_bytes heading_at coded-heading

pub returns-clause-configs : goal.returns-clause-configs
returns-clause-configs c = λ version. once (IsStored version) (config_bytes version) (config_at version) (coded-config version)

pub returns-clause-snapshots : goal.returns-clause-snapshots
returns-clause-snapshots c = once IsSnapshot snapshot_bytes snapshot_at coded-snapshot
