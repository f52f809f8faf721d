-- Values without where their texts lie in memory.
use Rattle.packet.specs.Config.{Config}
use Rattle.durable.specs.declared.entry.Entry as declared
use Rattle.durable.specs.declared.entry.Entry.TheVariants as entry
use Rattle.durable.specs.declared.heading.StoredConfig as stored_config
use Rattle.durable.specs.declared.heading.StoredSnapshot as stored_snapshot
use Rattle.durable.specs.declared.heading.StoredHeading as stored
use Rattle.durable.specs.declared.recovery.Headed as headed
use Rattle.durable.specs.Coding.{Entry, Load, Begin, Seen, Restart, End, Snapshot, Heading}

abbrev pub view : declared.Entry → Entry
view (entry.Load text) = Load text.now
view (entry.Begin s) = Begin s
view (entry.Seen f seen) = Seen f seen
view (entry.Restart f opener seen) = Restart f opener seen
view (entry.End f) = End f

abbrev pub config_view : stored_config.StoredConfig → Config
config_view c =
    record {
      lan = c.lan.now;
      wan = c.wan.now;
      inside = c.inside.items;
      external = c.external.items;
      filtering = c.filtering;
    }

abbrev pub snapshot_view : stored_snapshot.StoredSnapshot → Snapshot
snapshot_view k = record { text = k.text.now; sessions = k.sessions.items }

abbrev pub heading_view : stored.StoredHeading → Heading
heading_view h =
    record {
      version = h.version;
      generation = h.generation;
      config = config_view h.config;
      snapshot = snapshot_view h.snapshot;
    }

abbrev pub headed_view : headed.Headed → Heading
headed_view h = record {
  version = h.version;
  generation = h.generation;
  config = h.bounds;
  snapshot = record { text = h.text.now; sessions = h.sessions.items };
}
