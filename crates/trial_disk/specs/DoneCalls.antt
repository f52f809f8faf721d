-- The calls of a record, as a history tells them. No public clause cites this module.
use Rattle.trial_disk.specs.Recorded.{Done, Wrote, Synced}
use Rattle.trial_disk.specs.declared.call.Call.{Call}
use Rattle.trial_disk.specs.declared.call.Call.TheVariants.{Write, Sync}

abbrev pub done_of : Call → Done
done_of (Write file at bytes) = Wrote file at bytes.items
done_of (Sync file) = Synced file
