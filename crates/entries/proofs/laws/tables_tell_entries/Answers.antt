use Rattle.sessions.proofs.Sets.{Apart-sound}
use Rattle.machine.proofs.Telling.{noted-held, noted-new}
use Rattle.entries.proofs.laws.tables_tell_entries.Goals as goal

pub returns : goal.returns
returns c = λ held sound. let apart = Apart-sound held sound in record { goes_on = noted-held held apart; begins = noted-new held apart }
