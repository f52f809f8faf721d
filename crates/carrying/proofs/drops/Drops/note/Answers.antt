use Rattle.carrying.proofs.Noted.{notes}
use Rattle.carrying.proofs.drops.Drops.note.Goals as goal

pub returns-then-self-gt0 : goal.returns-then-self-gt0
returns-then-self-gt0 c = notes c.args.moment c.args.self.now c.begin.new.self c.note_all.new.self c.begin.ensures.begun c.note_all.ensures.more c.note_all.ensures.bounded
