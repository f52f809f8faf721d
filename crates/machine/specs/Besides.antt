-- What notes have beside the entries: what `gateway` holds beside them, which no step changes.
use Rattle.std.specs.Prelude.{ℕ, List}
use Rattle.machine.specs.declared.event.Answer.{Answer}

-- the place where the entries will be put, and the numbered answers that wait for it
pub record Besides : Type 0 where
  pub place : ℕ
  pub held : List (ℕ × Answer)
