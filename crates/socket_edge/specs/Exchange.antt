-- What stands in the edge's memory between two reads. No public clause cites this module.
use Rattle.std.specs.Prelude.{ℕ, List}

-- the frames of answers that were handed out, behind them those of answers that are held, and the bytes that were read
-- and are not answered yet
pub record Exchange : Type 0 where
  pub answered : List ℕ
  pub held : List ℕ
  pub unanswered : List ℕ
