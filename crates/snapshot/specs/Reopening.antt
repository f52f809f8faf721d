-- Openings of a store one after another, each of which may be stopped at any moment: what the files stand for stays,
-- also while they are made anew in the version that is written.
use Rattle.std.specs.Prelude.{ℕ, List, [], ◌∷◌}
use Rattle.packet.specs.Config.{Config}
use Rattle.disk_model.specs.Disk.{Files, Leaves, LeavesNow, LeavesOnly}
use Rattle.durable.specs.Entering.{Durable}
use Rattle.durable.specs.Recovery.{Alike, IsConfigured, Recovers}

-- the files stand for this state, and the active one, if one is active, has this configuration
abbrev pub StandFor : Config → Durable → Files → Type 0
StandFor config d files = Recovers files d × IsConfigured config files

-- an opening: the disk at its entry, and the one that it gave back, or would have if it hadn't been stopped
pub record Opening (D : Type 0) : Type 0 where
  pub entry : D
  pub exit : D

module _ {D : Type 0} (moment : D → ℕ) (left : D → ℕ → Files → Type 0) (config : Config) where
  -- what `Store::open` says, whatever it answers: by its clauses `any_moment` and `configured`
  pub record IsOpening (opening : Opening D) : Type 0 where
    pub any_moment : Leaves moment left opening.entry opening.exit Alike
    pub configured : LeavesNow moment left opening.entry (IsConfigured config)
        → LeavesOnly moment left opening.entry opening.exit (IsConfigured config)

  -- What may lie there behind these openings, the latest first, wherever the latest was stopped. The first of them began
  -- over files that stood for this state.
  abbrev pub LeftBehind : Durable → List (Opening D) → Files → Type 0
  LeftBehind d [] files = StandFor config d files
  LeftBehind d (latest ∷ earlier) files = left latest.exit (moment latest.entry) files

  -- Each began over a disk of which a crash leaves only what may lie behind the earlier ones.
  abbrev pub AreInARow : Durable → List (Opening D) → Type 0
  AreInARow d [] = Unit {0}
  AreInARow d (latest ∷ earlier) = IsOpening latest
      × LeavesNow moment left latest.entry (LeftBehind d earlier) × AreInARow d earlier

  -- whatever lies there behind them stands for the state
  abbrev pub OpeningsKeepTheState : Type 0
  OpeningsKeepTheState = (d : Durable) (openings : List (Opening D)) → AreInARow d openings
      → (files : Files) → LeftBehind d openings files → StandFor config d files
