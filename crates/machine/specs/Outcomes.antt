-- What a call does to notes: it notes entries, or none. Whether any are kept stays, and what is beside them.
use Rattle.std.specs.Prelude.{◌≡◌, ◌↔◌, ◌++◌, List, Result, Ok, Err}
use Rattle.durable.specs.Coding.{Entry}
use Rattle.machine.specs.Besides.{Besides}

module _ {N : Type 0} (keeps : N → Type 0) (beside : N → Besides) (noted : N → List Entry) where
  -- these entries were noted
  pub record Noted (old new : N) (entries : List Entry) : Type 0 where
    pub kept : keeps old ↔ keeps new
    pub stays : beside new ≡ beside old
    pub added : keeps old → noted new ≡ noted old ++ entries

  -- none was noted
  pub record Unnoted (old new : N) : Type 0 where
    pub kept : keeps old ↔ keeps new
    pub stays : beside new ≡ beside old
    pub same : noted new ≡ noted old

  -- these entries were noted, unless the call fails
  abbrev pub NotedIfOk : {T E : Type 0} → Result T E → N → N → List Entry → Type 0
  NotedIfOk (Ok x) old new entries = Noted old new entries
  NotedIfOk (Err e) old new entries = Unnoted old new
