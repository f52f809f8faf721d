-- The names of the reasons for which a text isn't taken.
use Rattle.std.specs.Prelude.{ℕ, List, codes}
use Rattle.ruletree.specs.declared.fault.Kind.{Kind}
use Rattle.ruletree.specs.declared.fault.Kind.TheVariants as kind

-- as reports write it
abbrev pub reason_name : Kind → List ℕ
reason_name kind.TooLong = codes "too-long"
reason_name kind.Syntax = codes "syntax"
reason_name kind.Unsupported = codes "unsupported"
reason_name kind.Family = codes "family"
reason_name kind.UnknownChain = codes "unknown-chain"
reason_name kind.UnknownSet = codes "unknown-set"
reason_name kind.Duplicate = codes "duplicate"
reason_name kind.Loop = codes "loop"
reason_name kind.Depth = codes "depth"
reason_name kind.WrongHook = codes "wrong-hook"
reason_name kind.WrongType = codes "wrong-type"
reason_name kind.NotExternal = codes "not-external"
reason_name kind.NotInside = codes "not-inside"
reason_name kind.Limit = codes "limit"
reason_name kind.Overlap = codes "overlap"
reason_name kind.NoMemory = codes "no-memory"
