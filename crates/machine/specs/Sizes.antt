-- The room that the entries of an event take.
use Rattle.std.specs.Prelude.{ℕ, ◌+◌, List, [], ◌∷◌, length, Option, Some, None}
use Rattle.durable.specs.declared.entry.Entry as declared
use Rattle.durable.specs.Coding.{Entry, entry_bytes}
use Rattle.durable.specs.Viewing.{view}
use Rattle.machine.specs.declared.deed.Deed.{Deed}
use Rattle.machine.specs.declared.deed.Deed.TheVariants as deed

-- how many bytes the entries have
abbrev pub bytes_of : List Entry → ℕ
bytes_of [] = 0
bytes_of (e ∷ es) = length (entry_bytes e) + bytes_of es

-- how many bytes the entries of a deed have at most: a text stands whole, and a packet changes two sessions at most
abbrev pub most_bytes : Deed → ℕ
most_bytes (deed.Take text rules) = 5 + length text
most_bytes (deed.Refuse text) = 0
most_bytes (deed.Packet iface bytes) = 44
most_bytes deed.Moment = 0

-- the entry that there is, if there is one
abbrev pub listed : Option declared.Entry → List Entry
listed None = []
listed (Some entry) = view entry ∷ []
