-- What a contract sees of the buckets: the entries as rows have them, by the value of each key alone.
use Rattle.std.specs.Prelude.{◌≡◌, ℕ}
use Rattle.rows.specs.Held.{Entries, at}

-- each key has the value that it had, or none still
abbrev pub KeepsAll : Entries → Entries → Type 0
KeepsAll old new = (key : ℕ) → at new key ≡ at old key
