-- How the entries lie where a key has one place. No public clause cites this module.
use Rattle.std.specs.Prelude.{◌≡◌, ℕ, ◌+◌, ◌*◌, ◌/◌, ◌%◌, List, Bool, Option, None}
use Rattle.std.specs.Bool.{OnFalse}
use Rattle.rows.specs.declared.Entry.{Entry}
use Rattle.rows.specs.Held.{value_at}
use Rattle.buckets.specs.Places.{HasAt}

-- the place of a key: its lowest 16 bits say it, which are the port of an endpoint, and bit 48, in which the numbers of
-- TCP and UDP differ
abbrev pub place_of : ℕ → ℕ
place_of key = key / 281474976710656 % 2 * 65536 + key % 65536

-- each entry stands at the place of its key
abbrev pub AreAtHome : List (Option Entry) → Type 0
AreAtHome places = (place : ℕ) (entry : Entry) → HasAt places place entry
    → place ≡ place_of entry.key

-- each entry of a place is at home there and not among the others, of which there are none where it is told so
pub record ArePlaced (places : List (Option Entry)) (others : List Entry)
    (has_others : Bool) : Type 0 where
  pub home : AreAtHome places
  pub once : (place : ℕ) (entry : Entry) → HasAt places place entry
      → value_at others entry.key ≡ None
  pub none : OnFalse has_others ((key : ℕ) → value_at others key ≡ None)
