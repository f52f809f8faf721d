-- How the idle times are kept: a row of links. The first three places are the heads of three rings,
-- one for each timeout; the place of a slot is three above its number. No public clause cites this
-- module.
use Rattle.std.specs.Prelude.{◌≡◌, ◌≢◌, ℕ, ◌+◌, ◌<◌, ◌≤◌, List, [], ◌∷◌, length, Option, Some, None, IsSomeAnd, slice_index_or, drop}
use Rattle.std.specs.List.{Contains}
use Rattle.std.specs.Option.{option_map}
use Rattle.timers.specs.declared.due.Idle.{Idle}
use Rattle.timers.specs.declared.links.Link.{Link}
use Rattle.timers.specs.declared.links.Queue.{Queue}
use Rattle.timers.specs.declared.links.Queue.TheVariants.{Short, Middle, Long}
use Rattle.timers.specs.declared.links.Watch.{Watch}
use Rattle.timers.specs.Due.{AreOnce, IsOver}

-- the place of the queue's head
abbrev pub head_of : Queue → ℕ
head_of Short = 0
head_of Middle = 1
head_of Long = 2

-- the seconds for which the sessions of the queue may be idle
abbrev pub timeout_in : Queue → ℕ
timeout_in Short = 240
timeout_in Middle = 300
timeout_in Long = 7440

-- no row has more places, so that each is a number of 32 bits
abbrev pub most_places : ℕ
most_places = 4294967296

-- a place with nothing watched, in no ring
abbrev pub alone : ℕ → Link
alone k = record { previous = k; next = k; watch = None }

-- what stands at a place: behind the row nothing is watched
abbrev pub link : List Link → ℕ → Link
link links k = slice_index_or links k (alone k)

abbrev pub next : List Link → ℕ → ℕ
next links k = (link links k).next

abbrev pub previous : List Link → ℕ → ℕ
previous links k = (link links k).previous

abbrev pub watch : List Link → ℕ → Option Watch
watch links k = (link links k).watch

-- the head of the ring that a watched place is in; any other place, heads too, has itself
abbrev pub tag_by : Option Watch → ℕ → ℕ
tag_by None k = k
tag_by (Some w) k = head_of w.queue

abbrev pub tag : List Link → ℕ → ℕ
tag links k = tag_by (watch links k) k

abbrev pub last_by : Option Watch → ℕ
last_by None = 0
last_by (Some w) = w.last

-- the last moment at a watched place
abbrev pub last : List Link → ℕ → ℕ
last links k = last_by (watch links k)

abbrev pub idle_by : Watch → Idle
idle_by w = record { last = w.last; timeout = timeout_in w.queue }

-- the idle time of what is watched at the place of a slot
abbrev pub idle_in : List Link → ℕ → Option Idle
idle_in links slot = option_map idle_by (watch links (slot + 3))

abbrev pub idles_by : List Link → List (Option Idle)
idles_by [] = []
idles_by (place ∷ places) = option_map idle_by place.watch ∷ idles_by places

-- the idle time of each slot
abbrev pub idles : List Link → List (Option Idle)
idles links = idles_by (drop 3 links)

-- the function has this value at this place, and elsewhere what it had
pub record IsPut {A : Type 0} (old new : ℕ → A) (at : ℕ) (value : A) : Type 0 where
  pub here : new at ≡ value
  pub others : (k : ℕ) → k ≢ at → new k ≡ old k

-- three rings through the heads 0, 1 and 2, each place with the tag of its head: a place that is in
-- none has a tag of 3 or more. From one place to the next the rank rises, and the last moment does
-- not fall, except over a head. So no ring is without a head, and a ring is a queue from its head on.
pub record IsRing (next previous tag last : ℕ → ℕ) : Type 0 where
  pub rank : ℕ → ℕ
  pub top : ℕ
  pub head : (k : ℕ) → k < 3 → tag k ≡ k
  pub on : (k : ℕ) → tag k < 3 → (previous (next k) ≡ k) × (tag (next k) ≡ tag k)
  pub back : (k : ℕ) → tag k < 3 → (next (previous k) ≡ k) × (tag (previous k) ≡ tag k)
  pub up : (k : ℕ) → tag k < 3 → 3 ≤ k → 3 ≤ next k → (rank k < rank (next k))
      × (last k ≤ last (next k))
  pub below : (k : ℕ) → tag k < 3 → rank k < top

-- each slot that is watched stands at its place, the places are in three rings, and they aren't too many
pub record IsRow (links : List Link) : Type 0 where
  pub few : length links ≤ most_places
  pub placed : (k : ℕ) (w : Watch) → watch links k ≡ Some w → w.slot + 3 ≡ k
  pub ring : IsRing (next links) (previous links) (tag links) (last links)

-- the first place leads to the second
pub record IsJoined (old new : List Link) (a b : ℕ) : Type 0 where
  pub next : IsPut (next old) (next new) a b
  pub previous : IsPut (previous old) (previous new) b a
  pub watch : (k : ℕ) → watch new k ≡ watch old k
  pub length : length new ≡ length old

-- what is watched at one place has changed
pub record IsWatchPut (old new : List Link) (at : ℕ) (value : Option Watch) : Type 0 where
  pub next : (k : ℕ) → next new k ≡ next old k
  pub previous : (k : ℕ) → previous new k ≡ previous old k
  pub watch : IsPut (watch old) (watch new) at value
  pub length : length new ≡ length old

-- what is watched at this place is alive no longer
abbrev pub IsOverAt : List Link → ℕ → ℕ → Type 0
IsOverAt links now k = IsSomeAnd (watch links k) (λ w. IsOver now (idle_by w))

-- the slots of the first queues that are alive no longer, each once
pub record IsFound (links : List Link) (now queues : ℕ) (slots : List ℕ) : Type 0 where
  pub all : (slot : ℕ) → tag links (slot + 3) < queues → IsOverAt links now (slot + 3)
      → Contains slots slot
  pub each : (slot : ℕ) → Contains slots slot → (tag links (slot + 3) < queues)
      × IsOverAt links now (slot + 3)
  pub once : AreOnce slots
