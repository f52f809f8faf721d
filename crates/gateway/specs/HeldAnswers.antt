-- The answers that are held, and the entries of their events. No public clause cites this module.
use Rattle.std.specs.Prelude.{◌≡◌, ◌↔◌, ◌<◌, ◌≤◌, ◌+◌, ℕ, zero, suc, List, [], ◌∷◌, ◌++◌, length, Option, Some, None}
use Rattle.machine.specs.declared.event.Answer.{Answer}
use Rattle.durable.specs.Coding.{Entry, AreEntries, body_bytes}
use Rattle.durable.specs.Reading.{entry_at}
use Rattle.gateway.specs.Given.{IsNow, handed, number_of}
use Rattle.gateway.specs.declared.given.Given.{Given}

-- what is held, the entries of the events that are held, the place in the file where their group will stand, and how
-- many more bytes of entries find room
pub record HeldAnswers : Type 0 where
  pub held : List (ℕ × Answer)
  pub entries : List Entry
  pub place : ℕ
  pub room : ℕ

-- an answer is given at once exactly if no entry waits, and else held behind the others
pub record Gives (old new : HeldAnswers) (given : Given) (one : ℕ × Answer) : Type 0 where
  pub order : handed given ++ new.held ≡ old.held ++ one ∷ []
  pub number : number_of given ≡ one.0
  pub now : IsNow given ↔ (old.entries ≡ [])
  pub quiet : IsNow given → old.held ≡ []
  pub none : new.held ≡ [] → new.entries ≡ []
  pub entries : new.entries ≡ old.entries
  pub place : new.place ≡ old.place

-- the entry that was read, if one was, and behind it what more gives of the other bytes
abbrev pub behind_it : (List ℕ → List Entry) → Option (Entry × List ℕ) → List Entry
behind_it more None = []
behind_it more (Some read) = read.0 ∷ more read.1

-- the entries that stand in bytes, n of them at most
abbrev pub entries_at : ℕ → List ℕ → List Entry
entries_at zero bytes = []
entries_at (suc n) bytes = behind_it (entries_at n) (entry_at bytes)

-- the entries that a body has
abbrev pub entries_in : List ℕ → List Entry
entries_in body = entries_at (length body) body

-- the bytes that wait are entries, the buffer can spare the room for more, and the group fits its file
pub record HasGroup (body : List ℕ) (spare place room : ℕ) : Type 0 where
  pub entries : List Entry
  pub coded : AreEntries entries
  pub are : body ≡ body_bytes entries
  pub has_room : room ≤ spare
  pub fits : 0 < length body + room → place + length body + room + 6 ≤ 67108864

-- The first slots are used, and none if no entry waits. If one waits or may come, there are 64 slots, and as many places
-- to hand their answers out.
pub record HasSlots (body : List ℕ) (room : ℕ) (slots : List (ℕ × Answer)) (used : ℕ)
    (handed : List (ℕ × Answer)) (places : ℕ) : Type 0 where
  pub within : used ≤ length slots
  pub most : length slots ≤ 64
  pub quiet : body ≡ [] → used ≡ 0
  pub enough : 0 < length body + room → (64 ≤ length slots) × (64 ≤ places)
  pub none : handed ≡ []
