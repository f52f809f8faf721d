-- What is found in a file beside an empty one.
use Rattle.std.proofs.Common.{inl, inr, ℕ, List, [], refl, arith}
use Rattle.std.proofs.lemmas.Bool.{cases_eq}
use Rattle.std.specs.Prelude.{Option, Some, None, get_or}
use Rattle.disk_model.specs.declared.disk.FileId.{FileId}
use Rattle.disk_model.specs.declared.disk.FileId.TheVariants.{A, B}
use Rattle.durable.specs.Coding.{Heading}
use Rattle.durable.specs.Entering.{Durable}
use Rattle.disk_model.specs.Disk.{pair}
use Rattle.durable.specs.Recovery.{Found, Finds, Holds, IsActive, IsFound, IsOpen, behind}
use Rattle.durable.proofs.Headed.{headed_open}

pub closed_nothing : ¬ IsOpen []
closed_nothing e = omega (arith, e)

pub is_open : (file : List ℕ) → ¬ (¬ IsOpen file) → IsOpen file
is_open file not_closed = elim (cases_eq (get_or file 0 0) 1) [ inl opened ↦ opened | inr closed ↦ absurd (not_closed closed) ]

-- the active one of the two holds a state
active_alone : (file : List ℕ) (f : FileId) (h : Heading) (d : Durable) (end : ℕ) → IsActive (pair file []) f h d end → Holds file h d end
active_alone file A h d end active = active.0
active_alone file B h d end active = absurd (closed_nothing (headed_open [] h active.0.headed))

pub found_alone : (file : List ℕ) (x : Found) (found : IsFound (pair file []) x) → Holds file found.heading x.state x.end
found_alone file x found = active_alone file x.file found.heading x.state x.end found.active

pub holds_alone : (file : List ℕ) (h : Heading) (d : Durable) (end : ℕ) → Holds file h d end → (found : Option Found) × Finds (pair file []) found
holds_alone file h d end holds = (
  Some (record { file = A; version = h.version; generation = h.generation; config = h.config; state = d; start = behind h; end = end }),
  record { heading = h; active = (holds, λ opened. absurd (closed_nothing opened)); version = refl; generation = refl; config = refl; start = refl },
)

pub nothing_alone : (file : List ℕ) → ((found : Option Found) → ¬ Finds (pair file []) found) → (h : Heading) (d : Durable) (end : ℕ) → ¬ Holds file h d end
nothing_alone file none h d end holds = let found = holds_alone file h d end holds in none found.0 found.1

pub open_alone : (file : List ℕ) → ((found : Option Found) → ¬ Finds (pair file []) found) → IsOpen file
open_alone file none = is_open file (λ closed. none None (closed, closed_nothing))
