-- What becomes of an event: its number, whether it is answered at once, and what one is answered that is taken in its
-- caller's bytes.
use Rattle.std.specs.Prelude.{ℕ, List, [], ◌∷◌}
use Rattle.machine.specs.Fates.{answer_of}
use Rattle.machine.specs.declared.event.Answer.{Answer}
use Rattle.machine.specs.declared.event.Answer.TheVariants as answer
use Rattle.gateway.specs.declared.given.Given.{Given}
use Rattle.gateway.specs.declared.given.Given.TheVariants as given
use Rattle.gateway.specs.declared.given.GivenInPlace.{GivenInPlace}
use Rattle.gateway.specs.declared.given.GivenInPlace.TheVariants as given_in_place

-- the numbered answers that a call handed out
abbrev pub handed : Given → List (ℕ × Answer)
handed (given.Now number answer) = (number, answer) ∷ []
handed (given.Held number) = []

-- the number that a call gave
abbrev pub number_of : Given → ℕ
number_of (given.Now number answer) = number
number_of (given.Held number) = number

-- the event was answered at once
abbrev pub IsNow : Given → Type 0
IsNow (given.Now number answer) = Unit {0}
IsNow (given.Held number) = ⊥

-- what became of the event whose packet has these bytes then
abbrev pub given_by : GivenInPlace → List ℕ → Given
given_by (given_in_place.Now number fate) packet = given.Now number (answer_of fate packet)
given_by (given_in_place.Held number fate) packet = given.Held number

-- the numbered answer to an event, of which a packet has these bytes then
abbrev pub answer_given : GivenInPlace → List ℕ → ℕ × Answer
answer_given (given_in_place.Now number fate) packet = (number, answer_of fate packet)
answer_given (given_in_place.Held number fate) packet = (number, answer_of fate packet)

-- the bytes of the packet that leaves, if one does
abbrev pub packet_of : Answer → List ℕ
packet_of (answer.Forward iface packet) = packet
packet_of (answer.Dropped cause) = []
packet_of answer.Loaded = []
packet_of answer.Refused = []
packet_of answer.Ticked = []
