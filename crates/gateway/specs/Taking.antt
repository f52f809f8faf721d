-- What an event that is taken does to a gateway, and why one isn't taken.
use Rattle.std.specs.Prelude.{◌≡◌, ◌≢◌, ◌↔◌, ℕ, ◌+◌, ◌-◌, ◌^◌, ◌<◌, ◌≤◌, List, [], ◌∷◌, ◌++◌, length, true, false}
use Rattle.durable.specs.Coding.{Entry, body_bytes}
use Rattle.machine.specs.Judged.{Judged, IsJudged, IsNoLoad}
use Rattle.machine.specs.Machine.{KeepsCount, EndsNone, later, step}
use Rattle.machine.specs.Noted.{AreEntriesOf, HasEntry}
use Rattle.machine.specs.Sizes.{most_bytes}
use Rattle.packet.specs.declared.endpoint.Iface.{Iface}
use Rattle.machine.specs.declared.event.Event.{Event}
use Rattle.machine.specs.declared.event.What.{What}
use Rattle.machine.specs.declared.event.What.TheVariants.{Packet}
use Rattle.gateway.specs.Given.{IsNow, answer_given, given_by, handed}
use Rattle.gateway.specs.Kept.{Kept, IsRoomy, IsTooMuch}
use Rattle.gateway.specs.Told.{Took}
use Rattle.gateway.specs.declared.fault.GatewayFault.{GatewayFault}
use Rattle.gateway.specs.declared.fault.GatewayFault.TheVariants as gateway_fault
use Rattle.gateway.specs.declared.given.Given.{Given}
use Rattle.gateway.specs.declared.given.GivenInPlace.{GivenInPlace}

-- it brings no packet
abbrev pub IsNoPacket : What → Type 0
IsNoPacket content = (iface : Iface) (packet : List ℕ) → content ≢ Packet iface packet

-- The event was taken, by a gateway that stands, has a number left and holds fewer than 64 answers.
pub record Takes {D : Type 0} (old new : Kept D) (event : Event) (given : Given) : Type 0 where
  pub took : Took old.told new.told event given
  -- it is answered at once exactly if nothing is held and it has no entry
  pub now : (judged : Judged) → IsJudged old.told.config event judged
      → IsNow given
      ↔ ((old.told.held ≡ []) × ¬ HasEntry old.told.config old.told.state judged)
  -- what waits has grown by its entries
  pub filled : (judged : Judged) × (entries : List Entry)
      × IsJudged old.told.config event judged
      × AreEntriesOf old.told.config old.told.state judged entries
      × (new.filled ≡ old.filled + length (body_bytes entries))
  pub stood : old.fallen ≡ false
  pub numbers_left : old.told.last < 2 ^ 64 - 1
  pub held_few : length old.told.held < 64

-- It was taken in its caller's bytes, where its packet, if it has one, lies as it is now. The answers that were held,
-- and then its own, are handed out or held, in order.
pub record TakesInPlace {D : Type 0} (old new : Kept D) (event : Event) (taken : GivenInPlace)
    (packet : List ℕ) : Type 0 where
  pub takes : Takes old new event (given_by taken packet)
  pub answer : handed (given_by taken packet) ++ new.told.held
      ≡ old.told.held ++ answer_given taken packet ∷ []

-- The event can't be taken.
pub record Refuses {D : Type 0} (old : Kept D) (event : Event) (why : GatewayFault) : Type 0 where
  pub reopen : (why ≡ gateway_fault.Reopen) ↔ (old.fallen ≡ true)
  pub numbers_out : (why ≡ gateway_fault.NumbersOut)
      ↔ ((old.fallen ≡ false) × (old.told.last ≡ 2 ^ 64 - 1))
  pub held_full : (why ≡ gateway_fault.HeldFull)
      ↔ ((old.fallen ≡ false) × (old.told.last < 2 ^ 64 - 1) × (length old.told.held ≡ 64))
  pub full : why ≡ gateway_fault.Full
      → IsTooMuch old.filled old.told.config old.told.state event
  pub roomy : IsRoomy old.filled → why ≢ gateway_fault.Full
  -- a full file is told as such, if memory is asked for the entries alone
  pub no_memory : IsNoLoad event.what → (judged : Judged)
      → IsJudged old.told.config event judged
      → EndsNone (later old.told.state.clock event.moment) old.told.state
      → KeepsCount old.told.state (step old.told.config old.told.state judged)
      → why ≡ gateway_fault.NoMemory → old.filled + most_bytes judged.deed + 6 ≤ 67108864
  pub causes : (why ≢ gateway_fault.Device) × (why ≢ gateway_fault.Generations)
  -- if nothing must be noted an event is taken without memory, also behind answers that are held
  pub quiet : old.fallen ≡ false → old.told.last < 2 ^ 64 - 1 → length old.told.held < 64
      → IsNoLoad event.what → (judged : Judged) → IsJudged old.told.config event judged
      → ¬ HasEntry old.told.config old.told.state judged → ⊥
