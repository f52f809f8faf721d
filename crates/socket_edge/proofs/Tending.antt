-- Memory that is refused to the edge.
use Rattle.std.proofs.Common.{◌≡◌, ◌≤◌, ℕ, List, [], sym, subst}
use Rattle.disk_model.specs.Disk.{Files}
use Rattle.machine.specs.declared.event.Answer.{Answer}
use Rattle.machine.specs.declared.event.Event.{Event}
use Rattle.gateway.specs.declared.fault.GatewayFault.TheVariants as fault
use Rattle.gateway.specs.Kept.{Kept}
use Rattle.gateway.specs.Running.{Stands, CarriesOn, BreaksOff}
use Rattle.gateway.proofs.Runs.{breaks-here, carries-none, ended, memory-why}
use Rattle.socket_edge.specs.Running.{Fares}
use Rattle.socket_edge.specs.Serving.{ComesByOne}
use Rattle.socket_edge.proofs.Lasting.{fares-none}
use Rattle.socket_edge.proofs.Stopping.{by-one-end}

module _ {D : Type 0} (honest : D → Type 0) (moment : D → ℕ) (left : D → ℕ → Files → Type 0) (seen : D → Files) (failed : D → ℕ)
    (reads : (disk : D) → honest disk → left disk (moment disk) (seen disk))
    (earlier : (disk : D) (s t : ℕ) (files : Files) → s ≤ t → left disk t files → left disk s files) (now : Kept D) where
  -- no call of the gateway was made
  pub no-call : (out : List (ℕ × Answer)) → CarriesOn honest moment left failed now now [] out out
  no-call out = carries-none honest moment left failed now now out out (λ start events s. s)

  -- nor for want of memory
  pub no-memory : (more : List Event) (before out : List (ℕ × Answer)) → out ≡ before → BreaksOff honest moment left failed now now more before out fault.NoMemory
  no-memory more before out same =
      subst (λ (l : List (ℕ × Answer)). BreaksOff honest moment left failed now now more before l fault.NoMemory) (sym same)
      (breaks-here honest moment left failed now now more before before fault.NoMemory
      (λ start events s. record {
        ends = ended honest moment left seen failed reads earlier start now events before s;
        is_why = memory-why honest moment left failed start now s.stands s.no_failure;
        stays = λ other. s;
      }))

  -- a run that took nothing
  pub idle-fares : Stands honest moment left failed now now [] [] → (events : List Event) → Fares honest moment left now now events []
  idle-fares s events = fares-none honest moment left failed now events (ended honest moment left seen failed reads earlier now now [] [] s) s.stands

  -- nor came by another gateway
  pub idle-comes : Stands honest moment left failed now now [] [] → (events : List Event) → Fares honest moment left now now events [] × ComesByOne honest moment left now now events []
  idle-comes s events = let f = idle-fares s events in (f, by-one-end honest moment left earlier now now events [] f)
