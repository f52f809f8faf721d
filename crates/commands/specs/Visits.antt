-- Clients that are served one after the other.
use Rattle.std.specs.Prelude.{◌≡◌, ◌≢◌, ◌<◌, ◌⊎◌, ◌↔◌, ⊤, ℕ, zero, suc, List, [], Result, Ok, Err, IfErr, true, false}
use Rattle.disk_model.specs.Disk.{Files}
use Rattle.packet.specs.Laws.{AreBytes}
use Rattle.gateway.specs.Kept.{Kept}
use Rattle.gateway.specs.Running.{IsWhy}
use Rattle.gateway.specs.declared.fault.GatewayFault.{GatewayFault}
use Rattle.gateway.specs.declared.fault.GatewayFault.TheVariants as gateway_fault
use Rattle.socket_edge.specs.Running.{AnswersFirst, AtEachTurn, Explains, Fares, NoneFailed, RunEnded, TurnsEnd, events_in}
use Rattle.socket_edge.specs.Turns.{Turn, given, taken}
use Rattle.socket_edge.specs.declared.fault.EdgeFault.{EdgeFault}
use Rattle.socket_edge.specs.declared.fault.EdgeFault.TheVariants.{Gateway}
use Rattle.refusals.specs.Words.{IsOfPath}
use Rattle.refusals.specs.declared.refusal.Refusal.{Refusal}
use Rattle.refusals.specs.declared.refusal.Refusal.TheVariants.{Reopen}
use Rattle.commands.specs.Faults.{IsOfGateway, gateway_refusal}

-- Whoever comes next is served: the client's end is no fault of the gateway, and the gateway stands.
abbrev pub GoesOn : {D : Type 0} → Result ℕ EdgeFault → Kept D → Type 0
GoesOn end gateway = IfErr end (λ fault. ¬ IsOfGateway fault) × (gateway.fallen ≡ false)

-- Nobody is served behind a client with this end, and this is told: the fault of the gateway; or, if the end is another
-- one, that the gateway has fallen.
abbrev pub EndsService : {D : Type 0} → Result ℕ EdgeFault → Kept D → Refusal → Type 0
EndsService (Err (Gateway fault)) gateway r = r ≡ gateway_refusal fault
EndsService end gateway r = (gateway.fallen ≡ true) × (r ≡ Reopen)

module _ {D : Type 0} (honest : D → Type 0) (moment : D → ℕ) (by_crash : D → ℕ → Files → Type 0) where
  -- Between two clients the gateway takes and answers nothing. Its files fare as in a run of no event: no crash in the
  -- meantime loses what must survive.
  pub record Idles (old new : Kept D) : Type 0 where
    pub told : new.told ≡ old.told
    pub fares : Fares honest moment by_crash old new [] []

module _ {D : Type 0} (honest : D → Type 0) (moment : D → ℕ) (by_crash : D → ℕ → Files → Type 0)
    (failed : D → ℕ) where
  -- Why a gateway lets no client come: it had fallen before (Reopen); or its file has grown above 1,048,576 bytes, and
  -- can't be made anew, since a call of the disk failed (Device), or its generation is the last one (Generations). With
  -- any fault but Device nothing has changed. Memory that is refused is no reason, nor is a number of answers.
  pub record MeetsNone (fault : GatewayFault) (old new : Kept D) : Type 0 where
    pub faults : (fault ≡ gateway_fault.Reopen) ⊎ (fault ≡ gateway_fault.Device)
        ⊎ (fault ≡ gateway_fault.Generations)
    pub reopen : (fault ≡ gateway_fault.Reopen) ↔ (old.fallen ≡ true)
    pub stays : fault ≢ gateway_fault.Device → new ≡ old
    pub grown : old.fallen ≡ false → 1048576 < old.grown
    pub why : old.fallen ≡ false → IsWhy honest moment by_crash failed old new fault

  -- In a stream that ended well no call of the disk has failed, and the gateway stands; a fault that ended one has its
  -- cause.
  abbrev pub EndHasCause : Result ℕ EdgeFault → Kept D → Kept D → Type 0
  EndHasCause (Ok count) old new = NoneFailed failed old new
  EndHasCause (Err fault) old new = Explains honest moment by_crash failed fault old new

  module _ {C : Type 0} (came : C → C → Type 0) (went : C → C → List Turn → Type 0)
      (ended : C → Type 0) (left : C → C → Type 0) where
    -- A client came, to a gateway that stood. It was answered, to its end or to a fault, which its last turn tells, and
    -- each time that it was asked for more it had the answers to what it had sent. No crash in the meantime loses what
    -- they answer. Then the client was let go.
    pub record Meeting (end : Result ℕ EdgeFault) (before after : C)
        (old new : Kept D) : Type 0 where
      pub stands : old.fallen ≡ false
      pub met : C
      pub comes : came before met
      pub last : C
      pub turns : List Turn
      pub goes : went met last turns
      pub ran : RunEnded end old.told new.told (given turns) (taken turns) (ended last)
      pub first : AnswersFirst old.told turns
      pub fares : Fares honest moment by_crash old new (events_in (given turns)) (taken turns)
      pub each_turn : AtEachTurn honest moment by_crash old new turns
      pub last_turn : TurnsEnd end turns
      pub bytes : AreBytes (given turns)
      pub cause : EndHasCause end old new
      pub leaves : left last after

    -- The gateway was compacted, or did nothing, and then a client came and was served.
    pub record Visit (end : Result ℕ EdgeFault) (before after : C)
        (old new : Kept D) : Type 0 where
      pub start : Kept D
      pub idles : Idles honest moment by_crash old start
      pub meets : Meeting end before after start new

    -- so many, one after the other, and behind each of them the next one may come
    abbrev pub Visits : ℕ → C → C → Kept D → Kept D → Type 0
    Visits zero before after old new = (after ≡ before) × (new ≡ old)
    Visits (suc n) before after old new = (between : C) × (now : Kept D)
        × (end : Result ℕ EdgeFault) × Visits n before between old now
        × Visit end between after now new × GoesOn end new

    -- No client was waited for, since the gateway has a fault.
    pub record NoneMet (r : Refusal) (before after : C) (old new : Kept D) : Type 0 where
      pub same : after ≡ before
      pub idles : Idles honest moment by_crash old new
      pub fault : GatewayFault
      pub told : r ≡ gateway_refusal fault
      pub cause : MeetsNone fault old new

    -- A client came, and nobody is served behind it.
    pub record LastMet (r : Refusal) (before after : C) (old new : Kept D) : Type 0 where
      pub end : Result ℕ EdgeFault
      pub visit : Visit end before after old new
      pub told : EndsService end new r

    module _ (missed : C → C → Type 0) where
      -- One was waited for by a gateway that stands, and none came.
      pub record NoneCame (r : Refusal) (before after : C) (old new : Kept D) : Type 0 where
        pub none : missed before after
        pub idles : Idles honest moment by_crash old new
        pub stands : new.fallen ≡ false
        pub told : IsOfPath r

      -- why the service ends, of which this is told
      abbrev pub ServiceEnds : Refusal → C → C → Kept D → Kept D → Type 0
      ServiceEnds r before after old new = NoneMet r before after old new
          ⊎ NoneCame r before after old new ⊎ LastMet r before after old new

      -- fewer than that many were served, and then the service ended
      pub record SomeVisits (most : ℕ) (r : Refusal) (before after : C)
          (old new : Kept D) : Type 0 where
        pub count : ℕ
        pub few : count < most
        pub last : C
        pub now : Kept D
        pub visits : Visits count before last old now
        pub ends : ServiceEnds r last after now new

  -- the same of clients of whom nothing is seen: what it says of the gateway
  abbrev pub UnseenVisits : ℕ → Kept D → Kept D → Type 0
  UnseenVisits n old new = Visits {C = Unit {0}} (λ a b. ⊤) (λ a b turns. ⊤) (λ a. ⊤) (λ a b. ⊤)
      n tt tt old new

  abbrev pub SomeUnseenVisits : ℕ → Refusal → Kept D → Kept D → Type 0
  SomeUnseenVisits most r old new = SomeVisits {C = Unit {0}} (λ a b. ⊤) (λ a b turns. ⊤) (λ a. ⊤)
      (λ a b. ⊤) (λ a b. ⊤) most r tt tt old new
