-- What an opening tells behind earlier lives, and clients that are served one after the other in the life of a gateway,
-- as `gateway/specs/Lives` and `Living` define it.
use Rattle.std.specs.Prelude.{◌≡◌, ◌≢◌, ⊤, ℕ, zero, suc, List, [], ◌∷◌, ◌++◌, Result}
use Rattle.std.proofs.Common.{inr}
use Rattle.packet.specs.Config.{Config}
use Rattle.disk_model.specs.Disk.{Files}
use Rattle.durable.specs.Entering.{Durable}
use Rattle.machine.specs.declared.event.Answer.{Answer}
use Rattle.machine.specs.declared.event.Event.{Event}
use Rattle.gateway.specs.Kept.{Kept}
use Rattle.gateway.specs.Lives.{Life, LivesLeave}
use Rattle.gateway.specs.Living.{IsLived, RestsInLife}
use Rattle.gateway.specs.declared.fault.GatewayFault.TheVariants as gateway_fault
use Rattle.snapshot.specs.Store.{IsLastFormer}
use Rattle.snapshot.specs.declared.fault.OpenFault.TheVariants as open_fault
use Rattle.socket_edge.specs.Lives.{EdgeRuns, EdgeStops}
use Rattle.socket_edge.specs.Running.{events_in}
use Rattle.socket_edge.specs.Turns.{Turn, given, taken}
use Rattle.socket_edge.specs.declared.fault.EdgeFault.{EdgeFault}
use Rattle.refusals.specs.declared.refusal.Refusal.{Refusal}
use Rattle.commands.specs.Causes.{IsLastCurrent}
use Rattle.commands.specs.Visits.{Idles, ServiceEnds, SomeVisits, Visit, Visits}
use Rattle.commands.specs.declared.opening.AnewFault.{AnewFault}
use Rattle.commands.specs.declared.opening.AnewFault.TheVariants.{Making, Opening}

module _ {D : Type 0} (honest : D → Type 0) (moment : D → ℕ) (by_crash : D → ℕ → Files → Type 0)
    (seen : D → Files) (config : Config) where
  -- What an opening may tell behind these lives, of files that it may find then: neither damage nor another
  -- configuration; and that the generations are used up only if they may have left such files.
  abbrev pub TellsBehind : Durable → List (Life D) → AnewFault → Type 0
  TellsBehind first earlier (Opening fault) =
      (fault ≢ open_fault.Damaged) × (fault ≢ open_fault.ConfigDiffers)
      × (fault ≡ open_fault.Generations → (files : Files)
      × LivesLeave honest moment by_crash seen config first earlier files
      × IsLastFormer config files)
  TellsBehind first earlier (Making fault) = fault ≡ gateway_fault.Generations → (files : Files)
      × LivesLeave honest moment by_crash seen config first earlier files × IsLastCurrent files

module _ {C D : Type 0} (honest : D → Type 0) (moment : D → ℕ) (by_crash : D → ℕ → Files → Type 0)
    (seen : D → Files) (failed : D → ℕ) (came : C → C → Type 0)
    (went : C → C → List Turn → Type 0) (ended : C → Type 0) (left : C → C → Type 0) where
  -- The gateway's life had come to `events` and `answered`, and then there was this visit.
  pub record VisitIsLife (config : Config) (entry : D) (opened_at : ℕ) (begun : Kept D)
      (events : List Event) (answered : List (ℕ × Answer)) (end : Result ℕ EdgeFault) (a b : C)
      (old new : Kept D)
      (visit : Visit honest moment by_crash failed came went ended left end a b old new) : Type 0 where
    -- A stop before the client came is the end of the life.
    pub before : IsLived honest moment by_crash seen config entry opened_at begun events answered
        old.disk visit.start.disk
    -- So is one while the client is served, or after that; and unless the gateway has fallen, it rests again.
    pub serves : EdgeRuns honest moment by_crash seen config entry opened_at begun visit.start new
        events answered (events_in (given visit.meets.turns)) (taken visit.meets.turns)
    -- A stop since a turn began, and before the next one did: each answer counts as given out that the client had taken
    -- by the end of the turn.
    pub stops : (before : List Turn) (turn : Turn) (after : List Turn)
        → visit.meets.turns ≡ before ++ turn ∷ after
        → EdgeStops honest moment by_crash seen config entry opened_at begun visit.start
        (visit.meets.each_turn.by before) (visit.meets.each_turn.by (before ++ turn ∷ []))
        events answered (events_in (given before)) (events_in (given (before ++ turn ∷ [])))
        (taken (before ++ turn ∷ []))

  -- These events were taken in so many visits: of each client the first of those that it gave, one client behind the
  -- other.
  abbrev pub TookInVisits : (n : ℕ) (a b : C) (old new : Kept D)
      → Visits honest moment by_crash failed came went ended left n a b old new → List Event → Type 0
  TookInVisits zero a b old new visits taken_events = taken_events ≡ []
  TookInVisits (suc n) a b old new visits taken_events = (earlier front back : List Event)
      × (taken_events ≡ earlier ++ front)
      × TookInVisits n a visits.0 old visits.1 visits.3 earlier
      × (events_in (given visits.4.meets.turns) ≡ front ++ back)

  -- The gateway's life had come to `events` and `answered`, and then the service ended; `missed` is what is seen if no
  -- client comes. If a last client was served, its visit is part of the life; else a stop since then is the life's end.
  abbrev pub EndIsLife : (missed : C → C → Type 0) (config : Config) (entry : D) (opened_at : ℕ)
      (begun : Kept D) (events : List Event) (answered : List (ℕ × Answer)) (r : Refusal) (a b : C)
      (old new : Kept D)
      → ServiceEnds honest moment by_crash failed came went ended left missed r a b old new
      → Type 0
  EndIsLife missed config entry opened_at begun events answered r a b old new (inr (inr last)) =
      VisitIsLife config entry opened_at begun events answered last.end a b old new last.visit
  EndIsLife missed config entry opened_at begun events answered r a b old new ends =
      IsLived honest moment by_crash seen config entry opened_at begun events answered old.disk
      new.disk

  -- Of a gateway that rests in its life:
  pub record VisitsAreLives (missed : C → C → Type 0) : Type 0 where
    -- a stop between two clients is the end of the life
    pub between : (config : Config) (entry : D) (opened_at : ℕ) (begun old new : Kept D)
        (events : List Event) (answered : List (ℕ × Answer))
        → RestsInLife honest moment by_crash seen config entry opened_at begun events answered old
        → Idles honest moment by_crash old new
        → IsLived honest moment by_crash seen config entry opened_at begun events answered old.disk
        new.disk
    -- so is a stop within a visit
    pub each : (config : Config) (entry : D) (opened_at : ℕ) (begun old new : Kept D)
        (events : List Event) (answered : List (ℕ × Answer)) (end : Result ℕ EdgeFault) (a b : C)
        → RestsInLife honest moment by_crash seen config entry opened_at begun events answered old
        → (visit : Visit honest moment by_crash failed came went ended left end a b old new)
        → VisitIsLife config entry opened_at begun events answered end a b old new visit
    -- After so many visits it rests in the same life, in which it has taken these events too, and the next one may
    -- follow.
    pub rests : (config : Config) (entry : D) (opened_at : ℕ) (begun old new : Kept D)
        (events : List Event) (answered : List (ℕ × Answer)) (n : ℕ) (a b : C)
        → RestsInLife honest moment by_crash seen config entry opened_at begun events answered old
        → (visits : Visits honest moment by_crash failed came went ended left n a b old new)
        → (more : List Event) × (out : List (ℕ × Answer)) × TookInVisits n a b old new visits more
        × RestsInLife honest moment by_crash seen config entry opened_at begun (events ++ more)
        (answered ++ out) new
    -- A service that ends is part of the life too: the gateway rested behind the visits before its end, and
    -- that is part of its life (`EndIsLife`).
    pub ends : (config : Config) (entry : D) (opened_at : ℕ) (begun old new : Kept D)
        (events : List Event) (answered : List (ℕ × Answer)) (most : ℕ) (r : Refusal) (a b : C)
        → RestsInLife honest moment by_crash seen config entry opened_at begun events answered old
        → (some : SomeVisits honest moment by_crash failed came went ended left missed most r a b
        old new)
        → (more : List Event) × (out : List (ℕ × Answer))
        × TookInVisits some.count a some.last old some.now some.visits more
        × RestsInLife honest moment by_crash seen config entry opened_at begun (events ++ more)
        (answered ++ out) some.now
        × EndIsLife missed config entry opened_at begun (events ++ more) (answered ++ out) r some.last b
        some.now new some.ends

module _ {D : Type 0} (honest : D → Type 0) (moment : D → ℕ) (by_crash : D → ℕ → Files → Type 0)
    (seen : D → Files) (failed : D → ℕ) where
  -- the same of clients of whom nothing is seen (`UnseenVisits`)
  abbrev pub UnseenVisitsAreLives : Type 0
  UnseenVisitsAreLives = VisitsAreLives {C = Unit {0}} honest moment by_crash seen failed (λ a b. ⊤)
      (λ a b turns. ⊤) (λ a. ⊤) (λ a b. ⊤) (λ a b. ⊤)
