-- A run of turns in the life of a gateway, as `gateway/specs/Lives` and `Living` define it.
use Rattle.std.specs.Prelude.{◌≡◌, ℕ, List, [], ◌∷◌, ◌++◌, Result}
use Rattle.disk_model.specs.Disk.{Files}
use Rattle.packet.specs.Config.{Config}
use Rattle.devices.specs.Handing.{Frames}
use Rattle.machine.specs.Judged.{AreJudged, Judged}
use Rattle.machine.specs.declared.event.Answer.{Answer}
use Rattle.machine.specs.declared.event.Event.{Event}
use Rattle.gateway.specs.Kept.{Kept}
use Rattle.gateway.specs.Living.{IsLived, RestsInLife}
use Rattle.frames.specs.Answers.{frames}
use Rattle.socket_edge.specs.Lives.{EdgeRuns}
use Rattle.socket_edge.specs.Progress.{Reached}
use Rattle.socket_edge.specs.declared.fault.EdgeFault.{EdgeFault}
use Rattle.carrying.specs.Asking.{Asks}
use Rattle.carrying.specs.Runs.{ComesBy, Ran, Settles, all_events}
use Rattle.carrying.specs.Turns.{Turn}

module _ {D : Type 0} (honest : D → Type 0) (moment : D → ℕ) (left : D → ℕ → Files → Type 0)
    (seen : D → Files) where
  -- The gateway's life had come to `events` and `given`, and the run took it from `old` by `now` to `later`. When it
  -- was at `now`, it had taken just the events so far, and all these answers count as given out. When it was at
  -- `later`, the first of those were taken that had come by then.
  pub record CarryStops (config : Config) (entry : D) (opened_at : ℕ) (begun old now later : Kept D)
      (events : List Event) (given : List (ℕ × Answer)) (so_far came : List Event)
      (answered : List (ℕ × Answer)) : Type 0 where
    -- A stop just then is the end of a life, which knows of no event that came later.
    pub until : IsLived honest moment left seen config entry opened_at begun (events ++ so_far)
        (given ++ answered) now.disk now.disk
    -- Up to then it was as a run of the edge over just these events.
    pub by_then : EdgeRuns honest moment left seen config entry opened_at begun old now events given
        so_far (frames answered)
    pub front : List Event
    pub back : List Event
    pub split : came ≡ front ++ back
    pub judged : List Judged
    pub are_judged : AreJudged old.told.config front judged
    -- just these bring the gateway to the later one
    pub reached : Reached old.told later.told judged
    -- A stop since then, and before it was at the later one, is the end of a life, which knows of no event that came
    -- later either.
    pub since : IsLived honest moment left seen config entry opened_at begun (events ++ front)
        (given ++ answered) now.disk later.disk

  -- A stop in the midst of a run, over a gateway that rests in its life, with what the run promises of each of its
  -- turns (`AtEachTurn`): since a turn began, and before the next one did. All answers of the turns before count as given
  -- out, whatever they say.
  abbrev pub CarryStopsAreLives : Type 0
  CarryStopsAreLives = (config : Config) (entry : D) (opened_at : ℕ) (begun old now later : Kept D)
      (events : List Event) (given : List (ℕ × Answer)) (last : ℕ) (before : List Turn)
      (turn : Turn) (lan lan' wan wan' : Frames)
      → RestsInLife honest moment left seen config entry opened_at begun events given old
      → (by : ComesBy honest moment left old now later last before turn lan lan' wan wan')
      → CarryStops config entry opened_at begun old now later events given
      (all_events last before) (all_events last (before ++ turn ∷ [])) by.answered

  -- A stop in the midst of a run, over a gateway that rests in its life, with what the run promises of a turn that didn't
  -- fail (`Settles`): since the turn settled, and before the next one began or the run ended. All events up to this
  -- turn count as taken, and all their answers as given out. Of a stop before the turn settled `CarryStopsAreLives`
  -- speaks (`comes`).
  abbrev pub SettledStopsAreLives : Type 0
  SettledStopsAreLives = (config : Config) (entry : D) (opened_at : ℕ) (begun old now later : Kept D)
      (events : List Event) (given answered : List (ℕ × Answer)) (last : ℕ) (before : List Turn)
      (turn : Turn) (lan lan' wan wan' : Frames)
      → RestsInLife honest moment left seen config entry opened_at begun events given old
      → (by : Settles honest moment left old now later last before turn answered lan lan' wan wan')
      → IsLived honest moment left seen config entry opened_at begun
      (events ++ all_events last (before ++ turn ∷ [])) (given ++ answered)
      by.settled.disk later.disk

  -- A whole run, over a gateway that rests in its life, is as one of the edge over the events of its turns: a stop in
  -- it or after it is the end of the life, and unless the gateway has fallen it rests again. The answers by which the
  -- devices were handed packets are the first of those that count as given out.
  abbrev pub CarryRunsAreLives : Type 0
  CarryRunsAreLives = (config : Config) (entry : D) (opened_at : ℕ) (begun old new : Kept D)
      (events : List Event) (given : List (ℕ × Answer)) (ended : Result (Unit {0}) EdgeFault)
      (last : ℕ) (asks asks' : Asks) (lan lan' wan wan' : Frames)
      (lan_handed lan_handed' wan_handed wan_handed' : Frames)
      → RestsInLife honest moment left seen config entry opened_at begun events given old
      → (run : Ran honest moment left old new ended last asks asks' lan lan' wan wan'
      lan_handed lan_handed' wan_handed wan_handed')
      → EdgeRuns honest moment left seen config entry opened_at begun old new events given
      (all_events last (run.turns ++ run.failed)) (frames run.answered ++ run.more)
