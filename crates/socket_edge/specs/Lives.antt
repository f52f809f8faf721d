-- A run of the edge in the life of a gateway, as `gateway/specs/Lives` and `Living` define it.
use Rattle.std.specs.Prelude.{◌≡◌, ◌≤◌, ℕ, List, ◌++◌, length, take, false}
use Rattle.packet.specs.Config.{Config}
use Rattle.disk_model.specs.Disk.{Files}
use Rattle.machine.specs.Judged.{AreJudged, Judged}
use Rattle.machine.specs.declared.event.Answer.{Answer}
use Rattle.machine.specs.declared.event.Event.{Event}
use Rattle.frames.specs.Answers.{frames}
use Rattle.gateway.specs.Kept.{Kept}
use Rattle.gateway.specs.Living.{IsLived, RestsInLife}
use Rattle.socket_edge.specs.Progress.{Reached, replies}
use Rattle.socket_edge.specs.Running.{Fares, ComesBy}

module _ {D : Type 0} (honest : D → Type 0) (moment : D → ℕ) (left : D → ℕ → Files → Type 0)
    (seen : D → Files) where
  -- The gateway's life had come to `events` and `given`, and the edge took it from `old` to `new`: the first of the
  -- events that were read are taken, and these bytes are sent.
  pub record EdgeRuns (config : Config) (entry : D) (opened_at : ℕ) (begun old new : Kept D)
      (events : List Event) (given : List (ℕ × Answer)) (read : List Event)
      (sent : List ℕ) : Type 0 where
    pub front : List Event
    pub back : List Event
    pub split : read ≡ front ++ back
    pub judged : List Judged
    pub are_judged : AreJudged old.told.config front judged
    -- just these: they bring the gateway where it stands, and its last number counts them
    pub reached : Reached old.told new.told judged
    -- what was sent is a beginning of their answers' frames
    pub unsent : List ℕ
    pub begins : sent ++ unsent ≡ frames (replies old.told judged)
    -- A stop within the run is the end of a life, in which none of these events counts as answered.
    pub within : IsLived honest moment left seen config entry opened_at begun (events ++ front)
        given old.disk new.disk
    -- So is a stop after it. Each answer counts as given out whose frame lies whole in what was sent.
    pub after : (n : ℕ) → n ≤ length front
        → length (frames (take n (replies old.told judged))) ≤ length sent
        → IsLived honest moment left seen config entry opened_at begun (events ++ front)
        (given ++ take n (replies old.told judged)) new.disk new.disk
    -- Unless the gateway has fallen, it rests again. All answers count as given out, also those that no writer took.
    pub rests : new.fallen ≡ false
        → RestsInLife honest moment left seen config entry opened_at begun (events ++ front)
        (given ++ replies old.told judged) new

  -- A run of the edge over a gateway that rests in its life, with what the run promises of its disk (`Fares`).
  abbrev pub EdgeRunsAreLives : Type 0
  EdgeRunsAreLives = (config : Config) (entry : D) (opened_at : ℕ) (begun old new : Kept D)
      (events : List Event) (given : List (ℕ × Answer)) (read : List Event) (sent : List ℕ)
      → RestsInLife honest moment left seen config entry opened_at begun events given old
      → Fares honest moment left old new read sent
      → EdgeRuns config entry opened_at begun old new events given read sent

  -- The gateway's life had come to `events` and `given`, and the edge took it from `old` by `now` to `later`. When it was
  -- at `now`, the first of the events so far were taken. These bytes were sent by then, or with the turn that began
  -- then. When it was at `later`, the first of those were taken that were read by then.
  pub record EdgeStops (config : Config) (entry : D) (opened_at : ℕ) (begun old now later : Kept D)
      (events : List Event) (given : List (ℕ × Answer)) (so_far read : List Event)
      (sent : List ℕ) : Type 0 where
    -- A stop by then, or just then, is as one of a run that ends there: it knows of no event that was read later.
    pub until : EdgeRuns config entry opened_at begun old now events given so_far sent
    pub front : List Event
    pub back : List Event
    pub split : read ≡ front ++ back
    pub judged : List Judged
    pub are_judged : AreJudged old.told.config front judged
    -- just these bring the gateway to the later one
    pub reached : Reached old.told later.told judged
    -- what was sent is a beginning of their answers' frames
    pub unsent : List ℕ
    pub begins : sent ++ unsent ≡ frames (replies old.told judged)
    -- A stop since then, and before it was at the later one, is the end of a life, which knows of no event that was read
    -- later either. Each answer counts as given out whose frame lies whole in what was sent.
    pub since : (n : ℕ) → n ≤ length front
        → length (frames (take n (replies old.told judged))) ≤ length sent
        → IsLived honest moment left seen config entry opened_at begun (events ++ front)
        (given ++ take n (replies old.told judged)) now.disk later.disk

  -- A stop in the midst of a run of the edge, over a gateway that rests in its life, with what the run promises of each
  -- of its turns (`AtEachTurn`): since a turn began, and before the next one did.
  abbrev pub EdgeStopsAreLives : Type 0
  EdgeStopsAreLives = (config : Config) (entry : D) (opened_at : ℕ) (begun old now later : Kept D)
      (events : List Event) (given : List (ℕ × Answer)) (so_far read : List Event) (sent : List ℕ)
      → RestsInLife honest moment left seen config entry opened_at begun events given old
      → ComesBy honest moment left old now later so_far read sent
      → EdgeStops config entry opened_at begun old now later events given so_far read sent
