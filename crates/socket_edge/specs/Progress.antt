-- What has been answered.
use Rattle.std.specs.Prelude.{◌≡◌, ℕ, ◌+◌, List, ◌++◌, length, Option}
use Rattle.std.specs.Io.KnownBytes.{Appends}
use Rattle.packet.specs.Config.{Config}
use Rattle.machine.specs.declared.event.Event.{Event}
use Rattle.machine.specs.declared.event.Answer.{Answer}
use Rattle.machine.specs.Judged.{Judged, AreJudged}
use Rattle.machine.specs.Machine.{after, answers, numbered}
use Rattle.frames.specs.Answers.{frames}
use Rattle.gateway.specs.Told.{Told, TookAll, TookFirst}

-- A beginning of the bytes was written, and no more of them.
pub record AppendsFront (old new : Option (List ℕ)) (bytes : List ℕ) : Type 0 where
  pub written : List ℕ
  pub lost : List ℕ
  pub splits : written ++ lost ≡ bytes
  pub appends : Appends old new written

-- the numbered answers to events that are judged so
unfoldable pub replies : Told → List Judged → List (ℕ × Answer)
replies old judged = numbered old.last (answers old.config old.state judged)

-- the numbered answers that stand out once these events are taken
unfoldable pub answers_due : Told → List Judged → List (ℕ × Answer)
answers_due old judged = old.held ++ replies old judged

-- The first of the events are judged so.
pub record AreFirst (config : Config) (events : List Event) (judged : List Judged) : Type 0 where
  pub front : List Event
  pub back : List Event
  pub split : events ≡ front ++ back
  pub are_judged : AreJudged config front judged

-- The events were taken, as they are judged, and of the answers that stand out these were handed out; their frames went
-- behind `before` (none in the definitions; lemmas go on from some).
pub record Progress (old new : Told) (events : List Event) (before out : List ℕ) : Type 0 where
  pub handed : List (ℕ × Answer)
  pub took : TookAll old new events handed
  pub sent : out ≡ before ++ frames handed

-- The gateway stands where events that are judged so bring it.
pub record Reached (old new : Told) (judged : List Judged) : Type 0 where
  pub config : new.config ≡ old.config
  pub state : new.state ≡ after old.config old.state judged
  pub last : new.last ≡ old.last + length judged

-- The first of the events were taken, as they are judged. Of the answers that stand out, the frames of the first were
-- sent, and the others are held.
pub record AnsweredFirst (old new : Told) (events : List Event) (sent : List ℕ) : Type 0 where
  pub handed : List (ℕ × Answer)
  pub took : TookFirst old new events handed
  pub sent_are : sent ≡ frames handed

-- The first of the events were taken, as they are judged. The bytes are a beginning of the frames of the answers that
-- stand out; the last of these are held.
pub record BeginsFrames (old new : Told) (events : List Event) (out : List ℕ) : Type 0 where
  pub judged : List Judged
  pub are_first : AreFirst old.config events judged
  pub reached : Reached old new judged
  pub lost : List ℕ
  pub begins : out ++ (lost ++ frames new.held) ≡ frames (answers_due old judged)
