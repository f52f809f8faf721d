-- What the loop over the frames keeps.
use Rattle.std.proofs.Common.{◌≡◌, ℕ, List, [], ◌∷◌, ◌++◌, sym, append_assoc, subst, append-nil}
use Rattle.disk_model.specs.Disk.{Files}
use Rattle.machine.specs.declared.event.Answer.{Answer}
use Rattle.machine.specs.declared.event.Event.{Event}
use Rattle.gateway.specs.declared.fault.GatewayFault.{GatewayFault}
use Rattle.gateway.specs.Kept.{Kept}
use Rattle.gateway.specs.Running.{BreaksOff, CarriesOn, Stands}
use Rattle.gateway.proofs.Runs.{breaks-then, carries-none, carries-then}
use Rattle.socket_edge.specs.declared.serving.Halt.{Halt}
use Rattle.socket_edge.specs.declared.serving.Halt.TheVariants as halt
use Rattle.frames.specs.Requests.{Whole, next}
use Rattle.socket_edge.specs.Serving.{Reads, Offered}
use Rattle.socket_edge.proofs.Reading.{Reads-nil, Reads-whole}

module _ {D : Type 0} (honest : D → Type 0) (moment : D → ℕ) (left : D → ℕ → Files → Type 0) (failed : D → ℕ) where
  -- The first frames of the bytes were taken, these answers were handed out, and these bytes are left.
  pub record SoFar (old now : Kept D) (bytes rest : List ℕ) (handed : List (ℕ × Answer)) : Type 0 where
    pub events : List Event
    pub reads : Reads bytes events rest
    pub carries : (before : List (ℕ × Answer)) → CarriesOn honest moment left failed old now events before (before ++ handed)

  pub SoFar-first : (old : Kept D) (bytes : List ℕ) → SoFar old old bytes bytes []
  SoFar-first old bytes = record {
    events = [];
    reads = Reads-nil bytes;
    carries = λ before.
        carries-none honest moment left failed old old before (before ++ [])
        (λ start events s. subst (λ (out : List (ℕ × Answer)). Stands honest moment left failed start old events out) (sym (append-nil before)) s);
  }

  -- one frame more
  pub SoFar-next : (old now new : Kept D) (bytes rest later : List ℕ) (handed more : List (ℕ × Answer)) (event : Event) → SoFar old now bytes rest handed → next rest ≡ Whole event later
      → ((before : List (ℕ × Answer)) → CarriesOn honest moment left failed now new (event ∷ []) before (before ++ more)) → SoFar old new bytes later (handed ++ more)
  SoFar-next old now new bytes rest later handed more event s whole on = record {
    events = s.events ++ event ∷ [];
    reads = Reads-whole bytes rest s.events event later s.reads whole;
    carries = λ before.
        subst (λ (out : List (ℕ × Answer)). CarriesOn honest moment left failed old new (s.events ++ event ∷ []) before out) (append_assoc before handed more)
        (carries-then honest moment left failed old now new s.events (event ∷ []) before (before ++ handed) ((before ++ handed) ++ more) (s.carries before) (on (before ++ handed)));
  }

  -- ---- the loop's end

  module _ (old now : Kept D) (bytes rest : List ℕ) (handed : List (ℕ × Answer)) (s : SoFar old now bytes rest handed) where
    pub SoFar-refused : (new : Kept D) (event : Event) (later last : List ℕ) (more : List (ℕ × Answer)) (fault : GatewayFault) → next rest ≡ Whole event later
        → ((before : List (ℕ × Answer)) → BreaksOff honest moment left failed now new (event ∷ []) before (before ++ more) fault)
        → (before : List (ℕ × Answer)) → Offered honest moment left failed (halt.Refused fault) bytes last old new before (before ++ (handed ++ more))
    SoFar-refused new event later last more fault whole off before = (
      s.events ++ event ∷ [],
      later,
      Reads-whole bytes rest s.events event later s.reads whole,
      subst (λ (out : List (ℕ × Answer)). BreaksOff honest moment left failed old new (s.events ++ event ∷ []) before out fault) (append_assoc before handed more)
          (breaks-then honest moment left failed old now new s.events (event ∷ []) before (before ++ handed) ((before ++ handed) ++ more) fault (s.carries before) (off (before ++ handed))),
    )

  -- answers that were held are handed out before
  pub Offered-behind : (old now new : Kept D) (s : Halt) (bytes rest : List ℕ) (a b c : List (ℕ × Answer)) → CarriesOn honest moment left failed old now [] a b
      → Offered honest moment left failed s bytes rest now new b c → Offered honest moment left failed s bytes rest old new a c
  Offered-behind old now new (halt.Refused fault) bytes rest a b c first t = (t.0, t.1, t.2, breaks-then honest moment left failed old now new [] t.0 a b c fault first t.3)
  Offered-behind old now new s bytes rest a b c first t = (t.0, t.1, t.2, carries-then honest moment left failed old now new [] t.0 a b c first t.3)
