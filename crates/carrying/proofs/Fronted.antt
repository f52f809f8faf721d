-- A front of bytes reads as a front of the events.
use Rattle.std.proofs.Common.{◌≡◌, ℕ, suc, zero, ◌≤◌, List, [], ◌∷◌, ◌++◌, length, refl, sym, ap, ◌∙◌, arith, append_assoc}
use Rattle.disk_model.specs.Disk.{Files}
use Rattle.machine.specs.declared.event.Event.{Event}
use Rattle.frames.specs.Framing.{EventsAndRest, whole_frames}
use Rattle.frames.specs.Requests.{Next, Whole, Cut, Bad, next}
use Rattle.frames.proofs.Frames.{framed_whole, framed_cut, framed_bad}
use Rattle.frames.proofs.Fronts.{next_more, next_shorter}
use Rattle.gateway.specs.Kept.{Kept}
use Rattle.socket_edge.specs.Running.{Fares, events_in}

abbrev pub Front : List ℕ → List ℕ → Type 0
Front a b = (more : List Event) × (events_in (a ++ b) ≡ events_in a ++ more)

no_events : (f : EventsAndRest) (a b : List ℕ) → whole_frames a ≡ f → f.events ≡ [] → Front a b
no_events f a b e none = (events_in (a ++ b), ap (λ (xs : List Event). xs ++ events_in (a ++ b)) (sym (ap (λ (x : EventsAndRest). x.events) e ∙ none)))

front_by : (n : ℕ) (a b : List ℕ) (x : Next) → length a ≤ n → next a ≡ x → Front a b
front_by n a b Cut few e = no_events _ a b (framed_cut a e) refl
front_by n a b (Bad fault) few e = no_events _ a b (framed_bad a fault e) refl
front_by zero a b (Whole event rest) few e = absurd (omega (arith, next_shorter a event rest e, few))
front_by (suc n) a b (Whole event rest) few e =
    let behind = front_by n rest b (next rest) (omega (arith, next_shorter a event rest e, few)) refl in
    let one : events_in a ≡ event ∷ events_in rest = ap (λ (x : EventsAndRest). x.events) (framed_whole a event rest e) in
    let all : events_in (a ++ b) ≡ event ∷ events_in (rest ++ b) = ap (λ (x : EventsAndRest). x.events) (framed_whole (a ++ b) event (rest ++ b) (next_more a b event rest e)) in
    (behind.0, all ∙ ap (λ (xs : List Event). event ∷ xs) behind.1 ∙ ap (λ (xs : List Event). xs ++ behind.0) (sym one))

pub front : (a b : List ℕ) → Front a b
front a b = front_by (length a) a b (next a) (omega arith) refl

module _ {D : Type 0} (honest : D → Type 0) (moment : D → ℕ) (left : D → ℕ → Files → Type 0) (old new : Kept D) where
  -- of more events the same is so
  pub fares-more : (es more : List Event) (sent : List ℕ) → Fares honest moment left old new es sent → Fares honest moment left old new (es ++ more) sent
  fares-more es more sent f = record {
    was_honest = f.was_honest;
    stays_honest = f.stays_honest;
    configured = f.configured;
    none = f.none;
    outlives = λ ready.
        let o = f.outlives ready in
        record {
          front = o.front;
          back = o.back ++ more;
          split = ap (λ (xs : List Event). xs ++ more) o.split ∙ append_assoc o.front o.back more;
          judged = o.judged;
          are_judged = o.are_judged;
          reached = o.reached;
          unsent = o.unsent;
          begins = o.begins;
          any_moment = o.any_moment;
          at_exit = o.at_exit;
        };
  }
