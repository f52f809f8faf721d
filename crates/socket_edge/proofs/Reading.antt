-- Laws of what a stream reads as so far.
use Rattle.std.proofs.Common.{◌≡◌, ℕ, List, [], ◌∷◌, ◌++◌, refl, sym, ap, ◌∙◌, append_assoc, append-nil}
use Rattle.machine.specs.declared.event.Event.{Event}
use Rattle.frames.specs.Requests.{Whole, next}
use Rattle.frames.specs.Framing.{EventsAndRest, with_first, whole_frames}
use Rattle.frames.proofs.Fronts.{next_more}
use Rattle.frames.proofs.Frames.{framed_whole}
use Rattle.socket_edge.specs.Serving.{Reads}

pub Reads-nil : (given : List ℕ) → Reads given [] given
Reads-nil given = record { goes = λ more. refl }

-- more bytes come
pub Reads-more : (given unanswered : List ℕ) (events : List Event) (got : List ℕ) → Reads given events unanswered → Reads (given ++ got) events (unanswered ++ got)
Reads-more given unanswered events got r = record { goes = λ more. rw (append_assoc given got more, append_assoc unanswered got more) (r.goes (got ++ more)) }

with_first_twice : (es fs : List Event) (f : EventsAndRest) → with_first es (with_first fs f) ≡ with_first (es ++ fs) f
with_first_twice es fs f = ap (λ (xs : List Event). record { events = xs; remainder = f.remainder }) (sym (append_assoc es fs f.events))

-- the next frame is taken
pub Reads-whole : (given unanswered : List ℕ) (events : List Event) (event : Event) (rest : List ℕ) → Reads given events unanswered → next unanswered ≡ Whole event rest → Reads given (events ++ event ∷ []) rest
Reads-whole given unanswered events event rest r e = record {
  goes = λ more.
      r.goes more ∙ ap (with_first events) (framed_whole (unanswered ++ more) event (rest ++ more) (next_more unanswered more event rest e)) ∙ with_first_twice events (event ∷ []) (whole_frames (rest ++ more));
}

-- one after the other
pub Reads-then : (given middle unanswered : List ℕ) (es fs : List Event) → Reads given es middle → Reads middle fs unanswered → Reads given (es ++ fs) unanswered
Reads-then given middle unanswered es fs r s = record { goes = λ more. r.goes more ∙ ap (with_first es) (s.goes more) ∙ with_first_twice es fs (whole_frames (unanswered ++ more)) }

-- what the stream so far is
pub Reads-is : (given : List ℕ) (events : List Event) (unanswered : List ℕ) → Reads given events unanswered → whole_frames given ≡ with_first events (whole_frames unanswered)
Reads-is given events unanswered r = let h = r.goes [] in
    ap whole_frames (sym (append-nil given)) ∙ h ∙ ap (λ (p : List ℕ). with_first events (whole_frames p)) (append-nil unanswered)
