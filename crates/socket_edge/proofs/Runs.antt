-- A run: one read after the other.
use Rattle.std.proofs.Common.{◌≡◌, ℕ, ◌+◌, ◌<◌, ◌≤◌, List, [], ◌++◌, true, false, length, refl, sym, ap, ◌∙◌, arith, append_assoc, subst, length-append, flat_map, append-nil}
use Rattle.std.proofs.lemmas.List.Concat.{flat_map-append}
use Rattle.packet.specs.Config.{Config}
use Rattle.disk_model.specs.Disk.{Files, LeavesOnly}
use Rattle.disk_model.proofs.Moments.{narrows}
use Rattle.durable.specs.Recovery.{IsConfigured}
use Rattle.machine.specs.declared.event.Event.{Event}
use Rattle.gateway.specs.declared.fault.GatewayFault.TheVariants as fault
use Rattle.gateway.specs.Kept.{Kept, IsAtRest, IsSafe}
use Rattle.gateway.specs.Running.{Stands}
use Rattle.gateway.specs.Told.{Told}
use Rattle.gateway.proofs.Runs.{safe-less, true-false}
use Rattle.socket_edge.specs.declared.fault.EdgeFault.{EdgeFault}
use Rattle.socket_edge.specs.declared.fault.EdgeFault.TheVariants.{Truncated, Input, Output, Gateway}
use Rattle.frames.specs.Requests.{Cut, next}
use Rattle.frames.specs.Framing.{EventsAndRest, Remainder, Rest, whole_frames}
use Rattle.frames.specs.Answers.{frame}
use Rattle.socket_edge.specs.Progress.{answers_due, AreFirst, Progress, AnsweredFirst, BeginsFrames}
use Rattle.socket_edge.specs.Running.{Answered, EndsBy, AllAnswered, Fares, events_in}
use Rattle.socket_edge.specs.Serving.{Served}
use Rattle.frames.proofs.Frames.{next_nil}
use Rattle.socket_edge.proofs.Reading.{Reads-nil, Reads-more, Reads-then}
use Rattle.socket_edge.proofs.Answers.{AnsweredFirst-then, Progress-nil, Progress-then, Reached-then, answers_due-append, answers_due-is, first-then, last_of, reached-told}
use Rattle.socket_edge.proofs.Lasting.{any-then, configured-then, fares-then}
use Rattle.socket_edge.proofs.Closing.{events_cut, framed_then_cut, Answered-of}

-- behind what was sent before
Progress-shift : (old new : Told) (events : List Event) (before out : List ℕ) → Progress old new events [] out → Progress old new events before (before ++ out)
Progress-shift old new events before out p = record { handed = p.handed; took = p.took; sent = ap (λ (x : List ℕ). before ++ x) p.sent }

pub Served-first : (old : Told) → Served old old [] [] [] 0
Served-first old = record { events = []; reads = Reads-nil []; cut = next_nil; count_is = refl; progress = Progress-nil old []; none = λ h. h }

pub Served-then : (a b c : Told) (given unanswered got rest w sent : List ℕ) (n m : ℕ) → Served a b given unanswered w n → Served b c (unanswered ++ got) rest sent m → Served a c (given ++ got) rest (w ++ sent) (n + m)
Served-then a b c given unanswered got rest w sent n m p q = record {
  events = p.events ++ q.events;
  reads = Reads-then (given ++ got) (unanswered ++ got) rest p.events q.events (Reads-more given unanswered p.events got p.reads) q.reads;
  cut = q.cut;
  count_is = omega (arith, p.count_is, q.count_is, length-append p.events q.events);
  progress = Progress-then a b c p.events q.events [] w (w ++ sent) p.progress (Progress-shift b c q.events w sent q.progress);
  none = λ h. q.none (p.none h);
}

answered_then : (a b c : Told) (given unanswered got w sent : List ℕ) (n : ℕ) → Served a b given unanswered w n → Answered b c (unanswered ++ got) sent → Answered a c (given ++ got) (w ++ sent)
answered_then a b c given unanswered got w sent n p q =
    Answered-of a c (given ++ got) (w ++ sent)
    (subst (λ (f : EventsAndRest). Progress a c f.events [] (w ++ sent)) (sym (p.reads.goes got))
    (Progress-then a b c p.events (whole_frames (unanswered ++ got)).events [] w (w ++ sent) p.progress (Progress-shift b c (whole_frames (unanswered ++ got)).events w sent q.progress)))
    (λ h. q.none (p.none h))

stop_then : (a b : Told) (given unanswered got w : List ℕ) (n : ℕ) (s : Remainder) → Served a b given unanswered w n → (whole_frames (unanswered ++ got)).remainder ≡ s → (whole_frames (given ++ got)).remainder ≡ s
stop_then a b given unanswered got w n s p e = ap (λ (f : EventsAndRest). f.remainder) (p.reads.goes got) ∙ e

begins_then : (a b c : Told) (es fs : List Event) (w sent : List ℕ) → Progress a b es [] w → BeginsFrames b c fs sent → BeginsFrames a c (es ++ fs) (w ++ sent)
begins_then a b c es fs w sent p q =
    let behind_it : List ℕ = q.lost ++ flat_map frame c.held in
    let d : answers_due a (p.took.judged ++ q.judged) ≡ p.handed ++ answers_due b q.judged = sym (answers_due-append a b p.took.judged q.judged p.handed p.took.config p.took.state (last_of a b es p.handed p.took) (answers_due-is a b es p.handed p.took)) in
    record {
      judged = p.took.judged ++ q.judged;
      are_first = first-then a.config es fs p.took.judged q.judged p.took.are_judged (subst (λ (x : Config). AreFirst x fs q.judged) p.took.config q.are_first);
      reached = Reached-then a b c p.took.judged q.judged (reached-told a b es p.handed p.took) q.reached;
      lost = q.lost;
      begins = append_assoc w sent behind_it ∙ ap (λ (x : List ℕ). w ++ x) q.begins ∙ ap (λ (x : List ℕ). x ++ flat_map frame (answers_due b q.judged)) p.sent
          ∙ sym (flat_map-append frame p.handed (answers_due b q.judged)) ∙ ap (flat_map frame) (sym d);
    }

pub EndsBy-then : (e : EdgeFault) (a b c : Told) (given unanswered got w sent : List ℕ) (n : ℕ) (at_end : Type 0) → Served a b given unanswered w n → EndsBy e b c (unanswered ++ got) sent at_end → EndsBy e a c (given ++ got) (w ++ sent) at_end
EndsBy-then Truncated a b c given unanswered got w sent n at_end p q = (q.0, stop_then a b given unanswered got w n _ p q.1, q.2, answered_then a b c given unanswered got w sent n p q.3, q.4)
EndsBy-then Input a b c given unanswered got w sent n at_end p q = answered_then a b c given unanswered got w sent n p q
EndsBy-then Output a b c given unanswered got w sent n at_end p q =
    let f : (whole_frames (given ++ got)).events ≡ p.events ++ (whole_frames (unanswered ++ got)).events = ap (λ (x : EventsAndRest). x.events) (p.reads.goes got) in
    subst (λ (es : List Event). BeginsFrames a c es (w ++ sent)) (sym f) (begins_then a b c p.events (whole_frames (unanswered ++ got)).events w sent p.progress q)
EndsBy-then (Gateway fault) a b c given unanswered got w sent n at_end p q =
    subst (λ (f : EventsAndRest). AnsweredFirst a c f.events (w ++ sent)) (sym (p.reads.goes got))
    (AnsweredFirst-then a b c p.events (whole_frames (unanswered ++ got)).events w sent p.progress q)
EndsBy-then e a b c given unanswered got w sent n at_end p q = (stop_then a b given unanswered got w n _ p q.0, answered_then a b c given unanswered got w sent n p q.1)

pub AllAnswered-then : (a b c : Told) (given unanswered got w sent : List ℕ) (n m : ℕ) (at_end : Type 0) → Served a b given unanswered w n → AllAnswered m b c (unanswered ++ got) sent at_end → AllAnswered (n + m) a c (given ++ got) (w ++ sent) at_end
AllAnswered-then a b c given unanswered got w sent n m at_end p q = record {
  answered = answered_then a b c given unanswered got w sent n p q.answered;
  whole = stop_then a b given unanswered got w n _ p q.whole;
  count_is = omega (arith, p.count_is, q.count_is, length-append p.events (whole_frames (unanswered ++ got)).events, ap (λ (f : EventsAndRest). length f.events) (p.reads.goes got));
  ended = q.ended;
}

-- the loop gave up
pub Served-answered : (a b : Told) (given unanswered w : List ℕ) (n : ℕ) → Served a b given unanswered w n → Answered a b given w
Served-answered a b given unanswered w n p =
    Answered-of a b given w (subst (λ (f : EventsAndRest). Progress a b f.events [] w) (sym (framed_then_cut given unanswered p.events p.reads p.cut)) p.progress) p.none

-- no end of the input was seen
pub EndsBy-seen : (e : EdgeFault) (b c : Told) (bytes sent : List ℕ) (at_end : Type 0) → EndsBy e b c bytes sent ⊥ → EndsBy e b c bytes sent at_end
EndsBy-seen Truncated b c bytes sent at_end q = absurd q.4
EndsBy-seen e b c bytes sent at_end q = q

-- nothing more came
pub nothing : (b : Told) (unanswered : List ℕ) → next unanswered ≡ Cut
    → Answered b b (unanswered ++ []) [] × ((whole_frames (unanswered ++ [])).remainder ≡ Rest unanswered) × (0 ≡ length (whole_frames (unanswered ++ [])).events)
nothing b unanswered cut =
    let f : whole_frames (unanswered ++ []) ≡ record { events = []; remainder = Rest unanswered } = ap whole_frames (append-nil unanswered) ∙ framed_then_cut unanswered unanswered [] (Reads-nil unanswered) cut in (
      Answered-of b b (unanswered ++ []) [] (subst (λ (x : EventsAndRest). Progress b b x.events [] []) (sym f) (Progress-nil b [])) (λ h. h),
      ap (λ (x : EventsAndRest). x.remainder) f,
      sym (ap (λ (x : EventsAndRest). length x.events) f),
    )

-- ---- how far a run has come

module _ {D : Type 0} (honest : D → Type 0) (moment : D → ℕ) (left : D → ℕ → Files → Type 0) (failed : D → ℕ)
    (earlier : (disk : D) (s t : ℕ) (files : Files) → s ≤ t → left disk t files → left disk s files) where
  pub record Going (old now : Kept D) (given unanswered written : List ℕ) (count : ℕ) : Type 0 where
    pub served : Served old.told now.told given unanswered written count
    pub was_honest : honest now.disk → honest old.disk
    pub stays_honest : honest old.disk → honest now.disk
    pub configured : honest old.disk → LeavesOnly moment left old.disk now.disk (IsConfigured old.told.config)
    pub any_moment : IsAtRest honest old → LeavesOnly moment left old.disk now.disk (IsSafe old.told.config old.told.state served.events 0)
    pub stood : old.fallen ≡ false
    pub stands : now.fallen ≡ false
    pub no_failure : failed now.disk ≡ failed old.disk
    pub compacted : 0 < count → now.grown ≤ 1048576

  pub going-first : (old : Kept D) → Stands honest moment left failed old old [] [] → Going old old [] [] [] 0
  unfolding Served-first
  going-first old s = record {
    served = Served-first old.told;
    was_honest = s.ran.was_honest;
    stays_honest = s.ran.stays_honest s.stands;
    configured = s.ran.configured;
    any_moment = s.ran.any_moment;
    stood = s.stands;
    stands = s.stands;
    no_failure = refl;
    compacted = λ some. absurd (omega (arith, some));
  }

  -- one more read
  pub going-next : (a b c : Kept D) (given unanswered got rest w sent : List ℕ) (n m : ℕ) → Going a b given unanswered w n → Served b.told c.told (unanswered ++ got) rest sent m
      → Fares honest moment left b c (events_in (unanswered ++ got)) sent → c.fallen ≡ false → failed c.disk ≡ failed b.disk → c.grown ≤ 1048576
      → Going a c (given ++ got) rest (w ++ sent) (n + m)
  unfolding Served-then
  going-next a b c given unanswered got rest w sent n m g q f stands no_failure compacted =
      let p = g.served in
      record {
        served = Served-then a.told b.told c.told given unanswered got rest w sent n m p q;
        was_honest = λ h. g.was_honest (f.was_honest h);
        stays_honest = λ h. f.stays_honest stands (g.stays_honest h);
        configured = λ h. configured-then honest moment left failed earlier a b c p.progress.took.config (g.configured h) (f.configured (g.stays_honest h) g.stands);
        any_moment = λ ready.
            let o = f.outlives (record { stands = g.stands; is_honest = g.stays_honest ready.is_honest; none = p.none ready.none }) in
            let all : q.events ≡ o.front ++ o.back = sym (events_cut (unanswered ++ got) rest q.events q.reads q.cut) ∙ o.split in
            any-then honest moment left earlier a b c p.events q.events w p.progress (g.any_moment ready)
            (narrows moment left b.disk c.disk (λ before files. IsSafe b.told.config b.told.state o.front 0 files) (λ before files. IsSafe b.told.config b.told.state q.events 0 files) o.any_moment
            (λ before files was is. subst (λ (es : List Event). IsSafe b.told.config b.told.state es 0 files) (sym all) (safe-less b.told.config b.told.state o.front o.back 0 0 files (omega arith) is)));
        stood = g.stood;
        stands = stands;
        no_failure = no_failure ∙ g.no_failure;
        compacted = λ _. compacted;
      }

  -- and how it ends
  pub going-ends : (a b c : Kept D) (given unanswered got w sent : List ℕ) (n : ℕ) → Going a b given unanswered w n → Fares honest moment left b c (events_in (unanswered ++ got)) sent
      → Fares honest moment left a c (events_in (given ++ got)) (w ++ sent)
  going-ends a b c given unanswered got w sent n g f =
      let p = g.served in
      subst (λ (x : EventsAndRest). Fares honest moment left a c x.events (w ++ sent)) (sym (p.reads.goes got))
      (fares-then honest moment left failed earlier a b c p.events (events_in (unanswered ++ got)) w sent p.progress p.none g.was_honest g.stays_honest g.configured g.any_moment g.stands f)

  -- the loop gave up
  pub going-stops : (a b : Kept D) (given unanswered w : List ℕ) (n : ℕ) → Going a b given unanswered w n → ((events : List Event) → Fares honest moment left b b events []) → Fares honest moment left a b (events_in given) w
  going-stops a b given unanswered w n g none =
      subst (λ (x : List ℕ). Fares honest moment left a b (events_in x) w) (append-nil given)
      (subst (λ (x : List ℕ). Fares honest moment left a b (events_in (given ++ [])) x) (append-nil w) (going-ends a b b given unanswered [] w [] n g (none (events_in (unanswered ++ [])))))

  -- it had fallen before: nothing is done
  pub fallen-fares : (start : Kept D) (events : List Event) → start.fallen ≡ true → Fares honest moment left start start events []
  fallen-fares start events down =
      let no : start.fallen ≡ false → ⊥ = true-false start.fallen down in
      record { was_honest = λ h. h; stays_honest = λ up h. h; configured = λ h up. absurd (no up); outlives = λ ready. absurd (no ready.stands); none = λ held up. held }
