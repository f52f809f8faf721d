-- Laws of what has been answered.
use Rattle.std.proofs.Common.{◌≡◌, ℕ, ◌+◌, List, [], ◌∷◌, ◌++◌, length, refl, sym, ap, ◌∙◌, arith, append_assoc, length-append, subst, flat_map, append-nil}
use Rattle.std.proofs.lemmas.List.Concat.{flat_map-append}
use Rattle.packet.specs.Config.{Config}
use Rattle.machine.specs.declared.event.Event.{Event}
use Rattle.machine.specs.declared.event.Answer.{Answer}
use Rattle.machine.specs.Judged.{Judged, AreJudged}
use Rattle.machine.specs.Laws.{EventsAreJudgedOnce}
use Rattle.machine.specs.Machine.{after, answers}
use Rattle.gateway.specs.Told.{Told, TookAll}
use Rattle.machine.proofs.Judging.{AreJudged-append, AreJudged-length}
use Rattle.gateway.proofs.Taking.{after-append, answers-append, length-answers, numbered-append, took_none}
use Rattle.frames.specs.Answers.{frame}
use Rattle.socket_edge.specs.Progress.{replies, answers_due, AreFirst, Reached, Progress, AnsweredFirst, BeginsFrames}

-- the answers to the first events, and then those to the others
pub replies-append : (old middle : Told) (es fs : List Judged) → middle.config ≡ old.config → middle.state ≡ after old.config old.state es → middle.last ≡ old.last + length es
    → replies old (es ++ fs) ≡ replies old es ++ replies middle fs
unfolding replies
replies-append old middle es fs c s l =
    let t : answers old.config (after old.config old.state es) fs ≡ answers middle.config middle.state fs = rw (s, c) refl in
    let a : answers old.config old.state (es ++ fs) ≡ answers old.config old.state es ++ answers middle.config middle.state fs =
    answers-append old.config old.state es fs ∙ ap (λ (xs : List Answer). answers old.config old.state es ++ xs) t in
    let n : old.last + length (answers old.config old.state es) ≡ middle.last = omega (arith, length-answers old.config old.state es, l) in
    rw (a, numbered-append old.last (answers old.config old.state es) (answers middle.config middle.state fs), n) refl

pub answers_due-append : (old middle : Told) (es fs : List Judged) (handed : List (ℕ × Answer)) → middle.config ≡ old.config → middle.state ≡ after old.config old.state es → middle.last ≡ old.last + length es
    → handed ++ middle.held ≡ answers_due old es → handed ++ answers_due middle fs ≡ answers_due old (es ++ fs)
unfolding answers_due
answers_due-append old middle es fs handed c s l o =
    sym (append_assoc handed middle.held (replies middle fs))
    ∙ ap (λ (xs : List (ℕ × Answer)). xs ++ replies middle fs) o
    ∙ append_assoc old.held (replies old es) (replies middle fs)
    ∙ ap (λ (xs : List (ℕ × Answer)). old.held ++ xs) (sym (replies-append old middle es fs c s l))

pub answers_due-is : (old new : Told) (events : List Event) (out : List (ℕ × Answer)) (t : TookAll old new events out) → out ++ new.held ≡ answers_due old t.judged
unfolding answers_due replies
answers_due-is old new events out t = t.order

pub frames-append : (before : List ℕ) (xs ys : List (ℕ × Answer)) → (before ++ flat_map frame xs) ++ flat_map frame ys ≡ before ++ flat_map frame (xs ++ ys)
frames-append before xs ys = append_assoc before (flat_map frame xs) (flat_map frame ys) ∙ ap (λ (zs : List ℕ). before ++ zs) (sym (flat_map-append frame xs ys))

-- all events, and the first of others
pub first-then : (config : Config) (es fs : List Event) (js ks : List Judged) → AreJudged config es js → AreFirst config fs ks → AreFirst config (es ++ fs) (js ++ ks)
first-then config es fs js ks are first = record {
  front = es ++ first.front;
  back = first.back;
  split = ap (λ (xs : List Event). es ++ xs) first.split ∙ sym (append_assoc es first.front first.back);
  are_judged = AreJudged-append config es first.front js ks are first.are_judged;
}

-- the last number, said of what the events are judged
pub last_of : (old new : Told) (es : List Event) (out : List (ℕ × Answer)) (t : TookAll old new es out) → new.last ≡ old.last + length t.judged
last_of old new es out t = omega (arith, t.last, AreJudged-length old.config es t.judged t.are_judged)

-- one after the other
took-then : (old middle new : Told) (es fs : List Event) (xs ys : List (ℕ × Answer)) → TookAll old middle es xs → TookAll middle new fs ys → TookAll old new (es ++ fs) (xs ++ ys)
unfolding answers_due replies
took-then old middle new es fs xs ys p q = record {
  judged = p.judged ++ q.judged;
  are_judged = AreJudged-append old.config es fs p.judged q.judged p.are_judged (subst (λ (x : Config). AreJudged x fs q.judged) p.config q.are_judged);
  config = q.config ∙ p.config;
  state = q.state ∙ rw (p.state, p.config) refl ∙ sym (after-append old.config old.state p.judged q.judged);
  last = omega (arith, q.last, p.last, length-append es fs);
  order = append_assoc xs ys new.held ∙ ap (λ (zs : List (ℕ × Answer)). xs ++ zs) q.order
      ∙ answers_due-append old middle p.judged q.judged xs p.config p.state (last_of old middle es xs p) p.order;
}

pub Progress-nil : (old : Told) (before : List ℕ) → Progress old old [] before before
Progress-nil old before = record { handed = []; took = took_none old; sent = sym (append-nil before) }

-- one after the other
pub Progress-then : (old middle new : Told) (es fs : List Event) (a b c : List ℕ) → Progress old middle es a b → Progress middle new fs b c → Progress old new (es ++ fs) a c
Progress-then old middle new es fs a b c p q = record {
  handed = p.handed ++ q.handed;
  took = took-then old middle new es fs p.handed q.handed p.took q.took;
  sent = q.sent ∙ ap (λ (zs : List ℕ). zs ++ flat_map frame q.handed) p.sent ∙ frames-append a p.handed q.handed;
}

-- one after the other
pub Reached-then : (old middle new : Told) (xs ys : List Judged) → Reached old middle xs → Reached middle new ys → Reached old new (xs ++ ys)
Reached-then old middle new xs ys p q = record {
  config = q.config ∙ p.config;
  state = q.state ∙ rw (p.state, p.config) refl ∙ sym (after-append old.config old.state xs ys);
  last = omega (arith, q.last, p.last, length-append xs ys);
}

-- the answers that were handed out are sent
pub Progress-told : (old new : Told) (events : List Event) (out : List (ℕ × Answer)) → TookAll old new events out → Progress old new events [] (flat_map frame out)
Progress-told old new events out t = record { handed = out; took = t; sent = refl }

pub reached-told : (old new : Told) (events : List Event) (out : List (ℕ × Answer)) (t : TookAll old new events out) → Reached old new t.judged
reached-told old new events out t = record { config = t.config; state = t.state; last = last_of old new events out t }

-- the first of the events were taken
pub AnsweredFirst-told : (old new : Told) (events front back : List Event) (out : List (ℕ × Answer)) → events ≡ front ++ back → TookAll old new front out → AnsweredFirst old new events (flat_map frame out)
AnsweredFirst-told old new events front back out split t = record { handed = out; took = record { front = front; back = back; split = split; took = t }; sent_are = refl }

-- and a beginning of the frames was sent
pub BeginsFrames-told : (old new : Told) (events front back : List Event) (out : List (ℕ × Answer)) (sent lost : List ℕ) → events ≡ front ++ back → TookAll old new front out
    → sent ++ lost ≡ flat_map frame out → BeginsFrames old new events sent
BeginsFrames-told old new events front back out sent lost split t begins = record {
  judged = t.judged;
  are_first = record { front = front; back = back; split = split; are_judged = t.are_judged };
  reached = reached-told old new front out t;
  lost = lost;
  begins = sym (append_assoc sent lost (flat_map frame new.held)) ∙ ap (λ (x : List ℕ). x ++ flat_map frame new.held) begins
      ∙ sym (flat_map-append frame out new.held) ∙ ap (flat_map frame) (answers_due-is old new front out t);
}

pub AnsweredFirst-nothing : (old : Told) (events : List Event) → AnsweredFirst old old events []
AnsweredFirst-nothing old events = AnsweredFirst-told old old events [] events [] refl (took_none old)

-- behind events that were all taken
pub AnsweredFirst-then : (old middle new : Told) (es fs : List Event) (w sent : List ℕ) → Progress old middle es [] w → AnsweredFirst middle new fs sent → AnsweredFirst old new (es ++ fs) (w ++ sent)
AnsweredFirst-then old middle new es fs w sent p q = record {
  handed = p.handed ++ q.handed;
  took = record {
    front = es ++ q.took.front;
    back = q.took.back;
    split = ap (λ (xs : List Event). es ++ xs) q.took.split ∙ sym (append_assoc es q.took.front q.took.back);
    took = took-then old middle new es q.took.front p.handed q.handed p.took q.took.took;
  };
  sent_are = ap (λ (x : List ℕ). w ++ x) q.sent_are ∙ ap (λ (x : List ℕ). x ++ flat_map frame q.handed) p.sent ∙ sym (flat_map-append frame p.handed q.handed);
}

-- everything that stands out was handed out
pub all_sent : (old new : Told) (events : List Event) (out : List ℕ) (p : Progress old new events [] out) → (old.held ≡ [] → new.held ≡ []) → old.held ≡ [] → out ≡ flat_map frame (replies old p.took.judged)
unfolding answers_due
all_sent old new events out p none h =
    let e : p.handed ≡ replies old p.took.judged = sym (append-nil p.handed) ∙ ap (λ (xs : List (ℕ × Answer)). p.handed ++ xs) (sym (none h)) ∙ answers_due-is old new events p.handed p.took ∙ ap (λ (xs : List (ℕ × Answer)). xs ++ replies old p.took.judged) h in
    p.sent ∙ ap (flat_map frame) e

-- events are judged once
pub all-once : EventsAreJudgedOnce → (config : Config) (es : List Event) (js ks : List Judged) → AreJudged config es js → AreJudged config es ks → js ≡ ks
all-once once config [] [] [] a b = refl
all-once once config [] (j ∷ js) ks a b = absurd a
all-once once config [] [] (k ∷ ks) a b = absurd b
all-once once config (e ∷ es) [] ks a b = absurd a
all-once once config (e ∷ es) (j ∷ js) [] a b = absurd b
all-once once config (e ∷ es) (j ∷ js) (k ∷ ks) a b =
    ap (λ (x : Judged). x ∷ js) (once config e j k a.0 b.0) ∙ ap (λ (xs : List Judged). k ∷ xs) (all-once once config es js ks a.1 b.1)
