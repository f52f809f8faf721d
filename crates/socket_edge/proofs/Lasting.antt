-- What a crash leaves while events are taken and their answers sent.
use Rattle.std.proofs.Common.{◌≡◌, ℕ, zero, suc, ◌+◌, ◌-◌, ◌<◌, ◌≤◌, List, [], ◌∷◌, ◌++◌, false, length, take, refl, sym, ap, ◌∙◌, subst, arith, append_assoc, length-append, flat_map, append-nil}
use Rattle.std.proofs.lemmas.List.{nil_from_length, take-append-le}
use Rattle.std.proofs.lemmas.List.Concat.{flat_map-append}
use Rattle.std.proofs.Math.Seq.{take-append-add}
use Rattle.packet.specs.Config.{Config}
use Rattle.disk_model.specs.Disk.{Files, LeavesOnly}
use Rattle.disk_model.proofs.Moments.{idle, narrows, only_now, only_then}
use Rattle.durable.specs.Recovery.{IsConfigured, Recovers}
use Rattle.machine.specs.Judged.{Judged, AreJudged}
use Rattle.machine.specs.Laws.{EventsAreJudgedOnce}
use Rattle.machine.specs.Machine.{State, after, answers, numbered}
use Rattle.machine.specs.Noted.{lasting}
use Rattle.machine.specs.declared.event.Answer.{Answer}
use Rattle.machine.specs.declared.event.Event.{Event}
use Rattle.machine.proofs.Judging.{AreJudged-append, AreJudged-length}
use Rattle.gateway.specs.Kept.{Kept, IsAtRest, IsSafe}
use Rattle.gateway.specs.Running.{Ends}
use Rattle.gateway.specs.Told.{Told}
use Rattle.gateway.proofs.Runs.{safe-less}
use Rattle.gateway.proofs.Taking.{after-append, length-answers}
use Rattle.frames.specs.Answers.{frame}
use Rattle.socket_edge.specs.Progress.{replies, answers_due, Progress}
use Rattle.socket_edge.specs.Running.{Fares, Preserves}
use Rattle.socket_edge.proofs.Answers.{Reached-then, all-once, all_sent, answers_due-is, last_of, reached-told, replies-append}

-- a frame has its head at least
frame-some : (p : ℕ × Answer) → 0 < length (frame p)
unfolding frame
frame-some p = omega arith

-- no more answers than these lie whole in bytes that are no longer
not-longer : (xs ys : List (ℕ × Answer)) (n : ℕ) → n ≤ length (xs ++ ys) → length (flat_map frame (take n (xs ++ ys))) ≤ length (flat_map frame xs) → n ≤ length xs
not-longer xs ys zero fits within = omega arith
not-longer [] [] (suc n) fits within = absurd (omega (arith, fits))
not-longer [] (y ∷ ys) (suc n) fits within = absurd (omega (arith, within, frame-some y, length-append (frame y) (flat_map frame (take n ys))))
not-longer (x ∷ xs) ys (suc n) fits within =
    omega (arith, not-longer xs ys n (omega (arith, fits)) (omega (arith, within, length-append (frame x) (flat_map frame (take n (xs ++ ys))), length-append (frame x) (flat_map frame xs))))

-- what lies whole in more bytes, behind these answers
lies-behind : (xs ys : List (ℕ × Answer)) (n m more : ℕ) → m ≡ n - length xs → length (flat_map frame (take n (xs ++ ys))) ≤ length (flat_map frame xs) + more → length (flat_map frame (take m ys)) ≤ more
lies-behind [] ys n m more is within = let same : m ≡ n = omega (arith, is) in rw same (omega (arith, within))
lies-behind (x ∷ xs) ys zero m more is within = let none : m ≡ 0 = omega (arith, is) in rw none (omega arith)
lies-behind (x ∷ xs) ys (suc n) m more is within =
    lies-behind xs ys n m more (omega (arith, is)) (omega (arith, within, length-append (frame x) (flat_map frame (take n (xs ++ ys))), length-append (frame x) (flat_map frame xs)))

-- with fewer events answered
pub safe-fewer : (config : Config) (s : State) (es : List Event) (n m : ℕ) (files : Files) → m ≤ n → IsSafe config s es n files → IsSafe config s es m files
safe-fewer config s es n m files le is =
    subst (λ (xs : List Event). IsSafe config s xs m files) (append-nil es) (safe-less config s es [] n m files le is)

-- a beginning of later events, behind all of the earlier ones
pub safe-behind : (a b : Told) (es fs : List Event) (js : List Judged) (m : ℕ) (files : Files) → AreJudged a.config es js → b.config ≡ a.config → b.state ≡ after a.config a.state js
    → IsSafe b.config b.state fs m files → IsSafe a.config a.state (es ++ fs) (length es + m) files
safe-behind a b es fs js m files are config state is =
    let there : IsSafe a.config (after a.config a.state js) fs m files = subst (λ (s : State). IsSafe a.config s fs m files) state (subst (λ (c : Config). IsSafe c b.state fs m files) config is) in
    record {
      count = length es + there.count;
      answered = omega (arith, there.answered);
      within = omega (arith, there.within, length-append es fs);
      judged = js ++ there.judged;
      are_judged = subst (λ (xs : List Event). AreJudged a.config xs (js ++ there.judged)) (sym (take-append-add es fs there.count))
          (AreJudged-append a.config es (take there.count fs) js there.judged are there.are_judged);
      recovers = subst (λ (s : State). Recovers files (lasting s)) (sym (after-append a.config a.state js there.judged)) there.recovers;
    }

length-numbered : (last : ℕ) (xs : List Answer) → length (numbered last xs) ≡ length xs
length-numbered last [] = refl
length-numbered last (x ∷ xs) = ap suc (length-numbered (last + 1) xs)

pub replies-length : (old : Told) (judged : List Judged) → length (replies old judged) ≡ length judged
unfolding replies
replies-length old judged = length-numbered old.last (answers old.config old.state judged) ∙ length-answers old.config old.state judged

-- what stands out is the answers, where nothing was held
answers_due-replies : (old : Told) (judged : List Judged) → old.held ≡ [] → answers_due old judged ≡ replies old judged
unfolding answers_due
answers_due-replies old judged none = ap (λ (xs : List (ℕ × Answer)). xs ++ replies old judged) none

module _ {D : Type 0} (honest : D → Type 0) (moment : D → ℕ) (left : D → ℕ → Files → Type 0)
    (earlier : (disk : D) (s t : ℕ) (files : Files) → s ≤ t → left disk t files → left disk s files) where
  -- at the end
  pub preserves-end : (a b : Kept D) (events : List Event) (sent : List ℕ) → Fares honest moment left a b events sent → IsAtRest honest a → Preserves honest moment left a b b events sent
  preserves-end a b events sent f ready =
      let o = f.outlives ready in
      record {
        front = o.front;
        back = o.back;
        split = o.split;
        judged = o.judged;
        are_judged = o.are_judged;
        reached = o.reached;
        unsent = o.unsent;
        begins = o.begins;
        since = λ n fits whole. idle moment left b.disk (IsSafe a.told.config a.told.state o.front n) (o.at_exit n fits whole);
        configured = idle moment left b.disk (IsConfigured a.told.config)
            (only_now moment left a.disk b.disk (IsConfigured a.told.config) (earlier b.disk) (f.configured ready.is_honest ready.stands));
      }

  -- since the entry
  pub since-entry : (a b : Kept D) (events : List Event) (sent : List ℕ) → Fares honest moment left a b events sent → IsAtRest honest a → Preserves honest moment left a a b events []
  since-entry a b events sent f ready =
      let o = f.outlives ready in
      let all = replies a.told o.judged in
      let size : length all ≡ length o.front = replies-length a.told o.judged ∙ AreJudged-length a.told.config o.front o.judged o.are_judged in
      record {
        front = o.front;
        back = o.back;
        split = o.split;
        judged = o.judged;
        are_judged = o.are_judged;
        reached = o.reached;
        unsent = flat_map frame all;
        begins = refl;
        since = λ n fits whole.
            let few : n ≤ 0 = not-longer [] all n (omega (arith, fits, size)) whole in
            let none : 0 ≡ n = omega (arith, few) in
            subst (λ (k : ℕ). LeavesOnly moment left a.disk b.disk (IsSafe a.told.config a.told.state o.front k)) none o.any_moment;
        configured = f.configured ready.is_honest ready.stands;
      }

  -- a run that came through all its events, and what came behind it
  module _ (a b c : Kept D) (es fs : List Event) (w : List ℕ) (p : Progress a.told b.told es [] w) where
    -- a beginning of the later events, behind all of the earlier ones
    safe-on : (later : List Event) (n m : ℕ) (files : Files) → n ≤ length es + m → IsSafe b.told.config b.told.state later m files → IsSafe a.told.config a.told.state (es ++ later) n files
    safe-on later n m files le is =
        safe-fewer a.told.config a.told.state (es ++ later) (length es + m) n files le (safe-behind a.told b.told es later p.took.judged m files p.took.are_judged p.took.config p.took.state is)

    -- what a crash leaves since the first entry
    pub any-then : LeavesOnly moment left a.disk b.disk (IsSafe a.told.config a.told.state es 0) → LeavesOnly moment left b.disk c.disk (IsSafe b.told.config b.told.state fs 0)
        → LeavesOnly moment left a.disk c.disk (IsSafe a.told.config a.told.state (es ++ fs) 0)
    any-then first second =
        only_then moment left a.disk b.disk c.disk (IsSafe a.told.config a.told.state es 0) (IsSafe b.told.config b.told.state fs 0) (IsSafe a.told.config a.told.state (es ++ fs) 0)
        (earlier b.disk) first second
        (λ files is. safe-less a.told.config a.told.state es fs 0 0 files (omega arith) is)
        (λ files is. safe-on fs 0 0 files (omega arith) is)

    replies_are : (later : List Judged) → replies a.told (p.took.judged ++ later) ≡ replies a.told p.took.judged ++ replies b.told later
    replies_are later = replies-append a.told b.told p.took.judged later p.took.config p.took.state (last_of a.told b.told es p.handed p.took)

    frames-then : (a.told.held ≡ [] → b.told.held ≡ []) → a.told.held ≡ [] → (later : List Judged) → w ++ flat_map frame (replies b.told later) ≡ flat_map frame (replies a.told (p.took.judged ++ later))
    frames-then none held later =
        ap (λ (x : List ℕ). x ++ flat_map frame (replies b.told later)) (all_sent a.told b.told es w p none held)
        ∙ sym (flat_map-append frame (replies a.told p.took.judged) (replies b.told later)) ∙ ap (flat_map frame) (sym (replies_are later))

    many : length (replies a.told p.took.judged) ≡ length es
    many = replies-length a.told p.took.judged ∙ AreJudged-length a.told.config es p.took.judged p.took.are_judged

    module _ (none : a.told.held ≡ [] → b.told.held ≡ []) (x : Kept D) where
      -- what the second part preserves, behind all of the first
      pub preserves-behind : (short : List ℕ) → a.told.held ≡ [] → Preserves honest moment left b x c fs short → Preserves honest moment left a x c (es ++ fs) (w ++ short)
      preserves-behind short held k =
          let js = p.took.judged in
          record {
            front = es ++ k.front;
            back = k.back;
            split = ap (λ (xs : List Event). es ++ xs) k.split ∙ sym (append_assoc es k.front k.back);
            judged = js ++ k.judged;
            are_judged = AreJudged-append a.told.config es k.front js k.judged p.took.are_judged (subst (λ (c : Config). AreJudged c k.front k.judged) p.took.config k.are_judged);
            reached = Reached-then a.told b.told c.told js k.judged (reached-told a.told b.told es p.handed p.took) k.reached;
            unsent = k.unsent;
            begins = append_assoc w short k.unsent ∙ ap (λ (x : List ℕ). w ++ x) k.begins ∙ frames-then none held k.judged;
            since = λ n fits whole.
                let first = replies a.told js in
                let m = n - length first in
                let within : length (flat_map frame (take m (replies b.told k.judged))) ≤ length short = lies-behind first (replies b.told k.judged) n m (length short) refl
                (omega (arith, whole, ap (λ (xs : List (ℕ × Answer)). length (flat_map frame (take n xs))) (replies_are k.judged), ap length (all_sent a.told b.told es w p none held), length-append w short)) in
                narrows moment left x.disk c.disk (λ before files. IsSafe b.told.config b.told.state k.front m files) (λ before files. IsSafe a.told.config a.told.state (es ++ k.front) n files)
                (k.since m (omega (arith, fits, length-append es k.front, many)) within)
                (λ before files was is. safe-on k.front n m files (omega (arith, many)) is);
            configured = subst (λ (i : Config). LeavesOnly moment left x.disk c.disk (IsConfigured i)) p.took.config k.configured;
          }

      -- as the events of the first part are judged
      module _ (once : EventsAreJudgedOnce) (short : List ℕ) (k : Preserves honest moment left a x b es short) where
        same-events : es ≡ k.front
        same-events =
            let size : length k.judged ≡ length k.front = AreJudged-length a.told.config k.front k.judged k.are_judged in
            let last : b.told.last ≡ a.told.last + length es = p.took.last in
            let nothing : k.back ≡ [] = nil_from_length k.back (omega (arith, ap length k.split, length-append k.front k.back, size, k.reached.last, last)) in
            k.split ∙ ap (λ (xs : List Event). k.front ++ xs) nothing ∙ append-nil k.front

        same-judged : p.took.judged ≡ k.judged
        same-judged = all-once once a.told.config k.front p.took.judged k.judged (subst (λ (xs : List Event). AreJudged a.told.config xs p.took.judged) same-events p.took.are_judged) k.are_judged

        as-taken : (n : ℕ) → n ≤ length es → length (flat_map frame (take n (replies a.told p.took.judged))) ≤ length short → LeavesOnly moment left x.disk b.disk (IsSafe a.told.config a.told.state es n)
        as-taken n fits whole =
            subst (λ (xs : List Event). LeavesOnly moment left x.disk b.disk (IsSafe a.told.config a.told.state xs n)) (sym same-events)
            (k.since n (omega (arith, fits, ap length same-events)) (subst (λ (js : List Judged). length (flat_map frame (take n (replies a.told js))) ≤ length short) same-judged whole))

        as-begun : short ++ k.unsent ≡ flat_map frame (replies a.told p.took.judged)
        as-begun = k.begins ∙ ap (λ (js : List Judged). flat_map frame (replies a.told js)) (sym same-judged)

      -- what the first part preserves since then, the second doesn't lose
      pub preserves-on : EventsAreJudgedOnce → (short sent : List ℕ) → length short ≤ length w → IsAtRest honest a → IsAtRest honest b → Preserves honest moment left a x b es short → Fares honest moment left b c fs sent
          → Preserves honest moment left a x c (es ++ fs) short
      preserves-on once short sent shorter ready then_ready k f =
          let o = f.outlives then_ready in
          let js = p.took.judged in
          let first = replies a.told js in
          let then = replies b.told o.judged in
          let both = replies_are o.judged in
          record {
            front = es ++ o.front;
            back = o.back;
            split = ap (λ (xs : List Event). es ++ xs) o.split ∙ sym (append_assoc es o.front o.back);
            judged = js ++ o.judged;
            are_judged = AreJudged-append a.told.config es o.front js o.judged p.took.are_judged (subst (λ (k : Config). AreJudged k o.front o.judged) p.took.config o.are_judged);
            reached = Reached-then a.told b.told c.told js o.judged (reached-told a.told b.told es p.handed p.took) o.reached;
            unsent = k.unsent ++ flat_map frame then;
            begins = sym (append_assoc short k.unsent (flat_map frame then)) ∙ ap (λ (l : List ℕ). l ++ flat_map frame then) (as-begun once short k)
                ∙ sym (flat_map-append frame first then) ∙ ap (flat_map frame) (sym both);
            since = λ n fits whole.
                let more : length then ≡ length o.front = replies-length b.told o.judged ∙ AreJudged-length b.told.config o.front o.judged o.are_judged in
                let few : n ≤ length first = not-longer first then n (omega (arith, fits, length-append es o.front, length-append first then, many, more))
                (omega (arith, whole, shorter, ap length (all_sent a.told b.told es w p none ready.none), ap (λ (xs : List (ℕ × Answer)). length (flat_map frame (take n xs))) both)) in
                let front : take n (replies a.told (js ++ o.judged)) ≡ take n first = ap (λ (xs : List (ℕ × Answer)). take n xs) both ∙ take-append-le n first then few in
                only_then moment left x.disk b.disk c.disk (IsSafe a.told.config a.told.state es n) (IsSafe b.told.config b.told.state o.front 0) (IsSafe a.told.config a.told.state (es ++ o.front) n)
                (earlier b.disk)
                (as-taken once short k n (omega (arith, few, many)) (omega (arith, whole, ap (λ (xs : List (ℕ × Answer)). length (flat_map frame xs)) front)))
                o.any_moment
                (λ files is. safe-less a.told.config a.told.state es o.front n n files (omega arith) is)
                (λ files is. safe-on o.front n 0 files (omega (arith, few, many)) is);
            configured = only_then moment left x.disk b.disk c.disk (IsConfigured a.told.config) (IsConfigured a.told.config) (IsConfigured a.told.config) (earlier b.disk) k.configured
                (subst (λ (k : Config). LeavesOnly moment left b.disk c.disk (IsConfigured k)) p.took.config (f.configured then_ready.is_honest then_ready.stands)) (λ files is. is) (λ files is. is);
          }

module _ {D : Type 0} (honest : D → Type 0) (moment : D → ℕ) (left : D → ℕ → Files → Type 0) (failed : D → ℕ) where
  -- the first of the events were taken, and a beginning of the frames of what was handed out was sent; nothing is held, if nothing was
  pub fares-if : (start now : Kept D) (events front back : List Event) (out : List (ℕ × Answer)) (sent lost : List ℕ) → Ends honest moment left failed start now front out
      → events ≡ front ++ back → sent ++ lost ≡ flat_map frame out → (start.told.held ≡ [] → now.fallen ≡ false → now.told.held ≡ []) → Fares honest moment left start now events sent
  fares-if start now events front back out sent lost e split begins none =
      let t = e.ran.took in
      record {
        was_honest = e.ran.was_honest;
        stays_honest = e.ran.stays_honest;
        configured = λ h stood. e.ran.configured h;
        none = none;
        outlives = λ ready.
            let answered : out ++ now.told.held ≡ replies start.told t.judged = answers_due-is start.told now.told front out t ∙ answers_due-replies start.told t.judged ready.none in
            record {
              front = front;
              back = back;
              split = split;
              judged = t.judged;
              are_judged = t.are_judged;
              reached = reached-told start.told now.told front out t;
              unsent = lost ++ flat_map frame now.told.held;
              begins = sym (append_assoc sent lost (flat_map frame now.told.held)) ∙ ap (λ (x : List ℕ). x ++ flat_map frame now.told.held) begins
                  ∙ sym (flat_map-append frame out now.told.held) ∙ ap (flat_map frame) answered;
              any_moment = e.ran.any_moment ready;
              at_exit = λ n fits whole files left_now.
                  let size : length front ≡ length (out ++ now.told.held) = sym (AreJudged-length start.told.config front t.judged t.are_judged) ∙ sym (replies-length start.told t.judged) ∙ ap length (sym answered) in
                  let sent_few : length sent ≤ length (flat_map frame out) = omega (arith, ap length begins, length-append sent lost) in
                  let few : n ≤ length out = not-longer out now.told.held n (omega (arith, fits, size))
                  (omega (arith, whole, sent_few, ap (λ (xs : List (ℕ × Answer)). length (flat_map frame (take n xs))) answered)) in
                  safe-fewer start.told.config start.told.state front (length out) n files few (e.at_exit ready files left_now);
            };
      }

  -- or nothing is
  pub fares : (start now : Kept D) (events front back : List Event) (out : List (ℕ × Answer)) (sent lost : List ℕ) → Ends honest moment left failed start now front out
      → events ≡ front ++ back → sent ++ lost ≡ flat_map frame out → (now.fallen ≡ false → now.told.held ≡ []) → Fares honest moment left start now events sent
  fares start now events front back out sent lost e split begins none = fares-if start now events front back out sent lost e split begins (λ held. none)

  -- nothing was taken, and nothing sent
  pub fares-none : (start : Kept D) (events : List Event) → Ends honest moment left failed start start [] [] → start.fallen ≡ false → Fares honest moment left start start events []
  fares-none start events e stands = fares-if start start events [] events [] [] [] e refl refl (λ held up. held)

  -- one that came through all its events, and what came behind it
  module _ (earlier : (disk : D) (s t : ℕ) (files : Files) → s ≤ t → left disk t files → left disk s files) (a b c : Kept D) where
    pub configured-then : (config : b.told.config ≡ a.told.config) → LeavesOnly moment left a.disk b.disk (IsConfigured a.told.config) → LeavesOnly moment left b.disk c.disk (IsConfigured b.told.config)
        → LeavesOnly moment left a.disk c.disk (IsConfigured a.told.config)
    configured-then config first second =
        only_then moment left a.disk b.disk c.disk (IsConfigured a.told.config) (IsConfigured a.told.config) (IsConfigured a.told.config)
        (earlier b.disk) first
        (subst (λ (k : Config). LeavesOnly moment left b.disk c.disk (IsConfigured k)) config second) (λ files is. is) (λ files is. is)

    -- how they fare together
    pub fares-then : (es fs : List Event) (w sent : List ℕ) (p : Progress a.told b.told es [] w) → (a.told.held ≡ [] → b.told.held ≡ []) → (honest b.disk → honest a.disk) → (honest a.disk → honest b.disk)
        → (honest a.disk → LeavesOnly moment left a.disk b.disk (IsConfigured a.told.config)) → (IsAtRest honest a → LeavesOnly moment left a.disk b.disk (IsSafe a.told.config a.told.state es 0))
        → b.fallen ≡ false → Fares honest moment left b c fs sent → Fares honest moment left a c (es ++ fs) (w ++ sent)
    unfolding preserves-behind preserves-end
    fares-then es fs w sent p none was stays configured any stands f = record {
      was_honest = λ h. was (f.was_honest h);
      stays_honest = λ up h. f.stays_honest up (stays h);
      configured = λ h stood. configured-then p.took.config (configured h) (f.configured (stays h) stands);
      none = λ held up. f.none (none held) up;
      outlives = λ ready.
          let ready_b : IsAtRest honest b = record { stands = stands; is_honest = stays ready.is_honest; none = none ready.none } in
          let o = f.outlives ready_b in
          let k = preserves-behind honest moment left earlier a b c es fs w p none c sent ready.none (preserves-end honest moment left earlier b c fs sent f ready_b) in
          record {
            front = k.front;
            back = k.back;
            split = k.split;
            judged = k.judged;
            are_judged = k.are_judged;
            reached = k.reached;
            unsent = k.unsent;
            begins = k.begins;
            any_moment = any-then honest moment left earlier a b c es o.front w p (any ready) o.any_moment;
            at_exit = λ n fits whole. only_now moment left c.disk c.disk (IsSafe a.told.config a.told.state k.front n) (earlier c.disk) (k.since n fits whole);
          };
    }
