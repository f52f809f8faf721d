-- The turns of a run that didn't fail settle, and what was answered by then is the first of all answers.
use Rattle.std.proofs.Common.{◌≡◌, inl, inr, ℕ, ◌≤◌, List, [], ◌∷◌, ◌++◌, length, take, drop, sym, ap, ◌∙◌, subst, arith, append_assoc, take-append-drop}
use Rattle.std.proofs.lemmas.List.{append-nil, take-append-le}
use Rattle.std.proofs.Math.Seq.{take-length}
use Rattle.disk_model.specs.Disk.{Files, LeavesNow}
use Rattle.disk_model.proofs.Moments.{idle, only_now}
use Rattle.packet.specs.Config.{Config}
use Rattle.devices.specs.Handing.{Frames}
use Rattle.durable.specs.Recovery.{IsConfigured}
use Rattle.machine.specs.Judged.{Judged, AreJudged}
use Rattle.machine.specs.Laws.{EventsAreJudgedOnce}
use Rattle.machine.specs.declared.event.Answer.{Answer}
use Rattle.machine.specs.declared.event.Event.{Event}
use Rattle.gateway.specs.Kept.{Kept, IsSafe}
use Rattle.gateway.specs.Told.{Told, TookAll}
use Rattle.socket_edge.specs.Progress.{replies}
use Rattle.socket_edge.proofs.Answers.{all-once, replies-append, last_of as last_number}
use Rattle.carrying.specs.Carried.{Carries}
use Rattle.carrying.specs.Runs.{AtEachTurn, Settles, all_events, all_headers, last_of}
use Rattle.carrying.specs.Turns.{Turn}
use Rattle.carrying.proofs.Joined.{answered_long, events-front}
use Rattle.carrying.proofs.Stopping.{answered_are, at-exit, came}
use Rattle.carrying.proofs.Taken.{place_of}

judged-front : (config : Config) (es fs : List Event) (js : List Judged) → AreJudged config (es ++ fs) js → AreJudged config es (take (length es) js)
judged-front config [] fs js are = tt
judged-front config (e ∷ es) fs [] are = absurd are
judged-front config (e ∷ es) fs (j ∷ js) are = (are.0, judged-front config es fs js are.1)

-- of events and more behind them, the answers to the former are the first
first-answers : EventsAreJudgedOnce → (old now new : Told) (es fs : List Event) (some all : List (ℕ × Answer)) → TookAll old now es some → TookAll old new (es ++ fs) all
    → old.held ≡ [] → now.held ≡ [] → new.held ≡ [] → some ≡ take (length es) all
first-answers once old now new es fs some all p q none none' none'' =
    let n = length es in
    let rest = drop n q.judged in
    let same : take n q.judged ≡ p.judged = all-once once old.config es (take n q.judged) p.judged (judged-front old.config es fs q.judged q.are_judged) p.are_judged in
    let split : q.judged ≡ p.judged ++ rest = sym (take-append-drop n q.judged) ∙ ap (λ (js : List Judged). js ++ rest) same in
    let whole : all ≡ some ++ replies now rest =
    answered_are old new (es ++ fs) all q none none'' ∙ ap (λ (js : List Judged). replies old js) split
    ∙ replies-append old now p.judged rest p.config p.state (last_number old now es some p)
    ∙ ap (λ (xs : List (ℕ × Answer)). xs ++ replies now rest) (sym (answered_are old now es some p none none')) in
    let long : length some ≡ n = answered_long old now es some p none none' in
    sym (ap (λ (xs : List (ℕ × Answer)). take n xs) whole ∙ take-append-le n some (replies now rest) (omega (arith, long)) ∙ ap (λ (k : ℕ). take k some) (sym long) ∙ take-length some)

-- the turns before one of a run are among those that didn't fail
front-of : (ts failed before after : List Turn) (turn : Turn) → length failed ≤ 1 → ts ++ failed ≡ before ++ turn ∷ after → (rest : List Turn) × (ts ≡ before ++ rest)
front-of ts [] before after turn few e = (turn ∷ after, sym (append-nil ts) ∙ e)
front-of ts (f ∷ []) before after turn few e = elim (place_of ts before after f turn e) [
  | inl r ↦ (turn ∷ r.0, r.1)
  | inr m ↦ ([], sym m.0 ∙ sym (append-nil before))
]
front-of ts (f ∷ g ∷ more) before after turn few e = absurd (omega (arith, few))

module _ {D : Type 0} (honest : D → Type 0) (moment : D → ℕ) (left : D → ℕ → Files → Type 0) (earlier : (disk : D) (s t : ℕ) (files : Files) → s ≤ t → left disk t files → left disk s files) (once : EventsAreJudgedOnce)
    (a b c : Kept D) (last : ℕ) (ts failed : List Turn) (l l' l'' w w' w'' : Frames) (none : a.told.held ≡ [])
    (stops : AtEachTurn honest moment left a c last (ts ++ failed) l l'' w w'') (settles : stops.by ts ≡ b) (k : Carries honest moment left a b (all_events last ts) (all_headers last ts) l l' w w') where
  first-of : (now : Told) (before rest : List Turn) (some : List (ℕ × Answer)) → ts ≡ before ++ rest → TookAll a.told now (all_events last before) some → now.held ≡ [] → some ≡ take (length (all_events last before)) k.answered
  first-of now before rest some e took none' =
      let parts : all_events last ts ≡ all_events last before ++ all_events (last_of last before) rest = ap (λ (us : List Turn). all_events last us) e ∙ events-front last before rest in
      first-answers once a.told now b.told (all_events last before) (all_events (last_of last before) rest) some k.answered took (subst (λ (es : List Event). TookAll a.told b.told es k.answered) parts k.took) none none' k.none

  -- the answers by each turn are the first
  pub firsts-are : length failed ≤ 1 → (before : List Turn) (turn : Turn) (after : List Turn) → (e : ts ++ failed ≡ before ++ turn ∷ after) → (stops.each before turn after e).answered ≡ take (length (all_events last before)) k.answered
  firsts-are few before turn after e =
      let by = stops.each before turn after e in
      let front = front-of ts failed before after turn few e in
      first-of (stops.by before).told before front.0 by.answered front.1 by.took by.none

  abbrev Carried : Kept D → List Turn → Type 0
  Carried g before = (x y : Frames) × Carries honest moment left a g (all_events last before) (all_headers last before) l x w y

  -- behind each of the turns just these were carried
  carried-at : (before rest : List Turn) → ts ≡ before ++ rest → Carried (stops.by before) before
  carried-at before [] e =
      let same : ts ≡ before = e ∙ append-nil before in
      let there : b ≡ stops.by before = sym settles ∙ ap (λ (us : List Turn). stops.by us) same in
      subst (λ (g : Kept D). Carried g before) there (subst (λ (us : List Turn). Carried b us) same (l', w', k))
  carried-at before (u ∷ rest) e =
      let by = stops.each before u (rest ++ failed) (ap (λ (us : List Turn). us ++ failed) e ∙ append_assoc before (u ∷ rest) failed) in
      (by.to_lan.0, by.to_wan.0, came honest moment left a (stops.by before) (stops.by (before ++ u ∷ [])) last before u l l'' w w'' by)

  pub settles-in : (before : List Turn) (turn : Turn) (after : List Turn) → ts ≡ before ++ turn ∷ after
      → Settles honest moment left a (stops.by before) (stops.by (before ++ turn ∷ [])) last before turn (take (length (all_events last (before ++ turn ∷ []))) k.answered) l l'' w w''
  settles-in before turn after e =
      let next = before ++ turn ∷ [] in
      let es = all_events last next in
      let out = take (length es) k.answered in
      let n = stops.by next in
      let further : ts ≡ next ++ after = e ∙ sym (append_assoc before (turn ∷ []) after) in
      let there = carried-at next after further in
      let j = there.2 in
      let by = stops.each before turn (after ++ failed) (ap (λ (us : List Turn). us ++ failed) e ∙ append_assoc before (turn ∷ after) failed) in
      let took : TookAll a.told n.told es out = subst (λ (xs : List (ℕ × Answer)). TookAll a.told n.told es xs) (first-of n.told next after j.answered further j.took j.none) j.took in
      let parts : es ≡ all_events last before ++ all_events (last_of last before) (turn ∷ []) = events-front last before (turn ∷ []) in
      record {
        settled = n;
        comes = by;
        first = first-answers once a.told (stops.by before).told n.told (all_events last before) (all_events (last_of last before) (turn ∷ [])) by.answered out by.took
            (subst (λ (xs : List Event). TookAll a.told n.told xs out) parts took) none by.none j.none;
        took = took;
        none = j.none;
        since = λ ready.
            idle moment left n.disk (IsSafe a.told.config a.told.state es (length es))
            (subst (λ (m : ℕ). LeavesNow moment left n.disk (IsSafe a.told.config a.told.state es m)) (answered_long a.told n.told es j.answered j.took none j.none)
            (at-exit honest moment left a n es (all_headers last next) l there.0 w there.1 j once ready));
        configured = λ ready.
            idle moment left n.disk (IsConfigured a.told.config)
            (only_now moment left a.disk n.disk (IsConfigured a.told.config) (earlier n.disk) (j.fares.configured ready.is_honest ready.stands));
      }
