-- The calls of a gateway make lives.
use Rattle.std.proofs.Common.{◌≡◌, ◌≢◌, ◌↔◌, Result, Ok, Err, false, true, ℕ, ◌+◌, ◌≤◌, List, [], ◌∷◌, ◌++◌, length, take, drop, arith, refl, sym, ◌∙◌, ap, subst, append_assoc, length-append}
use Rattle.std.specs.Prelude.{IfErr, IfOk, IsErrOf, IsTrue, MatchResult, OnErr, OnOk}
use Rattle.std.proofs.lemmas.List.{append-nil, length-take-le, take-append-drop, take_at}
use Rattle.std.proofs.Math.Seq.{take-append-add}
use Rattle.packet.specs.Config.{Config, is_config}
use Rattle.disk_model.specs.Disk.{Files, HasCause, Leaves, LeavesNow, LeavesOnly}
use Rattle.disk_model.proofs.Moments.{only_now}
use Rattle.durable.specs.Entering.{Durable}
use Rattle.durable.specs.Recovery.{Alike, IsConfigured, Recovers}
use Rattle.machine.specs.Judged.{Judged, AreJudged}
use Rattle.machine.specs.Machine.{after, answers, numbered}
use Rattle.machine.specs.Noted.{IsResumed, lasting}
use Rattle.machine.specs.declared.event.Answer.{Answer}
use Rattle.machine.specs.declared.event.Event.{Event}
use Rattle.machine.proofs.Judging.{AreJudged-append, AreJudged-length}
use Rattle.snapshot.specs.Store.{IsLastFormer}
use Rattle.snapshot.specs.declared.fault.OpenFault.{OpenFault}
use Rattle.snapshot.specs.declared.fault.OpenFault.TheVariants as open_fault
use Rattle.gateway.specs.Given.{handed}
use Rattle.gateway.specs.Kept.{Kept, IsAtRest, IsSafe}
use Rattle.gateway.specs.Syncing.{Syncs}
use Rattle.gateway.specs.Told.{Told, TookAll, TookFirst}
use Rattle.gateway.specs.Running.{BreaksOff, CarriesOn, Ends, SafeThrough, SafeWithin, Stands, Stops, StopsWithin}
use Rattle.gateway.specs.declared.fault.GatewayFault.{GatewayFault}
use Rattle.gateway.specs.declared.fault.GatewayFault.TheVariants as fault
use Rattle.gateway.specs.Lives.{AreLives, Course, IsAsModel, Life, LivesAreTheModels, NextFinds, Stopped, Refused, IsLife}
use Rattle.gateway.specs.Living.{IsLived, RestsInLife, IsInLife, RunsInLife, RestsAgain, StaysInLife, StopsInLife, StopsTaking, GoesOnInLife, TakesAllInLife, EndsLife, EndsTaking, CallsAreLives}
use Rattle.gateway.proofs.Runs.{compact-stopped, compact-within, compacted, counted, ended, flush-carries, flush-keeps, flush-stopped, length-numbered, offered, stands-still, still}
use Rattle.gateway.proofs.Taking.{after-append, answers-append, length-answers, numbered-append, took_none}

-- ---- an opening, by its clauses

module _ {D : Type 0} (honest : D → Type 0) (moment : D → ℕ) (left : D → ℕ → Files → Type 0) (seen : D → Files) (config : Config) (entry : D) (at : ℕ) where
  abbrev pub Live : Course D → Type 0
  Live course = IsLife honest moment left seen config (record { disk = entry; opened_at = at; course = course })

  pub opening-stopped : (r : Result (Kept D) (D × OpenFault)) → honest entry → MatchResult r (λ g. Leaves moment left entry g.disk Alike) (λ e. Leaves moment left entry e.0 Alike)
      → (LeavesNow moment left entry (IsConfigured config) → MatchResult r (λ g. LeavesOnly moment left entry g.disk (IsConfigured config)) (λ e. LeavesOnly moment left entry e.0 (IsConfigured config)))
      → MatchResult r (λ g. Live (Stopped g.disk)) (λ e. Live (Stopped e.0))
  opening-stopped (Ok g) h any conf = (h, record { any_moment = any; configured = conf })
  opening-stopped (Err e) h any conf = (h, record { any_moment = any; configured = conf })

  pub opening-refused : (r : Result (Kept D) (D × OpenFault)) → MatchResult r (λ g. Live (Stopped g.disk)) (λ e. Live (Stopped e.0))
      → IfErr r (λ e. e.1 ≡ open_fault.Damaged → (d : Durable) → ¬ Recovers (seen entry) d)
      → IfErr r (λ e. e.1 ≡ open_fault.ConfigDiffers → (d : Durable) × Recovers (seen entry) d × ¬ IsConfigured config (seen entry))
      → IfErr r (λ e. e.1 ≡ open_fault.Generations → IsLastFormer config (seen entry))
      → IfErr r (λ e. Live (Refused e.0 e.1))
  opening-refused (Ok g) stopped damaged differs generations = tt
  opening-refused (Err e) stopped damaged differs generations = (stopped.0, (stopped.1, record { damaged = damaged; differs = λ is. (differs is).2; generations = generations }))

  pub refused-behind : (r : Result (Kept D) (D × OpenFault)) → IfErr r (λ e. Live (Refused e.0 e.1)) → LivesAreTheModels honest moment left seen config
      → (first : Durable) (earlier : List (Life D)) → AreLives honest moment left seen config first earlier → LeavesNow moment left entry (NextFinds honest moment left seen config first earlier)
      → IfErr r (λ e. IsAsModel honest moment left seen config first earlier at (Refused e.0 e.1))
  refused-behind (Ok g) refused lives first earlier are before = tt
  refused-behind (Err e) refused lives first earlier are before = lives.each first (record { disk = entry; opened_at = at; course = Refused e.0 e.1 }) earlier (refused, before, are)

  -- a gateway was opened
  pub opening-rests : (r : Result (Kept D) (D × OpenFault)) (Q : D × OpenFault → Type 0) → IsTrue (is_config config) → honest entry → MatchResult r (λ g. honest entry ↔ honest g.disk) Q
      → IfOk r (λ g. (d : Durable) × Recovers (seen entry) d × IsResumed config d at g.told.state × LeavesNow moment left g.disk (λ files. Recovers files d))
      → IfOk r (λ g. g.told.config ≡ config) → IfOk r (λ g. g.told.last ≡ 0) → IfOk r (λ g. g.told.held ≡ []) → IfOk r (λ g. g.fallen ≡ false)
      → IfOk r (λ g. RestsInLife honest moment left seen config entry at g [] [] g)
  opening-rests (Err e) Q valid h on ok configured last none stands = tt
  opening-rests (Ok g) Q valid h on ok configured last none stands =
      let rests : IsAtRest honest g = record { stands = stands; is_honest = on.0 h; none = none } in
      record { opened = record { valid = valid; was_honest = h; rests = rests; configured = configured; first = last; resumed = (ok.0, ok.1, ok.2) }; took = took_none g.told; rests = rests }

-- ---- events behind events

-- taken in turn, with nothing held between them
pub took-on : (a b c : Told) (es fs : List Event) (given out : List (ℕ × Answer)) → TookAll a b es given → b.held ≡ [] → TookAll b c fs out → TookAll a c (es ++ fs) (given ++ out)
took-on a b c es fs given out t none u =
    let first = answers a.config a.state t.judged in
    let reached = after a.config a.state t.judged in
    let next = answers a.config reached u.judged in
    let number : b.last ≡ a.last + length first = omega (arith, t.last, length-answers a.config a.state t.judged, AreJudged-length a.config es t.judged t.are_judged) in
    let given_are = rw (none, append-nil given) at t.order in
    record {
      judged = t.judged ++ u.judged;
      are_judged = AreJudged-append a.config es fs t.judged u.judged t.are_judged (subst (λ (c : Config). AreJudged c fs u.judged) t.config u.are_judged);
      config = u.config ∙ t.config;
      state = rw (after-append a.config a.state t.judged u.judged) (rw (t.config, t.state) at u.state);
      last = omega (arith, t.last, u.last, length-append es fs);
      order = rw (append_assoc given out c.held, u.order, none, t.config, t.state, number, answers-append, numbered-append, given_are, append_assoc a.held (numbered a.last first));
    }

-- a beginning of later events, after all of the earlier ones
safe-on : (a b : Told) (es fs : List Event) (js : List Judged) (m : ℕ) (files : Files) → AreJudged a.config es js → b.config ≡ a.config → b.state ≡ after a.config a.state js
    → IsSafe b.config b.state fs m files → IsSafe a.config a.state (es ++ fs) (length es + m) files
safe-on a b es fs js m files are config state is =
    let there : IsSafe a.config (after a.config a.state js) fs m files = rw (config, state) at is in
    record {
      count = length es + there.count;
      answered = omega (arith, there.answered);
      within = omega (arith, there.within, length-append es fs);
      judged = js ++ there.judged;
      are_judged = rw (take-append-add es fs there.count) (AreJudged-append a.config es (take there.count fs) js there.judged are there.are_judged);
      recovers = rw (after-append a.config a.state js there.judged) there.recovers;
    }

-- ---- a gateway in its life

module _ {D : Type 0} (honest : D → Type 0) (moment : D → ℕ) (left : D → ℕ → Files → Type 0) (seen : D → Files)
    (config : Config) (entry : D) (at : ℕ) (begun : Kept D) (events : List Event) (given : List (ℕ × Answer)) (mid : Kept D)
    (r : RestsInLife honest moment left seen config entry at begun events given mid) where
  -- as many were answered as were taken
  all-answered : length given ≡ length events
  all-answered = omega (arith, counted begun.told mid.told events given r.took, ap length r.rests.none, ap length r.opened.rests.none)

  -- stopped within a call, by what is left of it
  pub stopped-in : (more : List Event) (judged : List Judged) (out rest : List (ℕ × Answer)) (old new : D) → AreJudged mid.told.config more judged
      → out ++ rest ≡ numbered mid.told.last (answers mid.told.config mid.told.state judged)
      → ((files : Files) → left new (moment old) files → IsSafe mid.told.config mid.told.state more (length out) files)
      → ((files : Files) → left new (moment old) files → IsConfigured mid.told.config files)
      → IsLived honest moment left seen config entry at begun (events ++ more) (given ++ out) old new
  stopped-in more judged out rest old new are order safe conf =
      let then : Told = record { config = mid.told.config; state = after mid.told.config mid.told.state judged; last = mid.told.last + length more; held = rest } in
      let on : TookAll mid.told then more out = record { judged = judged; are_judged = are; config = refl; state = refl; last = refl; order = rw r.rests.none order } in
      let all = took-on begun.told mid.told then events more given out r.took r.rests.none on in
      let count : length events + length out ≡ length (given ++ out) = omega (arith, all-answered, length-append given out) in
      let config_is : mid.told.config ≡ config = r.took.config ∙ r.opened.configured in
      record {
        judged = all.judged;
        is_life = (
          r.opened.was_honest,
          record {
            valid = r.opened.valid;
            resumed = r.opened.resumed;
            answered = (
              subst (λ (c : Config). AreJudged c (events ++ more) all.judged) r.opened.configured all.are_judged,
              (rest, simp (r.opened.rests.none, r.opened.first, r.opened.configured) at all.order),
            );
            safe = λ files since.
                subst (λ (c : Config). IsSafe c begun.told.state (events ++ more) (length (given ++ out)) files) r.opened.configured
                (subst (λ (n : ℕ). IsSafe begun.told.config begun.told.state (events ++ more) n files) count
                (safe-on begun.told mid.told events more r.took.judged (length out) files r.took.are_judged r.took.config r.took.state (safe files since)));
            configured = λ files since. subst (λ (c : Config). IsConfigured c files) config_is (conf files since);
          },
        );
      }

  -- stopped with the first n answers given out
  pub stopped-first : (old new : D) (more : List Event) (judged : List Judged) (n : ℕ) → AreJudged mid.told.config more judged → n ≤ length more
      → ((files : Files) → left new (moment old) files → IsSafe mid.told.config mid.told.state more n files)
      → ((files : Files) → left new (moment old) files → IsConfigured mid.told.config files)
      → IsLived honest moment left seen config entry at begun (events ++ more) (given ++ take n (numbered mid.told.last (answers mid.told.config mid.told.state judged))) old new
  stopped-first old new more judged n are le safe conf =
      let all = numbered mid.told.last (answers mid.told.config mid.told.state judged) in
      let size : length (take n all) ≡ n = length-take-le n all (omega (arith, le, length-numbered, length-answers, AreJudged-length mid.told.config more judged are)) in
      stopped-in more judged (take n all) (drop n all) old new are (take-append-drop n all)
      (λ files since. subst (λ (k : ℕ). IsSafe mid.told.config mid.told.state more k files) (sym size) (safe files since)) conf

  -- it rests again
  pub rests-again : (now : Kept D) (more : List Event) (out : List (ℕ × Answer)) → TookAll mid.told now.told more out → IsAtRest honest now
      → RestsInLife honest moment left seen config entry at begun (events ++ more) (given ++ out) now
  rests-again now more out t rests = record { opened = r.opened; took = took-on begun.told mid.told now.told events more given out r.took r.rests.none t; rests = rests }

module _ {D : Type 0} {honest : D → Type 0} {moment : D → ℕ} {left : D → ℕ → Files → Type 0} {seen : D → Files} {config : Config} {entry : D} {at : ℕ} {begun : Kept D} {events : List Event}
    {given : List (ℕ × Answer)} {mid : Kept D} (r : RestsInLife honest moment left seen config entry at begun events given mid) where
  -- a run that began where it rested
  module _ {failed : D → ℕ} {old : Kept D} {more : List Event} {out : List (ℕ × Answer)} (s : Stands honest moment left failed mid old more out) where
    -- it is in its life
    pub in-life : IsInLife honest moment left seen failed config entry at begun (events ++ more) (given ++ out) old
    in-life = record { earlier = events; answered = given; rested = mid; rests = r; more = more; out = out; stands = s; events_are = refl; given_are = refl }

    -- stopped within a call
    pub stopped-call : (new : Kept D) → SafeWithin honest moment left failed old new out → IsLived honest moment left seen config entry at begun (events ++ more) (given ++ out) old.disk new.disk
    stopped-call new safe =
        let both = safe mid more s r.rests in
        let order = rw r.rests.none at s.ran.took.order in
        stopped-in honest moment left seen config entry at begun events given mid r more s.ran.took.judged out old.told.held old.disk new.disk s.ran.took.are_judged order
        (λ files since. (both.0.each files since).2) (λ files since. (both.1.each files since).2)

    -- stopped within calls that take more events
    pub stopped-through : (new : Kept D) (taken : List Event) (judged : List Judged) → AreJudged old.told.config taken judged → SafeThrough honest moment left failed old new taken out
        → IsLived honest moment left seen config entry at begun ((events ++ more) ++ taken) (given ++ out) old.disk new.disk
    stopped-through new taken judged are safe =
        let took = s.ran.took in
        let both = safe mid more s r.rests in
        let first = answers mid.told.config mid.told.state took.judged in
        let behind : List (ℕ × Answer) = numbered (mid.told.last + length first) (answers mid.told.config (after mid.told.config mid.told.state took.judged) judged) in
        let since = rw r.rests.none at took.order in
        let order : out ++ (old.told.held ++ behind) ≡ numbered mid.told.last (answers mid.told.config mid.told.state (took.judged ++ judged)) =
        sym (append_assoc out old.told.held behind) ∙ ap (λ (l : List (ℕ × Answer)). l ++ behind) since ∙ rw (answers-append, numbered-append) in
        rw append_assoc
        (stopped-in honest moment left seen config entry at begun events given mid r (more ++ taken) (took.judged ++ judged) out (old.told.held ++ behind) old.disk new.disk
        (AreJudged-append mid.told.config more taken took.judged judged took.are_judged (subst (λ (c : Config). AreJudged c taken judged) took.config are)) order
        (λ files since. (both.0.each files since).2) (λ files since. (both.1.each files since).2))

  module _ {failed : D → ℕ} {now : Kept D} {more : List Event} {out : List (ℕ × Answer)} (e : Ends honest moment left failed mid now more out) where
    -- stopped since it rested, with no answer given out
    pub stopped-within : IsLived honest moment left seen config entry at begun (events ++ more) given mid.disk now.disk
    stopped-within =
        let order = rw r.rests.none at e.ran.took.order in
        subst (λ (l : List (ℕ × Answer)). IsLived honest moment left seen config entry at begun (events ++ more) l mid.disk now.disk) (append-nil given)
        (stopped-in honest moment left seen config entry at begun events given mid r more e.ran.took.judged [] (out ++ now.told.held) mid.disk now.disk e.ran.took.are_judged order
        (λ files since. ((e.ran.any_moment r.rests).each files since).2)
        (λ files since. ((e.ran.configured r.rests.is_honest).each files since).2))

    -- stopped at the end
    pub stopped-after : ((disk : D) (s t : ℕ) (files : Files) → s ≤ t → left disk t files → left disk s files)
        → IsLived honest moment left seen config entry at begun (events ++ more) (given ++ out) now.disk now.disk
    stopped-after earlier =
        let order = rw r.rests.none at e.ran.took.order in
        stopped-in honest moment left seen config entry at begun events given mid r more e.ran.took.judged out now.told.held now.disk now.disk e.ran.took.are_judged order
        (e.at_exit r.rests) (only_now moment left mid.disk now.disk _ (earlier now.disk) (e.ran.configured r.rests.is_honest))

-- ---- whatever life it is in

module _ {D : Type 0} (honest : D → Type 0) (moment : D → ℕ) (left : D → ℕ → Files → Type 0) (seen : D → Files) (failed : D → ℕ)
    (earlier : (disk : D) (s t : ℕ) (files : Files) → s ≤ t → left disk t files → left disk s files)
    (old new : Kept D) where
  runs-in-life : (more : List Event) (out : List (ℕ × Answer)) → (IsAtRest honest old → Ends honest moment left failed old new more out) → RunsInLife honest moment left seen old new more out
  runs-in-life more out ends = λ config entry at begun events given r. (stopped-within r (ends r.rests), stopped-after r (ends r.rests) earlier)

  -- stopped within a call
  pub stops-in-life : ((before : List (ℕ × Answer)) → SafeWithin honest moment left failed old new before) → StopsInLife honest moment left seen failed old new
  stops-in-life safe = λ config entry at begun events given is. rw (is.events_are, is.given_are) (stopped-call is.rests is.stands new (safe is.out))

  -- or within calls that take events, whatever it held when they began
  stops-taking : (taken : List Event) (judged : List Judged) → AreJudged old.told.config taken judged
      → ((before : List (ℕ × Answer)) → SafeThrough honest moment left failed old new taken before) → StopsTaking honest moment left seen failed old new taken
  stops-taking taken judged are safe = λ config entry at begun events given is. rw (is.events_are, is.given_are) (stopped-through is.rests is.stands new taken judged are (safe is.out))

  -- it goes on, whatever it held
  takes-all : (taken : List Event) (out : List (ℕ × Answer)) → ((before : List (ℕ × Answer)) → CarriesOn honest moment left failed old new taken before (before ++ out))
      → TakesAllInLife honest moment left seen failed old new taken out
  takes-all taken out on = λ config entry at begun events given is. record {
    earlier = is.earlier;
    answered = is.answered;
    rested = is.rested;
    rests = is.rests;
    more = is.more ++ taken;
    out = is.out ++ out;
    stands = on is.out is.rested is.more is.stands;
    events_are = ap (λ (es : List Event). es ++ taken) is.events_are ∙ append_assoc is.earlier is.more taken;
    given_are = ap (λ (l : List (ℕ × Answer)). l ++ out) is.given_are ∙ append_assoc is.answered is.out out;
  }

  pub goes-on-in-life : (out : List (ℕ × Answer)) → ((before : List (ℕ × Answer)) → CarriesOn honest moment left failed old new [] before (before ++ out)) → GoesOnInLife honest moment left seen failed old new out
  goes-on-in-life out on = λ config entry at begun events given is.
      subst (λ (es : List Event). IsInLife honest moment left seen failed config entry at begun es (given ++ out) new) (append-nil events) (takes-all [] out on config entry at begun events given is)

  -- or its life ends
  ends-taking : (taken : List Event) (out : List (ℕ × Answer)) → ((start : Kept D) (events : List Event) (before : List (ℕ × Answer)) → Stands honest moment left failed start old events before
      → Ends honest moment left failed start new (events ++ taken) (before ++ out)) → EndsTaking honest moment left seen failed old new taken out
  ends-taking taken out ends = λ config entry at begun events given is.
      rw (is.events_are, is.given_are, append_assoc is.earlier is.more taken, append_assoc is.answered is.out out) (stopped-after is.rests (ends is.rested is.more is.out is.stands) earlier)

  pub ends-life : ((start : Kept D) (events : List Event) (out : List (ℕ × Answer)) → Stands honest moment left failed start old events out → Ends honest moment left failed start new events out)
      → EndsLife honest moment left seen failed old new
  ends-life ends = λ config entry at begun events given is. rw (is.events_are, is.given_are) (stopped-after is.rests (ends is.rested is.more is.out is.stands) earlier)

  -- ---- a run, by its clauses

  -- with a fault, having taken the first of the events
  abbrev ThroughFront : List Event → List (ℕ × Answer) → GatewayFault → Type 0
  ThroughFront events out why = (stops : StopsWithin honest moment left failed old new events out why)
      × ((before : List (ℕ × Answer)) → SafeThrough honest moment left failed old new stops.front before)

  pub run-ok : {T E : Type 0} (result : Result T E) (events : List Event) (items : T → List (ℕ × Answer)) (Q : E → Type 0) → IfOk result (λ a. TookAll old.told new.told events (items a))
      → (honest new.disk → honest old.disk) → (new.fallen ≡ false → honest old.disk → honest new.disk)
      → (IsAtRest honest old → LeavesOnly moment left old.disk new.disk (IsSafe old.told.config old.told.state events 0))
      → (IsAtRest honest old → MatchResult result (λ a. LeavesNow moment left new.disk (IsSafe old.told.config old.told.state events (length (items a)))) Q)
      → (old.fallen ≡ false → honest old.disk → LeavesOnly moment left old.disk new.disk (IsConfigured old.told.config))
      → OnOk result (new.told.held ≡ []) → OnOk result (new.fallen ≡ false)
      → ((before : List (ℕ × Answer)) → SafeThrough honest moment left failed old new events before)
      → IfOk result (λ a. (before : List (ℕ × Answer)) → CarriesOn honest moment left failed old new events before (before ++ items a))
      → IfOk result (λ a. RunsInLife honest moment left seen old new events (items a) × RestsAgain honest moment left seen old new events (items a) × StopsTaking honest moment left seen failed old new events
      × TakesAllInLife honest moment left seen failed old new events (items a))
  run-ok (Err e) events items Q took was stays any exit conf none stands safe carries = tt
  run-ok (Ok a) events items Q took was stays any exit conf none stands safe carries = (
    runs-in-life events (items a) (λ rests. record {
      ran = record { took = took; stood = rests.stands; was_honest = was; stays_honest = stays; any_moment = any; configured = conf rests.stands };
      at_exit = exit;
    }),
    λ config entry at begun es given r. rests-again honest moment left seen config entry at begun es given old r new events (items a) took
        (record { stands = stands; is_honest = stays stands r.rests.is_honest; none = none }),
    stops-taking events took.judged took.are_judged safe,
    takes-all events (items a) carries,
  )

  -- what was taken of the events, and what becomes of the life
  abbrev TakesFront : List Event → List (ℕ × Answer) → GatewayFault → Type 0
  TakesFront events out why = (front : List Event) × (back : List Event) × (events ≡ front ++ back) × TookAll old.told new.told front out × RunsInLife honest moment left seen old new front out
      × (why ≢ fault.Device → StaysInLife honest moment left seen failed old new front out) × StopsTaking honest moment left seen failed old new front
      × (why ≢ fault.Device → TakesAllInLife honest moment left seen failed old new front out) × EndsTaking honest moment left seen failed old new front out

  same-front : (a b c d : List Event) → a ++ b ≡ c ++ d → length a ≡ length c → a ≡ c
  same-front a b c d e size = sym (take_at a b (length a) refl) ∙ ap (take (length a)) e ∙ take_at c d (length a) (sym size)

  takes-front : (events : List Event) (out : List (ℕ × Answer)) (why : GatewayFault) → (old.fallen ≡ false → ThroughFront events out why)
      → (old.fallen ≡ false → (before : List (ℕ × Answer)) → BreaksOff honest moment left failed old new events before (before ++ out) why) → TookFirst old.told new.told events out → TakesFront events out why
  takes-front events out why through breaks first = (
    first.front,
    first.back,
    first.split,
    first.took,
    runs-in-life first.front out (λ rests. (here rests.stands).0.ends),
    (λ other config entry at begun es given r. in-life r ((here r.rests.stands).0.stays other)),
    stops-taking first.front first.took.judged first.took.are_judged (λ before start es s. (here s.stands).1 before start es s),
    (λ other. takes-all first.front out (λ before start es s. (there start es before s).stays other)),
    ends-taking first.front out (λ start es before s. (there start es before s).ends),
  )
    where
      here : old.fallen ≡ false → Stops honest moment left failed old new first.front out why × ((before : List (ℕ × Answer)) → SafeThrough honest moment left failed old new first.front before)
      here up =
          let t = through up in
          let same = same-front t.0.front t.0.back first.front first.back (sym t.0.split ∙ first.split) (omega (arith, t.0.stops.ends.ran.took.last, first.took.last)) in
          subst (λ (es : List Event). Stops honest moment left failed old new es out why × ((before : List (ℕ × Answer)) → SafeThrough honest moment left failed old new es before)) same (t.0.stops, t.1)

      -- each run that stood ends behind these events, and no others
      there : (start : Kept D) (es : List Event) (before : List (ℕ × Answer)) → Stands honest moment left failed start old es before → Stops honest moment left failed start new (es ++ first.front) (before ++ out) why
      there start es before s =
          let off = breaks s.stands before start es s in
          let size : length off.0 ≡ length first.front = omega (arith, first.took.last, off.3.ends.ran.took.last, s.ran.took.last, length-append es off.0) in
          subst (λ (front : List Event). Stops honest moment left failed start new (es ++ front) (before ++ out) why) (same-front off.0 off.1 first.front first.back (sym off.2 ∙ first.split) size) off.3

  pub run-err : {T E : Type 0} (result : Result T E) (events : List Event) (items : E → List (ℕ × Answer)) (why : E → GatewayFault)
      → (old.fallen ≡ false → IfErr result (λ e. ThroughFront events (items e) (why e)))
      → (old.fallen ≡ false → IfErr result (λ e. (before : List (ℕ × Answer)) → BreaksOff honest moment left failed old new events before (before ++ items e) (why e)))
      → IfErr result (λ e. TookFirst old.told new.told events (items e))
      → IfErr result (λ e. TakesFront events (items e) (why e))
  run-err (Ok a) events items why through breaks first = tt
  run-err (Err e) events items why through breaks first = takes-front events (items e) (why e) through breaks first

-- ---- call by call

module _ {D : Type 0} (honest : D → Type 0) (moment : D → ℕ) (left : D → ℕ → Files → Type 0) (seen : D → Files) (failed : D → ℕ)
    (reads : (disk : D) → honest disk → left disk (moment disk) (seen disk))
    (earlier : (disk : D) (s t : ℕ) (files : Files) → s ≤ t → left disk t files → left disk s files) (old new : Kept D) where
  -- a flush or a settlement
  module _ {called : D → ℕ} where
    settled-in-life : (end : Result (Unit {0}) GatewayFault) → Syncs honest moment left seen called failed old new end → OnOk end (GoesOnInLife honest moment left seen failed old new old.told.held)
    settled-in-life (Err e) synced = tt
    settled-in-life (Ok a) synced = goes-on-in-life honest moment left seen failed earlier old new old.told.held (flush-carries reads earlier synced)

    flush-ends : (end : Result (Unit {0}) GatewayFault) → Syncs honest moment left seen called failed old new end → OnErr end (EndsLife honest moment left seen failed old new)
    flush-ends (Ok a) synced = tt
    flush-ends (Err e) synced =
        ends-life honest moment left seen failed earlier old new (λ start events out s. (flush-stopped honest moment left seen failed reads earlier start old events out s new e synced).ends)

  -- a compaction
  module _ (was : honest new.disk → honest old.disk) (stays : new.fallen ≡ false → honest old.disk → honest new.disk) (conf : old.fallen ≡ false → honest old.disk → LeavesOnly moment left old.disk new.disk (IsConfigured old.told.config))
      (any : old.fallen ≡ false → honest old.disk → LeavesOnly moment left old.disk new.disk (λ files. Recovers files (lasting old.told.state))) (same : new.told ≡ old.told) where
    pub compact-stops : StopsInLife honest moment left seen failed old new
    compact-stops = stops-in-life honest moment left seen failed earlier old new
        (λ before start events s ready. compact-within honest moment left seen failed reads earlier start old events before s new was stays conf any same ready)

    pub compacted-in-life : {T : Type 0} (r : Result T GatewayFault) → old.told.held ≡ [] → IsErrOf r fault.Device ↔ ((old.fallen ≡ false) × (new.fallen ≡ true))
        → HasCause (failed old.disk) (failed new.disk) (IsErrOf r fault.Device) → OnOk r (GoesOnInLife honest moment left seen failed old new [])
    compacted-in-life (Err e) none fell cause = tt
    compacted-in-life (Ok a) none fell cause = goes-on-in-life honest moment left seen failed earlier old new [] (λ before start events s.
        rw (append-nil events, append-nil before)
        (compacted honest moment left seen failed reads earlier start old events before s new was stays conf any same none (stands-still a fault.Device new.fallen fell s.stands) (cause.others (λ told. absurd cc))))

    pub compact-ends : {T : Type 0} (r : Result T GatewayFault) → OnErr r (EndsLife honest moment left seen failed old new)
    compact-ends (Ok a) = tt
    compact-ends (Err e) = ends-life honest moment left seen failed earlier old new (λ start events out s. compact-stopped honest moment left seen failed reads earlier start old events out s new was stays conf any same)

pub calls-are : {D : Type 0} (honest : D → Type 0) (moment : D → ℕ) (left : D → ℕ → Files → Type 0) (seen : D → Files) (failed : D → ℕ)
    → ((disk : D) → honest disk → left disk (moment disk) (seen disk))
    → ((disk : D) (s t : ℕ) (files : Files) → s ≤ t → left disk t files → left disk s files)
    → CallsAreLives honest moment left seen failed
calls-are honest moment left seen failed reads earlier = record {
  between = λ now. ends-life honest moment left seen failed earlier now now (λ start events out s. ended honest moment left seen failed reads earlier start now events out s);
  at_rest = λ config entry at begun now events given is none.
      let s = is.stands in
      rw (is.events_are, is.given_are)
      (rests-again honest moment left seen config entry at begun is.earlier is.answered is.rested is.rests now is.more is.out s.ran.took
      (record { stands = s.stands; is_honest = s.ran.stays_honest s.stands is.rests.rests.is_honest; none = none }));
  takes = λ old new event given config sound takes disk fallen. (
    stops-in-life honest moment left seen failed earlier old new (still honest moment left failed earlier old new disk),
    takes-all honest moment left seen failed earlier old new (event ∷ []) (handed given)
        (λ before start events s. offered s new event given config sound disk fallen takes.took takes.now),
  );
  syncs = λ called old new end synced. (
    stops-in-life honest moment left seen failed earlier old new (flush-keeps reads earlier synced),
    settled-in-life honest moment left seen failed reads earlier old new end synced,
    flush-ends honest moment left seen failed reads earlier old new end synced,
  );
  carries = λ old new taken out. takes-all honest moment left seen failed earlier old new taken out;
  safe = λ old new. stops-in-life honest moment left seen failed earlier old new;
  stands = λ config entry at begun rested now events more given out rests s. in-life rests s;
  within = λ config entry at begun rested old new events more given out rests s safe. stopped-call rests s new safe;
  through = λ config entry at begun rested old new events more taken judged given out rests s are safe. stopped-through rests s new taken judged are safe;
  ends = λ config entry at begun rested now events more given out rests e. stopped-after rests e earlier;
}
