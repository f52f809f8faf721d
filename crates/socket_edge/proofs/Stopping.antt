-- A run that is stopped in its midst.
use Rattle.std.proofs.Common.{◌≡◌, inl, inr, ℕ, ◌+◌, ◌-◌, ◌≤◌, List, [], ◌∷◌, ◌++◌, length, refl, sym, ap, ◌∙◌, subst, arith, append_assoc, length-append, append-nil}
use Rattle.std.proofs.lemmas.List.{nil_from_length}
use Rattle.disk_model.specs.Disk.{Files}
use Rattle.machine.specs.declared.event.Event.{Event}
use Rattle.gateway.specs.Kept.{Kept, IsAtRest}
use Rattle.frames.specs.Framing.{EventsAndRest}
use Rattle.socket_edge.specs.Joined.{given_then, taken_then}
use Rattle.socket_edge.specs.Running.{AtEachTurn, MayGoOn, ComesBy, Fares, Preserves, events_in}
use Rattle.socket_edge.specs.Serving.{AsksFirst, AsksOnce, ComesByOne}
use Rattle.socket_edge.specs.Turns.{Turn, Took, WriteFailed, given, taken}
use Rattle.socket_edge.proofs.Behind.{at_behind, at_last, at_mid, at_turn, by_at, by_both, by_first, by_next, by_then}
use Rattle.socket_edge.proofs.Closing.{framed_then_cut}
use Rattle.socket_edge.proofs.Lasting.{fares, preserves-behind, preserves-end, since-entry}
use Rattle.socket_edge.proofs.Runs.{Going, Served-answered, going-ends}
use Rattle.socket_edge.proofs.Talks.{Talked, first-nil, first-then, never_given, never_later, turn_of}

-- ---- turns

-- what was given was given first
first_given : (t : Turn) (middle after : List Turn) → AsksFirst ((t ∷ middle) ++ after) → given ((t ∷ middle) ++ after) ≡ given (t ∷ middle)
first_given t middle after asks =
    let none : given (middle ++ after) ≡ [] = (never_given (middle ++ after) (never_later t (middle ++ after) asks)).0 in
    let last : given after ≡ [] = nil_from_length (given after) (omega (arith, ap length none, ap length (given_then middle after), length-append (given middle) (given after))) in
    given_then (t ∷ middle) after ∙ ap (λ (x : List ℕ). given (t ∷ middle) ++ x) last ∙ append-nil (given (t ∷ middle))

-- by the first of them it takes none
first_takes : (t : Turn) (after : List Turn) → AsksFirst (t ∷ after) → taken (t ∷ []) ≡ []
first_takes (Took bytes) after asks = absurd asks
first_takes WriteFailed after asks = absurd asks
first_takes t after asks = refl

module _ {D : Type 0} (honest : D → Type 0) (moment : D → ℕ) (left : D → ℕ → Files → Type 0)
    (earlier : (disk : D) (s t : ℕ) (files : Files) → s ≤ t → left disk t files → left disk s files) where
  -- ---- with less sent

  fares-fewer : (a b : Kept D) (events : List Event) (short more : List ℕ) → Fares honest moment left a b events (short ++ more) → Fares honest moment left a b events short
  fares-fewer a b events short more f = record {
    was_honest = f.was_honest;
    stays_honest = f.stays_honest;
    configured = f.configured;
    none = f.none;
    outlives = λ ready.
        let o = f.outlives ready in
        record {
          front = o.front;
          back = o.back;
          split = o.split;
          judged = o.judged;
          are_judged = o.are_judged;
          reached = o.reached;
          unsent = more ++ o.unsent;
          begins = sym (append_assoc short more o.unsent) ∙ o.begins;
          any_moment = o.any_moment;
          at_exit = λ n fits whole. o.at_exit n fits (omega (arith, whole, length-append short more));
        };
  }

  preserves-fewer : (a x b : Kept D) (events : List Event) (short more : List ℕ) → Preserves honest moment left a x b events (short ++ more) → Preserves honest moment left a x b events short
  preserves-fewer a x b events short more k = record {
    front = k.front;
    back = k.back;
    split = k.split;
    judged = k.judged;
    are_judged = k.are_judged;
    reached = k.reached;
    unsent = more ++ k.unsent;
    begins = sym (append_assoc short more k.unsent) ∙ k.begins;
    since = λ n fits whole. k.since n fits (omega (arith, whole, length-append short more));
    configured = k.configured;
  }

  by-fewer : (a x b : Kept D) (so_far events : List Event) (short more : List ℕ) → ComesBy honest moment left a x b so_far events (short ++ more) → ComesBy honest moment left a x b so_far events short
  by-fewer a x b so_far events short more by = record { until = fares-fewer a x so_far short more by.until; since = λ ready. preserves-fewer a x b events short more (by.since ready) }

  -- at the end
  by-end : (a b : Kept D) (events : List Event) (sent : List ℕ) → Fares honest moment left a b events sent → ComesBy honest moment left a b b events events sent
  by-end a b events sent f = record { until = f; since = λ ready. preserves-end honest moment left earlier a b events sent f ready }

  pub by-one-end : (a b : Kept D) (events : List Event) (sent : List ℕ) → Fares honest moment left a b events sent → ComesByOne honest moment left a b events sent
  by-one-end a b events sent f = record { now = b; comes = by-end a b events sent f }

  -- ---- a run

  module _ {P : Type 0} (went : P → P → List Turn → Type 0) where
    -- how far it has come with its peer, by turns of which this is so, and what a crash leaves that comes between them
    pub record Walked (so : List Turn → Type 0) (start now : Kept D) (old new : P) (got sent : List ℕ) : Type 0 where
      pub talked : Talked went start.told old new got sent
      pub stops : AtEachTurn honest moment left start now talked.turns
      pub fares : Fares honest moment left start now (events_in got) sent
      pub are : so talked.turns

    pub stops-nil : (start : Kept D) → AtEachTurn honest moment left start start []
    stops-nil start = record { by = λ (before : List Turn). start; first = refl; last = refl; each = λ before t after e. absurd (omega (arith, ap length e, length-append before (t ∷ after))) }

    pub walked-first : (still : (peer : P) → went peer peer []) (start : Kept D) (a : P) → Fares honest moment left start start (events_in []) [] → (so : List Turn → Type 0) → so []
        → Walked so start start a a [] []
    walked-first still start a f so is = record {
      talked = record { turns = []; goes = still a; first = first-nil start.told; gives = refl; takes = refl };
      stops = stops-nil start;
      fares = f;
      are = is;
    }

    module _ (failed : D → ℕ) (further : (a b c : P) (turns more : List Turn) → went a b turns → went b c more → went a c (turns ++ more))
        (start b c : Kept D) (p q r : P) (x y got sent unanswered : List ℕ) (n : ℕ) (so : List Turn → Type 0) (w : Walked so start b p q x y) (g : Going honest moment left failed earlier start b x unanswered y n)
        (f : Fares honest moment left b c (events_in (unanswered ++ got)) sent) (by : ComesByOne honest moment left b c (events_in (unanswered ++ got)) sent) (a : AsksOnce went q r got sent) (idle_is : a.turns ≡ [] → c ≡ b) where
      abbrev ts : List Turn
      ts = w.talked.turns

      abbrev fs : List Event
      fs = events_in (unanswered ++ got)

      abbrev mid : Kept D
      mid = by.now

      abbrev exchange_by : List Turn → Kept D
      exchange_by before = at_turn b mid c a.turns before

      abbrev all_by : List Turn → Kept D
      all_by before = by_both ts w.stops.by (at_turn b mid c a.turns) before

      rested : IsAtRest honest start → IsAtRest honest b
      rested ready = record { stands = g.stands; is_honest = g.stays_honest ready.is_honest; none = g.served.none ready.none }

      together : events_in (x ++ got) ≡ g.served.events ++ fs
      together = ap (λ (e : EventsAndRest). e.events) (g.served.reads.goes got)

      given_are : (more : List Turn) → given more ≡ got → given (ts ++ more) ≡ x ++ got
      given_are more gave = given_then ts more ∙ ap (λ (bytes : List ℕ). bytes ++ given more) w.talked.gives ∙ ap (λ (bytes : List ℕ). x ++ bytes) gave

      taken_are : (more : List Turn) → taken (ts ++ more) ≡ y ++ taken more
      taken_are more = taken_then ts more ∙ ap (λ (bytes : List ℕ). bytes ++ taken more) w.talked.takes

      gave_then : (t : Turn) (middle after : List Turn) → a.turns ≡ (t ∷ middle) ++ after → given (t ∷ middle) ≡ got
      gave_then t middle after e = sym (ap given e ∙ first_given t middle after (subst AsksFirst e a.asks)) ∙ a.gives

      -- what comes behind all of the earlier turns
      later-preserves : (k m : Kept D) (short : List ℕ) → IsAtRest honest start → Preserves honest moment left b k m fs short → Preserves honest moment left start k m (events_in (x ++ got)) (y ++ short)
      later-preserves k m short ready is =
          subst (λ (es : List Event). Preserves honest moment left start k m es (y ++ short)) (sym together)
          (preserves-behind honest moment left earlier start b m g.served.events fs y g.served.progress g.served.none k short ready.none is)

      -- at the read
      at-read : (k : Kept D) → Fares honest moment left b k fs sent → ComesBy honest moment left start b k (events_in x) (events_in (x ++ got)) (y ++ [])
      at-read k fares_k = record {
        until = subst (λ (l : List ℕ). Fares honest moment left start b (events_in x) l) (sym (append-nil y)) w.fares;
        since = λ ready. later-preserves b k [] ready (since-entry honest moment left earlier b k fs sent fares_k (rested ready));
      }

      -- at a write
      at-write : (front after : List Turn) → a.turns ≡ front ++ after → ComesBy honest moment left b mid c fs fs (taken front)
      at-write front after e =
          by-fewer b mid c fs fs (taken front) (taken after)
          (subst (λ (s : List ℕ). ComesBy honest moment left b mid c fs fs s) (sym a.takes ∙ ap taken e ∙ taken_then front after) by.comes)

      until-write : (front after : List Turn) → a.turns ≡ front ++ after → Fares honest moment left start mid (events_in (x ++ got)) (y ++ taken front)
      until-write front after e = going-ends honest moment left failed earlier start b mid x unanswered got y (taken front) n g (at-write front after e).until

      by-write : (front after : List Turn) → a.turns ≡ front ++ after → ComesBy honest moment left start mid c (events_in (x ++ got)) (events_in (x ++ got)) (y ++ taken front)
      by-write front after e = record { until = until-write front after e; since = λ ready. later-preserves mid c (taken front) ready ((at-write front after e).since (rested ready)) }

      exchange : (middle : List Turn) (t : Turn) (after : List Turn) → a.turns ≡ middle ++ t ∷ after
          → ComesBy honest moment left start (exchange_by middle) (exchange_by (middle ++ t ∷ [])) (events_in (given (ts ++ middle))) (events_in (given (ts ++ (middle ++ t ∷ [])))) (taken (ts ++ (middle ++ t ∷ [])))
      exchange [] t after e =
          let before_is : given (ts ++ []) ≡ x = ap given (append-nil ts) ∙ w.talked.gives in
          let given_is : given (ts ++ t ∷ []) ≡ x ++ got = given_are (t ∷ []) (gave_then t [] after e) in
          let taken_is : taken (ts ++ t ∷ []) ≡ y ++ [] = taken_are (t ∷ []) ∙ ap (λ (l : List ℕ). y ++ l) (first_takes t after (subst AsksFirst e a.asks)) in
          rw (before_is, given_is, taken_is)
          (at_behind b mid c a.turns [] after t (λ (k : Kept D). ComesBy honest moment left start b k (events_in x) (events_in (x ++ got)) (y ++ [])) e (at-read mid by.comes.until) (at-read c f))
      exchange (m ∷ middle) t after e =
          let front : List Turn = (m ∷ middle) ++ t ∷ [] in
          let all : a.turns ≡ front ++ after = e ∙ sym (append_assoc (m ∷ middle) (t ∷ []) after) in
          let before_is : given (ts ++ (m ∷ middle)) ≡ x ++ got = given_are (m ∷ middle) (gave_then m middle (t ∷ after) e) in
          let given_is : given (ts ++ front) ≡ x ++ got = given_are front (gave_then m (middle ++ t ∷ []) after all) in
          let so : Kept D → Type 0 = λ (k : Kept D). ComesBy honest moment left start mid k (events_in (x ++ got)) (events_in (x ++ got)) (y ++ taken front) in
          rw (before_is, given_is, taken_are front, at_mid b mid c a.turns middle after m t e)
          (at_behind b mid c a.turns (m ∷ middle) after t so e (by-end start mid (events_in (x ++ got)) (y ++ taken front) (until-write front after all)) (by-write front after all))

      -- one of the earlier turns
      then-earlier : (before rest : List Turn) (t : Turn) → ts ≡ before ++ t ∷ rest
          → ComesBy honest moment left start (all_by before) (all_by (before ++ t ∷ [])) (events_in (given before)) (events_in (given (before ++ t ∷ []))) (taken (before ++ t ∷ []))
      then-earlier before rest t e =
          rw (by_at ts before rest t w.stops.by (at_turn b mid c a.turns) e, by_next ts before rest t w.stops.by (at_turn b mid c a.turns) e w.stops.last) (w.stops.each before t rest e)

      -- one of the later ones
      then-later : (before middle after : List Turn) (t : Turn) → before ≡ ts ++ middle → a.turns ≡ middle ++ t ∷ after
          → ComesBy honest moment left start (all_by before) (all_by (before ++ t ∷ [])) (events_in (given before)) (events_in (given (before ++ t ∷ []))) (taken (before ++ t ∷ []))
      then-later before middle after t is e =
          rw (is, append_assoc ts middle (t ∷ []), by_then ts middle w.stops.by (at_turn b mid c a.turns), by_then ts (middle ++ t ∷ []) w.stops.by (at_turn b mid c a.turns)) (exchange middle t after e)

      pub walked-then : (then : List Turn → Type 0) → then (ts ++ a.turns) → Walked then start c p r (x ++ got) (y ++ sent)
      walked-then then is =
          let t = w.talked in
          let answered : MayGoOn start.told x y = (
            b.told,
            Served-answered start.told b.told x unanswered y n g.served,
            (unanswered, ap (λ (e : EventsAndRest). e.remainder) (framed_then_cut x unanswered g.served.events g.served.reads g.served.cut)),
          ) in
          record {
            talked = record {
              turns = t.turns ++ a.turns;
              goes = further p q r t.turns a.turns t.goes a.goes;
              first = first-then start.told t.turns a.turns t.first
                  (subst (λ (z : List ℕ). MayGoOn start.told z (taken t.turns)) (sym t.gives)
                  (subst (λ (z : List ℕ). MayGoOn start.told x z) (sym t.takes) answered)) a.asks;
              gives = given_then t.turns a.turns ∙ ap (λ (z : List ℕ). z ++ given a.turns) t.gives ∙ ap (λ (z : List ℕ). x ++ z) a.gives;
              takes = taken_then t.turns a.turns ∙ ap (λ (z : List ℕ). z ++ taken a.turns) t.takes ∙ ap (λ (z : List ℕ). y ++ z) a.takes;
            };
            stops = record {
              by = by_both ts w.stops.by (at_turn b mid c a.turns);
              first = by_first ts w.stops.by (at_turn b mid c a.turns) start w.stops.first (sym w.stops.last);
              last = by_then ts a.turns w.stops.by (at_turn b mid c a.turns) ∙ at_last b mid c a.turns idle_is;
              each = λ before turn after e. elim (turn_of ts a.turns before after turn e) [ inl m ↦ then-earlier before m.0 turn m.1 | inr m ↦ then-later before m.0 after turn m.1 m.2 ];
            };
            fares = going-ends honest moment left failed earlier start b c x unanswered got y sent n g f;
            are = is;
          }
