-- A run that is stopped in its midst.
use Rattle.std.proofs.Common.{◌≡◌, inl, inr, ℕ, ◌+◌, ◌≤◌, List, [], ◌∷◌, ◌++◌, false, length, take, refl, sym, ap, ◌∙◌, subst, arith, append_assoc, length-append}
use Rattle.std.proofs.lemmas.List.{append-nil, nil_from_length}
use Rattle.std.proofs.Math.Seq.{take-length}
use Rattle.disk_model.specs.Disk.{Files, LeavesNow, LeavesOnly}
use Rattle.disk_model.proofs.Moments.{narrows}
use Rattle.packet.specs.Config.{Config}
use Rattle.devices.specs.Handing.{Frames, Hands}
use Rattle.durable.specs.Recovery.{IsConfigured}
use Rattle.frames.specs.Answers.{frames}
use Rattle.machine.specs.Judged.{Judged, AreJudged}
use Rattle.machine.specs.Laws.{EventsAreJudgedOnce}
use Rattle.machine.specs.declared.event.Answer.{Answer}
use Rattle.machine.specs.declared.event.Event.{Event}
use Rattle.machine.proofs.Judging.{AreJudged-append, AreJudged-length}
use Rattle.socket_edge.proofs.Answers.{Reached-then, reached-told}
use Rattle.gateway.specs.Kept.{Kept, IsAtRest, IsSafe}
use Rattle.gateway.specs.Told.{Told, TookAll}
use Rattle.socket_edge.specs.Progress.{replies}
use Rattle.socket_edge.specs.Running.{Fares}
use Rattle.socket_edge.proofs.Answers.{all-once, replies-append, last_of as last_number}
use Rattle.socket_edge.proofs.Lasting.{safe-behind, safe-fewer}
use Rattle.to_devices.proofs.Letting.{Hands-then}
use Rattle.carrying.specs.Carried.{Carries}
use Rattle.carrying.specs.Runs.{AtEachTurn, ComesBy, HandsFirst, all_events, all_headers, last_of}
use Rattle.carrying.specs.Turns.{Turn, events_of, headers_of}
use Rattle.carrying.proofs.Joined.{all_long, answered_long, carries-as, carries-then, events-then, headers-then}
use Rattle.carrying.proofs.Taken.{place_of}

module _ {T : Type 0} where
  -- behind each beginning of these turns as before, and another one behind one turn more
  abbrev by_more : List Turn → (List Turn → T) → T → List Turn → T
  by_more [] f one [] = f []
  by_more [] f one (b ∷ before) = one
  by_more (t ∷ turns) f one [] = f []
  by_more (t ∷ turns) f one (b ∷ before) = by_more turns (λ (ts : List Turn). f (t ∷ ts)) one before

  by_before : (before rest : List Turn) (f : List Turn → T) (one : T) → by_more (before ++ rest) f one before ≡ f before
  by_before [] [] f one = refl
  by_before [] (r ∷ rest) f one = refl
  by_before (b ∷ before) rest f one = by_before before rest (λ (ts : List Turn). f (b ∷ ts)) one

  by_at : (turns before rest : List Turn) (f : List Turn → T) (one : T) → turns ≡ before ++ rest → by_more turns f one before ≡ f before
  by_at turns before rest f one e = ap (λ (ts : List Turn). by_more ts f one before) e ∙ by_before before rest f one

  by_end : (turns : List Turn) (t : Turn) (f : List Turn → T) (one : T) → by_more turns f one (turns ++ t ∷ []) ≡ one
  by_end [] t f one = refl
  by_end (s ∷ turns) t f one = by_end turns t (λ (ts : List Turn). f (s ∷ ts)) one

hands-more : (a b c : Frames) (xs more : List (List ℕ)) → HandsFirst a b xs → Hands b c more → HandsFirst a c xs
hands-more a b c xs more p q = (p.0, p.1, (p.2.0 ++ more, Hands-then p.0 b c p.2.0 more p.2.1 q))

-- what was given out is what the model answers
pub answered_are : (old new : Told) (es : List Event) (out : List (ℕ × Answer)) (t : TookAll old new es out) → old.held ≡ [] → new.held ≡ [] → out ≡ replies old t.judged
unfolding replies
answered_are old new es out t none none' =
    sym (append-nil out) ∙ ap (λ (l : List (ℕ × Answer)). out ++ l) (sym none') ∙ t.order ∙ ap (λ (l : List (ℕ × Answer)). l ++ replies old t.judged) none

module _ {D : Type 0} (honest : D → Type 0) (moment : D → ℕ) (left : D → ℕ → Files → Type 0) where
  -- Turns that were carried, and by which gateways.
  pub record Trail (a b : Kept D) (last : ℕ) (turns : List Turn) (lan lan' wan wan' : Frames) : Type 0 where
    pub carries : Carries honest moment left a b (all_events last turns) (all_headers last turns) lan lan' wan wan'
    pub stops : AtEachTurn honest moment left a b last turns lan lan' wan wan'

  module _ (a b : Kept D) (es : List Event) (hs : List (List ℕ)) (l l' w w' : Frames) (k : Carries honest moment left a b es hs l l' w w') where
    -- a crash at the exit loses none of them
    pub at-exit : EventsAreJudgedOnce → IsAtRest honest a → LeavesNow moment left b.disk (IsSafe a.told.config a.told.state es (length k.answered))
    at-exit once ready =
        let o = k.fares.outlives ready in
        let t = k.took in
        let size : length o.judged ≡ length o.front = AreJudged-length a.told.config o.front o.judged o.are_judged in
        let nothing : o.back ≡ [] = nil_from_length o.back (omega (arith, ap length o.split, length-append o.front o.back, size, o.reached.last, t.last)) in
        let same : es ≡ o.front = o.split ∙ ap (λ (xs : List Event). o.front ++ xs) nothing ∙ append-nil o.front in
        let one : t.judged ≡ o.judged = all-once once a.told.config o.front t.judged o.judged (subst (λ (xs : List Event). AreJudged a.told.config xs t.judged) same t.are_judged) o.are_judged in
        let are : k.answered ≡ replies a.told o.judged = answered_are a.told b.told es k.answered t ready.none k.none ∙ ap (λ (js : List Judged). replies a.told js) one in
        let n = length k.answered in
        let whole : take n (replies a.told o.judged) ≡ k.answered = ap (λ (xs : List (ℕ × Answer)). take n xs) (sym are) ∙ take-length k.answered in
        let many : n ≡ length es = answered_long a.told b.told es k.answered t ready.none k.none in
        subst (λ (xs : List Event). LeavesNow moment left b.disk (IsSafe a.told.config a.told.state xs n)) (sym same)
        (o.at_exit n (omega (arith, many, ap length same)) (omega (arith, ap (λ (xs : List (ℕ × Answer)). length (frames xs)) whole)))

  -- what was carried when the run came by
  pub came : (a now later : Kept D) (last : ℕ) (before : List Turn) (turn : Turn) (l l' w w' : Frames) → (by : ComesBy honest moment left a now later last before turn l l' w w')
      → Carries honest moment left a now (all_events last before) (all_headers last before) l by.to_lan.0 w by.to_wan.0
  came a now later last before turn l l' w w' by = record {
    answered = by.answered;
    took = by.took;
    none = by.none;
    to_lan = by.to_lan.1;
    to_wan = by.to_wan.1;
    fares = by.until;
  }

  module _ (a b c : Kept D) (last : ℕ) (turns : List Turn) (turn : Turn) (l l' l'' w w' w'' : Frames) (xs ys : List (List ℕ)) (t : Trail a b last turns l l' w w') (stands : b.fallen ≡ false)
      (sent : List ℕ) (f : Fares honest moment left b c (events_of (last_of last turns) turn) sent) (to_lan : Hands l' l'' xs) (to_wan : Hands w' w'' ys) where
    abbrev by : List Turn → Kept D
    by before = by_more turns t.stops.by c before

    -- a turn more, which may have failed
    comes-on : ComesBy honest moment left a b c last turns turn l l'' w w''
    comes-on =
        let k = t.carries in
        let es = all_events last turns in
        let js = k.took.judged in
        record {
          answered = k.answered;
          took = k.took;
          none = k.none;
          until = k.fares;
          to_lan = (l', k.to_lan, (xs, to_lan));
          to_wan = (w', k.to_wan, (ys, to_wan));
          since = λ ready.
              let rested : IsAtRest honest b = record { stands = stands; is_honest = k.fares.stays_honest stands ready.is_honest; none = k.none } in
              let o = f.outlives rested in
              let then = replies b.told o.judged in
              let n = length k.answered in
              let long : n ≡ length es = answered_long a.told b.told es k.answered k.took ready.none k.none in
              record {
                front = es ++ o.front;
                back = o.back;
                split = events-then last turns turn ∙ ap (λ (x : List Event). es ++ x) o.split ∙ sym (append_assoc es o.front o.back);
                judged = js ++ o.judged;
                are_judged = AreJudged-append a.told.config es o.front js o.judged k.took.are_judged (subst (λ (i : Config). AreJudged i o.front o.judged) k.took.config o.are_judged);
                reached = Reached-then a.told b.told c.told js o.judged (reached-told a.told b.told es k.answered k.took) o.reached;
                first = (
                  then,
                  ap (λ (x : List (ℕ × Answer)). x ++ then) (answered_are a.told b.told es k.answered k.took ready.none k.none)
                      ∙ sym (replies-append a.told b.told js o.judged k.took.config k.took.state (last_number a.told b.told es k.answered k.took)),
                );
                since = narrows moment left b.disk c.disk (λ before files. IsSafe b.told.config b.told.state o.front 0 files) (λ before files. IsSafe a.told.config a.told.state (es ++ o.front) n files) o.any_moment
                    (λ before files was is. safe-fewer a.told.config a.told.state (es ++ o.front) (length es + 0) n files (omega (arith, long))
                    (safe-behind a.told b.told es o.front js 0 files k.took.are_judged k.took.config k.took.state is));
                configured = subst (λ (i : Config). LeavesOnly moment left b.disk c.disk (IsConfigured i)) k.took.config (f.configured rested.is_honest stands);
              };
        }

    at_before : by turns ≡ b
    at_before = by_at turns turns [] t.stops.by c (sym (append-nil turns)) ∙ t.stops.last

    comes-last : ComesBy honest moment left a (by turns) (by (turns ++ turn ∷ [])) last turns turn l l'' w w''
    comes-last =
        subst (λ (x : Kept D). ComesBy honest moment left a x (by (turns ++ turn ∷ [])) last turns turn l l'' w w'') (sym at_before)
        (subst (λ (x : Kept D). ComesBy honest moment left a b x last turns turn l l'' w w'') (sym (by_end turns turn t.stops.by c)) comes-on)

    -- one of the turns before: the devices were handed more
    comes-earlier : (before rest : List Turn) (u : Turn) → turns ≡ before ++ u ∷ rest → ComesBy honest moment left a (by before) (by (before ++ u ∷ [])) last before u l l'' w w''
    comes-earlier before rest u e =
        let next = before ++ u ∷ [] in
        let p = t.stops.each before u rest e in
        subst (λ (x : Kept D). ComesBy honest moment left a x (by next) last before u l l'' w w'') (sym (by_at turns before (u ∷ rest) t.stops.by c e))
        (subst (λ (x : Kept D). ComesBy honest moment left a (t.stops.by before) x last before u l l'' w w'') (sym (by_at turns next rest t.stops.by c (e ∙ sym (append_assoc before (u ∷ []) rest))))
        (record {
          answered = p.answered;
          took = p.took;
          none = p.none;
          until = p.until;
          to_lan = hands-more l l' l'' _ xs p.to_lan to_lan;
          to_wan = hands-more w w' w'' _ ys p.to_wan to_wan;
          since = p.since;
        }))

    -- the run comes by one gateway more
    pub stops-then : (stops : AtEachTurn honest moment left a c last (turns ++ turn ∷ []) l l'' w w'') × (stops.by turns ≡ b)
    stops-then = (
      record {
        by = by;
        first = by_at turns [] turns t.stops.by c refl ∙ t.stops.first;
        last = by_end turns turn t.stops.by c;
        each = λ before u after e. elim (place_of turns before after turn u e) [
          | inl r ↦ comes-earlier before r.0 u r.1
          | inr m ↦ rw (m.0, m.1) comes-last
        ];
      },
      at_before,
    )

  -- no turn yet
  pub trail-first : (a : Kept D) (last : ℕ) (l w : Frames) (k : Carries honest moment left a a [] [] l l w w) → (trail : Trail a a last [] l l w w) × (trail.carries.answered ≡ k.answered)
  trail-first a last l w k = (
    record {
      carries = k;
      stops = record {
        by = λ (turns : List Turn). a;
        first = refl;
        last = refl;
        each = λ before u after e. absurd (omega (arith, ap length e, length-append before (u ∷ after)));
      };
    },
    refl,
  )

  -- one more
  pub trail-then : (earlier : (disk : D) (s t : ℕ) (files : Files) → s ≤ t → left disk t files → left disk s files)
      → (a b c : Kept D) (last : ℕ) (turns : List Turn) (turn : Turn) (l l' l'' w w' w'' : Frames) → a.fallen ≡ false → b.fallen ≡ false → a.told.held ≡ []
      → (t : Trail a b last turns l l' w w') → (j : Carries honest moment left b c (events_of (last_of last turns) turn) (headers_of (last_of last turns) turn) l' l'' w' w'') → (trail : Trail a c last (turns ++ turn ∷ []) l l'' w w'') × (trail.carries.answered ≡ t.carries.answered ++ j.answered)
  trail-then earlier a b c last turns turn l l' l'' w w' w'' stood stands none t j =
      let m = last_of last turns in
      let all = carries-then honest moment left earlier a b c stood stands none (all_events last turns) (events_of m turn) (all_headers last turns) (headers_of m turn) l l' l'' w w' w'' (all_long last turns) t.carries j in
      let same = carries-as honest moment left a c _ _ _ _ l l'' w w'' (sym (events-then last turns turn)) (sym (headers-then last turns turn)) all.0 in (
        record {
          carries = same.0;
          stops = (stops-then a b c last turns turn l l' l'' w w' w'' _ _ t stands (frames j.answered) j.fares j.to_lan j.to_wan).0;
        },
        same.1 ∙ all.1,
      )
