-- A run of events, call by call.
use Rattle.std.proofs.Common.{◌≡◌, ◌≢◌, ◌⊎◌, ◌↔◌, Result, Ok, Err, inl, inr, ⊎_elim, ℕ, zero, suc, ◌+◌, ◌-◌, ◌^◌, ◌<◌, ◌≤◌, List, [], ◌∷◌, ◌++◌, Bool, true, false, length, take, refl, sym, ◌∙◌, ap, subst, arith, append_assoc, length-append}
use Rattle.std.specs.Prelude.{IsErrOf}
use Rattle.std.proofs.lemmas.Bool.{false≢true}
use Rattle.std.proofs.lemmas.List.{append-nil, nil_from_length, take_all, take-append-le}
use Rattle.packet.specs.Config.{Config, is_config}
use Rattle.disk_model.specs.Disk.{Files, LeavesNow, LeavesOnly, Grew}
use Rattle.disk_model.proofs.Moments.{idle, narrows, only_now, only_then}
use Rattle.durable.specs.Entering.{Durable}
use Rattle.durable.specs.Recovery.{IsConfigured, Recovers}
use Rattle.durable.proofs.Headed.{recovers_once}
use Rattle.snapshot.specs.Store.{RecoversEither}
use Rattle.machine.specs.Judged.{Judged, IsJudged, AreJudged}
use Rattle.machine.specs.Machine.{State, step, answers, numbered}
use Rattle.machine.specs.Noted.{HasEntry, lasting}
use Rattle.machine.specs.Sound.{IsSoundState}
use Rattle.machine.specs.declared.event.Answer.{Answer}
use Rattle.machine.specs.declared.event.Event.{Event}
use Rattle.machine.proofs.Judging.{AreJudged-append, AreJudged-length, AreJudged-one}
use Rattle.gateway.specs.Told.{Told, Took, TookAll, TookFirst}
use Rattle.gateway.specs.declared.given.Given.{Given}
use Rattle.gateway.specs.declared.given.Given.TheVariants.{Now, Held}
use Rattle.gateway.specs.declared.fault.GatewayFault.{GatewayFault}
use Rattle.gateway.specs.declared.fault.GatewayFault.TheVariants as fault
use Rattle.gateway.proofs.Taking.{length-answers, took_more, took_none}
use Rattle.gateway.specs.Given.{IsNow, handed}
use Rattle.gateway.specs.Kept.{Kept, IsAtRest, IsSafe}
use Rattle.gateway.specs.Running.{AgreesWithModel, Ran, Stands, Ends, IsWhy, Stops, StopsWithin, CarriesOn, BreaksOff, SafeThrough, SafeWithin, standing}
use Rattle.gateway.specs.Standing.{Standing, Offers, StandsFor}
use Rattle.gateway.specs.Syncing.{Syncs}
use Rattle.gateway.proofs.Standings.{begun-standing, offered-on, settled-on}

-- ---- the events and their answers

pub more-behind : {T : Type 0} (before xs ys : List T) → length xs ≤ length ys → length (before ++ xs) ≤ length (before ++ ys)
more-behind before xs ys le = omega (arith, le, length-append before xs, length-append before ys)

pub length-numbered : (last : ℕ) (xs : List Answer) → length (numbered last xs) ≡ length xs
length-numbered last [] = refl
length-numbered last (x ∷ xs) = ap suc (length-numbered (last + 1) xs)

-- the answers that were handed out and those that are held are as many as the events, and those held before
pub counted : (old new : Told) (events : List Event) (out : List (ℕ × Answer)) → TookAll old new events out → length out + length new.held ≡ length old.held + length events
counted old new events out t =
    let given = answers old.config old.state t.judged in
    omega (arith, ap length t.order, length-append out new.held, length-append old.held (numbered old.last given), length-numbered, length-answers, AreJudged-length old.config events t.judged t.are_judged)

-- the held answers are handed out
pub took_out : (old now new : Told) (events : List Event) (out : List (ℕ × Answer)) → TookAll old now events out → new ≡ record now { held = [] } → TookAll old new events (out ++ now.held)
took_out old now new events out t same =
    subst (λ (n : Told). TookAll old n events (out ++ now.held)) (sym same)
    (record { judged = t.judged; are_judged = t.are_judged; config = t.config; state = t.state; last = t.last; order = append-nil (out ++ now.held) ∙ t.order })

-- ---- what is safe

judged-take : (config : Config) (n : ℕ) (es : List Event) (js : List Judged) → AreJudged config es js → AreJudged config (take n es) (take n js)
judged-take config zero es js are = tt
judged-take config (suc n) [] [] are = tt
judged-take config (suc n) [] (j ∷ js) are = absurd are
judged-take config (suc n) (e ∷ es) [] are = absurd are
judged-take config (suc n) (e ∷ es) (j ∷ js) are = (are.0, judged-take config n es js are.1)

-- with fewer events answered, and with more to come
pub safe-less : (config : Config) (s : State) (es fs : List Event) (n m : ℕ) (files : Files) → m ≤ n → IsSafe config s es n files → IsSafe config s (es ++ fs) m files
safe-less config s es fs n m files le is = record {
  count = is.count;
  answered = omega (arith, le, is.answered);
  within = omega (arith, is.within, length-append es fs);
  judged = is.judged;
  are_judged = subst (λ (xs : List Event). AreJudged config xs is.judged) (sym (take-append-le is.count es fs is.within)) is.are_judged;
  recovers = is.recovers;
}

safe-fewer : (config : Config) (s : State) (es : List Event) (n m : ℕ) (files : Files) → m ≤ n → IsSafe config s es n files → IsSafe config s es m files
safe-fewer config s es n m files le is = record { count = is.count; answered = omega (arith, le, is.answered); within = is.within; judged = is.judged; are_judged = is.are_judged; recovers = is.recovers }

-- what the files stand for, or the present state
pub safe-either : (config : Config) (s : State) (es : List Event) (js : List Judged) (now : Standing) (files : Files) → AreJudged config es js → StandsFor config s js now
    → RecoversEither now.durable (lasting now.state) files → IsSafe config s es (length es - now.held) files
safe-either config s es js now files are is either =
    let size = AreJudged-length config es js are in
    let k : ℕ = length js - now.held in
    ⊎_elim
    (λ r. record { count = k; answered = omega (arith, size); within = omega (arith, size); judged = take k js; are_judged = judged-take config k es js are; recovers = rw (← is.answered) r })
    (λ r. record { count = length es; answered = omega arith; within = omega arith; judged = js; are_judged = rw (take_all (length es) es (omega arith)) are; recovers = rw (← is.all) r })
    either

pub not-true : (b : Bool) → (b ≡ true → ⊥) → b ≡ false
not-true true up = absurd (up refl)
not-true false up = refl

pub true-false : (b : Bool) → b ≡ true → b ≡ false → ⊥
true-false b up down = false≢true (sym down ∙ up)

-- the fault of a call
pub fault-is : {T : Type 0} {P : Type 0} (why which : GatewayFault) → IsErrOf {T = T} (Err why) which ↔ P → (why ≡ which) ↔ P
fault-is {T = T} why which h = (λ e. h.0 (ap Err e), λ p. let same : ◌≡◌ {A = Result T GatewayFault} (Err why) (Err which) = h.1 p in cc)

pub stands-still : {T : Type 0} {P : Type 0} (x : T) (which : GatewayFault) (fallen : Bool) → IsErrOf (Ok x) which ↔ (P × (fallen ≡ true)) → P → fallen ≡ false
stands-still x which fallen fell p = not-true fallen (λ up. let bad : Ok x ≡ Err which = fell.1 (p, up) in absurd cc)

-- how an event that is taken stands among the calls
pub offers : {D : Type 0} (now next : Kept D) (event : Event) (given : Given) (first : Durable) → (t : Took now.told next.told event given)
    → ((judged : Judged) → IsJudged now.told.config event judged → IsNow given ↔ ((now.told.held ≡ []) × ¬ HasEntry now.told.config now.told.state judged))
    → Offers now.told.config event (standing first now) (standing first next)
offers now next event given first t at_once =
    record { stays = refl; judged = t.judged; is_judged = t.is_judged; steps = t.state; given = stays given t.order (at_once t.judged t.is_judged).0 }
  where
    one : ℕ × Answer
    one = (now.told.last + 1, (step now.told.config now.told.state t.judged).1)

    size : length (now.told.held ++ one ∷ []) ≡ length now.told.held + 1
    size = length-append now.told.held (one ∷ [])

    stays : (g : Given) → handed g ++ next.told.held ≡ now.told.held ++ one ∷ [] → (IsNow g → (now.told.held ≡ []) × ¬ HasEntry now.told.config now.told.state t.judged)
        → (length next.told.held ≡ length now.told.held + 1) ⊎ ((length now.told.held ≡ 0) × (length next.told.held ≡ 0) × ¬ HasEntry now.told.config now.told.state t.judged)
    stays (Now number answer) order quiet = let is = quiet tt in inr (ap length is.0, omega (arith, ap length order, size, ap length is.0), is.1)
    stays (Held number) order quiet = inl (ap length order ∙ size)

-- ---- call by call

-- where fewer than 64 answers are held, nothing is refused for want of places
pub few-fit : {D : Type 0} (now : Kept D) (why : GatewayFault) → length now.told.held < 64
    → (why ≡ fault.HeldFull) ↔ ((now.fallen ≡ false) × (now.told.last < 2 ^ 64 - 1) × (length now.told.held ≡ 64))
    → why ≢ fault.HeldFull
few-fit now why few held is = let n : length now.told.held ≡ 64 = (held.0 is).2 in omega (arith, few, n)

-- a run that stands
module _ {D : Type 0} {honest : D → Type 0} {moment : D → ℕ} {left : D → ℕ → Files → Type 0} {failed : D → ℕ} {start now : Kept D} {events : List Event} {out : List (ℕ × Answer)}
    (s : Stands honest moment left failed start now events out) where
  -- what the files stand for, and the present state, are safe
  pub either : (ready : IsAtRest honest start) (files : Files) → RecoversEither (s.rests ready).durable (lasting now.told.state) files → IsSafe start.told.config start.told.state events (length out) files
  either ready files is =
      let r = s.rests ready in
      let answered : length events - length now.told.held ≡ length out = omega (arith, counted start.told now.told events out s.ran.took, ap length ready.none) in
      subst (λ (n : ℕ). IsSafe start.told.config start.told.state events n files) answered
      (safe-either start.told.config start.told.state events r.judged (standing r.durable now) files r.are_judged r.stands_for is)

  pub left-safe : IsAtRest honest start → LeavesNow moment left now.disk (IsSafe start.told.config start.told.state events (length out))
  left-safe ready files left_now = either ready files (inl ((s.rests ready).leaves files left_now))

  -- an event more is taken
  pub offered : (next : Kept D) (event : Event) (given : Given) → is_config now.told.config ≡ true → IsSoundState now.told.config now.told.state
      → next.disk ≡ now.disk → next.fallen ≡ now.fallen → (t : Took now.told next.told event given)
      → ((judged : Judged) → IsJudged now.told.config event judged → IsNow given ↔ ((now.told.held ≡ []) × ¬ HasEntry now.told.config now.told.state judged))
      → Stands honest moment left failed start next (events ++ event ∷ []) (out ++ handed given)
  offered next event given is_one sound disk fallen t at_once =
      let config = s.ran.took.config in
      record {
        ran = record {
          took = took_more start.told now.told next.told events event out given s.ran.took t;
          stood = s.ran.stood;
          was_honest = subst (λ (d : D). honest d → honest start.disk) (sym disk) s.ran.was_honest;
          stays_honest = λ up h. subst (λ (d : D). honest d) (sym disk) (s.ran.stays_honest s.stands h);
          any_moment = λ ready. subst (λ (d : D). LeavesOnly moment left start.disk d (IsSafe start.told.config start.told.state (events ++ event ∷ []) 0)) (sym disk)
              (narrows moment left start.disk now.disk _ _ (s.ran.any_moment ready) (λ before files was is. safe-less start.told.config start.told.state events (event ∷ []) 0 0 files (omega arith) is));
          configured = λ h. subst (λ (d : D). LeavesOnly moment left start.disk d (IsConfigured start.told.config)) (sym disk) (s.ran.configured h);
        };
        stands = fallen ∙ s.stands;
        no_failure = ap failed disk ∙ s.no_failure;
        rests = λ ready.
            let r = s.rests ready in
            let offer : Offers start.told.config event (standing r.durable now) (standing r.durable next) =
            subst (λ (c : Config). Offers c event (standing r.durable now) (standing r.durable next)) config (offers now next event given r.durable t at_once) in
            record {
              durable = r.durable;
              leaves = subst (λ (d : D). LeavesNow moment left d (λ files. Recovers files r.durable)) (sym disk) r.leaves;
              judged = r.judged ++ offer.judged ∷ [];
              are_judged = AreJudged-append start.told.config events (event ∷ []) r.judged (offer.judged ∷ []) r.are_judged (AreJudged-one start.told.config event offer.judged offer.is_judged);
              stands_for = offered-on start.told.config (subst (λ (c : Config). is_config c ≡ true) config is_one) start.told.state r.judged event (standing r.durable now) (standing r.durable next)
                  (subst (λ (c : Config). IsSoundState c now.told.state) config sound) r.stands_for offer;
            };
      }

  -- a fault changes nothing
  pub refuses : (next : Kept D) (why : GatewayFault) → next ≡ now → IsWhy honest moment left failed start now why → Stops honest moment left failed start next events out why
  refuses next why same is =
      subst (λ (n : Kept D). Stops honest moment left failed start n events out why) (sym same)
      (record { ends = record { ran = s.ran; at_exit = left-safe }; is_why = is; stays = λ other. s })

  -- why it ends: a fault of an offer
  pub offer-why : (why : GatewayFault) → why ≢ fault.HeldFull → (why ≡ fault.Reopen) ↔ (now.fallen ≡ true) → (why ≡ fault.NumbersOut) ↔ ((now.fallen ≡ false) × (now.told.last ≡ 2 ^ 64 - 1))
      → (why ≢ fault.Device) × (why ≢ fault.Generations) → why ≢ fault.Full → IsWhy honest moment left failed start now why
  offer-why why some reopen numbers causes full = record {
    stood = λ is. true-false now.fallen (reopen.0 is) s.stands;
    made_room = (some, full);
    numbers_out = λ is. (numbers.0 is).1;
    fell = (λ d. absurd (causes.0 d), λ up. absurd (true-false now.fallen up s.stands));
    device = λ d. absurd (causes.0 d);
    by_one = omega (arith, s.no_failure);
    generations = λ d. absurd (causes.1 d);
  }

module _ {D : Type 0} (honest : D → Type 0) (moment : D → ℕ) (left : D → ℕ → Files → Type 0) (seen : D → Files) (failed : D → ℕ)
    (reads : (disk : D) → honest disk → left disk (moment disk) (seen disk))
    (earlier : (disk : D) (s t : ℕ) (files : Files) → s ≤ t → left disk t files → left disk s files) (start : Kept D) where
  abbrev Safe : List Event → ℕ → Files → Type 0
  Safe events n = IsSafe start.told.config start.told.state events n

  -- nothing is done yet
  pub begun : start.fallen ≡ false → (honest start.disk → (first : Durable) × Recovers (seen start.disk) first × LeavesNow moment left start.disk (λ files. Recovers files first))
      → (honest start.disk → start.told.held ≡ [] → Recovers (seen start.disk) (lasting start.told.state))
      → (honest start.disk → LeavesNow moment left start.disk (IsConfigured start.told.config)) → Stands honest moment left failed start start [] []
  begun stands recovers present configured =
      let leaves : IsAtRest honest start → LeavesNow moment left start.disk (λ files. Recovers files (lasting start.told.state)) = λ ready files now.
      let is = recovers ready.is_honest in
      subst (Recovers files) (recovers_once.state (seen start.disk) is.0 (lasting start.told.state) is.1 (present ready.is_honest ready.none)) (is.2 files now) in
      record {
        ran = record {
          took = took_none start.told;
          stood = stands;
          was_honest = λ h. h;
          stays_honest = λ up h. h;
          any_moment = λ ready. idle moment left start.disk (Safe [] 0) (λ files now.
              record { count = 0; answered = omega arith; within = omega arith; judged = []; are_judged = tt; recovers = leaves ready files now });
          configured = λ h. idle moment left start.disk (IsConfigured start.told.config) (configured h);
        };
        stands = stands;
        no_failure = refl;
        rests = λ ready. record {
          durable = lasting start.told.state;
          leaves = leaves ready;
          judged = [];
          are_judged = tt;
          stands_for = rw ready.none (begun-standing start.told.config start.told.state);
        };
      }

  module _ (now : Kept D) (events : List Event) (out : List (ℕ × Answer)) (s : Stands honest moment left failed start now events out) where
    ready-now : IsAtRest honest start → honest now.disk
    ready-now ready = s.ran.stays_honest s.stands ready.is_honest

    -- it may end anywhere between calls
    pub ended : Ends honest moment left failed start now events out
    ended = record { ran = s.ran; at_exit = left-safe s }

    -- nothing is held any longer, and the files stand for the present state
    settled : (next : Kept D) → (honest now.disk → LeavesNow moment left next.disk (λ files. Recovers files (lasting now.told.state))) → next.told.state ≡ now.told.state
        → length next.told.held ≡ 0 → IsAtRest honest start → AgreesWithModel honest moment left failed start next events
    settled next leaves same none ready = let r = s.rests ready in record {
      durable = lasting now.told.state;
      leaves = leaves (ready-now ready);
      judged = r.judged;
      are_judged = r.are_judged;
      stands_for = settled-on start.told.config start.told.state r.judged (standing r.durable now) (standing (lasting now.told.state) next) r.stands_for (record { same = same; present = refl; none = none });
    }

    module _ (next : Kept D) (was : honest next.disk → honest now.disk) (stays : next.fallen ≡ false → honest now.disk → honest next.disk)
        (configured : now.fallen ≡ false → honest now.disk → LeavesOnly moment left now.disk next.disk (IsConfigured now.told.config)) where
      configured-within : honest start.disk → LeavesOnly moment left now.disk next.disk (IsConfigured start.told.config)
      configured-within h = subst (λ (c : Config). LeavesOnly moment left now.disk next.disk (IsConfigured c)) s.ran.took.config (configured s.stands (s.ran.stays_honest s.stands h))

      ran-on : (others : List (ℕ × Answer)) → TookAll start.told next.told events others
          → (IsAtRest honest start → LeavesOnly moment left now.disk next.disk (Safe events (length out))) → Ran honest moment left failed start next events others
      ran-on others took safe = record {
        took = took;
        stood = s.ran.stood;
        was_honest = λ h. s.ran.was_honest (was h);
        stays_honest = λ up h. stays up (s.ran.stays_honest s.stands h);
        any_moment = λ ready. only_then moment left start.disk now.disk next.disk _ _ _
            (earlier now.disk) (s.ran.any_moment ready) (safe ready) (λ files is. is) (λ files is. safe-fewer start.told.config start.told.state events (length out) 0 files (omega arith) is);
        configured = λ h. only_then moment left start.disk now.disk next.disk _ _ _ (earlier now.disk) (s.ran.configured h) (configured-within h) (λ files is. is) (λ files is. is);
      }

      ends-on : next.told ≡ now.told → (IsAtRest honest start → LeavesOnly moment left now.disk next.disk (Safe events (length out))) → Ends honest moment left failed start next events out
      ends-on same safe = record {
        ran = ran-on out (subst (λ (t : Told). TookAll start.told t events out) (sym same) s.ran.took) safe;
        at_exit = λ ready. only_now moment left now.disk next.disk (Safe events (length out)) (earlier next.disk) (safe ready);
      }

      -- a compaction
      module _ (any_moment : now.fallen ≡ false → honest now.disk → LeavesOnly moment left now.disk next.disk (λ files. Recovers files (lasting now.told.state)))
          (same : next.told ≡ now.told) where
        compact-safe : IsAtRest honest start → LeavesOnly moment left now.disk next.disk (Safe events (length out))
        compact-safe ready = narrows moment left now.disk next.disk _ _ (any_moment s.stands (ready-now ready)) (λ before files was is. either s ready files (inr is))

        pub compact-within : IsAtRest honest start
            → LeavesOnly moment left now.disk next.disk (Safe events (length out)) × LeavesOnly moment left now.disk next.disk (IsConfigured start.told.config)
        compact-within ready = (compact-safe ready, configured-within ready.is_honest)

        pub compacted : now.told.held ≡ [] → next.fallen ≡ false → failed next.disk ≡ failed now.disk → Stands honest moment left failed start next events out
        compacted none stands no_failure = record {
          ran = (ends-on same compact-safe).ran;
          stands = stands;
          no_failure = no_failure ∙ s.no_failure;
          rests = settled next (λ h. only_now moment left now.disk next.disk _ (earlier next.disk) (any_moment s.stands h)) (ap (λ (t : Told). t.state) same)
              (ap (λ (t : Told). length t.held) same ∙ ap length none);
        }

        pub compact-stopped : Ends honest moment left failed start next events out
        compact-stopped = ends-on same compact-safe

    -- a flush: what a crash leaves of it is safe, whatever comes of it
    module _ {called : D → ℕ} {end : Result (Unit {0}) GatewayFault} (next : Kept D) (e : Syncs honest moment left seen called failed now next end) where
      flush-safe : IsAtRest honest start → LeavesOnly moment left now.disk next.disk (Safe events (length out))
      flush-safe ready =
          let r = s.rests ready in
          let h = ready-now ready in
          narrows moment left now.disk next.disk _ _ (e.any_moment s.stands h r.durable (r.leaves (seen now.disk) (reads now.disk h))) (λ before files was is. either s ready files is)

      pub flush-within : IsAtRest honest start
          → LeavesOnly moment left now.disk next.disk (Safe events (length out)) × LeavesOnly moment left now.disk next.disk (IsConfigured start.told.config)
      flush-within ready = (flush-safe ready, configured-within next e.was_honest e.stays_honest e.configured ready.is_honest)

    pub flushed : {called : D → ℕ} (next : Kept D) → Syncs honest moment left seen called failed now next (Ok tt) → Stands honest moment left failed start next events (out ++ now.told.held)
    flushed next e = record {
      ran = ran-on next e.was_honest e.stays_honest e.configured (out ++ now.told.held) (took_out start.told now.told next.told events out s.ran.took e.none) (flush-safe next e);
      stands = stands-still tt fault.Device next.fallen e.fell s.stands;
      no_failure = e.no_failure ∙ s.no_failure;
      rests = settled next e.ok (ap (λ (t : Told). t.state) e.none) (ap (λ (t : Told). length t.held) e.none);
    }

    -- a fault of a flush is the disk's
    pub flush-stopped : {called : D → ℕ} (next : Kept D) (why : GatewayFault) → Syncs honest moment left seen called failed now next (Err why) → Stops honest moment left failed start next events out why
    flush-stopped next why e =
        let is : why ≡ fault.Device = ⊎_elim (λ r. absurd (true-false now.fallen (e.reopen.0 (ap Err r)) s.stands)) (λ d. d) e.causes in
        record {
          ends = ends-on next e.was_honest e.stays_honest e.configured e.err (flush-safe next e);
          is_why = record {
            stood = λ r. absurd cc;
            made_room = ((λ held. absurd cc), (λ full. absurd cc));
            numbers_out = λ none. absurd cc;
            fell = (λ d. (e.fell.0 (ap Err d)).1, λ up. is);
            device = λ d. subst (λ (n : ℕ). Grew n (failed next.disk)) s.no_failure (e.device (ap Err d));
            by_one = omega (arith, e.by_one, s.no_failure);
            generations = λ none. absurd cc;
          };
          stays = λ other. absurd (other is);
        }

    -- why it ends: a fault of a compaction
    pub compact-why : (next : Kept D) (why : GatewayFault) → (why ≡ fault.Reopen) ↔ (now.fallen ≡ true) → (why ≡ fault.Device) ↔ ((now.fallen ≡ false) × (next.fallen ≡ true))
        → (why ≡ fault.Reopen) ⊎ (why ≡ fault.NoMemory) ⊎ (why ≡ fault.Device) ⊎ (why ≡ fault.Generations) → (why ≡ fault.Device → Grew (failed now.disk) (failed next.disk))
        → failed next.disk ≤ failed now.disk + 1 → (why ≡ fault.Generations → next.generation ≡ 2 ^ 64 - 1) → IsWhy honest moment left failed start next why
    compact-why next why reopen fell causes grew by_one generations = record {
      stood = λ is. true-false now.fallen (reopen.0 is) s.stands;
      made_room = ((λ held. grind arith), (λ full. grind arith));
      numbers_out = λ none. absurd (grind arith);
      fell = (λ d. (fell.0 d).1, λ up. fell.1 (s.stands, up));
      device = λ d. subst (λ (n : ℕ). Grew n (failed next.disk)) s.no_failure (grew d);
      by_one = omega (arith, by_one, s.no_failure);
      generations = generations;
    }

-- ---- several calls

-- what a run that stopped behind the first of the events comes to, said of them all
module _ {D : Type 0} {honest : D → Type 0} {moment : D → ℕ} {left : D → ℕ → Files → Type 0} {failed : D → ℕ} {start now : Kept D} {events : List Event} {out : List (ℕ × Answer)}
    {why : GatewayFault} (s : StopsWithin honest moment left failed start now events out why) where
  pub within-took : TookFirst start.told now.told events out
  within-took = record { front = s.front; back = s.back; split = s.split; took = s.stops.ends.ran.took }

  pub within-any_moment : IsAtRest honest start → LeavesOnly moment left start.disk now.disk (IsSafe start.told.config start.told.state events 0)
  within-any_moment ready =
      rw s.split (narrows moment left start.disk now.disk _ _ (s.stops.ends.ran.any_moment ready) (λ before files was is. safe-less start.told.config start.told.state s.front s.back 0 0 files (omega arith) is))

  pub within-at_exit : IsAtRest honest start → LeavesNow moment left now.disk (IsSafe start.told.config start.told.state events (length out))
  within-at_exit ready files left_now =
      rw s.split (safe-less start.told.config start.told.state s.front s.back (length out) (length out) files (omega arith) (s.stops.ends.at_exit ready files left_now))

-- memory was refused
pub memory-why : {D : Type 0} (honest : D → Type 0) (moment : D → ℕ) (left : D → ℕ → Files → Type 0) (failed : D → ℕ) (start now : Kept D)
    → now.fallen ≡ false → failed now.disk ≡ failed start.disk → IsWhy honest moment left failed start now fault.NoMemory
memory-why honest moment left failed start now stands no_failure = record {
  stood = λ is. absurd cc;
  made_room = ((λ is. absurd cc), (λ is. absurd cc));
  numbers_out = λ is. absurd cc;
  fell = ((λ is. absurd cc), λ up. absurd (true-false now.fallen up stands));
  device = λ is. absurd cc;
  by_one = omega (arith, no_failure);
  generations = λ is. absurd cc;
}

-- memory was refused before any event
pub refused : {D : Type 0} {honest : D → Type 0} {moment : D → ℕ} {left : D → ℕ → Files → Type 0} {failed : D → ℕ} {now : Kept D} (events : List Event) (out : List (ℕ × Answer))
    → Stands honest moment left failed now now [] [] → out ≡ [] → StopsWithin honest moment left failed now now events out fault.NoMemory
refused {honest = honest} {moment = moment} {left = left} {failed = failed} {now = now} events out s none = record {
  front = [];
  back = events;
  split = refl;
  stops = subst (λ (l : List (ℕ × Answer)). Stops honest moment left failed now now [] l fault.NoMemory) (sym none) (refuses s now fault.NoMemory refl (memory-why honest moment left failed now now s.stands s.no_failure));
}

module _ {D : Type 0} (honest : D → Type 0) (moment : D → ℕ) (left : D → ℕ → Files → Type 0) (failed : D → ℕ) where
  -- through no events
  pub carries-none : (old new : Kept D) (before out : List (ℕ × Answer))
      → ((start : Kept D) (events : List Event) → Stands honest moment left failed start old events before → Stands honest moment left failed start new events out)
      → CarriesOn honest moment left failed old new [] before out
  carries-none old new before out on = λ start events s.
      subst (λ (es : List Event). Stands honest moment left failed start new es out) (sym (append-nil events)) (on start events s)

  pub carries-then : (old mid new : Kept D) (one more : List Event) (before between out : List (ℕ × Answer))
      → CarriesOn honest moment left failed old mid one before between → CarriesOn honest moment left failed mid new more between out
      → CarriesOn honest moment left failed old new (one ++ more) before out
  carries-then old mid new one more before between out first next = λ start events s.
      subst (λ (es : List Event). Stands honest moment left failed start new es out) (append_assoc events one more) (next start (events ++ one) (first start events s))

  -- before the first of the events
  pub breaks-here : (old new : Kept D) (more : List Event) (before out : List (ℕ × Answer)) (why : GatewayFault)
      → ((start : Kept D) (events : List Event) → Stands honest moment left failed start old events before → Stops honest moment left failed start new events out why)
      → BreaksOff honest moment left failed old new more before out why
  breaks-here old new more before out why off = λ start events s.
      ([], more, refl, subst (λ (es : List Event). Stops honest moment left failed start new es out why) (sym (append-nil events)) (off start events s))

  -- where a fault changes nothing
  pub breaks-same : (old new : Kept D) (more : List Event) (why : GatewayFault) → new ≡ old
      → ((start : Kept D) (events : List Event) (out : List (ℕ × Answer)) → Stands honest moment left failed start old events out → IsWhy honest moment left failed start old why)
      → (before : List (ℕ × Answer)) → BreaksOff honest moment left failed old new more before before why
  breaks-same old new more why same is before = breaks-here old new more before before why (λ start events s. refuses s new why same (is start events before s))

  pub breaks-then : (old mid new : Kept D) (one more : List Event) (before between out : List (ℕ × Answer)) (why : GatewayFault)
      → CarriesOn honest moment left failed old mid one before between → BreaksOff honest moment left failed mid new more between out why
      → BreaksOff honest moment left failed old new (one ++ more) before out why
  breaks-then old mid new one more before between out why first next = λ start events s.
      let off = next start (events ++ one) (first start events s) in (
        one ++ off.0,
        off.1,
        ap (λ (es : List Event). one ++ es) off.2 ∙ sym (append_assoc one off.0 off.1),
        subst (λ (es : List Event). Stops honest moment left failed start new es out why) (append_assoc events one off.0) off.3,
      )

  -- more events would have come
  pub breaks-before : (old new : Kept D) (more rest : List Event) (before out : List (ℕ × Answer)) (why : GatewayFault)
      → BreaksOff honest moment left failed old new more before out why → BreaksOff honest moment left failed old new (more ++ rest) before out why
  breaks-before old new more rest before out why off = λ start events s.
      let is = off start events s in
      (is.0, is.1 ++ rest, ap (λ (es : List Event). es ++ rest) is.2 ∙ append_assoc is.0 is.1 rest, is.3)

  -- behind others, and with more to come
  pub breaks-last : (old mid new : Kept D) (all one call rest : List Event) (before between out : List (ℕ × Answer)) (why : GatewayFault) → all ≡ one ++ (call ++ rest)
      → CarriesOn honest moment left failed old mid one before between → BreaksOff honest moment left failed mid new call between out why
      → BreaksOff honest moment left failed old new all before out why
  breaks-last old mid new all one call rest before between out why split first next =
      subst (λ (es : List Event). BreaksOff honest moment left failed old new es before out why) (sym split)
      (breaks-then old mid new one (call ++ rest) before between out why first (breaks-before mid new call rest between out why next))

  -- by a call that takes none of its events
  pub breaks-none : (mid new : Kept D) (call : List Event) (between out : List (ℕ × Answer)) (why : GatewayFault) → BreaksOff honest moment left failed mid new call between out why
      → new.told.last ≡ mid.told.last → (start : Kept D) (events : List Event) → Stands honest moment left failed start mid events between
      → Stops honest moment left failed start new events out why
  breaks-none mid new call between out why off same start events s =
      let is = off start events s in
      let none : is.0 ≡ [] = nil_from_length is.0 (omega (arith, same, s.ran.took.last, is.3.ends.ran.took.last, length-append events is.0)) in
      subst (λ (es : List Event). Stops honest moment left failed start new es out why) (ap (λ (l : List Event). events ++ l) none ∙ append-nil events) is.3

  -- within a call, with events that it may not take
  pub within-through : (old new : Kept D) (more : List Event) (before : List (ℕ × Answer)) → SafeWithin honest moment left failed old new before
      → SafeThrough honest moment left failed old new more before
  within-through old new more before safe = λ start events s ready.
      let both = safe start events s ready in (
        narrows moment left old.disk new.disk (λ was files. IsSafe start.told.config start.told.state events (length before) files)
            (λ was files. IsSafe start.told.config start.told.state (events ++ more) (length before) files) both.0
            (λ was files then is. safe-less start.told.config start.told.state events more (length before) (length before) files (omega arith) is),
        both.1,
      )

  module _ (earlier : (disk : D) (s t : ℕ) (files : Files) → s ≤ t → left disk t files → left disk s files) where
    -- calls that take events, and then others
    pub through-then : (old mid new : Kept D) (one more : List Event) (before between : List (ℕ × Answer)) → SafeThrough honest moment left failed old mid one before
        → CarriesOn honest moment left failed old mid one before between → length before ≤ length between → SafeThrough honest moment left failed mid new more between
        → SafeThrough honest moment left failed old new (one ++ more) before
    through-then old mid new one more before between first on le next = λ start events s ready.
        let was = first start events s ready in
        let then = next start (events ++ one) (on start events s) ready in (
          only_then moment left old.disk mid.disk new.disk _ _ _ (earlier mid.disk) was.0 then.0
              (λ files is. rw (← append_assoc events one more) (safe-less start.told.config start.told.state (events ++ one) more (length before) (length before) files (omega arith) is))
              (λ files is. rw (← append_assoc events one more) (safe-fewer start.told.config start.told.state ((events ++ one) ++ more) (length between) (length before) files le is)),
          only_then moment left old.disk mid.disk new.disk _ _ _ (earlier mid.disk) was.1 then.1 (λ files is. is) (λ files is. is),
        )

    -- calls that take events, and then one that takes none
    pub through-last : (old mid new : Kept D) (one : List Event) (before between : List (ℕ × Answer)) → SafeThrough honest moment left failed old mid one before
        → CarriesOn honest moment left failed old mid one before between → length before ≤ length between → SafeWithin honest moment left failed mid new between
        → SafeThrough honest moment left failed old new one before
    through-last old mid new one before between first on le next =
        subst (λ (es : List Event). SafeThrough honest moment left failed old new es before) (append-nil one)
        (through-then old mid new one [] before between first on le (within-through mid new [] between next))

    -- one call within which a run is safe, and then another
    pub within-then : (old mid new : Kept D) (before between : List (ℕ × Answer)) → SafeWithin honest moment left failed old mid before → CarriesOn honest moment left failed old mid [] before between
        → length before ≤ length between → SafeWithin honest moment left failed mid new between → SafeWithin honest moment left failed old new before
    within-then old mid new before between first on more next = λ start events s ready.
        subst (λ (es : List Event). LeavesOnly moment left old.disk new.disk (IsSafe start.told.config start.told.state es (length before)) × LeavesOnly moment left old.disk new.disk (IsConfigured start.told.config))
        (append-nil events) (through-last old mid new [] before between (within-through old mid [] before first) on more next start events s ready)

    -- within a call that makes no call of the disk
    pub still : (old new : Kept D) → new.disk ≡ old.disk → (before : List (ℕ × Answer)) → SafeWithin honest moment left failed old new before
    still old new same before = λ start events s ready.
        subst (λ (d : D). LeavesOnly moment left old.disk d (IsSafe start.told.config start.told.state events (length before)) × LeavesOnly moment left old.disk d (IsConfigured start.told.config)) (sym same)
        (idle moment left old.disk _ (left-safe s ready), idle moment left old.disk _ (only_now moment left start.disk old.disk _ (earlier old.disk) (s.ran.configured ready.is_honest)))

    -- a call behind others, which took the first of these events
    module _ (old mid new : Kept D) (all one rest : List Event) (out : List (ℕ × Answer)) (split : all ≡ one ++ rest)
        (carries : (before : List (ℕ × Answer)) → CarriesOn honest moment left failed old mid one before (before ++ out))
        (through : (before : List (ℕ × Answer)) → SafeThrough honest moment left failed old mid one before)
        (any : (before : List (ℕ × Answer)) → SafeWithin honest moment left failed mid new (before ++ out)) where
      pub behind-through : (before : List (ℕ × Answer)) → SafeThrough honest moment left failed old new all before
      behind-through before =
          let le : length before ≤ length (before ++ out) = omega (arith, length-append before out) in
          subst (λ (es : List Event). SafeThrough honest moment left failed old new es before) (sym split)
          (through-then old mid new one rest before (before ++ out) (through before) (carries before) le (within-through mid new rest (before ++ out) (any before)))

      -- it takes none of its events
      pub behind-front : (call : List Event) (others : List (ℕ × Answer)) (why : GatewayFault) → Stands honest moment left failed old old [] [] → BreaksOff honest moment left failed mid new call out others why
          → new.told.last ≡ mid.told.last
          → (stops : StopsWithin honest moment left failed old new all others why) × ((before : List (ℕ × Answer)) → SafeThrough honest moment left failed old new stops.front before)
      behind-front call others why begins breaks same = (
        record { front = one; back = rest; split = split; stops = breaks-none mid new call out others why breaks same old one (carries [] old [] begins) },
        λ before.
            let le : length before ≤ length (before ++ out) = omega (arith, length-append before out) in
            through-last old mid new one before (before ++ out) (through before) (carries before) le (any before),
      )

module _ {D : Type 0} {honest : D → Type 0} {moment : D → ℕ} {left : D → ℕ → Files → Type 0} {seen : D → Files} {called failed : D → ℕ}
    (reads : (disk : D) → honest disk → left disk (moment disk) (seen disk))
    (earlier : (disk : D) (s t : ℕ) (files : Files) → s ≤ t → left disk t files → left disk s files) {old new : Kept D} where
  -- a flush
  pub flush-keeps : {end : Result (Unit {0}) GatewayFault} → Syncs honest moment left seen called failed old new end → (before : List (ℕ × Answer)) → SafeWithin honest moment left failed old new before
  flush-keeps e before = λ start events s ready. flush-within honest moment left seen failed reads earlier start old events before s new e ready

  pub flush-carries : Syncs honest moment left seen called failed old new (Ok tt) → (before : List (ℕ × Answer)) → CarriesOn honest moment left failed old new [] before (before ++ old.told.held)
  flush-carries e before =
      carries-none honest moment left failed old new before (before ++ old.told.held) (λ start events s. flushed honest moment left seen failed reads earlier start old events before s new e)

  pub flush-breaks : (why : GatewayFault) → Syncs honest moment left seen called failed old new (Err why) → (before : List (ℕ × Answer)) → BreaksOff honest moment left failed old new [] before before why
  flush-breaks why e before =
      breaks-here honest moment left failed old new [] before before why (λ start events s. flush-stopped honest moment left seen failed reads earlier start old events before s new why e)
