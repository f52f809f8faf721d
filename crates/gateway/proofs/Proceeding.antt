-- Events that are taken in their caller's bytes, and what is settled for them.
use Rattle.std.proofs.Common.{◌≡◌, ◌≢◌, Result, Ok, Err, ℕ, ◌<◌, ◌≤◌, List, [], ◌∷◌, ◌++◌, length, true, refl, sym, ◌∙◌, ap, subst, arith, append_assoc, length-append}
use Rattle.std.specs.Prelude.{IfErr, IfOk}
use Rattle.std.proofs.lemmas.List.{append-nil, nil_from_length}
use Rattle.packet.specs.Config.{is_config}
use Rattle.disk_model.specs.Disk.{Files}
use Rattle.machine.specs.Sound.{IsSoundState}
use Rattle.machine.specs.declared.event.Answer.{Answer}
use Rattle.machine.specs.declared.event.Event.{Event}
use Rattle.gateway.specs.Given.{IsNow, answer_given, given_by, handed}
use Rattle.gateway.specs.Kept.{Kept}
use Rattle.gateway.specs.Running.{BreaksOff, CarriesOn, Fails, Proceeds, SafeWithin}
use Rattle.gateway.specs.Taking.{Refuses, TakesInPlace}
use Rattle.gateway.specs.declared.fault.GatewayFault.{GatewayFault}
use Rattle.gateway.specs.declared.fault.GatewayFault.TheVariants as fault
use Rattle.gateway.specs.declared.given.GivenInPlace.{GivenInPlace}
use Rattle.gateway.specs.declared.given.GivenInPlace.TheVariants.{Held, Now}
use Rattle.gateway.proofs.Runs.{breaks-before, breaks-same, breaks-then, carries-none, carries-then, memory-why, offer-why, offered, within-then}

-- what is said of the error that there is
pub err-both : {T E : Type 0} (P Q R : E → Type 0) (r : Result T E) → IfErr r P → IfErr r Q → ((e : E) → P e → Q e → R e) → IfErr r R
err-both P Q R (Ok x) p q on = tt
err-both P Q R (Err e) p q on = on e p q

-- what is answered at once leaves nothing held
taken-alone : {D : Type 0} (old new : Kept D) (event : Event) (taken : GivenInPlace) (packet : List ℕ) → TakesInPlace old new event taken packet → IsNow (given_by taken packet) → new.told.held ≡ []
taken-alone old new event (Now number fate) packet t is =
    let alone = ap length ((t.takes.now t.takes.took.judged t.takes.took.is_judged).0 tt).0 in
    nil_from_length new.told.held (omega (arith, ap length t.answer, alone, length-append old.told.held (answer_given (Now number fate) packet ∷ [])))
taken-alone old new event (Held number fate) packet t is = absurd is

none-out : (taken : GivenInPlace) (packet : List ℕ) (now : List (ℕ × Answer)) → (IsNow (given_by taken packet) → now ≡ []) → 1 < length now → handed (given_by taken packet) ≡ []
none-out (Now number fate) packet now none more = let alone = ap length (none tt) in absurd (omega (arith, more, alone))
none-out (Held number fate) packet now none more = refl

module _ {D : Type 0} (honest : D → Type 0) (moment : D → ℕ) (left : D → ℕ → Files → Type 0) (failed : D → ℕ) where
  -- all that was held is settled
  pub proceeds-settled : (old new : Kept D) → ((before : List (ℕ × Answer)) → CarriesOn honest moment left failed old new [] before (before ++ old.told.held))
      → new.told.held ≡ [] → Proceeds honest moment left failed old new [] []
  proceeds-settled old new carries none = record {
    out = old.told.held;
    order = ap (λ (held : List (ℕ × Answer)). old.told.held ++ held) none;
    few = λ more. let empty = ap length none in absurd (omega (arith, more, empty));
    carries = carries;
  }

  -- nothing is handed out
  pub proceeds-held : (old new : Kept D) → ((before : List (ℕ × Answer)) → CarriesOn honest moment left failed old new [] before before)
      → new.told.held ≡ old.told.held → Proceeds honest moment left failed old new [] []
  proceeds-held old new carries same = record {
    out = [];
    order = same ∙ sym (append-nil old.told.held);
    few = λ more. refl;
    carries = λ before. subst (λ (out : List (ℕ × Answer)). CarriesOn honest moment left failed old new [] before out) (sym (append-nil before)) (carries before);
  }

  pub fails-held : (old new : Kept D) (events : List Event) (why : GatewayFault) → ((before : List (ℕ × Answer)) → BreaksOff honest moment left failed old new events before before why)
      → new.told.held ≡ old.told.held → new.told.state ≡ old.told.state → new.told.last ≡ old.told.last → Fails honest moment left failed old new events why
  fails-held old new events why breaks same state last = record {
    out = [];
    order = same;
    few = λ more. refl;
    breaks = λ before. subst (λ (out : List (ℕ × Answer)). BreaksOff honest moment left failed old new events before out why) (sym (append-nil before)) (breaks before);
    state = state;
    last = last;
  }

  -- nothing is done
  pub proceeds-none : (now : Kept D) → Proceeds honest moment left failed now now [] []
  proceeds-none now = proceeds-held now now (λ before. carries-none honest moment left failed now now before before (λ start events s. s)) refl

  -- memory was refused before the gateway was asked
  pub fails-unasked : (now : Kept D) (events : List Event) → Fails honest moment left failed now now events fault.NoMemory
  fails-unasked now events =
      fails-held now now events fault.NoMemory (breaks-same honest moment left failed now now events fault.NoMemory refl
      (λ start past out s. memory-why honest moment left failed start now s.stands s.no_failure)) refl refl refl

  module _ (old new : Kept D) (event : Event) where
    -- an event is taken
    pub proceeds-taken : {E : Type 0} (r : Result GivenInPlace E) (packet : List ℕ) → is_config old.told.config ≡ true → IsSoundState old.told.config old.told.state
        → new ≡ record old { told = new.told; filled = new.filled } → IfOk r (λ taken. TakesInPlace old new event taken packet)
        → IfOk r (λ taken. Proceeds honest moment left failed old new (event ∷ []) (answer_given taken packet ∷ []))
    proceeds-taken (Err e) packet is_one sound beside t = tt
    proceeds-taken (Ok taken) packet is_one sound beside t = record {
      out = handed (given_by taken packet);
      order = t.answer;
      few = none-out taken packet new.told.held (taken-alone old new event taken packet t);
      carries = λ before start events s. offered s new event (given_by taken packet) is_one sound (ap (λ (g : Kept D). g.disk) beside) (ap (λ (g : Kept D). g.fallen) beside) t.takes.took t.takes.now;
    }

    -- or it isn't
    pub fails-refused : (why : GatewayFault) → why ≢ fault.HeldFull → new ≡ old → Refuses old event why → why ≢ fault.Full → Fails honest moment left failed old new (event ∷ []) why
    fails-refused why some same refused full =
        fails-held old new (event ∷ []) why
        (breaks-same honest moment left failed old new (event ∷ []) why same (λ start events out s. offer-why s why some refused.reopen refused.numbers_out refused.causes full))
        (ap (λ (g : Kept D). g.told.held) same) (ap (λ (g : Kept D). g.told.state) same) (ap (λ (g : Kept D). g.told.last) same)

pub none-taken : {D E : Type 0} (old new : Kept D) (event : Event) (r : Result GivenInPlace E) (packet : List ℕ) → IfOk r (λ taken. TakesInPlace old new event taken packet)
    → IfOk r (λ taken. IsNow (given_by taken packet) → new.told.held ≡ [])
none-taken old new event (Err e) packet t = tt
none-taken old new event (Ok taken) packet t = taken-alone old new event taken packet t

-- more events would have come
pub fails-before : {D : Type 0} {honest : D → Type 0} {moment : D → ℕ} {left : D → ℕ → Files → Type 0} {failed : D → ℕ} {old new : Kept D} {why : GatewayFault} (events : List Event)
    → Fails honest moment left failed old new [] why → Fails honest moment left failed old new events why
fails-before {honest = honest} {moment = moment} {left = left} {failed = failed} {old = old} {new = new} {why = why} events off = record {
  out = off.out;
  order = off.order;
  few = off.few;
  breaks = λ before. breaks-before honest moment left failed old new [] events before (before ++ off.out) why (off.breaks before);
  state = off.state;
  last = off.last;
}

-- behind what was settled
module _ {D : Type 0} {honest : D → Type 0} {moment : D → ℕ} {left : D → ℕ → Files → Type 0} {failed : D → ℕ} {old mid : Kept D} (first : Proceeds honest moment left failed old mid [] []) where
  rest : mid.told.held ≢ [] → first.out ≡ []
  rest some = first.few (more mid.told.held some)
    where
      more : (held : List (ℕ × Answer)) → held ≢ [] → 0 < length held
      more [] none = absurd (none refl)
      more (one ∷ held) none = omega arith

  out-first : (held others now : List (ℕ × Answer)) → others ++ now ≡ mid.told.held ++ held → (first.out ++ others) ++ now ≡ old.told.held ++ held
  out-first held others now order =
      append_assoc first.out others now ∙ ap (λ (l : List (ℕ × Answer)). first.out ++ l) order ∙ sym (append_assoc first.out mid.told.held held)
      ∙ ap (λ (l : List (ℕ × Answer)). l ++ held) (first.order ∙ append-nil old.told.held)

  pub proceeds-then : {new : Kept D} {events : List Event} {answers : List (ℕ × Answer)} → Proceeds honest moment left failed mid new events answers → Proceeds honest moment left failed old new events answers
  proceeds-then {new = new} {events = events} {answers = answers} next = record {
    out = first.out ++ next.out;
    order = out-first answers next.out new.told.held next.order;
    few = λ more.
        let none = next.few more in
        let long = ap length next.order in
        let both = length-append mid.told.held answers in
        let handed_none = ap length none in
        let split = length-append next.out new.told.held in
        let others = rest (λ empty. let e = ap length empty in absurd (omega (arith, more, long, both, handed_none, split, e))) in
        ap (λ (l : List (ℕ × Answer)). l ++ next.out) others ∙ none;
    carries = λ before.
        subst (λ (out : List (ℕ × Answer)). CarriesOn honest moment left failed old new events before out) (append_assoc before first.out next.out)
        (carries-then honest moment left failed old mid new [] events before (before ++ first.out) ((before ++ first.out) ++ next.out) (first.carries before) (next.carries (before ++ first.out)));
  }

  pub fails-then : {new : Kept D} {events : List Event} {why : GatewayFault} → mid.told.state ≡ old.told.state → mid.told.last ≡ old.told.last → Fails honest moment left failed mid new events why
      → Fails honest moment left failed old new events why
  fails-then {new = new} {events = events} {why = why} state last next = record {
    out = first.out ++ next.out;
    order = append_assoc first.out next.out new.told.held ∙ ap (λ (l : List (ℕ × Answer)). first.out ++ l) next.order ∙ first.order ∙ append-nil old.told.held;
    few = λ some.
        let none = next.few some in
        let others = rest (λ empty. some (nil_from_length new.told.held
        (let long = ap length next.order in let e = ap length empty in let split = length-append next.out new.told.held in omega (arith, long, e, split)))) in
        ap (λ (l : List (ℕ × Answer)). l ++ next.out) others ∙ none;
    breaks = λ before.
        subst (λ (out : List (ℕ × Answer)). BreaksOff honest moment left failed old new events before out why) (append_assoc before first.out next.out)
        (breaks-then honest moment left failed old mid new [] events before (before ++ first.out) ((before ++ first.out) ++ next.out) why (first.carries before) (next.breaks (before ++ first.out)));
    state = next.state ∙ state;
    last = next.last ∙ last;
  }

  pub safe-then : (new : Kept D) → ((disk : D) (s t : ℕ) (files : Files) → s ≤ t → left disk t files → left disk s files)
      → ((before : List (ℕ × Answer)) → SafeWithin honest moment left failed old mid before) → ((before : List (ℕ × Answer)) → SafeWithin honest moment left failed mid new before)
      → (before : List (ℕ × Answer)) → SafeWithin honest moment left failed old new before
  safe-then new earlier one then before =
      within-then honest moment left failed earlier old mid new before (before ++ first.out) (one before) (first.carries before)
      (omega (arith, length-append before first.out)) (then (before ++ first.out))
