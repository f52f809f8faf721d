-- Calls that put what they hand out behind a list.
use Rattle.std.proofs.Common.{◌≡◌, ℕ, ◌≤◌, List, [], ◌++◌, length, refl, sym, ◌∙◌, ap, subst, arith, append_assoc, length-append}
use Rattle.std.proofs.lemmas.List.{append-nil}
use Rattle.disk_model.specs.Disk.{Files}
use Rattle.machine.specs.declared.event.Answer.{Answer}
use Rattle.machine.specs.declared.event.Event.{Event}
use Rattle.gateway.specs.Kept.{Kept}
use Rattle.gateway.specs.declared.fault.GatewayFault.{GatewayFault}
use Rattle.gateway.specs.Running.{BreaksOff, CarriesOn, FailsBehind, PutsBehind, SafeWithin}
use Rattle.gateway.proofs.Runs.{breaks-before, breaks-then, carries-none, carries-then, within-then}

module _ {D : Type 0} {honest : D → Type 0} {moment : D → ℕ} {left : D → ℕ → Files → Type 0} {failed : D → ℕ} where
  -- said of runs of which the answers in the list were the last that were handed out
  pub puts-at : {old new : Kept D} {events : List Event} {list list' : List (ℕ × Answer)} → PutsBehind honest moment left failed old new events list list'
      → (before : List (ℕ × Answer)) → CarriesOn honest moment left failed old new events (before ++ list) (before ++ list')
  puts-at {old = old} {new = new} {events = events} {list = list} p before =
      subst (λ (l : List (ℕ × Answer)). CarriesOn honest moment left failed old new events (before ++ list) l) (append_assoc before list p.out ∙ ap (λ (l : List (ℕ × Answer)). before ++ l) (sym p.behind))
      (p.carries (before ++ list))

  pub fails-at : {old new : Kept D} {events : List Event} {list list' : List (ℕ × Answer)} {why : GatewayFault} → FailsBehind honest moment left failed old new events list list' why
      → (before : List (ℕ × Answer)) → BreaksOff honest moment left failed old new events (before ++ list) (before ++ list') why
  fails-at {old = old} {new = new} {events = events} {list = list} {why = why} p before =
      subst (λ (l : List (ℕ × Answer)). BreaksOff honest moment left failed old new events (before ++ list) l why) (append_assoc before list p.out ∙ ap (λ (l : List (ℕ × Answer)). before ++ l) (sym p.behind))
      (p.breaks (before ++ list))

  -- nothing is handed out
  pub puts-here : {old new : Kept D} {events : List Event} (list : List (ℕ × Answer)) → ((before : List (ℕ × Answer)) → CarriesOn honest moment left failed old new events before before)
      → PutsBehind honest moment left failed old new events list list
  puts-here {old = old} {new = new} {events = events} list carries = record {
    out = [];
    behind = sym (append-nil list);
    carries = λ before. subst (λ (l : List (ℕ × Answer)). CarriesOn honest moment left failed old new events before l) (sym (append-nil before)) (carries before);
  }

  pub fails-here : {old new : Kept D} {events : List Event} {why : GatewayFault} (list : List (ℕ × Answer)) → ((before : List (ℕ × Answer)) → BreaksOff honest moment left failed old new events before before why)
      → FailsBehind honest moment left failed old new events list list why
  fails-here {old = old} {new = new} {events = events} {why = why} list breaks = record {
    out = [];
    behind = sym (append-nil list);
    breaks = λ before. subst (λ (l : List (ℕ × Answer)). BreaksOff honest moment left failed old new events before l why) (sym (append-nil before)) (breaks before);
  }

  -- nor is anything done
  pub puts-none : (now : Kept D) (list : List (ℕ × Answer)) → PutsBehind honest moment left failed now now [] list list
  puts-none now list = puts-here list (λ before. carries-none honest moment left failed now now before before (λ start events s. s))

  -- more events would have come
  pub fails-before : {old new : Kept D} {list list' : List (ℕ × Answer)} {why : GatewayFault} (more : List Event) → FailsBehind honest moment left failed old new [] list list' why → FailsBehind honest moment left failed old new more list list' why
  fails-before {old = old} {new = new} {why = why} more p =
      record { out = p.out; behind = p.behind; breaks = λ before. breaks-before honest moment left failed old new [] more before (before ++ p.out) why (p.breaks before) }

  -- one call behind another
  pub puts-then : {old mid new : Kept D} {one more : List Event} {list between list' : List (ℕ × Answer)} → PutsBehind honest moment left failed old mid one list between → PutsBehind honest moment left failed mid new more between list'
      → PutsBehind honest moment left failed old new (one ++ more) list list'
  puts-then {old = old} {mid = mid} {new = new} {one = one} {more = more} {list = list} p q = record {
    out = p.out ++ q.out;
    behind = q.behind ∙ ap (λ (l : List (ℕ × Answer)). l ++ q.out) p.behind ∙ append_assoc list p.out q.out;
    carries = λ before.
        subst (λ (l : List (ℕ × Answer)). CarriesOn honest moment left failed old new (one ++ more) before l) (append_assoc before p.out q.out)
        (carries-then honest moment left failed old mid new one more before (before ++ p.out) ((before ++ p.out) ++ q.out) (p.carries before) (q.carries (before ++ p.out)));
  }

  pub fails-then : {old mid new : Kept D} {one more : List Event} {list between list' : List (ℕ × Answer)} {why : GatewayFault} → PutsBehind honest moment left failed old mid one list between
      → FailsBehind honest moment left failed mid new more between list' why → FailsBehind honest moment left failed old new (one ++ more) list list' why
  fails-then {old = old} {mid = mid} {new = new} {one = one} {more = more} {list = list} {why = why} p q = record {
    out = p.out ++ q.out;
    behind = q.behind ∙ ap (λ (l : List (ℕ × Answer)). l ++ q.out) p.behind ∙ append_assoc list p.out q.out;
    breaks = λ before.
        subst (λ (l : List (ℕ × Answer)). BreaksOff honest moment left failed old new (one ++ more) before l why) (append_assoc before p.out q.out)
        (breaks-then honest moment left failed old mid new one more before (before ++ p.out) ((before ++ p.out) ++ q.out) why (p.carries before) (q.breaks (before ++ p.out)));
  }

  -- a run is safe within both
  pub safe-then : (earlier : (disk : D) (s t : ℕ) (files : Files) → s ≤ t → left disk t files → left disk s files) {old mid : Kept D} (new : Kept D) {list list' : List (ℕ × Answer)}
      → ((before : List (ℕ × Answer)) → SafeWithin honest moment left failed old mid before) → PutsBehind honest moment left failed old mid [] list list'
      → ((before : List (ℕ × Answer)) → SafeWithin honest moment left failed mid new before) → (before : List (ℕ × Answer)) → SafeWithin honest moment left failed old new before
  safe-then earlier {old = old} {mid = mid} new first p next before =
      within-then honest moment left failed earlier old mid new before (before ++ p.out) (first before) (p.carries before) (omega (arith, length-append before p.out)) (next (before ++ p.out))
