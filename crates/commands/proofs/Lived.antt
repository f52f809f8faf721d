-- Visits in the life of a gateway.
use Rattle.std.proofs.Common.{◌≡◌, ◌≤◌, inl, inr, Result, false, ℕ, zero, suc, List, [], ◌∷◌, ◌++◌, refl, sym, subst, ap, ◌∙◌, append_assoc}
use Rattle.std.proofs.lemmas.List.{append-nil}
use Rattle.packet.specs.Config.{Config}
use Rattle.disk_model.specs.Disk.{Files}
use Rattle.machine.specs.declared.event.Answer.{Answer}
use Rattle.machine.specs.declared.event.Event.{Event}
use Rattle.gateway.specs.Kept.{Kept}
use Rattle.gateway.specs.Living.{IsLived, RestsInLife}
use Rattle.gateway.specs.Told.{Told, TookAll}
use Rattle.socket_edge.specs.Progress.{replies}
use Rattle.socket_edge.specs.Running.{events_in}
use Rattle.socket_edge.specs.Turns.{Turn, given, taken}
use Rattle.socket_edge.specs.declared.fault.EdgeFault.{EdgeFault}
use Rattle.socket_edge.proofs.Lives.{runs-are, stops-are}
use Rattle.refusals.specs.declared.refusal.Refusal.{Refusal}
use Rattle.commands.specs.Lives.{EndIsLife, TookInVisits, VisitIsLife, VisitsAreLives}
use Rattle.commands.specs.Visits.{Idles, ServiceEnds, Visit, Visits}

none-before : (front back : List Event) → [] ≡ front ++ back → front ≡ []
none-before [] back e = refl
none-before (x ∷ front) back e = absurd cc

module _ {C D : Type 0} (honest : D → Type 0) (moment : D → ℕ) (by_crash : D → ℕ → Files → Type 0) (seen : D → Files) (failed : D → ℕ)
    (earlier : (disk : D) (s t : ℕ) (files : Files) → s ≤ t → by_crash disk t files → by_crash disk s files)
    (came : C → C → Type 0) (went : C → C → List Turn → Type 0) (ended : C → Type 0) (left : C → C → Type 0)
    (config : Config) (entry : D) (at : ℕ) (begun : Kept D) where
  between : (old new : Kept D) (events : List Event) (answered : List (ℕ × Answer)) → RestsInLife honest moment by_crash seen config entry at begun events answered old
      → Idles honest moment by_crash old new → IsLived honest moment by_crash seen config entry at begun events answered old.disk new.disk
  between old new events answered r i =
      let run = runs-are honest moment by_crash seen earlier config entry at begun old new events answered [] [] r i.fares in
      let none : events ++ run.front ≡ events = ap (λ (es : List Event). events ++ es) (none-before run.front run.back run.split) ∙ append-nil events in
      subst (λ (es : List Event). IsLived honest moment by_crash seen config entry at begun es answered old.disk new.disk) none run.within

  rests-between : (old new : Kept D) (events : List Event) (answered : List (ℕ × Answer)) → RestsInLife honest moment by_crash seen config entry at begun events answered old
      → Idles honest moment by_crash old new → new.fallen ≡ false → RestsInLife honest moment by_crash seen config entry at begun events answered new
  rests-between old new events answered r i stands = record {
    opened = r.opened;
    took = subst (λ (t : Told). TookAll begun.told t events answered) (sym i.told) r.took;
    rests = record {
      stands = stands;
      is_honest = i.fares.stays_honest stands r.rests.is_honest;
      none = ap (λ (t : Told). t.held) i.told ∙ r.rests.none;
    };
  }

  each : (old new : Kept D) (events : List Event) (answered : List (ℕ × Answer)) (end : Result ℕ EdgeFault) (a b : C) → RestsInLife honest moment by_crash seen config entry at begun events answered old
      → (v : Visit honest moment by_crash failed came went ended left end a b old new) → VisitIsLife honest moment by_crash seen failed came went ended left config entry at begun events answered end a b old new v
  each old new events answered end a b r v =
      let start = rests-between old v.start events answered r v.idles v.meets.stands in
      let turns = v.meets.turns in
      record {
        before = between old v.start events answered r v.idles;
        serves = runs-are honest moment by_crash seen earlier config entry at begun v.start new events answered (events_in (given turns)) (taken turns) start v.meets.fares;
        stops = λ before turn after split.
            let next = before ++ turn ∷ [] in
            stops-are honest moment by_crash seen earlier config entry at begun v.start (v.meets.each_turn.by before) (v.meets.each_turn.by next) events answered
            (events_in (given before)) (events_in (given next)) (taken next) start (v.meets.each_turn.each before turn after split);
      }

  -- what is known behind so many visits
  abbrev Behind : (n : ℕ) (old new : Kept D) (events : List Event) (answered : List (ℕ × Answer)) (a b : C) → Visits honest moment by_crash failed came went ended left n a b old new → Type 0
  Behind n old new events answered a b vs =
      (more : List Event) × (out : List (ℕ × Answer)) × TookInVisits honest moment by_crash seen failed came went ended left n a b old new vs more
      × RestsInLife honest moment by_crash seen config entry at begun (events ++ more) (answered ++ out) new

  rests : (n : ℕ) (old new : Kept D) (events : List Event) (answered : List (ℕ × Answer)) (a b : C) → RestsInLife honest moment by_crash seen config entry at begun events answered old
      → (vs : Visits honest moment by_crash failed came went ended left n a b old new) → Behind n old new events answered a b vs
  rests zero old new events answered a b r vs =
      let still = subst (λ (k : Kept D). RestsInLife honest moment by_crash seen config entry at begun events answered k) (sym vs.1) r in
      let more = subst (λ (es : List Event). RestsInLife honest moment by_crash seen config entry at begun es answered new) (sym (append-nil events)) still in
      ([], [], refl, subst (λ (l : List (ℕ × Answer)). RestsInLife honest moment by_crash seen config entry at begun (events ++ []) l new) (sym (append-nil answered)) more)
  rests (suc n) old new events answered a b r vs =
      let first = rests n old vs.1 events answered a vs.0 r vs.3 in
      let es = events ++ first.0 in
      let out = answered ++ first.1 in
      let serves = (each vs.1 new es out vs.2 vs.0 b first.3 vs.4).serves in
      let front = serves.front in
      let told = replies vs.4.start.told serves.judged in
      let there = subst (λ (xs : List Event). RestsInLife honest moment by_crash seen config entry at begun xs (out ++ told) new) (append_assoc events first.0 front) (serves.rests vs.5.1) in (
        first.0 ++ front,
        first.1 ++ told,
        (first.0, front, serves.back, refl, first.2, serves.split),
        subst (λ (l : List (ℕ × Answer)). RestsInLife honest moment by_crash seen config entry at begun (events ++ (first.0 ++ front)) l new) (append_assoc answered first.1 told) there,
      )

  end-is : (missed : C → C → Type 0) (events : List Event) (answered : List (ℕ × Answer)) (r : Refusal) (a b : C) (old new : Kept D) → RestsInLife honest moment by_crash seen config entry at begun events answered old
      → (e : ServiceEnds honest moment by_crash failed came went ended left missed r a b old new)
      → EndIsLife honest moment by_crash seen failed came went ended left missed config entry at begun events answered r a b old new e
  end-is missed events answered r a b old new rested (inl none) = between old new events answered rested none.idles
  end-is missed events answered r a b old new rested (inr (inl none)) = between old new events answered rested none.idles
  end-is missed events answered r a b old new rested (inr (inr last)) = each old new events answered last.end a b rested last.visit

module _ {C D : Type 0} (honest : D → Type 0) (moment : D → ℕ) (by_crash : D → ℕ → Files → Type 0) (seen : D → Files) (failed : D → ℕ)
    (earlier : (disk : D) (s t : ℕ) (files : Files) → s ≤ t → by_crash disk t files → by_crash disk s files)
    (came : C → C → Type 0) (went : C → C → List Turn → Type 0) (ended : C → Type 0) (left : C → C → Type 0) where
  pub visits-are : (missed : C → C → Type 0) → VisitsAreLives honest moment by_crash seen failed came went ended left missed
  visits-are missed = record {
    between = λ config entry at begun old new events answered r i. between honest moment by_crash seen failed earlier came went ended left config entry at begun old new events answered r i;
    each = λ config entry at begun old new events answered end a b r v. each honest moment by_crash seen failed earlier came went ended left config entry at begun old new events answered end a b r v;
    rests = λ config entry at begun old new events answered n a b r vs. rests honest moment by_crash seen failed earlier came went ended left config entry at begun n old new events answered a b r vs;
    ends = λ config entry at begun old new events answered most r a b rested some.
        let first = rests honest moment by_crash seen failed earlier came went ended left config entry at begun some.count old some.now events answered a some.last rested some.visits in (
          first.0,
          first.1,
          first.2,
          first.3,
          end-is honest moment by_crash seen failed earlier came went ended left config entry at begun missed (events ++ first.0) (answered ++ first.1) r some.last b some.now new first.3 some.ends,
        );
  }
