-- One client after the other.
use Rattle.std.proofs.Common.{◌≡◌, ◌≢◌, ◌↔◌, ◌⊎◌, inl, inr, Result, Ok, Err, IfErr, OnOk, ℕ, zero, suc, ◌+◌, ◌-◌, ◌^◌, ◌<◌, ◌≤◌, List, [], false, true, refl, sym, subst, ap, ◌∙◌, arith}
use Rattle.std.specs.Bool.{⊤}
use Rattle.disk_model.specs.Disk.{Files, Grew, LeavesOnly}
use Rattle.durable.specs.Recovery.{IsConfigured, Recovers}
use Rattle.machine.specs.Noted.{lasting}
use Rattle.gateway.specs.declared.fault.GatewayFault.{GatewayFault}
use Rattle.gateway.specs.declared.fault.GatewayFault.TheVariants as fault
use Rattle.gateway.specs.Kept.{Kept}
use Rattle.gateway.specs.Running.{Stands}
use Rattle.gateway.specs.Told.{Told}
use Rattle.gateway.proofs.Runs.{compact-stopped, compact-why, true-false}
use Rattle.socket_edge.specs.Running.{Explains, RunEnded}
use Rattle.socket_edge.specs.Turns.{Turn, given, taken}
use Rattle.socket_edge.specs.declared.fault.EdgeFault.{EdgeFault}
use Rattle.socket_edge.specs.declared.fault.EdgeFault.TheVariants as edge_fault
use Rattle.socket_edge.proofs.Lasting.{fares}
use Rattle.socket_edge.proofs.Runs.{fallen-fares}
use Rattle.socket_edge.proofs.Tending.{idle-fares}
use Rattle.refusals.specs.declared.refusal.Refusal.{Refusal}
use Rattle.refusals.specs.declared.refusal.Refusal.TheVariants as refusal
use Rattle.refusals.specs.declared.stop.Stop.{Stop}
use Rattle.commands.specs.Faults.{IsOfGateway}
use Rattle.commands.specs.Visits.{EndHasCause, EndsService, GoesOn, Idles, MeetsNone, ServiceEnds, SomeUnseenVisits, SomeVisits, UnseenVisits, Visit, Visits}

-- ---- between two clients

module _ {D : Type 0} (honest : D → Type 0) (moment : D → ℕ) (by_crash : D → ℕ → Files → Type 0) (seen : D → Files) (failed : D → ℕ)
    (reads : (disk : D) → honest disk → by_crash disk (moment disk) (seen disk))
    (earlier : (disk : D) (s t : ℕ) (files : Files) → s ≤ t → by_crash disk t files → by_crash disk s files) (old : Kept D) where
  -- it had fallen
  pub fallen-idles : old.fallen ≡ true → Idles honest moment by_crash old old
  fallen-idles down = record { told = refl; fares = fallen-fares honest moment by_crash failed earlier old [] down }

  pub fallen-meets-none : old.fallen ≡ true → MeetsNone honest moment by_crash failed fault.Reopen old old
  fallen-meets-none down = record {
    faults = inl refl;
    reopen = ((λ is. down), (λ is. refl));
    stays = λ other. refl;
    grown = λ stands. absurd (true-false old.fallen down stands);
    why = λ stands. absurd (true-false old.fallen down stands);
  }

  -- it did nothing
  pub still-idles : Stands honest moment by_crash failed old old [] [] → Idles honest moment by_crash old old
  still-idles s = record { told = refl; fares = idle-fares honest moment by_crash seen failed reads earlier old s [] }

  -- it was compacted, whatever came of it
  module _ (s : Stands honest moment by_crash failed old old [] []) (new : Kept D) where
    pub compacted-idles : (honest new.disk → honest old.disk) → (new.fallen ≡ false → honest old.disk → honest new.disk)
        → (old.fallen ≡ false → honest old.disk → LeavesOnly moment by_crash old.disk new.disk (IsConfigured old.told.config))
        → (old.fallen ≡ false → honest old.disk → LeavesOnly moment by_crash old.disk new.disk (λ files. Recovers files (lasting old.told.state)))
        → (same : new.told ≡ old.told) → old.told.held ≡ [] → Idles honest moment by_crash old new
    compacted-idles was stays configured any_moment same none = record {
      told = same;
      fares = fares honest moment by_crash failed old new [] [] [] [] [] []
          (compact-stopped honest moment by_crash seen failed reads earlier old old [] [] s new was stays configured any_moment same) refl refl
          (λ up. ap (λ (told : Told). told.held) same ∙ none);
    }

    pub compacted-meets-none : (why : GatewayFault) → (why ≡ fault.Reopen) ↔ (old.fallen ≡ true) → (why ≡ fault.Device) ↔ ((old.fallen ≡ false) × (new.fallen ≡ true))
        → (why ≡ fault.Reopen) ⊎ (why ≡ fault.NoMemory) ⊎ (why ≡ fault.Device) ⊎ (why ≡ fault.Generations) → (why ≡ fault.Device → Grew (failed old.disk) (failed new.disk))
        → failed new.disk ≤ failed old.disk + 1 → (why ≡ fault.Generations → old.generation ≡ 2 ^ 64 - 1) → (why ≢ fault.Device → new ≡ old) → why ≢ fault.NoMemory → 1048576 < old.grown
        → MeetsNone honest moment by_crash failed why old new
    compacted-meets-none why reopen fell causes grew by_one last stays room grown = record {
      faults = elim causes [
        | inl is ↦ inl is
        | inr (inl is) ↦ absurd (room is)
        | inr (inr is) ↦ inr is
      ];
      reopen = reopen;
      stays = stays;
      grown = λ stands. grown;
      why = λ stands. compact-why honest moment by_crash seen failed reads earlier old old [] [] s new why reopen fell causes grew by_one
          (λ is. ap (λ (k : Kept D). k.generation) (stays (λ device. let bad : fault.Generations ≡ fault.Device = sym is ∙ device in absurd cc)) ∙ last is);
    }

-- ---- one client, and several

-- what a run said that knew more of the input's end
run-ended : (P Q : Type 0) → (P → Q) → (r : Result ℕ EdgeFault) (old new : Told) (bytes sent : List ℕ) → RunEnded r old new bytes sent P → RunEnded r old new bytes sent Q
run-ended P Q f (Ok count) old new bytes sent x = record { answered = x.answered; whole = x.whole; count_is = x.count_is; ended = f x.ended }
run-ended P Q f (Err edge_fault.BadKind) old new bytes sent x = x
run-ended P Q f (Err edge_fault.BadInterface) old new bytes sent x = x
run-ended P Q f (Err edge_fault.TooLong) old new bytes sent x = x
run-ended P Q f (Err edge_fault.Truncated) old new bytes sent x = (x.0, x.1, x.2, x.3, f x.4)
run-ended P Q f (Err edge_fault.Input) old new bytes sent x = x
run-ended P Q f (Err edge_fault.Output) old new bytes sent x = x
run-ended P Q f (Err (edge_fault.Gateway why)) old new bytes sent x = x

module _ {D : Type 0} (honest : D → Type 0) (moment : D → ℕ) (by_crash : D → ℕ → Files → Type 0) (failed : D → ℕ) where
  pub cause-of : (r : Result ℕ EdgeFault) (old new : Kept D) → OnOk r ((old.fallen ≡ false) × (new.fallen ≡ false)) → OnOk r (failed new.disk ≡ failed old.disk)
      → IfErr r (λ e. Explains honest moment by_crash failed e old new) → EndHasCause honest moment by_crash failed r old new
  cause-of (Ok count) old new stands none why = (stands.1, none)
  cause-of (Err e) old new stands none why = why

  -- the gateway has fallen behind an end that tells something else
  pub ends-fallen : (end : Result ℕ EdgeFault) (gateway : Kept D) (r : Refusal) → IfErr end (λ e. ¬ IsOfGateway e) → gateway.fallen ≡ true → r ≡ refusal.Reopen → EndsService end gateway r
  ends-fallen (Ok count) gateway r other down is = (down, is)
  ends-fallen (Err edge_fault.BadKind) gateway r other down is = (down, is)
  ends-fallen (Err edge_fault.BadInterface) gateway r other down is = (down, is)
  ends-fallen (Err edge_fault.TooLong) gateway r other down is = (down, is)
  ends-fallen (Err edge_fault.Truncated) gateway r other down is = (down, is)
  ends-fallen (Err edge_fault.Input) gateway r other down is = (down, is)
  ends-fallen (Err edge_fault.Output) gateway r other down is = (down, is)
  ends-fallen (Err (edge_fault.Gateway why)) gateway r other down is = absurd (other tt)

  module _ {C : Type 0} (came : C → C → Type 0) (went : C → C → List Turn → Type 0) (ended : C → Type 0) (left : C → C → Type 0) where
    pub visits-next : (n : ℕ) (a b c : C) (old now new : Kept D) → Visits honest moment by_crash failed came went ended left n a b old now
        → (end : Result ℕ EdgeFault) × Visit honest moment by_crash failed came went ended left end b c now new × GoesOn end new
        → Visits honest moment by_crash failed came went ended left (n + 1) a c old new
    visits-next n a b c old now new vs v =
        let more : suc n ≡ n + 1 = omega arith in
        let all : Visits honest moment by_crash failed came went ended left (suc n) a c old new = (b, now, v.0, vs, v.1, v.2) in
        subst (λ (k : ℕ). Visits honest moment by_crash failed came went ended left k a c old new) more all

    -- ---- nothing is seen of the clients

    pub unseen-visit : (end : Result ℕ EdgeFault) (a b : C) (old new : Kept D) → Visit honest moment by_crash failed came went ended left end a b old new
        → Visit honest moment by_crash failed {C = Unit {0}} (λ a b. ⊤) (λ a b turns. ⊤) (λ a. ⊤) (λ a b. ⊤) end tt tt old new
    unseen-visit end a b old new v =
        let m = v.meets in
        record {
          start = v.start;
          idles = v.idles;
          meets = record {
            stands = m.stands;
            met = tt;
            comes = tt;
            last = tt;
            turns = m.turns;
            goes = tt;
            ran = run-ended (ended m.last) ⊤ (λ at_end. tt) end v.start.told new.told (given m.turns) (taken m.turns) m.ran;
            first = m.first;
            fares = m.fares;
            each_turn = m.each_turn;
            last_turn = m.last_turn;
            bytes = m.bytes;
            cause = m.cause;
            leaves = tt;
          };
        }

    pub unseen : (n : ℕ) (a b : C) (old new : Kept D) → Visits honest moment by_crash failed came went ended left n a b old new → UnseenVisits honest moment by_crash failed n old new
    unseen zero a b old new vs = (refl, vs.1)
    unseen (suc n) a b old new vs = (tt, vs.1, vs.2, unseen n a vs.0 old vs.1 vs.3, unseen-visit vs.2 vs.0 b vs.1 new vs.4, vs.5)

    pub unseen-ok : (r : Result (Unit {0}) Stop) (n : ℕ) (a b : C) (old new : Kept D) → OnOk r (Visits honest moment by_crash failed came went ended left n a b old new)
        → OnOk r (UnseenVisits honest moment by_crash failed n old new)
    unseen-ok (Ok done) n a b old new vs = unseen n a b old new vs
    unseen-ok (Err stop) n a b old new vs = tt

    module _ (missed : C → C → Type 0) where
      pub unseen-end : (r : Refusal) (a b : C) (old new : Kept D) → ServiceEnds honest moment by_crash failed came went ended left missed r a b old new
          → ServiceEnds honest moment by_crash failed {C = Unit {0}} (λ a b. ⊤) (λ a b turns. ⊤) (λ a. ⊤) (λ a b. ⊤) (λ a b. ⊤) r tt tt old new
      unseen-end r a b old new is = elim is [
        | inl none ↦ inl (record { same = refl; idles = none.idles; fault = none.fault; told = none.told; cause = none.cause })
        | inr more ↦ elim more [
          | inl none ↦ inr (inl (record { none = tt; idles = none.idles; stands = none.stands; told = none.told }))
          | inr last ↦ inr (inr (record { end = last.end; visit = unseen-visit last.end a b old new last.visit; told = last.told }))
        ]
      ]

      pub some-unseen : (most : ℕ) (r : Refusal) (a b : C) (old new : Kept D) → SomeVisits honest moment by_crash failed came went ended left missed most r a b old new
          → SomeUnseenVisits honest moment by_crash failed most r old new
      some-unseen most r a b old new s = record {
        count = s.count;
        few = s.few;
        last = tt;
        now = s.now;
        visits = unseen s.count a s.last old s.now s.visits;
        ends = unseen-end r s.last b s.now new s.ends;
      }

      pub unseen-err : (r : Result (Unit {0}) Stop) (most : ℕ) (a b : C) (old new : Kept D) → IfErr r (λ stop. SomeVisits honest moment by_crash failed came went ended left missed most stop.refusal a b old new)
          → IfErr r (λ stop. SomeUnseenVisits honest moment by_crash failed most stop.refusal old new)
      unseen-err (Ok done) most a b old new vs = tt
      unseen-err (Err stop) most a b old new vs = some-unseen most stop.refusal a b old new vs
