-- A run of the edge in the life of a gateway.
use Rattle.std.proofs.Common.{ℕ, ◌≤◌, List, ◌++◌, arith, sym, ◌∙◌, ap, subst, append-nil}
use Rattle.disk_model.specs.Disk.{Files}
use Rattle.disk_model.proofs.Moments.{only_now}
use Rattle.durable.specs.Recovery.{IsConfigured}
use Rattle.machine.specs.declared.event.Answer.{Answer}
use Rattle.machine.proofs.Judging.{AreJudged-length}
use Rattle.gateway.specs.Told.{TookAll}
use Rattle.gateway.specs.Living.{IsLived}
use Rattle.gateway.proofs.Living.{rests-again, stopped-first}
use Rattle.socket_edge.specs.Progress.{replies}
use Rattle.socket_edge.specs.Lives.{EdgeRunsAreLives, EdgeStopsAreLives}

module _ {D : Type 0} (honest : D → Type 0) (moment : D → ℕ) (left : D → ℕ → Files → Type 0) (seen : D → Files)
    (earlier : (disk : D) (s t : ℕ) (files : Files) → s ≤ t → left disk t files → left disk s files) where
  pub runs-are : EdgeRunsAreLives honest moment left seen
  unfolding replies
  runs-are config entry at begun old new events given read sent r f =
      let o = f.outlives r.rests in
      let conf = f.configured r.rests.is_honest r.rests.stands in
      record {
        front = o.front;
        back = o.back;
        split = o.split;
        judged = o.judged;
        are_judged = o.are_judged;
        reached = o.reached;
        unsent = o.unsent;
        begins = o.begins;
        within = subst (λ (l : List (ℕ × Answer)). IsLived honest moment left seen config entry at begun (events ++ o.front) l old.disk new.disk) (append-nil given)
            (stopped-first honest moment left seen config entry at begun events given old r old.disk new.disk o.front o.judged 0 o.are_judged (omega arith)
            (λ files since. (o.any_moment.each files since).2) (λ files since. (conf.each files since).2));
        after = λ n le whole. stopped-first honest moment left seen config entry at begun events given old r new.disk new.disk o.front o.judged n o.are_judged le
            (o.at_exit n le whole)
            (only_now moment left old.disk new.disk (IsConfigured old.told.config) (earlier new.disk) conf);
        rests = λ stands.
            let none = f.none r.rests.none stands in
            let took : TookAll old.told new.told o.front (replies old.told o.judged) = record {
              judged = o.judged;
              are_judged = o.are_judged;
              config = o.reached.config;
              state = o.reached.state;
              last = omega (arith, o.reached.last, AreJudged-length old.told.config o.front o.judged o.are_judged);
              order = ap (λ (l : List (ℕ × Answer)). replies old.told o.judged ++ l) none ∙ append-nil (replies old.told o.judged)
                  ∙ ap (λ (l : List (ℕ × Answer)). l ++ replies old.told o.judged) (sym r.rests.none);
            } in
            rests-again honest moment left seen config entry at begun events given old r new o.front (replies old.told o.judged) took
            (record { stands = stands; is_honest = f.stays_honest stands r.rests.is_honest; none = none });
      }

  pub stops-are : EdgeStopsAreLives honest moment left seen
  unfolding replies
  stops-are config entry at begun old now later events given so_far read sent r by =
      let k = by.since r.rests in
      record {
        until = runs-are config entry at begun old now events given so_far sent r by.until;
        front = k.front;
        back = k.back;
        split = k.split;
        judged = k.judged;
        are_judged = k.are_judged;
        reached = k.reached;
        unsent = k.unsent;
        begins = k.begins;
        since = λ n le whole. stopped-first honest moment left seen config entry at begun events given old r now.disk later.disk k.front k.judged n k.are_judged le
            (λ files since. ((k.since n le whole).each files since).2)
            (λ files since. (k.configured.each files since).2);
      }
