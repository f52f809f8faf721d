-- A run of turns in the life of a gateway.
use Rattle.std.proofs.Common.{◌≡◌, ℕ, ◌≤◌, List, [], ◌∷◌, ◌++◌, length, sym, subst, ◌∙◌, ap}
use Rattle.disk_model.specs.Disk.{Files}
use Rattle.disk_model.proofs.Moments.{only_now}
use Rattle.durable.specs.Recovery.{IsConfigured}
use Rattle.machine.specs.Laws.{EventsAreJudgedOnce}
use Rattle.machine.specs.declared.event.Answer.{Answer}
use Rattle.gateway.specs.Kept.{IsSafe}
use Rattle.gateway.proofs.Living.{stopped-in}
use Rattle.socket_edge.specs.Progress.{replies}
use Rattle.carrying.specs.Carried.{Carries}
use Rattle.carrying.specs.Lives.{CarryRunsAreLives, CarryStopsAreLives, SettledStopsAreLives}
use Rattle.frames.specs.Answers.{frames}
use Rattle.socket_edge.proofs.Lives.{runs-are}
use Rattle.carrying.specs.Runs.{all_events, all_headers}
use Rattle.carrying.proofs.Joined.{answered_long}
use Rattle.carrying.proofs.Stopping.{at-exit}

module _ {D : Type 0} (honest : D → Type 0) (moment : D → ℕ) (left : D → ℕ → Files → Type 0) (seen : D → Files)
    (earlier : (disk : D) (s t : ℕ) (files : Files) → s ≤ t → left disk t files → left disk s files) (once : EventsAreJudgedOnce) where
  pub stops-are : CarryStopsAreLives honest moment left seen
  unfolding replies
  stops-are config entry at begun old now later events given last before turn lan lan' wan wan' r by =
      let k = by.since r.rests in
      let es = all_events last before in
      let hs = all_headers last before in
      let carries : Carries honest moment left old now es hs lan by.to_lan.0 wan by.to_wan.0 = record {
        answered = by.answered;
        took = by.took;
        none = by.none;
        to_lan = by.to_lan.1;
        to_wan = by.to_wan.1;
        fares = by.until;
      } in
      record {
        until = stopped-in honest moment left seen config entry at begun events given old r es by.took.judged by.answered now.told.held now.disk now.disk by.took.are_judged
            (by.took.order ∙ ap (λ (l : List (ℕ × Answer)). l ++ replies old.told by.took.judged) r.rests.none)
            (at-exit honest moment left old now es hs lan by.to_lan.0 wan by.to_wan.0 carries once r.rests)
            (only_now moment left old.disk now.disk (IsConfigured old.told.config) (earlier now.disk) (by.until.configured r.rests.is_honest r.rests.stands));
        by_then = runs-are honest moment left seen earlier config entry at begun old now events given es (frames by.answered) r by.until;
        front = k.front;
        back = k.back;
        split = k.split;
        judged = k.judged;
        are_judged = k.are_judged;
        reached = k.reached;
        since = stopped-in honest moment left seen config entry at begun events given old r k.front k.judged by.answered k.first.0 now.disk later.disk k.are_judged k.first.1
            (λ files since. (k.since.each files since).2)
            (λ files since. (k.configured.each files since).2);
      }

  pub settled-are : SettledStopsAreLives honest moment left seen
  unfolding replies
  settled-are config entry at begun old now later events given answered last before turn lan lan' wan wan' r by =
      let es = all_events last (before ++ turn ∷ []) in
      let many : length answered ≡ length es = answered_long old.told by.settled.told es answered by.took r.rests.none by.none in
      stopped-in honest moment left seen config entry at begun events given old r es by.took.judged answered by.settled.told.held by.settled.disk later.disk by.took.are_judged
      (by.took.order ∙ ap (λ (l : List (ℕ × Answer)). l ++ replies old.told by.took.judged) r.rests.none)
      (λ files since. subst (λ (n : ℕ). IsSafe old.told.config old.told.state es n files) (sym many) ((by.since r.rests).each files since).2)
      (λ files since. ((by.configured r.rests).each files since).2)

  pub carried-are : CarryRunsAreLives honest moment left seen
  carried-are config entry at begun old new events given ended last asks asks' lan lan' wan wan' handed handed' far far' r run =
      runs-are honest moment left seen earlier config entry at begun old new events given (all_events last (run.turns ++ run.failed)) (frames run.answered ++ run.more) r run.fares
