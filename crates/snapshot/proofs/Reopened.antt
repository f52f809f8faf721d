-- Openings one after another keep what the files stand for.
use Rattle.std.proofs.Common.{◌≡◌, ◌≢◌, ℕ, List, [], ◌∷◌, subst}
use Rattle.std.specs.Prelude.{Result, Ok, Err, IfOk, IfErr, MatchResult}
use Rattle.packet.specs.Config.{Config}
use Rattle.disk_model.specs.Disk.{Files, Leaves, LeavesNow, LeavesOnly}
use Rattle.durable.specs.Entering.{Durable, durable}
use Rattle.durable.specs.Recovery.{Alike, IsConfigured, Recovers}
use Rattle.durable.proofs.Headed.{recovers_once}
use Rattle.snapshot.specs.Reopening.{StandFor, Opening, IsOpening, LeftBehind, AreInARow}
use Rattle.snapshot.specs.Store.{HasLatest, Keeps}
use Rattle.snapshot.specs.declared.fault.OpenFault.{OpenFault}
use Rattle.snapshot.specs.declared.fault.OpenFault.TheVariants as open_fault
use Rattle.snapshot.specs.declared.store.Opened.{Opened}

module _ {D : Type 0} (moment : D → ℕ) (left : D → ℕ → Files → Type 0) (config : Config) where
  pub left_behind : (d : Durable) (openings : List (Opening D)) → AreInARow moment left config d openings → (files : Files) → LeftBehind moment left config d openings files → StandFor config d files
  left_behind d [] row files lies = lies
  left_behind d (latest ∷ earlier) row files lies =
      let from = row.0.any_moment.each files lies in
      let had = left_behind d earlier row.2 from.0 (row.1 from.0 from.1) in
      let configured = row.0.configured (λ each now. (left_behind d earlier row.2 each (row.1 each now)).1) in
      ((from.2 d).0 had.0, (configured.each files lies).2)

  -- what a call says of an opening, once it has come to its end
  module _ (seen : D → Files) (disk : D) where
    pub is_opening : (r : Result (Opened D) (D × OpenFault)) → MatchResult r (λ o. Leaves moment left disk o.store.disk Alike) (λ e. Leaves moment left disk e.0 Alike)
        → (LeavesNow moment left disk (IsConfigured config) → MatchResult r (λ o. LeavesOnly moment left disk o.store.disk (IsConfigured config)) (λ e. LeavesOnly moment left disk e.0 (IsConfigured config)))
        → MatchResult r (λ o. IsOpening moment left config (record { entry = disk; exit = o.store.disk })) (λ e. IsOpening moment left config (record { entry = disk; exit = e.0 }))
    is_opening (Ok o) any_moment configured = record { any_moment = any_moment; configured = configured }
    is_opening (Err e) any_moment configured = record { any_moment = any_moment; configured = configured }

    module _ (d : Durable) (now : StandFor config d (seen disk)) where
      pub found_again : (r : Result (Opened D) (D × OpenFault)) → IfOk r (λ o. Recovers (seen disk) (durable o.text.items o.sessions.items) × Keeps moment left seen o.store (durable o.text.items o.sessions.items))
          → IfOk r (λ o. LeavesNow moment left o.store.disk HasLatest)
          → IfOk r (λ o. (durable o.text.items o.sessions.items ≡ d) × LeavesNow moment left o.store.disk (λ files. Recovers files d × HasLatest files))
      found_again (Err e) ok current = tt
      found_again (Ok o) ok current =
          let same = recovers_once.state (seen disk) (durable o.text.items o.sessions.items) d ok.0 now.0 in
          (same, λ files left_now. (subst (λ (e : Durable). Recovers files e) same (ok.1.leaves files left_now), current files left_now))

      pub not_refused : (r : Result (Opened D) (D × OpenFault)) → IfErr r (λ e. e.1 ≡ open_fault.Damaged → (e : Durable) → ¬ Recovers (seen disk) e)
          → IfErr r (λ e. e.1 ≡ open_fault.ConfigDiffers → (e : Durable) × Recovers (seen disk) e × ¬ IsConfigured config (seen disk))
          → IfErr r (λ e. (e.1 ≢ open_fault.Damaged) × (e.1 ≢ open_fault.ConfigDiffers))
      not_refused (Ok o) damaged differs = tt
      not_refused (Err e) damaged differs = (λ is. damaged is d now.0, λ is. (differs is).2 now.1)
