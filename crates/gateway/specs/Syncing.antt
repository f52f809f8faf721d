-- What a sync of the answers that are held comes to.
use Rattle.std.specs.Prelude.{◌≡◌, ◌≢◌, ◌↔◌, ◌⊎◌, ℕ, ◌+◌, ◌≤◌, [], false, true, Result, Ok, Err, OnErr, OnOk, IfErr, IsErrOf}
use Rattle.disk_model.specs.Disk.{Called, Files, Grew, LeavesNow, LeavesOnly}
use Rattle.durable.specs.Entering.{Durable}
use Rattle.durable.specs.Recovery.{IsConfigured, Recovers}
use Rattle.snapshot.specs.Store.{RecoversEither}
use Rattle.machine.specs.Noted.{lasting}
use Rattle.gateway.specs.declared.fault.GatewayFault.{GatewayFault}
use Rattle.gateway.specs.declared.fault.GatewayFault.TheVariants as gateway_fault
use Rattle.gateway.specs.Kept.{Kept}

-- that a call ended well, or with which fault
abbrev pub end_of : {T E : Type 0} → Result T E → Result (Unit {0}) E
end_of (Ok x) = Ok tt
end_of (Err e) = Err e

module _ {D : Type 0} (honest : D → Type 0) (moment : D → ℕ) (left : D → ℕ → Files → Type 0) (seen : D → Files)
    (called failed : D → ℕ) where
  -- The group of what is held was synced, and nothing is held any longer; or a fault came, and all is held still. If
  -- nothing is held, no call of the disk is made.
  pub record Syncs (old new : Kept D) (end : Result (Unit {0}) GatewayFault) : Type 0 where
    pub was_honest : honest new.disk → honest old.disk
    pub stays_honest : new.fallen ≡ false → honest old.disk → honest new.disk
    -- a crash at any moment leaves the state that the files stood for, or the present one
    pub any_moment : old.fallen ≡ false → honest old.disk → (durable : Durable)
        → Recovers (seen old.disk) durable
        → LeavesOnly moment left old.disk new.disk (RecoversEither durable (lasting old.told.state))
    pub configured : old.fallen ≡ false → honest old.disk
        → LeavesOnly moment left old.disk new.disk (IsConfigured old.told.config)
    pub ok : honest old.disk
        → OnOk end (LeavesNow moment left new.disk (λ files. Recovers files (lasting old.told.state)))
    pub reads : honest old.disk → OnOk end (Recovers (seen new.disk) (lasting old.told.state))
    pub none : OnOk end (new.told ≡ record old.told { held = [] })
    pub generation : new.generation ≡ old.generation
    pub err : OnErr end (new.told ≡ old.told)
    pub reopen : IsErrOf end gateway_fault.Reopen ↔ (old.fallen ≡ true)
    pub reopen_stays : IsErrOf end gateway_fault.Reopen → new ≡ old
    pub fell : IsErrOf end gateway_fault.Device ↔ ((old.fallen ≡ false) × (new.fallen ≡ true))
    pub causes : IfErr end (λ e. (e ≡ gateway_fault.Reopen) ⊎ (e ≡ gateway_fault.Device))
    pub device : IsErrOf end gateway_fault.Device → Grew (failed old.disk) (failed new.disk)
    pub by_one : failed new.disk ≤ failed old.disk + 1
    pub no_failure : OnOk end (failed new.disk ≡ failed old.disk)
    -- the group that was written has 5 bytes beside its entries
    pub filled : honest old.disk → old.told.held ≢ [] → OnOk end (new.filled ≡ old.filled + 5)
    pub idle : old.told.held ≡ [] → (new.disk ≡ old.disk) × (new.filled ≡ old.filled)
    pub calls : honest old.disk → old.told.held ≢ []
        → OnOk end (Called 4 (called old.disk) (called new.disk))
