-- The calls of the disk in memory go as the disk model says.
use Rattle.std.proofs.Common.{◌≡◌, ◌≢◌, ◌⊎◌, inl, inr, ⊎_elim, ℕ, ◌/◌, ◌<◌, min, List, length, take, refl, sym, ◌∙◌, ap, subst, arith, length-take}
use Rattle.std.specs.Prelude.{Result, Ok, Err, OnOk, OnErr}
use Rattle.disk_model.specs.declared.disk.FileId.{FileId}
use Rattle.disk_model.specs.declared.disk.FileId.TheVariants.{A, B}
use Rattle.disk_model.specs.Disk.{Files, Same, Torn, Put, TornIn, Goes}
use Rattle.trial_disk.specs.Recorded.{Wrote, Synced, History, LeftSince, MayLeave, since, reads, did}
use Rattle.trial_disk.specs.Choices.{crashed, restarted}
use Rattle.trial_disk.specs.Simulated.{Simulated, passed, failing, half, FailsToWrite}
use Rattle.trial_disk.specs.Lawful.{torn_put, reads_left}
use Rattle.disk_model.proofs.Moments.{written_nothing}
use Rattle.trial_disk.proofs.Histories.{reads_wrote, reads_synced}
use Rattle.trial_disk.proofs.Leaving.{goes_did, goes_nowhere, goes_by, leads_wrote, leads_synced, synced_now, crashed_now}

abbrev pub history_of : Simulated → History
history_of d = d.history

-- what a torn write of a part leaves, one of the whole may leave
abbrev Widens : ℕ → List ℕ → List ℕ → Type 0
Widens at part bytes = (old new : List ℕ) → Torn at part old new → Torn at bytes old new

half_widens : (at : ℕ) (bytes : List ℕ) → 1 < length bytes → Widens at (half bytes) bytes
half_widens at bytes long old new torn =
    let size : length (half bytes) ≡ min (length bytes / 2) (length bytes) = length-take (length bytes / 2) bytes in
    record {
      no_shorter = torn.no_shorter;
      outside = λ k lt where_is. torn.outside k lt (⊎_elim inl (λ beyond. inr (omega (arith, beyond, size))) where_is);
      closing = λ is one. absurd (omega (arith, long, ap length is));
    }

-- what a write did to the history
abbrev Part : FileId → ℕ → List ℕ → History → History → Type 0
Part file at bytes old new = (new ≡ old) ⊎ ((part : List ℕ) × Widens at part bytes × (new ≡ did (Wrote file at part) old))

part_of : {T E : Type 0} (old new : Simulated) (file : FileId) (at : ℕ) (bytes : List ℕ) (r : Result T E)
    → OnOk r (new ≡ passed (did (Wrote file at bytes) old.history) old) → OnErr r (FailsToWrite file at bytes old new) → Part file at bytes old.history new.history
part_of old new file at bytes (Ok x) ok err = inr (bytes, (λ o n torn. torn), ap history_of ok)
part_of old new file at bytes (Err e) ok err =
    ⊎_elim
    (λ same. inl (ap history_of same))
    (λ cut. inr (half bytes, half_widens at bytes cut.1, ap history_of cut.2))
    err

pub goes_write : {T E : Type 0} (old new : Simulated) (file : FileId) (at : ℕ) (bytes : List ℕ) (r : Result T E)
    → OnOk r (new ≡ passed (did (Wrote file at bytes) old.history) old) → OnErr r (FailsToWrite file at bytes old new)
    → Goes (λ (d : Simulated). length d.history.done) (λ (d : Simulated). LeftSince d.history) old new (TornIn file at bytes)
goes_write old new file at bytes r ok err =
    let h = old.history in
    let step = TornIn file at bytes in
    ⊎_elim
    (λ (same : new.history ≡ old.history). goes_by history_of old new h step same (goes_nowhere h step (λ files. written_nothing file at bytes files)))
    (λ (did_it : (part : List ℕ) × Widens at part bytes × (new.history ≡ did (Wrote file at part) h)).
    let goes = goes_did h (Wrote file at did_it.0) step (λ files left. leads_wrote h file at did_it.0 bytes did_it.1 files left) in
    goes_by history_of old new (did (Wrote file at did_it.0) h) step did_it.2 goes)
    (part_of old new file at bytes r ok err)

put_did : (h : History) (file : FileId) (at : ℕ) (bytes : List ℕ) → Put file at bytes (reads h) (reads (did (Wrote file at bytes) h))
put_did h A at bytes = record { here = reads_wrote h A at bytes A; elsewhere = others }
  where
    others : (other : FileId) → other ≢ A → reads (did (Wrote A at bytes) h) other ≡ reads h other
    others A ne = absurd (ne refl)
    others B ne = reads_wrote h A at bytes B
put_did h B at bytes = record { here = reads_wrote h B at bytes B; elsewhere = others }
  where
    others : (other : FileId) → other ≢ B → reads (did (Wrote B at bytes) h) other ≡ reads h other
    others A ne = reads_wrote h B at bytes A
    others B ne = absurd (ne refl)

pub put_now : {T E : Type 0} (old new : Simulated) (file : FileId) (at : ℕ) (bytes : List ℕ) (r : Result T E)
    → OnOk r (new ≡ passed (did (Wrote file at bytes) old.history) old) → OnOk r (Put file at bytes (reads old.history) (reads new.history))
put_now old new file at bytes (Ok x) ok = subst (λ (h : History). Put file at bytes (reads old.history) (reads h)) (sym (ap history_of ok)) (put_did old.history file at bytes)
put_now old new file at bytes (Err e) ok = tt

written_did : (h : History) (file : FileId) (at : ℕ) (part bytes : List ℕ) → Widens at part bytes → TornIn file at bytes (reads h) (reads (did (Wrote file at part) h))
written_did h file at part bytes widens =
    let puts = put_did h file at part in
    record {
      here = widens (reads h file) (reads (did (Wrote file at part) h) file) (subst (λ (l : List ℕ). Torn at part (reads h file) l) (sym puts.here) (torn_put at part (reads h file)));
      elsewhere = puts.elsewhere;
    }

pub written_now : {T E : Type 0} (old new : Simulated) (file : FileId) (at : ℕ) (bytes : List ℕ) (r : Result T E)
    → OnOk r (new ≡ passed (did (Wrote file at bytes) old.history) old) → OnErr r (FailsToWrite file at bytes old new)
    → TornIn file at bytes (reads old.history) (reads new.history)
written_now old new file at bytes r ok err =
    let h = old.history in
    ⊎_elim
    (λ (same : new.history ≡ old.history). subst (λ (to : History). TornIn file at bytes (reads h) (reads to)) (sym same) (written_nothing file at bytes (reads h)))
    (λ (did_it : (part : List ℕ) × Widens at part bytes × (new.history ≡ did (Wrote file at part) h)).
    subst (λ (to : History). TornIn file at bytes (reads h) (reads to)) (sym did_it.2) (written_did h file at did_it.0 bytes did_it.1))
    (part_of old new file at bytes r ok err)

pub goes_look : (old new : Simulated) → new.history ≡ old.history → Goes (λ (d : Simulated). length d.history.done) (λ (d : Simulated). LeftSince d.history) old new Same
goes_look old new same = goes_by history_of old new old.history Same same (goes_nowhere old.history Same (λ files file. refl))

pub goes_sync : {T E : Type 0} (old new : Simulated) (file : FileId) (r : Result T E)
    → OnOk r (new ≡ passed (did (Synced file) old.history) old) → OnErr r (new ≡ failing old.history old)
    → Goes (λ (d : Simulated). length d.history.done) (λ (d : Simulated). LeftSince d.history) old new Same
goes_sync old new file (Ok x) ok err =
    let h = old.history in
    goes_by history_of old new (did (Synced file) h) Same (ap history_of ok) (goes_did h (Synced file) Same (λ files left. leads_synced h file files left))
goes_sync old new file (Err e) ok err = goes_look old new (ap history_of err)

pub seen_sync : {T E : Type 0} (old new : Simulated) (file : FileId) (r : Result T E)
    → OnOk r (new ≡ passed (did (Synced file) old.history) old) → OnErr r (new ≡ failing old.history old) → Same (reads old.history) (reads new.history)
seen_sync old new file (Ok x) ok err = λ other. ap (λ (h : History). reads h other) (ap history_of ok) ∙ reads_synced old.history file other
seen_sync old new file (Err e) ok err = λ other. ap (λ (h : History). reads h other) (ap history_of err)

pub outcome_sync : (old new : Simulated) → Same (reads old.history) (reads new.history) → LeftSince old.history (length old.history.done) (reads new.history)
outcome_sync old new same =
    let h = old.history in
    let left = reads_left h in
    (left.0, left.1, left.2, λ file. subst (λ (l : List ℕ). MayLeave (since h (take left.0 h.done) file).writes (since h (take left.0 h.done) file).base l) (sym (same file)) (left.3 file))

pub durable_sync : {T E : Type 0} (old new : Simulated) (file : FileId) (r : Result T E)
    → OnOk r (new ≡ passed (did (Synced file) old.history) old) → OnOk r ((files : Files) → LeftSince new.history (length new.history.done) files → files file ≡ reads new.history file)
durable_sync old new file (Ok x) ok =
    subst (λ (h : History). (files : Files) → LeftSince h (length h.done) files → files file ≡ reads h file) (sym (ap history_of ok)) (λ files left. synced_now old.history file files left)
durable_sync old new file (Err e) ok = tt

crash_reads : (choice : ℕ) (old new : History) → new ≡ restarted choice old → (file : FileId) → crashed choice old file ≡ reads new file
crash_reads choice old new is A = sym (ap (λ (h : History). reads h A) is)
crash_reads choice old new is B = sym (ap (λ (h : History). reads h B) is)

pub crash_allowed : (choice : ℕ) (old new : History) → new ≡ restarted choice old → LeftSince old (length old.done) (reads new)
crash_allowed choice old new is =
    let left = crashed_now choice old in
    (left.0, left.1, left.2, λ file. subst (λ (l : List ℕ). MayLeave (since old (take left.0 old.done) file).writes (since old (take left.0 old.done) file).base l) (crash_reads choice old new is file) (left.3 file))
