use Rattle.std.proofs.Common.{◌≡◌, ⊎_elim, inl, inr, ap, ◌∷◌, ◌++◌, [], map}
use Rattle.trial_disk.specs.Recorded.{Synced}
use Rattle.trial_disk.specs.DoneCalls.{done_of}
use Rattle.trial_disk.proofs.Histories.{either, kept_sync}
use Rattle.trial_disk.proofs.record.Record.sync.Goals as goal

pub invariant_of-self : goal.invariant_of-self
invariant_of-self c =
    let s = c.self.inside in
    let e = either (map done_of c.record_sync.new.calls.items ≡ map done_of s.calls.items ++ Synced c.args.file ∷ []) (c.record_sync.new.calls.items ≡ s.calls.items) c.record_sync.result c.record_sync.ensures.ok c.record_sync.ensures.err in
    kept_sync s.first_a.items s.first_b.items (map done_of s.calls.items) (map done_of c.record_sync.new.calls.items) s.a.items s.b.items c.args.file c.self.invariant (⊎_elim inl (λ same. inr (ap (λ l. map done_of l) same)) e)
