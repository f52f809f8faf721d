use Rattle.std.proofs.Common.{◌≡◌, ◌⊎◌, ⊎_elim, inl, inr, ap, subst, ℕ, List, ◌∷◌, ◌++◌, [], map}
use Rattle.disk_model.specs.Disk.{put}
use Rattle.trial_disk.specs.Recorded.{Wrote}
use Rattle.disk_model.specs.declared.disk.FileId.{FileId}
use Rattle.disk_model.specs.declared.disk.FileId.TheVariants.{A, B}
use Rattle.std.specs.Prelude.{Result, Ok, Err, OnOk, OnErr}
use Rattle.trial_disk.specs.declared.call.Call.{Call}
use Rattle.trial_disk.specs.DoneCalls.{done_of}
use Rattle.trial_disk.proofs.Histories.{kept_write_a, kept_write_b}
use Rattle.trial_disk.proofs.record.Record.write.Goals as goal

wrote_or : {T E : Type 0} (file one : FileId) → file ≡ one → (old new : List ℕ) (calls more : List Call) (at : ℕ) (bytes : List ℕ) (r : Result T E)
    → OnOk r (new ≡ put at bytes old) → OnOk r (map done_of more ≡ map done_of calls ++ Wrote file at bytes ∷ []) → OnErr r ((new ≡ old) × (more ≡ calls))
    → ((new ≡ put at bytes old) × (map done_of more ≡ map done_of calls ++ Wrote one at bytes ∷ [])) ⊎ ((new ≡ old) × (more ≡ calls))
wrote_or file one is old new calls more at bytes (Ok x) puts told err = inl (puts, subst (λ (f : FileId). map done_of more ≡ map done_of calls ++ Wrote f at bytes ∷ []) is told)
wrote_or file one is old new calls more at bytes (Err e) puts told err = inr err

pub invariant_of-self : goal.invariant_of-self
invariant_of-self c =
    let s = c.self.inside in
    kept_write_a s.first_a.items s.first_b.items (map done_of s.calls.items) (map done_of c.put_recorded.new.calls.items) s.a.items s.b.items c.put_recorded.new.bytes_of.items c.args.at c.args.bytes.now c.self.invariant (⊎_elim inl (λ same. inr (same.0, ap (λ l. map done_of l) same.1)) (wrote_or c.args.file A c.in-A.is s.a.items c.put_recorded.new.bytes_of.items s.calls.items c.put_recorded.new.calls.items c.args.at c.args.bytes.now c.put_recorded.result c.put_recorded.ensures.ok c.put_recorded.ensures.calls c.put_recorded.ensures.err))

pub invariant_of-self-in-B : goal.invariant_of-self-in-B
invariant_of-self-in-B c =
    let s = c.self.inside in
    kept_write_b s.first_a.items s.first_b.items (map done_of s.calls.items) (map done_of c.put_recorded-in-B.new.calls.items) s.a.items s.b.items c.put_recorded-in-B.new.bytes_of.items c.args.at c.args.bytes.now c.self.invariant (⊎_elim inl (λ same. inr (same.0, ap (λ l. map done_of l) same.1)) (wrote_or c.args.file B c.in-B.is s.b.items c.put_recorded-in-B.new.bytes_of.items s.calls.items c.put_recorded-in-B.new.calls.items c.args.at c.args.bytes.now c.put_recorded-in-B.result c.put_recorded-in-B.ensures.ok c.put_recorded-in-B.ensures.calls c.put_recorded-in-B.ensures.err))
