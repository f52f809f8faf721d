-- How a run of device calls goes on.
use Rattle.std.proofs.Common.{◌≢◌, inl, inr, ⊎_elim, ℕ, ◌≤◌, List, refl, sym, ◌∙◌, subst, arith}
use Rattle.disk_model.specs.declared.disk.FileId.{FileId}
use Rattle.disk_model.specs.Disk.{Files, Same, Elsewhere, Torn, TornIn, LeftNow, FromLeft, Goes, Leaves, LeavesOnly, LeavesNow, Synced, Looks}

pub torn_nothing : (at : ℕ) (bytes old : List ℕ) → Torn at bytes old old
torn_nothing at bytes old = record { no_shorter = omega arith; outside = λ k lt out. refl; closing = λ one is. is }

pub written_nothing : (file : _) (at : ℕ) (bytes : List ℕ) (old : Files) → TornIn file at bytes old old
written_nothing file at bytes old = record { here = torn_nothing at bytes (old file); elsewhere = λ other ne. refl }

pub written_same : (file : _) (at : ℕ) (bytes : List ℕ) (old mid new : Files) → TornIn file at bytes old mid → Same mid new → TornIn file at bytes old new
written_same file at bytes old mid new written same = record {
  here = subst (λ f. Torn at bytes (old file) f) (sym (same file)) written.here;
  elsewhere = λ other ne. same other ∙ written.elsewhere other ne;
}

module _ {D : Type 0} (moment : D → ℕ) (left : D → ℕ → Files → Type 0) where
  -- a run of one call
  pub called : (old new : D) (Step : Files → Files → Type 0) → ((files : Files) → LeftNow moment left old files → Step files files) → Goes moment left old new Step → Leaves moment left old new Step
  called old new Step stays goes = record {
    later = goes.later;
    each = λ files since. ⊎_elim (λ was. (files, was, stays files was)) (goes.now files) (goes.nothing_else (moment old) files (omega arith) since);
    before = λ t files le since. ⊎_elim inl (λ now. inr (goes.now files now)) (goes.nothing_else t files le since);
  }

  -- A run behind a run. What the second leaves is led back to the entry of the first.
  pub follows : (old mid new : D) (First Next Step : Files → Files → Type 0) → Leaves moment left old mid First → Leaves moment left mid new Next
      → ((before files : Files) → LeftNow moment left old before → First before files → Step before files)
      → ((files : Files) → FromLeft moment left mid Next files → FromLeft moment left old Step files)
      → Leaves moment left old new Step
  follows old mid new First Next Step first next widens leads = record {
    later = omega (arith, first.later, next.later);
    each = λ files since. ⊎_elim (λ was. let from = first.each files was in (from.0, from.1, widens from.0 files from.1 from.2)) (leads files) (next.before (moment old) files first.later since);
    before = λ t files le since.
        ⊎_elim
        (λ was. ⊎_elim inl (λ from. inr (from.0, from.1, widens from.0 files from.1 from.2)) (first.before t files le was))
        (λ from. inr (leads files from))
        (next.before t files (omega (arith, le, first.later)) since);
  }

  -- what may be left at the end of a run comes from its entry
  pub at_end : (old new : D) (Step : Files → Files → Type 0) → ((s t : ℕ) (files : Files) → s ≤ t → left new t files → left new s files)
      → Leaves moment left old new Step → (files : Files) → LeftNow moment left new files → FromLeft moment left old Step files
  at_end old new Step earlier leaves files now = leaves.each files (earlier (moment old) (moment new) files leaves.later now)

  -- a step that says less
  pub narrows : (old new : D) (First Step : Files → Files → Type 0) → Leaves moment left old new First
      → ((before files : Files) → LeftNow moment left old before → First before files → Step before files) → Leaves moment left old new Step
  narrows old new First Step leaves widens = record {
    later = leaves.later;
    each = λ files since. let from = leaves.each files since in (from.0, from.1, widens from.0 files from.1 from.2);
    before = λ t files le since. ⊎_elim inl (λ from. inr (from.0, from.1, widens from.0 files from.1 from.2)) (leaves.before t files le since);
  }

  -- of what a crash leaves: no call, a run, its end, and a run behind a run
  pub idle : (disk : D) (P : Files → Type 0) → LeavesNow moment left disk P → LeavesOnly moment left disk disk P
  idle disk P now = record {
    later = omega arith;
    each = λ files since. (files, since, now files since);
    before = λ t files le since. inl since;
  }

  pub only : (old new : D) (Step : Files → Files → Type 0) (P : Files → Type 0) → Leaves moment left old new Step
      → ((before files : Files) → LeftNow moment left old before → Step before files → P files) → LeavesOnly moment left old new P
  only old new Step P leaves widens = narrows old new Step (λ before files. P files) leaves widens

  pub only_now : (old new : D) (P : Files → Type 0) → ((s t : ℕ) (files : Files) → s ≤ t → left new t files → left new s files) → LeavesOnly moment left old new P → LeavesNow moment left new P
  only_now old new P earlier leaves files now = (at_end old new (λ before files. P files) earlier leaves files now).2

  pub only_then : (old mid new : D) (P Q R : Files → Type 0) → ((s t : ℕ) (files : Files) → s ≤ t → left mid t files → left mid s files)
      → LeavesOnly moment left old mid P → LeavesOnly moment left mid new Q → ((files : Files) → P files → R files) → ((files : Files) → Q files → R files) → LeavesOnly moment left old new R
  only_then old mid new P Q R earlier first next widens also =
      follows old mid new (λ before files. P files) (λ before files. Q files) (λ before files. R files) first next
      (λ before files was p. widens files p)
      (λ files from. let origin = at_end old mid (λ before files. P files) earlier first from.0 from.1 in (origin.0, origin.1, also files from.2))

  module _ (seen : D → Files) where
    pub not_yet : (disk : D) → Looks moment left seen disk disk
    not_yet disk = record {
      stays = λ file. refl;
      leaves = record {
        later = omega arith;
        each = λ files since. (files, since, λ file. refl);
        before = λ t files le since. inl since;
      };
    }

    -- one call more that only looks
    pub looks_on : (old mid new : D) → ((s t : ℕ) (files : Files) → s ≤ t → left mid t files → left mid s files)
        → Looks moment left seen old mid → Same (seen mid) (seen new) → Goes moment left mid new Same → Looks moment left seen old new
    looks_on old mid new earlier first same goes = record {
      stays = λ file. same file ∙ first.stays file;
      leaves = follows old mid new Same Same Same first.leaves
          (called mid new Same (λ files was file. refl) goes)
          (λ before files was s. s)
          (λ files from. let origin = at_end old mid Same earlier first.leaves from.0 from.1 in (origin.0, origin.1, λ file. from.2 file ∙ origin.2 file));
    }

    pub looks_then : (old mid new : D) → ((s t : ℕ) (files : Files) → s ≤ t → left mid t files → left mid s files)
        → Looks moment left seen old mid → Looks moment left seen mid new → Looks moment left seen old new
    looks_then old mid new earlier first next = record {
      stays = λ file. next.stays file ∙ first.stays file;
      leaves = follows old mid new Same Same Same first.leaves next.leaves
          (λ before files was s. s)
          (λ files from. let origin = at_end old mid Same earlier first.leaves from.0 from.1 in (origin.0, origin.1, λ file. from.2 file ∙ origin.2 file));
    }

    -- a synced file stays synced under calls that only look
    pub synced_looks : (old new : D) (file : _) → ((s t : ℕ) (files : Files) → s ≤ t → left new t files → left new s files)
        → Looks moment left seen old new → Synced moment left seen old file → Synced moment left seen new file
    synced_looks old new file earlier looked synced files now =
        let from = at_end old new Same earlier looked.leaves files now in
        from.2 file ∙ synced from.0 from.1 ∙ sym (looked.stays file)

    -- and under calls that write another
    pub synced_elsewhere : (old new : D) (file written : FileId) → ((s t : ℕ) (files : Files) → s ≤ t → left new t files → left new s files)
        → file ≢ written → Leaves moment left old new (Elsewhere written) → Elsewhere written (seen old) (seen new)
        → Synced moment left seen old file → Synced moment left seen new file
    synced_elsewhere old new file written earlier apart leaves elsewhere synced files now =
        let from = at_end old new (Elsewhere written) earlier leaves files now in
        from.2 file apart ∙ synced from.0 from.1 ∙ sym (elsewhere file apart)
