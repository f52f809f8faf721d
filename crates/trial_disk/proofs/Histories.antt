-- What a record reads after one call more.
use Rattle.std.proofs.Common.{◌≡◌, ◌⊎◌, inl, inr, ℕ, Bool, true, false, List, [], ◌∷◌, ◌++◌, refl, sym, ◌∙◌, ap, subst}
use Rattle.std.specs.Prelude.{Result, Ok, Err, OnOk, OnErr, if◌then◌else◌}
use Rattle.disk_model.specs.declared.disk.FileId.{FileId}
use Rattle.disk_model.specs.declared.disk.FileId.TheVariants.{A, B}
use Rattle.disk_model.specs.Disk.{put}
use Rattle.trial_disk.specs.Recorded.{Since, Done, Wrote, Synced, History, heard, heard_all, since, reads, first_of, Kept, did, is_same, read_after}

pub either : {T E : Type 0} (P Q : Type 0) (r : Result T E) → OnOk r P → OnErr r Q → P ⊎ Q
either P Q (Ok x) ok err = inl ok
either P Q (Err e) ok err = inr err

pub heard_push : (file : FileId) (done : List Done) (d : Done) (start : Since) → heard_all file (done ++ d ∷ []) start ≡ heard file d (heard_all file done start)
heard_push file [] d start = refl
heard_push file (first ∷ more) d start = heard_push file more d (heard file first start)

pub since_push : (h : History) (done : List Done) (d : Done) (file : FileId) → since h (done ++ d ∷ []) file ≡ heard file d (since h done file)
since_push h done d file = heard_push file done d (record { base = first_of h file; writes = [] })

read_since : Since → List ℕ
read_since s = read_after s.writes s.base

if_read : (b : Bool) (s t : Since) → read_since (if b then s else t) ≡ (if b then read_since s else read_since t)
unfolding read_since
if_read true s t = refl
if_read false s t = refl

pub reads_wrote : (h : History) (of : FileId) (at : ℕ) (bytes : List ℕ) (file : FileId) → reads (did (Wrote of at bytes) h) file ≡ (if is_same file of then put at bytes (reads h file) else reads h file)
unfolding read_since
reads_wrote h of at bytes file =
    ap (λ (s : Since). read_since s) (since_push h h.done (Wrote of at bytes) file)
    ∙ if_read (is_same file of) (record { base = (since h h.done file).base; writes = record { at = at; bytes = bytes } ∷ (since h h.done file).writes }) (since h h.done file)

same_if : (b : Bool) (x : List ℕ) → (if b then x else x) ≡ x
same_if true x = refl
same_if false x = refl

pub reads_synced : (h : History) (of file : FileId) → reads (did (Synced of) h) file ≡ reads h file
unfolding read_since
reads_synced h of file =
    ap (λ (s : Since). read_since s) (since_push h h.done (Synced of) file)
    ∙ if_read (is_same file of) (record { base = reads h file; writes = [] }) (since h h.done file)
    ∙ same_if (is_same file of) (reads h file)

abbrev pub history : List ℕ → List ℕ → List Done → History
history first_a first_b done = record { first_a = first_a; first_b = first_b; done = done }

pub kept_write_a : (first_a first_b : List ℕ) (done more : List Done) (a b new : List ℕ) (at : ℕ) (bytes : List ℕ) → Kept (history first_a first_b done) a b
    → ((new ≡ put at bytes a) × (more ≡ done ++ Wrote A at bytes ∷ [])) ⊎ ((new ≡ a) × (more ≡ done)) → Kept (history first_a first_b more) new b
kept_write_a first_a first_b done more a b new at bytes kept (inl wrote) =
    let h = history first_a first_b done in
    subst (λ (l : List Done). Kept (history first_a first_b l) new b) (sym wrote.1)
    (wrote.0 ∙ ap (λ l. put at bytes l) kept.0 ∙ sym (reads_wrote h A at bytes A), kept.1 ∙ sym (reads_wrote h A at bytes B))
kept_write_a first_a first_b done more a b new at bytes kept (inr same) = subst (λ (l : List Done). Kept (history first_a first_b l) new b) (sym same.1) (same.0 ∙ kept.0, kept.1)

pub kept_write_b : (first_a first_b : List ℕ) (done more : List Done) (a b new : List ℕ) (at : ℕ) (bytes : List ℕ) → Kept (history first_a first_b done) a b
    → ((new ≡ put at bytes b) × (more ≡ done ++ Wrote B at bytes ∷ [])) ⊎ ((new ≡ b) × (more ≡ done)) → Kept (history first_a first_b more) a new
kept_write_b first_a first_b done more a b new at bytes kept (inl wrote) =
    let h = history first_a first_b done in
    subst (λ (l : List Done). Kept (history first_a first_b l) a new) (sym wrote.1)
    (kept.0 ∙ sym (reads_wrote h B at bytes A), wrote.0 ∙ ap (λ l. put at bytes l) kept.1 ∙ sym (reads_wrote h B at bytes B))
kept_write_b first_a first_b done more a b new at bytes kept (inr same) = subst (λ (l : List Done). Kept (history first_a first_b l) a new) (sym same.1) (kept.0, same.0 ∙ kept.1)

pub kept_sync : (first_a first_b : List ℕ) (done more : List Done) (a b : List ℕ) (file : FileId) → Kept (history first_a first_b done) a b
    → (more ≡ done ++ Synced file ∷ []) ⊎ (more ≡ done) → Kept (history first_a first_b more) a b
kept_sync first_a first_b done more a b file kept (inl synced) =
    let h = history first_a first_b done in
    subst (λ (l : List Done). Kept (history first_a first_b l) a b) (sym synced)
    (kept.0 ∙ sym (reads_synced h file A), kept.1 ∙ sym (reads_synced h file B))
kept_sync first_a first_b done more a b file kept (inr same) = subst (λ (l : List Done). Kept (history first_a first_b l) a b) (sym same) kept
