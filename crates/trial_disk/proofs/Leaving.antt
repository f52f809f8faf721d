-- What a crash may leave after one call more of a record.
use Rattle.std.proofs.Common.{◌≡◌, ◌≢◌, ◌⊎◌, inl, inr, ℕ, ◌+◌, Bool, true, false, List, [], ◌∷◌, ◌++◌, length, refl, sym, ◌∙◌, ap, subst, arith, length-append}
use Rattle.std.specs.Prelude.{if◌then◌else◌}
use Rattle.std.proofs.lemmas.List.{take_all, take-append-le}
use Rattle.std.proofs.lemmas.Bool.{cases_lt, false≢true}
use Rattle.disk_model.specs.declared.disk.FileId.{FileId}
use Rattle.disk_model.specs.declared.disk.FileId.TheVariants.{A, B}
use Rattle.disk_model.specs.Disk.{Files, Same, Torn, TornIn, Goes, pair}
use Rattle.trial_disk.specs.Recorded.{Since, Done, Wrote, Synced, History, MayLeave, LeftAfter, LeftSince, since, reads, did, is_same, read_after}
use Rattle.trial_disk.specs.Choices.{crashed}
use Rattle.trial_disk.proofs.Histories.{since_push, reads_synced}
use Rattle.trial_disk.specs.Lawful.{may_read, now_is}
use Rattle.trial_disk.proofs.Outcomes.{may_choose}

is_now : (h : History) (files : Files) → LeftSince h (length h.done) files → LeftAfter h h.done files
is_now h files left = subst (λ (l : List Done). LeftAfter h l files) (take_all left.0 h.done left.1) left.3

Left : Since → List ℕ → Type 0
Left s left = MayLeave s.writes s.base left

both : (P : FileId → Type 0) → P A → P B → (file : FileId) → P file
both P a b A = a
both P a b B = b

pub crashed_now : (choice : ℕ) (h : History) → LeftSince h (length h.done) (crashed choice h)
crashed_now choice h = now_is h (crashed choice h) (λ file. may_choose choice (since h h.done file).writes (since h h.done file).base)

-- with one call more: what might have been left since then, or what may be left now
grown : (h : History) (d : Done) (t : ℕ) (files : Files) → LeftSince (did d h) t files → LeftSince h t files ⊎ LeftSince (did d h) (length (did d h).done) files
grown h d t files left =
    let size = length-append h.done (d ∷ []) in
    elim (cases_lt left.0 (length h.done + 1)) [
      | inl within ↦ inl (left.0, left.1, omega (arith, within), subst (λ (l : List Done). LeftAfter h l files) (take-append-le left.0 h.done (d ∷ []) (omega (arith, within))) left.3)
      | inr past ↦ inr (left.0, omega (arith, size, past), left.2, left.3)
    ]

kept : (h : History) (d : Done) (t : ℕ) (files : Files) → LeftSince h t files → LeftSince (did d h) t files
kept h d t files left =
    (left.0, left.1, omega (arith, left.2, length-append h.done (d ∷ [])), subst (λ (l : List Done). LeftAfter h l files) (sym (take-append-le left.0 h.done (d ∷ []) left.2)) left.3)

abbrev pub moment_of : History → ℕ
moment_of h = length h.done

-- a call that was recorded goes as the disk model says
pub goes_did : (h : History) (d : Done) (Step : Files → Files → Type 0)
    → ((files : Files) → LeftAfter h (h.done ++ d ∷ []) files → (before : Files) × LeftAfter h h.done before × Step before files)
    → Goes moment_of LeftSince h (did d h) Step
goes_did h d Step leads = record {
  later = omega (arith, length-append h.done (d ∷ []));
  now = λ files left.
      let from = leads files (is_now (did d h) files left) in
      (from.0, now_is h from.0 from.1, from.2);
  nothing_else = λ t files le left. grown h d t files left;
  keeps = λ t files le left. kept h d t files left;
}

pub goes_nowhere : (h : History) (Step : Files → Files → Type 0) → ((files : Files) → Step files files) → Goes moment_of LeftSince h h Step
goes_nowhere h Step stays = record {
  later = omega arith;
  now = λ files left. (files, left, stays files);
  nothing_else = λ t files le left. inl left;
  keeps = λ t files le left. left;
}

-- a disk goes as its history does
pub goes_by : {D : Type 0} (history : D → History) (old new : D) (to : History) (Step : Files → Files → Type 0) → history new ≡ to → Goes moment_of LeftSince (history old) to Step
    → Goes (λ (d : D). moment_of (history d)) (λ (d : D). LeftSince (history d)) old new Step
goes_by {D = D} history old new to Step is goes =
    let there : Goes moment_of LeftSince (history old) (history new) Step = subst (λ (h : History). Goes moment_of LeftSince (history old) h Step) (sym is) goes in
    record { later = there.later; now = there.now; nothing_else = there.nothing_else; keeps = there.keeps }

-- after a write of these bytes, or of a part that was put of them
pub leads_wrote : (h : History) (of : FileId) (at : ℕ) (part bytes : List ℕ) → ((old new : List ℕ) → Torn at part old new → Torn at bytes old new)
    → (files : Files) → LeftAfter h (h.done ++ Wrote of at part ∷ []) files → (before : Files) × LeftAfter h h.done before × TornIn of at bytes before files
unfolding Left
leads_wrote h A at part bytes widens files left =
    let a : Left (record { base = (since h h.done A).base; writes = record { at = at; bytes = part } ∷ (since h h.done A).writes }) (files A) = subst (λ (s : Since). Left s (files A)) (since_push h h.done (Wrote A at part) A) (left A) in
    let b : Left (since h h.done B) (files B) = subst (λ (s : Since). Left s (files B)) (since_push h h.done (Wrote A at part) B) (left B) in
    let before = pair a.0 (files B) in (
      before,
      both (λ file. Left (since h h.done file) (before file)) a.1 b,
      record {
        here = widens a.0 (files A) a.2;
        elsewhere = both (λ other. other ≢ A → files other ≡ before other) (λ ne. absurd (ne refl)) (λ ne. refl);
      },
    )
leads_wrote h B at part bytes widens files left =
    let a : Left (since h h.done A) (files A) = subst (λ (s : Since). Left s (files A)) (since_push h h.done (Wrote B at part) A) (left A) in
    let b : Left (record { base = (since h h.done B).base; writes = record { at = at; bytes = part } ∷ (since h h.done B).writes }) (files B) = subst (λ (s : Since). Left s (files B)) (since_push h h.done (Wrote B at part) B) (left B) in
    let before = pair (files A) b.0 in (
      before,
      both (λ file. Left (since h h.done file) (before file)) a b.1,
      record {
        here = widens b.0 (files B) b.2;
        elsewhere = both (λ other. other ≢ B → files other ≡ before other) (λ ne. refl) (λ ne. absurd (ne refl));
      },
    )

was_left : (b : Bool) (s : Since) (left : List ℕ) → Left (if b then record { base = read_after s.writes s.base; writes = [] } else s) left → Left s left
unfolding Left
was_left true s left is = subst (λ (l : List ℕ). MayLeave s.writes s.base l) (sym is) (may_read s.writes s.base)
was_left false s left is = is

pub leads_synced : (h : History) (of : FileId) (files : Files) → LeftAfter h (h.done ++ Synced of ∷ []) files → (before : Files) × LeftAfter h h.done before × Same before files
unfolding Left
leads_synced h of files left =
    (files, λ file. was_left (is_same file of) (since h h.done file) (files file) (subst (λ (s : Since). Left s (files file)) (since_push h h.done (Synced of) file) (left file)), λ file. refl)

same_itself : (file : FileId) → is_same file file ≡ true
same_itself A = refl
same_itself B = refl

left_synced : (b : Bool) → b ≡ true → (s : Since) (left : List ℕ) → Left (if b then record { base = read_after s.writes s.base; writes = [] } else s) left → left ≡ read_after s.writes s.base
unfolding Left
left_synced true is s left at = at
left_synced false is s left at = absurd (false≢true is)

-- after a sync a crash leaves of the file what a read gives
pub synced_now : (h : History) (of : FileId) (files : Files) → LeftSince (did (Synced of) h) (length (did (Synced of) h).done) files → files of ≡ reads (did (Synced of) h) of
unfolding Left
synced_now h of files left =
    let here = is_now (did (Synced of) h) files left of in
    left_synced (is_same of of) (same_itself of) (since h h.done of) (files of) (subst (λ (s : Since). Left s (files of)) (since_push h h.done (Synced of) of) here)
    ∙ sym (reads_synced h of of)

-- two files with nothing done are synced
pub rests : (h : History) → h.done ≡ [] → (files : Files) → LeftSince h (length h.done) files → (file : FileId) → files file ≡ reads h file
rests h none files left file =
    let here : LeftAfter h [] files = subst (λ (l : List Done). LeftAfter h l files) none (is_now h files left) in
    here file ∙ ap (λ (l : List Done). read_after (since h l file).writes (since h l file).base) (sym none)
