-- What the two writes of an append leave, and what stands after them.
use Rattle.std.proofs.Common.{◌≡◌, ◌≢◌, ℕ, ◌+◌, ◌<◌, ◌≤◌, ◌^◌, List, [], ◌∷◌, ◌++◌, length, get_or, drop, sym, ◌∙◌, ap, subst, arith}
use Rattle.disk_model.specs.declared.disk.FileId.{FileId}
use Rattle.disk_model.specs.Disk.{Files, Torn, TornIn, Put, put, FromLeft, Leaves, Synced}
use Rattle.disk_model.proofs.Moments.{follows, at_end, narrows}
use Rattle.journal.specs.Groups.{Groups, Extended, Appended, Resting, GroupStands, sealed}
use Rattle.journal.proofs.Behind.{torn_body, torn_gate, opened, put_whole, one_more, none, closed_there, length-sealed}

module _ {D : Type 0} (moment : D → ℕ) (left : D → ℕ → Files → Type 0) (seen : D → Files) (file : FileId) (at : ℕ) (body buffer : List ℕ) where
  body_step : (old : D) (before files : Files) → Resting moment left seen old file at → left old (moment old) before → TornIn file (at + 1) buffer before files → Appended file at body before files
  body_step old before files rest was written =
      let is = rest.synced before was in
      record {
        here = torn_body at buffer (before file) (files file) body (subst (λ l. at < length l) (sym is) rest.within) (subst (λ l. get_or l at 0 ≢ 1) (sym is) rest.closed) written.here;
        elsewhere = written.elsewhere;
      }

  pub body_written : (old new : D) → Resting moment left seen old file at → Leaves moment left old new (TornIn file (at + 1) buffer) → Leaves moment left old new (Appended file at body)
  body_written old new rest leaves = narrows moment left old new (TornIn file (at + 1) buffer) (Appended file at body) leaves (λ before files was written. body_step old before files rest was written)

  -- and so do the files read
  pub body_reads : (old new : D) → Resting moment left seen old file at → FromLeft moment left old (TornIn file (at + 1) buffer) (seen new) → FromLeft moment left old (Appended file at body) (seen new)
  body_reads old new rest from = (from.0, from.1, body_step old from.0 (seen new) rest from.1 from.2)

  gate_leads : (old mid : D) (files : Files) → buffer ≡ sealed body → length body < 2 ^ 32 → Resting moment left seen old file at
      → ((s t : ℕ) (files : Files) → s ≤ t → left mid t files → left mid s files)
      → Leaves moment left old mid (TornIn file (at + 1) buffer) → Put file (at + 1) buffer (seen old) (seen mid) → Synced moment left seen mid file
      → FromLeft moment left mid (TornIn file at (1 ∷ [])) files → FromLeft moment left old (Appended file at body) files
  gate_leads old mid files is fits rest earlier first stored synced from =
      let origin = at_end moment left old mid (TornIn file (at + 1) buffer) earlier first from.0 from.1 in
      let was : origin.0 file ≡ seen old file = rest.synced origin.0 origin.1 in
      let staged : from.0 file ≡ put (at + 1) (sealed body) (seen old file) = synced from.0 from.1 ∙ stored.here ∙ ap (λ b. put (at + 1) b (seen old file)) is in
      let torn : Torn at (1 ∷ []) (put (at + 1) (sealed body) (seen old file)) (files file) = subst (λ l. Torn at (1 ∷ []) l (files file)) staged from.2.here in (
        origin.0,
        origin.1,
        record {
          here = subst (λ l. Extended at body l (files file)) (sym was) (torn_gate at body (seen old file) rest.within (files file) fits torn);
          elsewhere = λ other ne. from.2.elsewhere other ne ∙ origin.2.elsewhere other ne;
        },
      )

  pub gate_written : (old mid new : D) → buffer ≡ sealed body → length body < 2 ^ 32 → Resting moment left seen old file at
      → ((s t : ℕ) (files : Files) → s ≤ t → left mid t files → left mid s files)
      → Leaves moment left old mid (TornIn file (at + 1) buffer) → Put file (at + 1) buffer (seen old) (seen mid) → Synced moment left seen mid file
      → Leaves moment left mid new (TornIn file at (1 ∷ [])) → Leaves moment left old new (Appended file at body)
  gate_written old mid new is fits rest earlier first stored synced next =
      follows moment left old mid new (Appended file at body) (TornIn file at (1 ∷ [])) (Appended file at body)
      (body_written old mid rest first)
      next
      (λ before files was appended. appended)
      (λ files from. gate_leads old mid files is fits rest earlier first stored synced from)

  pub gate_reads : (old mid new : D) → buffer ≡ sealed body → length body < 2 ^ 32 → Resting moment left seen old file at
      → ((s t : ℕ) (files : Files) → s ≤ t → left mid t files → left mid s files)
      → Leaves moment left old mid (TornIn file (at + 1) buffer) → Put file (at + 1) buffer (seen old) (seen mid) → Synced moment left seen mid file
      → FromLeft moment left mid (TornIn file at (1 ∷ [])) (seen new) → FromLeft moment left old (Appended file at body) (seen new)
  gate_reads old mid new is fits rest earlier first stored synced from = gate_leads old mid (seen new) is fits rest earlier first stored synced from

  pub reads_group : (old mid new : D) → buffer ≡ sealed body → Resting moment left seen old file at
      → Put file (at + 1) buffer (seen old) (seen mid) → Put file at (1 ∷ []) (seen mid) (seen new) → Put file at (1 ∷ sealed body) (seen old) (seen new)
  reads_group old mid new is rest stored opens =
      let whole : seen new file ≡ put at (1 ∷ []) (put (at + 1) (sealed body) (seen old file)) = opens.here ∙ ap (λ l. put at (1 ∷ []) l) (stored.here ∙ ap (λ b. put (at + 1) b (seen old file)) is) in
      record {
        here = put_whole at body (seen old file) rest.within (seen new file) whole;
        elsewhere = λ other ne. opens.elsewhere other ne ∙ stored.elsewhere other ne;
      }

  pub stands : (old mid new : D) → buffer ≡ sealed body → length body < 2 ^ 32 → Resting moment left seen old file at
      → Put file (at + 1) buffer (seen old) (seen mid) → Put file at (1 ∷ []) (seen mid) (seen new) → Synced moment left seen new file
      → GroupStands moment left seen old new file at body (at + length buffer)
  stands old mid new is fits rest stored opens synced =
      let whole : seen new file ≡ put at (1 ∷ []) (put (at + 1) (sealed body) (seen old file)) = opens.here ∙ ap (λ l. put at (1 ∷ []) l) (stored.here ∙ ap (λ b. put (at + 1) b (seen old file)) is) in
      let parts = opened at body (seen old file) rest.within (seen new file) whole in
      let tail = drop (at + 1 + length (sealed body)) (seen old file) in
      let next : at + length buffer ≡ at + length body + 5 = omega (arith, ap length is, length-sealed body) in
      let there = closed_there (seen new file) at (at + length body + 5) (body ∷ []) (one_more at body tail (seen old file) (seen new file) fits parts.0 parts.1 at [] (none (seen old file) at rest.within rest.closed)) in
      record {
        next_is = next;
        resting = record {
          synced = synced;
          within = subst (λ k. k < length (seen new file)) (sym next) there.0;
          closed = subst (λ k. get_or (seen new file) k 0 ≢ 1) (sym next) there.1;
        };
        before = parts.0;
        groups = λ start bodies g. subst (λ k. Groups (seen new file) start (bodies ++ body ∷ []) k) (sym next) (one_more at body tail (seen old file) (seen new file) fits parts.0 parts.1 start bodies g);
        elsewhere = λ other ne. opens.elsewhere other ne ∙ stored.elsewhere other ne;
      }
