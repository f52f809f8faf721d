-- An opening that makes its file anew, in lives.
use Rattle.std.proofs.Common.{◌≡◌, ◌↔◌, Result, Ok, Err, false, ℕ, List, [], refl, subst}
use Rattle.std.specs.Prelude.{IfErr, IfOk, IsTrue, MatchResult}
use Rattle.packet.specs.Config.{Config, is_config}
use Rattle.disk_model.specs.Disk.{Files, Leaves, LeavesNow, LeavesOnly}
use Rattle.durable.specs.Entering.{Durable}
use Rattle.durable.specs.Recovery.{Alike, IsConfigured, Recovers}
use Rattle.machine.specs.Noted.{IsResumed}
use Rattle.gateway.specs.Kept.{Kept, IsAtRest}
use Rattle.gateway.specs.Lives.{AreLives, BothMayBecome, Course, IsLife, Life, LivesAreTheModels, NextFinds, Refused, Stopped}
use Rattle.gateway.specs.Living.{RestsInLife}
use Rattle.gateway.proofs.Becoming.{active-back}
use Rattle.gateway.proofs.Taking.{took_none}
use Rattle.snapshot.specs.declared.fault.OpenFault.{OpenFault}
use Rattle.commands.specs.Causes.{AnewHasCause, IsLastCurrent}
use Rattle.commands.specs.Lives.{TellsBehind}
use Rattle.commands.specs.declared.opening.AnewFault.{AnewFault}
use Rattle.commands.specs.declared.opening.AnewFault.TheVariants.{Making, Opening}

-- the last generation was there before
current-before : (before files : Files) (d : Durable) → BothMayBecome before files → Recovers before d → IsLastCurrent files → IsLastCurrent before
current-before before files d may stood last = record {
  file = last.file;
  heading = last.heading;
  durable = last.durable;
  end = last.end;
  active = active-back before files may d stood last.file last.heading last.durable last.end last.active;
  current = last.current;
  last = last.last;
}

module _ {D : Type 0} (honest : D → Type 0) (moment : D → ℕ) (left : D → ℕ → Files → Type 0) (seen : D → Files) (failed : D → ℕ) (config : Config) (entry : D) (at : ℕ) where
  abbrev Live : Course D → Type 0
  Live course = IsLife honest moment left seen config (record { disk = entry; opened_at = at; course = course })

  pub over-stopped : (r : Result (Kept D) (D × AnewFault)) → honest entry → MatchResult r (λ g. Leaves moment left entry g.disk Alike) (λ e. Leaves moment left entry e.0 Alike)
      → (LeavesNow moment left entry (IsConfigured config) → MatchResult r (λ g. LeavesOnly moment left entry g.disk (IsConfigured config)) (λ e. LeavesOnly moment left entry e.0 (IsConfigured config)))
      → MatchResult r (λ g. Live (Stopped g.disk)) (λ e. Live (Stopped e.0))
  over-stopped (Ok g) h any conf = (h, record { any_moment = any; configured = conf })
  over-stopped (Err e) h any conf = (h, record { any_moment = any; configured = conf })

  refused-by : (new : D) (why : AnewFault) (fault : OpenFault) → Live (Stopped new) → AnewHasCause honest moment left seen failed config entry new why → why ≡ Opening fault → honest entry → Live (Refused new fault)
  refused-by new why fault stopped cause is h =
      let looked = subst (AnewHasCause honest moment left seen failed config entry new) is cause in
      (stopped.0, (stopped.1, looked.cause h))

  pub over-refused : (r : Result (Kept D) (D × AnewFault)) → honest entry → MatchResult r (λ g. Live (Stopped g.disk)) (λ e. Live (Stopped e.0))
      → IfErr r (λ e. AnewHasCause honest moment left seen failed config entry e.0 e.1)
      → IfErr r (λ e. (fault : OpenFault) → e.1 ≡ Opening fault → Live (Refused e.0 fault))
  over-refused (Ok g) h stopped cause = tt
  over-refused (Err e) h stopped cause = λ fault is. refused-by e.0 e.1 fault stopped cause is h

  pub over-rests : (r : Result (Kept D) (D × AnewFault)) (Q : D × AnewFault → Type 0) → IsTrue (is_config config) → honest entry → MatchResult r (λ g. honest entry ↔ honest g.disk) Q
      → IfOk r (λ g. (d : Durable) × Recovers (seen entry) d × IsResumed config d at g.told.state × LeavesNow moment left g.disk (λ files. Recovers files d))
      → IfOk r (λ g. g.told.config ≡ config) → IfOk r (λ g. (g.told.last ≡ 0) × (g.told.held ≡ []) × (g.fallen ≡ false))
      → IfOk r (λ g. RestsInLife honest moment left seen config entry at g [] [] g)
  over-rests (Err e) Q valid h on ok configured begins = tt
  over-rests (Ok g) Q valid h on ok configured begins =
      let rests : IsAtRest honest g = record { stands = begins.2; is_honest = on.0 h; none = begins.1 } in
      record {
        opened = record {
          valid = valid;
          was_honest = h;
          rests = rests;
          configured = configured;
          first = begins.0;
          resumed = (ok.0, ok.1, ok.2);
        };
        took = took_none g.told;
        rests = rests;
      }

  module _ (reads : (disk : D) → honest disk → left disk (moment disk) (seen disk)) (lives : LivesAreTheModels honest moment left seen config) (h : honest entry) (first : Durable) (earlier : List (Life D)) (are : AreLives honest moment left seen config first earlier)
      (before : LeavesNow moment left entry (NextFinds honest moment left seen config first earlier)) where
    tells : (new : D) (why : AnewFault) → Live (Stopped new) → AnewHasCause honest moment left seen failed config entry new why → TellsBehind honest moment left seen config first earlier why
    tells new (Opening fault) stopped cause =
        let life : Life D = record { disk = entry; opened_at = at; course = Refused new fault } in
        lives.each first life earlier (refused-by new (Opening fault) fault stopped cause refl h, before, are)
    tells new (Making fault) stopped cause = λ is.
        let was = before (seen entry) (reads entry h) in
        let stood = lives.stood first earlier was.0 are (lives.as_left first earlier was.0 was.1) in
        (was.0, was.1, current-before was.0 (seen entry) stood.0 was.2 stood.1 (cause.generations h is))

    pub over-tells : (r : Result (Kept D) (D × AnewFault)) → MatchResult r (λ g. Live (Stopped g.disk)) (λ e. Live (Stopped e.0))
        → IfErr r (λ e. AnewHasCause honest moment left seen failed config entry e.0 e.1)
        → IfErr r (λ e. TellsBehind honest moment left seen config first earlier e.1)
    over-tells (Ok g) stopped cause = tt
    over-tells (Err e) stopped cause = tells e.0 e.1 stopped cause
