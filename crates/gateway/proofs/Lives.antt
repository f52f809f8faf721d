-- One life after another.
use Rattle.std.proofs.Common.{◌≡◌, ℕ, List, [], ◌∷◌, ◌++◌, length, inl, inr, refl, sym, ◌∙◌, ap, subst}
use Rattle.packet.specs.Config.{Config}
use Rattle.disk_model.specs.Disk.{Files}
use Rattle.disk_model.specs.declared.disk.FileId.{FileId}
use Rattle.disk_model.specs.declared.disk.FileId.TheVariants.{A, B}
use Rattle.durable.specs.Coding.{Heading}
use Rattle.durable.specs.Entering.{Durable, empty}
use Rattle.durable.specs.Recovery.{IsActive, IsConfigured, NoneOpen, Recovers}
use Rattle.durable.proofs.Headed.{headed_open, recovers_once}
use Rattle.durable.proofs.Storable.{recovers_sound}
use Rattle.entries.proofs.Again.{restart-sound}
use Rattle.machine.specs.Machine.{after}
use Rattle.machine.specs.Noted.{IsResumed, lasting}
use Rattle.snapshot.specs.Store.{IsLastFormer}
use Rattle.gateway.proofs.Becoming.{active-back, configured-on, recovers-on, stays}
use Rattle.gateway.specs.Lives.{AllOpenedNone, BothMayBecome, GoesOnFrom, NextFinds, Life, Work, Course, OpenedNone, Stopped, Refused, Opened, LivesLead, LifeLeads, LifeLeaves, LivesLeave, OpeningKeeps, WorkGoes, CourseGoes, AreLives, IsAsModel, LivesAreTheModels, GoesOnAfterAStop, opened}
use Rattle.gateway.specs.Restarts.{RestartsKeepTheState}

module _ {D : Type 0} (honest : D → Type 0) (moment : D → ℕ) (left : D → ℕ → Files → Type 0) (seen : D → Files)
    (reads : (disk : D) → honest disk → left disk (moment disk) (seen disk)) (config : Config) (first : Durable) where
  -- the files stand for what these lives lead to
  abbrev pub Stand : List (Life D) → Files → Type 0
  Stand lives files = (d : Durable) × Recovers files d × IsConfigured config files × LivesLead config first lives d

  -- and so does whatever a crash leaves of this disk
  abbrev pub AllStand : List (Life D) → D → Type 0
  AllStand lives disk = (files : Files) → left disk (moment disk) files → Stand lives files

  -- what has become of files that stand for that stands for it too
  carried : (lives : List (Life D)) (before files : Files) → BothMayBecome before files → Stand lives before → Stand lives files
  carried lives before files may stood =
      (stood.0, recovers-on before files may stood.0 stood.1, configured-on config before files may stood.0 stood.1 stood.2, stood.3)

  -- what an opening leaves that came to no gateway
  kept-on : (earlier : List (Life D)) (entry disk : D) → AllStand earlier entry → OpeningKeeps honest moment left seen config entry disk
      → (files : Files) → left disk (moment entry) files → Stand earlier files
  kept-on earlier entry disk before keeps files since =
      let from = keeps.any_moment.each files since in
      let stood = before from.0 from.1 in
      (stood.0, (from.2 stood.0).0 stood.1, ((keeps.configured (λ fs now. (before fs now).2)).each files since).2, stood.3)

  -- a gateway began again from what the files stood for
  begun-again : (earlier : List (Life D)) (entry : D) (at : ℕ) (work : Work D) → honest entry → AllStand earlier entry → WorkGoes honest moment left seen config entry at work
      → (before : Durable) × LivesLead config first earlier before × IsResumed config before at work.start
  begun-again earlier entry at work is_honest before goes =
      let stood = before (seen entry) (reads entry is_honest) in
      let same = recovers_once.state (seen entry) goes.resumed.0 stood.0 goes.resumed.1 stood.1 in
      (stood.0, stood.3, subst (λ (d : Durable). IsResumed config d at work.start) same goes.resumed.2)

  -- what a life leaves
  lived-on : (earlier : List (Life D)) (entry : D) (at : ℕ) (course : Course D) → honest entry → AllStand earlier entry → CourseGoes honest moment left seen config entry at course
      → (files : Files) → LifeLeaves honest moment left seen config entry course files → Stand (record { disk = entry; opened_at = at; course = course } ∷ earlier) files
  lived-on earlier entry at (Stopped disk) is_honest before goes files since =
      let stood = kept-on earlier entry disk before goes files since in
      (stood.0, stood.1, stood.2, (stood.0, stood.3, refl))
  lived-on earlier entry at (Refused disk fault) is_honest before goes files since =
      let stood = kept-on earlier entry disk before goes.0 files since in
      (stood.0, stood.1, stood.2, (stood.0, stood.3, refl))
  lived-on earlier entry at (Opened work) is_honest before goes files since =
      let safe = goes.safe files since in
      let begun = begun-again earlier entry at work is_honest before goes in (
        lasting (after config work.start safe.judged),
        safe.recovers,
        goes.configured files since,
        (
          begun.0,
          begun.1,
          (
            begun.2,
            record { count = safe.count; answered = safe.answered; within = safe.within; judged = safe.judged; are_judged = safe.are_judged; is = refl },
          ),
        ),
      )

  -- whatever lives left
  pub all-stand : (lives : List (Life D)) (files : Files) → AreLives honest moment left seen config first lives → LivesLeave honest moment left seen config first lives files → Stand lives files
  all-stand [] files are was = (first, was.0, was.1, refl)
  all-stand (life ∷ earlier) files are was =
      lived-on earlier life.disk life.opened_at life.course are.0.0
      (λ fs now. let found = are.1 fs now in carried earlier found.0 fs found.2 (all-stand earlier found.0 are.2 found.1)) are.0.1 files was

  -- whatever is found after them
  pub found-stands : (lives : List (Life D)) (files : Files) → AreLives honest moment left seen config first lives → NextFinds honest moment left seen config first lives files → Stand lives files
  found-stands lives files are found = carried lives found.0 files found.2 (all-stand lives found.0 are found.1)

  -- the last generation of a former version was there before
  former-before : (before files : Files) (d : Durable) → BothMayBecome before files → Recovers before d → IsLastFormer config files → IsLastFormer config before
  former-before before files d may stood last = record {
    file = last.file;
    heading = last.heading;
    durable = last.durable;
    end = last.end;
    active = active-back before files may d stood last.file last.heading last.durable last.end last.active;
    former = last.former;
    configured = last.configured;
    last = last.last;
  }

  -- a life after these
  pub is-as-model : (earlier : List (Life D)) (entry : D) (at : ℕ) (course : Course D) → honest entry → AreLives honest moment left seen config first earlier
      → ((files : Files) → left entry (moment entry) files → NextFinds honest moment left seen config first earlier files)
      → CourseGoes honest moment left seen config entry at course → IsAsModel honest moment left seen config first earlier at course
  is-as-model earlier entry at (Stopped disk) is_honest are over goes = tt
  is-as-model earlier entry at (Refused disk fault) is_honest are over goes =
      let was = over (seen entry) (reads entry is_honest) in
      let stood = found-stands earlier (seen entry) are was in
      let before = all-stand earlier was.0 are was.1 in (
        λ is. goes.1.damaged is stood.0 stood.1,
        λ is. goes.1.differs is stood.2,
        λ is. (was.0, was.1, former-before was.0 (seen entry) before.0 was.2 before.1 (goes.1.generations is)),
      )
  is-as-model earlier entry at (Opened work) is_honest are over goes =
      let begun = begun-again earlier entry at work is_honest (λ fs now. found-stands earlier fs are (over fs now)) goes in
      let stood = found-stands earlier (seen entry) are (over (seen entry) (reads entry is_honest)) in
      let r = goes.resumed in (
        begun,
        goes.answered,
        (restart-sound config r.0 at work.start (recovers_sound.sound config (seen entry) r.0 stood.2 r.1) (recovers_sound.stilled (seen entry) r.0 r.1) r.2).0,
      )

  -- lives in which no gateway was opened lead to what was there before
  led-same : (at : ℕ) (course : Course D) (old new : Durable) → OpenedNone course → LifeLeads config at course old new → new ≡ old
  led-same at (Stopped disk) old new none led = led
  led-same at (Refused disk fault) old new none led = led
  led-same at (Opened work) old new none led = absurd none

  led-before : (between lives : List (Life D)) (d : Durable) → AllOpenedNone between → LivesLead config first (between ++ lives) d → LivesLead config first lives d
  led-before [] lives d none led = led
  led-before (life ∷ between) lives d none led =
      led-before between lives d none.1 (subst (LivesLead config first (between ++ lives)) (sym (led-same life.opened_at life.course led.0 d none.0 led.2)) led.1)

  led-first : (lives : List (Life D)) (d : Durable) → AllOpenedNone lives → LivesLead config first lives d → d ≡ first
  led-first [] d none led = led
  led-first (life ∷ lives) d none led = led-same life.opened_at life.course led.0 d none.0 led.2 ∙ led-first lives led.0 none.1 led.1

  pub begins-first : (entry : D) (at : ℕ) (one : Work D) (earlier : List (Life D)) → AllOpenedNone earlier
      → AreLives honest moment left seen config first (opened honest moment left seen config entry at one ∷ earlier) → IsResumed config first at one.start
  begins-first entry at one earlier none are =
      let is = is-as-model earlier entry at (Opened one) are.0.0 are.2 are.1 are.0.1 in
      subst (λ (d : Durable). IsResumed config d at one.start) (led-first earlier is.0.0 none is.0.1) is.0.2

  are-before : (between lives : List (Life D)) → AreLives honest moment left seen config first (between ++ lives) → AreLives honest moment left seen config first lives
  are-before [] lives are = are
  are-before (life ∷ between) lives are = are-before between lives are.2

  -- the next gateway
  pub goes-from : RestartsKeepTheState → (entry again : D) (at next : ℕ) (one two : Work D) (between earlier : List (Life D)) → AllOpenedNone between
      → AreLives honest moment left seen config first (opened honest moment left seen config again next two ∷ (between ++ (opened honest moment left seen config entry at one ∷ earlier)))
      → GoesOnFrom config one next two
  goes-from restarts entry again at next one two between earlier none are =
      let rest = opened honest moment left seen config entry at one ∷ earlier in
      let was = are-before between rest are.2 in
      let now = is-as-model (between ++ rest) again next (Opened two) are.0.0 are.2 are.1 are.0.1 in
      let before = is-as-model earlier entry at (Opened one) was.0.0 was.2 was.1 was.0.1 in
      let led = led-before between rest now.0.0 none now.0.1 in
      let is = restarts.after_a_life config one.start two.start one.events (length one.given) next now.0.0 was.0.1.valid before.2 led.2.1 now.0.2 in
      record { count = is.0; answered = is.1; within = is.2; judged = is.3; are_judged = is.4; is = is.5 }

-- nothing is stored yet
new-files : (config : Config) (files : Files) → NoneOpen files → Recovers files empty × IsConfigured config files
new-files config files none = (inl (none, refl), none-configured)
  where
    none-configured : IsConfigured config files
    none-configured A h d end active = absurd (none.0 (headed_open (files A) h active.0.headed))
    none-configured B h d end active = absurd (none.1 (headed_open (files B) h active.0.headed))

-- one file is active
found-files : (config : Config) (files : Files) (file : FileId) (h : Heading) (d : Durable) (end : ℕ) → IsActive files file h d end → h.config ≡ config
    → Recovers files d × IsConfigured config files
found-files config files file h d end active is = (
  inr (file, h, end, active),
  λ other k e place also. ap (λ (x : Heading). x.config) (recovers_once.active files other file k h e d place end also active).1 ∙ is,
)

pub lives-are : {D : Type 0} (honest : D → Type 0) (moment : D → ℕ) (left : D → ℕ → Files → Type 0) (seen : D → Files)
    → ((disk : D) → honest disk → left disk (moment disk) (seen disk)) → RestartsKeepTheState → (config : Config) → LivesAreTheModels honest moment left seen config
lives-are honest moment left seen reads restarts config = record {
  each = λ first life earlier are. is-as-model honest moment left seen reads config first earlier life.disk life.opened_at life.course are.0.0 are.2 are.1 are.0.1;
  begins = begins-first honest moment left seen reads config;
  goes_on = λ first. goes-from honest moment left seen reads config first restarts;
  as_left = λ first lives files was. (files, was, λ file. stays (files file));
  new = new-files config;
  found = found-files config;
  stood = λ first lives files are was. found-stands honest moment left seen reads config first lives files are was;
}

-- a stop between two lives
pub goes-on : {D : Type 0} (honest : D → Type 0) (moment : D → ℕ) (left : D → ℕ → Files → Type 0) (seen : D → Files)
    → ((disk : D) → honest disk → left disk (moment disk) (seen disk)) → RestartsKeepTheState → (config : Config) → GoesOnAfterAStop honest moment left seen config
goes-on honest moment left seen reads restarts config = λ entry again at next one two are.
    let all = lives-are honest moment left seen reads restarts config in
    let is = all.each empty (opened honest moment left seen config again next two) (opened honest moment left seen config entry at one ∷ []) are in
    let behind = is.0.1 in
    (subst (λ (d : Durable). IsResumed config d at one.start) behind.1 behind.2.0, (is.0.0, behind.2.1, is.0.2), all.goes_on empty entry again at next one two [] [] tt are, are.2.0.1.answered, are.0.1.answered)
