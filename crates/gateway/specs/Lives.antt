-- One life of a gateway after another, each opened over two files that the one before may have left.
use Rattle.std.specs.Prelude.{◌≡◌, ◌≢◌, ◌⊎◌, ◌≤◌, ℕ, List, [], ◌∷◌, ◌++◌, IsTrue, length, map, take}
use Rattle.packet.specs.Config.{Config, is_config}
use Rattle.sessions.specs.Stilled.{at_moment}
use Rattle.disk_model.specs.Disk.{Files, Leaves, LeavesNow, LeavesOnly}
use Rattle.disk_model.specs.declared.disk.FileId.{FileId}
use Rattle.durable.specs.Coding.{Heading}
use Rattle.durable.specs.Entering.{Durable, empty}
use Rattle.durable.specs.Recovery.{Alike, IsActive, IsConfigured, IsOpen, NoneOpen, Recovers}
use Rattle.machine.specs.Judged.{Judged, AreJudged}
use Rattle.machine.specs.Machine.{State, after, answers, numbered}
use Rattle.machine.specs.Noted.{IsResumed, lasting}
use Rattle.machine.specs.Sound.{IsSoundState}
use Rattle.machine.specs.declared.event.Answer.{Answer}
use Rattle.machine.specs.declared.event.Event.{Event}
use Rattle.snapshot.specs.Store.{IsLastFormer}
use Rattle.snapshot.specs.declared.fault.OpenFault.{OpenFault}
use Rattle.snapshot.specs.declared.fault.OpenFault.TheVariants as open_fault
use Rattle.gateway.specs.Kept.{IsSafe}

-- ---- lives

-- What a gateway did that was opened.
pub record Work (D : Type 0) : Type 0 where
  -- the state that it began with
  pub start : State
  -- the events that it took, as they are judged, and the answers that it had given out when it was stopped
  pub events : List Event
  pub judged : List Judged
  pub given : List (ℕ × Answer)
  -- It was stopped within a call, at a moment since this one, at which the call began; or between two calls, since the
  -- first of them ended. The disk is what the call would have ended with.
  pub since : ℕ
  pub disk : D

-- How a life went: it was stopped within its opening, which would have ended with this disk; its opening answered a
-- fault, and gave this disk back; or a gateway was opened.
pub data Course (D : Type 0) : Type 0 where
  Stopped : D → Course D
  Refused : D → OpenFault → Course D
  Opened : Work D → Course D

-- The disk and the moment that the opening was handed, and how it went.
pub record Life (D : Type 0) : Type 0 where
  pub disk : D
  pub opened_at : ℕ
  pub course : Course D

-- ---- what the model says of lives, the latest first

-- It is what must survive of the model's state after a beginning of these events, which holds the first n.
pub record MaySurvive (config : Config) (s : State) (events : List Event) (n : ℕ)
    (d : Durable) : Type 0 where
  pub count : ℕ
  pub answered : n ≤ count
  pub within : count ≤ length events
  pub judged : List Judged
  pub are_judged : AreJudged config (take count events) judged
  pub is : d ≡ lasting (after config s judged)

-- A life leads from what the files stood for to what they may stand for after it. That is the same if no gateway was
-- opened. Else the gateway began again from the one, and the other may survive of its events, if it holds each event
-- whose answer was given out.
abbrev pub LifeLeads : {D : Type 0} → Config → ℕ → Course D → Durable → Durable → Type 0
LifeLeads config opened_at (Stopped disk) old new = new ≡ old
LifeLeads config opened_at (Refused disk fault) old new = new ≡ old
LifeLeads config opened_at (Opened work) old new = IsResumed config old opened_at work.start
    × MaySurvive config work.start work.events (length work.given) new

-- the same text, rules and sessions, but that each session is as if its last packet had passed at this moment, which
-- the clock shows
abbrev pub again_at : ℕ → State → State
again_at moment s = record s { sessions = map (at_moment moment) s.sessions; clock = moment }

-- A gateway that was opened at this moment began with `again_at` of the state that the model had after some first of an
-- earlier one's events, which hold each event whose answer that one gave out.
pub record GoesOnFrom {D : Type 0} (config : Config) (one : Work D) (opened_at : ℕ)
    (next : Work D) : Type 0 where
  pub count : ℕ
  pub answered : length one.given ≤ count
  pub within : count ≤ length one.events
  pub judged : List Judged
  pub are_judged : AreJudged config (take count one.events) judged
  pub is : next.start ≡ again_at opened_at (after config one.start judged)

-- no gateway was opened in a life that went so
abbrev pub OpenedNone : {D : Type 0} → Course D → Type 0
OpenedNone (Stopped disk) = Unit {0}
OpenedNone (Refused disk fault) = Unit {0}
OpenedNone (Opened work) = ⊥

-- nor in any of these lives
abbrev pub AllOpenedNone : {D : Type 0} → List (Life D) → Type 0
AllOpenedNone [] = Unit {0}
AllOpenedNone (life ∷ earlier) = OpenedNone life.course × AllOpenedNone earlier

-- These lives lead from what the files stood for first to this, one after the other.
abbrev pub LivesLead : {D : Type 0} → Config → Durable → List (Life D) → Durable → Type 0
LivesLead config first [] d = d ≡ first
LivesLead config first (life ∷ earlier) d = (before : Durable)
    × LivesLead config first earlier before
    × LifeLeads config life.opened_at life.course before d

-- The answers given out are a beginning of the model's, numbered from 1, in order.
abbrev pub AnswersAsModel : {D : Type 0} → Config → Work D → Type 0
AnswersAsModel config work = AreJudged config work.events work.judged
    × ((more : List (ℕ × Answer))
    × (work.given ++ more ≡ numbered 0 (answers config work.start work.judged)))

-- ---- what may become of two files before they are opened again

-- What may become of a file's bytes: they are closed, and stay closed, whatever they are then; or they are open, and
-- stay, perhaps with more behind them. So an empty file may get zeros. `file_disk::laws::openings_keep_files` says in
-- the same words what an opening of files does to them, and `commands::laws::openings_find` joins both.
abbrev pub MayBecome : List ℕ → List ℕ → Type 0
MayBecome old new = ((¬ IsOpen old) × (¬ IsOpen new))
    ⊎ (IsOpen old × ((more : List ℕ) × (new ≡ old ++ more)))

-- the same of each of two files
abbrev pub BothMayBecome : Files → Files → Type 0
BothMayBecome old new = (file : FileId) → MayBecome (old file) (new file)

-- ---- what the clauses of the calls say of a life

module _ {D : Type 0} (honest : D → Type 0) (moment : D → ℕ) (left : D → ℕ → Files → Type 0)
    (seen : D → Files) (config : Config) where
  -- what a stop may leave of a life over this disk
  abbrev pub LifeLeaves : D → Course D → Files → Type 0
  LifeLeaves entry (Stopped disk) files = left disk (moment entry) files
  LifeLeaves entry (Refused disk fault) files = left disk (moment entry) files
  LifeLeaves entry (Opened work) files = left work.disk work.since files

  -- an opening, whatever it answers: `any_moment` and `configured` of `open`
  pub record OpeningKeeps (entry disk : D) : Type 0 where
    pub any_moment : Leaves moment left entry disk Alike
    pub configured : LeavesNow moment left entry (IsConfigured config)
        → LeavesOnly moment left entry disk (IsConfigured config)

  -- the fault that it answers: `damaged`, `differs` and `generations` of `open`
  pub record FaultHasCause (entry : D) (fault : OpenFault) : Type 0 where
    pub damaged : fault ≡ open_fault.Damaged → (d : Durable) → ¬ Recovers (seen entry) d
    pub differs : fault ≡ open_fault.ConfigDiffers → ¬ IsConfigured config (seen entry)
    pub generations : fault ≡ open_fault.Generations → IsLastFormer config (seen entry)

  -- the gateway that it gives: `ok` of `open`, and of the calls from then on `any_moment` or `ok`, and `configured`;
  -- `valid` says what `Bounds::facts` does
  pub record WorkGoes (entry : D) (opened_at : ℕ) (work : Work D) : Type 0 where
    pub valid : IsTrue (is_config config)
    pub resumed : (d : Durable) × Recovers (seen entry) d × IsResumed config d opened_at work.start
    pub answered : AnswersAsModel config work
    pub safe : (files : Files) → left work.disk work.since files
        → IsSafe config work.start work.events (length work.given) files
    pub configured : (files : Files) → left work.disk work.since files → IsConfigured config files

  abbrev pub CourseGoes : D → ℕ → Course D → Type 0
  CourseGoes entry opened_at (Stopped disk) = OpeningKeeps entry disk
  CourseGoes entry opened_at (Refused disk fault) = OpeningKeeps entry disk
      × FaultHasCause entry fault
  CourseGoes entry opened_at (Opened work) = WorkGoes entry opened_at work

  -- It is over an honest disk, and went as the clauses say. That the calls make such lives, `specs/Living` says.
  abbrev pub IsLife : Life D → Type 0
  IsLife life = honest life.disk × CourseGoes life.disk life.opened_at life.course

  -- What these lives may have left. Before the first the files stood for `first`, with the configuration.
  abbrev pub LivesLeave : Durable → List (Life D) → Files → Type 0
  LivesLeave first [] files = Recovers files first × IsConfigured config files
  LivesLeave first (life ∷ earlier) files = LifeLeaves life.disk life.course files

  -- What the next opening may find after these lives: what they may have left, or what may have become of that.
  abbrev pub NextFinds : Durable → List (Life D) → Files → Type 0
  NextFinds first lives files = (before : Files) × LivesLeave first lives before
      × BothMayBecome before files

  -- Each was opened over a disk of which a crash leaves only what it may find after the lives before it.
  abbrev pub AreLives : Durable → List (Life D) → Type 0
  AreLives first [] = Unit {0}
  AreLives first (life ∷ earlier) = IsLife life
      × LeavesNow moment left life.disk (NextFinds first earlier) × AreLives first earlier

  -- After the earlier lives, this is what the model says: an opening tells no damage and no other configuration, and a
  -- gateway begins again from what the earlier lives lead to, with a sound state, and answers as the model.
  -- `Generations` is told only if they may have left files of a former version that have come to the last generation.
  abbrev pub IsAsModel : Durable → List (Life D) → ℕ → Course D → Type 0
  IsAsModel first earlier opened_at (Stopped disk) = Unit {0}
  IsAsModel first earlier opened_at (Refused disk fault) =
      (fault ≢ open_fault.Damaged) × (fault ≢ open_fault.ConfigDiffers)
      × (fault ≡ open_fault.Generations → (files : Files) × LivesLeave first earlier files
      × IsLastFormer config files)
  IsAsModel first earlier opened_at (Opened work) = ((before : Durable)
      × LivesLead config first earlier before × IsResumed config before opened_at work.start)
      × AnswersAsModel config work
      × IsSoundState config work.start

  -- a life in which a gateway was opened
  abbrev pub opened : D → ℕ → Work D → Life D
  opened entry opened_at work = record {
    disk = entry;
    opened_at = opened_at;
    course = Opened work;
  }

  -- ---- the theorem

  -- Of any lives, the latest first, with one configuration: each is as the model says after the earlier ones; each
  -- gateway goes on from the one before; and whatever the next opening may find stands for what they lead to.
  pub record LivesAreTheModels : Type 0 where
    pub each : (first : Durable) (life : Life D) (earlier : List (Life D))
        → AreLives first (life ∷ earlier)
        → IsAsModel first earlier life.opened_at life.course
    -- the first one begins with what the files stood for; between two, openings may have been stopped or refused
    pub begins : (first : Durable) (entry : D) (at : ℕ) (one : Work D) (earlier : List (Life D))
        → AllOpenedNone earlier → AreLives first (opened entry at one ∷ earlier)
        → IsResumed config first at one.start
    pub goes_on : (first : Durable) (entry again : D) (at next : ℕ) (one two : Work D)
        (between earlier : List (Life D)) → AllOpenedNone between
        → AreLives first (opened again next two ∷ (between ++ (opened entry at one ∷ earlier)))
        → GoesOnFrom config one next two
    pub stood : (first : Durable) (lives : List (Life D)) (files : Files) → AreLives first lives
        → NextFinds first lives files
        → (d : Durable) × Recovers files d × IsConfigured config files
        × LivesLead config first lives d
    -- what lives left may be found as it is
    pub as_left : (first : Durable) (lives : List (Life D)) (files : Files)
        → LivesLeave first lives files → NextFinds first lives files
    -- over files of which none is open, empty ones too, the first life begins with no text and no session
    pub new : (files : Files) → NoneOpen files → LivesLeave empty [] files
    -- over an active file of this configuration, whatever its version, with what it holds
    pub found : (files : Files) (file : FileId) (h : Heading) (d : Durable) (end : ℕ)
        → IsActive files file h d end → h.config ≡ config → LivesLeave d [] files

  -- The plainest case: a gateway is opened over files of which none is open, is stopped, and is opened again. It begins
  -- again from what may survive, which holds each event whose answer was given out, and so goes on from the first. Both
  -- answer as the model.
  abbrev pub GoesOnAfterAStop : Type 0
  GoesOnAfterAStop = (entry again : D) (at next : ℕ) (one two : Work D)
      → AreLives empty (opened again next two ∷ opened entry at one ∷ [])
      → IsResumed config empty at one.start
      × ((d : Durable) × MaySurvive config one.start one.events (length one.given) d
      × IsResumed config d next two.start)
      × GoesOnFrom config one next two × AnswersAsModel config one × AnswersAsModel config two
